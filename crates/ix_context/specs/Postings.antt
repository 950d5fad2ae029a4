-- What a text has for an index: the words of each stream, and the sections, with where they stand.
use Rattle.std.specs.Prelude.{ℕ, ◌≡◌, ◌==◌, ◌≤◌, ◌<◌, ◌^◌, Bool, true, false, nat_le, List, [], ◌∷◌, length, map, Option, Some, None, codes, refl}
use Rattle.std.specs.Bool.{if◌then◌else◌}
use Rattle.std.specs.List.{filter_map}
use Rattle.std.specs.Str.{chars}
use Rattle.std.specs.Ordering.{nat_cmp}
use Rattle.std.specs.Cmp.Lexicographic.{slice_cmp}
use Rattle.std.specs.FinMap as fin
use Rattle.std.specs.FinMap.{FinMap, insert, put, entries-insert}
use Rattle.std.proofs.Common.{ap, ◌∙◌}
use Rattle.std.proofs.lemmas.Cmp.{nat_list_cmp_total}
use lib.Utf8.{encode}
use Rattle.ucd_category.proofs.Computing.{ucd_category}
use Rattle.caseless.proofs.Computing.{caseless}
use Rattle.ct_base.specs.Limits.{stream_limit}
use Rattle.ct_base.specs.Names.{IsName}
use Rattle.ct_base.specs.declared.numbers.Pair.{Pair}
use Rattle.ct_entry.specs.Keys.{IsToken}
use Rattle.ct_entry.specs.laws.Maps.{entries-none}
use Rattle.tx_chars.specs.Keys.{key_text}
use Rattle.tx_tags.specs.Groups.{zones}
use Rattle.tx_settings.specs.declared.preferences.Prefs.{Prefs}
use Rattle.tx_document.specs.declared.views.DocView.{DocView}
use Rattle.tx_document.specs.declared.entries.Entry.{Entry}
use Rattle.tx_settings.specs.Defaults.{default_prefs, plain}
use Rattle.tx_document.specs.Documents.{document, pair}
use Rattle.tx_document.specs.Entries.{DocumentPlace, section_stream, places_of, entry, entry_of, entries}
use Rattle.ix_posting.specs.Forms.{Rise, PlacesRise, pair_form, no_pair}
use Rattle.ix_rows.specs.WordRows.{word_term}
use Rattle.ix_rows.specs.Firsts.{first_positions}
use Rattle.ix_rows.specs.SpanRows.{section_term}

-- ---- texts as documents

abbrev pub text_document : Prefs → List ℕ → DocView
text_document p text = document p (chars text)

-- where its words and sections stand
abbrev pub places_in_text : Prefs → List ℕ → List DocumentPlace
places_in_text p text = places_of (text_document p text)

-- ---- its entries as terms

-- one for each key of each stream, and for each section, in the order of stream and token
abbrev pub text_entries : Prefs → List ℕ → List Entry
text_entries p text = entries (text_document p text)

-- a section, or a key of a stream
abbrev pub is_section_entry : Entry → Bool
is_section_entry e = e.stream == section_stream

-- the term of a key of a stream, with its positions
abbrev pub word_in : Entry → Option (List ℕ × List ℕ)
word_in e = if is_section_entry e then None else Some (word_term e.stream e.token, first_positions e.places)

-- the term of a section, with its pairs
abbrev pub section_in : Entry → Option (List ℕ × List Pair)
section_in e = if is_section_entry e then Some (section_term e.token, e.places) else None

abbrev pub word_terms : List Entry → List (List ℕ × List ℕ)
word_terms es = filter_map word_in es

abbrev pub section_terms : List Entry → List (List ℕ × List Pair)
section_terms es = filter_map section_in es

-- ---- what rows of postings need of an entry

pub record IsWord (e : Entry) : Type 0 where
  pub stream : e.stream ≤ stream_limit
  pub token : IsToken e.token
  pub some : 1 ≤ length e.places
  pub rise : Rise 0 (first_positions e.places)

pub record IsSection (e : Entry) : Type 0 where
  pub named : IsName e.token
  pub some : 1 ≤ length e.places
  pub few : length e.places < 2 ^ 32
  pub rise : PlacesRise pair_form no_pair e.places

abbrev pub IsSectionOrWord : Bool → Entry → Type 0
IsSectionOrWord true e = IsSection e
IsSectionOrWord false e = IsWord e

abbrev pub IsPosting : Entry → Type 0
IsPosting e = IsSectionOrWord (is_section_entry e) e

-- ---- short texts

-- A text that is indexed has at most so many bytes: then each of its entries makes a row of postings that a keeper takes.
abbrev pub indexed_text_limit : ℕ
indexed_text_limit = 2 ^ 19

-- a text of at most so many bytes, or none
abbrev pub IsShortOrNone : Option (List ℕ) → Type 0
IsShortOrNone None = Unit {0}
IsShortOrNone (Some text) = length text ≤ indexed_text_limit

-- the text, if it is one
abbrev pub if_short : Option (List ℕ) → Option (List ℕ)
if_short None = None
if_short (Some text) = if nat_le (length text) indexed_text_limit then Some text else None

-- ---- computed examples

-- the field t is invisible: what it encloses is in the stream of the field, and not in the main stream; and the zones p and q are sections
abbrev with_tags : List ℕ
with_tags = codes "<T>alpha</T> <Q>one <P>beta</P></Q>"

its_places : places_in_text (plain zones) with_tags
    ≡ (1 ∷ codes "alpha", pair 1 1) ∷ (0 ∷ codes "one", pair 2 2) ∷ (0 ∷ codes "beta", pair 3 3) ∷ (255 ∷ codes "p", pair 3 3) ∷ (255 ∷ codes "q", pair 2 3) ∷ []
unfolding encode chars caseless ucd_category key_text
its_places = refl

-- a key of the field, and a section
abbrev two_entries : List Entry
two_entries = entry 1 (codes "alpha") (pair 1 1 ∷ pair 4 4 ∷ []) ∷ entry 255 (codes "q") (pair 2 3 ∷ []) ∷ []

its_word : word_terms two_entries ≡ (1 ∷ 5 ∷ codes "alpha", 1 ∷ 4 ∷ []) ∷ []
its_word = refl

its_section : section_terms two_entries ≡ (1 ∷ codes "q", pair 2 3 ∷ []) ∷ []
its_section = refl

-- each key once, in the order of the bytes
with_places : (m : FinMap (slice_cmp nat_cmp) (List Pair)) (name : List ℕ) (places : List Pair) (es : List (List ℕ × List Pair)) → fin.entries m ≡ es → fin.entries (insert m name places) ≡ put (slice_cmp nat_cmp) name places es
with_places m name places es are = entries-insert nat_list_cmp_total m name places ∙ ap (put (slice_cmp nat_cmp) name places) are

pub fox_and_quick : text_entries default_prefs (codes "quick fox quick") ≡ entry 0 (codes "fox") (pair 2 2 ∷ []) ∷ entry 0 (codes "quick") (pair 1 1 ∷ pair 3 3 ∷ []) ∷ []
unfolding encode chars caseless ucd_category key_text
fox_and_quick = ap (map entry_of)
    (with_places _ (0 ∷ codes "quick") (pair 1 1 ∷ pair 3 3 ∷ []) _
    (with_places _ (0 ∷ codes "fox") (pair 2 2 ∷ []) _
    (with_places _ (0 ∷ codes "quick") (pair 1 1 ∷ pair 3 3 ∷ []) _ (entries-none (slice_cmp nat_cmp)))))
