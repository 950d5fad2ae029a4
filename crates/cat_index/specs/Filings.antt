-- What a row has in a catalogue index: its words, and the values by which the entries of each sub-index are in order.
use Rattle.std.specs.Prelude.{ℕ, ◌≡◌, ◌==◌, ◌≤◌, ◌^◌, zero, suc, nat_le, Bool, true, false, ◌&&◌, List, [], ◌∷◌, length, map, Option, Some, None, pos, codes, refl}
use Rattle.std.specs.Bool.{if◌then◌else◌}
use Rattle.std.specs.List.{filter_map, flat_map}
use Rattle.std.specs.Str.{chars}
use Rattle.std.specs.FinMap as fin
use Rattle.std.specs.FinMap.{FinMap, insert, put, entries-insert}
use Rattle.std.specs.Ordering.{nat_cmp}
use Rattle.std.specs.Cmp.Lexicographic.{slice_cmp}
use Rattle.std.proofs.Common.{ap, ◌∙◌}
use Rattle.std.proofs.lemmas.Cmp.{nat_list_cmp_total}
use lib.Utf8.{encode}
use Rattle.ucd_category.proofs.Computing.{ucd_category}
use Rattle.caseless.proofs.Computing.{caseless}
use Rattle.ct_base.specs.declared.lists.Value.{Value}
use Rattle.ct_base.specs.declared.lists.Value.TheVariants.{Number, Text}
use Rattle.ct_base.specs.declared.numbers.Pair.{Pair}
use Rattle.ct_bytes.specs.RowKeys.{row_bytes}
use Rattle.ct_entry.specs.Keys.{same_list, counted_bytes}
use Rattle.ct_entry.specs.Each.{is_any_of}
use Rattle.ct_entry.specs.laws.Maps.{entries-none}
use Rattle.tx_chars.specs.Keys.{key_text}
use Rattle.tx_settings.specs.declared.preferences.Prefs.{Prefs}
use Rattle.tx_settings.specs.Defaults.{default_prefs}
use Rattle.tx_sets.specs.Sets.{sub_column_limit}
use Rattle.tx_document.specs.declared.entries.Entry.{Entry}
use Rattle.tx_document.specs.Documents.{document, pair}
use Rattle.tx_document.specs.Entries.{entries, entry_of}
use Rattle.cat_index.specs.declared.filings.Filing.{Filing}

-- ---- words

-- the keys that stand in the main stream, each once, in the order of their bytes
abbrev pub main_words : List Entry → List (List ℕ)
main_words es = filter_map (λ e. if e.stream == 0 then Some e.token else None) es

-- those of a text that is read so; none where there is no text
abbrev pub text_words : Prefs → Option (List ℕ) → List (List ℕ)
text_words p None = []
text_words p (Some text) = main_words (entries (document p (chars text)))

-- a text of at most 2^19 bytes, as all texts of tables are, or none
abbrev pub IsShortOrNone : Option (List ℕ) → Type 0
IsShortOrNone None = Unit {0}
IsShortOrNone (Some text) = length text ≤ 2 ^ 19

-- ---- values

-- how many bytes a text in a column of a sub-index has at most
abbrev pub sub_text_limit : ℕ
sub_text_limit = 100

-- A value as it stands in a key: a number as row keys stand, a text after its length. No row lacks one, and no text in such a column is longer
-- than the limit; for bytes all the same, the first counts as 0 and the second as the empty text.
abbrev pub value_bytes : Option Value → List ℕ
value_bytes None = row_bytes (pos 0)
value_bytes (Some (Number n)) = row_bytes n
value_bytes (Some (Text text)) = counted_bytes (if nat_le (length text) sub_text_limit then text else [])

-- whether these are as many as a sub-index has columns: one to three
abbrev pub fit_sub_index : {X : Type 0} → List X → Bool
fit_sub_index xs = nat_le 1 (length xs) && nat_le (length xs) sub_column_limit

-- WHAT A ROW HAS with this text, and with these values in the columns of each sub-index from the first on. The plain sub-index, which has the number 0,
-- has the words alone.
abbrev pub filing_by : Prefs → Option (List ℕ) → List (List (Option Value)) → Filing
filing_by p text values = record { words = text_words p text; values = [] ∷ map (flat_map value_bytes) values }

abbrev pub no_filing : Filing
no_filing = record { words = []; values = [] }

-- ---- which entries it has

-- the element at this place, counted from 0
abbrev pub at_place : {X : Type 0} → ℕ → List X → Option X
at_place n [] = None
at_place zero (x ∷ xs) = Some x
at_place (suc n) (x ∷ xs) = at_place n xs

abbrev pub is_just : List ℕ → Option (List ℕ) → Bool
is_just values None = false
is_just values (Some v) = same_list values v

-- whether it has an entry in the sub-index of this number, under this word, with these values
abbrev pub is_filed : Filing → ℕ → List ℕ → List ℕ → Bool
is_filed w sub word values = is_any_of word w.words && is_just values (at_place sub w.values)

-- ---- computed examples

-- each word once
with_places : (m : FinMap (slice_cmp nat_cmp) (List Pair)) (name : List ℕ) (places : List Pair) (es : List (List ℕ × List Pair)) → fin.entries m ≡ es → fin.entries (insert m name places) ≡ put (slice_cmp nat_cmp) name places es
with_places m name places es are = entries-insert nat_list_cmp_total m name places ∙ ap (put (slice_cmp nat_cmp) name places) are

pub red_and_blue : text_words default_prefs (Some (codes "Red blue red")) ≡ codes "blue" ∷ codes "red" ∷ []
unfolding encode chars caseless ucd_category key_text
red_and_blue = ap (λ (es : List (List ℕ × List Pair)). main_words (map entry_of es))
    (with_places _ (0 ∷ codes "red") (pair 1 1 ∷ pair 3 3 ∷ []) _
    (with_places _ (0 ∷ codes "blue") (pair 2 2 ∷ []) _
    (with_places _ (0 ∷ codes "red") (pair 1 1 ∷ pair 3 3 ∷ []) _ (entries-none (slice_cmp nat_cmp)))))

-- a price of 3 is less than one of 10, and so are the bytes
a_price : value_bytes (Some (Number (pos 3))) ≡ 0x80 ∷ 0 ∷ 0 ∷ 0 ∷ 0 ∷ 0 ∷ 0 ∷ 3 ∷ []
unfolding row_bytes
a_price = refl

a_colour : value_bytes (Some (Text (codes "red"))) ≡ 3 ∷ codes "red"
a_colour = refl

abbrev a_filing : Filing
a_filing = record { words = codes "blue" ∷ codes "red" ∷ []; values = [] ∷ (3 ∷ codes "hat") ∷ [] }

in_the_plain_one : is_filed a_filing 0 (codes "red") [] ≡ true
in_the_plain_one = refl

in_the_first : is_filed a_filing 1 (codes "blue") (3 ∷ codes "hat") ≡ true
in_the_first = refl

with_another_value : is_filed a_filing 1 (codes "blue") (3 ∷ codes "car") ≡ false
with_another_value = refl

under_another_word : is_filed a_filing 0 (codes "hat") [] ≡ false
under_another_word = refl

in_no_second : is_filed a_filing 2 (codes "red") [] ≡ false
in_no_second = refl
