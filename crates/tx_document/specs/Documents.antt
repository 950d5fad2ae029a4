-- What a document is under some preferences: its words with their streams, and the instances of its sections.
use Rattle.std.specs.Prelude.{ℕ, ◌≡◌, ◌+◌, ◌-◌, Bool, true, false, ◌&&◌, nat_le, nat_lt, List, [], ◌∷◌, ◌++◌, length, Option, Some, None, codes, refl}
use Rattle.std.specs.Bool.{if◌then◌else◌}
use Rattle.std.specs.List.{list_any, flat_map, insert}
use Rattle.std.specs.Str.{encode_utf8_all}
use Rattle.std.specs.Ordering.{nat_cmp, ordering_then, is_lt, is_eq}
use Rattle.std.specs.declared.cmp.Ordering.{Ordering}
use Rattle.std.specs.Cmp.Lexicographic.{slice_cmp}
use lib.Utf8.{encode}
use Rattle.ucd_category.proofs.Computing.{ucd_category}
use Rattle.caseless.proofs.Computing.{caseless}
use Rattle.ct_base.specs.declared.numbers.Pair.{Pair}
use Rattle.tx_chars.specs.Keys.{key_text}
use Rattle.tx_lexer.specs.declared.tokens.Token.{Token}
use Rattle.tx_lexer.specs.Tokens.{tokens, rules}
use Rattle.tx_stop.specs.StopKeys.{is_stop}
use Rattle.tx_tags.specs.declared.groups.SectionKind.{SectionKind}
use Rattle.tx_tags.specs.declared.groups.SectionKind.TheVariants.{Field, VisibleField}
use Rattle.tx_tags.specs.declared.groups.Section.{Section}
use Rattle.tx_tags.specs.declared.tags.TagView.{TagView}
use Rattle.tx_tags.specs.declared.pairing.Span.{Span}
use Rattle.tx_tags.specs.Groups.{SectionGroup, is_zone, is_field, no_sections, zones}
use Rattle.tx_tags.specs.Tags.{tags_in, blanked}
use Rattle.tx_tags.specs.Pairs.{spans_from}
use Rattle.tx_settings.specs.declared.preferences.Prefs.{Prefs}
use Rattle.tx_settings.specs.Defaults.{default_prefs, plain}
use Rattle.tx_document.specs.declared.endings.Ending.{Ending}
use Rattle.tx_document.specs.declared.endings.Ending.TheVariants.{Sentence, Paragraph}
use Rattle.tx_document.specs.declared.views.WordView.{WordView}
use Rattle.tx_document.specs.declared.views.SectionView.{SectionView}
use Rattle.tx_document.specs.declared.views.DocView.{DocView}

-- ---- where sections stand

-- a section with the spans of the text that its tags enclose
pub record Extent : Type 0 where
  pub section : List ℕ
  pub kind : SectionKind
  pub spans : List Span

-- of the sections of a group, of which the first has its tags from the number `k` on, in a text with these tags that ends at `end`
abbrev pub extents_from : List TagView → ℕ → ℕ → List Section → List Extent
extents_from tags end k [] = []
extents_from tags end k (s ∷ ss) = record { section = s.name; kind = s.kind; spans = spans_from tags end k s.tags } ∷ extents_from tags end (k + length s.tags) ss

abbrev pub extents : List TagView → ℕ → List Section → List Extent
extents tags end ss = extents_from tags end 0 ss

-- whether a token stands in a span, and in one of some
abbrev pub is_inside : Token → Span → Bool
is_inside t s = nat_le s.start t.start && nat_le t.end s.end

abbrev pub is_in : Token → List Span → Bool
is_in t spans = list_any (is_inside t) spans

-- ---- words

-- A token is hidden from the main stream where an invisible field has it.
abbrev pub hides : SectionKind → Bool
hides Field = true
hides kind = false

abbrev pub is_hidden : Token → List Extent → Bool
is_hidden t es = list_any (λ (e : Extent). hides e.kind && is_in t e.spans) es

-- the streams of the fields that have a token, where the first field is the stream `n`
abbrev pub field_streams : Token → ℕ → List Extent → List ℕ
field_streams t n [] = []
field_streams t n (e ∷ es) =
    if is_field e.kind then (if is_in t e.spans then n ∷ [] else []) ++ field_streams t (n + 1) es
    else field_streams t n es

-- the streams of a token: the main one, which is 0, unless it is hidden, and those of the fields
abbrev pub streams_of : Token → List Extent → List ℕ
streams_of t es = (if is_hidden t es then [] else 0 ∷ []) ++ field_streams t 1 es

-- a stopword keeps its position and has no key
abbrev pub key_unless_stop : List (List ℕ) → List ℕ → Option (List ℕ)
key_unless_stop stop key = if is_stop stop key then None else Some key

abbrev pub word_of : List (List ℕ) → List Extent → ℕ → Token → WordView
word_of stop es position t = record {
  position = position;
  key = key_unless_stop stop t.key;
  streams = streams_of t es;
  start = t.start;
  end = t.end;
}

-- the words that tokens are, the first at this position
abbrev pub words_from : List (List ℕ) → List Extent → ℕ → List Token → List WordView
words_from stop es position [] = []
words_from stop es position (t ∷ ts) = word_of stop es position t ∷ words_from stop es (position + 1) ts

-- ---- instances of sections

abbrev pub pair : ℕ → ℕ → Pair
pair first last = record { first = first; last = last }

abbrev pub instance : List ℕ → ℕ → ℕ → SectionView
instance section first last = record { section = section; first = first; last = last }

-- the positions of the tokens that stand in a span
abbrev pub positions_in : Span → ℕ → List Token → List ℕ
positions_in s position [] = []
positions_in s position (t ∷ ts) = (if is_inside t s then position ∷ [] else []) ++ positions_in s (position + 1) ts

-- from the first of these positions to the last, if there is one
abbrev pub last_of : ℕ → List ℕ → ℕ
last_of p [] = p
last_of p (q ∷ qs) = last_of q qs

abbrev pub reach_of : List ℕ → Option Pair
reach_of [] = None
reach_of (p ∷ ps) = Some (pair p (last_of p ps))

-- an instance without words is none
abbrev pub instance_of : List ℕ → Option Pair → List SectionView
instance_of section None = []
instance_of section (Some r) = instance section r.first r.last ∷ []

abbrev pub zone_instances : List Token → Extent → List SectionView
zone_instances ts e = if is_zone e.kind then flat_map (λ (span : Span). instance_of e.section (reach_of (positions_in span 1 ts))) e.spans else []

-- whether a token ends such a run, and the section that these runs are
abbrev pub ends : Ending → Token → Bool
ends Sentence t = t.ends_sentence
ends Paragraph t = t.ends_paragraph

abbrev pub section_name : Ending → List ℕ
section_name Sentence = codes "sentence"
section_name Paragraph = codes "paragraph"

-- the runs of tokens up to and with one that ends them, and a last one; the first token of the run stands at `first`, the next one at `position`
abbrev pub runs_from : Ending → ℕ → ℕ → List Token → List SectionView
runs_from ending first position [] = if nat_lt first position then instance (section_name ending) first (position - 1) ∷ [] else []
runs_from ending first position (t ∷ ts) =
    if ends ending t then instance (section_name ending) first position ∷ runs_from ending (position + 1) (position + 1) ts
    else runs_from ending first (position + 1) ts

abbrev pub runs_if : Bool → Ending → List Token → List SectionView
runs_if is_asked ending ts = if is_asked then runs_from ending 1 1 ts else []

-- all instances: those of zones, sentences and paragraphs
abbrev pub instances : SectionGroup → List Extent → List Token → List SectionView
instances g es ts = flat_map (zone_instances ts) es ++ (runs_if g.sentence Sentence ts ++ runs_if g.paragraph Paragraph ts)

-- the order of instances: by the bytes of the section's name, the first position, the last one
abbrev pub section_cmp : SectionView → SectionView → Ordering
section_cmp a b = ordering_then (slice_cmp nat_cmp a.section b.section) (ordering_then (nat_cmp a.first b.first) (nat_cmp a.last b.last))

-- whether it is one of them
abbrev pub has_instance : SectionView → List SectionView → Bool
has_instance i is = list_any (λ (j : SectionView). is_eq (section_cmp j i)) is

-- how many of them at the beginning are less
abbrev pub instance_place : SectionView → List SectionView → ℕ
instance_place i [] = 0
instance_place i (j ∷ js) = if is_lt (section_cmp j i) then instance_place i js + 1 else 0

-- the rising list with one more, each once
abbrev pub with_instance : SectionView → List SectionView → List SectionView
with_instance i is = if has_instance i is then is else insert is (instance_place i is) i

-- these instances in rising order, equal ones once
abbrev pub rising : List SectionView → List SectionView
rising [] = []
rising (i ∷ is) = with_instance i (rising is)

-- ---- the document

abbrev pub document_by : Prefs → List Extent → List Token → DocView
document_by p es ts = record { words = words_from p.stop es 1 ts; sections = rising (instances p.group es ts) }

-- THE DOCUMENT that the characters of a text are: its tags say where sections stand, and the text without them has the tokens.
abbrev pub document : Prefs → List ℕ → DocView
document p text = document_by p (extents (tags_in p.group text) (length (encode_utf8_all text)) p.group.sections) (tokens (rules p.lexer) (blanked p.group text))

-- ---- computed examples

abbrev word : ℕ → List ℕ → List ℕ → ℕ → ℕ → WordView
word position key streams start end = record { position = position; key = Some key; streams = streams; start = start; end = end }

-- zones p and q, and the invisible field t
in_tags : document (plain zones) (codes "<T>alpha</T> <Q>one <P>beta</P></Q>") ≡ record {
  words = word 1 (codes "alpha") (1 ∷ []) 3 8 ∷ word 2 (codes "one") (0 ∷ []) 16 19 ∷ word 3 (codes "beta") (0 ∷ []) 23 27 ∷ [];
  sections = instance (codes "p") 3 3 ∷ instance (codes "q") 2 3 ∷ [];
}
unfolding encode caseless ucd_category key_text
in_tags = refl

-- `is` is a stopword: it keeps its position
with_a_stopword : document (record default_prefs { stop = codes "is" ∷ [] }) (codes "Jack is big") ≡ record {
  words = word 1 (codes "jack") (0 ∷ []) 0 4 ∷ record { position = 2; key = None; streams = 0 ∷ []; start = 5; end = 7 } ∷ word 3 (codes "big") (0 ∷ []) 8 11 ∷ [];
  sections = [];
}
unfolding encode caseless ucd_category key_text
with_a_stopword = refl

abbrev pub sentences : SectionGroup
sentences = record no_sections { sentence = true }

abbrev sections_of : SectionGroup → List ℕ → List SectionView
sections_of g text = (document (plain g) text).sections

two_sentences : sections_of sentences (codes "a. b") ≡ instance (codes "sentence") 1 1 ∷ instance (codes "sentence") 2 2 ∷ []
unfolding encode caseless ucd_category key_text
two_sentences = refl

one_sentence : sections_of sentences (codes "a b.") ≡ instance (codes "sentence") 1 2 ∷ []
unfolding encode caseless ucd_category key_text
one_sentence = refl

-- equal instances count once, and one without words is none
once : sections_of zones (codes "<P><P>a</P></P><Q></Q>") ≡ instance (codes "p") 1 1 ∷ []
unfolding encode caseless ucd_category key_text
once = refl

-- the visible field `name` with two tags, each closed by its own, and the field `brand`; a tag that is never closed holds up to the end of the text
abbrev name_and_brand : SectionGroup
name_and_brand = record no_sections {
  is_null = false;
  sections = record { name = codes "name"; kind = VisibleField; tags = codes "n" ∷ codes "h1" ∷ [] } ∷ record { name = codes "brand"; kind = Field; tags = codes "b" ∷ [] } ∷ [];
}

in_two_fields : document (plain name_and_brand) (codes "<n>red</n> <h1>lamp <b>acme") ≡ record {
  words = word 1 (codes "red") (0 ∷ 1 ∷ []) 3 6 ∷ word 2 (codes "lamp") (0 ∷ 1 ∷ []) 15 19 ∷ word 3 (codes "acme") (1 ∷ 2 ∷ []) 23 27 ∷ [];
  sections = [];
}
unfolding encode caseless ucd_category key_text
in_two_fields = refl

-- for the lexer a tag is white space, so a mark before a tag ends a sentence
a_mark_before_a_tag : sections_of (record zones { sentence = true }) (codes "a.<p>b</p>") ≡ instance (codes "p") 2 2 ∷ instance (codes "sentence") 1 1 ∷ instance (codes "sentence") 2 2 ∷ []
unfolding encode caseless ucd_category key_text
a_mark_before_a_tag = refl

two_paragraphs : sections_of (record no_sections { paragraph = true }) (codes "a.\n\nb c") ≡ instance (codes "paragraph") 1 1 ∷ instance (codes "paragraph") 2 3 ∷ []
unfolding encode caseless ucd_category key_text
two_paragraphs = refl
