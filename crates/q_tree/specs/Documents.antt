-- The postings of a document, by its words and by its entries; and where phrases occur among its words.
use Rattle.std.specs.Prelude.{ℕ, ◌≡◌, ◌+◌, ◌<◌, ◌≤◌, eqb, nat_lt, nat_le, bytes_eq, Bool, true, false, ◌&&◌, List, [], ◌∷◌, length, map, filter, Option, Some, None, codes, refl}
use Rattle.std.specs.Bool.{if◌then◌else◌}
use Rattle.std.specs.List.{flat_map, list_any}
use Rattle.std.specs.Str.{chars}
use lib.Utf8.{encode}
use Rattle.ct_base.specs.Limits.{stream_limit}
use Rattle.ct_base.specs.declared.numbers.Pair.{Pair}
use Rattle.ix_spans.specs.Occurrences.{has_number}
use Rattle.q_tree.specs.declared.flats.Slot.{Slot}
use Rattle.q_tree.specs.declared.flats.Slot.TheVariants.{Any, Takes}
use Rattle.q_tree.specs.Slots.{takes}
use Rattle.q_tree.specs.Scores.{DocPostings}

-- ---- by its words

-- A word of a document: its position from 1 on, its key, which a stopword doesn't have, and the streams that it is in.
pub record DocWord : Type 0 where
  pub position : ℕ
  pub key : Option (List ℕ)
  pub streams : List ℕ

-- An instance of a section: the positions of its first and last words.
pub record DocSection : Type 0 where
  pub name : List ℕ
  pub pair : Pair

abbrev pub is_in_stream : ℕ → DocWord → Bool
is_in_stream stream w = list_any (λ s. eqb s stream) w.streams

abbrev pub takes_word : Slot → Option (List ℕ) → Bool
takes_word slot None = false
takes_word slot (Some key) = takes slot key

-- the word is in the stream, and has a key that the slot takes
abbrev pub fits_word : ℕ → Slot → DocWord → Bool
fits_word stream slot w = is_in_stream stream w && takes_word slot w.key

abbrev pub word_positions : ℕ → Slot → List DocWord → List ℕ
word_positions stream slot ws = map (λ (w : DocWord). w.position) (filter (fits_word stream slot) ws)

abbrev pub section_pairs : List ℕ → List DocSection → List Pair
section_pairs name ss = map (λ (s : DocSection). s.pair) (filter (λ (s : DocSection). bytes_eq s.name name) ss)

abbrev pub postings_of_words : List DocWord → List DocSection → DocPostings
postings_of_words ws ss = record { positions = λ stream slot. word_positions stream slot ws; spans = λ name. section_pairs name ss }

-- ---- where a phrase occurs among words

-- the word at a position is in the stream, and has a key that the slot takes
abbrev pub stands_at : List DocWord → ℕ → Slot → ℕ → Bool
stands_at ws stream slot p = list_any (λ (w : DocWord). eqb w.position p && fits_word stream slot w) ws

-- from a position on, each slot is Any, or takes the word at its place
abbrev pub phrase_stands_at : List DocWord → ℕ → List Slot → ℕ → Bool
phrase_stands_at ws stream [] p = true
phrase_stands_at ws stream (Any ∷ ss) p = phrase_stands_at ws stream ss (p + 1)
phrase_stands_at ws stream (Takes keys patterns ∷ ss) p = stands_at ws stream (Takes keys patterns) p && phrase_stands_at ws stream ss (p + 1)

-- WHETHER A PHRASE OCCURS at a position, with all its places within lo to hi
abbrev pub occurs : List DocWord → ℕ → List Slot → ℕ → ℕ → ℕ → Bool
occurs ws stream phrase lo hi p = nat_le lo p && nat_le (p + length phrase) (hi + 1) && phrase_stands_at ws stream phrase p

-- the positions of the words rise, from above a number
abbrev pub WordsRise : ℕ → List DocWord → Type 0
WordsRise before [] = Unit {0}
WordsRise before (w ∷ ws) = (before < w.position) × WordsRise w.position ws

-- ---- by its entries

-- Where a key stands in a stream, or a section, which stands under the stream 255; a position is a pair of one twice.
pub record DocEntry : Type 0 where
  pub stream : ℕ
  pub token : List ℕ
  pub places : List Pair

abbrev pub stream_of_sections : ℕ
stream_of_sections = 255

-- a rising list with one number more, each once
abbrev pub put_position : ℕ → List ℕ → List ℕ
put_position p [] = p ∷ []
put_position p (q ∷ qs) = if nat_lt p q then p ∷ q ∷ qs else (if eqb p q then q ∷ qs else q ∷ put_position p qs)

abbrev pub put_all : List ℕ → List ℕ → List ℕ
put_all [] qs = qs
put_all (p ∷ ps) qs = put_position p (put_all ps qs)

abbrev pub firsts : List Pair → List ℕ
firsts ps = map (λ (p : Pair). p.first) ps

abbrev pub fits_entry : ℕ → Slot → DocEntry → Bool
fits_entry stream slot e = eqb e.stream stream && takes slot e.token

-- the positions of all entries that the slot takes, rising and each once
abbrev pub entry_positions : ℕ → Slot → List DocEntry → List ℕ
entry_positions stream slot [] = []
entry_positions stream slot (e ∷ es) = if fits_entry stream slot e then put_all (firsts e.places) (entry_positions stream slot es) else entry_positions stream slot es

abbrev pub is_stored_section : List ℕ → DocEntry → Bool
is_stored_section name e = eqb e.stream stream_of_sections && bytes_eq e.token name

abbrev pub entry_pairs : List ℕ → List DocEntry → List Pair
entry_pairs name es = flat_map (λ (e : DocEntry). e.places) (filter (is_stored_section name) es)

abbrev pub postings_of_entries : List DocEntry → DocPostings
postings_of_entries es = record { positions = λ stream slot. entry_positions stream slot es; spans = λ name. entry_pairs name es }

-- ---- the same by both

abbrev pub is_key_of : List ℕ → Option (List ℕ) → Bool
is_key_of token None = false
is_key_of token (Some key) = bytes_eq key token

-- a word of this key is in the stream and has the position
abbrev pub is_word_at : ℕ → List ℕ → ℕ → DocWord → Bool
is_word_at stream token n w = eqb w.position n && is_in_stream stream w && is_key_of token w.key

-- an entry of this key and stream has the position
abbrev pub has_position : ℕ → List ℕ → ℕ → DocEntry → Bool
has_position stream token n e = eqb e.stream stream && bytes_eq e.token token && has_number (firsts e.places) n

-- THE ENTRIES ARE THE POSTINGS of a document: a key stands at a position of a stream by the entries where it does by the words, and a section has the same pairs by both.
pub record ArePostings (ws : List DocWord) (ss : List DocSection) (es : List DocEntry) : Type 0 where
  pub positions : (stream : ℕ) (token : List ℕ) (n : ℕ) → stream ≤ stream_limit → list_any (has_position stream token n) es ≡ list_any (is_word_at stream token n) ws
  pub pairs : (name : List ℕ) → entry_pairs name es ≡ section_pairs name ss

-- ---- computed examples: `jack grew big`, where `grew` is a stopword

abbrev word : ℕ → Option (List ℕ) → DocWord
word position key = record { position = position; key = key; streams = 0 ∷ [] }

abbrev jack_grew_big : List DocWord
jack_grew_big = word 1 (Some (codes "jack")) ∷ word 2 None ∷ word 3 (Some (codes "big")) ∷ []

abbrev only : List ℕ → Slot
only key = Takes (key ∷ []) []

-- `jack is big`, where `is` is a stopword
jack_is_big : occurs jack_grew_big 0 (only (codes "jack") ∷ Any ∷ only (codes "big") ∷ []) 1 3 1 ≡ true
unfolding encode chars
jack_is_big = refl

not_within_1_to_2 : occurs jack_grew_big 0 (only (codes "jack") ∷ Any ∷ only (codes "big") ∷ []) 1 2 1 ≡ false
unfolding encode chars
not_within_1_to_2 = refl

-- two keys of which one has the positions 1 and 4, the other 2 and 4
merged : put_all (1 ∷ 4 ∷ []) (2 ∷ 4 ∷ []) ≡ 1 ∷ 2 ∷ 4 ∷ []
merged = refl
