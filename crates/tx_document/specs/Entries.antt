-- The entries of a document: where each key stands in each stream, and where each section stands.
use Rattle.std.specs.Prelude.{ℕ, ◌≡◌, ◌==◌, Bool, false, ◌&&◌, List, [], ◌∷◌, ◌++◌, map, bytes_eq, Option, Some, None, codes, refl}
use Rattle.std.specs.Bool.{if◌then◌else◌}
use Rattle.std.specs.List.{flat_map, list_any}
use Rattle.std.specs.Ordering.{nat_cmp}
use Rattle.std.specs.Cmp.Lexicographic.{slice_cmp}
use Rattle.std.specs.FinMap as fin
use Rattle.std.specs.FinMap.{FinMap, from_entries}
use lib.Utf8.{encode}
use Rattle.ucd_category.proofs.Computing.{ucd_category}
use Rattle.caseless.proofs.Computing.{caseless}
use Rattle.ct_base.specs.declared.numbers.Pair.{Pair}
use Rattle.tx_chars.specs.Keys.{key_text}
use Rattle.tx_document.specs.declared.views.WordView.{WordView}
use Rattle.tx_document.specs.declared.views.SectionView.{SectionView}
use Rattle.tx_document.specs.declared.views.DocView.{DocView}
use Rattle.tx_document.specs.declared.entries.Entry.{Entry}
use Rattle.tx_settings.specs.Defaults.{plain}
use Rattle.tx_document.specs.Documents.{document, sentences, pair}

-- the stream under which sections stand
abbrev pub section_stream : ℕ
section_stream = 255

-- A place of a document: the stream and the token, or the stream of sections and the name of one, as bytes one after the other; and where it stands.
abbrev pub DocumentPlace : Type 0
DocumentPlace = List ℕ × Pair

-- a position p is the pair (p, p)
abbrev pub word_places : WordView → List DocumentPlace
word_places w = of w.key
  where
    of : Option (List ℕ) → List DocumentPlace
    of None = []
    of (Some key) = map {B = DocumentPlace} (λ stream. (stream ∷ key, pair w.position w.position)) w.streams

abbrev pub section_place : SectionView → DocumentPlace
section_place s = (section_stream ∷ s.section, pair s.first s.last)

-- the places of words in the order of their positions, and those of sections in their order
abbrev pub places_of : DocView → List DocumentPlace
places_of d = flat_map word_places d.words ++ map section_place d.sections

-- where one stands, in the order of these places
abbrev pub places_under : List ℕ → List DocumentPlace → List Pair
places_under name [] = []
places_under name (x ∷ xs) = if bytes_eq name x.0 then x.1 ∷ places_under name xs else places_under name xs

-- each that stands anywhere, with its places
abbrev pub place_map : List DocumentPlace → FinMap (slice_cmp nat_cmp) (List Pair)
place_map xs = from_entries (map {B = List ℕ × List Pair} (λ x. (x.0, places_under x.0 xs)) xs)

abbrev pub entry : ℕ → List ℕ → List Pair → Entry
entry stream token places = record { stream = stream; token = token; places = places }

abbrev pub entry_of : List ℕ × List Pair → Entry
entry_of ([], ps) = entry 0 [] ps
entry_of (stream ∷ token, ps) = entry stream token ps

-- THE ENTRIES of a document, in the order of stream and token: one for each stream and key, and for each section, with its places as they rise
abbrev pub entries : DocView → List Entry
entries d = map entry_of (fin.entries (place_map (places_of d)))

-- ---- by scanning the words

-- whether a word has this key in this stream
abbrev pub is_at : ℕ → List ℕ → WordView → Bool
is_at stream key w = of w.key
  where
    of : Option (List ℕ) → Bool
    of None = false
    of (Some k) = bytes_eq key k && list_any (λ s. stream == s) w.streams

-- the positions of a key in a stream
abbrev pub positions_of : ℕ → List ℕ → List WordView → List ℕ
positions_of stream key [] = []
positions_of stream key (w ∷ ws) = if is_at stream key w then w.position ∷ positions_of stream key ws else positions_of stream key ws

-- computed examples: `b` is a stopword
abbrev a_b_a : DocView
a_b_a = document (record (plain sentences) { stop = codes "b" ∷ [] }) (codes "a b a")

its_places : places_of a_b_a ≡ (0 ∷ codes "a", pair 1 1) ∷ (0 ∷ codes "a", pair 3 3) ∷ (255 ∷ codes "sentence", pair 1 3) ∷ []
unfolding encode caseless ucd_category key_text
its_places = refl

twice : places_under (0 ∷ codes "a") (places_of a_b_a) ≡ pair 1 1 ∷ pair 3 3 ∷ []
unfolding encode caseless ucd_category key_text
twice = refl

by_scanning : positions_of 0 (codes "a") a_b_a.words ≡ 1 ∷ 3 ∷ []
unfolding encode caseless ucd_category key_text
by_scanning = refl

no_stopword : positions_of 0 (codes "b") a_b_a.words ≡ []
unfolding encode caseless ucd_category key_text
no_stopword = refl
