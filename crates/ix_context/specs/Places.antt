-- How tidy an index is, and the place where an optimisation with a limit goes on, as bytes: they end the entry of an index.
use Rattle.std.specs.Prelude.{ℕ, ◌≡◌, ◌≤◌, Bool, true, false, List, [], ◌∷◌, Option, Some, None, codes, refl}
use Rattle.std.proofs.Common.{arith}
use Rattle.ct_base.specs.Names.{IsName}
use Rattle.ct_base.specs.Limits.{stream_limit}
use Rattle.ct_bytes.specs.Varints.{varint, text_bytes}
use Rattle.ct_entry.specs.Keys.{IsToken}
pub use Rattle.ix_kinds.specs.Standing.{no_place}
use Rattle.ix_rows.specs.Stores.{Tidiness, Untidy, Packed, Clean}
use Rattle.ix_context.specs.declared.places.Tidiness.{Tidiness as StoredTidiness}
use Rattle.ix_context.specs.declared.places.Tidiness.TheVariants as stored
use Rattle.ix_context.specs.declared.places.Place.{Place}
use Rattle.ix_context.specs.declared.places.Place.TheVariants.{Start, Word, Section}

-- ---- how tidy it is

-- in one byte
abbrev pub tidiness_byte : Tidiness → ℕ
tidiness_byte Untidy = 0
tidiness_byte Packed = 1
tidiness_byte Clean = 2

-- packed or clean
abbrev pub is_tidy : Tidiness → Bool
is_tidy Untidy = false
is_tidy Packed = true
is_tidy Clean = true

-- as code holds it
abbrev pub tidiness_of : StoredTidiness → Tidiness
tidiness_of stored.Untidy = Untidy
tidiness_of stored.Packed = Packed
tidiness_of stored.Clean = Clean

-- ---- the place

-- An optimisation goes on behind a token of a stream, where it doesn't begin with the first one.
abbrev pub word_place : ℕ → List ℕ → List ℕ
word_place stream token = stream ∷ text_bytes token

-- or behind a section, and so behind all tokens
abbrev pub section_place : List ℕ → List ℕ
section_place name = 255 ∷ text_bytes name

-- The bytes are such a place.
pub data IsPlace (place : List ℕ) : Type 0 where
  AtStart : place ≡ no_place → IsPlace place
  BehindWord : (stream : ℕ) (token : List ℕ) → stream ≤ stream_limit → IsToken token → place ≡ word_place stream token → IsPlace place
  BehindSection : (name : List ℕ) → IsName name → place ≡ section_place name → IsPlace place

-- as code holds it
abbrev pub place_bytes : Place → List ℕ
place_bytes Start = no_place
place_bytes (Word stream token) = word_place stream token
place_bytes (Section name) = section_place name

-- with a stream that an index may have and a token, or with a name
abbrev pub IsPlaceRead : Place → Type 0
IsPlaceRead Start = Unit {0}
IsPlaceRead (Word stream token) = (stream ≤ stream_limit) × IsToken token
IsPlaceRead (Section name) = IsName name

-- ---- what is read

-- the byte says how tidy an index is; or no such thing
abbrev pub SpellsTidiness : ℕ → Option StoredTidiness → Type 0
SpellsTidiness byte (Some t) = byte ≡ tidiness_byte (tidiness_of t)
SpellsTidiness byte None = (t : Tidiness) → byte ≡ tidiness_byte t → ⊥

-- the bytes are a place; or none
abbrev pub SpellsPlace : List ℕ → Option Place → Type 0
SpellsPlace bytes (Some place) = IsPlaceRead place × (bytes ≡ place_bytes place)
SpellsPlace bytes None = IsPlace bytes → ⊥

-- the end of an entry: both, one after the other
abbrev pub end_bytes : Tidiness → List ℕ → List ℕ
end_bytes t place = tidiness_byte t ∷ place

abbrev pub SpellsEnd : List ℕ → Option (StoredTidiness × Place) → Type 0
SpellsEnd bytes (Some e) = IsPlaceRead e.1 × (bytes ≡ end_bytes (tidiness_of e.0) (place_bytes e.1))
SpellsEnd bytes None = (t : Tidiness) (place : List ℕ) → IsPlace place → bytes ≡ end_bytes t place → ⊥

-- computed examples
behind_fox : word_place 0 (codes "fox") ≡ 0 ∷ 3 ∷ codes "fox"
unfolding varint
behind_fox = refl

behind_a_title : section_place (codes "title") ≡ 255 ∷ 5 ∷ codes "title"
unfolding varint
behind_a_title = refl

-- the token `fox` of the main stream is one to go on behind, and nothing else has no token
fox_is_a_place : IsPlace (word_place 0 (codes "fox"))
fox_is_a_place = BehindWord 0 (codes "fox") (omega arith) (record { some = omega arith; short = omega arith }) refl

a_clean_index_at_its_start : end_bytes Clean no_place ≡ 2 ∷ 0 ∷ 0 ∷ []
a_clean_index_at_its_start = refl

-- no index is tidy by the byte 3
three_says_nothing : SpellsTidiness 3 None
three_says_nothing Untidy e = let wrong : ◌≡◌ {A = ℕ} 3 0 = e in omega arith
three_says_nothing Packed e = let wrong : ◌≡◌ {A = ℕ} 3 1 = e in omega arith
three_says_nothing Clean e = let wrong : ◌≡◌ {A = ℕ} 3 2 = e in omega arith
