-- What is read of the rest of a key of a catalogue.
use Rattle.std.specs.Prelude.{ℕ, ◌≡◌, ◌<◌, ◌≤◌, List, [], ◌∷◌, ◌++◌, length, Option, Some, None, pos, codes, refl}
use Rattle.std.proofs.Common.{arith, ap, ◌∙◌, length-append, inl}
use Rattle.ct_bytes.specs.RowKeys.{row_bytes}
use Rattle.ct_bytes.specs.laws.RowKeys.{length-row_bytes}
use Rattle.ct_entry.specs.Keys.{IsRowPart}
use Rattle.ct_entry.specs.Lists.{EachIs}
use Rattle.cat_index.specs.Shapes.{IsItem, joined}

-- ---- the word, and the row

-- bytes that begin with a list, after its length, and what follows it; or bytes that don't
abbrev pub BeginsCounted : List ℕ → Option (List ℕ × List ℕ) → Type 0
BeginsCounted bytes (Some x) = bytes ≡ length x.0 ∷ (x.0 ++ x.1)
BeginsCounted bytes None = (list rest : List ℕ) → bytes ≡ length list ∷ (list ++ rest) → ⊥

-- the eight last bytes, behind the others; or fewer than eight bytes
abbrev pub SplitsLastEight : List ℕ → Option (List ℕ × List ℕ) → Type 0
SplitsLastEight bytes (Some x) = (bytes ≡ x.0 ++ x.1) × (length x.1 ≡ 8)
SplitsLastEight bytes None = length bytes < 8

-- ---- the items between them

-- Something of this form stands at the beginning of the bytes, and this follows.
pub record Begins (IsForm : List ℕ → Type 0) (bytes rest : List ℕ) : Type 0 where
  pub item : List ℕ
  pub is : IsForm item
  pub spelt : bytes ≡ item ++ rest

-- the only thing that follows something of this form; None where the bytes don't begin so
abbrev pub IsWhatFollows : (List ℕ → Type 0) → List ℕ → Option (List ℕ) → Type 0
IsWhatFollows IsForm bytes (Some rest) = Begins IsForm bytes rest × ((other : List ℕ) → Begins IsForm bytes other → other ≡ rest)
IsWhatFollows IsForm bytes None = (rest : List ℕ) → Begins IsForm bytes rest → ⊥

-- no number stands in fewer bytes than it has
pub too_short : (bytes : List ℕ) → length bytes < 8 → IsWhatFollows IsRowPart bytes None
too_short bytes few rest begins =
    let long = ap length begins.spelt in
    let whole = length-append begins.item rest in
    let eight = ap length begins.is.2 ∙ length-row_bytes begins.is.0 in
    omega (arith, few, long, whole, eight)

-- The bytes of at most so many items, one after the other.
pub record AreAtMost (most : ℕ) (bytes : List ℕ) : Type 0 where
  pub items : List (List ℕ)
  pub few : length items ≤ most
  pub each : EachIs IsItem items
  pub spelt : bytes ≡ joined items

-- the same of bytes that may be missing
abbrev pub AreSomeAtMost : ℕ → Option (List ℕ) → Type 0
AreSomeAtMost most None = ⊥
AreSomeAtMost most (Some bytes) = AreAtMost most bytes

-- computed examples
a_word : BeginsCounted (3 ∷ codes "redhat") (Some (codes "red", codes "hat"))
a_word = refl

too_few_for_a_row : SplitsLastEight (codes "red") None
too_few_for_a_row = omega arith

no_number : IsWhatFollows IsRowPart (codes "red") None
no_number = too_short (codes "red") (omega arith)

one_number : AreAtMost 1 (row_bytes (pos 9))
unfolding row_bytes
one_number = record { items = row_bytes (pos 9) ∷ []; few = omega arith; each = (inl (pos 9, omega arith, refl), tt); spelt = refl }

no_items : AreAtMost 0 []
no_items = record { items = []; few = omega arith; each = tt; spelt = refl }
