-- Changes that are well shaped by a rule: those that put what it tells of, those that are by a stronger rule, and some after others.
use Rattle.std.specs.Prelude.{ℕ, ◌≤◌, List, [], ◌∷◌, ◌++◌, length, Option, Some, None, refl}
use Rattle.ct_keep.specs.Content.{value_limit}
use Rattle.ct_keep.specs.laws.Changes.{well_weaker}
use Rattle.ct_entry.specs.Keys.{Key}
use Rattle.ct_entry.specs.Changes.{spell, AreChanges, AllOf, AllPut}
use Rattle.ct_entry.specs.laws.Parts.{has_short_keys}
use Rattle.ct_entry.specs.laws.Well.{entry_of_key, well-append}
use Rattle.ct_entry.specs.Shapes.{IsShaped, AreShaped}

-- an entry that is shaped by a rule is shaped by a weaker one
pub shaped_weaker : (a b : Key → List ℕ → Type 0) → ((k : Key) (value : List ℕ) → a k value → b k value) → (spelling value : List ℕ) → IsShaped a spelling value → IsShaped b spelling value
shaped_weaker a b weaker spelling value is = record { key = is.key; spelt = is.spelt; parts = is.parts; has = weaker is.key value is.has }

pub are_shaped_weaker : (a b : Key → List ℕ → Type 0) → ((k : Key) (value : List ℕ) → a k value → b k value) → (changes : List (List ℕ × Option (List ℕ))) → AreShaped a changes → AreShaped b changes
are_shaped_weaker a b weaker changes are = well_weaker (IsShaped a) (IsShaped b) (λ spelling value entry is. shaped_weaker a b weaker spelling value is) changes are

pub are_shaped-append : (rule : Key → List ℕ → Type 0) (xs ys : List (List ℕ × Option (List ℕ))) → AreShaped rule xs → AreShaped rule ys → AreShaped rule (xs ++ ys)
are_shaped-append rule xs ys a b = well-append (IsShaped rule) xs ys a b

-- a value within the bound, which the key has by a rule
pub record HasWithin (rule : Key → List ℕ → Type 0) (k : Key) (value : List ℕ) : Type 0 where
  pub bounded : length value ≤ value_limit
  pub has : rule k value

-- changes on short keys, each of which puts such a value
pub are_shaped : (rule : Key → List ℕ → Type 0) (ws : List (Key × Option (List ℕ))) → AreChanges ws → AllOf has_short_keys ws → AllPut (HasWithin rule) ws → AreShaped rule (spell ws)
are_shaped rule [] are short puts = tt
are_shaped rule ((k, None) ∷ ws) are short puts = are_shaped rule ws are.1 short.1 puts.1
are_shaped rule ((k, Some v) ∷ ws) are short puts = (
  entry_of_key k v are.0 short.0 puts.0.bounded,
  record { key = k; spelt = refl; parts = are.0; has = puts.0.has },
  are_shaped rule ws are.1 short.1 puts.1,
)
