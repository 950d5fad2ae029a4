-- Changes on entries of CONTEXT indexes: on keys of their kinds, with values within the bounds.
use Rattle.std.proofs.Common.{◌≡◌, ℕ, ◌≤◌, true, List, [], ◌∷◌, ◌++◌, length, Option}
use Rattle.ct_keep.specs.Content.{value_limit}
use Rattle.ct_entry.specs.Keys.{Key, IsKeyOfKind}
use Rattle.ct_entry.specs.Changes.{AreChanges, AllOf, Puts}
use Rattle.ix_context.specs.Spelling.{is_of_context}

-- A change on an entry of a CONTEXT index, with a value that an entry may have.
pub record IsIndexChange (w : Key × Option (List ℕ)) : Type 0 where
  pub key : IsKeyOfKind w.0
  pub of : is_of_context w.0.kind ≡ true
  pub bounded : Puts (λ k v. length v ≤ value_limit) w.0 w.1

abbrev pub AreIndexChanges : List (Key × Option (List ℕ)) → Type 0
AreIndexChanges [] = Unit {0}
AreIndexChanges (w ∷ ws) = IsIndexChange w × AreIndexChanges ws

-- they are on keys of the kinds
pub are_changes : (ws : List (Key × Option (List ℕ))) → AreIndexChanges ws → AreChanges ws
are_changes [] are = tt
are_changes (w ∷ ws) are = (are.0.key, are_changes ws are.1)

pub all_of_context : (ws : List (Key × Option (List ℕ))) → AreIndexChanges ws → AllOf is_of_context ws
all_of_context [] are = tt
all_of_context (w ∷ ws) are = (are.0.of, all_of_context ws are.1)

pub index_changes-append : (xs ys : List (Key × Option (List ℕ))) → AreIndexChanges xs → AreIndexChanges ys → AreIndexChanges (xs ++ ys)
index_changes-append [] ys a b = b
index_changes-append (x ∷ xs) ys a b = (a.0, index_changes-append xs ys a.1 b)
