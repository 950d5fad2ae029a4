-- The entries that a leaf names, changed.
use Rattle.std.specs.Prelude.{◌≡◌, ℕ, suc, ◌≤◌, List, [], ◌∷◌, ◌++◌, length, take, drop, refl}
use Rattle.pg_directory.specs.declared.entries.EntryAt.{EntryAt}

-- an entry more, behind so many
abbrev pub with_entry : ℕ → EntryAt → List EntryAt → List EntryAt
with_entry n e es = take n es ++ e ∷ drop n es

-- without the one that comes behind so many
abbrev pub without_entry : ℕ → List EntryAt → List EntryAt
without_entry n es = take n es ++ drop (suc n) es

-- Two leaves name these entries, each at least one, and as many as a page has room for.
pub record AreParted (es front behind : List EntryAt) : Type 0 where
  pub is : es ≡ front ++ behind
  pub some_front : 1 ≤ length front
  pub some_behind : 1 ≤ length behind
  pub room_front : length front ≤ 681
  pub room_behind : length behind ≤ 681

-- ---- computed examples
module _ (a b c : EntryAt) where
  behind_one : with_entry 1 b (a ∷ c ∷ []) ≡ a ∷ b ∷ c ∷ []
  behind_one = refl

  the_second_gone : without_entry 1 (a ∷ b ∷ c ∷ []) ≡ a ∷ c ∷ []
  the_second_gone = refl
