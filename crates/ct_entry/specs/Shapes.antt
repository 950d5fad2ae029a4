-- Which entries are well shaped, each by itself: by the kinds of their keys.
use Rattle.std.specs.Prelude.{ℕ, ◌≡◌, List, [], ◌∷◌, Option, codes, refl}
use Rattle.ct_keep.specs.Changes.{AreWell}
use Rattle.ct_entry.specs.declared.kinds.Kind.TheVariants.{Tables}
use Rattle.ct_entry.specs.Keys.{Key, key, bytes, IsKeyOfKind}

-- The bytes spell a key of one of the kinds, and the rule gives it this value.
pub record IsShaped (rule : Key → List ℕ → Type 0) (spelling value : List ℕ) : Type 0 where
  pub key : Key
  pub spelt : spelling ≡ bytes key
  pub parts : IsKeyOfKind key
  pub has : rule key value

-- Each change that puts an entry puts one within the bounds that is well shaped by a rule.
abbrev pub AreShaped : (Key → List ℕ → Type 0) → List (List ℕ × Option (List ℕ)) → Type 0
AreShaped rule changes = AreWell (IsShaped rule) changes

-- computed example: where tables have no values but the empty one, the table `t` may have it
abbrev nothing : Key → List ℕ → Type 0
nothing k value = value ≡ []

an_entry : IsShaped nothing (0x01 ∷ 1 ∷ 0x74 ∷ []) []
an_entry = record { key = key Tables (codes "t") []; spelt = refl; parts = record { owner = record { spelt = refl; lower = refl }; part = refl }; has = refl }
