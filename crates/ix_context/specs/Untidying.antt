-- What is put before rows of an index are lost.
use Rattle.std.specs.Prelude.{ℕ, ◌≡◌, ◌++◌, List, [], ◌∷◌, length, Option, Some, None, codes, refl}
use Rattle.std.specs.Option.{option_map}
use Rattle.ct_entry.specs.declared.kinds.Kind.TheVariants as kind
use Rattle.ct_entry.specs.Keys.{Key, key}
use Rattle.ct_entry.specs.Changes.{put_value, spell}
use Rattle.ct_entry.specs.Lists.{EachIs}

-- Each key has as many bytes after its change as before.
abbrev pub AreAsLong : (Key → Option (List ℕ)) → List (Key × Option (List ℕ)) → Type 0
AreAsLong f ws = EachIs (λ w. option_map length w.1 ≡ option_map length (f w.0)) ws

-- A batch has such changes more.
pub record AddsAsLong (f : Key → Option (List ℕ)) (old new : List (List ℕ × Option (List ℕ))) : Type 0 where
  pub changes : List (Key × Option (List ℕ))
  pub adds : new ≡ old ++ spell changes
  pub long : AreAsLong f changes

-- computed examples: another value of as many bytes; where nothing stands nothing may be put
abbrev its_key : Key
its_key = key kind.Indexes (codes "di") []

two_bytes_again : AreAsLong (λ k. Some (1 ∷ 2 ∷ [])) (put_value its_key (1 ∷ 0 ∷ []) ∷ [])
two_bytes_again = (refl, tt)

nothing_to_replace : AreAsLong (λ k. None) (put_value its_key [] ∷ []) → ⊥
nothing_to_replace long = let wrong : ◌≡◌ {A = Option ℕ} (Some 0) None = long.0 in cc
