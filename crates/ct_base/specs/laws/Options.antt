-- Values that may be missing.
use Rattle.std.specs.Prelude.{◌≡◌, true, false, Option, Some, None, is_some, IfNone, MatchOption, refl}
use Rattle.std.proofs.Common.{subst}
use Rattle.std.specs.Option.{option_map, option_and_then}

module _ {X : Type 0} where
  pub some_value : (o : Option X) → is_some o ≡ true → (x : X) × (o ≡ Some x)
  some_value None h = cc
  some_value (Some x) h = (x, refl)

  pub no_value : (o : Option X) → is_some o ≡ false → o ≡ None
  no_value None h = refl
  no_value (Some x) h = cc

  -- there is one value at most
  pub same_value : (x y : X) → Some x ≡ Some y → x ≡ y
  same_value x y e = cc

  pub none_or_some : (o : Option X) (x : X) → o ≡ None → o ≡ Some x → ⊥
  none_or_some o x none some = cc

  -- what is said of nothing, where there is nothing
  pub match_none : (o : Option X) (N : Type 0) (S : X → Type 0) → o ≡ None → MatchOption o N S → N
  match_none o N S none m = subst (λ (o : Option X). MatchOption o N S) none m

  -- what is said of a value, where there is one
  pub match_some : (o : Option X) (N : Type 0) (S : X → Type 0) (x : X) → o ≡ Some x → MatchOption o N S → S x
  match_some o N S x is m = subst (λ (o : Option X). MatchOption o N S) is m

  -- what holds anyway holds where there is none
  pub if_none : (o : Option X) (P : Type 0) → P → IfNone o P
  if_none None P p = p
  if_none (Some x) P p = tt

module _ {X Y : Type 0} where
  -- where a map gives something, there was something
  pub option_map_some : (f : X → Y) (o : Option X) (y : Y) → option_map f o ≡ Some y → (x : X) × (o ≡ Some x) × (f x ≡ y)
  option_map_some f None y is = cc
  option_map_some f (Some x) y is = (x, refl, same is)
    where
      same : Some (f x) ≡ Some y → f x ≡ y
      same e = cc

  -- a map gives something exactly where there was something
  pub is_some-option_map : (f : X → Y) (o : Option X) → is_some (option_map f o) ≡ is_some o
  is_some-option_map f None = refl
  is_some-option_map f (Some x) = refl

  pub and_then_some : (f : X → Option Y) (o : Option X) (y : Y) → option_and_then f o ≡ Some y → (x : X) × (o ≡ Some x) × (f x ≡ Some y)
  and_then_some f None y is = cc
  and_then_some f (Some x) y is = (x, refl, is)

  pub and_then-option_map : {Z : Type 0} (f : X → Y) (g : Y → Option Z) (o : Option X) → option_and_then g (option_map f o) ≡ option_and_then (λ x. g (f x)) o
  and_then-option_map f g None = refl
  and_then-option_map f g (Some x) = refl

  pub option_map-and_then : {Z : Type 0} (f : X → Option Y) (g : Y → Z) (o : Option X) → option_map g (option_and_then f o) ≡ option_and_then (λ x. option_map g (f x)) o
  option_map-and_then f g None = refl
  option_map-and_then f g (Some x) = refl

  pub and_then_always : (f : X → Y) (o : Option X) → option_and_then (λ x. Some (f x)) o ≡ option_map f o
  and_then_always f None = refl
  and_then_always f (Some x) = refl
