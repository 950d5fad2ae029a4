-- Laws of what the outside tells.
use Rattle.std.specs.Prelude.{ℕ, ◌≡◌, List, [], ◌++◌, Option, Some, None, refl}
use Rattle.std.proofs.Common.{sym, ap, ◌∙◌, append_assoc, append-nil}
use Rattle.ct_base.specs.Told.{with_prefix, with_suffix, SaysPart}

pub with_prefix-nil : (told : Option (List ℕ)) → with_prefix [] told ≡ told
with_prefix-nil None = refl
with_prefix-nil (Some rest) = refl

pub with_prefix_twice : (a b : List ℕ) (told : Option (List ℕ)) → with_prefix a (with_prefix b told) ≡ with_prefix (a ++ b) told
with_prefix_twice a b None = refl
with_prefix_twice a b (Some rest) = ap Some (sym (append_assoc a b rest))

pub with_suffix-nil : (told : Option (List ℕ)) → with_suffix told [] ≡ told
with_suffix-nil None = refl
with_suffix-nil (Some rest) = ap Some (append-nil rest)

pub with_suffix_twice : (told : Option (List ℕ)) (a b : List ℕ) → with_suffix (with_suffix told a) b ≡ with_suffix told (a ++ b)
with_suffix_twice None a b = refl
with_suffix_twice (Some rest) a b = ap Some (append_assoc rest a b)

pub says_prefix : (told : Option (List ℕ)) (a b w : List ℕ) → SaysPart told a w → SaysPart told (a ++ b) w
says_prefix told a b w p = record { part = p.part; later = p.later ++ b; split = ap (λ (l : List ℕ). l ++ b) p.split ∙ append_assoc p.part p.later b; is = p.is }

pub says_suffix : (told : Option (List ℕ)) (a b w : List ℕ) → SaysPart (with_suffix told a) b w → SaysPart told (a ++ b) w
says_suffix told a b w p = record { part = a ++ p.part; later = p.later; split = ap (λ (l : List ℕ). a ++ l) p.split ∙ sym (append_assoc a p.part p.later); is = sym (with_suffix_twice told a p.part) ∙ p.is }
