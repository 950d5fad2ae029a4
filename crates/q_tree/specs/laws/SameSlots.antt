-- Slots that are called the same are equal.
use Rattle.std.proofs.Common.{ℕ, ◌≡◌, List, refl, ap, ◌∙◌}
use Rattle.std.specs.Bool.{Decides}
use Rattle.std.proofs.lemmas.Bool.{and_parts, and_from}
use Rattle.std.proofs.lemmas.Slice.Eq.{slice_eq-Decides, bytes_eq-Decides}
use Rattle.q_tree.specs.declared.flats.PatternBit.{PatternBit}
use Rattle.q_tree.specs.declared.flats.PatternBit.TheVariants.{Chars, One, Many}
use Rattle.q_tree.specs.declared.flats.Slot.{Slot}
use Rattle.q_tree.specs.declared.flats.Slot.TheVariants.{Any, Takes}
use Rattle.q_tree.specs.Slots.{same_keys, same_bit, same_pattern, same_patterns, same_slot}

chars-is : (x y : List ℕ) → Chars x ≡ Chars y → x ≡ y
chars-is x y h = cc

bits_decide : (a b : PatternBit) → Decides (same_bit a b) (a ≡ b)
bits_decide (Chars x) (Chars y) = let d = bytes_eq-Decides x y in (λ h. ap Chars (d.0 h), λ h. d.1 (chars-is x y h))
bits_decide (Chars x) One = (λ h. cc, λ h. cc)
bits_decide (Chars x) Many = (λ h. cc, λ h. cc)
bits_decide One (Chars y) = (λ h. cc, λ h. cc)
bits_decide One One = (λ h. refl, λ h. refl)
bits_decide One Many = (λ h. cc, λ h. cc)
bits_decide Many (Chars y) = (λ h. cc, λ h. cc)
bits_decide Many One = (λ h. cc, λ h. cc)
bits_decide Many Many = (λ h. refl, λ h. refl)

keys_decide : (xs ys : List (List ℕ)) → Decides (same_keys xs ys) (xs ≡ ys)
keys_decide xs ys = slice_eq-Decides bytes_eq-Decides xs ys (same_keys xs ys) refl

patterns_decide : (xs ys : List (List PatternBit)) → Decides (same_patterns xs ys) (xs ≡ ys)
patterns_decide xs ys = slice_eq-Decides (λ p q. slice_eq-Decides bits_decide p q (same_pattern p q) refl) xs ys (same_patterns xs ys) refl

keys-are : (ks js : List (List ℕ)) (ps qs : List (List PatternBit)) → Takes ks ps ≡ Takes js qs → ks ≡ js
keys-are ks js ps qs h = cc

patterns-are : (ks js : List (List ℕ)) (ps qs : List (List PatternBit)) → Takes ks ps ≡ Takes js qs → ps ≡ qs
patterns-are ks js ps qs h = cc

pub slots_decide : (a b : Slot) → Decides (same_slot a b) (a ≡ b)
slots_decide Any Any = (λ h. refl, λ h. refl)
slots_decide Any (Takes js qs) = (λ h. cc, λ h. cc)
slots_decide (Takes ks ps) Any = (λ h. cc, λ h. cc)
slots_decide (Takes ks ps) (Takes js qs) =
    let d = keys_decide ks js in
    let e = patterns_decide ps qs in (
      λ h. let both = and_parts (same_keys ks js) (same_patterns ps qs) h in ap (λ xs. Takes xs ps) (d.0 both.0) ∙ ap (Takes js) (e.0 both.1),
      λ h. and_from (same_keys ks js) (same_patterns ps qs) (d.1 (keys-are ks js ps qs h)) (e.1 (patterns-are ks js ps qs h)),
    )
