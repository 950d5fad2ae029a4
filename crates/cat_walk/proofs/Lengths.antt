-- The places of the words of one length after the other.
use Rattle.std.proofs.Common.{◌≡◌, ◌≤◌, ◌<◌, ◌-◌, ◌+◌, ℕ, suc, List, ◌++◌, sym, ap, ◌∙◌, arith, append_assoc, append-nil}
use Rattle.ct_keep.specs.Content.{Content}
use Rattle.q_tree.specs.declared.flats.PatternBit.{PatternBit}
use Rattle.q_match.specs.Literals.{leading_literal}
use Rattle.cat_walk.specs.Scanned.{length_places, lengths_places}

module _ (m : Content) (stem : List ℕ) (p : List PatternBit) (size : ℕ) where
  -- one of the lengths that are left
  pub lengths_on : (now next all : List (List ℕ)) → size ≤ 255 → next ≡ now ++ length_places m stem p (leading_literal p) size → now ++ lengths_places m stem p (256 - size) size ≡ all
      → next ++ lengths_places m stem p (256 - (size + 1)) (size + 1) ≡ all
  lengths_on now next all low grown so_far =
      let less_one : 256 - size ≡ suc (256 - (size + 1)) = omega (arith, low) in
      ap (λ (l : List (List ℕ)). l ++ lengths_places m stem p (256 - (size + 1)) (size + 1)) grown
      ∙ append_assoc now (length_places m stem p (leading_literal p) size) (lengths_places m stem p (256 - (size + 1)) (size + 1))
      ∙ sym (ap (λ (n : ℕ). now ++ lengths_places m stem p n size) less_one)
      ∙ so_far

  -- none is left
  pub lengths_end : (now all : List (List ℕ)) → 255 < size → now ++ lengths_places m stem p (256 - size) size ≡ all → now ≡ all
  lengths_end now all past so_far =
      let none : 256 - size ≡ 0 = omega (arith, past) in
      sym (ap (λ (n : ℕ). now ++ lengths_places m stem p n size) none ∙ append-nil now) ∙ so_far
