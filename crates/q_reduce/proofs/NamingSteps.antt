-- Names put one after the other.
use Rattle.std.proofs.Common.{◌≡◌, ◌≤◌, ◌-◌, ℕ, List, [], ◌∷◌, ◌++◌, length, take, drop, get_or, refl, sym, ap, ◌∙◌, arith}
use Rattle.std.proofs.Math.Seq.{take-length}
use Rattle.std.specs.List.{flat_map}
use Rattle.q_reduce.specs.Naming.{with_thesaurus_name, with_thesaurus_names}

pub with_both : (names xs ys : List (List ℕ)) → with_thesaurus_names names (xs ++ ys) ≡ with_thesaurus_names (with_thesaurus_names names xs) ys
with_both names [] ys = refl
with_both names (x ∷ xs) ys = with_both (with_thesaurus_name names x) xs ys

pub with_next : {X : Type 0} (f : X → List (List ℕ)) (names now : List (List ℕ)) (x : X) (rest later : List X) → rest ≡ x ∷ later → now ≡ with_thesaurus_names names (f x) → with_thesaurus_names now (flat_map f later) ≡ with_thesaurus_names names (flat_map f rest)
with_next f names now x rest later split is = ap (λ (l : List (List ℕ)). with_thesaurus_names l (flat_map f later)) is ∙ sym (with_both names (f x) (flat_map f later)) ∙ sym (ap (λ l. with_thesaurus_names names (flat_map f l)) split)

module _ {X : Type 0} where
  pub first_of : (xs : List X) (x : X) → 1 ≤ length xs → x ≡ get_or xs 0 x → xs ≡ x ∷ take (length xs - 1) (drop 1 xs)
  first_of [] x h is = absurd (omega (arith, h))
  first_of (y ∷ ys) x h is = let n : length (y ∷ ys) - 1 ≡ length ys = omega arith in rw n (ap (λ z. z ∷ ys) (sym is) ∙ ap (λ zs. x ∷ zs) (sym (take-length ys)))
