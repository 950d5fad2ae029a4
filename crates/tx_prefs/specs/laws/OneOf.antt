-- The entries spell one map of names at most.
use Rattle.std.proofs.Common.{◌≡◌, ℕ, Bool, true, List, Option, Some, None, refl, sym, ap, ◌∙◌}
use Rattle.std.specs.Option.{option_map}
use Rattle.std.specs.FinMap.{get, same_map, nat_cmp-IsAntisymmetric, slice_cmp-IsAntisymmetric}
use Rattle.std.proofs.lemmas.Cmp.{nat_list_cmp_total}
use Rattle.ct_entry.specs.declared.kinds.Kind.{Kind}
use Rattle.ct_entry.specs.Keys.{Key}
use Rattle.ct_entry.specs.Maps.{Names}
use Rattle.tx_prefs.specs.Spelling.{NamesStand}
use Rattle.tx_prefs.specs.Rules.{AreNamed}

-- where what keeps the rule is told by its bytes
pub one_names : {X : Type 0} (f : Key → Option (List ℕ)) (k : Kind) (spelling : X → List ℕ) (rule : X → Bool) (xs ys : Names X)
    → ((x y : X) → rule x ≡ true → rule y ≡ true → spelling x ≡ spelling y → x ≡ y)
    → NamesStand f k spelling xs → NamesStand f k spelling ys → AreNamed rule xs → AreNamed rule ys → xs ≡ ys
one_names {X} f k spelling rule xs ys apart first second xs_are ys_are = same_map nat_list_cmp_total (slice_cmp-IsAntisymmetric nat_cmp-IsAntisymmetric) xs ys same
  where
    same : (n : List ℕ) → get xs n ≡ get ys n
    same n = go (get xs n) (get ys n) refl refl
      where
        spelt : option_map spelling (get xs n) ≡ option_map spelling (get ys n)
        spelt = sym (first n) ∙ second n

        go : (o p : Option X) → get xs n ≡ o → get ys n ≡ p → get xs n ≡ get ys n
        go None None e d = e ∙ sym d
        go None (Some y) e d = let wrong : None ≡ Some (spelling y) = sym (ap (option_map spelling) e) ∙ spelt ∙ ap (option_map spelling) d in cc
        go (Some x) None e d = let wrong : Some (spelling x) ≡ None = sym (ap (option_map spelling) e) ∙ spelt ∙ ap (option_map spelling) d in cc
        go (Some x) (Some y) e d =
            let is : Some (spelling x) ≡ Some (spelling y) = sym (ap (option_map spelling) e) ∙ spelt ∙ ap (option_map spelling) d in
            let one : x ≡ y = apart x y (xs_are.each n x e) (ys_are.each n y d) cc in
            e ∙ ap Some one ∙ sym d
