-- Steps of adding the changes of rows to a batch.
use Rattle.std.proofs.Common.{◌≡◌, ℕ, ℤ, ◌+◌, Bool, true, false, cond, List, [], ◌∷◌, ◌++◌, Option, refl, sym, ap, ◌∙◌, append_assoc, append-nil}
use Rattle.std.specs.Prelude.{Result, Ok, Err, ◌&&◌}
use Rattle.ct_entry.specs.Keys.{Key, same_list}
use Rattle.ct_entry.specs.Changes.{spell}
use Rattle.ct_entry.specs.laws.Changes.{spell-append}
use Rattle.cat_index.specs.Changes.{Adds, in_each, set_from, same_words, sub_changes, words_change}

-- some changes, and then others
adds_both : (old mid new : List (List ℕ × Option (List ℕ))) (xs ys : List (Key × Option (List ℕ))) → mid ≡ old ++ spell xs → new ≡ mid ++ spell ys → new ≡ old ++ spell (xs ++ ys)
adds_both old mid new xs ys first then_ = then_ ∙ ap (λ (b : List (List ℕ × Option (List ℕ))). b ++ spell ys) first ∙ append_assoc old (spell xs) (spell ys) ∙ ap (λ (b : List (List ℕ × Option (List ℕ))). old ++ b) (sym (spell-append xs ys))

-- the changes of the next sub-index
next_adds : (old mid : List (List ℕ × Option (List ℕ))) (xs rest : List (Key × Option (List ℕ))) (whole : List (List ℕ × Option (List ℕ))) → mid ≡ old ++ spell xs → old ++ spell (xs ++ rest) ≡ whole → mid ++ spell rest ≡ whole
next_adds old mid xs rest whole first all = adds_both old mid (mid ++ spell rest) xs rest first refl ∙ all

pub next_in_each : (f : ℕ → List ℕ → List (Key × Option (List ℕ))) (sub : ℕ) (ls : List (List ℕ)) (v : List ℕ) (vs : List (List ℕ)) (old mid whole : List (List ℕ × Option (List ℕ))) → ls ≡ v ∷ vs → mid ≡ old ++ spell (f sub v)
    → old ++ spell (in_each f sub ls) ≡ whole → mid ++ spell (in_each f (sub + 1) vs) ≡ whole
next_in_each f sub ls v vs old mid whole is first all = next_adds old mid (f sub v) (in_each f (sub + 1) vs) whole first (ap (λ (l : List (List ℕ)). old ++ spell (in_each f sub l)) (sym is) ∙ all)

pub next_set : (i : List ℕ) (r : ℤ) (sub : ℕ) (words others : List (List ℕ)) (ls ks : List (List ℕ)) (v u : List ℕ) (vs us : List (List ℕ)) (old mid whole : List (List ℕ × Option (List ℕ))) → ls ≡ v ∷ vs → ks ≡ u ∷ us
    → mid ≡ old ++ spell (sub_changes i r sub words v others u) → old ++ spell (set_from i r sub words others ls ks) ≡ whole → mid ++ spell (set_from i r (sub + 1) words others vs us) ≡ whole
next_set i r sub words others ls ks v u vs us old mid whole is others_are first all =
    next_adds old mid (sub_changes i r sub words v others u) (set_from i r (sub + 1) words others vs us) whole first
    (ap (λ (l : List (List ℕ)). old ++ spell (set_from i r sub words others l (u ∷ us))) (sym is) ∙ ap (λ (l : List (List ℕ)). old ++ spell (set_from i r sub words others ls l)) (sym others_are) ∙ all)

-- in one sub-index
pub nothing_set : (i : List ℕ) (r : ℤ) (n : ℕ) (words : List (List ℕ)) (u : List ℕ) (others : List (List ℕ)) (p : List ℕ) (old : List (List ℕ × Option (List ℕ))) → (same_words words others && same_list u p) ≡ true
    → old ≡ old ++ spell (sub_changes i r n words u others p)
nothing_set i r n words u others p old same = sym (ap (λ (b : Bool). old ++ spell (cond b [] (words_change i r n words false u ++ words_change i r n others true p))) same ∙ append-nil old)

pub another_set : {T E : Type 0} (i : List ℕ) (r : ℤ) (n : ℕ) (words : List (List ℕ)) (u : List ℕ) (others : List (List ℕ)) (p : List ℕ) (old mid new : List (List ℕ × Option (List ℕ))) (result : Result T E)
    → (same_words words others && same_list u p) ≡ false → mid ≡ old ++ spell (words_change i r n words false u) → Adds mid new result (words_change i r n others true p) → Adds old new result (sub_changes i r n words u others p)
another_set i r n words u others p old mid new (Ok x) other first then_ =
    adds_both old mid new (words_change i r n words false u) (words_change i r n others true p) first then_
    ∙ ap (λ (b : Bool). old ++ spell (cond b [] (words_change i r n words false u ++ words_change i r n others true p))) (sym other)
another_set i r n words u others p old mid new (Err e) other first then_ = tt
