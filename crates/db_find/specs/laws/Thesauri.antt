-- A query means by the thesauri that it names what it means by all that the state has: each of its operators finds the same by its name.
use Rattle.std.proofs.Common.{◌≡◌, ℕ, Bool, true, false, cond, List, [], ◌∷◌, ◌++◌, map, Option, Some, None, refl, sym, ap, ◌∙◌}
use Rattle.std.specs.Prelude.{◌||◌, bytes_eq}
use Rattle.std.specs.List.{list_any}
use Rattle.std.specs.Option.{option_map}
use Rattle.std.specs.FinMap.{entries, find, get, get-entries}
use Rattle.std.specs.Ordering.{eq_by_cmp, nat_cmp}
use Rattle.std.specs.Cmp.Lexicographic.{slice_cmp}
use Rattle.std.proofs.lemmas.Map.Text.{is_eq-slice_cmp}
use Rattle.std.proofs.lemmas.Bool.{false≢true}
use Rattle.std.proofs.lemmas.Slice.Eq.{bytes_eq-Decides}
use Rattle.std.proofs.lemmas.List.Folds.{list_any-append}
use Rattle.q_tree.specs.Trees.{Tree}
use Rattle.q_reduce.specs.Naming.{names_in, thesauri_in, with_thesaurus_name, with_thesaurus_names}
use Rattle.q_reduce.specs.Reducing.{thesaurus_named}
use Rattle.q_reduce.specs.laws.Named.{FindSame, same_faults, same_reduced}
use Rattle.th_graph.specs.declared.pairs.TermPair.{TermPair}
use Rattle.th_graph.specs.laws.Rising.{other_way}
use Rattle.tx_settings.specs.declared.preferences.Prefs.{Prefs}
use Rattle.th_store.specs.Thesauri.{PairSet, Thesauri, pairs_of}
use Rattle.db_find.specs.Thesauri.{NamedPairs, all_thesauri, found_thesaurus, thesauri_of}
use Rattle.db_find.specs.Querying.{meaning_by, meaning_of_reduction, meaning_of_tree, reduction_context}

-- ---- the names of a query

-- one that is among them stays
among_stays : (n m : List ℕ) (names : List (List ℕ)) → list_any (bytes_eq n) names ≡ true → list_any (bytes_eq n) (with_thesaurus_name names m) ≡ true
among_stays n m names there = go (list_any (bytes_eq m) names)
  where
    go : (b : Bool) → list_any (bytes_eq n) (cond b names (names ++ m ∷ [])) ≡ true
    go true = there
    go false = list_any-append (bytes_eq n) names (m ∷ []) ∙ ap (λ (b : Bool). b || list_any (bytes_eq n) (m ∷ [])) there

-- and the new one is
among_now : (n m : List ℕ) (names : List (List ℕ)) → bytes_eq n m ≡ true → list_any (bytes_eq n) (with_thesaurus_name names m) ≡ true
among_now n m names same = go (list_any (bytes_eq m) names) refl
  where
    last : (a : Bool) → (a || (true || false)) ≡ true
    last true = refl
    last false = refl

    go : (b : Bool) → list_any (bytes_eq m) names ≡ b → list_any (bytes_eq n) (cond b names (names ++ m ∷ [])) ≡ true
    go true there = ap (λ (x : List ℕ). list_any (bytes_eq x) names) ((bytes_eq-Decides n m).0 same) ∙ there
    go false none = list_any-append (bytes_eq n) names (m ∷ []) ∙ ap (λ (b : Bool). list_any (bytes_eq n) names || (b || false)) same ∙ last (list_any (bytes_eq n) names)

all_stay : (n : List ℕ) (names ms : List (List ℕ)) → list_any (bytes_eq n) names ≡ true → list_any (bytes_eq n) (with_thesaurus_names names ms) ≡ true
all_stay n names [] there = there
all_stay n names (m ∷ ms) there = all_stay n (with_thesaurus_name names m) ms (among_stays n m names there)

each_named : (n : List ℕ) (names ms : List (List ℕ)) → list_any (bytes_eq n) ms ≡ true → list_any (bytes_eq n) (with_thesaurus_names names ms) ≡ true
each_named n names [] there = absurd (false≢true there)
each_named n names (m ∷ ms) there = go (bytes_eq n m) refl there (λ later. each_named n (with_thesaurus_name names m) ms later)
  where
    go : (b : Bool) → bytes_eq n m ≡ b → (b || list_any (bytes_eq n) ms) ≡ true
        → (list_any (bytes_eq n) ms ≡ true → list_any (bytes_eq n) (with_thesaurus_names (with_thesaurus_name names m) ms) ≡ true)
        → list_any (bytes_eq n) (with_thesaurus_names (with_thesaurus_name names m) ms) ≡ true
    go true same there rest = all_stay n (with_thesaurus_name names m) ms (among_now n m names same)
    go false other there rest = rest there

-- ---- what is at hand

abbrev first_of : Option (List TermPair) → Option (List TermPair) → Option (List TermPair)
first_of None o = o
first_of (Some ps) o = Some ps

one_more : (o : Option (List TermPair)) (m n : List ℕ) (rest : List NamedPairs) → thesaurus_named n (found_thesaurus m o ++ rest) ≡ first_of (cond (bytes_eq m n) o None) (thesaurus_named n rest)
one_more None m n rest = go (bytes_eq m n)
  where
    go : (b : Bool) → thesaurus_named n rest ≡ first_of (cond b None None) (thesaurus_named n rest)
    go true = refl
    go false = refl
one_more (Some ps) m n rest = go (bytes_eq m n)
  where
    go : (b : Bool) → cond b (Some ps) (thesaurus_named n rest) ≡ first_of (cond b (Some ps) None) (thesaurus_named n rest)
    go true = refl
    go false = refl

module _ (ts : Thesauri) (n : List ℕ) where
  -- what the state hasn't isn't at hand
  none_at_hand : get ts n ≡ None → (names : List (List ℕ)) → thesaurus_named n (thesauri_of ts names) ≡ None
  none_at_hand none [] = refl
  none_at_hand none (m ∷ ms) = one_more (option_map pairs_of (get ts m)) m n (thesauri_of ts ms) ∙ go (bytes_eq m n) refl (none_at_hand none ms)
    where
      go : (b : Bool) → bytes_eq m n ≡ b → thesaurus_named n (thesauri_of ts ms) ≡ None → first_of (cond b (option_map pairs_of (get ts m)) None) (thesaurus_named n (thesauri_of ts ms)) ≡ None
      go true same rest =
          let here : get ts m ≡ None = ap (get ts) ((bytes_eq-Decides m n).0 same) ∙ none in
          ap (λ (o : Option PairSet). first_of (option_map pairs_of o) (thesaurus_named n (thesauri_of ts ms))) here ∙ rest
      go false other rest = rest

  -- what it has is, where it is named
  some_at_hand : (ps : PairSet) → get ts n ≡ Some ps → (names : List (List ℕ)) → list_any (bytes_eq n) names ≡ true → thesaurus_named n (thesauri_of ts names) ≡ Some (pairs_of ps)
  some_at_hand ps is [] there = absurd (false≢true there)
  some_at_hand ps is (m ∷ ms) there = one_more (option_map pairs_of (get ts m)) m n (thesauri_of ts ms) ∙ go (bytes_eq m n) refl (ap (λ (b : Bool). b || list_any (bytes_eq n) ms) (other_way m n) ∙ there) (some_at_hand ps is ms)
    where
      go : (b : Bool) → bytes_eq m n ≡ b → (b || list_any (bytes_eq n) ms) ≡ true → (list_any (bytes_eq n) ms ≡ true → thesaurus_named n (thesauri_of ts ms) ≡ Some (pairs_of ps))
          → first_of (cond b (option_map pairs_of (get ts m)) None) (thesaurus_named n (thesauri_of ts ms)) ≡ Some (pairs_of ps)
      go true same there rest =
          let here : get ts m ≡ Some ps = ap (get ts) ((bytes_eq-Decides m n).0 same) ∙ is in
          ap (λ (o : Option PairSet). first_of (option_map pairs_of o) (thesaurus_named n (thesauri_of ts ms))) here
      go false other there rest = rest there

  at_hand : (names : List (List ℕ)) → list_any (bytes_eq n) names ≡ true → thesaurus_named n (thesauri_of ts names) ≡ option_map pairs_of (get ts n)
  at_hand names there = go (get ts n) refl
    where
      go : (o : Option PairSet) → get ts n ≡ o → thesaurus_named n (thesauri_of ts names) ≡ option_map pairs_of o
      go None e = none_at_hand e names
      go (Some ps) e = some_at_hand ps e names there

-- what an operator finds by its name, among the thesauri that its query names, is what the state has under the name
pub named_is_stored : (ts : Thesauri) (t : Tree) (n : List ℕ) → list_any (bytes_eq n) (names_in t) ≡ true → thesaurus_named n (thesauri_of ts (thesauri_in t)) ≡ option_map pairs_of (get ts n)
named_is_stored ts t n there = at_hand ts n (thesauri_in t) (each_named n [] (names_in t) there)

-- ---- as if all were at hand

find_named : (n : List ℕ) (es : List (List ℕ × PairSet)) → thesaurus_named n (map {B = NamedPairs} (λ e. (e.0, pairs_of e.1)) es) ≡ option_map pairs_of (find (slice_cmp nat_cmp) n es)
find_named n [] = refl
find_named n (e ∷ es) =
    ap (λ (b : Bool). cond b (Some (pairs_of e.1)) (thesaurus_named n (map {B = NamedPairs} (λ d. (d.0, pairs_of d.1)) es))) (other_way e.0 n ∙ sym (is_eq-slice_cmp n e.0))
    ∙ go (eq_by_cmp (slice_cmp nat_cmp) n e.0) (find_named n es)
  where
    go : (b : Bool) → thesaurus_named n (map {B = NamedPairs} (λ d. (d.0, pairs_of d.1)) es) ≡ option_map pairs_of (find (slice_cmp nat_cmp) n es)
        → cond b (Some (pairs_of e.1)) (thesaurus_named n (map {B = NamedPairs} (λ d. (d.0, pairs_of d.1)) es)) ≡ option_map pairs_of (cond b (Some e.1) (find (slice_cmp nat_cmp) n es))
    go true rest = refl
    go false rest = rest

among_all : (ts : Thesauri) (n : List ℕ) → thesaurus_named n (all_thesauri ts) ≡ option_map pairs_of (get ts n)
among_all ts n = find_named n (entries ts) ∙ ap (option_map pairs_of) (sym (get-entries ts n))

-- WHAT A QUERY MEANS, though only the thesauri that it names are looked up, is what it means by all thesauri of the state.
pub meaning_by_all : (p : Prefs) (ts : Thesauri) (t : Tree) → meaning_of_tree p ts t ≡ meaning_by p (all_thesauri ts) t
meaning_by_all p ts t =
    let same : FindSame (names_in t) (thesauri_of ts (thesauri_in t)) (all_thesauri ts) = λ n there. named_is_stored ts t n there ∙ sym (among_all ts n) in
    let x = reduction_context p (thesauri_of ts (thesauri_in t)) in
    λ i. meaning_of_reduction (same_faults x (all_thesauri ts) false t same i) (same_reduced x (all_thesauri ts) t same i)
