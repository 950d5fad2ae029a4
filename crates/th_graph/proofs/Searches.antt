-- A term is found among terms that rise by a binary search, as a key is among keys that rise.
use Rattle.std.proofs.Common.{◌≡◌, ◌<◌, ◌≤◌, ℕ, true, List, length, Result, sym, subst, ◌∙◌}
use Rattle.std.specs.Result.{is_ok, IfErr, MatchResult}
use Rattle.std.specs.Ordering.{nat_cmp}
use Rattle.std.specs.Cmp.Lexicographic.{slice_cmp}
use Rattle.std.specs.List.Sorted.{IsBinarySearchResult}
use Rattle.tx_stop.proofs.SearchedKeys.{searched_keys}
use Rattle.th_graph.specs.Rising.{is_among_terms, rise, term_place}
use Rattle.th_graph.specs.laws.Rising.{among_as_keys, place_as_key, rise_as_keys}

pub record IsSearched (ts : List (List ℕ)) (t : List ℕ) (r : Result ℕ ℕ) : Type 0 where
  pub found : is_ok r ≡ is_among_terms t ts
  pub place : IfErr r (λ i. i ≡ term_place t ts)

pub searched_terms : (ts : List (List ℕ)) (t : List ℕ) (r : Result ℕ ℕ) → rise ts ≡ true → MatchResult r (λ i. i < length ts) (λ i. i ≤ length ts) → IsBinarySearchResult (λ k. slice_cmp nat_cmp k t) ts r → IsSearched ts t r
searched_terms ts t r rises within is =
    let keys = searched_keys ts t r (sym (rise_as_keys ts) ∙ rises) within is in
    record { found = keys.found ∙ sym (among_as_keys t ts); place = subst (λ (n : ℕ). IfErr r (λ i. i ≡ n)) (sym (place_as_key t ts)) keys.place }
