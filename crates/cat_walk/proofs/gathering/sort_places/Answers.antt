use Rattle.std.proofs.Common.{◌≡◌, ℕ, List, rules, of_calls, sym, ap, ◌∙◌}
use Rattle.std.specs.Str.{bytes_eq}
use Rattle.std.specs.List.{dedup}
use Rattle.std.specs.List.Sorted.{IsSorted}
use Rattle.std.specs.Ordering.{nat_cmp, is_lt}
use Rattle.std.specs.Cmp.Lexicographic.{slice_cmp}
use Rattle.std.proofs.lemmas.Cmp.{nat_list_cmp_total}
use Rattle.std.proofs.lemmas.Fn.{always_returns_same, dedup_same}
use Rattle.std.proofs.lemmas.List.Kept.{IsStrictlySortedBy-dedup}
use Rattle.std.proofs.lemmas.List.Sorted.{list_any-IsPermutation, ranks_by}
use Rattle.std.proofs.lemmas.Map.Text.{is_eq-slice_cmp}
use Rattle.ct_entry.specs.Keys.{same_list}
use Rattle.cat_walk.specs.Places.{is_listed, places_rise}
use Rattle.cat_walk.proofs.Listing.{rise_from_sorted}
use Rattle.cat_walk.proofs.Sorting.{listed_once}
use Rattle.cat_walk.proofs.gathering.sort_places.Goals as goal
use Rattle.cat_walk.proofs.gathering.sort_places.Goals.{After-dedup_by}

once : (c : After-dedup_by) → c.dedup_by.new.self.items ≡ dedup bytes_eq c.sort_unstable_by.new.self.items
once c = dedup_same _ bytes_eq _ (λ x y b f' x' y' k. search (rules, of_calls)) _ _ c.dedup_by.ensures.filtered

pub returns-clause-rise : goal.returns-clause-rise
returns-clause-rise c =
    let sorted : IsSorted (slice_cmp nat_cmp) c.sort_unstable_by.new.self.items =
    c.sort_unstable_by.ensures.sorted (λ x y. is_lt (slice_cmp nat_cmp x y)) (ranks_by nat_list_cmp_total (λ x. x)) (always_returns_same _ _ _ (λ a r f k. search (rules, of_calls))) in
    ap places_rise (once c) ∙ rise_from_sorted _ (IsStrictlySortedBy-dedup nat_list_cmp_total (λ x y. sym (is_eq-slice_cmp x y)) c.sort_unstable_by.new.self.items sorted)

pub returns-clause-same : goal.returns-clause-same
returns-clause-same c = λ place.
    ap (λ (ps : List (List ℕ)). is_listed ps place) (once c)
    ∙ listed_once place c.sort_unstable_by.new.self.items
    ∙ sym (list_any-IsPermutation (same_list place) c.args.places.now.items c.sort_unstable_by.new.self.items c.sort_unstable_by.ensures.permutation)
