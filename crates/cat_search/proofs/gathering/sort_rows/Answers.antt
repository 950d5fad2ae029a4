use Rattle.std.proofs.Common.{◌≡◌, List, rules, of_calls, refl, sym, ap, ◌∙◌}
use Rattle.std.specs.List.{dedup}
use Rattle.std.specs.List.Sorted.{IsSorted}
use Rattle.std.specs.Ordering.{int_cmp, is_lt, eq_by_cmp}
use Rattle.std.proofs.lemmas.Cmp.{int_cmp_total, on_total}
use Rattle.std.proofs.lemmas.Fn.{always_returns_same, dedup_same}
use Rattle.std.proofs.lemmas.List.Kept.{IsStrictlySortedBy-dedup}
use Rattle.std.proofs.lemmas.List.Sorted.{list_any-IsPermutation, ranks_by}
use Rattle.ct_base.specs.declared.numbers.RowKey.{RowKey}
use Rattle.ct_entry.specs.laws.Rows.{keys_rise_by}
use Rattle.cat_search.specs.SubIndexes.{is_row_among}
use Rattle.cat_search.proofs.RowLists.{among_rows, kept_once, key_cmp, keys_of, rise_from_sorted}
use Rattle.cat_search.proofs.gathering.sort_rows.Goals as goal
use Rattle.cat_search.proofs.gathering.sort_rows.Goals.{After-dedup_by}

once : (c : After-dedup_by) → c.dedup_by.new.self.items ≡ dedup (eq_by_cmp key_cmp) c.sort_unstable_by.new.self.items
once c = dedup_same _ (eq_by_cmp key_cmp) _ (λ x y b f' x' y' k. search (rules, of_calls)) _ _ c.dedup_by.ensures.filtered

pub returns-clause-rise : goal.returns-clause-rise
returns-clause-rise c =
    let sorted : IsSorted key_cmp c.sort_unstable_by.new.self.items =
    c.sort_unstable_by.ensures.sorted (λ x y. is_lt (key_cmp x y)) (ranks_by int_cmp_total (λ (r : RowKey). r.0)) (always_returns_same _ _ _ (λ a r f k. search (rules, of_calls))) in
    ap (λ (rs : List RowKey). keys_rise_by int_cmp (keys_of rs)) (once c)
    ∙ rise_from_sorted _ (IsStrictlySortedBy-dedup (on_total (λ (r : RowKey). r.0) int_cmp_total) (λ x y. refl) c.sort_unstable_by.new.self.items sorted)

pub returns-clause-same : goal.returns-clause-same
returns-clause-same c = λ r.
    ap (λ (rs : List RowKey). is_row_among r (keys_of rs)) (once c)
    ∙ kept_once r c.sort_unstable_by.new.self.items
    ∙ among_rows r c.sort_unstable_by.new.self.items
    ∙ sym (list_any-IsPermutation (λ (k : RowKey). eq_by_cmp int_cmp r k.0) c.args.rows.now.items c.sort_unstable_by.new.self.items c.sort_unstable_by.ensures.permutation)
    ∙ sym (among_rows r c.args.rows.now.items)
