use Rattle.std.proofs.Common.{ℕ, ℤ, List, Vec, map, ap, ◌∙◌}
use Rattle.std.specs.Prelude.{◌||◌, is_some}
use Rattle.std.specs.declared.alloc.Global.{Global}
use Rattle.std.specs.FinMap.{get}
use Rattle.std.specs.List.{list_any}
use Rattle.std.specs.Ordering.{int_eq}
use Rattle.ct_base.specs.declared.numbers.RowKey.{RowKey}
use Rattle.ct_entry.specs.declared.kinds.Kind.TheVariants as kind
use Rattle.ct_entry.specs.Listings.{owner_entries, rows_of}
use Rattle.rule_index.proofs.matching.add_filed.Goals as goal

pub returns-clause-rows : goal.returns-clause-rows
returns-clause-rows g c = λ m holds r.
    let found = ap (λ (l : List (Vec ℕ Global × Vec ℕ Global)). map (λ e. (e.0.items, e.1.items)) l) c.as_slice-listed.ensures.value ∙ c.in_ok-found.ensures.entries m holds in
    let prefix = ap (λ (p : List ℕ). owner_entries kind.Anchors c.args.index.now p m) (c.as_slice-start.ensures.value ∙ c.in_ok-prefix.ensures) in
    let keys = ap (λ (l : List RowKey). map (λ (k : RowKey). k.0) l) c.as_slice-more.ensures.value ∙ c.in_ok-keys.ensures ∙ ap rows_of (found ∙ prefix) in
    c.in_ok-put_all.ensures r ∙ ap (λ (l : List ℤ). is_some (get c.args.rows.now r) || list_any (int_eq r) l) keys
