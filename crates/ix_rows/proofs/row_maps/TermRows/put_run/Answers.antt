use Rattle.std.proofs.Common.{◌≡◌, ℕ, List, Some, None, sym, ap, ◌∙◌}
use Rattle.std.specs.Ordering.{nat_cmp}
use Rattle.std.specs.Cmp.Lexicographic.{slice_cmp}
use Rattle.std.specs.Map.{lookup, set_value}
use Rattle.std.specs.BTreeMap.{BTreeMap, insert_entry, is_at}
use Rattle.ct_base.specs.laws.Results.{on_ok}
use Rattle.ix_rows.specs.Growing.{Growing}
use Rattle.ix_rows.specs.Runs.{grown_run, with_run}
use Rattle.ix_rows.specs.laws.Runs.{no_run, run_comes}
use Rattle.ix_rows.proofs.MapSteps.{rows_there, rows_new}
use Rattle.ix_rows.proofs.row_maps.TermRows.put_run.Goals as goal

pub returns-then-is_empty : goal.returns-then-is_empty
returns-then-is_empty c = ap (λ (xs : List (ℕ × List ℕ)). with_run c.args.self.now c.args.term.now xs) (sym (no_run c.args.run.now (sym c.is_empty.ensures ∙ c.if-is_empty.true)))

pub returns-in-Some : goal.returns-in-Some
returns-in-Some c =
    let grow : Growing → Growing = λ g. grown_run g c.args.run.now in
    let old = c.self.inside.rows.entries in
    let new = (c.get_mut.follows.lender c.add_to.new.rows).entries in
    let written = c.get_mut.follows.holds c.add_to.new.rows in
    let found : lookup (is_at (λ x. slice_cmp nat_cmp c.args.term.now x)) old ≡ Some c.in-Some.rows.now =
    ap (λ (t : List ℕ). lookup (is_at (λ x. slice_cmp nat_cmp t x)) old) (sym c.in_ok-set.ensures) ∙ sym c.in-Some.ensures.value in
    let is : new ≡ set_value (is_at (λ x. slice_cmp nat_cmp c.args.term.now x)) old c.add_to.new.rows =
    written.0 ∙ ap (λ (t : List ℕ). set_value (is_at (λ x. slice_cmp nat_cmp t x)) old c.add_to.new.rows) c.in_ok-set.ensures in
    on_ok c.add_to.result _ _ (λ grows.
    rows_there old new c.args.term.now c.in-Some.rows.now c.add_to.new.rows c.args.self.now grow
    c.self.invariant written.4 c.self.view_is found is grows
    ∙ sym (run_comes c.args.self.now c.args.term.now c.args.run.now (sym c.is_empty.ensures ∙ c.if-is_empty.false)))
    c.add_to.ensures

pub returns-in_ok-insert-in-None : goal.returns-in_ok-insert-in-None
returns-in_ok-insert-in-None c =
    let grow : Growing → Growing = λ g. grown_run g c.args.run.now in
    let old = c.self.inside.rows.entries in
    let key = c.in_ok-of-in-None.field-0 in
    let found : lookup (is_at (λ x. slice_cmp nat_cmp c.args.term.now x)) old ≡ None =
    ap (λ (t : List ℕ). lookup (is_at (λ x. slice_cmp nat_cmp t x)) old) (sym c.in_ok-set.ensures) ∙ sym c.in-None.ensures.value in
    let entries = c.in_ok-insert-in-None.ensures.entries ∙ ap (λ (m : BTreeMap (List ℕ) Growing). insert_entry (slice_cmp nat_cmp) m.entries key c.in_ok-rows-in-None.rows) c.get_mut.follows.holds-at-none in
    rows_new old c.insert.new.self.entries key c.args.term.now c.in_ok-rows-in-None.rows c.args.self.now grow
    c.self.invariant c.in_ok-insert-in-None.ensures.ordered c.self.view_is found c.in_ok-of-in-None.ensures entries c.in_ok-rows-in-None.ensures
    ∙ sym (run_comes c.args.self.now c.args.term.now c.args.run.now (sym c.is_empty.ensures ∙ c.if-is_empty.false))
