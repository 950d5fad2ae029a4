use Rattle.std.proofs.Common.{◌≡◌, ℕ, List, Some, None, sym, ap, ◌∙◌}
use Rattle.std.specs.Ordering.{nat_cmp}
use Rattle.std.specs.Cmp.Lexicographic.{slice_cmp}
use Rattle.std.specs.Map.{lookup, set_value}
use Rattle.std.specs.BTreeMap.{BTreeMap, insert_entry, is_at}
use Rattle.ct_base.specs.laws.Results.{on_ok}
use Rattle.ix_rows.specs.Growing.{Growing, with_grown_document}
use Rattle.ix_rows.proofs.MapSteps.{rows_there, rows_new}
use Rattle.ix_rows.proofs.row_maps.TermRows.put.Goals as goal

pub returns-in-Some : goal.returns-in-Some
returns-in-Some c =
    let grow : Growing → Growing = λ g. with_grown_document g c.args.document c.args.places.now in
    let old = c.self.inside.rows.entries in
    let new = (c.get_mut.follows.lender c.add.new.self).entries in
    let written = c.get_mut.follows.holds c.add.new.self in
    let found : lookup (is_at (λ x. slice_cmp nat_cmp c.args.term.now x)) old ≡ Some c.in-Some.rows.now =
    ap (λ (t : List ℕ). lookup (is_at (λ x. slice_cmp nat_cmp t x)) old) (sym c.in_ok-set.ensures) ∙ sym c.in-Some.ensures.value in
    let is : new ≡ set_value (is_at (λ x. slice_cmp nat_cmp c.args.term.now x)) old c.add.new.self =
    written.0 ∙ ap (λ (t : List ℕ). set_value (is_at (λ x. slice_cmp nat_cmp t x)) old c.add.new.self) c.in_ok-set.ensures in
    on_ok c.add.result _ _ (λ grows.
    rows_there old new c.args.term.now c.in-Some.rows.now c.add.new.self c.args.self.now grow
    c.self.invariant written.4 c.self.view_is found is grows)
    c.add.ensures

pub returns-in_ok-insert-in-None : goal.returns-in_ok-insert-in-None
returns-in_ok-insert-in-None c =
    let grow : Growing → Growing = λ g. with_grown_document g c.args.document c.args.places.now in
    let old = c.self.inside.rows.entries in
    let key = c.in_ok-of-in-None.field-0 in
    let found : lookup (is_at (λ x. slice_cmp nat_cmp c.args.term.now x)) old ≡ None =
    ap (λ (t : List ℕ). lookup (is_at (λ x. slice_cmp nat_cmp t x)) old) (sym c.in_ok-set.ensures) ∙ sym c.in-None.ensures.value in
    let entries = c.in_ok-insert-in-None.ensures.entries ∙ ap (λ (m : BTreeMap (List ℕ) Growing). insert_entry (slice_cmp nat_cmp) m.entries key c.in_ok-rows-in-None.rows) c.get_mut.follows.holds-at-none in
    rows_new old c.insert.new.self.entries key c.args.term.now c.in_ok-rows-in-None.rows c.args.self.now grow
    c.self.invariant c.in_ok-insert-in-None.ensures.ordered c.self.view_is found c.in_ok-of-in-None.ensures entries c.in_ok-rows-in-None.ensures
