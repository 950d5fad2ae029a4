use Rattle.std.proofs.Common.{[], arith, refl, sym, ◌∙◌}
use Rattle.std.specs.Prelude.{bytes_eq}
use Rattle.std.proofs.lemmas.Slice.Eq.{bytes_eq-Decides}
use Rattle.csv_table.proofs.FaultSteps.{follows_all, here, place_step, place_told}
use Rattle.csv_table.proofs.names.place_of_name.Goals as goal

pub names-init : goal.names-init
names-init c = (refl, omega arith, follows_all c.args.names.now)

pub names-preserved : goal.names-preserved
names-preserved c =
    place_step (bytes_eq c.args.name.now) c.args.names.now c.names.rest.now c.first-item.result c.in-len1-up.len_at_least c.first-item.is (sym c.is_same.ensures ∙ c.if-is_same.false) c.names.invariant

pub returns-then-is_same-clause-place : goal.returns-then-is_same-clause-place
returns-then-is_same-clause-place c = (here c.args.names.now c.names.rest.now c.first-item.result [] c.in-len1-up.len_at_least c.first-item.is c.names.invariant.2).0

pub returns-then-is_same-clause-name : goal.returns-then-is_same-clause-name
returns-then-is_same-clause-name c =
    (here c.args.names.now c.names.rest.now c.first-item.result [] c.in-len1-up.len_at_least c.first-item.is c.names.invariant.2).1
    ∙ sym ((bytes_eq-Decides c.args.name.now c.first-item.result).0 (sym c.is_same.ensures ∙ c.if-is_same.true))

pub returns-then-is_same-clause-told : goal.returns-then-is_same-clause-told
returns-then-is_same-clause-told c =
    place_told (bytes_eq c.args.name.now) c.args.names.now c.names.rest.now c.first-item.result c.in-len1-up.len_at_least c.first-item.is
    (sym c.is_same.ensures ∙ c.if-is_same.true) c.names.invariant.0
