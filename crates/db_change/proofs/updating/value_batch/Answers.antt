use Rattle.std.proofs.Common.{◌∙◌, sym, subst, arith}
use Rattle.tb_table.specs.Shapes.{HaveShortTexts}
use Rattle.db_change.proofs.UpdateSteps.{few_after, short_texts}
use Rattle.db_change.proofs.updating.value_batch.Goals as goal

pub update-requires-clause-few : goal.update-requires-clause-few
update-requires-clause-few c = few_after c.args.columns.now c.args.assigns.now c.args.numbers.now c.deref.result.now c.requires.few (c.deref.ensures.value ∙ c.in_ok-numbers.ensures)

pub update-requires-clause-short : goal.update-requires-clause-short
update-requires-clause-short c = let few = c.requires.few in subst HaveShortTexts (sym (c.in_ok-texts.ensures (omega (arith, few)))) (short_texts c.args.assigns.now c.requires.short 1 c.args.columns.now)
