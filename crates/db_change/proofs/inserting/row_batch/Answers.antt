use Rattle.std.proofs.Common.{◌≡◌, List, length, ap, ◌∙◌, arith}
use Rattle.tb_table.specs.Shapes.{HasTableValue}
use Rattle.db_change.proofs.ShapeSteps.{few_numbers, have_short_texts, shaped_alone}
use Rattle.std.specs.List.{filter_map}
use Rattle.st_parse.specs.declared.statements.Operand.{Operand}
use Rattle.db_change.specs.Inserting.{number_value}
use Rattle.db_change.proofs.KeptValues.{changes_kept}
use Rattle.db_change.proofs.inserting.row_batch.Goals as goal

pub returns-clause-changes : goal.returns-clause-changes
returns-clause-changes c = λ few.
    changes_kept c.args.table.now c.args.row.0 c.args.values.items c.deref.result.now c.in_ok-texts.texts.items c.new-batch.result c.insert.new.batch c.new-batch.ensures c.in_ok-insert.ensures.ok
    (c.deref.ensures.value ∙ c.in_ok-numbers.ensures ∙ ap (λ (vs : List Operand). filter_map number_value vs) c.as_slice.ensures.value)
    (c.in_ok-texts.ensures few)

pub insert-requires : goal.insert-requires
insert-requires c =
    let numbers : c.deref.result.now ≡ filter_map number_value c.args.values.items =
    c.deref.ensures.value ∙ c.in_ok-numbers.ensures ∙ ap (λ (vs : List Operand). filter_map number_value vs) c.as_slice.ensures.value in
    let same = ap length numbers in
    let fewer = few_numbers c.args.values.items in
    record {
      few = omega (arith, same, fewer, c.requires.few);
      short = have_short_texts c.args.values.items c.in_ok-texts.texts.items c.in_ok-texts.ensures c.requires.few c.requires.short;
    }

pub returns-clause-shaped : goal.returns-clause-shaped
returns-clause-shaped c = shaped_alone HasTableValue _ _ _ c.new-batch.ensures c.in_ok-insert.ensures.ok c.in_ok-insert.ensures.shaped
