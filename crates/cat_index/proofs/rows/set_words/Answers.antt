use Rattle.std.proofs.Common.{◌∙◌, sym, ap, Bool}
use Rattle.std.specs.Prelude.{◌&&◌}
use Rattle.ct_entry.specs.Keys.{same_list}
use Rattle.cat_index.proofs.RowSteps.{another_set, nothing_set}
use Rattle.cat_index.proofs.rows.set_words.Goals as goal

pub returns-then-stays : goal.returns-then-stays
returns-then-stays c =
    nothing_set c.args.index.now c.args.row.0 c.args.sub c.args.words.now c.args.values.now c.args.new_words.now c.args.new_values.now c.args.batch.now
    (ap (λ (b : Bool). b && same_list c.args.values.now c.args.new_values.now) (sym c.requires.same) ∙ sym c.stays.ensures ∙ c.if-stays.true)

pub returns : goal.returns
returns c =
    another_set c.args.index.now c.args.row.0 c.args.sub c.args.words.now c.args.values.now c.args.new_words.now c.args.new_values.now c.args.batch.now c.change_words.new.batch c.change_words-2.new.batch c.change_words-2.result
    (ap (λ (b : Bool). b && same_list c.args.values.now c.args.new_values.now) (sym c.requires.same) ∙ sym c.stays.ensures ∙ c.if-stays.false)
    c.in_ok-change_words.ensures c.change_words-2.ensures
