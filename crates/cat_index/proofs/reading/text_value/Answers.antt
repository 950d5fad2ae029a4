use Rattle.std.proofs.Common.{ap, ◌∙◌, rules}
use Rattle.std.specs.Option.{option_map}
use Rattle.ct_base.specs.declared.lists.Value.TheVariants.{Text as TextValue}
use Rattle.ct_entry.specs.Keys.{at, IsRow}
use Rattle.tb_table.specs.laws.Reading.{text_read}
use Rattle.cat_index.proofs.reading.text_value.Goals as goal

pub returns-clause-value : goal.returns-clause-value
returns-clause-value g c = λ m ts holds only stand are small.
    let row : IsRow c.args.row.0 = search rules in
    c.text_as_value.ensures ∙ ap (option_map TextValue) (text_read (at m) ts stand are c.args.table.now c.args.place c.args.row.0 small row c.in_ok-text.text (c.in_ok-text.ensures.value m holds))
