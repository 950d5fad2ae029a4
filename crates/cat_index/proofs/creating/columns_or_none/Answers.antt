use Rattle.std.proofs.Common.{Option, Vec, sym, ap, ◌∙◌}
use Rattle.std.specs.declared.alloc.Global.{Global}
use Rattle.std.specs.Option.{option_map}
use Rattle.ct_entry.specs.Keys.{at}
use Rattle.tb_table.specs.declared.columns.Column.{Column}
use Rattle.tb_table.specs.laws.Reading.{columns_read}
use Rattle.cat_index.proofs.CreateSteps.{some_columns, no_columns}
use Rattle.cat_index.proofs.creating.columns_or_none.Goals as goal

pub returns-in_default-clause-columns : goal.returns-in_default-clause-columns
returns-in_default-clause-columns g c = λ m ts holds only stand are.
    c.new.ensures.items ∙ no_columns ts c.args.table.now
    (sym (ap (λ (o : Option (Vec Column Global)). option_map (λ v. v.items) o) c.in_default.is) ∙ columns_read (at m) ts stand are c.args.table.now _ (c.in_ok-columns.ensures.value m holds))

pub returns-clause-columns : goal.returns-clause-columns
returns-clause-columns g c = λ m ts holds only stand are.
    some_columns ts c.args.table.now c.in-Some.columns.items
    (sym (ap (λ (o : Option (Vec Column Global)). option_map (λ v. v.items) o) c.in-Some.is) ∙ columns_read (at m) ts stand are c.args.table.now _ (c.in_ok-columns.ensures.value m holds))
