use Rattle.std.proofs.Common.{List, ℤ, Option, Vec, ap, ◌∙◌, arith, rules}
use Rattle.std.specs.declared.alloc.Global.{Global}
use Rattle.std.specs.Option.{option_map}
use Rattle.ct_entry.specs.Keys.{at, IsRow}
use Rattle.ct_keep.specs.laws.Composing.{reads_hold}
use Rattle.tb_table.specs.Rules.{others}
use Rattle.tb_table.specs.laws.Reading.{numbers_read}
use Rattle.cat_index.proofs.ReadSteps.{no_key, no_numbers, some_numbers}
use Rattle.cat_index.proofs.reading.row_values.Goals as goal

-- the numbers that were found
abbrev found_numbers : Option (Vec ℤ Global) → Option (List ℤ)
found_numbers found = option_map (λ (v : Vec ℤ Global). v.items) found

pub returns-in_default-clause-values : goal.returns-in_default-clause-values
returns-in_default-clause-values g c = λ m ts holds only stand are x vs here columns there.
    absurd (no_key x c.args.columns.now (are.each c.args.table.now x here) columns (omega (arith, c.in_default.ensures.cases)))

pub returns-in_default-2-clause-values : goal.returns-in_default-2-clause-values
returns-in_default-2-clause-values g c = λ m ts holds only stand are x vs here columns there.
    let row : IsRow c.args.row.0 = search rules in
    absurd (no_numbers ts c.args.table.now x c.args.row.0 vs _ (numbers_read (at m) ts stand are c.args.table.now c.args.row.0 row _ (c.in_ok-numbers.ensures.value m holds)) (ap found_numbers c.in_default-2.is) here there)

pub returns-clause-values : goal.returns-clause-values
returns-clause-values g c = λ m ts holds only stand are x vs here columns there.
    let row : IsRow c.args.row.0 = search rules in
    c.values_behind_key.ensures.values m ts (reads_hold _ _ m c.in_ok-numbers.ensures.reads holds) only stand are x vs here (ap others (columns ∙ c.in-Some.ensures.cases.0)) there
    (c.deref.ensures.value ∙ some_numbers ts c.args.table.now x c.args.row.0 vs _ c.in-Some-2.numbers.items (numbers_read (at m) ts stand are c.args.table.now c.args.row.0 row _ (c.in_ok-numbers.ensures.value m holds)) (ap found_numbers c.in-Some-2.is) here there)
