use Rattle.std.proofs.Common.{rules, ℤ, Option, Vec, subst, ◌∙◌}
use Rattle.std.specs.Option.{option_map}
use Rattle.std.specs.declared.alloc.Global.{Global}
use Rattle.ct_entry.specs.declared.kinds.Kind.TheVariants as kind
use Rattle.ct_entry.specs.Keys.{IsRow, at, key, row_part}
use Rattle.tb_table.specs.Readings.{SpellsNumbers}
use Rattle.db_rows.proofs.RowReads.{numbers_are, numbers_none}
use Rattle.db_rows.proofs.reading.row_numbers.Goals as goal

pub returns-in-Some-clause-numbers : goal.returns-in-Some-clause-numbers
returns-in-Some-clause-numbers g c = λ m k holds stands.
    let t = c.args.table.now in
    let r : ℤ = c.args.row.0 in
    let row : IsRow r = search rules in
    numbers_are m k stands t r row c.in-Some.numbers.items
    (subst (λ (o : Option (Vec ℤ Global)). SpellsNumbers (at k (key kind.RowNumbers t (row_part r))) (option_map (λ v. v.items) o)) c.in-Some.is (c.in_ok-numbers.ensures.value k holds))

pub returns-in-None-clause-numbers : goal.returns-in-None-clause-numbers
returns-in-None-clause-numbers g c = λ m k holds stands.
    let t = c.args.table.now in
    let r : ℤ = c.args.row.0 in
    let row : IsRow r = search rules in
    c.new.ensures.items
    ∙ numbers_none m k stands t r row
    (subst (λ (o : Option (Vec ℤ Global)). SpellsNumbers (at k (key kind.RowNumbers t (row_part r))) (option_map (λ v. v.items) o)) c.in-None.is (c.in_ok-numbers.ensures.value k holds))
