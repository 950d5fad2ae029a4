use Rattle.std.proofs.Common.{◌≡◌, true, map, take, length, All}
use Rattle.ct_base.specs.Names.{IsName}
use Rattle.tb_table.specs.declared.columns.Column.{Column}
use Rattle.db_change.specs.Creating.{all_sized, column_of}
use Rattle.db_change.proofs.creating.kept_columns.Given as goal

abbrev pub invariant-loop-column : goal.invariant-loop-column
invariant-loop-column l = record {
  kept : all_sized l.columns ≡ true → l.kept.items ≡ map column_of (take l.column-index l.columns);
  same : length l.kept.items ≡ l.column-index;
  named : All (λ (k : Column). IsName k.name) l.kept.items;
}
