use Rattle.std.proofs.Common.{◌≡◌, ◌-◌, length, take}
use Rattle.csv.specs.Records.{fields_of}
use Rattle.csv_table.proofs.texts.texts_of.Given as goal

abbrev pub invariant-fields : goal.invariant-fields
invariant-fields l = l.texts.items ≡ take (length l.texts.items) (fields_of l.record)

abbrev pub decreases-fields : goal.decreases-fields
decreases-fields l = length (fields_of l.record) - length l.texts.items
