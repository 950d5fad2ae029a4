use Rattle.std.proofs.Common.{◌≡◌, ◌++◌}
use Rattle.db_rows.specs.Texts.{texts_among}
use Rattle.db_rows.proofs.reading.texts_of_columns.Given as goal

abbrev pub invariant-loop-text : goal.invariant-loop-text
invariant-loop-text l = l.kept.items ++ texts_among l.columns l.text-iterator.rest.items ≡ texts_among l.columns l.fn.texts.items
