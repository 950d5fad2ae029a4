use Rattle.std.proofs.Common.{sym, ◌∙◌}
use Rattle.tb_table.proofs.ColumnSteps.{no_text, no_name, no_sort, column_made, sort_within}
use Rattle.tb_table.proofs.reading.read_column.Goals as goal

pub returns-in_default-clause-none : goal.returns-in_default-clause-none
returns-in_default-clause-none c = no_text c.args.bytes.now c.args.at c.in_default.ensures.none

pub returns-in_default-2-clause-none : goal.returns-in_default-2-clause-none
returns-in_default-2-clause-none c = no_name c.args.bytes.now c.args.at c.in-Some.text.now c.in-Some.start c.in-Some.ensures.some (sym c.in_ok-name.ensures ∙ c.in_default-2.is)

pub returns-in_default-read_sort-clause-none : goal.returns-in_default-read_sort-clause-none
returns-in_default-read_sort-clause-none c = no_sort c.args.bytes.now c.args.at c.in-Some.text.now c.in-Some.start c.in-Some.ensures.some c.in_default-read_sort.ensures.none

pub returns-clause-some : goal.returns-clause-some
returns-clause-some c =
    column_made c.args.bytes.now c.args.at c.in-Some.text.now c.in-Some-2.name c.in-Some.start c.in-Some-read_sort.sort
    c.in-Some.ensures.some (sym c.in_ok-name.ensures ∙ c.in-Some-2.is) c.in-Some-read_sort.ensures.size c.in-Some-read_sort.ensures.some

pub returns-clause-within : goal.returns-clause-within
returns-clause-within c = sort_within c.args.bytes.now c.in-Some.start c.in-Some-read_sort.sort c.in-Some-read_sort.ensures.some
