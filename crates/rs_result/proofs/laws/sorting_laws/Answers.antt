use Rattle.rs_result.specs.laws.Sorting.{in_order_stays, one_order, sorted_agrees, sorted_in_order, sorted_length, sorted_permutes}
use Rattle.rs_result.proofs.laws.sorting_laws.Goals as goal

pub returns-clause-members : goal.returns-clause-members
returns-clause-members g c = sorted_permutes

pub returns-clause-count : goal.returns-clause-count
returns-clause-count g c = sorted_length

pub returns-clause-order : goal.returns-clause-order
returns-clause-order g c = λ cmp xs order. sorted_in_order cmp order xs

pub returns-clause-stays : goal.returns-clause-stays
returns-clause-stays g c = in_order_stays

pub returns-clause-only : goal.returns-clause-only
returns-clause-only g c = λ cmp xs total. one_order cmp total xs

pub returns-clause-agree : goal.returns-clause-agree
returns-clause-agree g c = sorted_agrees
