use Rattle.cat_index.proofs.ShapeSteps.{is_word, no_row}
use Rattle.cat_index.proofs.shapes.is_word_part.Goals as goal

pub returns-in_default-split_last_eight : goal.returns-in_default-split_last_eight
returns-in_default-split_last_eight c =
    no_row c.args.part.now c.in-Some.rest.now c.in-Some-split_counted.word.now c.in-Some-split_counted.behind.now c.in-Some.sub.now c.in-Some.ensures.cases.0 c.in-Some-split_counted.ensures.splits c.in_default-split_last_eight.ensures

pub returns : goal.returns
returns c =
    let counted = c.in-Some-split_counted in
    let last = c.in-Some-split_last_eight in
    is_word c.args.part.now c.in-Some.rest.now counted.word.now counted.behind.now last.values.now last.row.now c.in-Some.sub.now c.are_word_parts.result
    c.in-Some.ensures.cases.0 counted.ensures.splits counted.ensures.short last.ensures c.are_word_parts.ensures
