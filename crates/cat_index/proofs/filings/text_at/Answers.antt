use Rattle.std.proofs.Common.{◌≤◌, sym, ap, ◌∙◌, arith}
use Rattle.std.specs.Option.{option_and_then}
use Rattle.tb_table.specs.Tables.{as_text}
use Rattle.cat_index.proofs.FilingSteps.{text_got_at}
use Rattle.cat_index.proofs.filings.text_at.Goals as goal

pub returns : goal.returns
returns c =
    let behind : 1 ≤ c.args.column = omega arith in
    c.as_text.ensures ∙ ap (option_and_then as_text) c.value_got.ensures ∙ sym (text_got_at c.args.values.now c.args.column behind)
