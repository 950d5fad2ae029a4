use Rattle.std.proofs.Common.{FitsSigned, w64, rules}
use Rattle.std.proofs.lemmas.Result.{on_ok_weaker}
use Rattle.tb_table.specs.laws.Shapes.{insert_shaped}
use Rattle.tb_table.proofs.changes.insert.Goals as goal

pub returns-clause-shaped : goal.returns-clause-shaped
returns-clause-shaped c =
    let row : FitsSigned w64 c.args.key.0 = search rules in
    on_ok_weaker c.append.result
    (λ _. insert_shaped c.args.table.now c.args.key.0 c.args.numbers.now c.args.texts.items c.as_str-named.ensures.name row c.in_ok-value.ensures.fit c.requires.few c.in_ok-put_texts.ensures.texts c.requires.short)
    c.append.ensures.ok
