use Rattle.std.proofs.Common.{rules, arith, ap, ◌∙◌, ◌∷◌}
use Rattle.rs_result.specs.Pieces.{pieces}
use Rattle.rs_result.proofs.Cuts.{cut_here, uncut_on, never_cut, nothing_left}
use Rattle.rs_result.proofs.pieces.cut.Goals as goal

pub returns-then-is_separator-clause-pieces : goal.returns-then-is_separator-clause-pieces
returns-then-is_separator-clause-pieces c =
    cut_here c.args.separator c.args.lexemes.now c.loop-lexeme.rest.now c.in-Some.others.now c.in-Some.lexeme.now (search rules) (search rules) c.loop-lexeme.invariant
    ∙ ap (λ x. x ∷ pieces c.args.separator c.in-Some.others.now) (search rules)

pub loop-lexeme-preserved : goal.loop-lexeme-preserved
loop-lexeme-preserved c =
    uncut_on c.args.separator c.args.lexemes.now c.loop-lexeme.rest.now c.in-Some.others.now c.in-Some.lexeme.now (search rules) (search rules) c.loop-lexeme.invariant

pub returns-clause-pieces : goal.returns-clause-pieces
returns-clause-pieces c = never_cut c.args.separator c.args.lexemes.now c.loop-lexeme.rest.now (nothing_left c.loop-lexeme.rest.now (search (rules, arith))) c.loop-lexeme.invariant
