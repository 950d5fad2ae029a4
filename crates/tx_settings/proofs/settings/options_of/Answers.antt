use Rattle.std.proofs.Common.{◌≡◌, true, arith, sym, subst}
use Rattle.std.proofs.lemmas.Grind.{common_steps}
use Rattle.tx_lexer.specs.declared.options.LexerOptions.{LexerOptions}
use Rattle.tx_settings.specs.Attributes.{can_be_set, options_of}
use Rattle.tx_settings.specs.laws.Settable.{taken_options_can_be_set}
use Rattle.tx_settings.proofs.settings.options_of.Goals as goal

pub returns-clause-can_be_set : goal.returns-clause-can_be_set
returns-clause-can_be_set c = λ taken.
    let made : c.loop-rest.options ≡ options_of c.args.settings.now = grind (arith, common_steps, c.loop-rest.invariant) in
    subst (λ (o : LexerOptions). can_be_set o ≡ true) (sym made) (taken_options_can_be_set c.args.settings.now taken)
