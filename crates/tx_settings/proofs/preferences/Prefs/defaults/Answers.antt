use Rattle.std.proofs.Common.{◌≡◌, true, sym, subst}
use Rattle.tx_lexer.specs.declared.options.LexerOptions.{LexerOptions}
use Rattle.tx_settings.specs.Attributes.{can_be_set}
use Rattle.tx_settings.specs.laws.Settable.{defaults_can_be_set}
use Rattle.tx_settings.proofs.preferences.Prefs.defaults.Goals as goal

pub returns-clause-can_be_set : goal.returns-clause-can_be_set
returns-clause-can_be_set c = subst (λ (o : LexerOptions). can_be_set o ≡ true) (sym c.in_ok-defaults.ensures) defaults_can_be_set
