use Rattle.std.proofs.Common.{arith}
use Rattle.tx_settings.specs.Attributes.{settings_of}
use Rattle.tx_settings.specs.laws.Kept.{keys_are_short, may_be_written, settings_are_kept}
use Rattle.tx_settings.proofs.preferences.Prefs.bytes.Goals as goal

pub add_settings-requires-clause-few : goal.add_settings-requires-clause-few
add_settings-requires-clause-few c =
    let may = may_be_written (settings_of c.args.self.now.lexer) (settings_are_kept c.args.self.now.lexer c.keep_parts.ensures.lexer) in
    rw (c.as_slice.ensures.value, c.in_ok-settings.ensures) (omega (arith, may.few))

pub add_settings-requires-clause-short : goal.add_settings-requires-clause-short
add_settings-requires-clause-short c = rw (c.as_slice.ensures.value, c.in_ok-settings.ensures) (may_be_written (settings_of c.args.self.now.lexer) (settings_are_kept c.args.self.now.lexer c.keep_parts.ensures.lexer)).short

pub add_keys-requires-clause-short : goal.add_keys-requires-clause-short
add_keys-requires-clause-short c = rw c.keys.ensures.keys (keys_are_short c.args.self.now.stop c.keep_parts.ensures.stop)
