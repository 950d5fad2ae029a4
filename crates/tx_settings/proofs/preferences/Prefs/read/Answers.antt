use Rattle.std.proofs.Common.{◌∙◌, ap}
use Rattle.tx_settings.specs.Attributes.{are_taken, options_of}
use Rattle.std.proofs.lemmas.Bool.{MatchBool-at_false, and_parts}
use Rattle.ct_base.specs.laws.Options.{match_none, match_some}
use Rattle.tx_settings.specs.PrefsBytes.{are_settings}
use Rattle.tx_settings.proofs.PrefsSteps.{no_prefs, no_prefs_group, no_prefs_settings, no_prefs_stop}
use Rattle.tx_settings.proofs.preferences.Prefs.read.Goals as goal

pub returns-in_default : goal.returns-in_default
returns-in_default c = no_prefs_settings c.args.bytes.now c.args.at (match_none c.in_ok-settings.field-0 _ _ c.in_default.is c.in_ok-settings.ensures)

pub returns-in_default-2 : goal.returns-in_default-2
returns-in_default-2 c =
    no_prefs_stop c.args.bytes.now c.args.at c.in-Some.settings.items c.in-Some.stop_at (match_some c.in_ok-settings.field-0 _ _ (c.in-Some.settings, c.in-Some.stop_at) c.in-Some.is c.in_ok-settings.ensures)
    (match_none c.in_ok-stop.field-0 _ _ c.in_default-2.is c.in_ok-stop.ensures)

pub returns-in_default-3 : goal.returns-in_default-3
returns-in_default-3 c =
    no_prefs_group c.args.bytes.now c.args.at c.in-Some.settings.items c.in-Some.stop_at c.in-Some-2.stop c.in-Some-2.group_at
    (match_some c.in_ok-settings.field-0 _ _ (c.in-Some.settings, c.in-Some.stop_at) c.in-Some.is c.in_ok-settings.ensures)
    (match_some c.in_ok-stop.field-0 _ _ (c.in-Some-2.stop, c.in-Some-2.group_at) c.in-Some-2.is c.in_ok-stop.ensures)
    (match_none c.in_ok-group.field-0 _ _ c.in_default-3.is c.in_ok-group.ensures)

pub is_spelt-requires-clause-can_be : goal.is_spelt-requires-clause-can_be
is_spelt-requires-clause-can_be c =
    let there = match_some c.in_ok-settings.field-0 _ _ (c.in-Some.settings, c.in-Some.stop_at) c.in-Some.is c.in_ok-settings.ensures in
    c.in_ok-lexer.ensures.can_be_set (ap are_taken c.as_slice.ensures.value ∙ (and_parts (are_settings c.in-Some.settings.items) (are_taken c.in-Some.settings.items) there.rules).1)

pub returns : goal.returns
returns c =
    no_prefs c.args.bytes.now c.args.at c.in-Some-3.next c.in-Some.settings.items c.in_ok-lexer.lexer c.in-Some-2.stop c.in-Some-3.group
    (record {
      stop_at = c.in-Some.stop_at;
      group_at = c.in-Some-2.group_at;
      settings = match_some c.in_ok-settings.field-0 _ _ (c.in-Some.settings, c.in-Some.stop_at) c.in-Some.is c.in_ok-settings.ensures;
      stop = match_some c.in_ok-stop.field-0 _ _ (c.in-Some-2.stop, c.in-Some-2.group_at) c.in-Some-2.is c.in_ok-stop.ensures;
      group = match_some c.in_ok-group.field-0 _ _ (c.in-Some-3.group, c.in-Some-3.next) c.in-Some-3.is c.in_ok-group.ensures;
    })
    (c.in_ok-lexer.ensures.options ∙ ap options_of c.as_slice.ensures.value)
    (MatchBool-at_false _ _ c.if-is_spelt.false c.in_ok-is_spelt.ensures)
