use Rattle.std.proofs.Common.{sym, ◌∙◌, ap}
use Rattle.ct_base.specs.laws.Options.{match_none, match_some}
use Rattle.tx_settings.specs.Attributes.{are_taken}
use Rattle.tx_settings.proofs.PrefsSteps.{none_taken, not_taken, taken_stand}
use Rattle.tx_settings.proofs.reading.read_taken.Goals as goal

pub returns-in_default : goal.returns-in_default
returns-in_default c = none_taken c.args.bytes.now c.args.at (match_none c.in_ok-settings.field-0 _ _ c.in_default.is c.in_ok-settings.ensures)

pub returns-then-are_taken : goal.returns-then-are_taken
returns-then-are_taken c =
    taken_stand c.args.bytes.now c.args.at c.in-Some.settings.items c.in-Some.next (match_some c.in_ok-settings.field-0 _ _ (c.in-Some.settings, c.in-Some.next) c.in-Some.is c.in_ok-settings.ensures)
    (ap are_taken (sym c.as_slice.ensures.value) ∙ sym c.are_taken.ensures ∙ c.if-are_taken.true)

pub returns-else-are_taken : goal.returns-else-are_taken
returns-else-are_taken c =
    not_taken c.args.bytes.now c.args.at c.in-Some.settings.items c.in-Some.next (match_some c.in_ok-settings.field-0 _ _ (c.in-Some.settings, c.in-Some.next) c.in-Some.is c.in_ok-settings.ensures)
    (ap are_taken (sym c.as_slice.ensures.value) ∙ sym c.are_taken.ensures ∙ c.if-are_taken.false)
