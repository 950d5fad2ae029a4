use Rattle.std.proofs.Common.{arith}
use Rattle.ct_base.specs.laws.Options.{match_none}
use Rattle.tx_settings.specs.PrefsBytes.{is_section, section_bytes}
use Rattle.tx_settings.specs.laws.Apart.{section_apart}
use Rattle.tx_settings.specs.laws.Standing.{no_count, stuck}
use Rattle.tx_settings.proofs.group_reading.read_sections.Goals as goal

pub returns-in_default : goal.returns-in_default
returns-in_default c = no_count is_section section_bytes section_apart c.args.bytes.now c.args.at c.in_default.ensures.none

pub returns-in_default-2 : goal.returns-in_default-2
returns-in_default-2 c =
    stuck is_section section_bytes section_apart c.args.bytes.now c.args.at c.in-Some.count c.in-Some.start c.sections.place c.sections.sections.items c.in-Some.ensures.some c.sections.invariant.read (omega arith)
    (match_none c.in_ok-section.field-0 _ _ c.in_default-2.is c.in_ok-section.ensures)
