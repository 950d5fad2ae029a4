use Rattle.ct_base.specs.laws.Options.{match_none, match_some}
use Rattle.tx_settings.proofs.GroupSteps.{no_section_kind, no_section_name, no_section_tags}
use Rattle.tx_settings.proofs.group_reading.read_section.Goals as goal

pub returns-in_default : goal.returns-in_default
returns-in_default c = no_section_name c.args.bytes.now c.args.at (match_none c.in_ok-name.field-0 _ _ c.in_default.is c.in_ok-name.ensures)

pub returns-in_default-read_kind : goal.returns-in_default-read_kind
returns-in_default-read_kind c =
    no_section_kind c.args.bytes.now c.args.at c.in-Some.name c.in-Some.kind_at (match_some c.in_ok-name.field-0 _ _ (c.in-Some.name, c.in-Some.kind_at) c.in-Some.is c.in_ok-name.ensures) c.in_default-read_kind.ensures

pub returns-in_default-2 : goal.returns-in_default-2
returns-in_default-2 c =
    no_section_tags c.args.bytes.now c.args.at c.in-Some.name c.in-Some.kind_at c.in-Some-read_kind.kind c.in-Some-read_kind.tags_at
    (match_some c.in_ok-name.field-0 _ _ (c.in-Some.name, c.in-Some.kind_at) c.in-Some.is c.in_ok-name.ensures) c.in-Some-read_kind.ensures
    (match_none c.in_ok-tags.field-0 _ _ c.in_default-2.is c.in_ok-tags.ensures)
