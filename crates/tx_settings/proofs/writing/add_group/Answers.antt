use Rattle.std.proofs.Common.{arith}
use Rattle.tx_settings.specs.laws.Kept.{group_sections, have_few_tags, short_tags}
use Rattle.tx_settings.proofs.writing.add_group.Goals as goal

pub add_sections-requires-clause-few : goal.add_sections-requires-clause-few
add_sections-requires-clause-few c =
    let have = have_few_tags c.args.group.now.sections (group_sections c.args.group.now c.sections.ensures.rules) in
    rw c.sections.ensures.sections (omega (arith, have.few))

pub add_sections-requires-clause-short : goal.add_sections-requires-clause-short
add_sections-requires-clause-short c = rw c.sections.ensures.sections (short_tags c.args.group.now.sections (have_few_tags c.args.group.now.sections (group_sections c.args.group.now c.sections.ensures.rules)))
