use Rattle.std.proofs.Common.{◌≡◌, ◌++◌}
use Rattle.std.specs.Bool.{if◌then◌else◌}
use Rattle.tx_tags.specs.Groups.{with_tag}
use Rattle.tx_tags.proofs.sections.sections_with_tag.Given as goal

abbrev pub invariant-loop-section : goal.invariant-loop-section
invariant-loop-section l =
    let rest = l.section-iterator.rest.items in
    l.more.items ++ (if l.is_put then rest else with_tag l.name l.kind l.tag rest) ≡ with_tag l.name l.kind l.tag l.initial.section-iterator.rest.items
