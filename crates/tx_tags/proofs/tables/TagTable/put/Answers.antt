use Rattle.std.proofs.Common.{ap, sym, ◌∙◌}
use Rattle.std.specs.Option.{is_some}
use Rattle.std.specs.BTreeMap.{get_by_text}
use Rattle.tx_tags.proofs.TableSteps.{found_more}
use Rattle.tx_tags.proofs.tables.TagTable.put.Goals as goal

pub returns-in_ok-insert : goal.returns-in_ok-insert
returns-in_ok-insert c = λ name.
    found_more c.args.tag.now c.args.section.now c.args.number c.in_ok-from_str.field-0 c.in_ok-place.place c.args.self.now.places c.insert.new.self name
    (c.in_ok-from_str.ensures.ok ∙ c.as_str-then-not-contains_key.ensures) c.in_ok-place.ensures
    (ap (λ bs. is_some (get_by_text c.args.self.now.places bs)) (sym c.as_str.ensures) ∙ sym c.contains_key.ensures ∙ c.if-not-contains_key.true) c.in_ok-insert.ensures.updates
