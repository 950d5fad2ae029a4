use Rattle.std.proofs.Common.{◌≡◌, length, ap, ◌∙◌, rules}
use Rattle.ix_context.specs.GatheringPortions.{with_portion}
use Rattle.ix_context.specs.Indexes.{target_text}
use Rattle.ix_context.specs.laws.Texts.{target_has_short}
use Rattle.ix_context.proofs.PortionSteps.{portion_of_rows}
use Rattle.ix_context.proofs.portions.gather_next.Goals as goal

pub returns-clause-gathers : goal.returns-clause-gathers
returns-clause-gathers g c = λ m ts holds told.
    let count : c.len.result ≡ length c.in_ok-texts.texts.items = search rules in
    portion_of_rows c.args.prefs.now (target_text ts c.args.target.now) (target_has_short ts told.rules c.args.target.now) c.args.gathered.now c.put_portion.new.self c.args.first c.len.result c.args.rows.now c.in_ok-texts.texts.items
    (c.in_ok-texts.ensures.texts m ts holds told) count
    (c.in_ok-put_portion.ensures.gathers ∙ ap (with_portion c.args.prefs.now c.args.gathered.now c.args.first) c.deref.ensures.value)
