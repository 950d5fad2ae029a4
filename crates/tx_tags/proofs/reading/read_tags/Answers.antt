use Rattle.std.proofs.Common.{◌≡◌, ◌≤◌, true, length, sym, ap, ◌∙◌}
use Rattle.std.specs.Str.{chars}
use Rattle.std.proofs.lemmas.Result.{IfOk-weaker}
use Rattle.tx_tags.proofs.NameLaws.{nothing_tagged, nothing_blanked, rules_of}
use Rattle.std.specs.List.{list_all}
use Rattle.tx_tags.specs.Groups.{is_tag, tag_names}
use Rattle.tx_tags.proofs.reading.read_tags.Goals as goal

pub returns-then-is_empty-clause-tags : goal.returns-then-is_empty-clause-tags
returns-then-is_empty-clause-tags c =
    rw (nothing_tagged c.args.group.now c.sections-sections.result.now (chars c.args.text.now) c.sections-sections.ensures.sections (sym c.is_empty.ensures ∙ c.if-is_empty.true)) c.untagged.ensures.tags

pub returns-then-is_empty-clause-blanked : goal.returns-then-is_empty-clause-blanked
returns-then-is_empty-clause-blanked c =
    rw (nothing_blanked c.args.group.now c.sections-sections.result.now (chars c.args.text.now) c.sections-sections.ensures.sections (sym c.is_empty.ensures ∙ c.if-is_empty.true)) (IfOk-weaker c.untagged.result _ _ (λ t e. ap chars e) c.untagged.ensures.blanked)

pub of-requires : goal.of-requires
of-requires c =
    let kept = rules_of c.args.group.now c.sections-sections.ensures.rules in
    let few : length (tag_names c.sections-sections.result.now) ≤ 256 = rw c.sections-sections.ensures.sections kept.few in
    let spelt : list_all is_tag (tag_names c.sections-sections.result.now) ≡ true = rw c.sections-sections.ensures.sections kept.spelt in
    record { few = few; spelt = spelt }
