use Rattle.std.proofs.Common.{List, ℕ, ◌++◌, length, refl, ap, ◌∙◌, arith}
use Rattle.std.specs.List.{list_all}
use Rattle.std.proofs.lemmas.Bool.{and_from}
use Rattle.std.proofs.lemmas.Result.{IfOk-weaker}
use Rattle.ct_base.specs.Names.{is_kept}
use Rattle.ct_entry.specs.declared.kinds.Kind.TheVariants as kind
use Rattle.tx_tags.specs.declared.groups.Section.{Section}
use Rattle.tx_tags.specs.Groups.{is_group}
use Rattle.tx_settings.specs.PrefsBytes.{group_bytes}
use Rattle.tx_prefs.specs.laws.Lengths.{group_short}
use Rattle.tx_prefs.specs.laws.Shapes.{change_shaped}
use Rattle.tx_prefs.proofs.changes.group_changes.Goals as goal

pub returns-clause-shaped : goal.returns-clause-shaped
returns-clause-shaped c =
    let group = c.args.group.now in
    let is = and_from (is_group group) (list_all (λ (s : Section). is_kept s.name) group.sections) c.sections.ensures.rules (rw (← c.sections.ensures.sections) c.keep_names.ensures) in
    let whole = c.in_ok-put_group.ensures.ok ∙ ap (λ (l : List ℕ). l ++ group_bytes group) c.new-value.ensures.items in
    let short = group_short group is in
    let long = ap length whole in
    IfOk-weaker c.change.result _ _
    (λ batch made. change_shaped kind.SectionGroups c.args.name.now c.put_group.new.out.items batch made c.as_str-named.ensures.name refl refl (omega (arith, short, long)) (group, is, whole))
    c.change.ensures
