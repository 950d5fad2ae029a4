use Rattle.std.proofs.Common.{◌<◌, ℕ, List, [], ◌∷◌, Option, sym, subst, rules}
use Rattle.std.proofs.lemmas.Result.{on_ok_weaker}
use Rattle.ct_entry.specs.declared.kinds.Kind.TheVariants as kind
use Rattle.ct_entry.specs.Keys.{key}
use Rattle.ct_entry.specs.Changes.{put_value, spell}
use Rattle.ct_entry.specs.Shapes.{AreShaped}
use Rattle.rule_index.specs.Shapes.{HasRuleValue}
use Rattle.rule_index.specs.laws.Shapes.{entry_shaped, shaped_added}
use Rattle.rule_index.proofs.entries.put_rules.Goals as goal

pub returns-clause-shaped : goal.returns-clause-shaped
returns-clause-shaped c =
    let few : c.args.target.now.column < 256 = search rules in
    let entry = entry_shaped c.args.index.now c.args.target.now.table c.args.target.now.column c.args.prefs.now c.as_str-named.ensures.name c.as_str-table.ensures.name few c.keep_rules.ensures in
    let more : List (List ℕ × Option (List ℕ)) = spell (put_value (key kind.Indexes c.args.index.now []) c.in_ok-value.value.items ∷ []) in
    let shaped : AreShaped HasRuleValue more = subst (λ (value : List ℕ). AreShaped HasRuleValue (spell (put_value (key kind.Indexes c.args.index.now []) value ∷ []))) (sym c.in_ok-value.ensures) entry in
    on_ok_weaker c.put_entry.result (λ added. shaped_added c.args.changes.now c.put_entry.new.batch more added shaped) c.put_entry.ensures.ok
