use Rattle.std.proofs.Common.{List, ℕ, ◌++◌, length, refl, ap, ◌∙◌, arith}
use Rattle.std.proofs.lemmas.Result.{IfOk-weaker}
use Rattle.ct_entry.specs.declared.kinds.Kind.TheVariants as kind
use Rattle.tx_sets.specs.Sets.{set_bytes}
use Rattle.tx_sets.specs.laws.Sets.{sets_are_short, sets_may_be_read}
use Rattle.tx_prefs.specs.laws.Shapes.{change_shaped}
use Rattle.tx_prefs.proofs.changes.set_changes.Goals as goal

pub returns-clause-shaped : goal.returns-clause-shaped
returns-clause-shaped c =
    let set = c.args.set.now in
    let whole = c.in_ok-put_set.ensures.ok ∙ ap (λ (l : List ℕ). l ++ set_bytes set) c.new-value.ensures.items in
    let short = sets_are_short set c.requires c.keep_names.ensures in
    let long = ap length whole in
    IfOk-weaker c.change.result _ _
    (λ batch made. change_shaped kind.IndexSets c.args.name.now c.put_set.new.out.items batch made c.as_str-named.ensures.name refl refl (omega (arith, short, long)) (set, sets_may_be_read set c.requires c.keep_names.ensures, whole))
    c.change.ensures
