use Rattle.std.proofs.Common.{◌<◌, ◌^◌, ℕ, List, [], ◌∷◌, Option, sym, subst, arith, rules}
use Rattle.std.proofs.lemmas.Result.{on_ok_weaker}
use Rattle.ct_entry.specs.declared.kinds.Kind.TheVariants as kind
use Rattle.ct_entry.specs.Keys.{key}
use Rattle.ct_entry.specs.Changes.{put_value, spell}
use Rattle.ct_entry.specs.Shapes.{AreShaped}
use Rattle.ix_context.specs.Places.{place_bytes, tidiness_of}
use Rattle.ix_context.specs.Shapes.{HasContextValue}
use Rattle.ix_context.specs.laws.Shapes.{shaped_added, shaped_index}
use Rattle.ix_context.proofs.entries.put_index.Goals as goal

pub returns-clause-shaped : goal.returns-clause-shaped
returns-clause-shaped c =
    let column : c.args.target.now.column < 256 = search rules in
    let next : c.args.next_document < 2 ^ 32 = omega arith in
    let entry = shaped_index c.args.index.now c.args.target.now c.args.prefs.now c.args.next_document (tidiness_of c.args.tidiness) (place_bytes c.args.place.now) c.as_str-named.ensures.name c.as_str-table.ensures.name column c.keep_rules.ensures next c.requires.place in
    let more : List (List ℕ × Option (List ℕ)) = spell (put_value (key kind.Indexes c.args.index.now []) c.in_ok-value.value.items ∷ []) in
    let shaped : AreShaped HasContextValue more = subst (λ (value : List ℕ). AreShaped HasContextValue (spell (put_value (key kind.Indexes c.args.index.now []) value ∷ []))) (sym c.in_ok-value.ensures) entry in
    on_ok_weaker c.put_entry.result (λ added. shaped_added c.args.batch.now c.put_entry.new.batch more added shaped) c.put_entry.ensures.ok
