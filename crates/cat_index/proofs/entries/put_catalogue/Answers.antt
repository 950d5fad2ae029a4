use Rattle.std.proofs.Common.{ℕ, List, [], ◌∷◌, Option, sym, subst}
use Rattle.std.proofs.lemmas.Result.{on_ok_weaker}
use Rattle.ct_entry.specs.declared.kinds.Kind.TheVariants as kind
use Rattle.ct_entry.specs.Keys.{key}
use Rattle.ct_entry.specs.Changes.{put_value, spell}
use Rattle.ct_entry.specs.Shapes.{AreShaped}
use Rattle.cat_index.specs.Shapes.{HasCatalogueValue}
use Rattle.cat_index.specs.laws.Shapes.{shaped_added, catalogue_shaped}
use Rattle.cat_index.proofs.entries.put_catalogue.Goals as goal

pub returns-clause-shaped : goal.returns-clause-shaped
returns-clause-shaped c =
    let entry = catalogue_shaped c.args.index.now c.args.catalogue.now c.as_str-named.ensures.name c.keep_rules.ensures in
    let more : List (List ℕ × Option (List ℕ)) = spell (put_value (key kind.Indexes c.args.index.now []) c.in_ok-value.value.items ∷ []) in
    let shaped : AreShaped HasCatalogueValue more = subst (λ (value : List ℕ). AreShaped HasCatalogueValue (spell (put_value (key kind.Indexes c.args.index.now []) value ∷ []))) (sym c.in_ok-value.ensures) entry in
    on_ok_weaker c.put_entry.result (λ added. shaped_added c.args.batch.now c.put_entry.new.batch more added shaped) c.put_entry.ensures.ok
