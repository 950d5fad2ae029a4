use Rattle.std.proofs.Common.{◌∷◌, [], ap, subst, refl, ◌∙◌, Some}
use Rattle.ct_entry.specs.declared.kinds.Kind.TheVariants as kind
use Rattle.ct_entry.specs.Keys.{at, key}
use Rattle.cat_index.specs.Spelling.{SpellsCatalogue}
use Rattle.ix_indexes.specs.declared.loading.TableIndex.{TableIndex}
use Rattle.ix_indexes.specs.Noting.{Noted}
use Rattle.ix_indexes.specs.Loading.{noted_or_none}
use Rattle.ix_indexes.proofs.LoadSteps.{no_catalogue, catalogue_noted}
use Rattle.ix_indexes.proofs.loading.catalogue_on.Goals as goal

pub returns-in_default-clause-noted : goal.returns-in_default-clause-noted
returns-in_default-clause-noted g c = λ m ts xs told hold x here columns.
    absurd (no_catalogue m ts xs hold c.args.name x here (subst (SpellsCatalogue (at m (key kind.Indexes c.args.name []))) c.in_default.is (c.in_ok-catalogue.ensures.value m told)))

pub returns-clause-noted : goal.returns-clause-noted
returns-clause-noted g c = λ m ts xs told hold x here columns.
    let spells = subst (SpellsCatalogue (at m (key kind.Indexes c.args.name []))) c.in-Some.is (c.in_ok-catalogue.ensures.value m told) in
    ap (λ (i : TableIndex). noted_or_none (Some i)) c.in_ok-index.ensures.index
    ∙ ap (λ (n : Noted). (c.args.name, n) ∷ []) (catalogue_noted m ts xs hold c.args.name x here c.in-Some.catalogue spells c.args.columns.now _ columns refl)
