use Rattle.std.proofs.Common.{◌∷◌, [], ◌∙◌}
use Rattle.ix_indexes.specs.Noting.{InContext, InRules}
use Rattle.ix_indexes.proofs.LoadSteps.{context_noted, catalogue_here, rules_noted, noted_result}
use Rattle.ix_indexes.proofs.loading.table_index.Goals as goal

pub returns-in-Context-clause-noted : goal.returns-in-Context-clause-noted
returns-in-Context-clause-noted g c = λ m ts xs told hold is.
    (λ j. (c.in_ok-name.ensures j, InContext c.args.head.now.target.column) ∷ []) ∙ context_noted ts xs c.args.columns.now c.args.index.now c.args.head.now is c.in-Context.is

pub returns-in-Catalogue-clause-noted : goal.returns-in-Catalogue-clause-noted
returns-in-Catalogue-clause-noted g c = λ m ts xs told hold is.
    let x = catalogue_here ts xs c.args.columns.now c.args.index.now c.args.head.now is c.in-Catalogue.is in
    noted_result c.catalogue_on.result c.in_ok-name.name c.args.index.now xs x.0 c.in_ok-name.ensures x.1
    (λ named. c.catalogue_on.ensures.noted m ts xs told hold x.0 named x.2)

pub returns-in-Rules-clause-noted : goal.returns-in-Rules-clause-noted
returns-in-Rules-clause-noted g c = λ m ts xs told hold is.
    (λ j. (c.in_ok-name.ensures j, InRules c.args.head.now.target.column) ∷ []) ∙ rules_noted ts xs c.args.columns.now c.args.index.now c.args.head.now is c.in-Rules.is
