use Rattle.std.proofs.Common.{ℕ, ap, ◌∙◌, arith}
use Rattle.db_index.specs.declared.kinds.BuiltKind.TheVariants.{Context, Catalogue, Rules}
use Rattle.db_index.specs.Indexing.{target}
use Rattle.db_index.proofs.CreateSteps.{made_on}
use Rattle.db_index.proofs.indexing.created.Goals as goal

pub returns-in_default-clause-changes : goal.returns-in_default-clause-changes
returns-in_default-clause-changes g c = λ m k holds stands small. absurd (omega (arith, small, c.in_default.ensures))

pub returns-in-Context-clause-changes : goal.returns-in-Context-clause-changes
returns-in-Context-clause-changes g c = λ m k holds stands small.
    made_on m c.args.index.now c.args.table.now c.args.place c.args.wanted c.args.kind Context c.in-Context.is c.in_ok-target.target (c.in_ok-target.ensures ∙ ap (λ (n : ℕ). target c.args.table.now n) c.in-Ok.ensures.1) c.new_context.result (c.new_context.ensures.changes m k holds stands)

pub returns-in-Catalogue-clause-changes : goal.returns-in-Catalogue-clause-changes
returns-in-Catalogue-clause-changes g c = λ m k holds stands small.
    made_on m c.args.index.now c.args.table.now c.args.place c.args.wanted c.args.kind Catalogue c.in-Catalogue.is c.in_ok-target.target (c.in_ok-target.ensures ∙ ap (λ (n : ℕ). target c.args.table.now n) c.in-Ok.ensures.1) c.new_catalogue.result (c.new_catalogue.ensures.changes m k holds stands)

pub returns-in-Rules-clause-changes : goal.returns-in-Rules-clause-changes
returns-in-Rules-clause-changes g c = λ m k holds stands small.
    made_on m c.args.index.now c.args.table.now c.args.place c.args.wanted c.args.kind Rules c.in-Rules.is c.in_ok-target.target (c.in_ok-target.ensures ∙ ap (λ (n : ℕ). target c.args.table.now n) c.in-Ok.ensures.1) c.new_rules.result (c.new_rules.ensures.changes m k holds stands)
