use Rattle.std.proofs.Common.{subst, arith}
use Rattle.std.specs.Prelude.{All}
use Rattle.pg_directory.specs.Pages.{IsEntryAt}
use Rattle.pg_change.proofs.ImageSteps.{leaf_may}
use Rattle.pg_change.proofs.images.is_leaf.Goals as goal

pub returns-clause-yes : goal.returns-clause-yes
returns-clause-yes c = λ yes_.
    let f = c.may_name.ensures.yes yes_ in
    leaf_may c.args.leaf.now.entries.items (omega (arith, f.0, c.len.ensures)) (omega (arith, f.1, c.len.ensures)) (subst (All IsEntryAt) c.deref.ensures.value c.keep_entries.ensures)

pub returns-clause-no : goal.returns-clause-no
returns-clause-no c = λ no_ is. c.may_name.ensures.no no_ (omega (arith, is.0, c.len.ensures)) (omega (arith, is.1, c.len.ensures))
