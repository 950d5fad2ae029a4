use Rattle.std.proofs.Common.{subst, arith}
use Rattle.std.specs.Prelude.{All}
use Rattle.pg_directory.specs.Pages.{IsChild}
use Rattle.pg_change.proofs.ImageSteps.{inner_may}
use Rattle.pg_change.proofs.images.is_inner.Goals as goal

pub returns-clause-yes : goal.returns-clause-yes
returns-clause-yes c = λ yes_.
    let f = c.may_name_pages.ensures.yes yes_ in
    inner_may c.args.page.now.level c.args.page.now.children.items (omega (arith, f.1, c.len.ensures)) (omega (arith, f.2, c.len.ensures)) (subst (All IsChild) c.deref.ensures.value c.keep_children.ensures) f.0 c.keep_level.ensures

pub returns-clause-no : goal.returns-clause-no
returns-clause-no c = λ no_ is. c.may_name_pages.ensures.no no_ is.3 (omega (arith, is.0, c.len.ensures)) (omega (arith, is.1, c.len.ensures))
