use Rattle.std.specs.Prelude.{Bool, map}
use Rattle.std.proofs.Common.{refl, subst}
use Rattle.pg_directory.specs.Opening.{StandsOr}
use Rattle.pg_directory.specs.Trees.{kind_of}
use Rattle.pg_directory.proofs.Opens.{pass_given, pass_missing, pages_opened, pages_refused}
use Rattle.pg_directory.proofs.opening.open_pages.Goals as goal

pub returns-in_default-clause-opened : goal.returns-in_default-clause-opened
returns-in_default-clause-opened g c = λ image told. pass_missing c.in-Ok.found image c.args.count (c.in-Ok.ensures.pass image told) c.in_default.is

pub returns-then-not-is_standing-clause-opened : goal.returns-then-not-is_standing-clause-opened
returns-then-not-is_standing-clause-opened g c = λ image told.
    pages_refused c.in-Some.pass image c.args.count (pass_given c.in-Ok.found c.in-Some.pass image c.args.count (c.in-Ok.ensures.pass image told) c.in-Some.is)
    (λ pages items are notes far strings. subst (λ (b : Bool). StandsOr b (map kind_of pages)) c.if-not-is_standing.true (c.in-Ok-do_stand.ensures pages items are notes far strings))

pub returns-clause-opened : goal.returns-clause-opened
returns-clause-opened g c = λ image told.
    pages_opened c.in-Some.pass c.in-Some.pass.notes image c.args.count (pass_given c.in-Ok.found c.in-Some.pass image c.args.count (c.in-Ok.ensures.pass image told) c.in-Some.is) refl
    (λ pages items are notes far strings. subst (λ (b : Bool). StandsOr b (map kind_of pages)) c.if-not-is_standing.false (c.in-Ok-do_stand.ensures pages items are notes far strings))
