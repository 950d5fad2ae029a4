use Rattle.std.specs.Prelude.{option_copied}
use Rattle.std.proofs.Common.{List, Option, sym, ap, subst, ◌∙◌}
use Rattle.std.specs.List.Sorted.{IsStrictlyIncreasing}
use Rattle.pg_directory.specs.Pages.{DirectoryPage}
use Rattle.pg_directory.specs.Trees.{bytes_of_page}
use Rattle.pg_directory.specs.Written.{PageWrite, write_numbers, write_over}
use Rattle.pg_change.proofs.ImageSteps.{image_or, seen_over, seen_rise}
use Rattle.pg_change.proofs.images.DirectoryImages.page.Goals as goal

pub returns-in-Some-clause-is : goal.returns-in-Some-clause-is
returns-in-Some-clause-is c = λ p.
    ap (λ (ws : List PageWrite). bytes_of_page (write_over ws c.args.number p)) (sym c.self.view_is)
    ∙ seen_over c.self.inside.pages.entries c.args.number p
    ∙ ap (λ (o : Option DirectoryPage). image_or o (bytes_of_page p)) (sym c.get.ensures.value ∙ ap option_copied c.in-Some.is)
    ∙ sym c.bytes.ensures

pub returns-in-None-clause-is : goal.returns-in-None-clause-is
returns-in-None-clause-is c = λ p.
    ap (λ (ws : List PageWrite). bytes_of_page (write_over ws c.args.number p)) (sym c.self.view_is)
    ∙ seen_over c.self.inside.pages.entries c.args.number p
    ∙ ap (λ (o : Option DirectoryPage). image_or o (bytes_of_page p)) (sym c.get.ensures.value ∙ ap option_copied c.in-None.is)

pub returns-in-Some-clause-rise : goal.returns-in-Some-clause-rise
returns-in-Some-clause-rise c = subst (λ (ws : List PageWrite). IsStrictlyIncreasing (write_numbers ws)) c.self.view_is (seen_rise c.self.inside.pages.entries c.self.invariant)

pub returns-in-None-clause-rise : goal.returns-in-None-clause-rise
returns-in-None-clause-rise c = subst (λ (ws : List PageWrite). IsStrictlyIncreasing (write_numbers ws)) c.self.view_is (seen_rise c.self.inside.pages.entries c.self.invariant)
