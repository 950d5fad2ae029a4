use Rattle.std.specs.Option.{option_map}
use Rattle.std.proofs.Common.{arith}
use Rattle.std.proofs.lemmas.Result.{IfOk-weaker}
use Rattle.pg_directory.proofs.LevelReads.{given_behind}
use Rattle.pg_directory.proofs.LevelsRead.{top_missing, top_led}
use Rattle.pg_directory.proofs.PageReads.{holds_then}
use Rattle.pg_directory.proofs.Steps.{page_given}
use Rattle.pg_directory.proofs.levels_down.read_levels.Goals as goal

pub returns-in_default-found-clause-levels : goal.returns-in_default-found-clause-levels
returns-in_default-found-clause-levels g c = λ number pages holds.
    top_missing pages c.args.top c.args.limit c.in-Ok.found _ (λ low less. c.in-Ok.ensures.page number pages holds low (omega (arith, less, holds.count))) c.in_default-found.is

pub returns-clause-levels : goal.returns-clause-levels
returns-clause-levels g c = λ number pages holds.
    let b = given_behind c.in-Ok.found c.in-Some.kept _ c.in-Ok.ensures.behind c.in-Some.is in
    let page = page_given c.in-Ok.found _ _ _ c.page-page.result.now (c.in-Ok.ensures.page number pages holds b.0 b.1) c.in-Some.is c.page-page.ensures in
    IfOk-weaker c.go_down.result _ _ (λ found led. top_led pages holds.are c.args.top c.page-page.result.now c.in-Ok-top_child.tops.items c.level_in-level.result c.args.limit c.in-Ok-top_child.ensures page c.level_in-level.ensures (option_map (λ l. (l.0.items, l.1.items)) found) led)
    (c.go_down.ensures.levels number pages (holds_then _ _ _ _ pages c.page_behind.ensures.same holds))
