use Rattle.std.specs.Prelude.{Bool}
use Rattle.std.proofs.Common.{subst, arith}
use Rattle.pg_directory.specs.ReadLevels.{TakesItems}
use Rattle.pg_directory.proofs.LevelReads.{child_missing, child_other, child_taken, given_behind}
use Rattle.pg_directory.proofs.Steps.{page_given}
use Rattle.pg_directory.proofs.levels.take_child.Goals as goal

pub returns-in_default-found-clause-takes : goal.returns-in_default-found-clause-takes
returns-in_default-found-clause-takes g c = λ top pages holds.
    child_missing pages c.args.level c.args.child holds.are c.in-Ok.found _ (λ low less. c.in-Ok.ensures.page top pages holds low (omega (arith, less, holds.count))) c.in_default-found.is

pub returns-then-not-is_taken-clause-takes : goal.returns-then-not-is_taken-clause-takes
returns-then-not-is_taken-clause-takes g c = λ top pages holds.
    let b = given_behind c.in-Ok.found c.in-Some.kept _ c.in-Ok.ensures.behind c.in-Some.is in
    let page = page_given c.in-Ok.found _ _ _ c.page-page.result.now (c.in-Ok.ensures.page top pages holds b.0 b.1) c.in-Some.is c.page-page.ensures in
    child_other pages c.args.level c.args.child holds.are c.page-page.result.now c.args.into.now.items c.take_items.new.into.items page
    (subst (λ (t : Bool). TakesItems t c.page-page.result.now c.args.level c.args.into.now.items c.take_items.new.into.items) c.if-not-is_taken.true c.in-Ok-take_items.ensures)

pub returns-clause-takes : goal.returns-clause-takes
returns-clause-takes g c = λ top pages holds.
    let b = given_behind c.in-Ok.found c.in-Some.kept _ c.in-Ok.ensures.behind c.in-Some.is in
    let page = page_given c.in-Ok.found _ _ _ c.page-page.result.now (c.in-Ok.ensures.page top pages holds b.0 b.1) c.in-Some.is c.page-page.ensures in
    child_taken pages c.args.level c.args.child holds.are c.page-page.result.now c.args.into.now.items c.take_items.new.into.items c.is_first.result b.0 page
    (subst (λ (t : Bool). TakesItems t c.page-page.result.now c.args.level c.args.into.now.items c.take_items.new.into.items) c.if-not-is_taken.false c.in-Ok-take_items.ensures) c.is_first.ensures
