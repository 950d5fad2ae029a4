use Rattle.std.proofs.Common.{arith, sym, ap, ◌∙◌, ◌∷◌, [], get_or}
use Rattle.pg_map.specs.Kinds.{Kind, Free, strings_of}
use Rattle.pg_map.specs.Holding.{one_if_long}
use Rattle.pg_window.specs.Sheets.{is_away}
use Rattle.pg_plan.specs.laws.Away.{here_known}
use Rattle.pg_plan.proofs.Taking.{has_room, Opened}
use Rattle.pg_plan.proofs.puts.with_string.Goals as goal

pub returns-clause-some : goal.returns-clause-some
returns-clause-some c =
    let kind = sym c.sheet.ensures.kind in
    let opened : Opened (get_or c.args.draft.now.now c.args.at Free) c.in_ok-page.page = record {
      was = ap (λ (k : Kind). strings_of (k ∷ [])) kind ∙ c.in_ok-page.ensures.strings;
      short = ap one_if_long kind ∙ c.in_ok-page.ensures.short;
    } in
    has_room c.args.draft.now.now c.args.at c.args.string.now c.in_ok-page.page c.put.new.self (omega (arith, c.if-at-count.false, c.count.ensures)) opened c.in-Some.ensures.put.1 (λ full. let e = c.in-Some.ensures.none.1 full in cc e)

pub returns-clause-here : goal.returns-clause-here
returns-clause-here c = here_known c.args.draft.now c.args.at (is_away c.sheet.result.now) c.sheet.ensures.away c.in_ok-page.ensures.here
