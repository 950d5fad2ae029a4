use Rattle.std.proofs.Common.{arith, sym, ap, ◌∙◌}
use Rattle.pg_map.specs.Kinds.{Slotted}
use Rattle.pg_window.specs.Sheets.{sheet_kind, is_away}
use Rattle.pg_plan.specs.laws.Away.{here_known}
use Rattle.pg_plan.proofs.puts.replacing.Goals as goal

pub returns-clause-here : goal.returns-clause-here
returns-clause-here c = here_known c.args.draft.now c.args.at (is_away c.sheet.result.now) c.sheet.ensures.away (ap is_away c.in-Slotted.is)

pub returns-clause-some : goal.returns-clause-some
returns-clause-some c = record {
  number = c.in_ok-number.number;
  key_is = c.in_ok-number.ensures.some;
  page_is = c.in_ok-kept.ensures.is;
  was = c.find.ensures.fits;
  fits = c.in_ok-kept.ensures.fits;
  within = omega (arith, c.if-at-count.false, c.count.ensures);
  strings = c.deref-page.result.now;
  kind = sym c.sheet.ensures.kind ∙ ap sheet_kind c.in-Slotted.is ∙ ap Slotted (sym c.deref-page.ensures);
  near = λ item good is. let two = c.far_in-count.ensures item good (c.in_ok-old.ensures.1 ∙ is) in let e = two.1 in omega (arith, e, c.if-count-gt0.false);
}

pub overflow_cast-number : goal.overflow_cast-number
overflow_cast-number c = let w = c.in_ok-number.ensures.some.within in omega (arith, w, c.find.ensures.fits)
