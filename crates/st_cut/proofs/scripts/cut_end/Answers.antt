use Rattle.std.proofs.Common.{◌≡◌, ◌≤◌, ℕ, List, true, false, None, Some, [], length, refl, sym, ◌∙◌, arith}
use Rattle.st_cut.specs.Cut.{first_statement}
use Rattle.st_cut.proofs.Cutting.{ended_text, no_text, text_fits, cut_shrinks, cut_last, cut_rest}
use Rattle.st_cut.proofs.scripts.cut_end.Goals as goal

pub returns : goal.returns
returns c limit script h k =
    let e : first_statement true k.held ≡ None = no_text limit c.args.cutter.now k.held k.stands (sym c.is_ending.ensures ∙ c.if-is_ending.false) in
    let w : length k.held ≤ length script = cut_shrinks false script _ k.held k.cut in
    rw (c.in_ok-push_text-3.ensures limit k.held (c.rest.ensures limit k.held k.stands) (omega arith)) (cut_rest limit script _ c.args.cutter.now k e)

pub returns-then-is_ending : goal.returns-then-is_ending
returns-then-is_ending c limit script h k =
    let t : (text : List ℕ) × (first_statement true k.held ≡ Some (text, [])) = ended_text limit c.args.cutter.now k.held k.stands (sym c.is_ending.ensures ∙ c.if-is_ending.true) in
    rw (c.in_ok-push_text-2.ensures 0 [] (refl, omega arith) (omega arith), c.in_ok-push_text.ensures limit t.0 (c.statement.ensures limit k.held t.0 k.stands t.1) (text_fits limit script _ c.args.cutter.now k t.0 h t.1))
    (cut_last limit script _ c.args.cutter.now k t.0 t.1)
