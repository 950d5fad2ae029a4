use Rattle.std.proofs.Common.{◌≡◌, ℕ, List, true, Some, [], sym, ◌∙◌}
use Rattle.st_cut.specs.Cut.{first_statement}
use Rattle.st_cut.proofs.Cutting.{ended_text, text_fits, cutting_push, cutting_text}
use Rattle.st_cut.proofs.scripts.cut_byte.Goals as goal

pub returns-in_ok-push_text : goal.returns-in_ok-push_text
returns-in_ok-push_text c limit script h k =
    let t : (text : List ℕ) × (first_statement true k.held ≡ Some (text, [])) = ended_text limit c.args.cutter.now k.held k.stands (sym c.is_ending.ensures ∙ c.if-is_ending.true) in
    rw (c.if-byte-eq10.true, c.in_ok-push_text.ensures limit t.0 (c.statement.ensures limit k.held t.0 k.stands t.1) (text_fits limit script _ c.args.cutter.now k t.0 h t.1))
    (cutting_text limit script _ c.args.cutter.now c.clear.new.self k t.0 t.1 c.clear.ensures)

pub returns-else-byte-eq10 : goal.returns-else-byte-eq10
returns-else-byte-eq10 c limit script h k = cutting_push limit script _ c.args.cutter.now c.push.new.self c.args.byte c.push.ensures k
