use Rattle.std.proofs.Common.{ℕ, List, map, Some, Err, sym, ap, ◌∙◌}
use Rattle.std.specs.Char.{to_ascii_lowercase}
use Rattle.ct_base.specs.Names.{is_spelling}
use Rattle.tx_prefs.specs.Requests.{request}
use Rattle.tx_prefs.proofs.WordSteps.{asks_name, asks_none}
use Rattle.tx_prefs.proofs.requests.request_of.Goals as goal

pub returns-in-Ok : goal.returns-in-Ok
returns-in-Ok c =
    let word = c.args.word.now in
    let other = sym c.if-is_default.ensures in
    ap (λ (n : List ℕ). Some (request c.args.kind (Some n))) (c.in-Ok.ensures.name ∙ ap (map to_ascii_lowercase) c.as_str.ensures)
    ∙ asks_name c.args.kind word (rw c.as_str.ensures at c.as_str.utf8) other (ap is_spelling (sym c.as_str.ensures) ∙ c.in-Ok.ensures.spelt)

pub returns-in-Err-NotAName : goal.returns-in-Err-NotAName
returns-in-Err-NotAName c =
    let word = c.args.word.now in
    let other = sym c.if-is_default.ensures in
    asks_none c.args.kind word (rw c.as_str.ensures at c.as_str.utf8) other (ap is_spelling (sym c.as_str.ensures) ∙ c.in-Err-NotAName.ensures.not_a_name.0 (ap Err c.in-Err-NotAName.field-0-is))
