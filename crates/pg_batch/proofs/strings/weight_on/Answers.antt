use Rattle.std.proofs.Common.{ℕ, List, [], ◌≡◌, get_or, ap, ◌∙◌}
use Rattle.pg_page.specs.Pages.{string_at}
use Rattle.pg_page.specs.laws.Reading.{slot_read}
use Rattle.pg_batch.proofs.strings.weight_on.Goals as goal

pub returns : goal.returns
returns c = λ ss fits is less kinds item entry chain good stands own.
    let string : c.in_ok-string.string.now ≡ get_or ss c.args.slot [] = c.in_ok-string.ensures.string ∙ ap (λ (l : List ℕ). string_at l c.args.slot) is ∙ (slot_read ss c.args.slot fits less).string in
    c.string_weight.ensures kinds item entry chain good stands (string ∙ own)
