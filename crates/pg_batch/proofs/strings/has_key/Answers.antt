use Rattle.std.proofs.Common.{ℕ, List, [], ◌≡◌, get_or, sym, ap, ◌∙◌}
use Rattle.pg_page.specs.Pages.{string_at}
use Rattle.pg_page.specs.laws.Reading.{slot_read}
use Rattle.pg_map.specs.PageStrings.{string_key}
use Rattle.pg_batch.proofs.strings.has_key.Goals as goal

pub returns : goal.returns
returns c = λ ss fits is less.
    let string : c.in_ok-string.string.now ≡ get_or ss c.args.slot [] = c.in_ok-string.ensures.string ∙ ap (λ (l : List ℕ). string_at l c.args.slot) is ∙ (slot_read ss c.args.slot fits less).string in
    let key : c.key_of.result.now ≡ string_key (get_or ss c.args.slot []) = c.key_of.ensures ∙ ap string_key string in
    (λ true_. sym key ∙ c.is_same.ensures.0 true_, λ one. c.is_same.ensures.1 (key ∙ one))
