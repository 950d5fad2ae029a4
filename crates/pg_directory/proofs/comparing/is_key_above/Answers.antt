use Rattle.std.proofs.Common.{ℕ, List, [], ◌≡◌, Some, get_or, ap, ◌∙◌}
use Rattle.std.specs.Ordering.{nat_cmp, is_lt}
use Rattle.std.specs.Cmp.Lexicographic.{slice_cmp}
use Rattle.pg_page.specs.Pages.{string_at}
use Rattle.pg_page.specs.laws.Reading.{slot_read}
use Rattle.pg_map.specs.PageStrings.{string_key}
use Rattle.pg_directory.proofs.comparing.is_key_above.Goals as goal

pub returns : goal.returns
returns c = λ ss fits is less.
    let string : c.in_ok-string.string.now ≡ get_or ss c.args.slot [] = c.in_ok-string.ensures.string ∙ ap (λ (l : List ℕ). string_at l c.args.slot) is ∙ (slot_read ss c.args.slot fits less).string in
    ap Some (c.is_below.ensures ∙ ap (λ (k : List ℕ). is_lt (slice_cmp nat_cmp c.args.key.now k)) (c.key_of.ensures ∙ ap string_key string))
