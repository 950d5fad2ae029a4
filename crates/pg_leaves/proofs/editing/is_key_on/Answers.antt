use Rattle.std.proofs.Common.{ℕ, List, [], ◌≡◌, Some, get_or, ap, subst, ◌∙◌}
use Rattle.pg_page.specs.Pages.{string_at}
use Rattle.pg_page.specs.laws.Reading.{slot_read}
use Rattle.pg_map.specs.PageStrings.{string_key}
use Rattle.pg_leaves.specs.Finding.{IsKeyOr}
use Rattle.pg_leaves.proofs.editing.is_key_on.Goals as goal

pub returns : goal.returns
returns c = λ ss fits is less.
    let string : c.in_ok-string.string.now ≡ get_or ss c.args.slot [] = c.in_ok-string.ensures.string ∙ ap (λ (l : List ℕ). string_at l c.args.slot) is ∙ (slot_read ss c.args.slot fits less).string in
    subst (λ (k : List ℕ). IsKeyOr (Some c.has_bytes.result) k c.args.key.now) (c.key_of.ensures ∙ ap string_key string) c.has_bytes.ensures
