use Rattle.std.proofs.Common.{ℕ, List, [], ◌≡◌, get_or, refl, ap, ◌∙◌}
use Rattle.pg_page.specs.Pages.{string_at}
use Rattle.pg_page.specs.laws.Reading.{slot_read}
use Rattle.pg_map.specs.PageStrings.{string_key}
use Rattle.pg_directory.proofs.Placings.{key_put}
use Rattle.pg_directory.proofs.placing.put_key.Goals as goal

pub returns-in_default : goal.returns-in_default
returns-in_default c = λ ss fits is less. absurd (c.in_default.ensures.none refl ss fits is less)

pub returns : goal.returns
returns c = λ ss fits is less.
    let string : c.in-Some.string.now ≡ get_or ss c.args.at.slot [] = c.in-Some.ensures.string ∙ ap (λ (l : List ℕ). string_at l c.args.at.slot) is ∙ (slot_read ss c.args.at.slot fits less).string in
    key_put c.args.into.now.items c.push.new.self.items _ (string_key (get_or ss c.args.at.slot [])) c.in_ok-push.ensures.items (c.in_ok-key.ensures.items ∙ c.key_of.ensures ∙ ap string_key string)
