use Rattle.std.proofs.Common.{ℕ, List, [], ◌≡◌, ◌-◌, ◌<◌, length, get_or, sym, subst, ◌∙◌, arith}
use Rattle.pg_page.specs.Pages.{page_bytes}
use Rattle.pg_map.specs.PageStrings.{string_key}
use Rattle.pg_leaves.specs.Finding.{IsKeyOr}
use Rattle.pg_leaves.proofs.Calls.{kept_given, kept_missing}
use Rattle.pg_leaves.proofs.Gaps.{slotted}
use Rattle.pg_leaves.proofs.editing.has_key.Goals as goal

pub returns-in_default-clause-key : goal.returns-in_default-clause-key
returns-in_default-clause-key g c = λ top pages holds has.
    let s = slotted pages (c.args.at.page - 3) c.args.at.slot holds.are has.less in
    kept_missing c.in_ok-kept.field-0 c.page_behind.new.cache _ (c.in_ok-kept.ensures.page top pages holds has.low (omega (arith, s.there, has.low, holds.count))) c.in_default.is

pub returns-clause-key : goal.returns-clause-key
returns-clause-key g c = λ top pages holds has.
    let s = slotted pages (c.args.at.page - 3) c.args.at.slot holds.are has.less in
    let kept = c.in_ok-kept.ensures.page top pages holds has.low (omega (arith, s.there, has.low, holds.count)) in
    let page : c.page.result.now ≡ page_bytes s.strings = kept_given c.page_behind.new.cache _ kept c.in-Some.is c.page.ensures ∙ s.at in
    subst (λ (ss : List (List ℕ)). IsKeyOr c.is_key_on.result (string_key (get_or ss c.args.at.slot [])) c.args.key.now) (sym s.are)
    (c.is_key_on.ensures s.strings s.fits page (subst (λ (ss : List (List ℕ)). c.args.at.slot < length ss) s.are has.less))
