use Rattle.std.proofs.Common.{ℕ, Bool, Option, Some, ◌-◌, get_or, ap, subst, ◌∙◌, arith}
use Rattle.ct_site.specs.laws.Calls.{same_then}
use Rattle.pg_directory.specs.Looking.{IsRank, IsRankOr}
use Rattle.pg_directory.specs.Pages.{no_entry}
use Rattle.pg_directory.specs.Trees.{HasString, key_at}
use Rattle.pg_directory.specs.laws.Pages.{each_at}
use Rattle.pg_leaves.specs.Finding.{IsBeforeOr, IsKeyOr}
use Rattle.pg_leaves.proofs.Calls.{holds_still}
use Rattle.pg_leaves.proofs.Gaps.{gap_before, gap_none, gap_some}
use Rattle.pg_leaves.proofs.editing.gap_among.Goals as goal

pub returns-then-is_first-clause-gap : goal.returns-then-is_first-clause-gap
returns-then-is_first-clause-gap g c = λ top pages holds strings rise.
    let before = subst (λ (o : Option Bool). IsBeforeOr o pages c.args.places.now c.args.key.now) (c.in-Some.is ∙ ap Some c.if-is_first.true) (c.in_ok-is_first.ensures.before top pages holds strings) in
    gap_before pages c.args.places.now c.args.key.now before rise

pub returns-then-rank-eq0-clause-gap : goal.returns-then-rank-eq0-clause-gap
returns-then-rank-eq0-clause-gap g c = λ top pages holds strings rise.
    let rank = subst (λ (o : Option ℕ). IsRankOr o pages c.args.places.now c.args.key.now) c.in-Some-2.is (c.in_ok-rank.ensures.rank top pages (holds_still _ _ _ _ pages c.is_before.ensures.same holds) strings rise) in
    gap_none pages c.args.places.now c.args.key.now (subst (IsRank pages c.args.places.now c.args.key.now) c.if-rank-eq0.true rank)

pub returns-in_default-3-clause-gap : goal.returns-in_default-3-clause-gap
returns-in_default-3-clause-gap g c = λ top pages holds strings rise.
    let rank = subst (λ (o : Option ℕ). IsRankOr o pages c.args.places.now c.args.key.now) c.in-Some-2.is (c.in_ok-rank.ensures.rank top pages (holds_still _ _ _ _ pages c.is_before.ensures.same holds) strings rise) in
    let has = each_at (HasString pages) c.args.places.now (c.in-Some-2.rank - 1) no_entry strings (omega (arith, rank.most, c.if-rank-eq0.false)) in
    subst (λ (o : Option Bool). IsKeyOr o (key_at pages (get_or c.args.places.now (c.in-Some-2.rank - 1) no_entry)) c.args.key.now) c.in_default-3.is
    (c.in_ok-is_there.ensures.key top pages (holds_still _ _ _ _ pages (same_then _ _ _ c.is_before.ensures.same c.rank_among.ensures.same) holds) has)

pub returns-clause-gap : goal.returns-clause-gap
returns-clause-gap g c = λ top pages holds strings rise.
    let rank = subst (λ (o : Option ℕ). IsRankOr o pages c.args.places.now c.args.key.now) c.in-Some-2.is (c.in_ok-rank.ensures.rank top pages (holds_still _ _ _ _ pages c.is_before.ensures.same holds) strings rise) in
    let has = each_at (HasString pages) c.args.places.now (c.in-Some-2.rank - 1) no_entry strings (omega (arith, rank.most, c.if-rank-eq0.false)) in
    gap_some pages c.args.places.now c.args.key.now c.in-Some-2.rank c.gap_at.result.0 c.gap_at.result.1 c.in-Some-3.is_there rise rank (omega (arith, c.if-rank-eq0.false))
    (subst (λ (o : Option Bool). IsKeyOr o (key_at pages (get_or c.args.places.now (c.in-Some-2.rank - 1) no_entry)) c.args.key.now) c.in-Some-3.is
    (c.in_ok-is_there.ensures.key top pages (holds_still _ _ _ _ pages (same_then _ _ _ c.is_before.ensures.same c.rank_among.ensures.same) holds) has))
    c.gap_at.ensures.gap
