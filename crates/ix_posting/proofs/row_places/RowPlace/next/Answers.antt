use Rattle.std.proofs.Common.{◌-◌, ℕ, [], get_or, List, refl, sym, ap, subst, ◌∙◌}
use Rattle.std.proofs.Math.Logic.{∥∥₁_elim}
use Rattle.ix_posting.specs.Rows.{posting_bytes_of}
use Rattle.ix_posting.specs.Encoded.{same_row}
use Rattle.ix_posting.specs.RowPlaces.{AreFrom, behind_first}
use Rattle.ix_posting.proofs.RowSteps.{no_next, none_left, no_head_behind, stands_next, alone_kept}
use Rattle.ix_posting.proofs.row_places.RowPlace.next.Goals as goal

pub returns-then-self-eq0-clause-none : goal.returns-then-self-eq0-clause-none
returns-then-self-eq0-clause-none g c =
    ap behind_first (sym c.self.view_is)
    ∙ ∥∥₁_elim c.self.inside.from.1 (same_row g.P.Place.form g.P.Place.lawful _ _) (λ from. none_left g.P.Place.form g.P.Place.lawful _ c.self.inside.head c.self.inside.left c.self.inside.from.0 from c.if-self-eq0.true)

pub unreachable-requires : goal.unreachable-requires
unreachable-requires g c =
    ∥∥₁_elim c.self.inside.from.1 (λ x y. absurd x)
    (λ from. no_next g.P.Place.form g.P.Place.lawful c.bytes_at-bytes.result.now c.self.inside.head c.self.inside.left c.self.inside.from.0
    (subst (λ (b : List ℕ). AreFrom g.P.Place.form b c.self.inside.head c.self.inside.left c.self.inside.from.0) c.bytes_at-bytes.ensures.spelt from)
    c.in_default.ensures.none)

pub unreachable-requires-in_default-read_head : goal.unreachable-requires-in_default-read_head
unreachable-requires-in_default-read_head g c =
    ∥∥₁_elim c.self.inside.from.1 (λ x y. absurd x)
    (λ from. no_head_behind g.P.Place.form g.P.Place.lawful c.bytes_at-bytes.result.now c.self.inside.head c.self.inside.left c.in-Some.next c.self.inside.from.0
    (subst (λ (b : List ℕ). AreFrom g.P.Place.form b c.self.inside.head c.self.inside.left c.self.inside.from.0) c.bytes_at-bytes.ensures.spelt from)
    c.in-Some.ensures.some c.if-self-eq0.false c.in_default-read_head.ensures.none)

pub invariant_of-result : goal.invariant_of-result
invariant_of-result g c = (
  stands_next g.P.Place.form g.P.Place.lawful c.bytes_at-bytes.result.now (posting_bytes_of g.P.Place.form (get_or c.self.inside.rows c.self.inside.index [])) c.self.inside.head c.in-Some-read_head.head c.self.inside.left c.in-Some.next
      c.bytes_at-bytes.ensures.spelt c.self.inside.from c.in-Some.ensures.some c.if-self-eq0.false c.in-Some-read_head.ensures.some,
  tt,
)

pub returns-clause-some : goal.returns-clause-some
returns-clause-some g c =
    let bytes : List ℕ = posting_bytes_of g.P.Place.form (get_or c.self.inside.rows c.self.inside.index []) in
    alone_kept g.P.Place.form g.P.Place.lawful bytes bytes refl c.in-Some-read_head.head (c.self.inside.left - 1) c.result-1.given.0
    (stands_next g.P.Place.form g.P.Place.lawful c.bytes_at-bytes.result.now bytes c.self.inside.head c.in-Some-read_head.head c.self.inside.left c.in-Some.next
    c.bytes_at-bytes.ensures.spelt c.self.inside.from c.in-Some.ensures.some c.if-self-eq0.false c.in-Some-read_head.ensures.some)
    ∙ ap behind_first c.self.view_is
