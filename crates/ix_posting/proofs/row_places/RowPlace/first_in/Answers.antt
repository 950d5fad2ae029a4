use Rattle.std.proofs.Common.{◌≡◌, ◌-◌, ℕ, [], get_or, List, refl, sym, ap, ◌∙◌, arith}
use Rattle.std.proofs.Math.Logic.{∥∥₁_elim}
use Rattle.ix_posting.specs.Rows.{posting_bytes_of}
use Rattle.ix_posting.specs.declared.rows.RowDocument.{RowDocument}
use Rattle.ix_posting.proofs.RowSteps.{no_count, no_head, stands_first, alone_kept}
use Rattle.ix_posting.proofs.row_places.RowPlace.first_in.Goals as goal

pub unreachable-requires : goal.unreachable-requires
unreachable-requires g c =
    ∥∥₁_elim c.bytes_at-bytes.ensures.row (λ x y. absurd x)
    (λ is. no_count g.P.Place.form g.P.Place.lawful c.bytes_at-bytes.result.now _ is c.bytes_at-bytes.ensures.spelt c.in_default.ensures.none)

pub unreachable-requires-in_default-read_head : goal.unreachable-requires-in_default-read_head
unreachable-requires-in_default-read_head g c =
    ∥∥₁_elim c.bytes_at-bytes.ensures.row (λ x y. absurd x)
    (λ is. no_head g.P.Place.form g.P.Place.lawful c.bytes_at-bytes.result.now _ is c.bytes_at-bytes.ensures.spelt _ _ c.in-Some.ensures.some c.in_default-read_head.ensures.none)

pub invariant_of-result : goal.invariant_of-result
invariant_of-result g c =
    let rows = c.args.rows.now in
    let kept : List ℕ = posting_bytes_of g.P.Place.form (get_or c.in_ok-shared.shared c.args.index []) in
    let same : c.bytes_at-bytes.result.now ≡ kept = sym (ap (λ (rs : List (List (RowDocument g.row.P.Denot))). posting_bytes_of g.P.Place.form (get_or rs c.args.index [])) c.in_ok-shared.ensures ∙ c.bytes_at-bytes.ensures.spelt) in
    let others : c.saturating_sub.result ≡ c.in-Some.count - 1 = omega (arith, c.saturating_sub.ensures) in (
      stands_first g.P.Place.form g.P.Place.lawful c.bytes_at-bytes.result.now kept (get_or rows c.args.index []) c.in-Some.count c.in-Some.start c.saturating_sub.result c.in-Some-read_head.head
          same others c.bytes_at-bytes.ensures.row c.bytes_at-bytes.ensures.spelt c.in-Some.ensures.some c.in-Some-read_head.ensures.some,
      tt,
    )

pub returns : goal.returns
returns g c =
    let rows = c.args.rows.now in
    let kept : List ℕ = posting_bytes_of g.P.Place.form (get_or c.in_ok-shared.shared c.args.index []) in
    let same : c.bytes_at-bytes.result.now ≡ kept = sym (ap (λ (rs : List (List (RowDocument g.row.P.Denot))). posting_bytes_of g.P.Place.form (get_or rs c.args.index [])) c.in_ok-shared.ensures ∙ c.bytes_at-bytes.ensures.spelt) in
    let others : c.saturating_sub.result ≡ c.in-Some.count - 1 = omega (arith, c.saturating_sub.ensures) in
    alone_kept g.P.Place.form g.P.Place.lawful kept kept refl c.in-Some-read_head.head c.saturating_sub.result c.result-1.given.0
    (stands_first g.P.Place.form g.P.Place.lawful c.bytes_at-bytes.result.now kept (get_or rows c.args.index []) c.in-Some.count c.in-Some.start c.saturating_sub.result c.in-Some-read_head.head
    same others c.bytes_at-bytes.ensures.row c.bytes_at-bytes.ensures.spelt c.in-Some.ensures.some c.in-Some-read_head.ensures.some)
