use Rattle.std.proofs.Math.Logic.{∥∥₁_elim}
use Rattle.std.specs.Coded.{Coded-set, coded_option, coded_ℕ}
use Rattle.ix_posting.proofs.RowSteps.{no_count, no_head, row_from, from_number}
use Rattle.ix_posting.proofs.encoded.EncodedRow.first.Goals as goal

pub unreachable-requires : goal.unreachable-requires
unreachable-requires g c =
    ∥∥₁_elim c.bytes-bytes.ensures.row (λ x y. absurd x)
    (λ is. no_count g.P.Place.form g.P.Place.lawful c.bytes-bytes.result.now c.args.self.now is c.bytes-bytes.ensures.spelt c.in_default.ensures.none)

pub unreachable-requires-in_default-read_head : goal.unreachable-requires-in_default-read_head
unreachable-requires-in_default-read_head g c =
    ∥∥₁_elim c.bytes-bytes.ensures.row (λ x y. absurd x)
    (λ is. no_head g.P.Place.form g.P.Place.lawful c.bytes-bytes.result.now c.args.self.now is c.bytes-bytes.ensures.spelt _ _ c.in-Some.ensures.some c.in_default-read_head.ensures.none)

pub returns : goal.returns
returns g c =
    ∥∥₁_elim c.bytes-bytes.ensures.row (Coded-set (coded_option coded_ℕ) _ _)
    (λ is. from_number g.P.Place.form g.P.Place.lawful c.bytes-bytes.result.now _ _ c.args.self.now (row_from g.P.Place.form g.P.Place.lawful c.bytes-bytes.result.now c.args.self.now is c.bytes-bytes.ensures.spelt _ _ _ c.in-Some.ensures.some c.in-Some-read_head.ensures.some))
