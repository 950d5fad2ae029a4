use Rattle.std.proofs.Common.{sym, ap, subst, ◌∙◌}
use Rattle.ix_posting.specs.Rows.{IsPostingRowOf, posting_bytes_of}
use Rattle.ix_posting.specs.Encoded.{SpeltRow, one_row}
use Rattle.ix_posting.specs.Passed.{last_number}
use Rattle.ix_posting.proofs.encoded.EncodedRow.of.Goals as goal

pub invariant_of-result-2 : goal.invariant_of-result-2
invariant_of-result-2 g c =
    let ends = c.in-Some.ensures.some in
    let same = ap (λ (s : SpeltRow g.P.Place.form c.args.bytes.items). s.0) {x = (ends.0, ∣ (ends.1, ends.2 ∙ c.as_slice.ensures.value) ∣₁)} (one_row g.P.Place.form g.P.Place.lawful c.args.bytes.items _ c.result-1.given.0) in
    ends.3 ∙ ap (last_number 0) same

pub returns-clause-row : goal.returns-clause-row
returns-clause-row g c =
    let ends = c.in-Some.ensures.some in
    let spelt = ends.2 ∙ c.as_slice.ensures.value in
    let same = ap (λ (s : SpeltRow g.P.Place.form c.args.bytes.items). s.0) {x = (ends.0, ∣ (ends.1, spelt) ∣₁)} (one_row g.P.Place.form g.P.Place.lawful c.args.bytes.items _ c.result-1.given.0) in
    (subst (IsPostingRowOf g.P.Place.form) same ends.1, ap (posting_bytes_of g.P.Place.form) (sym same) ∙ spelt)

pub returns-clause-one : goal.returns-clause-one
returns-clause-one g c = λ row is spelt.
    ap (λ (s : SpeltRow g.P.Place.form c.args.bytes.items). s.0) {x = c.result-1.given.0} (one_row g.P.Place.form g.P.Place.lawful c.args.bytes.items _ (row, ∣ (is, spelt) ∣₁))
