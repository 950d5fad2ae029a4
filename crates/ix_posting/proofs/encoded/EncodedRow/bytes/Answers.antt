use Rattle.std.proofs.Common.{ap, sym, subst, ◌∙◌}
use Rattle.std.proofs.Math.Logic.{∥∥₁_elim, ∥∥₁_prop}
use Rattle.std.specs.Coded.{Coded-set, coded_list, coded_ℕ}
use Rattle.ix_posting.specs.Rows.{IsPostingRowOf, posting_bytes_of}
use Rattle.ix_posting.proofs.encoded.EncodedRow.bytes.Goals as goal

pub returns-clause-spelt : goal.returns-clause-spelt
returns-clause-spelt g c =
    ∥∥₁_elim c.self.inside.row.1 (Coded-set (coded_list coded_ℕ) _ _) (λ h. ap (posting_bytes_of g.P.Place.form) (sym c.self.view_is) ∙ h.1 ∙ sym c.as_slice.ensures.value)

pub returns-clause-row : goal.returns-clause-row
returns-clause-row g c = ∥∥₁_elim c.self.inside.row.1 ∥∥₁_prop (λ h. ∣ subst (IsPostingRowOf g.P.Place.form) c.self.view_is h.0 ∣₁)
