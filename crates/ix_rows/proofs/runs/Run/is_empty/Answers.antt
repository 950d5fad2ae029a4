use Rattle.std.proofs.Common.{ℕ, List, length, sym, ap, ◌∙◌}
use Rattle.std.specs.Prelude.{◌==◌}
use Rattle.ix_rows.specs.declared.runs.RunDocument.{RunDocument}
use Rattle.ix_rows.specs.laws.Runs.{length-run_documents}
use Rattle.ix_rows.proofs.runs.Run.is_empty.Goals as goal

pub returns : goal.returns
returns c =
    c.is_empty.ensures
    ∙ ap (λ (ds : List RunDocument). length ds == 0) c.as_slice.ensures.value
    ∙ ap (λ (n : ℕ). n == 0) (sym (length-run_documents c.self.inside.documents.items c.self.inside.bytes.items) ∙ ap (λ (xs : List (ℕ × List ℕ)). length xs) c.self.view_is)
