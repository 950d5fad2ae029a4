use Rattle.std.proofs.Common.{rules, ℤ, FitsSigned, w64, sym, subst}
use Rattle.std.proofs.lemmas.Int.{to_z-of_z}
use Rattle.st_parse.specs.declared.statements.Whole.{Whole}
use Rattle.st_parse.specs.declared.statements.Whole.TheVariants.{Fits}
use Rattle.st_parse.specs.declared.statements.Operand.TheVariants.{Number}
use Rattle.db_rows.specs.Bounds.{AreBoundsOf}
use Rattle.db_rows.proofs.bounds.whole_bounds.Goals as goal

pub returns-in-Fits : goal.returns-in-Fits
returns-in-Fits c =
    let fits : FitsSigned w64 c.in-Fits.number = search rules in
    let own = subst (λ (z : ℤ). AreBoundsOf c.args.op (Number (Fits z)) c.number_bounds.result) (to_z-of_z w64 c.in-Fits.number fits) c.number_bounds.ensures in
    subst (λ (n : Whole). AreBoundsOf c.args.op (Number n) c.number_bounds.result) (sym c.in-Fits.is) own
