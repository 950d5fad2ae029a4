use Rattle.std.proofs.Common.{FitsSigned, w64, rules}
use Rattle.std.proofs.lemmas.Bool.{false≢true}
use Rattle.ct_entry.proofs.KeySteps.{row_begins, no_row}
use Rattle.ct_entry.proofs.parts.is_row_part.Goals as goal

pub returns-in-Some : goal.returns-in-Some
returns-in-Some c = let fits : FitsSigned w64 c.in-Some._row.0 = search rules in row_begins c.args.part.now c.in-Some._row.0 fits c.in-Some.ensures.some

pub returns-in-None : goal.returns-in-None
returns-in-None c = no_row c.args.part.now (λ long. false≢true (c.in-None.ensures.enough.1 long))
