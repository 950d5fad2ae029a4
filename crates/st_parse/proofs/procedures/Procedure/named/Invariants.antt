use Rattle.std.proofs.Common.{◌≡◌, length}
use Rattle.st_parse.specs.Procedures.{procedure_named, procedure_among}
use Rattle.st_parse.proofs.procedures.Procedure.named.Given as goal

abbrev pub invariant-loop-rest : goal.invariant-loop-rest
invariant-loop-rest l = procedure_among l.pack l.name l.rest ≡ procedure_named l.pack l.name

abbrev pub decreases-loop-rest : goal.decreases-loop-rest
decreases-loop-rest l = length l.rest
