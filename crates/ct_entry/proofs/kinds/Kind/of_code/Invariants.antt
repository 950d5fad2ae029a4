use Rattle.std.proofs.Common.{take}
use Rattle.std.specs.List.{All}
use Rattle.ct_entry.proofs.KeySteps.{IsOther}
use Rattle.ct_entry.proofs.kinds.Kind.of_code.Given as goal

abbrev pub invariant-loop-kind : goal.invariant-loop-kind
invariant-loop-kind l = All (IsOther l.code) (take l.kind-index l.kind-items)
