use Rattle.std.proofs.Common.{◌≡◌, drop, map}
use Rattle.db_find.specs.Structured.{cond_refusal, first_refusal}
use Rattle.db_find.proofs.structured.conds_fault.Given as goal

abbrev pub invariant-loop-cond : goal.invariant-loop-cond
invariant-loop-cond l = first_refusal (map (cond_refusal l.columns l.subs) (drop l.cond-index l.conds)) ≡ first_refusal (map (cond_refusal l.columns l.subs) l.conds)
