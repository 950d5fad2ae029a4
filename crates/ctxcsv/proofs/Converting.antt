-- What is known of a script that was written, and of a failure.
use Rattle.std.proofs.Common.{◌≡◌, ℕ, List, Option, Some, None, IfSome, refl, sym, subst, inl, inr}
use Rattle.std.specs.Prelude.{◌⊎◌}
use Rattle.csv_table.specs.declared.refusals.Refusal.{Refusal}
use Rattle.csv_table.specs.declared.refusals.Refusal.TheVariants.{Memory}
use Rattle.csv_table.specs.Faults.{ScriptFault}
use Rattle.std.specs.Io.KnownBytes.{Appends}
use Rattle.ctxcsv.specs.declared.program.Failure.{Failure}
use Rattle.ctxcsv.specs.declared.program.Failure.TheVariants.{Arguments, Input, Output, Refused}
use Rattle.ctxcsv.specs.Arguments.{Asks}
use Rattle.ctxcsv.specs.Program.{IsCauseOf, IsScriptFor, LeavesOutput}

-- where it is known which bytes were read, the script is theirs
pub converted : (known old new : Option (List ℕ)) (asked : Asks) (text script : List ℕ) → IfSome known (λ bytes. text ≡ bytes) → IsScriptFor text asked script → Appends old new script
    → IfSome known (λ bytes. (made : List ℕ) × IsScriptFor bytes asked made × Appends old new made)
converted None old new asked text script known is appended = tt
converted (Some bytes) old new asked text script same is appended = (script, subst (λ (t : List ℕ). IsScriptFor t asked script) same is, appended)

pub nothing_written : {W : Type 0} (failure : Failure) (w : W) → LeavesOutput failure w w
nothing_written Arguments w = refl
nothing_written Input w = refl
nothing_written Output w = tt
nothing_written (Refused refusal) w = refl

pub output_failed : {W : Type 0} (failure : Failure) (old new : W) → failure ≡ Output → LeavesOutput failure old new
output_failed Arguments old new is = cc
output_failed Input old new is = cc
output_failed Output old new is = tt
output_failed (Refused refusal) old new is = cc

-- ---- causes

no_memory : (known : Option (List ℕ)) (asks : Asks) → IsCauseOf known asks (Refused Memory)
no_memory None asks = tt
no_memory (Some text) asks = inl (inl tt)

pub not_read : (known : Option (List ℕ)) (asks : Asks) (failure : Failure) → (failure ≡ Input) ⊎ (failure ≡ Refused Memory) → IsCauseOf known asks failure
not_read known asks failure (inl is) = subst (λ (f : Failure). IsCauseOf known asks f) (sym is) tt
not_read known asks failure (inr is) = subst (λ (f : Failure). IsCauseOf known asks f) (sym is) (no_memory known asks)

pub not_written : (known : Option (List ℕ)) (asks : Asks) (failure : Failure) → failure ≡ Output → IsCauseOf known asks failure
not_written known asks failure is = subst (λ (f : Failure). IsCauseOf known asks f) (sym is) tt

pub refused : (known : Option (List ℕ)) (asks : Asks) (text : List ℕ) (refusal : Refusal) → IfSome known (λ bytes. text ≡ bytes) → ScriptFault text asks.0 asks.1 refusal
    → IsCauseOf known asks (Refused refusal)
refused None asks text refusal is fault = tt
refused (Some bytes) asks text refusal same fault = subst (λ (t : List ℕ). ScriptFault t asks.0 asks.1 refusal) same fault

-- ---- the command

-- what holds of what is asked for
pub of_command : (P : Asks → Type 0) (found : Option Asks) (asks : Asks) → Some asks ≡ found → P asks → IfSome found P
of_command P found asks is has = subst (λ (o : Option Asks). IfSome o P) is has

pub none_asked : (found : Option Asks) (asks : Asks) → Some asks ≡ found → found ≡ None → ⊥
none_asked None asks is none = cc
none_asked (Some a) asks is none = cc
