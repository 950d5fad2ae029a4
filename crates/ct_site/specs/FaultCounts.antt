-- Counts of faults, and of how often the end of the script was told. One more raises a count by one; it stands still at 2^64 - 1.
use Rattle.std.specs.Prelude.{◌≡◌, ℕ, ◌+◌, ◌-◌, ◌^◌, ◌≤◌, ◌==◌, min, Bool, if◌then◌else◌, Result, Ok, Err, is_err, refl}
use Rattle.std.specs.Result.{OnOk, OnErr}
use Rattle.std.proofs.Common.{◌∙◌, ap, arith}
use Rattle.ct_base.specs.Causes.{Rose}

-- a count after one more, up to 2^64 - 1
abbrev pub raised : ℕ → ℕ
raised n = min (n + 1) (2 ^ 64 - 1)

-- and after one more, if that is to be counted
abbrev pub raised_if : Bool → ℕ → ℕ
raised_if counts n = if counts then raised n else n

-- how often the end of the script was told, after one more call of `hear`: it is told by Ok 0
abbrev pub ends_after : {E : Type 0} → Result ℕ E → ℕ → ℕ
ends_after (Ok count) n = raised_if (count == 0) n
ends_after (Err fault) n = n

-- a count after a call that may have failed
abbrev pub faults_after : {T E : Type 0} → Result T E → ℕ → ℕ
faults_after result n = if is_err result then raised n else n

-- A call that succeeds leaves its count of faults as it was, and one that fails raises it by one. No count falls.
pub record CountsFaults {T E : Type 0} (before now : ℕ) (result : Result T E) : Type 0 where
  pub later : before ≤ now
  pub passed : OnOk result (now ≡ before)
  pub failed : OnErr result (now ≡ raised before)

-- calls that succeeded, and then one more
pub counts_then : {T E : Type 0} (old mid new : ℕ) (result : Result T E) → mid ≡ old → CountsFaults mid new result → CountsFaults old new result
counts_then old mid new result first second = record { later = omega (arith, first, second.later); passed = passed result second.passed; failed = failed result second.failed }
  where
    passed : {T E : Type 0} (result : Result T E) → OnOk result (new ≡ mid) → OnOk result (new ≡ old)
    passed (Ok x) p = p ∙ first
    passed (Err e) p = tt

    failed : {T E : Type 0} (result : Result T E) → OnErr result (new ≡ raised mid) → OnErr result (new ≡ raised old)
    failed (Ok x) p = tt
    failed (Err e) p = p ∙ ap raised first

-- a count that was raised rose, or stands at its last value
pub rose_raised : (before now : ℕ) → now ≡ raised before → Rose before now
rose_raised before now is = omega (arith, is)

-- computed examples
a_fault : faults_after {T = ℕ} {E = ℕ} (Err 7) 4 ≡ 5
a_fault = refl

no_fault : faults_after {T = ℕ} {E = ℕ} (Ok 7) 4 ≡ 4
no_fault = refl

end_told : ends_after {E = ℕ} (Ok 0) 0 ≡ 1
end_told = refl

bytes_heard : ends_after {E = ℕ} (Ok 3) 1 ≡ 1
bytes_heard = refl

at_its_end : raised (2 ^ 64 - 1) ≡ 2 ^ 64 - 1
at_its_end = refl
