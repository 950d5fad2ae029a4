-- Zeros, written piece by piece.
use Rattle.std.proofs.Common.{◌≡◌, ℕ, ◌+◌, ◌-◌, ◌≤◌, List, length, Ok, Result, sym, ap, subst, ◌∙◌, arith}
use Rattle.std.specs.Prelude.{IsErr}
use Rattle.std.proofs.lemmas.List.{length-replicate}
use Rattle.ct_site.specs.declared.outside.Failed.{Failed}
use Rattle.ct_site.specs.Disks.{DiskView}
use Rattle.ct_base.specs.Zeros.{zeros}
use Rattle.ct_base.specs.laws.Zeros.{zeros-add}
use Rattle.ct_site.specs.Lengths.{IsWithin}
use Rattle.ct_site.specs.Writing.{Writes}
use Rattle.ct_site.specs.laws.Writing.{writes_then, writes_failed, within_then}

pub zeros_step : (at next done piece : ℕ) (bytes : List ℕ) (old mid new : DiskView) (result : Result (Unit {0}) Failed) → IsWithin at old → next ≡ at + done → bytes ≡ zeros piece
    → Writes at (zeros done) old mid (Ok tt) → Writes next bytes mid new result → Writes at (zeros (done + piece)) old new result
zeros_step at next done piece bytes old mid new result within place is first second =
    let long = length-replicate {A = ℕ} done 0 in
    subst (λ (l : List ℕ). Writes at l old new result) (sym (zeros-add done piece))
    (writes_then at next (zeros done) (zeros piece) old mid new result within (place ∙ ap (λ (n : ℕ). at + n) (sym long)) first (subst (λ (l : List ℕ). Writes next l mid new result) is second))

pub zeros_short : (at next done piece count : ℕ) (bytes : List ℕ) (old mid new : DiskView) (last all : Result (Unit {0}) Failed) → IsErr all → IsWithin at old → next ≡ at + done → bytes ≡ zeros piece → done + piece ≤ count
    → Writes at (zeros done) old mid (Ok tt) → Writes next bytes mid new last → Writes at (zeros count) old new all
zeros_short at next done piece count bytes old mid new last all err within place is most first second =
    let rest = count - (done + piece) in
    let whole : count ≡ done + piece + rest = omega (arith, most) in
    subst (λ (l : List ℕ). Writes at l old new all) (sym (ap zeros whole ∙ zeros-add (done + piece) rest))
    (writes_failed at (zeros (done + piece)) (zeros rest) old new last all err (zeros_step at next done piece bytes old mid new last within place is first second))

pub zeros_within : (at done piece : ℕ) (bytes : List ℕ) (mid new : DiskView) → bytes ≡ zeros piece → IsWithin (at + done) mid → Writes (at + done) bytes mid new (Ok tt) → IsWithin (at + (done + piece)) new
zeros_within at done piece bytes mid new is within writes =
    let e : at + done + length bytes ≡ at + (done + piece) = ap (λ (n : ℕ). at + done + n) (ap (λ (l : List ℕ). length l) is ∙ length-replicate {A = ℕ} piece 0) ∙ omega arith in
    subst (λ (n : ℕ). IsWithin n new) e (within_then (at + done) bytes mid new within writes)
