-- Pages, numbers and bytes that are the same in two images.
use Rattle.std.proofs.Common.{◌≡◌, ℕ, ◌+◌, ◌*◌, ◌≤◌, List, length, ap, arith}
use Rattle.std.specs.Int.{from_be_bytes, w32}
use Rattle.ct_site.specs.Ranges.{SameIn}
use Rattle.ct_site.specs.laws.Ranges.{piece_same}
use Rattle.pg_journal.specs.Pages.{page, byte, number_in}

pub page_same : (i : ℕ) (old new : List ℕ) → 4096 * i + 4096 ≤ length old → length old ≤ length new → SameIn (4096 * i) (4096 * i + 4096) old new → page new i ≡ page old i
page_same i old new long longer same = piece_same 4096 (4096 * i) old new long (omega (arith, long, longer)) same

pub number_same : (at : ℕ) (old new : List ℕ) → at + 4 ≤ length old → length old ≤ length new → SameIn at (at + 4) old new → number_in new at ≡ number_in old at
number_same at old new long longer same = ap (λ (l : List ℕ). from_be_bytes w32 l) (piece_same 4 at old new long (omega (arith, long, longer)) same)

pub byte_same : (at : ℕ) (old new : List ℕ) → SameIn at (at + 1) old new → byte new at ≡ byte old at
byte_same at old new same = same.each at (omega arith) (omega arith)
