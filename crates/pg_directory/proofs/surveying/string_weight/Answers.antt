use Rattle.std.proofs.Common.{ℕ, List, length, ap, arith}
use Rattle.pg_directory.proofs.Surveys.{sizes_of}
use Rattle.pg_directory.proofs.surveying.string_weight.Goals as goal

pub returns : goal.returns
returns c = λ kinds item entry chain good stands is.
    let s = sizes_of kinds item entry chain c.args.string.now (length c.key_of.result.now) c.value_size.result good stands is (ap (λ (l : List ℕ). length l) c.key_of.ensures) (c.value_size.ensures kinds item entry chain good stands is) in
    let a = s.key_is in
    let b = s.value_is in
    let e = s.key_small in
    let f = s.value_small in
    omega (arith, a, b, e, f, c.saturating_add-size.ensures, c.max.ensures)
