-- How many bytes a varint takes.
use Rattle.std.proofs.Common.{◌≡◌, ℕ, suc, ◌/◌, ◌<◌, ◌≤◌, length, sym, ap, ◌∙◌, arith}
use Rattle.ct_bytes.specs.Varints.{varint_in}
use Rattle.ct_bytes.specs.laws.Varints.{varint_last, varint_more}

pub one_byte : (more n : ℕ) → n < 128 → 1 ≡ length (varint_in more n)
one_byte more n small = sym (ap length (varint_last more n small))

one_more : (more n k : ℕ) → 128 ≤ n → k ≡ length (varint_in more (n / 128)) → suc k ≡ length (varint_in (suc more) n)
one_more more n k large rest = ap suc rest ∙ sym (ap length (varint_more more n large))

pub two_bytes : (more n : ℕ) → 128 ≤ n → n < 16384 → 2 ≡ length (varint_in (suc more) n)
two_bytes more n large small = one_more more n 1 large (one_byte more (n / 128) (omega arith))

pub three_bytes : (more n : ℕ) → 16384 ≤ n → n < 2097152 → 3 ≡ length (varint_in (suc (suc more)) n)
three_bytes more n large small = one_more (suc more) n 2 (omega arith) (two_bytes more (n / 128) (omega arith) (omega arith))

pub four_bytes : (more n : ℕ) → 2097152 ≤ n → n < 268435456 → 4 ≡ length (varint_in (suc (suc (suc more))) n)
four_bytes more n large small = one_more (suc (suc more)) n 3 (omega arith) (three_bytes more (n / 128) (omega arith) (omega arith))

pub five_bytes : (more n : ℕ) → 268435456 ≤ n → n < 34359738368 → 5 ≡ length (varint_in (suc (suc (suc (suc more)))) n)
five_bytes more n large small = one_more (suc (suc (suc more))) n 4 (omega arith) (four_bytes more (n / 128) (omega arith) (omega arith))
