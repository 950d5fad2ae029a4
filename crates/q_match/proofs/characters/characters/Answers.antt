use Rattle.std.proofs.Common.{◌≤◌, ◌<◌, ◌+◌, ◌*◌, ◌-◌, ◌++◌, ap, sym, subst, ◌∙◌, ℕ, List, length, get_or, take, drop, arith}
use Rattle.std.specs.Str.{chars, chars_after}
use Rattle.q_match.proofs.Decoding.{character_limit, chars_begin, chars_none, of_first, lead_fits, continuation_limit, next_fits, next_after}
use Rattle.q_match.proofs.characters.characters.Goals as goal

pub returns-in_default : goal.returns-in_default
returns-in_default c = c.new-out.ensures.items ∙ chars_none c.args.bytes.now c.in_default.len_below

pub loop-rest-init : goal.loop-rest-init
loop-rest-init c =
    let bytes = c.args.bytes.now in
    let later = take (length bytes - 1) (drop 1 bytes) in
    let b = get_or bytes 0 0 in
    let low : b < 256 = omega (arith, c.type_inv.bytes 0) in
    record {
      so_far =
          (λ i. c.new-out.ensures.items i ++ chars_after (c.continuation_len-left.ensures i) (c.lead_bits-value.ensures i) later)
          ∙ chars_begin b later
          ∙ of_first chars bytes c.in-len1-up.len_at_least;
      fits = rw (c.continuation_len-left.ensures, c.lead_bits-value.ensures) (lead_fits b low);
      three = rw c.continuation_len-left.ensures (continuation_limit b);
    }

pub loop-rest-preserved : goal.loop-rest-preserved
loop-rest-preserved c =
    let rest = c.loop-rest.rest.now in
    let later = take (length rest - 1) (drop 1 rest) in
    let b = get_or rest 0 0 in
    let left = c.loop-rest.left in
    let value = c.loop-rest.value in
    let out = c.loop-rest.out.items in
    let low : b - 128 < 256 = omega (arith, c.saturating_sub.type_inv, c.saturating_sub.ensures) in
    let some : 0 < left = omega (arith, c.if-left-eq0.false) in
    let sub = c.saturating_sub.ensures in
    record {
      so_far =
          ap (λ (k : ℕ). out ++ chars_after (left - 1) (value * 64 + k) later) sub
          ∙ ap (λ (l : List ℕ). out ++ l) (sym (next_after left value b later some))
          ∙ of_first (λ (bs : List ℕ). out ++ chars_after left value bs) rest c.in-len1-up-rest.len_at_least
          ∙ c.loop-rest.invariant.so_far;
      fits = subst (λ (k : ℕ). value * 64 + k ≤ character_limit (left - 1)) (sym sub) (next_fits left value b low c.loop-rest.invariant.three some c.loop-rest.invariant.fits);
      three = omega (arith, c.loop-rest.invariant.three);
    }
