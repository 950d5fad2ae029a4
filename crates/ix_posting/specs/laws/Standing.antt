-- Bytes that stand at places: joined and parted.
use Rattle.std.proofs.Common.{◌≡◌, ℕ, ◌+◌, ◌<◌, ◌^◌, List, [], ◌++◌, length, drop, refl, sym, ap, ◌∙◌, append_assoc, length-append, arith}
use Rattle.std.proofs.lemmas.List.{append-nil, drop-drop, drop_at, drop_all}
use Rattle.ct_bytes.specs.Varints.{varint, IsVarintAt}
use Rattle.ix_posting.specs.Places.{StandsAt}

pub nothing_stands : (bytes : List ℕ) (at : ℕ) → StandsAt bytes at [] at
nothing_stands bytes at = record { spelt = refl; end = omega arith }

pub nothing_left : (bytes : List ℕ) (at next : ℕ) → StandsAt bytes at [] next → next ≡ at
nothing_left bytes at next is = omega (arith, is.end)

pub joined : (bytes : List ℕ) (at : ℕ) (x : List ℕ) (mid : ℕ) (y : List ℕ) (next : ℕ) → StandsAt bytes at x mid → StandsAt bytes mid y next → StandsAt bytes at (x ++ y) next
joined bytes at x mid y next first second = record {
  spelt = first.spelt ∙ ap (λ l. x ++ l) second.spelt ∙ sym (append_assoc x y (drop next bytes));
  end = omega (arith, first.end, second.end, length-append x y);
}

pub second_part : (bytes : List ℕ) (at : ℕ) (x y : List ℕ) (next : ℕ) → StandsAt bytes at (x ++ y) next → StandsAt bytes (at + length x) y next
second_part bytes at x y next is = record {
  spelt = sym (drop-drop (length x) at bytes) ∙ ap (drop (length x)) (is.spelt ∙ append_assoc x y (drop next bytes)) ∙ drop_at x (y ++ drop next bytes) (length x) refl;
  end = omega (arith, is.end, length-append x y);
}

pub first_part : (bytes : List ℕ) (at : ℕ) (x y : List ℕ) (next : ℕ) → StandsAt bytes at (x ++ y) next → StandsAt bytes at x (at + length x)
first_part bytes at x y next is = record {
  spelt = is.spelt ∙ append_assoc x y (drop next bytes) ∙ ap (λ l. x ++ l) (sym second.spelt);
  end = refl;
}
  where
    second : StandsAt bytes (at + length x) y next
    second = second_part bytes at x y next is

-- all bytes stand at their beginning
pub whole_stands : (bytes : List ℕ) → StandsAt bytes 0 bytes (length bytes)
whole_stands bytes = record {
  spelt = sym (append-nil bytes) ∙ ap (λ l. bytes ++ l) (sym (drop_all (length bytes) bytes (omega arith)));
  end = omega arith;
}

pub varint_stands : (bytes : List ℕ) (at n next : ℕ) → IsVarintAt bytes at n next → StandsAt bytes at (varint n) next
varint_stands bytes at n next is = record { spelt = is.spelt; end = is.end }

pub varint_is : (bytes : List ℕ) (at n next : ℕ) → n < 2 ^ 32 → StandsAt bytes at (varint n) next → IsVarintAt bytes at n next
varint_is bytes at n next small is = record { small = small; spelt = is.spelt; end = is.end }
