-- Bytes that are a count and so many items, to their end.
use Rattle.std.proofs.Common.{◌≡◌, ℕ, ◌+◌, ◌<◌, ◌^◌, List, ◌++◌, length, refl}
use Rattle.ct_bytes.specs.Varints.{varint, IsVarintAt}
use Rattle.ct_bytes.specs.laws.Varints.{varint_at_one}
use Rattle.ix_posting.specs.Places.{StandsAt, AreItemsAt}
use Rattle.ix_posting.specs.laws.Standing.{whole_stands, varint_is, first_part, second_part}
use Rattle.ix_posting.specs.laws.Items.{AreItems, many_alone}

-- All of the bytes are how many items there are, and so many items.
pub record IsWhole {X : Type 0} (Many : ℕ → ℕ → ℕ → List X → ℕ → Type 0) (bytes : List ℕ) (items : List X) : Type 0 where
  pub start : ℕ
  pub count : IsVarintAt bytes 0 (length items) start
  pub all : Many 0 start (length items) items (length bytes)

-- after the count stand the items of any whole
pub whole_rest : {X : Type 0} (Many : ℕ → ℕ → ℕ → List X → ℕ → Type 0) (bytes : List ℕ) (count start : ℕ) (items : List X) → IsVarintAt bytes 0 count start → IsWhole Many bytes items → Many 0 start count items (length bytes)
whole_rest Many bytes count start items is whole =
    let same = varint_at_one bytes 0 count start (length items) whole.start is whole.count in
    rw (same.0, same.1) whole.all

-- the items that stand after the count are those of any whole, and end with the bytes
pub whole_alone : {X : Type 0} (One : ℕ → ℕ → X → ℕ → Type 0) (Many : ℕ → ℕ → ℕ → List X → ℕ → Type 0) (after : X → ℕ) → AreItems One Many after → (bytes : List ℕ) (count start : ℕ) (xs : List X) (next : ℕ) (items : List X) → IsVarintAt bytes 0 count start → Many 0 start count xs next → IsWhole Many bytes items → (xs ≡ items) × (next ≡ length bytes)
whole_alone One Many after are bytes count start xs next items is many whole =
    many_alone One Many after are count 0 start xs next items (length bytes) many (whole_rest Many bytes count start items is whole)

-- what spells so many items, and how many they are before them, is a whole of them
pub whole_parts : {X : Type 0} (Rises : ℕ → List X → Type 0) (spelling : ℕ → List X → List ℕ) (bytes : List ℕ) (items : List X) → length items < 2 ^ 32 → Rises 0 items → varint (length items) ++ spelling 0 items ≡ bytes → IsWhole (AreItemsAt Rises spelling bytes) bytes items
whole_parts Rises spelling bytes items few rise spelt =
    let all : StandsAt bytes 0 (varint (length items) ++ spelling 0 items) (length bytes) = rw spelt (whole_stands bytes) in
    record {
      start = 0 + length (varint (length items));
      count = varint_is bytes 0 (length items) (0 + length (varint (length items))) few (first_part bytes 0 (varint (length items)) (spelling 0 items) (length bytes) all);
      all = record {
        many = refl;
        rise = rise;
        stand = second_part bytes 0 (varint (length items)) (spelling 0 items) (length bytes) all;
      };
    }
