-- The fields of a batch.
use Rattle.std.specs.Prelude.{◌≡◌, ◌^◌, ◌*◌, ◌≤◌, vec_len, refl}
use Rattle.std.specs.Vec.{vec_capacity}
use Rattle.pg_journal.specs.declared.batches.PageBatch.TheInside.{Inside}
use Rattle.pg_journal.specs.Pages.{AreBetween}
use Rattle.pg_journal.specs.BatchStates.{BatchState, pages_in}

abbrev pub batch_of : Inside → BatchState
batch_of b = record { room = b.room; pages = pages_in b.numbers.items b.bytes.items }

-- The numbers rise, each has a page of bytes, and there is memory for the room.
pub record IsBatch (b : Inside) : Type 0 where
  pub long : vec_len b.bytes ≡ 4096 * vec_len b.numbers
  pub numbers : AreBetween 2 (2 ^ 32) (pages_in b.numbers.items b.bytes.items)
  pub within : vec_len b.numbers ≤ b.room
  pub number_room : b.room ≤ vec_capacity b.numbers
  pub byte_room : 4096 * b.room ≤ vec_capacity b.bytes

-- computed example: a batch tells its own room
its_room : (b : Inside) → (batch_of b).room ≡ b.room
its_room b = refl
