-- The steps of a commit, over the views of the disk between their writes.
use Rattle.std.specs.Prelude.{IsErr}
use Rattle.std.proofs.Common.{◌≡◌, ℕ, ◌+◌, ◌-◌, ◌*◌, ◌≤◌, ◌<◌, ◌^◌, List, ◌++◌, length, take, drop, Some, Result, Ok, refl, sym, ap, subst, ◌∙◌, arith, append_assoc, length-append, take-append-drop, drop-drop}
use Rattle.std.proofs.lemmas.List.{take_at, drop_at}
use Rattle.std.proofs.lemmas.Nat.{from_be_bytes-to_be_bytes_4}
use Rattle.std.specs.Int.{to_be_bytes, from_be_bytes, w32}
use Rattle.ct_site.specs.declared.outside.Failed.{Failed}
use Rattle.ct_site.specs.Images.{written, Torn}
use Rattle.ct_site.specs.Pieces.{torn_written, length-written}
use Rattle.ct_site.specs.Disks.{DiskView, Leaves, leaves_more, leaves_then}
use Rattle.ct_base.specs.Zeros.{zeros}
use Rattle.ct_base.specs.laws.Zeros.{length-zeros}
use Rattle.pg_journal.specs.Pages.{Numbered, AreBetween}
use Rattle.pg_journal.specs.Recovered.{number_pages, images_bytes, filling, batch_bytes, batch_page, batch_count}
use Rattle.pg_journal.specs.BatchStates.{numbers_in, spelled}
use Rattle.pg_journal.proofs.BatchPages.{numbers_spelled, count_of_numbers, length-spelled}
use Rattle.pg_journal.specs.Standing.{IsShut, DiskStands}
use Rattle.pg_journal.specs.Staging.{IsStaged, Staged}
use Rattle.ct_site.specs.Lengths.{Lengthens, IsWithin}
use Rattle.ct_site.specs.Writing.{Writes, Progress, DiskGives}
use Rattle.ct_site.specs.laws.Writing.{progress_none, progress_step, progress_failed, progress_end, gives_written, writes_keep}
use Rattle.ct_site.specs.laws.Ranges.{torn_after, piece_same, piece_written}
use Rattle.pg_journal.proofs.Shut.{shut_behind, shut_noted}
use Rattle.pg_journal.proofs.BatchBytes.{fits_pages, length-batch, filling_there, batch_there as batch_stands}

-- ---- the bytes of a batch

pub batch_parts : (ws : List Numbered) → batch_bytes ws ≡ (spelled (numbers_in ws) ++ zeros (filling (length (numbers_in ws)))) ++ images_bytes ws
batch_parts ws =
    ap (λ (l : List ℕ). l ++ (zeros (filling (length ws)) ++ images_bytes ws)) (numbers_spelled ws)
    ∙ sym (append_assoc (spelled (numbers_in ws)) (zeros (filling (length ws))) (images_bytes ws))
    ∙ ap (λ (n : ℕ). (spelled (numbers_in ws) ++ zeros (filling n)) ++ images_bytes ws) (sym (count_of_numbers ws))

pub length-number_pages : (ws : List Numbered) → length (spelled (numbers_in ws) ++ zeros (filling (length (numbers_in ws)))) ≡ 4096 * number_pages (length (numbers_in ws))
length-number_pages ws =
    let fits = fits_pages (length (numbers_in ws)) in
    omega (arith, fits, length-append (spelled (numbers_in ws)) (zeros (filling (length (numbers_in ws)))), length-zeros (filling (length (numbers_in ws))), length-spelled (numbers_in ws))

module _ (place : ℕ) (ws : List Numbered) (numbers : List ℕ) (old d1 : DiskView) (is : numbers ≡ numbers_in ws) (within : IsWithin (4096 * place) old) where
  abbrev area : List ℕ
  area = spelled numbers ++ zeros (filling (length numbers))

  parts : batch_bytes ws ≡ area ++ images_bytes ws
  parts = batch_parts ws ∙ ap (λ (l : List ℕ). (spelled l ++ zeros (filling (length l))) ++ images_bytes ws) (sym is)

  begun : Progress (4096 * place) (4096 * place) (batch_bytes ws) (batch_bytes ws) old old
  begun = progress_none (4096 * place) (batch_bytes ws) old within

  pub no_numbers : (last end : Result (Unit {0}) Failed) → IsErr end → Writes (4096 * place) area old d1 last → Writes (4096 * place) (batch_bytes ws) old d1 end
  no_numbers last end err w = progress_failed (4096 * place) (4096 * place) _ _ area (images_bytes ws) old old d1 last end err parts begun w

  pub numbers_written : Writes (4096 * place) area old d1 (Ok tt) → Progress (4096 * place) (4096 * place + 4096 * number_pages (length numbers)) (batch_bytes ws) (images_bytes ws) old d1
  numbers_written w =
      let long : length area ≡ 4096 * number_pages (length numbers) = subst (λ (l : List ℕ). length (spelled l ++ zeros (filling (length l))) ≡ 4096 * number_pages (length l)) (sym is) (length-number_pages ws) in
      progress_step (4096 * place) (4096 * place) _ _ _ area (images_bytes ws) old old d1 parts (ap (λ (n : ℕ). 4096 * place + n) (sym long)) begun w

  pub batch_written : Writes (4096 * place) area old d1 (Ok tt) → (new : DiskView) (result : Result (Unit {0}) Failed) (bytes : List ℕ) → bytes ≡ images_bytes ws
      → Writes (4096 * place + 4096 * number_pages (length numbers)) bytes d1 new result → Writes (4096 * place) (batch_bytes ws) old new result
  batch_written w new result bytes same last =
      progress_end (4096 * place) (4096 * place + 4096 * number_pages (length numbers)) (batch_bytes ws) (images_bytes ws) old d1 new result (numbers_written w)
      (subst (λ (l : List ℕ). Writes (4096 * place + 4096 * number_pages (length numbers)) l d1 new result) same last)

-- ---- staging

two_pieces : (a b l : List ℕ) → take 8 l ≡ a ++ b → l ≡ a ++ (b ++ drop 8 l)
two_pieces a b l piece = sym (take-append-drop 8 l) ∙ ap (λ (x : List ℕ). x ++ drop 8 l) piece ∙ append_assoc a b (drop 8 l)

first_piece : (a b l : List ℕ) → length a ≡ 4 → take 8 l ≡ a ++ b → take 4 l ≡ a
first_piece a b l four piece = ap (λ (x : List ℕ). take 4 x) (two_pieces a b l piece) ∙ take_at a (b ++ drop 8 l) 4 four

second_piece : (a b l : List ℕ) → length a ≡ 4 → length b ≡ 4 → take 8 l ≡ a ++ b → take 4 (drop 4 l) ≡ b
second_piece a b l four four_too piece =
    ap (λ (x : List ℕ). take 4 (drop 4 x)) (two_pieces a b l piece) ∙ ap (λ (x : List ℕ). take 4 x) (drop_at a (b ++ drop 8 l) 4 four) ∙ take_at b (drop 8 l) 4 four_too

-- behind the homes there is room
pub record HasRoom (homes place : ℕ) (pages : List (List ℕ)) (x : List ℕ) : Type 0 where
  pub shut : IsShut homes pages x
  pub room : 4096 * place ≤ length x

pub record HasBatch (homes place : ℕ) (pages : List (List ℕ)) (batch : List Numbered) (x : List ℕ) : Type 0 where
  pub shut : IsShut homes pages x
  pub there : take (length (batch_bytes batch)) (drop (4096 * place) x) ≡ batch_bytes batch
  pub room : 4096 * place + length (batch_bytes batch) ≤ length x

pub record IsReady (homes place : ℕ) (pages : List (List ℕ)) (batch : List Numbered) (x : List ℕ) : Type 0 where
  pub shut : IsShut homes pages x
  pub staged : IsStaged place batch x

module _ (homes place : ℕ) (pages : List (List ℕ)) (batch : List Numbered) (below : homes ≤ place) where
  pub room_lengthened : (n : ℕ) (x : List ℕ) → IsShut homes pages x → length (zeros n) ≡ 4096 * place - length x → HasRoom homes place pages (written (length x) (zeros n) x)
  room_lengthened n x shut long = record {
    shut = shut_behind homes (length x) (length (zeros n)) pages x _ (omega (arith, shut.closed.inside, shut.count)) shut (torn_written (length x) (zeros n) x (omega arith));
    room = omega (arith, length-written (length x) (zeros n) x (omega arith), long);
  }

  pub batch_there : (x : List ℕ) → HasRoom homes place pages x → HasBatch homes place pages batch (written (4096 * place) (batch_bytes batch) x)
  batch_there x r = record {
    shut = shut_behind homes (4096 * place) (length (batch_bytes batch)) pages x _ (omega (arith, below)) r.shut (torn_written (4096 * place) (batch_bytes batch) x r.room);
    there = piece_written (4096 * place) (batch_bytes batch) x r.room;
    room = omega (arith, length-written (4096 * place) (batch_bytes batch) x r.room);
  }

  pub noted : (x : List ℕ) (note : List ℕ) → note ≡ to_be_bytes w32 place ++ to_be_bytes w32 (length batch) → place < 2 ^ 32 → length batch < 2 ^ 32 → AreBetween 2 place batch → 3 ≤ place
      → HasBatch homes place pages batch x → IsReady homes place pages batch (written 4104 note x)
  noted x note is small few between least b =
      let whole = b.shut.store.whole in
      let eight : length note ≡ 8 = ap (λ (l : List ℕ). length l) is in
      let y = written 4104 note x in
      let torn : Torn 4104 (length note) x y = torn_written 4104 note x (omega (arith, whole)) in
      let piece : take 8 (drop 4104 y) ≡ to_be_bytes w32 place ++ to_be_bytes w32 (length batch) =
      subst (λ (n : ℕ). take n (drop 4104 y) ≡ note) eight (piece_written 4104 note x (omega (arith, whole))) ∙ is in
      let there : take (length (batch_bytes batch)) (drop (4096 * place) y) ≡ batch_bytes batch =
      piece_same (length (batch_bytes batch)) (4096 * place) x y b.room (omega (arith, b.room, torn.no_shorter))
      (torn_after 4104 (length note) (4096 * place) (4096 * place + length (batch_bytes batch)) x y torn (omega (arith, eight, least))) ∙ b.there in
      let at : batch_page y ≡ place =
      ap (λ (l : List ℕ). from_be_bytes w32 l) (first_piece (to_be_bytes w32 place) (to_be_bytes w32 (length batch)) (drop 4104 y) refl piece)
      ∙ from_be_bytes-to_be_bytes_4 place small in
      let count : batch_count y ≡ length batch =
      ap (λ (l : List ℕ). from_be_bytes w32 (take 4 l)) (sym (drop-drop 4 4104 y))
      ∙ ap (λ (l : List ℕ). from_be_bytes w32 l) (second_piece (to_be_bytes w32 place) (to_be_bytes w32 (length batch)) (drop 4104 y) refl refl piece)
      ∙ from_be_bytes-to_be_bytes_4 (length batch) few in
      record {
        shut = shut_noted homes 4104 (length note) pages x y (omega arith) (omega (arith, eight)) b.shut torn;
        staged = record {
          at = at;
          count = count;
          inside = omega (arith, b.room, torn.no_shorter, length-batch 2 place batch between);
          batch = batch_stands y place 2 place batch between (omega (arith, small)) there at count;
          filling = filling_there y place 2 place batch between (omega (arith, small)) there;
        };
      }

-- what the steps leave of the disk

module _ (homes place : ℕ) (pages : List (List ℕ)) (batch : List Numbered) (below : homes ≤ place) (old : DiskView) (s : DiskStands old homes pages) where
  shut_now : (x : List ℕ) → old.may_leave x → IsShut homes pages x
  shut_now x left = subst (IsShut homes pages) (sym (s.settled.only x left)) s.shut

  homes_within : 4096 * homes ≤ length s.image
  homes_within = omega (arith, s.shut.closed.inside, s.shut.count)

  module _ (d1 : DiskView) (r1 : Result (Unit {0}) Failed) (n : ℕ) (w1 : Writes (length s.image) (zeros n) old d1 r1) where
    pub lengthened : Leaves old d1 (IsShut homes pages)
    lengthened = writes_keep (IsShut homes pages) (length s.image) (zeros n) old d1 r1 w1 (λ x y shut torn. shut_behind homes (length s.image) (length (zeros n)) pages x y homes_within shut torn) shut_now

    module _ (d2 : DiskView) (r2 : Result (Unit {0}) Failed) (w2 : Writes (4096 * place) (batch_bytes batch) d1 d2 r2) where
      pub batched : Leaves old d2 (IsShut homes pages)
      batched = leaves_then old d1 d2 _ lengthened
          (writes_keep (IsShut homes pages) (4096 * place) (batch_bytes batch) d1 d2 r2 w2
          (λ x y shut torn. shut_behind homes (4096 * place) (length (batch_bytes batch)) pages x y (omega (arith, below)) shut torn) lengthened.now)

      module _ (d3 : DiskView) (r3 : Result (Unit {0}) Failed) (note : List ℕ) (is : note ≡ to_be_bytes w32 place ++ to_be_bytes w32 (length batch)) (w3 : Writes 4104 note d2 d3 r3) where
        pub noted_so : Leaves old d3 (IsShut homes pages)
        noted_so = leaves_then old d2 d3 _ batched
            (writes_keep (IsShut homes pages) 4104 note d2 d3 r3 w3
            (λ x y shut torn. shut_noted homes 4104 (length note) pages x y (omega arith) (omega (arith, ap (λ (l : List ℕ). length l) is)) shut torn) batched.now)

        pub synced : (new : DiskView) → Leaves d3 new d3.may_leave → Leaves old new (IsShut homes pages)
        synced new leaves = leaves_then old d3 new _ noted_so (leaves_more d3 new _ _ leaves noted_so.now)

  pub all_written : (d1 d2 d3 : DiskView) (n : ℕ) (note : List ℕ) → length (zeros n) ≡ 4096 * place - length s.image → note ≡ to_be_bytes w32 place ++ to_be_bytes w32 (length batch)
      → place < 2 ^ 32 → length batch < 2 ^ 32 → AreBetween 2 place batch → 3 ≤ place
      → Writes (length s.image) (zeros n) old d1 (Ok tt) → Writes (4096 * place) (batch_bytes batch) d1 d2 (Ok tt) → Writes 4104 note d2 d3 (Ok tt) → DiskGives (IsReady homes place pages batch) d3
  all_written d1 d2 d3 n note long is small few between least w1 w2 w3 =
      let g1 = gives_written (λ x. x ≡ s.image) (HasRoom homes place pages) (length s.image) (zeros n) old d1 (record { image = s.image; is = s.settled.told; has = refl }) w1
      (λ x e. subst (λ (l : List ℕ). HasRoom homes place pages (written (length s.image) (zeros n) l)) (sym e) (room_lengthened homes place pages batch below n s.image s.shut long)) in
      let g2 = gives_written (HasRoom homes place pages) (HasBatch homes place pages batch) (4096 * place) (batch_bytes batch) d1 d2 g1 w2 (batch_there homes place pages batch below) in
      gives_written (HasBatch homes place pages batch) (IsReady homes place pages batch) 4104 note d2 d3 g2 w3 (λ x b. noted homes place pages batch below x note is small few between least b)

  pub all_staged : (d3 new : DiskView) (g : DiskGives (IsReady homes place pages batch) d3) → new.image ≡ d3.image → ((left : List ℕ) → new.may_leave left → left ≡ g.image) → Staged new homes pages place batch
  all_staged d3 new g same durable = record {
    image = g.image;
    settled = record { told = same ∙ g.is; only = durable };
    shut = g.has.shut;
    staged = g.has.staged;
  }

-- zeros past the end, up to a place
pub grows_filled : (place more : ℕ) (old new : DiskView) {result : Result (Unit {0}) Failed} → ((image : List ℕ) → old.image ≡ Some image → Writes (length image) (zeros (4096 * place - length image)) old new result) → 4096 * place ≤ more → Lengthens more old new
grows_filled place more old new w most = record {
  bounds = λ image x told given.
      let b = (w image told).grows.bounds image x told given in
      (b.0, omega (arith, b.1, length-zeros (4096 * place - length image), most));
}
