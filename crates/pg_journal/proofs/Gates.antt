-- The gate, written and synced.
use Rattle.std.proofs.Common.{◌≡◌, ℕ, List, [], ◌∷◌, take, drop, get_or, Result, Ok, refl, sym, ap, subst, ◌∙◌, arith}
use Rattle.std.proofs.lemmas.List.{get_or-take, get_or-drop}
use Rattle.ct_site.specs.declared.outside.Failed.{Failed}
use Rattle.ct_site.specs.Images.{written, Torn}
use Rattle.ct_site.specs.Pieces.{torn_written}
use Rattle.ct_site.specs.Disks.{DiskView, IsSettled, Leaves}
use Rattle.pg_journal.specs.Recovered.{gate}
use Rattle.pg_journal.specs.Staging.{IsGateWrite, IsGateSet}
use Rattle.ct_site.specs.Lengths.{IsWithin}
use Rattle.ct_site.specs.Writing.{Writes, DiskGives}
use Rattle.ct_site.specs.laws.Writing.{writes_keep}
use Rattle.ct_site.specs.laws.Ranges.{range_then, range_itself, piece_written}
use Rattle.pg_journal.proofs.Shut.{gate_write}

gate_none : (x : List ℕ) → IsGateWrite x x
gate_none x = record { long = refl; before = range_itself 0 4096 x; after = λ to. range_itself 4097 to x }

gate_then : (x y z : List ℕ) → IsGateWrite x y → IsGateWrite y z → IsGateWrite x z
gate_then x y z a b = record { long = b.long ∙ a.long; before = range_then 0 4096 x y z a.before b.before; after = λ to. range_then 4097 to x y z (a.after to) (b.after to) }

pub gate_cut : (byte : ℕ) (old new : DiskView) (result : Result (Unit {0}) Failed) (image : List ℕ) → IsWithin 4097 old → IsSettled old image → Writes 4096 (byte ∷ []) old new result → Leaves old new (IsGateWrite image)
gate_cut byte old new result image within settled writes =
    let long = within.least image settled.told in
    writes_keep (IsGateWrite image) 4096 (byte ∷ []) old new result writes (λ x y g torn. gate_then image x y g (gate_write x y (omega (arith, long, g.long)) torn))
    (λ x left. subst (IsGateWrite image) (sym (settled.only x left)) (gate_none image))

pub record IsGate (byte : ℕ) (image x : List ℕ) : Type 0 where
  pub write : IsGateWrite image x
  pub is : gate x ≡ byte

pub gate_given : (byte : ℕ) (old new : DiskView) (image : List ℕ) → IsWithin 4097 old → IsSettled old image → Writes 4096 (byte ∷ []) old new (Ok tt) → DiskGives (IsGate byte image) new
gate_given byte old new image within settled writes =
    let long = within.least image settled.told in
    let y = written 4096 (byte ∷ []) image in
    let torn : Torn 4096 1 image y = torn_written 4096 (byte ∷ []) image (omega (arith, long)) in
    let one : take 1 (drop 4096 y) ≡ byte ∷ [] = piece_written 4096 (byte ∷ []) image (omega (arith, long)) in
    record {
      image = y;
      is = writes.written ∙ ap (Rattle.std.specs.Option.option_map (written 4096 (byte ∷ []))) settled.told;
      has = record {
        write = gate_write image y long torn;
        is = sym (get_or-take 1 (drop 4096 y) 0 0 (omega arith) ∙ get_or-drop 4096 y 0 0) ∙ ap (λ (l : List ℕ). get_or l 0 0) one;
      };
    }

pub gate_set : (byte : ℕ) (d new : DiskView) (image : List ℕ) (given : DiskGives (IsGate byte image) d) → new.image ≡ d.image → ((left : List ℕ) → new.may_leave left → left ≡ given.image) → IsGateSet byte image new
gate_set byte d new image given same durable = record {
  image = given.image;
  settled = record { told = same ∙ given.is; only = durable };
  write = given.has.write;
  is = given.has.is;
}
