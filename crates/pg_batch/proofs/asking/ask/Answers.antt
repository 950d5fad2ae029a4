use Rattle.std.proofs.Common.{Err, subst, ap, ◌∙◌, ◌≡◌, ⊎_elim, inl, inr, List, arith}
use Rattle.std.specs.Prelude.{map}
use Rattle.ct_keep.specs.Content.{Content, after, weight}
use Rattle.ct_keep.specs.SeenChanges.{change_of}
use Rattle.ct_keep.specs.declared.keepers.KeepFault.{KeepFault}
use Rattle.ct_keep.specs.declared.keepers.KeepFault.TheVariants.{Full}
use Rattle.ct_keep.specs.declared.batches.Change.{Change as BatchChange}
use Rattle.pg_batch.specs.ByKey.{KeysRise}
use Rattle.pg_batch.specs.Places.{AreKeyPlaces}
use Rattle.pg_batch.specs.Weights.{old_weight, WeighsOld}
use Rattle.pg_batch.proofs.AfterWeights.{weighs_after}
use Rattle.pg_batch.proofs.DiskReads.{goes_on}
use Rattle.pg_batch.proofs.asking.ask.Goals as goal

pub returns-in-Ok-weight_within-clause-asked : goal.returns-in-Ok-weight_within-clause-asked
returns-in-Ok-weight_within-clause-asked g c = λ pages m holds finds layout before.
    let places = subst (λ (l : List BatchChange). AreKeyPlaces pages (map change_of l) c.in-Ok-places_of.places.items) c.deref.ensures.value (c.in-Ok-places_of.ensures.places pages holds finds) in
    let weighs = subst (WeighsOld c.in-Ok-old_weights.old pages) c.deref-2.ensures.value (c.in-Ok-old_weights.ensures.weight c.args.top pages (goes_on _ _ _ _ pages c.places_of.ensures.same holds)) in
    let after_is = subst (λ (l : List BatchChange). (n : Content) → KeysRise (map change_of l) → c.args.total ≡ weight n → c.in-Ok-old_weights.old ≡ old_weight (map change_of l) n → c.weight_after.result ≡ weight (after (map change_of l) n)) c.deref-3.ensures.value c.weight_after.ensures in
    let now = weighs_after pages m c.args.batch (map change_of c.in-Ok.changes.items) c.in-Ok-places_of.places.items c.args.total c.in-Ok-old_weights.old c.weight_after.result c.in-Ok.ensures places layout weighs before after_is in
    let is = c.in-Ok-weight_within.ensures.is in
    record {
      places = places;
      total = is ∙ now;
      within = ⊎_elim (λ less. inl (omega (arith, less, now))) (λ less. inr (omega (arith, less, now, before))) c.in-Ok-weight_within.ensures.within;
    }

pub returns-in-Err-weight_within-clause-full : goal.returns-in-Err-weight_within-clause-full
returns-in-Err-weight_within-clause-full g c = λ pages m holds finds layout before full.
    let places = subst (λ (l : List BatchChange). AreKeyPlaces pages (map change_of l) c.in-Ok-places_of.places.items) c.deref.ensures.value (c.in-Ok-places_of.ensures.places pages holds finds) in
    let weighs = subst (WeighsOld c.in-Ok-old_weights.old pages) c.deref-2.ensures.value (c.in-Ok-old_weights.ensures.weight c.args.top pages (goes_on _ _ _ _ pages c.places_of.ensures.same holds)) in
    let after_is = subst (λ (l : List BatchChange). (n : Content) → KeysRise (map change_of l) → c.args.total ≡ weight n → c.in-Ok-old_weights.old ≡ old_weight (map change_of l) n → c.weight_after.result ≡ weight (after (map change_of l) n)) c.deref-3.ensures.value c.weight_after.ensures in
    let now = weighs_after pages m c.args.batch (map change_of c.in-Ok.changes.items) c.in-Ok-places_of.places.items c.args.total c.in-Ok-old_weights.old c.weight_after.result c.in-Ok.ensures places layout weighs before after_is in
    let fault : c.in-Err-weight_within.fault ≡ Full = cc full in
    let passes = ap (λ (f : KeepFault). Err f) fault in
    let over = c.in-Err-weight_within.ensures.over passes in
    let heavier = c.in-Err-weight_within.ensures.heavier passes in
    let fits = c.in-Err-weight_within.ensures.fits passes in
    (record { over = omega (arith, over, now); heavier = omega (arith, heavier, now, before) }, omega (arith, fits, now))
