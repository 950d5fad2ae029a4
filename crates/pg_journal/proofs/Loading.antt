-- Loading, over what was found.
use Rattle.std.specs.Prelude.{Bool, true, false}
use Rattle.std.proofs.Common.{◌≡◌, ◌≢◌, inl, inr, ⊎_elim, ℕ, ◌+◌, ◌*◌, ◌≤◌, ◌<◌, List, length, Option, Some, None, refl, sym, subst, ◌∙◌, arith}
use Rattle.ct_site.specs.Disks.{DiskView, IsSettled, IsSame, Leaves, leaves_then, leaves_more, leaves_same}
use Rattle.ct_site.specs.laws.Calls.{settled_same}
use Rattle.pg_journal.specs.Pages.{page, Numbered, put_on, Has, AreBetween, homes_in, homes_of}
use Rattle.pg_journal.specs.Recovered.{IsUnborn, IsStore, IsClosed, IsOpen, IsRecovered, Alike, gate, batch_page, batch_in, first_pages}
use Rattle.pg_journal.specs.Births.{IsUnbornAs}
use Rattle.pg_journal.specs.Standing.{DiskStands}
use Rattle.pg_journal.specs.Staging.{IsGoal, IsSettling, OverGoal}
use Rattle.pg_journal.specs.Looking.{IsBorn, IsUnbornOr, HasMark, IsClosedOr, IsOpenedOr, IsNoStore, Loaded}
use Rattle.ct_site.specs.Lengths.{IsWithin}
use Rattle.pg_journal.specs.laws.Recovered.{born_or_not, alike_of, alike_itself}
use Rattle.pg_journal.proofs.Pages.{has_between}
use Rattle.pg_journal.proofs.Shut.{settling_recovers}

pub nothing_written : (old new : DiskView) (image : List ℕ) → IsSettled old image → IsSame old new → new.beside ≡ old.beside → Leaves old new (Alike image)
nothing_written old new image settled same beside = leaves_same old new (Alike image) same beside (λ x left. alike_itself image x (settled.only x left))

-- ---- birth

pub unborn_as : (empty : Bool) (image : List ℕ) → IsUnbornAs empty image → IsRecovered image first_pages
unborn_as true image short = inl (inl short, refl)
unborn_as false image c = inl (inr (c.first, c.most), refl)

pub born_moments : (old new : DiskView) (empty : Bool) (image : List ℕ) → IsUnbornAs empty image → Leaves old new (λ x. IsRecovered x first_pages) → Leaves old new (Alike image)
born_moments old new empty image unborn leaves = leaves_more old new _ _ leaves (λ x r. alike_of image x first_pages (unborn_as empty image unborn) r)

pub born_loaded : (new : DiskView) (empty : Bool) (image : List ℕ) → IsUnbornAs empty image → DiskStands new 3 first_pages → Loaded image new 3
born_loaded new empty image unborn stands = record { pages = first_pages; recovered = unborn_as empty image unborn; stands = stands }

-- ---- no store

pub no_mark : (image : List ℕ) → IsBorn image → HasMark false image → IsNoStore image
no_mark image born unmarked = record { no = λ pages r. ⊎_elim (λ u. born_unborn image born u.0) (λ s. unmarked s.0.mark) r }
  where
    born_unborn : (x : List ℕ) → IsBorn x → IsUnborn x → ⊥
    born_unborn x born unborn = ⊎_elim (λ short. omega (arith, short, born.0)) (λ (none, few). ⊎_elim (λ some. some none) (λ many. omega (arith, many, few)) born.1) unborn

pub too_short : (image : List ℕ) → IsBorn image → length image < 12288 → IsNoStore image
too_short image born short = record {
  no = λ pages r. ⊎_elim
      (λ u. ⊎_elim (λ less. omega (arith, less, born.0)) (λ (none, few). ⊎_elim (λ some. some none) (λ many. omega (arith, many, few)) born.1) u.0)
      (λ s. omega (arith, short, s.0.whole)) r;
}

pub is_store : (image : List ℕ) → IsBorn image → HasMark true image → 12288 ≤ length image → IsStore image
is_store image born marked whole = record { born = born; mark = marked; whole = whole }

-- ---- the gate is closed

pub closed_loaded : (old new : DiskView) (image : List ℕ) (found : Option ℕ) (homes : ℕ) → IsSettled old image → IsSame old new → IsStore image → gate image ≢ 1 → IsClosedOr found image → found ≡ Some homes → Loaded image new homes
closed_loaded old new image found homes settled same store gate found_is some =
    let f = subst (λ (o : Option ℕ). IsClosedOr o image) some found_is in
    let closed : IsClosed image (homes_of (page image)) = record { gate = gate; root = f.0; inside = omega (arith, f.1, f.2); are = refl } in
    record {
      pages = homes_of (page image);
      recovered = inr (store, inl closed);
      stands = record { image = image; settled = settled_same old new image same settled; shut = record { store = store; closed = closed; count = f.1 } };
    }

pub closed_none : (image : List ℕ) (found : Option ℕ) → IsStore image → gate image ≢ 1 → IsClosedOr found image → found ≡ None → IsNoStore image
closed_none image found store gate found_is none = record {
  no = λ pages r. ⊎_elim (λ u. born_or_not image u.0 store)
      (λ s. ⊎_elim (λ c. subst (λ (o : Option ℕ). IsClosedOr o image) none found_is c.root c.inside) (λ o. gate o.is_open.gate) s.1) r;
}

-- ---- the gate is open

pub open_none : (image : List ℕ) (found : Option (List Numbered × ℕ)) → IsStore image → gate image ≡ 1 → IsOpenedOr found image → found ≡ None → IsNoStore image
open_none image found store gate found_is none = record {
  no = λ pages r. ⊎_elim (λ u. born_or_not image u.0 store)
      (λ s. ⊎_elim (λ c. c.gate gate) (λ o. subst (λ (o : Option (List Numbered × ℕ)). IsOpenedOr o image) none found_is pages o) s.1) r;
}

-- what is to come of it
pub record IsToFinish (image : List ℕ) (ws : List Numbered) (homes : ℕ) : Type 0 where
  pub goal_is : IsGoal (batch_page image) (put_on ws (page image))
  pub settling : IsSettling (batch_page image) ws (put_on ws (page image)) image
  pub homes_is : homes ≡ homes_in (put_on ws (page image) 2)
  pub recovered : IsRecovered image (homes_of (put_on ws (page image)))

pub to_finish : (image : List ℕ) (found : Option (List Numbered × ℕ)) (ws : List Numbered) (homes : ℕ) → IsStore image → IsOpenedOr found image → found ≡ Some (ws, homes) → IsToFinish image ws homes
to_finish image found ws homes store found_is some =
    let f = subst (λ (o : Option (List Numbered × ℕ)). IsOpenedOr o image) some found_is in
    let g : IsGoal (batch_page image) (put_on ws (page image)) = record { root = f.2; inside = omega (arith, f.3, f.4) } in
    let s : IsSettling (batch_page image) ws (put_on ws (page image)) image = record { store = store; is_open = f.0; is = f.1; at = refl; pages = λ i two less. refl } in
    record { goal_is = g; settling = s; homes_is = f.3; recovered = settling_recovers (batch_page image) ws (put_on ws (page image)) image g s }

pub finished : (image : List ℕ) (ws : List Numbered) (homes : ℕ) (new : DiskView) → IsToFinish image ws homes → DiskStands new (homes_in (put_on ws (page image) 2)) (homes_of (put_on ws (page image))) → Loaded image new homes
finished image ws homes new f stands = record { pages = homes_of (put_on ws (page image)); recovered = f.recovered; stands = subst (λ (n : ℕ). DiskStands new n (homes_of (put_on ws (page image)))) (sym f.homes_is) stands }

pub finish_moments : (image : List ℕ) (found : Option (List Numbered × ℕ)) (ws : List Numbered) (homes : ℕ) (old mid new : DiskView) → IsStore image → IsOpenedOr found image → found ≡ Some (ws, homes)
    → IsSettled old image → IsSame old mid → mid.beside ≡ old.beside → OverGoal mid ws (λ goal. Leaves mid new (λ x. IsRecovered x (homes_of goal))) → Leaves old new (Alike image)
finish_moments image found ws homes old mid new store found_is some settled same beside finished =
    let f = to_finish image found ws homes store found_is some in
    leaves_then old mid new _ (nothing_written old mid image settled same beside)
    (leaves_more mid new _ _ (finished _ _ image (settled_same old mid image same settled) f.goal_is f.settling) (λ x r. alike_of image x (homes_of (put_on ws (page image))) f.recovered r))

-- the pages of the batch are inside the file
pub finish_inside : (old new : DiskView) (ws : List Numbered) → IsSame old new → ((image : List ℕ) → old.image ≡ Some image → IsOpen image × (batch_in image ≡ ws)) → (i : ℕ) → Has ws i → IsWithin (4096 * i + 4096) new
finish_inside old new ws same found i has = record {
  least = λ image told.
      let f = found image (sym same.image ∙ told) in
      let between = has_between 2 (batch_page image) ws i (subst (λ (l : List Numbered). AreBetween 2 (batch_page image) l) f.1 f.0.numbers) has in
      omega (arith, between.1, f.0.inside);
}

pub unborn_is : (found : Option Bool) (empty : Bool) (image : List ℕ) → IsUnbornOr found image → found ≡ Some empty → IsUnbornAs empty image
unborn_is found empty image is some = subst (λ (o : Option Bool). IsUnbornOr o image) some is

pub born_is : (found : Option Bool) (image : List ℕ) → IsUnbornOr found image → found ≡ None → IsBorn image
born_is found image is none = subst (λ (o : Option Bool). IsUnbornOr o image) none is

pub born_within : (old new : DiskView) (found : Option Bool) (empty : Bool) → ((image : List ℕ) → old.image ≡ Some image → IsUnbornOr found image) → IsSame old new → found ≡ Some empty → empty ≡ false → IsWithin 1 new
born_within old new found empty is same some none = record {
  least = λ image told. (subst (λ (b : Bool). IsUnbornAs b image) none (unborn_is found empty image (is image (sym same.image ∙ told)) some)).some;
}

pub after_same : (old mid new : DiskView) (image : List ℕ) → IsSettled old image → IsSame old mid → mid.beside ≡ old.beside → Leaves mid new (Alike image) → Leaves old new (Alike image)
after_same old mid new image settled same beside leaves = leaves_then old mid new _ (nothing_written old mid image settled same beside) leaves

pub marked_is : (r b : Bool) (image : List ℕ) → HasMark r image → r ≡ b → HasMark b image
marked_is r b image is e = subst (λ (x : Bool). HasMark x image) e is

pub as_unborn : (empty : Bool) (image : List ℕ) → IsUnbornAs empty image → IsUnborn image
as_unborn true image short = inl short
as_unborn false image c = inr (c.first, c.most)
