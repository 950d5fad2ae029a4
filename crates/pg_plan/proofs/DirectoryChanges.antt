-- Pages that a plan takes for the directory and gives back.
use Rattle.std.proofs.Common.{◌<◌, ◌≡◌, ◌⊎◌, ⊎_elim, ℕ, zero, suc, Bool, true, false, List, [], ◌∷◌, ◌++◌, length, get_or, set, refl, sym, ap, subst, ◌∙◌, length-append, arith}
use Rattle.std.specs.List.{Contains}
use Rattle.std.proofs.lemmas.List.{length-set}
use Rattle.std.proofs.lemmas.List.Elements.{Contains-append_left}
use Rattle.ct_keep.specs.Content.{Content}
use Rattle.pg_map.specs.Kinds.{Kind, Free, Slotted}
use Rattle.pg_map.specs.Done.{IsDone, HasKeyAt}
use Rattle.pg_plan.specs.Drafts.{Drafted, with_free_page, NotesPage, SeesNone}
use Rattle.pg_plan.specs.DirectoryPages.{IsPageTaken, IsPageGiven}
use Rattle.pg_plan.specs.Planned.{HasFree}
use Rattle.pg_plan.specs.PlanSteps.{NoNewKey}
use Rattle.pg_plan.specs.laws.Away.{set_other, more_same, notes_then}
use Rattle.pg_plan.specs.laws.Planned.{replaced_at, roomier}
use Rattle.pg_plan.proofs.Stepping.{at_set, has_key_by, one_slotted, slotted_within}

set_here : {X : Type 0} (xs : List X) (at : ℕ) (x d : X) → at < length xs → get_or (set xs at x) at d ≡ x
set_here [] at x d less = absurd (omega (arith, less))
set_here (y ∷ xs) zero x d less = refl
set_here (y ∷ xs) (suc at) x d less = set_here xs at x d (omega (arith, less))

-- what there is none of may be put anywhere
set_default : {X : Type 0} (xs : List X) (at : ℕ) (d : X) → get_or (set xs at d) at d ≡ d
set_default [] at d = refl
set_default (y ∷ xs) zero d = refl
set_default (y ∷ xs) (suc at) d = set_default xs at d

-- ---- the map that pages hold

pub done_taken : (old mid new : List Kind) (m : Content) (at : ℕ) → HasFree old mid at → new ≡ set mid at (Slotted []) → IsDone old m → IsDone new m
done_taken old mid new m at free put done = replaced_at mid new m at Free (Slotted []) free.within free.free refl refl (omega arith) (λ us. refl) put (roomier old mid m 0 [] [] free.roomier done)

pub done_given : (old new : List Kind) (m : Content) (at : ℕ) → get_or old at Free ≡ Slotted [] → new ≡ set old at Free → IsDone old m → IsDone new m
done_given old new m at was put done = replaced_at old new m at (Slotted []) Free (slotted_within old at [] was) was refl refl tt (λ us. refl) put done

-- ---- a page is taken

pub page_taken : (old mid new : Drafted) (at : ℕ) → (mid ≡ old) ⊎ (mid ≡ with_free_page old) → SeesNone mid → HasFree old.now mid.now at → new.now ≡ set mid.now at (Slotted []) → new.away ≡ set mid.away at true → NotesPage mid.touched new.touched at → IsPageTaken old new at
page_taken old mid new at how sees free now away notes = record {
  was = sym (kinds at) ∙ free.free;
  within = let w = free.within in omega (arith, w, filled);
  grown = ⊎_elim
      (λ same. let e = ap (λ (d : Drafted). length d.now) same in omega (arith, e, filled))
      (λ more. let e = ap (λ (d : Drafted). length d.now) more in let n = length-append old.now (Free ∷ []) in omega (arith, e, n, filled)) how;
  kind = ap (λ (l : List Kind). get_or l at Free) now ∙ set_here mid.now at (Slotted []) Free free.within;
  away = ap (λ (l : List Bool). get_or l at false) away ∙ set_here mid.away at true false (let w = free.within in let e = sees.count in omega (arith, w, e));
  others = record {
    kinds = λ i apart. ap (λ (l : List Kind). get_or l i Free) now ∙ set_other mid.now at i (Slotted []) Free (λ e. apart (sym e)) ∙ kinds i;
    away = λ i apart. ap (λ (l : List Bool). get_or l i false) away ∙ set_other mid.away at i true false (λ e. apart (sym e)) ∙ marks i;
  };
  notes = notes_then old.touched mid.touched new.touched at still notes;
}
  where
    still : (i : ℕ) → Contains old.touched i → Contains mid.touched i
    still i has = ⊎_elim
        (λ same. subst (λ (d : Drafted). Contains d.touched i) (sym same) has)
        (λ more. subst (λ (d : Drafted). Contains d.touched i) (sym more) (Contains-append_left old.touched (length old.now ∷ []) i has)) how

    kinds : (i : ℕ) → get_or mid.now i Free ≡ get_or old.now i Free
    kinds i = ⊎_elim (λ same. ap (λ (d : Drafted). get_or d.now i Free) same) (λ more. ap (λ (d : Drafted). get_or d.now i Free) more ∙ more_same old.now Free i) how

    marks : (i : ℕ) → get_or mid.away i false ≡ get_or old.away i false
    marks i = ⊎_elim (λ same. ap (λ (d : Drafted). get_or d.away i false) same) (λ more. ap (λ (d : Drafted). get_or d.away i false) more ∙ more_same old.away false i) how

    filled : length new.now ≡ length mid.now
    filled = ap (λ (l : List Kind). length l) now ∙ length-set mid.now at (Slotted [])

-- a page without strings has no key
pub no_new_taken : (ks ls : List Kind) (at : ℕ) → ls ≡ set ks at (Slotted []) → NoNewKey ks ls
no_new_taken ks ls at is = subst (NoNewKey ks) (sym is) (record { none = λ a q has. ⊎_elim (λ (e, f). absurd (empty a q has e)) (λ e. has_key_by (set ks at (Slotted [])) ks a q e has) (at_set ks at a (Slotted [])) })
  where
    empty : (a : ℕ) (q : List ℕ) (has : HasKeyAt (set ks at (Slotted [])) a q) → get_or (set ks at (Slotted [])) a Free ≡ Slotted [] → ⊥
    empty a q has e = let none : has.strings ≡ [] = one_slotted has.strings [] (sym has.kind ∙ e) in let w = has.is.within in let n = ap (λ (l : List (List ℕ)). length l) none in omega (arith, w, n)

-- ---- a page is given back

pub page_given : (old new : Drafted) (at : ℕ) → new.now ≡ set old.now at Free → new.away ≡ set old.away at false → new.touched ≡ old.touched ++ at ∷ [] → IsPageGiven old new at
page_given old new at now away touched = record {
  count = ap (λ (l : List Kind). length l) now ∙ length-set old.now at Free;
  kind = ap (λ (l : List Kind). get_or l at Free) now ∙ set_default old.now at Free;
  away = ap (λ (l : List Bool). get_or l at false) away ∙ set_default old.away at false;
  others = record {
    kinds = λ i apart. ap (λ (l : List Kind). get_or l i Free) now ∙ set_other old.now at i Free Free (λ e. apart (sym e));
    away = λ i apart. ap (λ (l : List Bool). get_or l i false) away ∙ set_other old.away at i false false (λ e. apart (sym e));
  };
  touched = touched;
}
