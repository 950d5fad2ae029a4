-- The numbers of a draft's changed pages.
use Rattle.std.specs.Prelude.{Bool, true, false}
use Rattle.std.proofs.Common.{◌≤◌, ◌<◌, ◌≡◌, ◌≢◌, ◌⊎◌, inl, inr, ⊎_elim, ◌==◌, ℕ, zero, suc, ◌+◌, ◌^◌, List, [], ◌∷◌, length, get_or, set, take, refl, sym, ap, subst, ◌∙◌, arith}
use Rattle.std.specs.List.{All, Contains}
use Rattle.std.proofs.lemmas.List.{get_or-map, length-map, length-take-le}
use Rattle.std.proofs.lemmas.List.Elements.{at_from_Contains, Contains-get_or}
use Rattle.pg_map.specs.Kinds.{Each, Kind, Free}
use Rattle.pg_window.specs.declared.sheets.Sheet.{Sheet}
use Rattle.pg_window.specs.declared.sheets.Sheet.TheVariants.{Free as FreeSheet}
use Rattle.pg_window.specs.Sheets.{sheet_kind, sheet_kinds, is_away}
use Rattle.pg_plan.specs.declared.drafts.Note.{Note}
use Rattle.pg_window.specs.Windows.{away_of}
use Rattle.pg_plan.specs.Drafts.{sheet_kept, undone, touched_by, Drafted}
use Rattle.pg_plan.specs.DraftFields.{draft_of, IsDraftOf}
use Rattle.pg_plan.specs.Touched.{numbers_at, AreSortedOnce, AreTouched, IsAsBefore}
use Rattle.pg_plan.specs.laws.Away.{set_other}
use Rattle.pg_plan.proofs.Drafting.{length-kinds, length-undone}

-- ---- pages that were not touched

pub record IsNoted (notes : List Note) (j : ℕ) : Type 0 where
  pub k : ℕ
  pub within : k < length notes
  pub is : (d : Note) → (get_or notes k d).at ≡ j

touched_or : (notes : List Note) (xs : List Sheet) (j : ℕ) → IsNoted notes j ⊎ (get_or (undone notes xs) j FreeSheet ≡ get_or xs j FreeSheet)
touched_or [] xs j = inr refl
touched_or (n ∷ ns) xs j = of (touched_or ns xs j) (n.at == j) (λ e. grind (arith, e)) (λ e. grind (arith, e))
  where
    of : IsNoted ns j ⊎ (get_or (undone ns xs) j FreeSheet ≡ get_or xs j FreeSheet) → (t : Bool) → (t ≡ true → n.at ≡ j) → (t ≡ false → n.at ≢ j) → IsNoted (n ∷ ns) j ⊎ (get_or (set (undone ns xs) n.at (sheet_kept n.old)) j FreeSheet ≡ get_or xs j FreeSheet)
    of rest true yes_ no_ = inl (record { k = 0; within = omega arith; is = λ d. yes_ refl })
    of rest false yes_ no_ = ⊎_elim
        (λ r. inl (record { k = suc r.k; within = let w = r.within in omega (arith, w); is = r.is }))
        (λ same_. inr (set_other (undone ns xs) n.at j (sheet_kept n.old) FreeSheet (no_ refl) ∙ same_)) rest

noted_by : (notes : List Note) (j : ℕ) → Contains (touched_by notes) j → IsNoted notes j
noted_by notes j has = let at = at_from_Contains (touched_by notes) j has in of notes at.0 at.1 (at.2 0)
  where
    of : (ns : List Note) (k : ℕ) → k < length (touched_by ns) → get_or (touched_by ns) k 0 ≡ j → IsNoted ns j
    of [] k less is = absurd (omega (arith, less))
    of (n ∷ ns) zero less is = record { k = 0; within = omega arith; is = λ d. is }
    of (n ∷ ns) (suc k) less is = let r = of ns k (omega (arith, less)) is in record { k = suc r.k; within = let w = r.within in omega (arith, w); is = r.is }

touched_has : (notes : List Note) (j : ℕ) → IsNoted notes j → Contains (touched_by notes) j
touched_has notes j r = subst (Contains (touched_by notes)) (of notes r.k r.within r.is) (Contains-get_or (touched_by notes) r.k 0 (long notes r.k r.within))
  where
    long : (ns : List Note) (k : ℕ) → k < length ns → k < length (touched_by ns)
    long [] k less = absurd (omega (arith, less))
    long (n ∷ ns) zero less = omega arith
    long (n ∷ ns) (suc k) less = let r = long ns k (omega (arith, less)) in omega (arith, r)

    of : (ns : List Note) (k : ℕ) → k < length ns → ((d : Note) → (get_or ns k d).at ≡ j) → get_or (touched_by ns) k 0 ≡ j
    of [] k less is = absurd (omega (arith, less))
    of (n ∷ ns) zero less is = is n
    of (n ∷ ns) (suc k) less is = of ns k (omega (arith, less)) is

take_at_front : (xs : List Sheet) (n j : ℕ) → j < n → get_or (take n xs) j FreeSheet ≡ get_or xs j FreeSheet
take_at_front xs zero j less = absurd (omega (arith, less))
take_at_front [] (suc n) j less = refl
take_at_front (x ∷ xs) (suc n) zero less = refl
take_at_front (x ∷ xs) (suc n) (suc j) less = take_at_front xs n j (omega (arith, less))

either : (a b : ℕ) → (a ≤ b) ⊎ (b < a)
either a b = grind arith

kind_at : (xs : List Sheet) (at : ℕ) → get_or (sheet_kinds xs) at Free ≡ sheet_kind (get_or xs at FreeSheet)
kind_at [] at = refl
kind_at (x ∷ xs) zero = refl
kind_at (x ∷ xs) (suc at) = kind_at xs at

away_at : (xs : List Sheet) (at : ℕ) → get_or (away_of xs) at false ≡ is_away (get_or xs at FreeSheet)
away_at [] at = refl
away_at (x ∷ xs) zero = refl
away_at (x ∷ xs) (suc at) = away_at xs at

noted_within : (sheets : List Sheet) (notes : List Note) (j : ℕ) → Each (λ (n : Note). n.at < length sheets) notes → IsNoted notes j → j < length sheets
noted_within sheets notes j all r = of notes r.k r.within r.is all
  where
    of : (ns : List Note) (k : ℕ) → k < length ns → ((d : Note) → (get_or ns k d).at ≡ j) → Each (λ (n : Note). n.at < length sheets) ns → j < length sheets
    of [] k less is all = absurd (omega (arith, less))
    of (n ∷ ns) zero less is all = subst (λ (m : ℕ). m < length sheets) (is n) all.0
    of (n ∷ ns) (suc k) less is all = of ns k (omega (arith, less)) is all.1

-- ---- the numbers, as they are gathered

number_of_place : (places : List ℕ) (j : ℕ) → Contains places j → Contains (numbers_at places) (j + 3)
number_of_place places j has =
    let at = at_from_Contains places j has in
    subst (Contains (numbers_at places)) (get_or-map (λ (p : ℕ). p + 3) places at.0 0 0 at.1 ∙ ap (λ (p : ℕ). p + 3) (at.2 0))
    (Contains-get_or (numbers_at places) at.0 0 (omega (arith, at.1, length-map places (λ (p : ℕ). p + 3))))

place_of_number : (places : List ℕ) (n : ℕ) → Contains (numbers_at places) n → (j : ℕ) × Contains places j × (n ≡ j + 3)
place_of_number places n has =
    let at = at_from_Contains (numbers_at places) n has in
    let less : at.0 < length places = omega (arith, at.1, length-map places (λ (p : ℕ). p + 3)) in
    (get_or places at.0 0, Contains-get_or places at.0 0 less, sym (at.2 0) ∙ get_or-map (λ (p : ℕ). p + 3) places at.0 0 0 less)

pub are_touched : (sheets : List Sheet) (notes : List Note) (before : ℕ) (old new : List ℕ) → IsDraftOf sheets notes before → old ≡ numbers_at (touched_by notes) → AreSortedOnce old new → AreTouched (draft_of sheets notes before) new
are_touched sheets notes before old new draft is once = record {
  rise = once.rise;
  within = λ n has.
      let p = place_of_number (touched_by notes) n (subst (λ (l : List ℕ). Contains l n) is ((once.same n).1 has)) in
      let less = noted_within sheets notes p.0 draft.within (noted_by notes p.0 p.1) in
      (omega (arith, p.2), omega (arith, p.2, less, length-kinds sheets));
  few = let some = once.few in omega (arith, some, ap (λ (l : List ℕ). length l) is, length-map (touched_by notes) (λ (p : ℕ). p + 3));
  all = λ at less. ⊎_elim
      (λ behind. inl (has at (draft.new at behind (omega (arith, less, length-kinds sheets)))))
      (λ front. ⊎_elim (λ noted. inl (has at (touched_has notes at noted))) (λ same_. inr (as_before at (take_at_front (undone notes sheets) before at front ∙ same_))) (touched_or notes sheets at))
      (either before at);
  new = λ at behind less. has at (draft.new at (omega (arith, behind, count)) (omega (arith, less, length-kinds sheets)));
  same = λ at. (has at, λ listed. back at (place_of_number (touched_by notes) (at + 3) (subst (λ (l : List ℕ). Contains l (at + 3)) is ((once.same (at + 3)).1 listed))));
}
  where
    count : length (sheet_kinds (take before (undone notes sheets))) ≡ before
    count = length-kinds (take before (undone notes sheets)) ∙ length-take-le before (undone notes sheets) (let g = draft.grown in omega (arith, g, length-undone notes sheets))

    has : (at : ℕ) → Contains (touched_by notes) at → Contains new (at + 3)
    has at touched = (once.same (at + 3)).0 (subst (λ (l : List ℕ). Contains l (at + 3)) (sym is) (number_of_place (touched_by notes) at touched))

    back : (at : ℕ) → ((j : ℕ) × Contains (touched_by notes) j × (at + 3 ≡ j + 3)) → Contains (touched_by notes) at
    back at (j, there, is) = let same_ : j ≡ at = omega (arith, is) in subst (Contains (touched_by notes)) same_ there

    as_before : (at : ℕ) → get_or (take before (undone notes sheets)) at FreeSheet ≡ get_or sheets at FreeSheet → IsAsBefore (draft_of sheets notes before) at
    as_before at same_ = record {
      kind = kind_at (take before (undone notes sheets)) at ∙ ap sheet_kind same_ ∙ sym (kind_at sheets at);
      away = away_at (take before (undone notes sheets)) at ∙ ap is_away same_ ∙ sym (away_at sheets at);
    }

-- there are no fewer pages than before
pub no_fewer : (sheets : List Sheet) (notes : List Note) (before : ℕ) (d : Drafted) → IsDraftOf sheets notes before → draft_of sheets notes before ≡ d → length d.before.kinds ≤ length d.now
no_fewer sheets notes before d draft is = subst (λ (x : Drafted). length x.before.kinds ≤ length x.now) is (let g = draft.grown in omega (arith, g, length-kinds (take before (undone notes sheets)), length-kinds sheets, length_taken (undone notes sheets) before))
  where
    length_taken : (xs : List Sheet) (n : ℕ) → length (take n xs) ≤ n
    length_taken xs zero = omega arith
    length_taken [] (suc n) = omega arith
    length_taken (x ∷ xs) (suc n) = let e = length_taken xs n in omega (arith, e)

-- a page of a place that is there, and whether it is in memory
pub kind_got : (xs : List Sheet) (at : ℕ) (x : Sheet) → at < length xs → x ≡ get_or xs at x → get_or (sheet_kinds xs) at Free ≡ sheet_kind x
kind_got [] at x less is = absurd (omega (arith, less))
kind_got (y ∷ xs) zero x less is = ap sheet_kind (sym is)
kind_got (y ∷ xs) (suc at) x less is = kind_got xs at x (omega (arith, less)) is

pub away_got : (xs : List Sheet) (at : ℕ) (x : Sheet) → at < length xs → x ≡ get_or xs at x → get_or (away_of xs) at false ≡ is_away x
away_got [] at x less is = absurd (omega (arith, less))
away_got (y ∷ xs) zero x less is = ap is_away (sym is)
away_got (y ∷ xs) (suc at) x less is = away_got xs at x (omega (arith, less)) is

-- each noted page has a number of four bytes
pub notes_fit : (sheets : List Sheet) (notes seen : List Note) (ks : List Kind) → Each (λ (n : Note). n.at < length sheets) notes → seen ≡ notes → sheet_kinds sheets ≡ ks → 3 + length ks ≤ 2 ^ 31 → All (λ (n : Note). n.at + 3 < 2 ^ 31) seen
notes_fit sheets notes seen ks all is kinds most = subst (All (λ (n : Note). n.at + 3 < 2 ^ 31)) (sym is) (λ i d less. let w = of notes i d all less in omega (arith, w, most, ap (λ (l : List Kind). length l) kinds, length-kinds sheets))
  where
    of : (ns : List Note) (i : ℕ) (d : Note) → Each (λ (n : Note). n.at < length sheets) ns → i < length ns → (get_or ns i d).at < length sheets
    of [] i d all less = absurd (omega (arith, less))
    of (n ∷ ns) zero d all less = all.0
    of (n ∷ ns) (suc i) d all less = of ns i d all.1 (omega (arith, less))
