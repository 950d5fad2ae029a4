-- Pages that were loaded are listed.
use Rattle.std.proofs.Common.{◌≡◌, ℕ, List, [], ◌∷◌, ◌++◌, length, get_or, set, take, drop, false, refl, sym, ap, ◌∙◌, append_assoc, set-set, take-append-drop, suc, ◌+◌, ◌-◌, ◌<◌, arith, drop-cons, map, zero, subst, Bool, get_or-take, length-take-le, ◌≤◌, ◌⊎◌, inl, inr}
use Rattle.std.proofs.lemmas.List.{set-get_or, take_at, drop_at, map-set, get_or-map, length-map}
use Rattle.pg_map.specs.Kinds.{Each, IsKind, Free, Slotted}
use Rattle.pg_window.specs.declared.sheets.Sheet.{Sheet}
use Rattle.pg_window.specs.declared.sheets.Sheet.TheVariants.{Free as FreeSheet, Away as AwaySheet}
use Rattle.pg_window.specs.Sheets.{sheet_kind, sheet_kinds}
use Rattle.pg_directory.specs.Trees.{StorePage, Plain}
use Rattle.pg_window.specs.laws.Loads.{loads_back}
use Rattle.std.proofs.lemmas.Bool.{cases_lt}
use Rattle.pg_window.specs.Loading.{unloaded, is_free, free_of, Loads, page_place, rested, rested_sheet, ArePagesThere}

free_set : (sheets : List Sheet) (at : ℕ) (sheet : Sheet) → free_of (sheet_kinds (set sheets at sheet)) ≡ set (free_of (sheet_kinds sheets)) at (is_free (sheet_kind sheet))
free_set sheets at sheet = ap free_of (map-set sheet_kind sheets at sheet) ∙ map-set is_free (sheet_kinds sheets) at (sheet_kind sheet)

each_set : {X : Type 0} (P : X → Type 0) (xs : List X) (at : ℕ) (y : X) → Each P xs → P y → Each P (set xs at y)
each_set P [] at y all one = tt
each_set P (x ∷ xs) zero y all one = (one, all.1)
each_set P (x ∷ xs) (suc at) y all one = (all.0, each_set P xs at y all.1 one)

-- a page at a place where none was in memory
pub loads_put : (old new : List Sheet) (listed now_listed : List ℕ) (at : ℕ) (sheet : Sheet) → get_or old at FreeSheet ≡ AwaySheet → new ≡ set old at sheet → now_listed ≡ listed ++ at ∷ [] → is_free (sheet_kind sheet) ≡ false → IsKind (sheet_kind sheet) → Loads old new listed now_listed
loads_put old new listed now_listed at sheet was is list used kind = record {
  more = at ∷ [];
  list = list;
  back =
      ap (λ (s : List Sheet). set s at AwaySheet) is ∙ set-set old at sheet AwaySheet ∙ ap (λ (s : Sheet). set old at s) (sym was) ∙ set-get_or old at FreeSheet;
  free =
      ap (λ (s : List Sheet). free_of (sheet_kinds s)) is ∙ free_set old at sheet ∙ ap (set (free_of (sheet_kinds old)) at) (used ∙ sym (ap (λ (s : Sheet). is_free (sheet_kind s)) was)) ∙ sym (free_set old at (get_or old at FreeSheet))
      ∙ ap (λ (s : List Sheet). free_of (sheet_kinds s)) (set-get_or old at FreeSheet);
  kinds = λ are. subst (Each IsKind) (sym (ap sheet_kinds is ∙ map-set sheet_kind old at sheet)) (each_set IsKind (sheet_kinds old) at (sheet_kind sheet) are kind);
}

-- one page goes
pub unload_more : (all loaded new : List ℕ) (at : ℕ) (start now later : List Sheet) → loaded ≡ take (length loaded) all → now ≡ unloaded (drop (length loaded) all) start → loaded ≡ new ++ at ∷ [] → later ≡ set now at AwaySheet
    → (new ≡ take (length new) all) × (later ≡ unloaded (drop (length new) all) start)
unload_more all loaded new at start now later front gone last is =
    let parts : new ++ at ∷ drop (length loaded) all ≡ all =
    sym (append_assoc new (at ∷ []) (drop (length loaded) all)) ∙ ap (λ (l : List ℕ). l ++ drop (length loaded) all) (sym last ∙ front) ∙ take-append-drop (length loaded) all in (
      sym (ap (take (length new)) (sym parts) ∙ take_at new (at ∷ drop (length loaded) all) (length new) refl),
      is ∙ ap (λ (s : List Sheet). set s at AwaySheet) gone
          ∙ ap (λ (l : List ℕ). unloaded l start) (sym (ap (drop (length new)) (sym parts) ∙ drop_at new (at ∷ drop (length loaded) all) (length new) refl)),
    )

-- one page more is put to rest, the last one first
pub rest_more : (numbers : List ℕ) (done at : ℕ) (start now later : List Sheet) → done < length numbers → at ≡ get_or numbers (length numbers - 1 - done) 0 - 3 → now ≡ rested (drop (length numbers - done) (map page_place numbers)) start
    → later ≡ set now at (rested_sheet (get_or now at FreeSheet)) → later ≡ rested (drop (length numbers - (done + 1)) (map page_place numbers)) start
rest_more numbers done at start now later less place is last =
    let k = length numbers - (done + 1) in
    let within : k < length (map page_place numbers) = let l = length-map numbers page_place in omega (arith, less, l) in
    let here_ : get_or (map page_place numbers) k 0 ≡ at = get_or-map page_place numbers k 0 0 (omega (arith, less)) ∙ ap (λ (n : ℕ). get_or numbers n 0 - 3) (let e : k ≡ length numbers - 1 - done = omega (arith, less) in e) ∙ sym place in
    let next : drop k (map page_place numbers) ≡ at ∷ drop (length numbers - done) (map page_place numbers) =
    drop-cons (map page_place numbers) k 0 within ∙ ap (λ (n : ℕ). n ∷ drop (suc k) (map page_place numbers)) here_ ∙ ap (λ (n : ℕ). at ∷ drop n (map page_place numbers)) (let e : suc k ≡ length numbers - done = omega (arith, less) in e) in
    last ∙ ap (λ (s : List Sheet). set s at (rested_sheet (get_or s at FreeSheet))) is ∙ ap (λ (l : List ℕ). rested l start) (sym next)

-- all goes back to what it was, behind an error that left the rest as it was
pub all_back : (old mid failed end : List Sheet) (listed mid_listed failed_listed end_listed : List ℕ) (count : ℕ) → Loads old mid listed mid_listed → count ≡ length listed → (failed ≡ mid) × (failed_listed ≡ mid_listed)
    → end ≡ unloaded (drop count failed_listed) failed → end_listed ≡ take count failed_listed → (end ≡ old) × (end_listed ≡ listed)
all_back old mid failed end listed mid_listed failed_listed end_listed count l is same_ gone front =
    let b = loads_back old mid listed mid_listed count l is in (
      gone ∙ ap (λ (n : List ℕ). unloaded (drop count n) failed) same_.1 ∙ ap (unloaded (drop count mid_listed)) same_.0 ∙ b.0,
      front ∙ ap (take count) same_.1 ∙ b.1,
    )

-- one page more is there
pub there_more : (pages : List StorePage) (old new : List Bool) (places : List ℕ) (i : ℕ) → i < length places → ArePagesThere pages old (take i places) → ((a : ℕ) → get_or old a false ≡ false → get_or new a false ≡ false)
    → ((ss : List (List ℕ)) → get_or pages (get_or places i 0) (Plain Free) ≡ Plain (Slotted ss) → get_or new (get_or places i 0) false ≡ false) → ArePagesThere pages new (take (i + 1) places)
there_more pages old new places i less before still own = record { each = λ j ss within page. of j ss within page (cases_lt j i) }
  where
    of : (j : ℕ) (ss : List (List ℕ)) → j < length (take (i + 1) places) → get_or pages (get_or (take (i + 1) places) j 0) (Plain Free) ≡ Plain (Slotted ss) → (j < i) ⊎ (i ≤ j) → get_or new (get_or (take (i + 1) places) j 0) false ≡ false
    of j ss within page (inl low) =
        let a : get_or (take (i + 1) places) j 0 ≡ get_or places j 0 = get_or-take (i + 1) places j 0 (omega (arith, low)) in
        let b : get_or (take i places) j 0 ≡ get_or places j 0 = get_or-take i places j 0 low in
        let c : get_or (take (i + 1) places) j 0 ≡ get_or (take i places) j 0 = a ∙ sym b in
        ap (λ (n : ℕ). get_or new n false) c
        ∙ still (get_or (take i places) j 0) (before.each j ss (let l = length-take-le i places (omega (arith, less)) in omega (arith, l, low)) (ap (λ (n : ℕ). get_or pages n (Plain Free)) (sym c) ∙ page))
    of j ss within page (inr high) =
        let l = length-take-le (i + 1) places (omega (arith, less)) in
        let e : j ≡ i = omega (arith, l, within, high) in
        let c : get_or (take (i + 1) places) j 0 ≡ get_or places i 0 = get_or-take (i + 1) places j 0 (omega (arith, e)) ∙ ap (λ (n : ℕ). get_or places n 0) e in
        ap (λ (n : ℕ). get_or new n false) c ∙ own ss (ap (λ (n : ℕ). get_or pages n (Plain Free)) (sym c) ∙ page)
