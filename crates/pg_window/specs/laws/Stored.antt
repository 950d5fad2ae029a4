-- The pages of the whole store, once those in memory have changed.
use Rattle.std.specs.Prelude.{Bool, true, false, map}
use Rattle.std.proofs.Common.{◌≡◌, ◌↔◌, ℕ, ◌<◌, ◌≤◌, List, [], ◌∷◌, length, get_or, refl, sym, ap, subst, ◌∙◌, arith}
use Rattle.std.proofs.lemmas.List.{get_or-map, length-map}
use Rattle.ct_keep.specs.Content.{Content, Change, after}
use Rattle.pg_map.specs.Done.{IsDone}
use Rattle.pg_map.specs.Holding.{IsLayout}
use Rattle.pg_map.specs.Kinds.{Each, Kind, Free, IsKind}
use Rattle.pg_map.specs.laws.Whole.{whole}
use Rattle.pg_directory.specs.Trees.{StorePage, Plain, IsPage, kind_of}
use Rattle.pg_window.specs.declared.sheets.Sheet.{Sheet}
use Rattle.pg_window.specs.declared.sheets.Sheet.TheVariants.{Free as FreeSheet, Away as AwaySheet, Slotted as SlottedSheet, Long as LongSheet}
use Rattle.pg_window.specs.Sheets.{sheet_kind, sheet_kinds}
use Rattle.pg_window.specs.Windows.{ShowsPages, IsWindow, merged, stored, StayAway, ChangesShown}
use Rattle.pg_window.specs.Loading.{rested_sheet, IsResting}
use Rattle.pg_window.specs.laws.Loads.{kind_at}
use Rattle.pg_window.specs.laws.Parts.{each_merged, length-merged, merged_new, merged_old}
use Rattle.pg_window.specs.laws.Frames.{frame}

plain_kinds : (ks : List Kind) → map kind_of (map Plain ks) ≡ ks
plain_kinds [] = refl
plain_kinds (k ∷ ks) = ap (λ (l : List Kind). k ∷ l) (plain_kinds ks)

-- to the map they are as the kinds of the pages that are away and of those in memory
pub kinds_stored : (away : List Bool) (pages : List StorePage) (later : List Kind) → map kind_of (stored away pages later) ≡ merged away (map kind_of pages) later
kinds_stored [] pages later = plain_kinds later
kinds_stored (b ∷ away) [] later = plain_kinds later
kinds_stored (b ∷ away) (p ∷ pages) [] = refl
kinds_stored (true ∷ away) (p ∷ pages) (k ∷ later) = ap (λ (l : List Kind). kind_of p ∷ l) (kinds_stored away pages later)
kinds_stored (false ∷ away) (p ∷ pages) (k ∷ later) = ap (λ (l : List Kind). k ∷ l) (kinds_stored away pages later)

pub length-stored : (away : List Bool) (pages : List StorePage) (later : List Kind) → length (stored away pages later) ≡ length later
length-stored away pages later = length-merged away pages (map Plain later) ∙ length-map later Plain

plain_pages : (ks : List Kind) → Each IsKind ks → Each IsPage (map Plain ks)
plain_pages [] are = tt
plain_pages (k ∷ ks) are = (are.0, plain_pages ks are.1)

-- each may stand in a store
pub are_stored : (away : List Bool) (pages : List StorePage) (later : List Kind) → Each IsPage pages → Each IsKind later → Each IsPage (stored away pages later)
are_stored away pages later are good = each_merged IsPage away pages (map Plain later) are (plain_pages later good)

-- a page that didn't change in memory, or was away, is what it was
pub stored_same : (pages : List StorePage) (now later : List Kind) (away : List Bool) (at : ℕ) → ShowsPages pages now away → length now ≤ length later → at < length pages → get_or later at Free ≡ get_or now at Free
    → get_or (stored away pages later) at (Plain Free) ≡ get_or pages at (Plain Free)
stored_same pages now later away at shows more less same_ = of (get_or away at false) refl
  where
    of : (b : Bool) → get_or away at false ≡ b → get_or (stored away pages later) at (Plain Free) ≡ get_or pages at (Plain Free)
    of true gone = merged_old away pages (map Plain later) at (Plain Free) (let f = shows.flags in omega (arith, f)) (let c = shows.count in let l = length-map later Plain in omega (arith, c, l, more)) gone
    of false there =
        merged_new away pages (map Plain later) at (Plain Free) there ∙ get_or-map Plain later at Free (Plain Free) (let c = shows.count in omega (arith, c, more, less)) ∙ ap Plain same_ ∙ sym (shows.shown at less there)

-- a page in memory is stored as it is there
pub stored_new : (pages : List StorePage) (later : List Kind) (away : List Bool) (at : ℕ) → at < length later → get_or away at false ≡ false → get_or (stored away pages later) at (Plain Free) ≡ Plain (get_or later at Free)
stored_new pages later away at less there = merged_new away pages (map Plain later) at (Plain Free) there ∙ get_or-map Plain later at Free (Plain Free) less

-- Where the pages in memory hold their part of the map after changes, the store holds the map after these.
pub stored_layout : (pages : List StorePage) (m : Content) (now : List Kind) (away : List Bool) (part : Content) (later : List Kind) (ws : List Change) → Each IsPage pages → IsLayout (map kind_of pages) m → IsWindow pages now away → IsDone now part → length now ≤ length later
    → IsDone later (after ws part) → StayAway later away → ChangesShown (map kind_of pages) away ws → IsLayout (map kind_of (stored away pages later)) (after ws m)
stored_layout pages m now away part later ws are layout w old more new stay shown =
    subst (λ (ks : List Kind). IsLayout ks (after ws m)) (sym (kinds_stored away pages later)) (whole (merged away (map kind_of pages) later) (after ws m) (frame pages m now away part later ws are layout w old more new stay shown).is)

-- ---- at rest behind a commit

free_or_away : (s : Sheet) → (sheet_kind s ≡ Free → rested_sheet s ≡ FreeSheet) × ((sheet_kind s ≡ Free → ⊥) → rested_sheet s ≡ AwaySheet)
free_or_away FreeSheet = (λ is. refl, λ other. absurd (other refl))
free_or_away AwaySheet = (λ is. absurd (cc is), λ other. refl)
free_or_away (SlottedSheet page) = (λ is. absurd (cc is), λ other. refl)
free_or_away (LongSheet next bytes) = (λ is. absurd (cc is), λ other. refl)

-- Pages that are put to rest rest over a store of which the same pages are free.
pub rested_resting : (pages : List StorePage) (sheets : List Sheet) → length sheets ≡ length pages → ((at : ℕ) → at < length pages → (get_or (sheet_kinds sheets) at Free ≡ Free) ↔ (get_or pages at (Plain Free) ≡ Plain Free)) → IsResting pages (map rested_sheet sheets)
rested_resting pages sheets count free = record {
  count = length-map sheets rested_sheet ∙ count;
  free = λ at less is. at_rest at less ∙ (free_or_away (get_or sheets at FreeSheet)).0 (sym (kind_at sheets at) ∙ (free at less).1 is);
  others = λ at less other. at_rest at less ∙ (free_or_away (get_or sheets at FreeSheet)).1 (λ is. other ((free at less).0 (kind_at sheets at ∙ is)));
}
  where
    at_rest : (at : ℕ) → at < length pages → get_or (map rested_sheet sheets) at FreeSheet ≡ rested_sheet (get_or sheets at FreeSheet)
    at_rest at less = get_or-map rested_sheet sheets at FreeSheet FreeSheet (omega (arith, count, less))
