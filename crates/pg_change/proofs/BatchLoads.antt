-- The pages of entries, once those at their places are in memory.
use Rattle.std.specs.Prelude.{Bool, false, map, Result, Ok, Err, OnOk, OnErr}
use Rattle.std.proofs.Common.{◌≡◌, ℕ, ◌-◌, ◌<◌, List, [], ◌∷◌, length, get_or, Option, None, refl, sym, ap, ◌∙◌, arith}
use Rattle.std.proofs.lemmas.List.{length-map, get_or-map}
use Rattle.pg_map.specs.Kinds.{Free, Slotted, Long, strings_of}
use Rattle.pg_directory.specs.declared.entries.EntryAt.{EntryAt}
use Rattle.pg_directory.specs.Trees.{StorePage, Plain, Directory, kind_of, HasString}
use Rattle.pg_window.specs.Loading.{ArePagesThere}
use Rattle.pg_change.specs.BatchWindows.{place_or, AreIn}

-- the page of an entry is one of strings
string_page : (pages : List StorePage) (e : EntryAt) → HasString pages e → (ss : List (List ℕ)) × (get_or pages (e.page - 3) (Plain Free) ≡ Plain (Slotted ss))
string_page pages e has = of (get_or pages (e.page - 3) (Plain Free)) refl has.less
  where
    of : (p : StorePage) → get_or pages (e.page - 3) (Plain Free) ≡ p → e.slot < length (strings_of (kind_of p ∷ [])) → (ss : List (List ℕ)) × (get_or pages (e.page - 3) (Plain Free) ≡ Plain (Slotted ss))
    of (Plain Free) is less = absurd (omega (arith, less))
    of (Plain (Slotted ss)) is less = (ss, is)
    of (Plain (Long next bytes)) is less = absurd (omega (arith, less))
    of (Directory d) is less = absurd (omega (arith, less))

-- the pages of the entries are those at their places
pub are_in : (pages : List StorePage) (os : List (Option EntryAt)) (away : List Bool) (none : ℕ) → ArePagesThere pages away (map (place_or none) os) → AreIn pages os away
are_in pages os away none there = record {
  there = λ i e less is has.
      let s = string_page pages e has in
      let at : get_or (map (place_or none) os) i 0 ≡ e.page - 3 = get_or-map (place_or none) os i None 0 less ∙ ap (place_or none) is in
      ap (λ (k : ℕ). get_or away k false) (sym at) ∙ there.each i s.0 (let n = length-map os (place_or none) in omega (arith, n, less)) (ap (λ (k : ℕ). get_or pages k (Plain Free)) at ∙ s.1);
}

-- what holds after Ok, and follows from what holds after an error, holds after both
pub either_way : {T E : Type 0} (P Q : Type 0) (r : Result T E) → OnOk r P → OnErr r Q → (Q → P) → P
either_way P Q (Ok x) ok err from = ok
either_way P Q (Err e) ok err from = from err

-- what follows from what holds after Ok
pub after_ok : {T E : Type 0} (P Q : Type 0) (r : Result T E) → (P → Q) → OnOk r P → OnOk r Q
after_ok P Q (Ok x) from ok = from ok
after_ok P Q (Err e) from ok = ok
