-- The pages of the old entries of a batch's keys, in memory: no string of a changed key stands on a page that is away, and each stands on the page
-- that was found for it.
use Rattle.std.specs.Prelude.{Bool, true, false, map}
use Rattle.std.proofs.Common.{◌≡◌, ℕ, zero, suc, ◌+◌, ◌-◌, ◌<◌, List, [], ◌∷◌, length, get_or, Option, Some, None, refl, sym, ap, subst, ◌∙◌, arith, append-nil}
use Rattle.std.specs.Ordering.{nat_cmp, is_lt}
use Rattle.std.specs.Cmp.Lexicographic.{slice_cmp}
use Rattle.std.specs.declared.cmp.Ordering.TheVariants.{Less}
use Rattle.std.proofs.lemmas.Bool.{and_parts}
use Rattle.std.proofs.lemmas.List.{length-map, get_or-map}
use Rattle.std.proofs.lemmas.List.Elements.{at_from_Contains}
use Rattle.ct_base.specs.laws.Orders.{less_from_test}
use Rattle.ct_keep.specs.Content.{Change}
use Rattle.ct_keep.specs.laws.RisingKeys.{below}
use Rattle.pg_map.specs.Done.{HasKeyAt}
use Rattle.pg_map.specs.Kinds.{Each, Kind, Free, Slotted, strings_of}
use Rattle.pg_map.specs.PageStrings.{string_key}
use Rattle.pg_directory.specs.declared.entries.EntryAt.{EntryAt}
use Rattle.pg_directory.specs.Trees.{StorePage, Plain, kind_of, key_at, strings_at, HasString}
use Rattle.pg_batch.specs.ByKey.{KeysRise}
use Rattle.pg_batch.specs.Places.{IsKeyPlace, AreKeyPlaces}
use Rattle.pg_batch.specs.laws.Rising.{IsBelowKeys, first_of_all}
use Rattle.pg_window.specs.Windows.{ShowsPages, IsWindow, ChangesShown}
use Rattle.pg_plan.specs.Changes.{changed_key, KeysApart, KeysRise as RisingKeys, StandAt}
use Rattle.pg_plan.specs.laws.KeyOrders.{rising_apart}
use Rattle.pg_change.specs.BatchWindows.{place_or, AreIn}

-- ---- keys in order

each_below : (key : List ℕ) (ws : List Change) → IsBelowKeys key ws → Each (λ (v : Change). slice_cmp nat_cmp key v.0 ≡ Less) ws
each_below key [] first = tt
each_below key (w ∷ ws) first = let b = and_parts (is_lt (slice_cmp nat_cmp key w.0)) (below (slice_cmp nat_cmp) key ws) first in (less_from_test _ b.0, each_below key ws b.1)

-- keys that rise by their test do so one by one
pub keys_rise : (ws : List Change) → KeysRise ws → RisingKeys ws
keys_rise [] rise = tt
keys_rise (w ∷ ws) rise = let f = first_of_all w ws rise in (each_below w.0 ws f.first, keys_rise ws f.later)

-- and no two of them are the same
pub keys_apart : (ws : List Change) → KeysRise ws → KeysApart ws
keys_apart ws rise = rising_apart ws (keys_rise ws rise)

-- ---- the string of a key

-- An entry of the key stands on the page at this place.
pub record StandsOn (pages : List StorePage) (at : ℕ) (key : List ℕ) : Type 0 where
  pub entry : EntryAt
  pub has : HasString pages entry
  pub is : key_at pages entry ≡ key
  pub place : entry.page - 3 ≡ at

pub entry_of_key : (pages : List StorePage) (at : ℕ) (key : List ℕ) → HasKeyAt (map kind_of pages) at key → StandsOn pages at key
entry_of_key pages at key has =
    let back : (3 + at) - 3 ≡ at = omega arith in
    let less : at < length pages = let e = length-map pages kind_of in let l = has.within in omega (arith, e, l) in
    let kind : kind_of (get_or pages at (Plain Free)) ≡ Slotted has.strings = sym (get_or-map kind_of pages at (Plain Free) Free less) ∙ has.kind in
    let strings : strings_at pages (3 + at) ≡ has.strings = ap (λ (k : ℕ). strings_of (kind_of (get_or pages k (Plain Free)) ∷ [])) back ∙ ap (λ (k : Kind). strings_of (k ∷ [])) kind ∙ append-nil has.strings in
    record {
      entry = record { page = 3 + at; slot = has.number };
      has = record { low = omega arith; less = subst (λ (l : List (List ℕ)). has.number < length l) (sym strings) has.is.within };
      is = ap (λ (l : List (List ℕ)). string_key (get_or l has.number [])) strings ∙ has.is.is;
      place = back;
    }

-- a string of a key in memory is one of the store's
pub key_in_store : (pages : List StorePage) (now : List Kind) (away : List Bool) (at : ℕ) (key : List ℕ) → ShowsPages pages now away → HasKeyAt now at key → HasKeyAt (map kind_of pages) at key
key_in_store pages now away at key shows has = of (get_or away at false) refl
  where
    none : (ss : List (List ℕ)) (n : ℕ) → Slotted ss ≡ Slotted [] → n < length ss → ⊥
    none [] n is less = omega (arith, less)
    none (s ∷ ss) n is less = cc is

    of : (b : Bool) → get_or away at false ≡ b → HasKeyAt (map kind_of pages) at key
    of true gone = absurd (none has.strings has.number (sym has.kind ∙ shows.hidden at gone) has.is.within)
    of false there =
        let less : at < length pages = let e = shows.count in let l = has.within in omega (arith, e, l) in
        record {
          within = let e = length-map pages kind_of in omega (arith, e, less);
          strings = has.strings;
          number = has.number;
          kind = get_or-map kind_of pages at (Plain Free) Free less ∙ ap kind_of (shows.shown at less there) ∙ has.kind;
          is = has.is;
        }

-- ---- the places of keys

-- what was found of the change of a number
pub record IsBeside (pages : List StorePage) (ws : List Change) (os : List (Option EntryAt)) (i : ℕ) : Type 0 where
  pub within : i < length os
  pub is : IsKeyPlace pages (changed_key ws i) (get_or os i None)

beside : (pages : List StorePage) (ws : List Change) (os : List (Option EntryAt)) (i : ℕ) → AreKeyPlaces pages ws os → i < length ws → IsBeside pages ws os i
beside pages [] os i places less = absurd (omega (arith, less))
beside pages (w ∷ ws) [] i places less = absurd places
beside pages (w ∷ ws) (o ∷ os) zero places less = record { within = omega arith; is = places.0 }
beside pages (w ∷ ws) (o ∷ os) (suc i) places less = let r = beside pages ws os i places.1 (omega (arith, less)) in record { within = let l = r.within in omega (arith, l); is = r.is }

-- The entry of the change of a number stands on the page at a place, and was found.
pub record IsFoundOn (pages : List StorePage) (os : List (Option EntryAt)) (i at : ℕ) : Type 0 where
  pub within : i < length os
  pub entry : EntryAt
  pub is : get_or os i None ≡ Some entry
  pub has : HasString pages entry
  pub place : entry.page - 3 ≡ at

module _ (pages : List StorePage) (one : (e f : EntryAt) → HasString pages e → HasString pages f → key_at pages e ≡ key_at pages f → e ≡ f) where
  found_at : (o : Option EntryAt) (key : List ℕ) (e : EntryAt) → IsKeyPlace pages key o → HasString pages e → key_at pages e ≡ key → o ≡ Some e
  found_at None key e place has is = absurd (place e has is)
  found_at (Some f) key e place has is = ap Some (one f e place.0 has (place.1 ∙ sym is))

  -- where the key of a change stands is what was found
  pub found_on : (ws : List Change) (os : List (Option EntryAt)) (i at : ℕ) → AreKeyPlaces pages ws os → i < length ws → HasKeyAt (map kind_of pages) at (changed_key ws i) → IsFoundOn pages os i at
  found_on ws os i at places less has =
      let s = entry_of_key pages at (changed_key ws i) has in
      let b = beside pages ws os i places less in
      record {
        within = b.within;
        entry = s.entry;
        is = found_at (get_or os i None) (changed_key ws i) s.entry b.is s.has s.is;
        has = s.has;
        place = s.place;
      }

  -- Where the pages of all places that were found are in memory, no string of a key that is changed stands on a page that is away.
  pub changes_shown : (away : List Bool) (ws : List Change) (os : List (Option EntryAt)) → AreKeyPlaces pages ws os → AreIn pages os away → ChangesShown (map kind_of pages) away ws
  changes_shown away ws os places in_ = record {
    shown = λ w at among has.
        let i = at_from_Contains ws w among in
        let key : changed_key ws i.0 ≡ w.0 = ap (λ (c : Change). c.0) (i.2 ([], None)) in
        let f = found_on ws os i.0 at places i.1 (subst (HasKeyAt (map kind_of pages) at) (sym key) has) in
        ap (λ (k : ℕ). get_or away k false) (sym f.place) ∙ in_.there i.0 f.entry f.within f.is f.has;
  }

  -- Each key of a change that stands on a page in memory stands on the one that was found for it.
  pub stand_at : (now : List Kind) (away : List Bool) (ws : List Change) (os : List (Option EntryAt)) (none : ℕ) → IsWindow pages now away → AreKeyPlaces pages ws os → StandAt now ws (map (place_or none) os)
  stand_at now away ws os none w places = record {
    each = λ i at less has.
        let f = found_on ws os i at places less (key_in_store pages now away at (changed_key ws i) w.shows has) in
        sym (get_or-map (place_or none) os i None 0 f.within ∙ ap (place_or none) f.is ∙ f.place);
  }
