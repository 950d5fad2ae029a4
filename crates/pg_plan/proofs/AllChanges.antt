-- All changes of a batch over pages, one after the other.
use Rattle.std.specs.Prelude.{map}
use Rattle.std.proofs.Common.{◌≤◌, ◌<◌, ◌≡◌, ◌≢◌, ℕ, zero, suc, ◌+◌, List, [], ◌∷◌, ◌++◌, length, get_or, take, Option, Some, None, refl, sym, ap, subst, ◌∙◌, arith}
use Rattle.std.specs.FinMap.{get}
use Rattle.std.proofs.lemmas.List.{length-map}
use Rattle.ct_keep.specs.Content.{Content, Change, set_to, after}
use Rattle.ct_keep.specs.laws.Content.{after-append}
use Rattle.ct_keep.specs.declared.batches.Change as rust
use Rattle.ct_keep.specs.SeenChanges.{change_of}
use Rattle.pg_map.specs.Kinds.{Each, Kind, Free}
use Rattle.pg_map.specs.PageStrings.{string_key}
use Rattle.pg_plan.specs.Drafts.{Drafted}
use Rattle.pg_plan.specs.FreePlaces.{NeedsPages}
use Rattle.pg_plan.specs.laws.Needs.{needs_same, needs_then, needs_more}
use Rattle.pg_plan.specs.Planned.{HasNone}
use Rattle.pg_map.specs.Done.{IsDone, HasKeyAt}
use Rattle.pg_batch.specs.BatchPages.{entry_pages, put_pages, changed_pages}
use Rattle.pg_plan.specs.PlanSteps.{MakesChange, MakesChanges}
use Rattle.pg_plan.specs.Changes.{KeysApart, StandAt, changed_key}
use Rattle.pg_map.specs.laws.PageStrings.{item_key}
use Rattle.pg_plan.proofs.Changing.{somewhere, changes_take}
use Rattle.pg_plan.proofs.Stepping.{slotted_within}

-- ---- all changes

pub changed_pages-append : (ws us : List Change) (m : Content) → changed_pages (ws ++ us) m ≡ changed_pages ws m + changed_pages us (after ws m)
changed_pages-append [] us m = omega arith
changed_pages-append (w ∷ ws) us m = let e = changed_pages-append ws us (set_to w.0 w.1 m) in omega (arith, e)

pub changed_pages-one : (ws us : List Change) (key : List ℕ) (value : Option (List ℕ)) (m : Content) → us ≡ ws ++ (key, value) ∷ [] → changed_pages us m ≡ changed_pages ws m + (entry_pages key (get (after ws m) key) + entry_pages key value)
changed_pages-one ws us key value m is = ap (λ (l : List Change). changed_pages l m) is ∙ changed_pages-append ws ((key, value) ∷ []) m ∙ of _ _
  where
    of : (a b : ℕ) → a + (b + 0) ≡ a + b
    of a b = omega arith

pub put_pages-one : (ws us : List Change) (key : List ℕ) (value : Option (List ℕ)) → us ≡ ws ++ (key, value) ∷ [] → put_pages us ≡ put_pages ws + entry_pages key value
put_pages-one ws us key value is = ap put_pages is ∙ of ws
  where
    of : (ws : List Change) → put_pages (ws ++ (key, value) ∷ []) ≡ put_pages ws + entry_pages key value
    of [] = omega arith
    of (w ∷ ws) = let e = of ws in omega (arith, e)

pub made_more : (old mid new : Drafted) (ws us : List Change) (m : Content) (key : List ℕ) (value : Option (List ℕ)) (at : ℕ) → MakesChanges old mid ws m → us ≡ ws ++ (key, value) ∷ []
    → MakesChange mid.now new.now (after ws m) key value at → length new.touched ≤ length mid.touched + (entry_pages key (get (after ws m) key) + entry_pages key value) → MakesChanges old new us m
made_more old mid new ws us m key value at is more made touches = record {
  done = subst (IsDone new.now) (sym (ap (λ (l : List Change). after l m) more ∙ after-append ws ((key, value) ∷ []) m)) made.done;
  touches = let a = is.touches in let c = changed_pages-one ws us key value m more in sum _ _ _ _ _ _ a touches c;
}
  where
    sum : (x y z t p q : ℕ) → y ≤ z + p → x ≤ y + t → q ≡ p + t → x ≤ z + q
    sum x y z t p q a b f = omega (arith, a, b, f)

pub made_none : (d : Drafted) (m : Content) → IsDone d.now m → MakesChanges d d [] m
made_none d m done = record { done = done; touches = omega arith }

-- ---- where the keys of changes stand that are still to come

-- those from a number on
pub record StandFrom (kinds : List Kind) (ws : List Change) (places : List ℕ) (from : ℕ) : Type 0 where
  pub each : (i at : ℕ) → from ≤ i → i < length ws → HasKeyAt kinds at (changed_key ws i) → at ≡ get_or places i 0

pub stand_first : (kinds : List Kind) (ws : List Change) (places : List ℕ) → StandAt kinds ws places → StandFrom kinds ws places 0
stand_first kinds ws places stand = record { each = λ i at low less has. stand.each i at less has }

keys_differ : (ws : List Change) (i j : ℕ) → KeysApart ws → i < j → j < length ws → changed_key ws j ≢ changed_key ws i
keys_differ [] i j apart less within = absurd (omega (arith, within))
keys_differ (w ∷ ws) i zero apart less within = absurd (omega (arith, less))
keys_differ (w ∷ ws) zero (suc j) apart less within = of ws j apart.0 (omega (arith, within))
  where
    of : (ws : List Change) (j : ℕ) → Each (λ (v : Change). w.0 ≢ v.0) ws → j < length ws → changed_key ws j ≢ w.0
    of [] j each within = absurd (omega (arith, within))
    of (v ∷ ws) zero each within = λ e. each.0 (sym e)
    of (v ∷ ws) (suc j) each within = of ws j each.1 (omega (arith, within))
keys_differ (w ∷ ws) (suc i) (suc j) apart less within = keys_differ ws i j apart.1 (omega (arith, less)) (omega (arith, within))

-- a change of another key moves none of them
pub stand_more : (old new : List Kind) (m : Content) (ws : List Change) (places : List ℕ) (i : ℕ) (value : Option (List ℕ)) (at : ℕ) → KeysApart ws → StandFrom old ws places i → MakesChange old new m (changed_key ws i) value at → StandFrom new ws places (i + 1)
stand_more old new m ws places i value at apart stand made = record {
  each = λ j a low less has. stand.each j a (omega (arith, low)) less (made.others a (changed_key ws j) (keys_differ ws i j apart (omega (arith, low)) less) has);
}

pub key_of_change : (ws : List rust.Change) (i : ℕ) (w : rust.Change) → i < length ws → w ≡ get_or ws i w → changed_key (map change_of ws) i ≡ w.key.items
key_of_change [] i w less is = absurd (omega (arith, less))
key_of_change (v ∷ ws) zero w less is = ap (λ (u : rust.Change). u.key.items) (sym is)
key_of_change (v ∷ ws) (suc i) w less is = key_of_change ws i w (omega (arith, less)) is

-- where the page beside a key's change doesn't have it, the map hasn't
pub key_known : (kinds : List Kind) (m : Content) (key : List ℕ) (at : ℕ) → IsDone kinds m → ((a : ℕ) → HasKeyAt kinds a key → a ≡ at) → HasNone kinds at key → get m key ≡ None
key_known kinds m key at done only none = of (get m key) refl
  where
    of : (o : Option (List ℕ)) → get m key ≡ o → get m key ≡ None
    of None got = got
    of (Some v) got =
        let s = somewhere kinds m key v done got in
        let e : s.at ≡ at = only s.at (record {
          within = slotted_within kinds s.at s.strings s.kind;
          strings = s.strings;
          number = s.number;
          kind = s.kind;
          is = record { within = s.within; is = ap string_key s.is ∙ item_key s.item s.good ∙ s.key_is };
        }) in
        absurd (none.none s.strings s.number s.item (ap (λ (j : ℕ). get_or kinds j Free) (sym e) ∙ s.kind) s.within s.good s.is s.key_is)

-- so many changes were made, and where the keys of the others stand
pub record MakesFirst (old mid : Drafted) (ws : List rust.Change) (places : List ℕ) (m : Content) (i : ℕ) : Type 0 where
  pub made : MakesChanges old mid (map change_of (take i ws)) m
  pub left : StandFrom mid.now (map change_of ws) places i

pub first_none : (d : Drafted) (ws : List rust.Change) (places : List ℕ) (m : Content) → IsDone d.now m → StandAt d.now (map change_of ws) places → MakesFirst d d ws places m 0
first_none d ws places m done stand = record { made = made_none d m done; left = stand_first d.now (map change_of ws) places stand }

-- the map has no entry of the next key where the page beside it has none
pub first_known : (old mid : Drafted) (ws : List rust.Change) (places : List ℕ) (m : Content) (i : ℕ) (w : rust.Change) → MakesFirst old mid ws places m i → i < length ws → w ≡ get_or ws i w → HasNone mid.now (get_or places i 0) w.key.items
    → get (after (map change_of (take i ws)) m) w.key.items ≡ None
first_known old mid ws places m i w first less is none =
    let key = key_of_change ws i w less is in
    let within : i < length (map change_of ws) = let e = length-map ws change_of in omega (arith, e, less) in
    key_known mid.now (after (map change_of (take i ws)) m) w.key.items (get_or places i 0) first.made.done (λ a has. first.left.each i a (omega arith) within (subst (HasKeyAt mid.now a) (sym key) has)) none

pub first_more : (old mid new : Drafted) (ws : List rust.Change) (places : List ℕ) (m : Content) (i : ℕ) (w : rust.Change) (at : ℕ) → KeysApart (map change_of ws) → MakesFirst old mid ws places m i → i < length ws → w ≡ get_or ws i w
    → MakesChange mid.now new.now (after (map change_of (take i ws)) m) (change_of w).0 (change_of w).1 at
    → length new.touched ≤ length mid.touched + (entry_pages (change_of w).0 (get (after (map change_of (take i ws)) m) (change_of w).0) + entry_pages (change_of w).0 (change_of w).1)
    → MakesFirst old new ws places m (i + 1)
first_more old mid new ws places m i w at apart first less is made touches = record {
  made = made_more old mid new (map change_of (take i ws)) (map change_of (take (i + 1) ws)) m (change_of w).0 (change_of w).1 at first.made (changes_take ws i w less is) made touches;
  left = stand_more mid.now new.now (after (map change_of (take i ws)) m) (map change_of ws) places i (change_of w).1 at apart first.left
      (subst (λ (k : List ℕ). MakesChange mid.now new.now (after (map change_of (take i ws)) m) k (change_of w).1 at) (sym (key_of_change ws i w less is)) made);
}

put_pages-take : (ws : List rust.Change) (i : ℕ) → put_pages (map change_of (take i ws)) ≤ put_pages (map change_of ws)
put_pages-take ws zero = omega arith
put_pages-take [] (suc i) = omega arith
put_pages-take (w ∷ ws) (suc i) = let e = put_pages-take ws i in omega (arith, e)

-- as many pages as the first changes put, while a plan goes on
pub record NeedsAlong (old new : List Kind) (ws : List rust.Change) (i : ℕ) : Type 0 where
  pub is : NeedsPages old new (put_pages (map change_of (take i ws)))

pub along_none : (ks : List Kind) (ws : List rust.Change) → NeedsAlong ks ks ws 0
along_none ks ws = record { is = needs_same ks ks refl }

pub along_more : (old mid new : List Kind) (ws : List rust.Change) (i : ℕ) (w : rust.Change) → NeedsAlong old mid ws i → i < length ws → w ≡ get_or ws i w → NeedsPages mid new (entry_pages (change_of w).0 (change_of w).1) → NeedsAlong old new ws (i + 1)
along_more old mid new ws i w so_far less at step = record {
  is = subst (NeedsPages old new) (sym (put_pages-one (map change_of (take i ws)) (map change_of (take (i + 1) ws)) (change_of w).0 (change_of w).1 (changes_take ws i w less at)))
      (needs_then old mid new (put_pages (map change_of (take i ws))) (entry_pages (change_of w).0 (change_of w).1) so_far.is step);
}

pub along_all : (old new : List Kind) (ws : List rust.Change) (i : ℕ) → NeedsAlong old new ws i → NeedsPages old new (put_pages (map change_of ws))
along_all old new ws i so_far = needs_more old new (put_pages (map change_of (take i ws))) (put_pages (map change_of ws)) (put_pages-take ws i) so_far.is
