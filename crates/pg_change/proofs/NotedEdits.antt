-- Edits as they are noted, and that they are those which a batch asks for.
use Rattle.std.specs.Prelude.{unwrap_or}
use Rattle.std.proofs.Common.{◌≡◌, ◌⊎◌, inl, inr, ⊎_elim, ℕ, zero, suc, ◌+◌, ◌-◌, ◌≤◌, ◌<◌, Bool, true, false, cond, List, [], ◌∷◌, ◌++◌, length, take, drop, get_or, Option, Some, None, refl, sym, ap, subst, ◌∙◌, append_assoc, arith}
use Rattle.std.specs.List.{Contains}
use Rattle.std.specs.List.Sorted.{IsStrictlySortedBy}
use Rattle.std.specs.Map.{keys_of}
use Rattle.std.specs.BTreeMap.{insert_entry}
use Rattle.std.specs.FinMap.{get, insert, entries, get-entries, get-insert, get-from_sorted}
use Rattle.std.specs.Ordering.{nat_cmp, is_lt}
use Rattle.std.specs.Cmp.Lexicographic.{slice_cmp}
use Rattle.std.proofs.lemmas.Bool.{and_parts}
use Rattle.std.proofs.lemmas.Cmp.{nat_list_cmp_total}
use Rattle.std.proofs.lemmas.List.{map-append, take_all}
use Rattle.std.proofs.lemmas.List.Elements.{Contains-get_or, Contains-append_cases}
use Rattle.std.proofs.lemmas.Map.Lookups.{exact_bytes}
use Rattle.ct_base.specs.laws.Orders.{less_from_test}
use Rattle.ct_base.specs.laws.SortedMaps.{entries-seen, seen-insert}
use Rattle.ct_keep.specs.Content.{Content, Change}
use Rattle.ct_keep.specs.EntryKeys.{key_bytes, entry_key_order}
use Rattle.ct_keep.specs.declared.entry_keys.EntryKey.{EntryKey}
use Rattle.ct_keep.specs.laws.Content.{same, same_keys, same_itself}
use Rattle.ct_keep.specs.laws.FoundKeys.{pair_found, found_pair}
use Rattle.ct_keep.specs.laws.RisingKeys.{below, rises, entries_rise}
use Rattle.pg_map.specs.Done.{IsDone}
use Rattle.pg_map.specs.Kinds.{Each, Kind}
use Rattle.pg_map.specs.PageStrings.{string_key}
use Rattle.pg_directory.specs.declared.entries.EntryAt.{EntryAt}
use Rattle.pg_directory.specs.Trees.{StorePage, key_at, HasString, IsBelow}
use Rattle.pg_directory.specs.laws.Listing.{none_in, in_more, first_in, later_in}
use Rattle.pg_leaves.specs.declared.edits.Edit.{Edit}
use Rattle.pg_leaves.specs.Editing.{KeyEdit, edits_of, Rising, IsUnedited}
use Rattle.pg_change.specs.KeyEdits.{strings_on, HasStringOn, key_on, AreEditsOf}
use Rattle.pg_change.specs.NotedEdits.{NotedEntry, EditMap, edits_seen, edit_map, with_edits, gone_edits, slot_edit, slot_edits, page_edits, pages_edits}
use Rattle.pg_change.specs.Unmoved.{ArePagesNoted}
use Rattle.pg_change.specs.laws.OnePlace.{one_place_on}

-- ---- one edit after the other

pub noted_more : (old new : List NotedEntry) (k : EntryKey) (o : Option EntryAt)
    → IsStrictlySortedBy entry_key_order (keys_of old) → IsStrictlySortedBy entry_key_order (keys_of new) → new ≡ insert_entry entry_key_order old k o
    → edit_map new ≡ insert (edit_map old) (key_bytes k) o
noted_more old new k o s t is = seen-insert (slice_cmp nat_cmp) key_bytes (λ (x : Option EntryAt). x) nat_list_cmp_total old new k o s t is

-- the map as a list
pub noted_list : (es : List NotedEntry) → IsStrictlySortedBy entry_key_order (keys_of es) → entries (edit_map es) ≡ edits_seen es
noted_list es s = entries-seen (slice_cmp nat_cmp) key_bytes (λ (x : Option EntryAt). x) es s

-- one edit more in the list
pub list_more : (list now : List Edit) (u : Edit) (all rest : List NotedEntry) (k : EntryKey) (o : Option EntryAt)
    → now ≡ list ++ u ∷ [] → all ≡ (k, o) ∷ rest → u.key.items ≡ key_bytes k → u.place ≡ o
    → edits_of now ++ edits_seen rest ≡ edits_of list ++ edits_seen all
list_more list now u all rest k o push step key place =
    ap (λ (l : List Edit). edits_of l ++ edits_seen rest) push
    ∙ ap (λ (l : List KeyEdit). l ++ edits_seen rest) (map-append {B = List ℕ × Option EntryAt} (λ (x : Edit). (x.key.items, x.place)) list (u ∷ []))
    ∙ append_assoc (edits_of list) ((u.key.items, u.place) ∷ []) (edits_seen rest)
    ∙ ap (λ (x : List ℕ). edits_of list ++ (x, u.place) ∷ edits_seen rest) key
    ∙ ap (λ (x : Option EntryAt). edits_of list ++ (key_bytes k, x) ∷ edits_seen rest) place
    ∙ ap (λ (l : List NotedEntry). edits_of list ++ edits_seen l) (sym step)

-- ---- what is noted of a key

module _ (m : EditMap) (u : KeyEdit) (k : List ℕ) where
  noted_now : get (insert m u.0 u.1) k ≡ cond (same k u.0) (Some u.1) (get m k)
  noted_now = get-insert nat_list_cmp_total m u.0 u.1 k

  noted_if : (b : Bool) → same k u.0 ≡ b → get (insert m u.0 u.1) k ≡ cond b (Some u.1) (get m k)
  noted_if b is = noted_now ∙ ap (λ (x : Bool). cond x (Some u.1) (get m k)) is

  is_pair : (v : Option EntryAt) → same k u.0 ≡ true → u.1 ≡ v → u ≡ (k, v)
  is_pair v one is = ap (λ (x : List ℕ). (x, u.1)) (sym (same_keys k u.0 one)) ∙ ap (λ (o : Option EntryAt). (k, o)) is

-- it is one of the edits, or was there
from_noted : (us : List KeyEdit) (m : EditMap) (k : List ℕ) (v : Option EntryAt) → get (with_edits us m) k ≡ Some v → Contains us (k, v) ⊎ (get m k ≡ Some v)
from_noted [] m k v got = inr got
from_noted (u ∷ us) m k v got = ⊎_elim (λ more. inl (later_in u (k, v) us more)) (λ was. of (same k u.0) refl was) (from_noted us (insert m u.0 u.1) k v got)
  where
    of : (b : Bool) → same k u.0 ≡ b → get (insert m u.0 u.1) k ≡ Some v → Contains (u ∷ us) (k, v) ⊎ (get m k ≡ Some v)
    of true one is = inl (subst (Contains (u ∷ us)) (is_pair m u k v one (ap (λ (o : Option (Option EntryAt)). unwrap_or o u.1) (sym (noted_if m u k true one) ∙ is))) (first_in u us))
    of false two is = inr (sym (noted_if m u k false two) ∙ is)

-- what is noted, or was, of a key of which nothing else is noted
keeps_noted : (us : List KeyEdit) (m : EditMap) (k : List ℕ) (v : Option EntryAt) → ((w : Option EntryAt) → Contains us (k, w) → w ≡ v)
    → (get m k ≡ Some v) ⊎ Contains us (k, v) → get (with_edits us m) k ≡ Some v
keeps_noted [] m k v only has = ⊎_elim (λ got. got) (λ none. absurd (none_in (k, v) none)) has
keeps_noted (u ∷ us) m k v only has = keeps_noted us (insert m u.0 u.1) k v (λ w there. only w (later_in u (k, w) us there)) (of (same k u.0) refl)
  where
    of : (b : Bool) → same k u.0 ≡ b → (get (insert m u.0 u.1) k ≡ Some v) ⊎ Contains us (k, v)
    of true one = inl (noted_if m u k true one ∙ ap (λ (o : Option EntryAt). Some o) (only u.1 (subst (Contains (u ∷ us)) (is_pair m u k u.1 one refl) (first_in u us))))
    of false two = ⊎_elim
        (λ got. inl (noted_if m u k false two ∙ got))
        (λ there. ⊎_elim
        (λ is. let one : true ≡ false = sym (same_itself k) ∙ ap (λ (x : KeyEdit). same k x.0) (sym is) ∙ two in absurd (cc one))
        (λ more. inr more)
        (in_more u (k, v) us there))
        has

-- of a key of which something was noted something is
record IsNoted (m : EditMap) (k : List ℕ) : Type 0 where
  what : Option EntryAt
  is : get m k ≡ Some what

stays_noted : (us : List KeyEdit) (m : EditMap) (k : List ℕ) → IsNoted m k → IsNoted (with_edits us m) k
stays_noted [] m k was = was
stays_noted (u ∷ us) m k was = stays_noted us (insert m u.0 u.1) k (of (same k u.0) refl)
  where
    of : (b : Bool) → same k u.0 ≡ b → IsNoted (insert m u.0 u.1) k
    of true one = record { what = u.1; is = noted_if m u k true one }
    of false two = record { what = was.what; is = noted_if m u k false two ∙ was.is }

-- ---- what the edits are

gone_of : (ws : List Change) (k : List ℕ) (o : Option EntryAt) → Contains (gone_edits ws) (k, o) → Contains ws (k, None) × (o ≡ None)
gone_of [] k o has = absurd (none_in (k, o) has)
gone_of ((q, None) ∷ ws) k o has = ⊎_elim
    (λ is. (subst (λ (x : List ℕ). Contains ((q, None) ∷ ws) (x, None)) (ap (λ (u : KeyEdit). u.0) is) (first_in (q, None) ws), sym (ap (λ (u : KeyEdit). u.1) is)))
    (λ more. let r = gone_of ws k o more in (later_in (q, None) (k, None) ws r.0, r.1))
    (in_more (q, None) (k, o) (gone_edits ws) has)
gone_of ((q, Some value) ∷ ws) k o has = let r = gone_of ws k o has in (later_in (q, Some value) (k, None) ws r.0, r.1)

in_gone : (ws : List Change) (k : List ℕ) → Contains ws (k, None) → Contains (gone_edits ws) (k, None)
in_gone [] k has = absurd (none_in (k, None) has)
in_gone ((q, None) ∷ ws) k has = ⊎_elim
    (λ is. subst (λ (x : List ℕ). Contains ((q, None) ∷ gone_edits ws) (x, None)) (ap (λ (w : Change). w.0) is) (first_in (q, None) (gone_edits ws)))
    (λ more. later_in (q, None) (k, None) (gone_edits ws) (in_gone ws k more))
    (in_more (q, None) (k, None) ws has)
in_gone ((q, Some value) ∷ ws) k has = ⊎_elim
    (λ is. let wrong : ◌≡◌ {A = Option (List ℕ)} (Some value) None = ap (λ (w : Change). w.1) is in absurd (cc wrong))
    (λ more. in_gone ws k more)
    (in_more (q, Some value) (k, None) ws has)

-- the edit of a string of a page
record IsSlotEdit (number : ℕ) (ss : List (List ℕ)) (count : ℕ) (k : List ℕ) (o : Option EntryAt) : Type 0 where
  slot : ℕ
  less : slot < count
  key : string_key (get_or ss slot []) ≡ k
  place : o ≡ Some (record { page = number; slot = slot })

slot_edit_of : (number : ℕ) (ss : List (List ℕ)) (count : ℕ) (k : List ℕ) (o : Option EntryAt) → Contains (slot_edits number ss count) (k, o) → IsSlotEdit number ss count k o
slot_edit_of number ss zero k o has = absurd (none_in (k, o) has)
slot_edit_of number ss (suc i) k o has = ⊎_elim
    (λ before. let r = slot_edit_of number ss i k o before in record { slot = r.slot; less = let l = r.less in omega (arith, l); key = r.key; place = r.place })
    (λ last. ⊎_elim
    (λ is. record { slot = i; less = omega arith; key = ap (λ (u : KeyEdit). u.0) is; place = sym (ap (λ (u : KeyEdit). u.1) is) })
    (λ none. absurd (none_in (k, o) none))
    (in_more (slot_edit number ss i) (k, o) [] last))
    (Contains-append_cases (slot_edits number ss i) (slot_edit number ss i ∷ []) (k, o) has)

-- the edit of a string of one of some pages
record IsPageEdit (kinds : List Kind) (numbers : List ℕ) (k : List ℕ) (o : Option EntryAt) : Type 0 where
  at : EntryAt
  listed : Contains numbers at.page
  has : HasStringOn kinds at
  key : key_on kinds at ≡ k
  place : o ≡ Some at

page_edit_of : (kinds : List Kind) (numbers : List ℕ) (k : List ℕ) (o : Option EntryAt)
    → ((n : ℕ) → Contains numbers n → 3 ≤ n) → Contains (pages_edits kinds numbers) (k, o) → IsPageEdit kinds numbers k o
page_edit_of kinds [] k o low there = absurd (none_in (k, o) there)
page_edit_of kinds (n ∷ ns) k o low there = ⊎_elim
    (λ here.
    let r = slot_edit_of n (strings_on kinds n) (length (strings_on kinds n)) k o here in
    record { at = record { page = n; slot = r.slot }; listed = first_in n ns; has = record { low = low n (first_in n ns); less = r.less }; key = r.key; place = r.place })
    (λ later.
    let r = page_edit_of kinds ns k o (λ i more. low i (later_in n i ns more)) later in
    record { at = r.at; listed = later_in n r.at.page ns r.listed; has = r.has; key = r.key; place = r.place })
    (Contains-append_cases (page_edits kinds n) (pages_edits kinds ns) (k, o) there)

-- ---- in order of key

rising_of : (us : List KeyEdit) → rises {X = Option EntryAt} (slice_cmp nat_cmp) us ≡ true → Rising us
rising_of [] up = tt
rising_of (u ∷ us) up = let b = and_parts (below {X = Option EntryAt} (slice_cmp nat_cmp) u.0 us) (rises {X = Option EntryAt} (slice_cmp nat_cmp) us) up in (each us b.0, rising_of us b.1)
  where
    each : (vs : List KeyEdit) → below {X = Option EntryAt} (slice_cmp nat_cmp) u.0 vs ≡ true → Each (λ (q : KeyEdit). IsBelow u.0 q.0) vs
    each [] low = tt
    each (v ∷ vs) low = let b = and_parts (is_lt (slice_cmp nat_cmp u.0 v.0)) (below {X = Option EntryAt} (slice_cmp nat_cmp) u.0 vs) low in
        (less_from_test (slice_cmp nat_cmp u.0 v.0) b.0, each vs b.1)

-- ---- all that is noted

module _ (pages : List StorePage) (kinds : List Kind) (numbers : List ℕ) (ws : List Change) (all_noted : EditMap) where
  -- of the changes, and then of the pages
  abbrev gone_noted : EditMap
  gone_noted = with_edits (gone_edits ws) (edit_map [])

  in_list : (k : List ℕ) (v : Option EntryAt) → get all_noted k ≡ Some v → Contains (entries all_noted) (k, v)
  in_list k v got = found_pair (slice_cmp nat_cmp) exact_bytes (entries all_noted) k v (sym (get-entries all_noted k) ∙ got)

  -- where an edit in the list comes from
  source : ArePagesNoted pages kinds numbers gone_noted all_noted → ((n : ℕ) → Contains numbers n → 3 ≤ n) → (k : List ℕ) (v : Option EntryAt) → Contains (entries all_noted) (k, v) → IsPageEdit kinds numbers k v ⊎ (Contains ws (k, None) × (v ≡ None))
  source r low k v has = ⊎_elim
      (λ page. inl (page_edit_of kinds numbers k v low (r.from (k, v) page)))
      (λ gone. ⊎_elim
      (λ change. inr (gone_of ws k v change))
      (λ none. let wrong : None ≡ Some v = sym (get-from_sorted (slice_cmp nat_cmp) [] k tt) ∙ none in absurd (cc wrong))
      (from_noted (gone_edits ws) (edit_map []) k v gone))
      (from_noted r.noted gone_noted k v
      (sym (ap (λ (m : EditMap). get m k) r.is) ∙ get-entries all_noted k ∙ pair_found (slice_cmp nat_cmp) nat_list_cmp_total (entries all_noted) (k, v) (entries_rise (slice_cmp nat_cmp) all_noted) has))

  pub are_edits : (m : Content) → IsDone kinds m → ((n : ℕ) → Contains numbers n → (3 ≤ n) × (n < 3 + length kinds)) → ArePagesNoted pages kinds numbers gone_noted all_noted
      → AreEditsOf pages kinds numbers ws (entries all_noted)
  are_edits m done within r = record { rise = rising_of (entries all_noted) (entries_rise (slice_cmp nat_cmp) all_noted); put = put; all = all; none = none; gone = gone }
    where
      low : (n : ℕ) → Contains numbers n → 3 ≤ n
      low n has = (within n has).0

      put : (k : List ℕ) (e : EntryAt) → Contains (entries all_noted) (k, Some e) → Contains numbers e.page × HasStringOn kinds e × (key_on kinds e ≡ k)
      put k e has = ⊎_elim
          (λ p. let one : p.at ≡ e = ap (λ (o : Option EntryAt). unwrap_or o e) (sym p.place) in
          subst (λ (x : EntryAt). Contains numbers x.page × HasStringOn kinds x × (key_on kinds x ≡ k)) one (p.listed, p.has, p.key))
          (λ change. absurd (cc change.1))
          (source r low k (Some e) has)

      listed : (e : EntryAt) → HasStringOn kinds e → Contains r.noted (key_on kinds e, Some e) → Contains (entries all_noted) (key_on kinds e, Some e)
      listed e has there = in_list (key_on kinds e) (Some e) (ap (λ (x : EditMap). get x (key_on kinds e)) r.is ∙ keeps_noted r.noted gone_noted (key_on kinds e) (Some e)
          (λ w more. let p = page_edit_of kinds numbers (key_on kinds e) w low (r.from (key_on kinds e, w) more) in p.place ∙ ap (λ (x : EntryAt). Some x) (one_place_on kinds m done p.at e p.has has p.key))
          (inr there))

      all : (e : EntryAt) → Contains numbers e.page → HasStringOn kinds e → Contains (entries all_noted) (key_on kinds e, Some e) ⊎ (HasString pages e × (key_at pages e ≡ key_on kinds e))
      all e there has = ⊎_elim (λ noted. inl (listed e has noted)) (λ had. inr had) (r.all e there has)

      none : (k : List ℕ) → Contains (entries all_noted) (k, None) → Contains ws (k, None)
      none k has = ⊎_elim (λ p. let wrong = p.place in absurd (cc wrong)) (λ change. change.0) (source r low k None has)

      gone : (k : List ℕ) → Contains ws (k, None) → IsUnedited (entries all_noted) k → ⊥
      gone k has free =
          let noted = keeps_noted (gone_edits ws) (edit_map []) k None (λ w more. (gone_of ws k w more).1) (inr (in_gone ws k has)) in
          let still = stays_noted r.noted gone_noted k (record { what = None; is = noted }) in
          free (k, still.what) (in_list k still.what (ap (λ (x : EditMap). get x k) r.is ∙ still.is)) refl

-- the whole list
pub listed_are : (pages : List StorePage) (kinds : List Kind) (numbers : List ℕ) (ws : List Change) (m : Content) (none some all : List NotedEntry) (us : List KeyEdit) → IsDone kinds m
    → ((n : ℕ) → Contains numbers n → (3 ≤ n) × (n < 3 + length kinds))
    → none ≡ [] → edit_map some ≡ with_edits (gone_edits ws) (edit_map none)
    → ArePagesNoted pages kinds numbers (edit_map some) (edit_map all) → IsStrictlySortedBy entry_key_order (keys_of all) → us ≡ edits_seen all
    → AreEditsOf pages kinds numbers ws us
listed_are pages kinds numbers ws m none some all us done within empty first second sorted is =
    let from = first ∙ ap (λ (l : List NotedEntry). with_edits (gone_edits ws) (edit_map l)) empty in
    subst (AreEditsOf pages kinds numbers ws) (sym (is ∙ sym (noted_list all sorted)))
    (are_edits pages kinds numbers ws (edit_map all) m done within (subst (λ (x : EditMap). ArePagesNoted pages kinds numbers x (edit_map all)) from second))

-- ---- the numbers that are left

pub none_left : (ns : List ℕ) → length ns < 1 → ns ≡ []
none_left [] none = refl
none_left (n ∷ ns) none = absurd (omega (arith, none))

pub first_rest : (ns : List ℕ) → 1 ≤ length ns → ns ≡ get_or ns 0 0 ∷ take (length ns - 1) (drop 1 ns)
first_rest [] some = absurd (omega (arith, some))
first_rest (n ∷ ns) some = ap (λ (l : List ℕ). n ∷ l) (sym (take_all (suc (length ns) - 1) ns (omega arith)))

pub first_has : (ns : List ℕ) → 1 ≤ length ns → Contains ns (get_or ns 0 0)
first_has ns some = Contains-get_or ns 0 0 some

pub rest_has : (ns : List ℕ) (n : ℕ) → 1 ≤ length ns → Contains (take (length ns - 1) (drop 1 ns)) n → Contains ns n
rest_has ns n some has = subst (λ (l : List ℕ). Contains l n) (sym (first_rest ns some)) (later_in (get_or ns 0 0) n (take (length ns - 1) (drop 1 ns)) has)
