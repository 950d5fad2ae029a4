-- Places noted under bytes, and the items that are found by them.
use Rattle.std.proofs.Common.{ℕ, ◌≡◌, ◌+◌, Bool, true, false, cond, List, [], ◌∷◌, ◌++◌, length, Option, Some, None, Vec, refl, sym, ap, subst, ◌∙◌, arith, append_assoc, length-append, ⊎_elim}
use Rattle.std.specs.Prelude.{bytes_eq, eqb, filter}
use Rattle.std.specs.Option.{option_map_or, unwrap_or}
use Rattle.std.specs.List.{slice_get}
use Rattle.std.specs.declared.alloc.Global.{Global}
use Rattle.std.specs.declared.cmp.Ordering.{Ordering}
use Rattle.std.specs.Ordering.{nat_cmp, eq_by_cmp}
use Rattle.std.specs.Cmp.Lexicographic.{slice_cmp}
use Rattle.std.specs.Map.{lookup, KeepsOthers}
use Rattle.std.specs.BTreeMap.{UpdatesBy, get_by, is_at}
use Rattle.std.proofs.lemmas.Bool.{cases_Bool, cond-true, cond-false, and_parts, eqb-true, false≢true}
use Rattle.std.proofs.lemmas.Cmp.{eq_by_cmp_equiv, nat_list_cmp_total, nat_list_eq_equiv}
use Rattle.std.proofs.lemmas.Map.Text.{is_eq-slice_cmp}
use Rattle.std.proofs.lemmas.Slice.Eq.{bytes_eq-Decides}
use Rattle.q_tree.specs.declared.flats.Slot.{Slot}
use Rattle.q_tree.specs.Slots.{same_slot}
use Rattle.q_tree.specs.laws.SameSlots.{slots_decide}
use Rattle.ix_slots.specs.SlotBytes.{slot_bytes}
use Rattle.ix_slots.specs.NotedPlaces.{NotedMap, noted_under, PutsPlace}
use Rattle.ix_slots.specs.SlotLists.{StreamSlot, is_slot_in, any_then, at_places, first_in, places_with, AreNoted}

-- ---- a map whose keys are bytes

abbrev key_order : Vec ℕ Global → Vec ℕ Global → Ordering
key_order x y = slice_cmp nat_cmp x.items y.items

abbrev order_at : List ℕ → Vec ℕ Global → Ordering
order_at bytes k = slice_cmp nat_cmp bytes k.items

apart : (bs cs : List ℕ) (k : Vec ℕ Global) → bytes_eq bs cs ≡ false → is_at (order_at bs) k ≡ true → is_at (order_at cs) k ≡ false
apart bs cs k differ here =
    let same : bytes_eq bs k.items ≡ true = sym (is_eq-slice_cmp bs k.items) ∙ here in
    is_eq-slice_cmp cs k.items ∙ nat_list_eq_equiv.symm cs k.items ∙ sym (nat_list_eq_equiv.congr bs k.items cs same) ∙ differ

other_bytes : (old new : List (Vec ℕ Global × Vec ℕ Global)) (bs cs : List ℕ) → bytes_eq bs cs ≡ false → KeepsOthers (eq_by_cmp key_order) (is_at (order_at bs)) old new → lookup (is_at (order_at cs)) new ≡ lookup (is_at (order_at cs)) old
unfolding KeepsOthers
other_bytes old new bs cs differ keeps = keeps (is_at (order_at cs)) (λ x y. (eq_by_cmp_equiv nat_list_cmp_total).congr cs x.items y.items) (λ k. apart bs cs k differ)

-- what is at some bytes after a change at others
changed : (bs : List ℕ) (old new : NotedMap) (w : Option (Vec ℕ Global)) → UpdatesBy key_order (order_at bs) old new w → (cs : List ℕ) → get_by (order_at cs) new ≡ cond (bytes_eq bs cs) w (get_by (order_at cs) old)
changed bs old new w updates cs =
    ⊎_elim
    (λ same. subst (λ (l : List ℕ). get_by (order_at l) new ≡ w) ((bytes_eq-Decides bs cs).0 same) updates.1 ∙ sym (cond-true (bytes_eq bs cs) w (get_by (order_at cs) old) same))
    (λ differ. other_bytes old.entries new.entries bs cs differ updates.3 ∙ sym (cond-false (bytes_eq bs cs) w (get_by (order_at cs) old) differ))
    (cases_Bool (bytes_eq bs cs))

abbrev items_in : Option (Vec ℕ Global) → List ℕ
items_in o = option_map_or (λ v. v.items) o []

-- the places that were there, and none where there were none
had_or_none : (o : Option (Vec ℕ Global)) (none : Vec ℕ Global) → none.items ≡ [] → (unwrap_or o none).items ≡ items_in o
had_or_none None none empty = empty
had_or_none (Some v) none empty = refl

-- one place more, behind those that were read
pub one_noted : (bs read : List ℕ) (place : ℕ) (old mid new : NotedMap) (before : Option (Vec ℕ Global)) (none had places : Vec ℕ Global)
    → read ≡ bs → before ≡ get_by (order_at read) old → UpdatesBy key_order (order_at read) old mid None → none.items ≡ [] → had ≡ unwrap_or before none → places.items ≡ had.items ++ place ∷ [] → UpdatesBy key_order (order_at bs) mid new (Some places)
    → PutsPlace old new bs place
one_noted bs read place old mid new before none had places same found taken empty is more put cs =
    ap items_in (changed bs mid new (Some places) put cs ∙ ap (cond (bytes_eq bs cs) (Some places)) (changed read old mid None taken cs) ∙ ap (λ (l : List ℕ). cond (bytes_eq bs cs) (Some places) (cond (bytes_eq l cs) None (get_by (order_at cs) old))) same)
    ∙ go (bytes_eq bs cs) (λ here. whole ∙ ap (λ (l : List ℕ). noted_under l old ++ place ∷ []) ((bytes_eq-Decides bs cs).0 here))
  where
    whole : places.items ≡ noted_under bs old ++ place ∷ []
    whole = more ∙ ap (λ (l : List ℕ). l ++ place ∷ []) (ap (λ (v : Vec ℕ Global). v.items) is ∙ had_or_none before none empty ∙ ap items_in found ∙ ap (λ (l : List ℕ). noted_under l old) same)

    go : (b : Bool) → (b ≡ true → places.items ≡ noted_under cs old ++ place ∷ []) → items_in (cond b (Some places) (cond b None (get_by (order_at cs) old))) ≡ cond b (noted_under cs old ++ place ∷ []) (noted_under cs old)
    go true here = here refl
    go false here = refl

-- ---- the first item of a slot

has_same_bytes : (stream : ℕ) (slot : Slot) (p : StreamSlot) → is_slot_in stream slot p ≡ true → bytes_eq (slot_bytes p.stream p.slot) (slot_bytes stream slot) ≡ true
has_same_bytes stream slot p h =
    let both = and_parts (eqb p.stream stream) (same_slot p.slot slot) h in
    (bytes_eq-Decides (slot_bytes p.stream p.slot) (slot_bytes stream slot)).1 (ap (λ (s : ℕ). slot_bytes s p.slot) (eqb-true p.stream stream both.0) ∙ ap (slot_bytes stream) ((slots_decide p.slot slot).0 both.1))

module _ {X : Type 0} (at : X → StreamSlot) where
  abbrev has_bytes : List ℕ → X → Bool
  has_bytes bytes x = bytes_eq (slot_bytes (at x).stream (at x).slot) bytes

  -- an item more
  places_more : (bytes : List ℕ) (i n : ℕ) (xs : List X) (x : X) → i + length xs ≡ n → places_with at bytes i (xs ++ x ∷ []) ≡ cond (has_bytes bytes x) (places_with at bytes i xs ++ n ∷ []) (places_with at bytes i xs)
  places_more bytes i n [] x is = let same : i ≡ n = omega (arith, is) in ap (λ (k : ℕ). cond (has_bytes bytes x) (k ∷ []) []) same
  places_more bytes i n (y ∷ xs) x is = let next : i + 1 + length xs ≡ n = omega (arith, is) in go (has_bytes bytes y) (has_bytes bytes x) (places_more bytes (i + 1) n xs x next)
    where
      go : (b c : Bool) → places_with at bytes (i + 1) (xs ++ x ∷ []) ≡ cond c (places_with at bytes (i + 1) xs ++ n ∷ []) (places_with at bytes (i + 1) xs)
          → cond b (i ∷ places_with at bytes (i + 1) (xs ++ x ∷ [])) (places_with at bytes (i + 1) (xs ++ x ∷ [])) ≡ cond c (cond b (i ∷ places_with at bytes (i + 1) xs) (places_with at bytes (i + 1) xs) ++ n ∷ []) (cond b (i ∷ places_with at bytes (i + 1) xs) (places_with at bytes (i + 1) xs))
      go true true rest = ap (λ (l : List ℕ). i ∷ l) rest
      go true false rest = ap (λ (l : List ℕ). i ∷ l) rest
      go false true rest = rest
      go false false rest = rest

  pub are_noted_more : (xs : List X) (x : X) (bytes : List ℕ) (old new : NotedMap) → bytes ≡ slot_bytes (at x).stream (at x).slot → PutsPlace old new bytes (length xs) → AreNoted at old xs → AreNoted at new (xs ++ x ∷ [])
  are_noted_more xs x bytes old new is adds noted cs =
      let zero_on : 0 + length xs ≡ length xs = omega arith in
      adds cs ∙ ap (λ (b : List ℕ). cond (bytes_eq b cs) (noted_under cs old ++ length xs ∷ []) (noted_under cs old)) is
      ∙ ap (λ (l : List ℕ). cond (has_bytes cs x) (l ++ length xs ∷ []) l) (noted cs) ∙ sym (places_more cs 0 (length xs) xs x zero_on)

  -- what stands in the middle of a list
  in_middle : (before : List X) (x : X) (xs : List X) → slice_get (before ++ x ∷ xs) (length before) ≡ Some x
  in_middle [] x xs = refl
  in_middle (y ∷ before) x xs = in_middle before x xs

  items_at : (bytes : List ℕ) (before xs : List X) (i : ℕ) → i ≡ length before → at_places (before ++ xs) (places_with at bytes i xs) ≡ filter (has_bytes bytes) xs
  items_at bytes before [] i is = refl
  items_at bytes before (x ∷ xs) i is =
      let grown = length-append before (x ∷ []) in
      let next : i + 1 ≡ length (before ++ x ∷ []) = omega (arith, is, grown) in
      go (has_bytes bytes x) (ap (λ (l : List X). at_places l (places_with at bytes (i + 1) xs)) (sym (append_assoc before (x ∷ []) xs)) ∙ items_at bytes (before ++ x ∷ []) xs (i + 1) next)
    where
      here : slice_get (before ++ x ∷ xs) i ≡ Some x
      here = ap (slice_get (before ++ x ∷ xs)) is ∙ in_middle before x xs

      go : (b : Bool) → at_places (before ++ x ∷ xs) (places_with at bytes (i + 1) xs) ≡ filter (has_bytes bytes) xs
          → at_places (before ++ x ∷ xs) (cond b (i ∷ places_with at bytes (i + 1) xs) (places_with at bytes (i + 1) xs)) ≡ cond b (x ∷ filter (has_bytes bytes) xs) (filter (has_bytes bytes) xs)
      go true rest = ap (λ (o : Option X). any_then o (at_places (before ++ x ∷ xs) (places_with at bytes (i + 1) xs))) here ∙ ap (λ (l : List X). x ∷ l) rest
      go false rest = rest

  abbrev kept : ℕ → Slot → List X → List X
  kept stream slot xs = filter (has_bytes (slot_bytes stream slot)) xs

  first_kept : (stream : ℕ) (slot : Slot) (xs : List X) → first_in at stream slot (kept stream slot xs) ≡ first_in at stream slot xs
  first_kept stream slot [] = refl
  first_kept stream slot (x ∷ xs) = go (is_slot_in stream slot (at x)) refl (has_bytes (slot_bytes stream slot) x) refl (first_kept stream slot xs)
    where
      go : (b : Bool) → is_slot_in stream slot (at x) ≡ b → (c : Bool) → has_bytes (slot_bytes stream slot) x ≡ c → first_in at stream slot (kept stream slot xs) ≡ first_in at stream slot xs
          → first_in at stream slot (cond c (x ∷ kept stream slot xs) (kept stream slot xs)) ≡ cond b (Some x) (first_in at stream slot xs)
      go true is true has rest = ap (λ (b : Bool). cond b (Some x) (first_in at stream slot (kept stream slot xs))) is
      go true is false has rest = absurd (false≢true (sym has ∙ has_same_bytes stream slot (at x) is))
      go false is true has rest = ap (λ (b : Bool). cond b (Some x) (first_in at stream slot (kept stream slot xs))) is ∙ rest
      go false is false has rest = rest

  -- among the places that were noted is the first of all
  pub first_noted : (stream : ℕ) (slot : Slot) (m : NotedMap) (xs : List X) (bytes : List ℕ) → AreNoted at m xs → bytes ≡ slot_bytes stream slot → first_in at stream slot (at_places xs (noted_under bytes m)) ≡ first_in at stream slot xs
  first_noted stream slot m xs bytes noted is =
      ap (λ (l : List ℕ). first_in at stream slot (at_places xs l)) (noted bytes) ∙ ap (λ (b : List ℕ). first_in at stream slot (at_places xs (places_with at b 0 xs))) is
      ∙ ap (first_in at stream slot) (items_at (slot_bytes stream slot) [] xs 0 refl) ∙ first_kept stream slot xs

  -- ---- over the calls of a list

  pub one_more : (xs ys : List X) (x : X) (stream : ℕ) (slot : Slot) (bytes : List ℕ) (n : ℕ) (old new : NotedMap)
      → stream ≡ (at x).stream → slot ≡ (at x).slot → bytes ≡ slot_bytes stream slot → n ≡ length xs → PutsPlace old new bytes n → ys ≡ xs ++ x ∷ [] → AreNoted at old xs → AreNoted at new ys
  one_more xs ys x stream slot bytes n old new its_stream its_slot is last adds grown noted =
      subst (AreNoted at new) (sym grown)
      (are_noted_more xs x bytes old new (is ∙ ap (λ (s : ℕ). slot_bytes s slot) its_stream ∙ ap (slot_bytes (at x).stream) its_slot) (subst (λ (k : ℕ). PutsPlace old new bytes k) last adds) noted)

  pub found_first : (stream : ℕ) (slot : Slot) (m : NotedMap) (xs items whole : List X) (bytes read places : List ℕ) (found : Option X)
      → AreNoted at m xs → bytes ≡ slot_bytes stream slot → read ≡ bytes → places ≡ noted_under read m → items ≡ xs → xs ≡ whole → found ≡ first_in at stream slot (at_places items places) → found ≡ first_in at stream slot whole
  found_first stream slot m xs items whole bytes read places found noted is same under seen view first =
      first ∙ ap (λ (l : List X). first_in at stream slot (at_places l places)) seen ∙ ap (λ (l : List ℕ). first_in at stream slot (at_places xs l)) (under ∙ ap (λ (b : List ℕ). noted_under b m) same)
      ∙ first_noted stream slot m xs bytes noted is ∙ ap (first_in at stream slot) view
