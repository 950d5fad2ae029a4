-- What edits make of keys and places: the order, what is there, and edits of two parts.
use Rattle.std.proofs.Common.{◌≡◌, ◌≢◌, ◌⊎◌, inl, inr, ⊎_elim, ℕ, Bool, true, false, List, [], ◌∷◌, ◌++◌, Option, Some, None, cond, refl, sym, ap, subst, ◌∙◌, append_assoc, append-nil}
use Rattle.std.specs.Prelude.{filter}
use Rattle.std.specs.List.{Contains}
use Rattle.std.specs.Ordering.{nat_cmp, is_lt, ordering_reverse}
use Rattle.std.specs.Cmp.Lexicographic.{slice_cmp}
use Rattle.std.specs.declared.cmp.Ordering.{Ordering}
use Rattle.std.specs.declared.cmp.Ordering.TheVariants.{Less, Equal, Greater}
use Rattle.std.proofs.lemmas.Cmp.{nat_list_cmp_total, tied_itself}
use Rattle.std.proofs.lemmas.List.Elements.{filter-append, Contains-append_left, Contains-append_right, Contains-append_cases}
use Rattle.std.proofs.lemmas.Map.Lookups.{exact_bytes}
use Rattle.ct_base.specs.laws.Orders.{less_from_test, not_back}
use Rattle.pg_map.specs.Kinds.{Each}
use Rattle.pg_map.specs.laws.Holding.{each-append}
use Rattle.pg_directory.specs.declared.entries.EntryAt.{EntryAt}
use Rattle.pg_directory.specs.laws.Listing.{none_in, in_more, first_in, later_in, each_in}
use Rattle.pg_directory.specs.Placing.{KeyedPlace}
use Rattle.pg_directory.specs.Trees.{IsBelow, IsAtMost}
use Rattle.pg_leaves.specs.Editing.{KeyEdit, Rising, pairs_below, pairs_above, pair_of, edited, IsUnedited, AreKeysApart}

-- ---- keys

pub below_trans : (a b c : List ℕ) → IsBelow a b → IsBelow b c → IsBelow a c
below_trans a b c first second = nat_list_cmp_total.trans a b c first second

pub is_below : (a b : List ℕ) → IsBelow a b → is_lt (slice_cmp nat_cmp a b) ≡ true
is_below a b less = ap is_lt less

pub not_below : (a b : List ℕ) → IsBelow a b → is_lt (slice_cmp nat_cmp b a) ≡ false
not_below a b less = not_back (slice_cmp nat_cmp a b) (slice_cmp nat_cmp b a) (nat_list_cmp_total.antisymm b a) (ap is_lt less)

pub not_itself : (a : List ℕ) → IsBelow a a → ⊥
not_itself a less = let both : Less ≡ Equal = sym less ∙ tied_itself nat_list_cmp_total a in cc

pub below_differ : (a b : List ℕ) → IsBelow a b → a ≢ b
below_differ a b less is = not_itself a (subst (IsBelow a) (sym is) less)

-- one is below the other, or they are the same
pub cases_key : (a b : List ℕ) → IsBelow a b ⊎ ((a ≡ b) ⊎ IsBelow b a)
cases_key a b = of (slice_cmp nat_cmp a b) refl
  where
    of : (o : Ordering) → slice_cmp nat_cmp a b ≡ o → IsBelow a b ⊎ ((a ≡ b) ⊎ IsBelow b a)
    of Less is = inl is
    of Equal is = inr (inl (exact_bytes a b is))
    of Greater is = inr (inr (turned (slice_cmp nat_cmp b a) refl))
      where
        turned : (o : Ordering) → slice_cmp nat_cmp b a ≡ o → IsBelow b a
        turned Less back = back
        turned Equal back = absurd (clash (exact_bytes b a back))
          where
            clash : b ≡ a → ⊥
            clash same = let both : Greater ≡ Equal = sym is ∙ ap (λ (k : List ℕ). slice_cmp nat_cmp k b) (sym same) ∙ tied_itself nat_list_cmp_total b in cc
        turned Greater back = let both : Greater ≡ Less = sym is ∙ nat_list_cmp_total.antisymm a b ∙ ap ordering_reverse back in cc

-- what is below another, of which a third is above or the same
pub below_at_most : (a b c : List ℕ) → IsBelow a b → IsAtMost b c → IsBelow a c
below_at_most a b c less most = ⊎_elim
    (λ under. below_trans a b c less under)
    (λ rest. ⊎_elim (λ is. subst (IsBelow a) is less) (λ over. absurd (most over)) rest)
    (cases_key b c)

-- ---- elements

pub each_weaker : {X : Type 0} (P Q : X → Type 0) (xs : List X) → ((x : X) → P x → Q x) → Each P xs → Each Q xs
each_weaker P Q [] weaker each = tt
each_weaker P Q (x ∷ xs) weaker each = (weaker x each.0, each_weaker P Q xs weaker each.1)

module _ {X : Type 0} (p : X → Bool) where
  pub all_kept : (xs : List X) → Each (λ x. p x ≡ true) xs → filter p xs ≡ xs
  all_kept [] all = refl
  all_kept (x ∷ xs) all = rw all.0 (ap (λ (l : List X). x ∷ l) (all_kept xs all.1))

  pub none_kept : (xs : List X) → Each (λ x. p x ≡ false) xs → filter p xs ≡ []
  none_kept [] none = refl
  none_kept (x ∷ xs) none = rw none.0 (none_kept xs none.1)

  pub each_kept : (P : X → Type 0) (xs : List X) → Each P xs → Each P (filter p xs)
  each_kept P [] each = tt
  each_kept P (x ∷ xs) each = elim (p x) as (λ (b : Bool). Each P (cond b (x ∷ filter p xs) (filter p xs))) [ true ↦ (each.0, each_kept P xs each.1) | false ↦ each_kept P xs each.1 ]

  pub each_passes : (xs : List X) → Each (λ x. p x ≡ true) (filter p xs)
  each_passes [] = tt
  each_passes (x ∷ xs) = of (p x) refl (each_passes xs)
    where
      of : (b : Bool) → p x ≡ b → Each (λ y. p y ≡ true) (filter p xs) → Each (λ y. p y ≡ true) (cond b (x ∷ filter p xs) (filter p xs))
      of true is rest = (is, rest)
      of false is rest = rest

  pub kept_in : (xs : List X) (x : X) → p x ≡ true → Contains xs x → Contains (filter p xs) x
  kept_in [] x pass has = has
  kept_in (y ∷ ys) x pass has = of (p y) refl (in_more y x ys has) (kept_in ys x pass)
    where
      of : (b : Bool) → p y ≡ b → (y ≡ x) ⊎ Contains ys x → (Contains ys x → Contains (filter p ys) x) → Contains (cond b (y ∷ filter p ys) (filter p ys)) x
      of true is (inl same) rest = subst (Contains (y ∷ filter p ys)) same (first_in y (filter p ys))
      of true is (inr more) rest = later_in y x (filter p ys) (rest more)
      of false is (inl same) rest = let both : true ≡ false = sym pass ∙ ap p (sym same) ∙ is in cc
      of false is (inr more) rest = rest more

  pub in_kept : (xs : List X) (x : X) → Contains (filter p xs) x → Contains xs x
  in_kept [] x has = has
  in_kept (y ∷ ys) x has = of (p y) has (in_kept ys x)
    where
      of : (b : Bool) → Contains (cond b (y ∷ filter p ys) (filter p ys)) x → (Contains (filter p ys) x → Contains ys x) → Contains (y ∷ ys) x
      of true has rest = ⊎_elim (λ is. subst (Contains (y ∷ ys)) is (first_in y ys)) (λ more. later_in y x ys (rest more)) (in_more y x (filter p ys) has)
      of false has rest = later_in y x ys (rest has)

-- ---- the pairs below a key, and those above it

pub low_pairs : (k : List ℕ) (ps : List KeyedPlace) → Each (λ (p : KeyedPlace). IsBelow p.0 k) (pairs_below k ps)
low_pairs k ps = each_weaker _ (λ (p : KeyedPlace). IsBelow p.0 k) (pairs_below k ps) (λ p pass. less_from_test (slice_cmp nat_cmp p.0 k) pass) (each_passes (λ (p : KeyedPlace). is_lt (slice_cmp nat_cmp p.0 k)) ps)

pub high_pairs : (k : List ℕ) (ps : List KeyedPlace) → Each (λ (p : KeyedPlace). IsBelow k p.0) (pairs_above k ps)
high_pairs k ps = each_weaker _ (λ (p : KeyedPlace). IsBelow k p.0) (pairs_above k ps) (λ p pass. less_from_test (slice_cmp nat_cmp k p.0) pass) (each_passes (λ (p : KeyedPlace). is_lt (slice_cmp nat_cmp k p.0)) ps)

module _ (k : List ℕ) (ps : List KeyedPlace) where
  -- where all are below a key
  pub all_low : Each (λ (p : KeyedPlace). IsBelow p.0 k) ps → pairs_below k ps ≡ ps
  all_low low = all_kept (λ (p : KeyedPlace). is_lt (slice_cmp nat_cmp p.0 k)) ps (each_weaker (λ (p : KeyedPlace). IsBelow p.0 k) _ ps (λ p less. is_below p.0 k less) low)

  pub none_high : Each (λ (p : KeyedPlace). IsBelow p.0 k) ps → pairs_above k ps ≡ []
  none_high low = none_kept (λ (p : KeyedPlace). is_lt (slice_cmp nat_cmp k p.0)) ps (each_weaker (λ (p : KeyedPlace). IsBelow p.0 k) _ ps (λ p less. not_below p.0 k less) low)

  -- where all are above it
  pub all_high : Each (λ (p : KeyedPlace). IsBelow k p.0) ps → pairs_above k ps ≡ ps
  all_high high = all_kept (λ (p : KeyedPlace). is_lt (slice_cmp nat_cmp k p.0)) ps (each_weaker (λ (p : KeyedPlace). IsBelow k p.0) _ ps (λ p less. is_below k p.0 less) high)

  pub none_low : Each (λ (p : KeyedPlace). IsBelow k p.0) ps → pairs_below k ps ≡ []
  none_low high = none_kept (λ (p : KeyedPlace). is_lt (slice_cmp nat_cmp p.0 k)) ps (each_weaker (λ (p : KeyedPlace). IsBelow k p.0) _ ps (λ p less. not_below k p.0 less) high)

pub below-append : (k : List ℕ) (ps qs : List KeyedPlace) → pairs_below k (ps ++ qs) ≡ pairs_below k ps ++ pairs_below k qs
below-append k ps qs = filter-append (λ (p : KeyedPlace). is_lt (slice_cmp nat_cmp p.0 k)) ps qs

pub above-append : (k : List ℕ) (ps qs : List KeyedPlace) → pairs_above k (ps ++ qs) ≡ pairs_above k ps ++ pairs_above k qs
above-append k ps qs = filter-append (λ (p : KeyedPlace). is_lt (slice_cmp nat_cmp k p.0)) ps qs

-- ---- the order

pub rising-append : {X : Type 0} (ps qs : List (List ℕ × X)) → Rising ps → Rising qs → AreKeysApart ps qs → Rising (ps ++ qs)
rising-append [] qs first second apart = second
rising-append (p ∷ ps) qs first second apart = (each-append (λ q. IsBelow p.0 q.0) ps qs first.0 apart.0, rising-append ps qs first.1 second apart.1)

pub rising_kept : {X : Type 0} (test : List ℕ × X → Bool) (ps : List (List ℕ × X)) → Rising ps → Rising (filter test ps)
rising_kept test [] rise = tt
rising_kept test (p ∷ ps) rise = elim (test p) as (λ (b : Bool). Rising (cond b (p ∷ filter test ps) (filter test ps))) [
  | true ↦ (each_kept test (λ q. IsBelow p.0 q.0) ps rise.0, rising_kept test ps rise.1)
  | false ↦ rising_kept test ps rise.1
]

placed_above : (k l : List ℕ) (place : Option EntryAt) → IsBelow k l → Each (λ (p : KeyedPlace). IsBelow k p.0) (pair_of l place)
placed_above k l None less = tt
placed_above k l (Some e) less = (less, tt)

-- where all keys are above one, those of the pairs after the edits are
pub edited_above : (k : List ℕ) (ps : List KeyedPlace) (us : List KeyEdit) → Each (λ (p : KeyedPlace). IsBelow k p.0) ps → Each (λ (u : KeyEdit). IsBelow k u.0) us
    → Each (λ (p : KeyedPlace). IsBelow k p.0) (edited ps us)
edited_above k ps [] old new = old
edited_above k ps (u ∷ us) old new =
    let P : KeyedPlace → Type 0 = λ p. IsBelow k p.0 in
    each-append P (pairs_below u.0 ps) (pair_of u.0 u.1 ++ edited (pairs_above u.0 ps) us) (each_kept (λ (p : KeyedPlace). is_lt (slice_cmp nat_cmp p.0 u.0)) P ps old)
    (each-append P (pair_of u.0 u.1) (edited (pairs_above u.0 ps) us) (placed_above k u.0 u.1 new.0)
    (edited_above k (pairs_above u.0 ps) us (each_kept (λ (p : KeyedPlace). is_lt (slice_cmp nat_cmp u.0 p.0)) P ps old) new.1))

placed_first : (k : List ℕ) (place : Option EntryAt) (ps : List KeyedPlace) → Each (λ (p : KeyedPlace). IsBelow k p.0) ps → Rising ps → Rising (pair_of k place ++ ps)
placed_first k None ps high rise = rise
placed_first k (Some e) ps high rise = (high, rise)

low_apart : (k : List ℕ) (place : Option EntryAt) (p : KeyedPlace) (qs : List KeyedPlace) → IsBelow p.0 k → Each (λ (q : KeyedPlace). IsBelow k q.0) qs
    → Each (λ (q : KeyedPlace). IsBelow p.0 q.0) (pair_of k place ++ qs)
low_apart k place p qs less high =
    let P : KeyedPlace → Type 0 = λ q. IsBelow p.0 q.0 in
    each-append P (pair_of k place) qs (placed_above p.0 k place less) (each_weaker (λ (q : KeyedPlace). IsBelow k q.0) P qs (λ q over. below_trans p.0 k q.0 less over) high)

-- The keys after edits rise.
pub edited_rise : (ps : List KeyedPlace) (us : List KeyEdit) → Rising ps → Rising us → Rising (edited ps us)
edited_rise ps [] old new = old
edited_rise ps (u ∷ us) old new =
    let high = edited_above u.0 (pairs_above u.0 ps) us (high_pairs u.0 ps) new.0 in
    let rest = edited_rise (pairs_above u.0 ps) us (rising_kept (λ (p : KeyedPlace). is_lt (slice_cmp nat_cmp u.0 p.0)) ps old) new.1 in
    let behind : List KeyedPlace = pair_of u.0 u.1 ++ edited (pairs_above u.0 ps) us in
    rising-append (pairs_below u.0 ps) behind (rising_kept (λ (p : KeyedPlace). is_lt (slice_cmp nat_cmp p.0 u.0)) ps old) (placed_first u.0 u.1 _ high rest)
    (each_weaker (λ (p : KeyedPlace). IsBelow p.0 u.0) (λ p. Each (λ (q : KeyedPlace). IsBelow p.0 q.0) behind) (pairs_below u.0 ps) (λ p less. low_apart u.0 u.1 p _ less high) (low_pairs u.0 ps))

-- ---- which pairs there are

in_placed : (k : List ℕ) (place : Option EntryAt) (p : KeyedPlace) → Contains (pair_of k place) p → ◌≡◌ {A = KeyEdit} (k, place) (p.0, Some p.1)
in_placed k None p has = absurd (none_in p has)
in_placed k (Some e) p has = ⊎_elim (λ is. ap (λ (q : KeyedPlace). (q.0, Some q.1)) is) (λ none. absurd (none_in p none)) (in_more (k, e) p [] has)

placed_in : (k : List ℕ) (place : Option EntryAt) (e : EntryAt) → place ≡ Some e → Contains (pair_of k place) (k, e)
placed_in k place e is = subst (λ (o : Option EntryAt). Contains (pair_of k o) (k, e)) (sym is) (first_in (k, e) [])

-- A key that comes before all edits is none of theirs.
unedited_below : (k : List ℕ) (us : List KeyEdit) → Each (λ (u : KeyEdit). IsBelow k u.0) us → IsUnedited us k
unedited_below k us low = λ u has is. below_differ k u.0 (each_in (λ (u : KeyEdit). IsBelow k u.0) us u low has) (sym is)

unedited_more : (k : List ℕ) (u : KeyEdit) (us : List KeyEdit) → u.0 ≢ k → IsUnedited us k → IsUnedited (u ∷ us) k
unedited_more k u us other rest = λ v has is. ⊎_elim (λ same. other (ap (λ (w : KeyEdit). w.0) same ∙ is)) (λ more. rest v more is) (in_more u v us has)

-- A pair after the edits is that of an edit, or one of the old ones whose key no edit has.
pub in_edited : (ps : List KeyedPlace) (us : List KeyEdit) (p : KeyedPlace) → Rising us → Contains (edited ps us) p → Contains us (p.0, Some p.1) ⊎ (Contains ps p × IsUnedited us p.0)
in_edited ps [] p rise has = inr (has, λ u none. absurd (none_in u none))
in_edited ps (u ∷ us) p rise has = ⊎_elim
    (λ low.
    let less = each_in (λ (q : KeyedPlace). IsBelow q.0 u.0) (pairs_below u.0 ps) p (low_pairs u.0 ps) low in
    let over_all = each_weaker (λ (v : KeyEdit). IsBelow u.0 v.0) (λ (v : KeyEdit). IsBelow p.0 v.0) us (λ v over. below_trans p.0 u.0 v.0 less over) rise.0 in
    inr (in_kept (λ (q : KeyedPlace). is_lt (slice_cmp nat_cmp q.0 u.0)) ps p low, unedited_below p.0 (u ∷ us) (less, over_all)))
    (λ rest. ⊎_elim
    (λ own. inl (subst (Contains (u ∷ us)) (in_placed u.0 u.1 p own) (first_in u us)))
    (λ more. ⊎_elim
    (λ new. inl (later_in u (p.0, Some p.1) us new))
    (λ (old, none). inr (
      in_kept (λ (q : KeyedPlace). is_lt (slice_cmp nat_cmp u.0 q.0)) ps p old,
      unedited_more p.0 u us (below_differ u.0 p.0 (each_in (λ (q : KeyedPlace). IsBelow u.0 q.0) (pairs_above u.0 ps) p (high_pairs u.0 ps) old)) none,
    ))
    (in_edited (pairs_above u.0 ps) us p rise.1 more))
    (Contains-append_cases (pair_of u.0 u.1) (edited (pairs_above u.0 ps) us) p rest))
    (Contains-append_cases (pairs_below u.0 ps) (pair_of u.0 u.1 ++ edited (pairs_above u.0 ps) us) p has)

-- Each edit with a place is there,
pub put_there : (ps : List KeyedPlace) (us : List KeyEdit) (k : List ℕ) (e : EntryAt) → Contains us (k, Some e) → Contains (edited ps us) (k, e)
put_there ps [] k e has = absurd (none_in {X = KeyEdit} (k, Some e) has)
put_there ps (u ∷ us) k e has =
    Contains-append_right (pairs_below u.0 ps) (pair_of u.0 u.1 ++ edited (pairs_above u.0 ps) us) (k, e) (⊎_elim
    (λ is.
    let own = placed_in u.0 u.1 e (ap (λ (v : KeyEdit). v.1) is) in
    Contains-append_left (pair_of u.0 u.1) (edited (pairs_above u.0 ps) us) (k, e) (subst (λ (l : List ℕ). Contains (pair_of u.0 u.1) (l, e)) (ap (λ (v : KeyEdit). v.0) is) own))
    (λ more. Contains-append_right (pair_of u.0 u.1) (edited (pairs_above u.0 ps) us) (k, e) (put_there (pairs_above u.0 ps) us k e more))
    (in_more {X = KeyEdit} u (k, Some e) us has))

-- and each old pair whose key no edit has.
pub kept_there : (ps : List KeyedPlace) (us : List KeyEdit) (p : KeyedPlace) → Contains ps p → IsUnedited us p.0 → Contains (edited ps us) p
kept_there ps [] p has none = has
kept_there ps (u ∷ us) p has none = ⊎_elim
    (λ less. Contains-append_left (pairs_below u.0 ps) (pair_of u.0 u.1 ++ edited (pairs_above u.0 ps) us) p (kept_in (λ (q : KeyedPlace). is_lt (slice_cmp nat_cmp q.0 u.0)) ps p (is_below p.0 u.0 less) has))
    (λ rest. ⊎_elim
    (λ is. absurd (none u (first_in u us) (sym is)))
    (λ over.
    Contains-append_right (pairs_below u.0 ps) (pair_of u.0 u.1 ++ edited (pairs_above u.0 ps) us) p
    (Contains-append_right (pair_of u.0 u.1) (edited (pairs_above u.0 ps) us) p
    (kept_there (pairs_above u.0 ps) us p (kept_in (λ (q : KeyedPlace). is_lt (slice_cmp nat_cmp u.0 q.0)) ps p (is_below u.0 p.0 over) has) (λ v more. none v (later_in u v us more)))))
    rest)
    (cases_key p.0 u.0)

-- ---- edits of two parts

-- Pairs that come before all edits stay.
pub no_edit_first : (ps qs : List KeyedPlace) (us : List KeyEdit) → AreKeysApart ps us → edited (ps ++ qs) us ≡ ps ++ edited qs us
no_edit_first ps qs [] apart = refl
no_edit_first ps qs (u ∷ us) apart =
    let low : Each (λ (p : KeyedPlace). IsBelow p.0 u.0) ps = each_weaker (λ (p : KeyedPlace). Each (λ (v : KeyEdit). IsBelow p.0 v.0) (u ∷ us)) (λ (p : KeyedPlace). IsBelow p.0 u.0) ps (λ p each. each.0) apart in
    let first : pairs_below u.0 (ps ++ qs) ≡ ps ++ pairs_below u.0 qs = below-append u.0 ps qs ∙ ap (λ (l : List KeyedPlace). l ++ pairs_below u.0 qs) (all_low u.0 ps low) in
    let second : pairs_above u.0 (ps ++ qs) ≡ pairs_above u.0 qs = above-append u.0 ps qs ∙ ap (λ (l : List KeyedPlace). l ++ pairs_above u.0 qs) (none_high u.0 ps low) in
    ap (λ (l : List KeyedPlace). l ++ (pair_of u.0 u.1 ++ edited (pairs_above u.0 (ps ++ qs)) us)) first
    ∙ ap (λ (l : List KeyedPlace). (ps ++ pairs_below u.0 qs) ++ (pair_of u.0 u.1 ++ edited l us)) second
    ∙ append_assoc ps (pairs_below u.0 qs) (pair_of u.0 u.1 ++ edited (pairs_above u.0 qs) us)

-- Where the keys of the first pairs are below those of the second edits, and those of the first edits below those of the second pairs, each part
-- is edited by itself.
pub edited-append : (ps qs : List KeyedPlace) (us vs : List KeyEdit) → AreKeysApart ps vs → AreKeysApart us qs → edited (ps ++ qs) (us ++ vs) ≡ edited ps us ++ edited qs vs
edited-append ps qs [] vs old new = no_edit_first ps qs vs old
edited-append ps qs (u ∷ us) vs old new =
    let low = pairs_below u.0 ps in
    let high = pairs_above u.0 ps in
    let first : pairs_below u.0 (ps ++ qs) ≡ low = below-append u.0 ps qs ∙ ap (λ (l : List KeyedPlace). low ++ l) (none_low u.0 qs new.0) ∙ append-nil low in
    let second : pairs_above u.0 (ps ++ qs) ≡ high ++ qs = above-append u.0 ps qs ∙ ap (λ (l : List KeyedPlace). high ++ l) (all_high u.0 qs new.0) in
    let rest = edited-append high qs us vs (each_kept (λ (p : KeyedPlace). is_lt (slice_cmp nat_cmp u.0 p.0)) (λ p. Each (λ (v : KeyEdit). IsBelow p.0 v.0) vs) ps old) new.1 in
    ap (λ (l : List KeyedPlace). l ++ (pair_of u.0 u.1 ++ edited (pairs_above u.0 (ps ++ qs)) (us ++ vs))) first
    ∙ ap (λ (l : List KeyedPlace). low ++ (pair_of u.0 u.1 ++ edited l (us ++ vs))) second
    ∙ ap (λ (l : List KeyedPlace). low ++ (pair_of u.0 u.1 ++ l)) rest
    ∙ ap (λ (l : List KeyedPlace). low ++ l) (sym (append_assoc (pair_of u.0 u.1) (edited high us) (edited qs vs)))
    ∙ sym (append_assoc low (pair_of u.0 u.1 ++ edited high us) (edited qs vs))
