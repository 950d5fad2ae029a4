-- A key is found among rising keys by a binary search.
use Rattle.std.proofs.Common.{◌≡◌, ◌+◌, ◌<◌, ◌≤◌, ℕ, zero, suc, Bool, true, false, cond, List, [], ◌∷◌, length, get_or, Result, Ok, Err, refl, sym, ap, ◌∙◌, arith, add-one}
use Rattle.std.specs.Prelude.{◌||◌}
use Rattle.std.specs.Result.{is_ok, IfErr, MatchResult}
use Rattle.std.specs.Str.{bytes_eq}
use Rattle.std.specs.declared.cmp.Ordering.{Ordering}
use Rattle.std.specs.declared.cmp.Ordering.TheVariants.{Less, Equal, Greater}
use Rattle.std.specs.Ordering.{nat_cmp, is_lt, is_eq}
use Rattle.std.specs.Cmp.Lexicographic.{slice_cmp}
use Rattle.std.specs.List.Sorted.{IsBinarySearchResult, IsSortedBy}
use Rattle.std.proofs.lemmas.Bool.{and_parts}
use Rattle.std.proofs.lemmas.Cmp.{nat_list_cmp_total}
use Rattle.std.proofs.lemmas.List.Sorted.{searchable_from_sorted}
use Rattle.std.proofs.lemmas.Map.Text.{is_eq-slice_cmp}
use Rattle.ct_base.specs.laws.Orders.{not_back}
use Rattle.tx_stop.specs.StopKeys.{is_stop, key_place, keys_rise}
use Rattle.tx_stop.specs.laws.RisingKeys.{lt}

abbrev cmp : List ℕ → List ℕ → Ordering
cmp k l = slice_cmp nat_cmp k l

-- ---- rising keys are sorted

in_order : (ks : List (List ℕ)) (i : ℕ) (d : List ℕ) → keys_rise ks ≡ true → i + 1 < length ks → lt (get_or ks (suc i) d) (get_or ks i d) ≡ false
in_order [] i d h within = absurd (omega (arith, within))
in_order (k ∷ []) i d h within = absurd (omega (arith, within))
in_order (k ∷ l ∷ ks) zero d h within =
    not_back (cmp k l) (cmp l k) (nat_list_cmp_total.antisymm l k) (and_parts (lt k l) (keys_rise (l ∷ ks)) h).0
in_order (k ∷ l ∷ ks) (suc i) d h within = in_order (l ∷ ks) i d (and_parts (lt k l) (keys_rise (l ∷ ks)) h).1 (omega (arith, within))

sorted_keys : (ks : List (List ℕ)) → keys_rise ks ≡ true → IsSortedBy (λ a b. lt a b) ks
sorted_keys ks h = λ i d low within. ap (λ n. lt (get_or ks n d) (get_or ks i d)) (add-one i) ∙ in_order ks i d h within

-- ---- where the key belongs

-- the first i are less than the key, the others greater
abbrev Parts : List (List ℕ) → List ℕ → ℕ → Type 0
Parts ks key i = ((k : ℕ) (d : List ℕ) → k < i → cmp (get_or ks k d) key ≡ Less) × ((k : ℕ) (d : List ℕ) → i ≤ k → k < length ks → cmp (get_or ks k d) key ≡ Greater)

less_other : (k key : List ℕ) → cmp k key ≡ Less → bytes_eq k key ≡ false
less_other k key e = sym (is_eq-slice_cmp k key) ∙ ap is_eq e

greater_other : (k key : List ℕ) → cmp k key ≡ Greater → bytes_eq k key ≡ false
greater_other k key e = sym (is_eq-slice_cmp k key) ∙ ap is_eq e

place_at : (ks : List (List ℕ)) (key : List ℕ) (i : ℕ) → i ≤ length ks → Parts ks key i → key_place key ks ≡ i
place_at [] key i within parts = omega (arith, within)
place_at (k ∷ ks) key zero within parts = ap (λ (b : Bool). cond b (key_place key ks + 1) 0) (ap is_lt (parts.1 0 k (omega arith) (omega arith)))
place_at (k ∷ ks) key (suc i) within parts =
    let rest = place_at ks key i (omega (arith, within)) ((λ j d h. parts.0 (suc j) d (omega (arith, h))), (λ j d h w. parts.1 (suc j) d (omega (arith, h)) (omega (arith, w)))) in
    ap (λ (b : Bool). cond b (key_place key ks + 1) 0) (ap is_lt (parts.0 0 k (omega arith))) ∙ (omega (arith, rest))

none_at : (ks : List (List ℕ)) (key : List ℕ) (i : ℕ) → i ≤ length ks → Parts ks key i → is_stop ks key ≡ false
none_at [] key i within parts = refl
none_at (k ∷ ks) key zero within parts =
    ap (λ (b : Bool). b || is_stop ks key) (greater_other k key (parts.1 0 k (omega arith) (omega arith)))
    ∙ none_at ks key zero (omega arith) ((λ j d h. absurd (omega (arith, h))), (λ j d h w. parts.1 (suc j) d (omega arith) (omega (arith, w))))
none_at (k ∷ ks) key (suc i) within parts =
    ap (λ (b : Bool). b || is_stop ks key) (less_other k key (parts.0 0 k (omega arith)))
    ∙ none_at ks key i (omega (arith, within)) ((λ j d h. parts.0 (suc j) d (omega (arith, h))), (λ j d h w. parts.1 (suc j) d (omega (arith, h)) (omega (arith, w))))

stop_at : (ks : List (List ℕ)) (key : List ℕ) (i : ℕ) → i < length ks → ((d : List ℕ) → cmp (get_or ks i d) key ≡ Equal) → is_stop ks key ≡ true
stop_at [] key i within same = absurd (omega (arith, within))
stop_at (k ∷ ks) key zero within same = ap (λ (b : Bool). b || is_stop ks key) (sym (is_eq-slice_cmp k key) ∙ ap is_eq (same k))
stop_at (k ∷ ks) key (suc i) within same = later (bytes_eq k key) (stop_at ks key i (omega (arith, within)) same)
  where
    later : (b : Bool) → is_stop ks key ≡ true → (b || is_stop ks key) ≡ true
    later true h = refl
    later false h = h

-- ---- what the search answers

pub record IsSearched (ks : List (List ℕ)) (key : List ℕ) (r : Result ℕ ℕ) : Type 0 where
  pub found : is_ok r ≡ is_stop ks key
  pub place : IfErr r (λ i. i ≡ key_place key ks)

pub searched_keys : (ks : List (List ℕ)) (key : List ℕ) (r : Result ℕ ℕ) → keys_rise ks ≡ true → MatchResult r (λ i. i < length ks) (λ i. i ≤ length ks)
    → IsBinarySearchResult (λ k. cmp k key) ks r → IsSearched ks key r
searched_keys ks key (Ok i) rise within is = record { found = sym (stop_at ks key i within is); place = tt }
searched_keys ks key (Err i) rise within is =
    let point = is (searchable_from_sorted nat_list_cmp_total (λ k. k) ks key (sorted_keys ks rise)) in
    let parts : Parts ks key i = ((λ k d h. point.0 k d (omega arith) h), (λ k d h w. point.1 k d h w)) in
    record { found = sym (none_at ks key i within parts); place = sym (place_at ks key i within parts) }
