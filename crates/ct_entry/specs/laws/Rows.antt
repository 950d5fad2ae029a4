-- What row keys a scan finds, and which keys of a map have a value.
use Rattle.std.proofs.Common.{◌≡◌, ℕ, ℤ, pos, negsuc, ◌+◌, ◌-◌, ◌^◌, ◌<◌, Bool, true, false, cond, List, [], ◌∷◌, length, map, Option, Some, None, refl, sym, ap, ◌∙◌, arith}
use Rattle.std.specs.Prelude.{◌&&◌, is_some, nat_lt, filter}
use Rattle.std.specs.Option.{option_map, option_and_then}
use Rattle.std.specs.List.{list_any, cons_option}
use Rattle.std.specs.declared.cmp.Ordering.{Ordering}
use Rattle.std.specs.Ordering.{nat_cmp, int_cmp, is_lt, eq_by_cmp}
use Rattle.std.specs.Cmp.Lexicographic.{slice_cmp}
use Rattle.std.specs.Cmp.{IsTotalOrder}
use Rattle.std.proofs.lemmas.Bool.Decides.{nat_tests}
use Rattle.std.proofs.lemmas.Int.{ints}
use Rattle.std.proofs.lemmas.Nat.{from_be_bytes-to_be_bytes_8}
use Rattle.std.proofs.lemmas.Cmp.{int_cmp_total}
use Rattle.std.specs.FinMap.{FinMap, get, entries, find, get-entries}
use Rattle.ct_bytes.specs.RowKeys.{sign_turned, row_bytes}
use Rattle.ct_bytes.specs.laws.RowKeys.{length-row_bytes, row_bytes_in_order}
use Rattle.ct_keep.specs.Content.{Content, first_entry}
use Rattle.ct_keep.specs.laws.Tail.{entries_above-tail_nil}
use Rattle.ct_entry.specs.declared.kinds.Kind.{Kind}
use Rattle.ct_entry.specs.Keys.{key, at, prefix_of, HasKeysOnly, row_part, IsRow}
use Rattle.std.proofs.lemmas.Bool.{and_parts, and_from}
use Rattle.ct_keep.specs.laws.RisingKeys.{below, rises, entries_rise}
use Rattle.ct_base.specs.laws.Orders.{no_tie}
use Rattle.ct_keep.specs.laws.FoundKeys.{none_below, below_tied, AllKeys, all_keys}
use Rattle.ct_entry.specs.Listings.{entries_where, keys_where, sign_turned_back, row_of, rows_of, rows_under, first_of, rows_above, row_after}
use Rattle.ct_entry.specs.laws.Listings.{Spells, HasPartsOnly, family_listed}

abbrev listed_at : {K : Type 0} → (K → List ℕ) → K → Option (List ℕ) → List (List ℕ × List ℕ) → List (List ℕ × List ℕ)
listed_at part k o rest = cons_option (option_map (λ v. (part k, v)) o) rest

abbrev kept_at : {K : Type 0} → K → Option (List ℕ) → List K → List K
kept_at k o rest = cons_option (option_map (λ _. k) o) rest

-- ---- orders

row_some : (r : ℤ) → row_part r ≡ [] → ⊥
row_some r e = let l : length (row_part r) ≡ 0 = ap length e in let eight = length-row_bytes r in omega arith

-- the bytes of row keys are in the order of the numbers
pub row_spells : Spells int_cmp row_part IsRow
row_spells = record { total = int_cmp_total; order = row_bytes_in_order; some = row_some }

-- ---- row keys

sign_turned_back-turned : (z : ℤ) → IsRow z → sign_turned_back (sign_turned z) ≡ z
sign_turned_back-turned (pos n) fits = let e : nat_lt (n + 2 ^ 63) (2 ^ 63) ≡ false = grind (arith, nat_tests) in rw e (ap pos (omega arith))
sign_turned_back-turned (negsuc n) fits = let e : nat_lt (2 ^ 63 - 1 - n) (2 ^ 63) ≡ true = grind (arith, nat_tests) in rw e (ap negsuc (omega (arith, ints)))

raised_fits : (z : ℤ) → IsRow z → sign_turned z < 2 ^ 64
raised_fits (pos n) fits = omega arith
raised_fits (negsuc n) fits = omega arith

-- the row key is read back
pub row_of-row_part : (z : ℤ) → IsRow z → row_of (row_part z) ≡ Some z
unfolding row_bytes
row_of-row_part z fits = ap (λ (n : ℕ). Some (sign_turned_back n)) (from_be_bytes-to_be_bytes_8 (sign_turned z) (raised_fits z fits)) ∙ ap Some (sign_turned_back-turned z fits)

-- the row keys that a scan finds are those that have a value
pub rows_of-entries_where : {X : Type 0} (g : X → Option (List ℕ)) (es : List (ℤ × X)) → AllKeys int_cmp IsRow es → rows_of (entries_where row_part g es) ≡ keys_where g es
rows_of-entries_where g [] all = refl
rows_of-entries_where g (e ∷ es) all = at_head (g e.1) (rows_of-entries_where g es all.1)
  where
    at_head : (o : Option (List ℕ)) → rows_of (entries_where row_part g es) ≡ keys_where g es → rows_of (listed_at row_part e.0 o (entries_where row_part g es)) ≡ kept_at e.0 o (keys_where g es)
    at_head None rest = rest
    at_head (Some v) rest = ap (λ (o : Option ℤ). cons_option o (rows_of (entries_where row_part g es))) (row_of-row_part e.0 all.0) ∙ ap (λ (rs : List ℤ). e.0 ∷ rs) rest

-- At a kind whose keys end in a row key: where an owner's entries are what a map of rows has, they have the map's row keys, in its order.
pub rows_listed : {X : Type 0} (g : X → Option (List ℕ)) (c : Content) (kind : Kind) (owner : List ℕ) (G : FinMap int_cmp X)
    → HasKeysOnly c → HasPartsOnly row_part IsRow kind → ((r : ℤ) (x : X) → get G r ≡ Some x → IsRow r) → ((r : ℤ) → IsRow r → at c (key kind owner (row_part r)) ≡ option_and_then g (get G r))
    → rows_under kind owner c ≡ keys_where g (entries G)
rows_listed g c kind owner G only form has each =
    ap rows_of (family_listed int_cmp row_part IsRow row_spells g c kind owner G only form has each)
    ∙ rows_of-entries_where g (entries G) (all_keys int_cmp int_cmp_total IsRow G has)

-- ---- the keys of a map that have a value

module _ {K X : Type 0} (R : K → K → Ordering) (total : IsTotalOrder R) (g : X → Option (List ℕ)) where
  has_listed : (k : K) (es : List (K × X)) → rises R es ≡ true → list_any (eq_by_cmp R k) (keys_where g es) ≡ is_some (option_and_then g (find R k es))
  has_listed k [] h = refl
  has_listed k (e ∷ es) h =
      let b = and_parts (below R e.0 es) (rises R es) h in
      at_head (eq_by_cmp R k e.0) refl (g e.1) refl b.0 (has_listed k es b.1)
    where
      at_head : (t : Bool) → eq_by_cmp R k e.0 ≡ t → (o : Option (List ℕ)) → g e.1 ≡ o → below R e.0 es ≡ true → list_any (eq_by_cmp R k) (keys_where g es) ≡ is_some (option_and_then g (find R k es))
          → list_any (eq_by_cmp R k) (kept_at e.0 (g e.1) (keys_where g es)) ≡ is_some (option_and_then g (cond (eq_by_cmp R k e.0) (Some e.1) (find R k es)))
      at_head true t (Some v) is low rest = rw (is, t, is) refl
      at_head true t None is low rest = rw (is, t, is) (rest ∙ ap (λ (o : Option X). is_some (option_and_then g o)) (none_below R k es (below_tied R total k e.0 es t low)))
      at_head false t (Some v) is low rest = rw (is, t) rest
      at_head false t None is low rest = rw (is, t) rest

  -- a key is listed exactly where the map has a value for it
  pub has_key : (G : FinMap R X) (k : K) → list_any (eq_by_cmp R k) (keys_where g (entries G)) ≡ is_some (option_and_then g (get G k))
  has_key G k = has_listed k (entries G) (entries_rise R G) ∙ ap (λ (o : Option X). is_some (option_and_then g o)) (sym (get-entries G k))

-- where each has a value, all keys are listed
pub keys_always : {K X : Type 0} (f : X → List ℕ) (es : List (K × X)) → keys_where (λ x. Some (f x)) es ≡ map (λ e. e.0) es
keys_always f [] = refl
keys_always f (e ∷ es) = ap (λ l. e.0 ∷ l) (keys_always f es)

-- ---- the next row key

first_listed : {X : Type 0} (g : X → Option (List ℕ)) (es : List (ℤ × X)) → AllKeys int_cmp IsRow es → option_and_then (λ e. row_of e.0) (first_entry (entries_where row_part g es)) ≡ first_of (keys_where g es)
first_listed g [] all = refl
first_listed g (e ∷ es) all = at_head (g e.1) (first_listed g es all.1)
  where
    at_head : (o : Option (List ℕ)) → option_and_then (λ e. row_of e.0) (first_entry (entries_where row_part g es)) ≡ first_of (keys_where g es) → option_and_then (λ e. row_of e.0) (first_entry (listed_at row_part e.0 o (entries_where row_part g es))) ≡ first_of (kept_at e.0 o (keys_where g es))
    at_head None rest = rest
    at_head (Some v) rest = row_of-row_part e.0 all.0

next_listed : {X : Type 0} (g : X → Option (List ℕ)) (r : ℤ) → IsRow r → (es : List (ℤ × X)) → AllKeys int_cmp IsRow es
    → option_and_then (λ e. row_of e.0) (first_entry (filter (λ e. is_lt (slice_cmp nat_cmp (row_part r) e.0)) (entries_where row_part g es))) ≡ first_of (filter (λ s. is_lt (int_cmp r s)) (keys_where g es))
next_listed g r fits [] all = refl
next_listed g r fits (e ∷ es) all = at_head (g e.1) (is_lt (int_cmp r e.0)) refl (next_listed g r fits es all.1)
  where
    in_order : slice_cmp nat_cmp (row_part r) (row_part e.0) ≡ int_cmp r e.0
    in_order = row_bytes_in_order r e.0 fits all.0

    at_head : (o : Option (List ℕ)) (b : Bool) → is_lt (int_cmp r e.0) ≡ b → option_and_then (λ e. row_of e.0) (first_entry (filter (λ e. is_lt (slice_cmp nat_cmp (row_part r) e.0)) (entries_where row_part g es))) ≡ first_of (filter (λ s. is_lt (int_cmp r s)) (keys_where g es))
        → option_and_then (λ e. row_of e.0) (first_entry (filter (λ e. is_lt (slice_cmp nat_cmp (row_part r) e.0)) (listed_at row_part e.0 o (entries_where row_part g es)))) ≡ first_of (filter (λ s. is_lt (int_cmp r s)) (kept_at e.0 o (keys_where g es)))
    at_head None b is rest = rest
    at_head (Some v) true is rest = rw (in_order, is) (row_of-row_part e.0 all.0)
    at_head (Some v) false is rest = rw (in_order, is) rest

-- after which row a search may begin: any row, or none
abbrev pub IsPlace : Option ℤ → Type 0
IsPlace None = Unit {0}
IsPlace (Some r) = IsRow r

-- At a kind whose keys end in a row key: the next row key is that of the next row that has a value.
pub next_row_listed : {X : Type 0} (g : X → Option (List ℕ)) (c : Content) (kind : Kind) (owner : List ℕ) (G : FinMap int_cmp X)
    → HasKeysOnly c → HasPartsOnly row_part IsRow kind → ((r : ℤ) (x : X) → get G r ≡ Some x → IsRow r) → ((r : ℤ) → IsRow r → at c (key kind owner (row_part r)) ≡ option_and_then g (get G r))
    → (after : Option ℤ) → IsPlace after → row_after after kind owner c ≡ first_of (rows_above after (keys_where g (entries G)))
next_row_listed g c kind owner G only form has each None place =
    ap (λ es. option_and_then (λ e. row_of e.0) (first_entry es)) (entries_above-tail_nil (prefix_of kind owner) c ∙ family_listed int_cmp row_part IsRow row_spells g c kind owner G only form has each)
    ∙ first_listed g (entries G) (all_keys int_cmp int_cmp_total IsRow G has)
next_row_listed g c kind owner G only form has each (Some r) place =
    ap (λ es. option_and_then (λ e. row_of e.0) (first_entry (filter (λ e. is_lt (slice_cmp nat_cmp (row_part r) e.0)) es))) (family_listed int_cmp row_part IsRow row_spells g c kind owner G only form has each)
    ∙ next_listed g r place (entries G) (all_keys int_cmp int_cmp_total IsRow G has)

-- ---- keys in order

abbrev pub keys_below : {K : Type 0} → (K → K → Ordering) → K → List K → Bool
keys_below R k [] = true
keys_below R k (j ∷ js) = is_lt (R k j) && keys_below R k js

-- each key is below all after it
abbrev pub keys_rise_by : {K : Type 0} → (K → K → Ordering) → List K → Bool
keys_rise_by R [] = true
keys_rise_by R (k ∷ ks) = keys_below R k ks && keys_rise_by R ks

module _ {K X : Type 0} (R : K → K → Ordering) (g : X → Option (List ℕ)) where
  below_where : (k : K) (es : List (K × X)) → below R k es ≡ true → keys_below R k (keys_where g es) ≡ true
  below_where k [] h = refl
  below_where k (e ∷ es) h =
      let b = and_parts (is_lt (R k e.0)) (below R k es) h in
      at_head (g e.1) b.0 (below_where k es b.1)
    where
      at_head : (o : Option (List ℕ)) → is_lt (R k e.0) ≡ true → keys_below R k (keys_where g es) ≡ true → keys_below R k (kept_at e.0 o (keys_where g es)) ≡ true
      at_head None l rest = rest
      at_head (Some v) l rest = and_from _ _ l rest

  rises_where : (es : List (K × X)) → rises R es ≡ true → keys_rise_by R (keys_where g es) ≡ true
  rises_where [] h = refl
  rises_where (e ∷ es) h =
      let b = and_parts (below R e.0 es) (rises R es) h in
      at_head (g e.1) (below_where e.0 es b.0) (rises_where es b.1)
    where
      at_head : (o : Option (List ℕ)) → keys_below R e.0 (keys_where g es) ≡ true → keys_rise_by R (keys_where g es) ≡ true → keys_rise_by R (kept_at e.0 o (keys_where g es)) ≡ true
      at_head None l rest = rest
      at_head (Some v) l rest = and_from _ _ l rest

  -- the keys that are listed strictly rise
  pub listed_rise : (G : FinMap R X) → keys_rise_by R (keys_where g (entries G)) ≡ true
  listed_rise G = rises_where (entries G) (entries_rise R G)

-- a key below others isn't among them, so that none is listed twice
pub apart_below : {K : Type 0} (R : K → K → Ordering) (k : K) (ks : List K) → keys_below R k ks ≡ true → list_any (eq_by_cmp R k) ks ≡ false
apart_below R k [] h = refl
apart_below R k (j ∷ js) h =
    let b = and_parts (is_lt (R k j)) (keys_below R k js) h in
    rw (no_tie (R k j) b.0) (apart_below R k js b.1)
