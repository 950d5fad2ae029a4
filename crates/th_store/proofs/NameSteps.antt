-- The names of thesauri that a scan finds, in the order of their bytes.
use Rattle.std.proofs.Common.{◌≡◌, ◌+◌, ℕ, suc, Bool, true, false, cond, List, [], ◌∷◌, map, get_or, Option, Some, None, refl, sym, ap, ◌∙◌, arith, is_lt}
use Rattle.std.specs.Prelude.{◌||◌, is_some, IsPermutation, IsSorted}
use Rattle.std.specs.List.{AllByRecursion, IsDistinct}
use Rattle.std.specs.Option.{option_map, option_and_then}
use Rattle.std.specs.Str.{bytes_eq}
use Rattle.std.specs.Ordering.{nat_cmp, eq_by_cmp}
use Rattle.std.specs.Cmp.Lexicographic.{slice_cmp}
use Rattle.std.specs.FinMap.{entries, find, get, get-entries}
use Rattle.std.proofs.lemmas.Bool.{and_from, and_parts}
use Rattle.std.proofs.lemmas.List.Sorted.{list_any-IsPermutation}
use Rattle.std.proofs.lemmas.Map.Keys.{IsDistinct-IsPermutation}
use Rattle.std.proofs.lemmas.Slice.Eq.{bytes_eq-Decides}
use Rattle.ct_base.specs.laws.Orders.{no_tie}
use Rattle.ct_keep.specs.Content.{Content}
use Rattle.ct_keep.specs.laws.RisingKeys.{below, rises, entries_rise}
use Rattle.ct_entry.specs.declared.kinds.Kind.TheVariants as kind
use Rattle.ct_entry.specs.Listings.{owners_under, key_order, in_key_order}
use Rattle.ct_entry.specs.laws.Keys.{lists_tie}
use Rattle.ct_entry.specs.laws.Owners.{key_order_tie, get-in_key_order, owners_listed}
use Rattle.ct_entry.specs.laws.Rows.{keys_always}
use Rattle.th_graph.specs.Rising.{is_among_terms, is_less, rise}
use Rattle.th_graph.specs.laws.Rising.{above, other_way}
use Rattle.th_store.specs.Thesauri.{PairSet, Thesauri}
use Rattle.th_store.specs.Spelling.{empty_value}
use Rattle.th_store.specs.Sees.{AreNames, HoldsThesauri}

-- ---- names that are sorted, none of them twice, rise

sorted_rise : (us : List (List ℕ)) → IsSorted (slice_cmp nat_cmp) us → IsDistinct bytes_eq us → rise us ≡ true
unfolding IsDistinct
sorted_rise [] sorted apart = refl
sorted_rise (t ∷ []) sorted apart = refl
sorted_rise (t ∷ u ∷ us) sorted apart =
    and_from (is_less t u) (rise (u ∷ us)) (above u t (sorted 0 t (omega arith) (omega arith)) (other_way u t ∙ apart.0.0)) (sorted_rise (u ∷ us) later apart.1)
  where
    later : IsSorted (slice_cmp nat_cmp) (u ∷ us)
    later = λ i d low within.
        let next : suc (i + 1) ≡ suc i + 1 = omega arith in
        ap (λ n. is_less (get_or (t ∷ u ∷ us) n d) (get_or (u ∷ us) i d)) next ∙ sorted (suc i) d (omega arith) (omega (arith, within))

-- ---- the names of a map in the order of keys

-- the order of keys ties the names that are one
tie : (a b : List ℕ) → eq_by_cmp key_order a b ≡ bytes_eq a b
tie a b = key_order_tie a b ∙ lists_tie a b (bytes_eq a b) (bytes_eq-Decides a b).1 (bytes_eq-Decides a b).0

module _ {X : Type 0} where
  below_apart : (t : List ℕ) (es : List (List ℕ × X)) → below key_order t es ≡ true → AllByRecursion (λ u. bytes_eq t u ≡ false) (map (λ e. e.0) es)
  below_apart t [] low = tt
  below_apart t (e ∷ es) low =
      let b = and_parts (is_lt (key_order t e.0)) (below key_order t es) low in
      (sym (tie t e.0) ∙ no_tie (key_order t e.0) b.0, below_apart t es b.1)

  keys_apart : (es : List (List ℕ × X)) → rises key_order es ≡ true → IsDistinct bytes_eq (map (λ e. e.0) es)
  unfolding IsDistinct
  keys_apart [] h = tt
  keys_apart (e ∷ es) h = let b = and_parts (below key_order e.0 es) (rises key_order es) h in (below_apart e.0 es b.0, keys_apart es b.1)

  keys_among : (t : List ℕ) (es : List (List ℕ × X)) → is_among_terms t (map (λ e. e.0) es) ≡ is_some (find key_order t es)
  keys_among t [] = refl
  keys_among t (e ∷ es) = ap (λ (b : Bool). b || is_among_terms t (map (λ e. e.0) es)) (sym (tie t e.0)) ∙ go (eq_by_cmp key_order t e.0) (keys_among t es)
    where
      go : (b : Bool) → is_among_terms t (map (λ e. e.0) es) ≡ is_some (find key_order t es) → (b || is_among_terms t (map (λ e. e.0) es)) ≡ is_some (cond b (Some e.1) (find key_order t es))
      go true rest = refl
      go false rest = rest

-- ---- the names of thesauri

put : (o : Option PairSet) → option_map empty_value o ≡ option_and_then (λ (x : PairSet). Some (empty_value x)) o
put None = refl
put (Some x) = refl

pub owners_are : (m : Content) (ts : Thesauri) → HoldsThesauri m ts → owners_under kind.Thesauri m ≡ map (λ e. e.0) (entries (in_key_order ts))
owners_are m ts holds =
    owners_listed (λ (x : PairSet). Some (empty_value x)) m kind.Thesauri ts holds.only (λ p bare. bare) holds.rules.names (λ t is. holds.stand.names t ∙ put (get ts t))
    ∙ keys_always empty_value (entries (in_key_order ts))

pub names_are : (m : Content) (ts : Thesauri) → HoldsThesauri m ts → (found names : List (List ℕ)) → found ≡ owners_under kind.Thesauri m → IsPermutation found names → IsSorted (slice_cmp nat_cmp) names → AreNames names ts
names_are m ts holds found names is moved sorted =
    let keys : found ≡ map (λ e. e.0) (entries (in_key_order ts)) = is ∙ owners_are m ts holds in
    record {
      rises = sorted_rise names sorted (IsDistinct-IsPermutation bytes_eq other_way found names moved (rw keys (keys_apart (entries (in_key_order ts)) (entries_rise key_order (in_key_order ts)))));
      each = λ name.
          sym (list_any-IsPermutation (bytes_eq name) found names moved)
          ∙ ap (is_among_terms name) keys
          ∙ keys_among name (entries (in_key_order ts))
          ∙ ap is_some (sym (get-entries (in_key_order ts) name) ∙ get-in_key_order ts name);
    }
