-- The names of all indexes, in the order of their bytes.
use Rattle.std.proofs.Common.{◌≡◌, ℕ, Bool, true, false, cond, List, [], ◌∷◌, map, Option, Some, None, refl, sym, ap, ◌∙◌, arith, is_lt}
use Rattle.std.specs.Prelude.{is_some, IsPermutation, IsSorted}
use Rattle.std.specs.Option.{option_map, option_and_then}
use Rattle.std.specs.declared.cmp.Ordering.{Ordering}
use Rattle.std.specs.Ordering.{nat_cmp, eq_by_cmp}
use Rattle.std.specs.Cmp.{IsTotalOrder}
use Rattle.std.specs.Cmp.Lexicographic.{slice_cmp}
use Rattle.std.specs.FinMap.{entries, find, get, get-entries}
use Rattle.std.proofs.lemmas.Bool.{and_parts, and_from}
use Rattle.std.proofs.lemmas.Cmp.{nat_list_cmp_total}
use Rattle.std.proofs.lemmas.Map.Lookups.{exact_bytes}
use Rattle.std.proofs.lemmas.List.Sorted.{sum_by-IsPermutation}
use Rattle.ct_base.specs.laws.Options.{option_map_some}
use Rattle.ct_keep.specs.Content.{Content}
use Rattle.ct_keep.specs.Looks.{one_if}
use Rattle.ct_keep.specs.laws.RisingKeys.{below, rises, entries_rise}
use Rattle.ct_keep.specs.laws.FoundKeys.{none_below, below_tied}
use Rattle.ct_entry.specs.declared.kinds.Kind.TheVariants as kind
use Rattle.ct_entry.specs.Keys.{at, same_list}
use Rattle.ct_entry.specs.Maps.{Names, each_at}
use Rattle.ct_entry.specs.Listings.{owners_under, key_order, in_key_order}
use Rattle.ct_entry.specs.laws.Maps.{names_tie, get-each_at}
use Rattle.ct_entry.specs.laws.Owners.{key_order_total, key_order_tie, get-in_key_order, owners_listed}
use Rattle.ct_entry.specs.laws.Rows.{keys_always}
use Rattle.tb_table.specs.Readings.{all_above, names_rise}
use Rattle.tb_table.specs.laws.Reading.{same_names}
use Rattle.tb_table.specs.laws.NameOrder.{tally, tally-cons, among_once, at_most_one, sorted_names_rise}
use Rattle.ix_kinds.specs.Statements.{place_of}
use Rattle.ix_indexes.specs.Indexes.{Index, index_entry, kinds}
use Rattle.ix_indexes.specs.laws.Indexes.{entry_at}
use Rattle.db_state.specs.States.{StoreState, StandsForState}

abbrev order : List ℕ → List ℕ → Ordering
order = slice_cmp nat_cmp

-- ---- the keys of a map, each once

module _ {X : Type 0} (R : List ℕ → List ℕ → Ordering) (total : IsTotalOrder R) (tie : (a b : List ℕ) → eq_by_cmp R a b ≡ same_list a b) where
  tally-keys : (t : List ℕ) (es : List (List ℕ × X)) → rises R es ≡ true → tally t (map (λ e. e.0) es) ≡ one_if (is_some (find R t es))
  tally-keys t [] h = refl
  tally-keys t (e ∷ es) h =
      let b = and_parts (below R e.0 es) (rises R es) h in
      at_head (eq_by_cmp R t e.0) refl b.0 (tally-keys t es b.1)
    where
      at_head : (s : Bool) → eq_by_cmp R t e.0 ≡ s → below R e.0 es ≡ true → tally t (map (λ e. e.0) es) ≡ one_if (is_some (find R t es)) → tally t (e.0 ∷ map (λ e. e.0) es) ≡ one_if (is_some (cond s (Some e.1) (find R t es)))
      at_head true tied low rest =
          let gone : find R t es ≡ None = none_below R t es (below_tied R total t e.0 es tied low) in
          let none : tally t (map (λ e. e.0) es) ≡ 0 = rest ∙ ap (λ (o : Option X). one_if (is_some o)) gone in
          let one : same_list t e.0 ≡ true = sym (tie t e.0) ∙ tied in
          tally-cons t e.0 (map (λ e. e.0) es) ∙ rw (one, none) refl
      at_head false tied low rest =
          let apart : same_list t e.0 ≡ false = sym (tie t e.0) ∙ tied in
          let cons = tally-cons t e.0 (map (λ e. e.0) es) in
          let zero : one_if (same_list t e.0) ≡ 0 = ap one_if apart in
          omega (arith, cons, zero, rest)

-- ---- names in order, none of them twice

keys_rise : {X : Type 0} (es : List (List ℕ × X)) → rises order es ≡ true → names_rise (map (λ e. e.0) es) ≡ true
keys_rise [] h = refl
keys_rise {X} (e ∷ es) h =
    let b = and_parts (below order e.0 es) (rises order es) h in
    and_from _ _ (lower e.0 es b.0) (keys_rise es b.1)
  where
    lower : (t : List ℕ) (es : List (List ℕ × X)) → below order t es ≡ true → all_above t (map (λ e. e.0) es) ≡ true
    lower t [] h = refl
    lower t (e ∷ es) h = let b = and_parts (is_lt (order t e.0)) (below order t es) h in and_from _ _ b.0 (lower t es b.1)

-- The names of a map in the order of keys, put into the order of their bytes, are those of a map with the same names.
names_sorted : {X Y : Type 0} (F : Names Y) (G : Names X) → ((t : List ℕ) → is_some (get F t) ≡ is_some (get G t)) → (found names : List (List ℕ)) → found ≡ map (λ e. e.0) (entries (in_key_order F))
    → IsPermutation found names → IsSorted order names → names ≡ map (λ e. e.0) (entries G)
names_sorted {X} {Y} F G same found names is moved sorted =
    same_names names (map (λ e. e.0) (entries G))
    (sorted_names_rise names sorted (λ t. let e = once t in let l = at_most_one (is_some (get G t)) in omega (arith, e, l)))
    (keys_rise (entries G) (entries_rise order G))
    (λ t. among_once t names (is_some (get G t)) (once t) ∙ sym (among_once t (map (λ e. e.0) (entries G)) (is_some (get G t)) (own t)))
  where
    once : (t : List ℕ) → tally t names ≡ one_if (is_some (get G t))
    once t =
        sum_by-IsPermutation (λ u. one_if (same_list t u)) found names moved
        ∙ ap (tally t) is
        ∙ tally-keys key_order key_order_total key_order_tie t (entries (in_key_order F)) (entries_rise key_order (in_key_order F))
        ∙ ap (λ (o : Option Y). one_if (is_some o)) (sym (get-entries (in_key_order F) t) ∙ get-in_key_order F t)
        ∙ ap one_if (same t)

    own : (t : List ℕ) → tally t (map (λ e. e.0) (entries G)) ≡ one_if (is_some (get G t))
    own t =
        tally-keys order nat_list_cmp_total names_tie t (entries G) (entries_rise order G)
        ∙ ap (λ (o : Option X). one_if (is_some o)) (sym (get-entries G t))

module _ (m : StoreState) (c : Content) (stands : StandsForState c m) where
  -- the entry of an index, with the place that it ends in
  abbrev spelt : List ℕ → Index → List ℕ
  spelt i x = index_entry x (place_of kinds (at c) i x)

  abbrev all_spelt : Names (List ℕ)
  all_spelt = each_at spelt m.indexes

  get-spelt : (i : List ℕ) → get all_spelt i ≡ option_map (spelt i) (get m.indexes i)
  get-spelt i = get-each_at nat_list_cmp_total exact_bytes spelt m.indexes i

  -- the owners of the entries of indexes are the indexes
  owners_are : owners_under kind.Indexes c ≡ map (λ e. e.0) (entries (in_key_order all_spelt))
  owners_are =
      owners_listed (λ (v : List ℕ). Some v) c kind.Indexes all_spelt stands.only (λ p bare. bare)
      (λ i v is. let x = option_map_some (spelt i) (get m.indexes i) v (sym (get-spelt i) ∙ is) in stands.state.indexes.names i x.0 x.1)
      (λ i name. entry_at (at c) m.tables i (get m.indexes i) (stands.indexes i) ∙ sym (get-spelt i) ∙ itself (get all_spelt i))
      ∙ keys_always (λ (v : List ℕ). v) (entries (in_key_order all_spelt))
    where
      itself : (o : Option (List ℕ)) → o ≡ option_and_then (λ (v : List ℕ). Some v) o
      itself None = refl
      itself (Some v) = refl

  same_owners : (i : List ℕ) → is_some (get all_spelt i) ≡ is_some (get m.indexes i)
  same_owners i = ap is_some (get-spelt i) ∙ go (get m.indexes i)
    where
      go : (o : Option Index) → is_some (option_map (spelt i) o) ≡ is_some o
      go None = refl
      go (Some x) = refl

pub names_are : (m : StoreState) (c : Content) → StandsForState c m → (found names : List (List ℕ)) → found ≡ owners_under kind.Indexes c → IsPermutation found names → IsSorted (slice_cmp nat_cmp) names → names ≡ map (λ e. e.0) (entries m.indexes)
names_are m c stands found names is moved sorted = names_sorted (all_spelt m c stands) m.indexes (same_owners m c stands) found names (is ∙ owners_are m c stands) moved sorted
