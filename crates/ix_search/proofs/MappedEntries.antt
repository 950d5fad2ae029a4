-- Entries that are made of the entries of a finite map, in the same order.
use Rattle.std.proofs.Common.{◌≡◌, Bool, true, false, cond, List, [], ◌∷◌, Option, Some, None, refl, sym, ap, ◌∙◌}
use Rattle.std.specs.Prelude.{T}
use Rattle.std.specs.Option.{option_map, option_and_then}
use Rattle.std.specs.List.{filter_map, cons_option}
use Rattle.std.specs.declared.cmp.Ordering.{Ordering}
use Rattle.std.specs.Ordering.{is_lt, eq_by_cmp}
use Rattle.std.specs.Cmp.{IsTotalOrder}
use Rattle.std.specs.FinMap.{FinMap, IsAntisymmetric, get, entries, find, is_sorted, from_sorted, entries-from_sorted, get-from_sorted, get-entries, same_map}
use Rattle.std.proofs.lemmas.Bool.{and_parts, and_from}
use Rattle.ct_base.specs.laws.Bools.{T_from_true}
use Rattle.ct_keep.specs.laws.RisingKeys.{below, rises, sorted_from_rises, entries_rise}
use Rattle.ct_base.specs.laws.Orders.{equal_from_test}
use Rattle.ct_keep.specs.laws.FoundKeys.{none_below, below_tied}

-- what g makes of a key and its value, under the same key, where it makes something of them
abbrev pub mapped_entries : {K X Y : Type 0} → (K → X → Option Y) → List (K × X) → List (K × Y)
mapped_entries g es = filter_map (λ e. option_map (λ y. (e.0, y)) (g e.0 e.1)) es

module _ {K X Y : Type 0} (R : K → K → Ordering) (total : IsTotalOrder R) (exact : IsAntisymmetric R) (g : K → X → Option Y) where
  abbrev mapped_at : K → Option Y → List (K × Y) → List (K × Y)
  mapped_at k o rest = cons_option (option_map (λ y. (k, y)) o) rest

  below_mapped : (k : K) (es : List (K × X)) → below R k es ≡ true → below R k (mapped_entries g es) ≡ true
  below_mapped k [] h = refl
  below_mapped k (e ∷ es) h =
      let b = and_parts (is_lt (R k e.0)) (below R k es) h in
      at_head (g e.0 e.1) b.0 (below_mapped k es b.1)
    where
      at_head : (o : Option Y) → is_lt (R k e.0) ≡ true → below R k (mapped_entries g es) ≡ true → below R k (mapped_at e.0 o (mapped_entries g es)) ≡ true
      at_head None l rest = rest
      at_head (Some y) l rest = and_from _ _ l rest

  pub mapped_rise : (es : List (K × X)) → rises R es ≡ true → rises R (mapped_entries g es) ≡ true
  mapped_rise [] h = refl
  mapped_rise (e ∷ es) h =
      let b = and_parts (below R e.0 es) (rises R es) h in
      at_head (g e.0 e.1) (below_mapped e.0 es b.0) (mapped_rise es b.1)
    where
      at_head : (o : Option Y) → below R e.0 (mapped_entries g es) ≡ true → rises R (mapped_entries g es) ≡ true
          → rises R (mapped_at e.0 o (mapped_entries g es)) ≡ true
      at_head None l rest = rest
      at_head (Some y) l rest = and_from _ _ l rest

  pub find_mapped : (k : K) (es : List (K × X)) → rises R es ≡ true → find R k (mapped_entries g es) ≡ option_and_then (g k) (find R k es)
  find_mapped k [] h = refl
  find_mapped k (e ∷ es) h =
      let b = and_parts (below R e.0 es) (rises R es) h in
      let rest = find_mapped k es b.1 in
      elim (eq_by_cmp R k e.0) as (λ t. eq_by_cmp R k e.0 ≡ t → find R k (mapped_at e.0 (g e.0 e.1) (mapped_entries g es)) ≡ option_and_then (g k) (cond t (Some e.1) (find R k es))) [
        | true ↦ λ t.
            let gone : find R k es ≡ None = none_below R k es (below_tied R total k e.0 es t b.0) in
            here (g e.0 e.1) t (rest ∙ ap (option_and_then (g k)) gone) ∙ ap (λ (x : K). g x e.1) (sym (exact k e.0 (equal_from_test (R k e.0) t)))
        | false ↦ λ t. there (g e.0 e.1) t ∙ rest
      ] refl
    where
      here : (o : Option Y) → eq_by_cmp R k e.0 ≡ true → find R k (mapped_entries g es) ≡ None → find R k (mapped_at e.0 o (mapped_entries g es)) ≡ o
      here None t gone = gone
      here (Some y) t gone = ap (λ (b : Bool). cond b (Some y) (find R k (mapped_entries g es))) t

      there : (o : Option Y) → eq_by_cmp R k e.0 ≡ false → find R k (mapped_at e.0 o (mapped_entries g es)) ≡ find R k (mapped_entries g es)
      there None t = refl
      there (Some y) t = ap (λ (b : Bool). cond b (Some y) (find R k (mapped_entries g es))) t

  -- A map that has at each key what g makes of what another has there: its entries are made of the other's.
  pub entries_mapped : (F : FinMap R Y) (G : FinMap R X) → ((k : K) → get F k ≡ option_and_then (g k) (get G k)) → entries F ≡ mapped_entries g (entries G)
  entries_mapped F G each =
      let rise = entries_rise R G in
      let list : List (K × Y) = mapped_entries g (entries G) in
      let sorted : T (is_sorted R list) = T_from_true _ (sorted_from_rises R list (mapped_rise (entries G) rise)) in
      let same : F ≡ from_sorted list = same_map total exact F (from_sorted list) (λ q. each q ∙ ap (option_and_then (g q)) (get-entries G q) ∙ sym (find_mapped q (entries G) rise) ∙ sym (get-from_sorted R list q sorted)) in
      ap entries same ∙ entries-from_sorted R list sorted
