-- What a key has after changes for each entry of a finite map.
use Rattle.std.proofs.Common.{◌≡◌, ℕ, Bool, true, false, cond, List, [], ◌∷◌, Option, Some, refl, sym, ap, ◌∙◌}
use Rattle.std.specs.Option.{option_map_or}
use Rattle.std.specs.declared.cmp.Ordering.{Ordering}
use Rattle.std.specs.Ordering.{is_lt, eq_by_cmp}
use Rattle.std.specs.Cmp.{IsTotalOrder}
use Rattle.std.specs.FinMap.{FinMap, get, entries, find, get-entries}
use Rattle.std.proofs.lemmas.Bool.{and_parts}
use Rattle.ct_keep.specs.laws.RisingKeys.{below, rises, entries_rise}
use Rattle.ct_entry.specs.Keys.{Key}
use Rattle.ct_entry.specs.Changes.{told}
use Rattle.ct_entry.specs.Each.{each, latest}
use Rattle.ct_entry.specs.laws.Each.{told_latest}
use Rattle.ct_base.specs.laws.Orders.{no_tie}
use Rattle.ct_keep.specs.laws.FoundKeys.{below_tied}

module _ {K X : Type 0} (R : K → K → Ordering) (total : IsTotalOrder R) (q : K) (value : X → Option (List ℕ)) where
  latest_below : (es : List (K × X)) (old : Option (List ℕ)) → below R q es ≡ true → latest (λ e. eq_by_cmp R q e.0) (λ e. value e.1) es old ≡ old
  latest_below [] old h = refl
  latest_below (e ∷ es) old h =
      let b = and_parts (is_lt (R q e.0)) (below R q es) h in
      ap (λ (t : Bool). latest (λ e. eq_by_cmp R q e.0) (λ e. value e.1) es (cond t (value e.1) old)) (no_tie (R q e.0) b.0) ∙ latest_below es old b.1

  latest_found : (es : List (K × X)) (old : Option (List ℕ)) → rises R es ≡ true → latest (λ e. eq_by_cmp R q e.0) (λ e. value e.1) es old ≡ option_map_or value (find R q es) old
  latest_found [] old h = refl
  latest_found (e ∷ es) old h =
      let b = and_parts (below R e.0 es) (rises R es) h in
      at_head (eq_by_cmp R q e.0) refl b.0 (latest_found es old b.1)
    where
      at_head : (t : Bool) → eq_by_cmp R q e.0 ≡ t → below R e.0 es ≡ true → latest (λ e. eq_by_cmp R q e.0) (λ e. value e.1) es old ≡ option_map_or value (find R q es) old
          → latest (λ e. eq_by_cmp R q e.0) (λ e. value e.1) es (cond (eq_by_cmp R q e.0) (value e.1) old) ≡ option_map_or value (cond (eq_by_cmp R q e.0) (Some e.1) (find R q es)) old
      at_head true t low rest =
          ap (λ (x : Bool). latest (λ e. eq_by_cmp R q e.0) (λ e. value e.1) es (cond x (value e.1) old)) t
          ∙ latest_below es (value e.1) (below_tied R total q e.0 es t low)
          ∙ sym (ap (λ (x : Bool). option_map_or value (cond x (Some e.1) (find R q es)) old) t)
      at_head false t low rest =
          ap (λ (x : Bool). latest (λ e. eq_by_cmp R q e.0) (λ e. value e.1) es (cond x (value e.1) old)) t
          ∙ rest
          ∙ sym (ap (λ (x : Bool). option_map_or value (cond x (Some e.1) (find R q es)) old) t)

  -- where the changes of an entry give a key its value exactly if it is that of q, those of all give it what the map has at q
  pub told_entries : (changes : K × X → List (Key × Option (List ℕ))) (k : Key) → ((e : K × X) (old : Option (List ℕ)) → told (changes e) k old ≡ cond (eq_by_cmp R q e.0) (value e.1) old)
      → (m : FinMap R X) (old : Option (List ℕ)) → told (each changes (entries m)) k old ≡ option_map_or value (get m q) old
  told_entries changes k one m old =
      told_latest changes k (λ e. eq_by_cmp R q e.0) (λ e. value e.1) one (entries m) old
      ∙ latest_found (entries m) old (entries_rise R m)
      ∙ ap (λ (o : Option X). option_map_or value o old) (sym (get-entries m q))
