-- A map whose values are rewritten keeps its keys, in their order.
use Rattle.std.proofs.Common.{◌≡◌, suc, Bool, true, false, cond, List, [], ◌∷◌, length, map, refl, sym, ap, ◌∙◌}
use Rattle.std.specs.Prelude.{◌&&◌, filter}
use Rattle.std.specs.declared.cmp.Ordering.{Ordering}
use Rattle.std.specs.declared.cmp.Ordering.TheVariants.{Less, Equal, Greater}
use Rattle.std.specs.Ordering.{is_lt}
use Rattle.std.specs.Cmp.{IsTotalOrder}
use Rattle.std.specs.FinMap.{FinMap, empty, entries, from_entries, entries-insert, len-entries, len-empty}
use Rattle.std.specs.FinMap.Entries.{put, by_order}
use Rattle.std.proofs.lemmas.Bool.{and_parts}
use Rattle.ct_keep.specs.laws.RisingKeys.{below, rises, entries_rise}
use Rattle.ct_entry.specs.Maps.{each_value}

module _ {K X : Type 0} (R : K → K → Ordering) where
  put_first : (k : K) (v : X) (es : List (K × X)) → below R k es ≡ true → put R k v es ≡ (k, v) ∷ es
  put_first k v [] h = refl
  put_first k v (e ∷ es) h = go (R k e.0) (and_parts (is_lt (R k e.0)) (below R k es) h).0
    where
      go : (o : Ordering) → is_lt o ≡ true → by_order o ((k, v) ∷ e ∷ es) ((e.0, v) ∷ es) (e ∷ put R k v es) ≡ (k, v) ∷ e ∷ es
      go Less h = refl
      go Equal h = cc
      go Greater h = cc

  none_in_empty : entries (empty {X = X} {R = R}) ≡ []
  none_in_empty = none (entries (empty {X = X} {R = R})) (sym (len-entries (empty {X = X} {R = R})) ∙ len-empty R X)
    where
      none : (es : List (K × X)) → length es ≡ 0 → es ≡ []
      none [] e = refl
      none (x ∷ es) e = cc

  pub entries-from_rising : IsTotalOrder R → (es : List (K × X)) → rises R es ≡ true → entries (from_entries {R = R} es) ≡ es
  entries-from_rising o [] up = none_in_empty
  entries-from_rising o (e ∷ es) up =
      let b = and_parts (below R e.0 es) (rises R es) up in
      entries-insert o (from_entries es) e.0 e.1 ∙ ap (put R e.0 e.1) (entries-from_rising o es b.1) ∙ put_first e.0 e.1 es b.0

module _ {K X Y : Type 0} (R : K → K → Ordering) (f : X → Y) where
  each_below : (k : K) (es : List (K × X)) → below R k (map (λ e. (e.0, f e.1)) es) ≡ below R k es
  each_below k [] = refl
  each_below k (e ∷ es) = ap (λ (b : Bool). is_lt (R k e.0) && b) (each_below k es)

  each_rise : (es : List (K × X)) → rises R (map (λ e. (e.0, f e.1)) es) ≡ rises R es
  each_rise [] = refl
  each_rise (e ∷ es) = ap (λ (b : Bool). b && rises R (map (λ e. (e.0, f e.1)) es)) (each_below e.0 es) ∙ ap (λ (b : Bool). below R e.0 es && b) (each_rise es)

  pub entries-each_value : IsTotalOrder R → (m : FinMap R X) → entries (each_value f m) ≡ map (λ e. (e.0, f e.1)) (entries m)
  entries-each_value o m = entries-from_rising R o (map (λ e. (e.0, f e.1)) (entries m)) (each_rise (entries m) ∙ entries_rise R m)

-- where the test sees no difference, as many pass it
pub count_alike : {A B : Type 0} (f : A → B) (p : B → Bool) (q : A → Bool) → ((a : A) → p (f a) ≡ q a) → (es : List A) → length (filter p (map f es)) ≡ length (filter q es)
count_alike f p q same [] = refl
count_alike {A} {B} f p q same (e ∷ es) = ap (λ (b : Bool). length (cond b (f e ∷ filter p (map f es)) (filter p (map f es)))) (same e) ∙ go (q e) (count_alike f p q same es)
  where
    go : (b : Bool) → length (filter p (map f es)) ≡ length (filter q es) → length (cond b (f e ∷ filter p (map f es)) (filter p (map f es))) ≡ length (cond b (e ∷ filter q es) (filter q es))
    go true rest = ap suc rest
    go false rest = rest
