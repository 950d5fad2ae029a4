-- What a scan finds: the entries that a finite map has, in its order.
use Rattle.std.proofs.Common.{◌≡◌, ℕ, Bool, true, false, cond, List, [], ◌∷◌, ◌++◌, Option, Some, None, refl, sym, ap, subst, ◌∙◌, append_assoc}
use Rattle.std.specs.Prelude.{T, IsSome, is_some}
use Rattle.std.specs.Option.{option_map, option_and_then}
use Rattle.std.specs.List.{cons_option}
use Rattle.std.specs.declared.cmp.Ordering.{Ordering}
use Rattle.std.specs.Ordering.{nat_cmp, is_lt, is_eq, eq_by_cmp}
use Rattle.std.specs.Cmp.{IsTotalOrder}
use Rattle.std.proofs.lemmas.Cmp.{nat_list_cmp_total}
use Rattle.std.proofs.lemmas.Map.Lookups.{exact_bytes}
use Rattle.std.specs.Cmp.Lexicographic.{slice_cmp}
use Rattle.std.specs.FinMap.{FinMap, get, entries, is_sorted, find, from_sorted, entries-from_sorted, get-from_sorted, get-entries, same_map}
use Rattle.ct_keep.specs.Content.{Content}
use Rattle.ct_keep.specs.Tail.{tail}
use Rattle.ct_keep.specs.laws.Tail.{get-tail, get-tail_nil}
use Rattle.std.proofs.lemmas.Bool.{and_parts, and_from}
use Rattle.ct_base.specs.laws.Bools.{T_from_true}
use Rattle.ct_keep.specs.laws.RisingKeys.{below, rises, sorted_from_rises, entries_rise}
use Rattle.ct_entry.specs.declared.kinds.Kind.{Kind}
use Rattle.ct_entry.specs.Keys.{Key, key, bytes, prefix_of, at, IsPart, HasKeysOnly}
use Rattle.ct_base.specs.laws.Orders.{equal_from_test}
use Rattle.ct_entry.specs.laws.Keys.{key_from_bytes}
use Rattle.ct_keep.specs.laws.FoundKeys.{none_below, below_tied, AllKeys, all_keys}
use Rattle.ct_entry.specs.Listings.{entries_where}

-- Keys in an order, each with a rest that isn't empty, such that the rests of those that have P are in the same order.
pub record Spells {K : Type 0} (R : K → K → Ordering) (part : K → List ℕ) (P : K → Type 0) : Type 0 where
  pub total : IsTotalOrder R
  pub order : (a b : K) → P a → P b → slice_cmp nat_cmp (part a) (part b) ≡ R a b
  pub some : (a : K) → part a ≡ [] → ⊥

abbrev listed_at : {K : Type 0} → (K → List ℕ) → K → Option (List ℕ) → List (List ℕ × List ℕ) → List (List ℕ × List ℕ)
listed_at part k o rest = cons_option (option_map (λ v. (part k, v)) o) rest

not_both : (o : Option (List ℕ)) → is_some o ≡ true → o ≡ None → ⊥
not_both None h e = cc
not_both (Some x) h e = cc

module _ {K X : Type 0} (R : K → K → Ordering) (part : K → List ℕ) (P : K → Type 0) (spells : Spells R part P) (g : X → Option (List ℕ)) where
  below_listed : (k : K) (es : List (K × X)) → P k → AllKeys R P es → below R k es ≡ true → below (slice_cmp nat_cmp) (part k) (entries_where part g es) ≡ true
  below_listed k [] p all h = refl
  below_listed k (e ∷ es) p all h =
      let b = and_parts (is_lt (R k e.0)) (below R k es) h in
      at_head (g e.1) (ap is_lt (spells.order k e.0 p all.0) ∙ b.0) (below_listed k es p all.1 b.1)
    where
      at_head : (o : Option (List ℕ)) → is_lt (slice_cmp nat_cmp (part k) (part e.0)) ≡ true → below (slice_cmp nat_cmp) (part k) (entries_where part g es) ≡ true → below (slice_cmp nat_cmp) (part k) (listed_at part e.0 o (entries_where part g es)) ≡ true
      at_head None l rest = rest
      at_head (Some v) l rest = and_from _ _ l rest

  listed_rises : (es : List (K × X)) → AllKeys R P es → rises R es ≡ true → rises (slice_cmp nat_cmp) (entries_where part g es) ≡ true
  listed_rises [] all h = refl
  listed_rises (e ∷ es) all h =
      let b = and_parts (below R e.0 es) (rises R es) h in
      at_head (g e.1) (below_listed e.0 es all.0 all.1 b.0) (listed_rises es all.1 b.1)
    where
      at_head : (o : Option (List ℕ)) → below (slice_cmp nat_cmp) (part e.0) (entries_where part g es) ≡ true → rises (slice_cmp nat_cmp) (entries_where part g es) ≡ true → rises (slice_cmp nat_cmp) (listed_at part e.0 o (entries_where part g es)) ≡ true
      at_head None l rest = rest
      at_head (Some v) l rest = and_from _ _ l rest

  -- at the rest of a key is found what the map has at the key
  find_listed : (k : K) (es : List (K × X)) → P k → AllKeys R P es → rises R es ≡ true → find (slice_cmp nat_cmp) (part k) (entries_where part g es) ≡ option_and_then g (find R k es)
  find_listed k [] p all h = refl
  find_listed k (e ∷ es) p all h =
      let b = and_parts (below R e.0 es) (rises R es) h in
      let rest = find_listed k es p all.1 b.1 in
      let tie : eq_by_cmp (slice_cmp nat_cmp) (part k) (part e.0) ≡ eq_by_cmp R k e.0 = ap is_eq (spells.order k e.0 p all.0) in
      elim (eq_by_cmp R k e.0) as (λ t. eq_by_cmp R k e.0 ≡ t → find (slice_cmp nat_cmp) (part k) (listed_at part e.0 (g e.1) (entries_where part g es)) ≡ option_and_then g (cond t (Some e.1) (find R k es))) [
        | true ↦ λ t.
            let gone : find R k es ≡ None = none_below R k es (below_tied R spells.total k e.0 es t b.0) in
            here (g e.1) (tie ∙ t) (rest ∙ ap (option_and_then g) gone)
        | false ↦ λ t. there (g e.1) (tie ∙ t) rest
      ] refl
    where
      here : (o : Option (List ℕ)) → eq_by_cmp (slice_cmp nat_cmp) (part k) (part e.0) ≡ true → find (slice_cmp nat_cmp) (part k) (entries_where part g es) ≡ None → find (slice_cmp nat_cmp) (part k) (listed_at part e.0 o (entries_where part g es)) ≡ o
      here None t gone = gone
      here (Some v) t gone = ap (λ (x : Bool). cond x (Some v) (find (slice_cmp nat_cmp) (part k) (entries_where part g es))) t

      there : (o : Option (List ℕ)) → eq_by_cmp (slice_cmp nat_cmp) (part k) (part e.0) ≡ false → find (slice_cmp nat_cmp) (part k) (entries_where part g es) ≡ option_and_then g (find R k es) → find (slice_cmp nat_cmp) (part k) (listed_at part e.0 o (entries_where part g es)) ≡ option_and_then g (find R k es)
      there None t rest = rest
      there (Some v) t rest = ap (λ (x : Bool). cond x (Some v) (find (slice_cmp nat_cmp) (part k) (entries_where part g es))) t ∙ rest

  -- what is found is the rest of a key
  found_is_part : (q : List ℕ) (es : List (K × X)) → AllKeys R P es → is_some (find (slice_cmp nat_cmp) q (entries_where part g es)) ≡ true → (k : K) × P k × (q ≡ part k)
  found_is_part q [] all h = cc
  found_is_part q (e ∷ es) all h = at_head (g e.1) h (found_is_part q es all.1)
    where
      at_head : (o : Option (List ℕ)) → is_some (find (slice_cmp nat_cmp) q (listed_at part e.0 o (entries_where part g es))) ≡ true → (is_some (find (slice_cmp nat_cmp) q (entries_where part g es)) ≡ true → (k : K) × P k × (q ≡ part k)) → (k : K) × P k × (q ≡ part k)
      at_head None h rest = rest h
      at_head (Some v) h rest =
          elim (eq_by_cmp (slice_cmp nat_cmp) q (part e.0)) as (λ t. eq_by_cmp (slice_cmp nat_cmp) q (part e.0) ≡ t → is_some (cond t (Some v) (find (slice_cmp nat_cmp) q (entries_where part g es))) ≡ true → (k : K) × P k × (q ≡ part k)) [
            | true ↦ λ t _. (e.0, all.0, exact_bytes q (part e.0) (equal_from_test _ t))
            | false ↦ λ t h. rest h
          ] refl h

  -- Where a map from bytes has at each rest what another has at its key, by g, and nothing else, its entries in order are those.
  pub entries_listed : (F : Content) (G : FinMap R X) → ((k : K) (x : X) → get G k ≡ Some x → P k) → ((k : K) → P k → get F (part k) ≡ option_and_then g (get G k))
      → ((q : List ℕ) → IsSome (get F q) → (k : K) × P k × (q ≡ part k)) → entries F ≡ entries_where part g (entries G)
  entries_listed F G has each only =
      let all : AllKeys R P (entries G) = all_keys R spells.total P G has in
      let rise : rises R (entries G) ≡ true = entries_rise R G in
      let sorted : T (is_sorted (slice_cmp nat_cmp) (entries_where part g (entries G))) = T_from_true _ (sorted_from_rises (slice_cmp nat_cmp) (entries_where part g (entries G)) (listed_rises (entries G) all rise)) in
      let L : Content = from_sorted (entries_where part g (entries G)) in
      let at_part = λ (k : K) (p : P k). each k p ∙ ap (option_and_then g) (get-entries G k) ∙ sym (find_listed k (entries G) p all rise) in
      let same : F ≡ L = same_map nat_list_cmp_total exact_bytes F L (λ q. agree_at q all at_part (get F q) refl ∙ sym (get-from_sorted (slice_cmp nat_cmp) (entries_where part g (entries G)) q sorted)) in
      ap entries same ∙ entries-from_sorted (slice_cmp nat_cmp) (entries_where part g (entries G)) sorted
    where
      agree_at : (q : List ℕ) → AllKeys R P (entries G) → ((k : K) → P k → get F (part k) ≡ find (slice_cmp nat_cmp) (part k) (entries_where part g (entries G))) → (o : Option (List ℕ)) → get F q ≡ o → get F q ≡ find (slice_cmp nat_cmp) q (entries_where part g (entries G))
      agree_at q all at_part (Some v) is =
          let k = only q (ap is_some is) in
          ap (get F) k.2 ∙ at_part k.0 k.1 ∙ ap (λ (l : List ℕ). find (slice_cmp nat_cmp) l (entries_where part g (entries G))) (sym k.2)
      agree_at q all at_part None is = is ∙ sym (none_then (find (slice_cmp nat_cmp) q (entries_where part g (entries G))) refl)
        where
          none_then : (o : Option (List ℕ)) → find (slice_cmp nat_cmp) q (entries_where part g (entries G)) ≡ o → find (slice_cmp nat_cmp) q (entries_where part g (entries G)) ≡ None
          none_then None found = found
          none_then (Some v) found =
              let k = found_is_part q (entries G) all (ap is_some found) in
              ap (λ (l : List ℕ). find (slice_cmp nat_cmp) l (entries_where part g (entries G))) k.2 ∙ sym (at_part k.0 k.1) ∙ ap (get F) (sym k.2) ∙ is

-- what a map has at keys, in a content: what stands after a prefix is what the map has, in its order
pub tail_listed : {K X : Type 0} (R : K → K → Ordering) (part : K → List ℕ) (P : K → Type 0) → Spells R part P → (g : X → Option (List ℕ)) (c : Content) (p : List ℕ) (G : FinMap R X)
    → ((k : K) (x : X) → get G k ≡ Some x → P k) → ((k : K) → P k → get c (p ++ part k) ≡ option_and_then g (get G k)) → ((q : List ℕ) → IsSome (get c (p ++ q)) → (q ≡ [] → ⊥) → (k : K) × P k × (q ≡ part k))
    → entries (tail p c) ≡ entries_where part g (entries G)
tail_listed {K} R part P spells g c p G has each only = entries_listed R part P spells g (tail p c) G has (λ k is. at_some (part k) (spells.some k) ∙ each k is) found
  where
    at_some : (q : List ℕ) → (q ≡ [] → ⊥) → get (tail p c) q ≡ get c (p ++ q)
    at_some [] some = absurd (some refl)
    at_some (x ∷ q) some = get-tail p c x q

    found : (q : List ℕ) → IsSome (get (tail p c) q) → (k : K) × P k × (q ≡ part k)
    found [] h = absurd (not_both (get (tail p c) []) h (get-tail_nil p c))
    found (x ∷ q) h = only (x ∷ q) (sym (ap is_some (get-tail p c x q)) ∙ h) (λ e. cc)

-- the rests that the keys of a kind have
abbrev pub HasPartsOnly : {K : Type 0} → (K → List ℕ) → (K → Type 0) → Kind → Type 0
HasPartsOnly {K} part P kind = (q : List ℕ) → IsPart kind q → (k : K) × P k × (q ≡ part k)

-- At a kind whose keys have such rests: where an owner's entries are what a map has, a scan finds these, in the map's order.
pub family_listed : {K X : Type 0} (R : K → K → Ordering) (part : K → List ℕ) (P : K → Type 0) → Spells R part P → (g : X → Option (List ℕ)) (c : Content) (kind : Kind) (owner : List ℕ) (G : FinMap R X)
    → HasKeysOnly c → HasPartsOnly part P kind → ((k : K) (x : X) → get G k ≡ Some x → P k) → ((k : K) → P k → at c (key kind owner (part k)) ≡ option_and_then g (get G k))
    → entries (tail (prefix_of kind owner) c) ≡ entries_where part g (entries G)
family_listed {K} R part P spells g c kind owner G only form has each =
    tail_listed R part P spells g c (prefix_of kind owner) G has each (λ q there some.
    let k = only (bytes (key kind owner q)) there in
    let same : k.0 ≡ key kind owner q = key_from_bytes k.0 (key kind owner q) (sym k.1) in
    form q (subst (λ (j : Key). IsPart j.kind j.part) same k.2.part))

-- ---- entries of an owner whose rests begin alike, as those of a column or of a token

-- At a kind whose keys have such rests after these first bytes: where an owner's entries are what a map has, a scan finds these, in the map's order.
pub prefix_listed : {K X : Type 0} (R : K → K → Ordering) (part : K → List ℕ) (P : K → Type 0) → Spells R part P → (g : X → Option (List ℕ)) (c : Content) (kind : Kind) (owner prefix : List ℕ) (G : FinMap R X)
    → HasKeysOnly c → ((q : List ℕ) → IsPart kind (prefix ++ q) → (k : K) × P k × (q ≡ part k)) → ((k : K) (x : X) → get G k ≡ Some x → P k) → ((k : K) → P k → at c (key kind owner (prefix ++ part k)) ≡ option_and_then g (get G k))
    → entries (tail (prefix_of kind owner ++ prefix) c) ≡ entries_where part g (entries G)
prefix_listed {K} R part P spells g c kind owner prefix G only form has each =
    tail_listed R part P spells g c (prefix_of kind owner ++ prefix) G has
    (λ k is. ap (get c) (assoc (part k)) ∙ each k is)
    (λ q there some.
    let k = only (prefix_of kind owner ++ prefix ++ q) there in
    let same : k.0 ≡ key kind owner (prefix ++ q) = key_from_bytes k.0 (key kind owner (prefix ++ q)) (sym k.1 ∙ assoc q) in
    form q (subst (λ (j : Key). IsPart j.kind j.part) same k.2.part))
  where
    assoc : (q : List ℕ) → (prefix_of kind owner ++ prefix) ++ q ≡ bytes (key kind owner (prefix ++ q))
    assoc q = append_assoc (prefix_of kind owner) prefix q
