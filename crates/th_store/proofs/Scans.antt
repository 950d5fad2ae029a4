-- What scans find of a thesaurus: its pairs, in their order.
use Rattle.std.proofs.Common.{◌≡◌, ℕ, suc, Bool, true, false, List, [], ◌∷◌, ◌++◌, length, map, Option, Some, None, refl, sym, ap, subst, ◌∙◌, arith, append_assoc, inl, inr}
use Rattle.std.specs.Prelude.{◌||◌, ◌==◌, not, is_some, IsSome, Vec}
use Rattle.std.specs.declared.alloc.Global.{Global}
use Rattle.std.specs.List.{list_all, list_any}
use Rattle.std.specs.Option.{option_map, option_and_then}
use Rattle.std.specs.Str.{bytes_eq}
use Rattle.std.specs.FinMap.{get, entries, nat_cmp-IsAntisymmetric, slice_cmp-IsAntisymmetric}
use Rattle.std.proofs.lemmas.Bool.{and_parts, and_from, false≢true, eq-eqb, eqb-true}
use Rattle.std.proofs.lemmas.Cmp.{nat_list_cmp_total}
use Rattle.std.proofs.lemmas.Slice.Eq.{bytes_eq-Decides}
use Rattle.ct_base.specs.laws.Bools.{same_tests}
use Rattle.ct_base.specs.laws.Lists.{cons_parts}
use Rattle.ct_base.specs.laws.Options.{is_some-option_map, no_value, some_value}
use Rattle.ct_keep.specs.Content.{Content}
use Rattle.ct_keep.specs.laws.FoundKeys.{AllKeys, all_keys}
use Rattle.ct_keep.specs.Tail.{tail}
use Rattle.ct_keep.specs.laws.Tail.{get-tail, get-tail_nil}
use Rattle.ct_entry.specs.declared.kinds.Kind.TheVariants as kind
use Rattle.ct_entry.specs.Keys.{Key, key, at, bytes, counted_bytes, prefix_of, IsPart}
use Rattle.ct_entry.specs.Listings.{entries_where, owner_entries}
use Rattle.ct_entry.specs.Lists.{IsIn}
use Rattle.ct_entry.specs.laws.Keys.{key_from_bytes}
use Rattle.ct_entry.specs.laws.Listings.{Spells, family_listed, prefix_listed}
use Rattle.ct_entry.specs.laws.MapEntries.{get_in, in_get}
use Rattle.ct_entry.specs.laws.Parts.{counted_apart}
use Rattle.th_graph.specs.declared.pairs.PairKind.TheVariants.{ToPreferred}
use Rattle.th_graph.specs.declared.pairs.TermPair.{TermPair}
use Rattle.th_graph.specs.Pairs.{has_term_pair, kind_number, same_kind}
use Rattle.th_graph.specs.Relating.{has_preferred, prefers}
use Rattle.th_store.specs.Thesauri.{PairSet, Thesauri, pair_order, pair_part, pairs_of}
use Rattle.th_store.specs.Spelling.{empty_value, pair_key, pair_value, thesaurus_key}
use Rattle.th_store.specs.Rules.{is_pair}
use Rattle.th_store.specs.Sees.{HoldsThesauri}
use Rattle.th_store.specs.laws.Pairs.{has_is_get, one_passes, pair_order_total}
use Rattle.th_store.specs.laws.Parts.{HasTokens, pair_has_tokens, part_is_pair}

-- ---- the rests of the keys of pairs

pair_spells : Spells pair_order pair_part HasTokens
pair_spells = record { total = pair_order_total; order = λ p q a b. refl; some = λ p e. cc }

-- ---- the pairs of a thesaurus

module _ (m : Content) (ts : Thesauri) (holds : HoldsThesauri m ts) (name : List ℕ) where
  pub not_there : is_some (at m (thesaurus_key name)) ≡ false → get ts name ≡ None
  not_there h = no_value (get ts name) (sym (is_some-option_map empty_value (get ts name)) ∙ sym (ap is_some (holds.stand.names name)) ∙ h)

  pub is_there : is_some (at m (thesaurus_key name)) ≡ true → (ps : PairSet) × (get ts name ≡ Some ps)
  is_there h = some_value (get ts name) (sym (is_some-option_map empty_value (get ts name)) ∙ sym (ap is_some (holds.stand.names name)) ∙ h)

  pub there_is : is_some (at m (thesaurus_key name)) ≡ is_some (get ts name)
  there_is = ap is_some (holds.stand.names name) ∙ is_some-option_map empty_value (get ts name)

  module _ (ps : PairSet) (is : get ts name ≡ Some ps) where
    pub at_pair : (p : TermPair) → at m (pair_key name p) ≡ option_map empty_value (get ps p)
    at_pair p = holds.stand.pairs name p ∙ ap (λ (o : Option PairSet). pair_value o p) is

    pub pair_there : (p : TermPair) → is_some (at m (pair_key name p)) ≡ has_term_pair p (pairs_of ps)
    pair_there p = ap is_some (at_pair p) ∙ is_some-option_map empty_value (get ps p) ∙ sym (has_is_get ps p)

    tokens : (p : TermPair) (x : Unit {0}) → get ps p ≡ Some x → HasTokens p
    tokens p x has = pair_has_tokens p ((holds.rules.each name ps is).each p x has)

    given : (o : Option (Unit {0})) → option_map empty_value o ≡ option_and_then (λ x. Some (empty_value x)) o
    given None = refl
    given (Some x) = refl

    pub all_listed : entries (tail (prefix_of kind.Relations name) m) ≡ entries_where pair_part (λ x. Some (empty_value x)) (entries ps)
    all_listed = family_listed pair_order pair_part HasTokens pair_spells (λ x. Some (empty_value x)) m kind.Relations name ps holds.only part_is_pair tokens (λ p t. at_pair p ∙ given (get ps p))

    pub owner_listed : owner_entries kind.Relations name [] m ≡ entries_where pair_part (λ x. Some (empty_value x)) (entries ps)
    owner_listed = prefix_listed pair_order pair_part HasTokens pair_spells (λ x. Some (empty_value x)) m kind.Relations name [] ps holds.only part_is_pair tokens (λ p t. at_pair p ∙ given (get ps p))

    all_pairs : (es : List (TermPair × Unit {0})) → AllKeys pair_order (λ (p : TermPair). is_pair p ≡ true) es → list_all is_pair (map (λ e. e.0) es) ≡ true
    all_pairs [] all = refl
    all_pairs (e ∷ es) all = and_from (is_pair e.0) (list_all is_pair (map (λ (x : TermPair × Unit {0}). x.0) es)) all.0 (all_pairs es all.1)

    pub pairs_well : list_all is_pair (pairs_of ps) ≡ true
    pairs_well = all_pairs (entries ps) (all_keys pair_order pair_order_total (λ p. is_pair p ≡ true) ps (holds.rules.each name ps is).each)

    -- ---- whether a term is preferred to one

    module _ (a : List ℕ) where
      abbrev beginning : List ℕ
      beginning = 3 ∷ counted_bytes a

      abbrev under : Content
      under = tail (prefix_of kind.Relations name ++ beginning) m

      as_key : (q : List ℕ) → (prefix_of kind.Relations name ++ beginning) ++ q ≡ bytes (key kind.Relations name (beginning ++ q))
      as_key q = append_assoc (prefix_of kind.Relations name) beginning q

      -- an entry there is one of a pair that prefers a term
      found_prefers : (q : List ℕ) → IsSome (get under q) → has_preferred a (pairs_of ps) ≡ true
      found_prefers [] h = absurd (false≢true (sym (ap is_some (get-tail_nil (prefix_of kind.Relations name ++ beginning) m)) ∙ h))
      found_prefers (x ∷ q) h =
          let there : IsSome (at m (key kind.Relations name (beginning ++ x ∷ q))) = ap is_some (ap (λ (l : List ℕ). get m l) (sym (as_key (x ∷ q)))) ∙ ap is_some (sym (get-tail (prefix_of kind.Relations name ++ beginning) m x q)) ∙ h in
          let k = holds.only (bytes (key kind.Relations name (beginning ++ x ∷ q))) there in
          let same : k.0 ≡ key kind.Relations name (beginning ++ x ∷ q) = key_from_bytes k.0 (key kind.Relations name (beginning ++ x ∷ q)) (sym k.1) in
          let p = part_is_pair (beginning ++ x ∷ q) (subst (λ (j : Key). IsPart j.kind j.part) same k.2.part) in
          let parts = cons_parts 3 (kind_number p.0.kind) (counted_bytes a ++ x ∷ q) (counted_bytes p.0.first ++ counted_bytes p.0.second) p.2 in
          let first = counted_apart a p.0.first (x ∷ q) (counted_bytes p.0.second) parts.1 in
          let has : IsSome (get ps p.0) = sym (is_some-option_map empty_value (get ps p.0)) ∙ sym (ap is_some (at_pair p.0)) ∙ ap is_some (ap (λ (l : List ℕ). at m (key kind.Relations name l)) (sym p.2)) ∙ there in
          one_passes ps (prefers a) p.0 has (and_from (same_kind ToPreferred p.0.kind) (bytes_eq a p.0.first) (eq-eqb 3 (kind_number p.0.kind) parts.0) ((bytes_eq-Decides a p.0.first).1 first.0))

-- the rests of what is listed are those of the pairs
pub rests_listed : (es : List (TermPair × Unit {0})) → map (λ (e : List ℕ × List ℕ). e.0) (entries_where pair_part (λ x. Some (empty_value x)) es) ≡ map pair_part (map (λ e. e.0) es)
rests_listed [] = refl
rests_listed (e ∷ es) = ap (λ (l : List (List ℕ)). pair_part e.0 ∷ l) (rests_listed es)

pub count_listed : (es : List (TermPair × Unit {0})) → length (entries_where pair_part (λ x. Some (empty_value x)) es) ≡ length es
count_listed [] = refl
count_listed (e ∷ es) = ap suc (count_listed es)

pub found_rests : (xs : List (Vec ℕ Global × Vec ℕ Global)) → map (λ e. e.0.items) xs ≡ map (λ (e : List ℕ × List ℕ). e.0) (map (λ e. (e.0.items, e.1.items)) xs)
found_rests [] = refl
found_rests (x ∷ xs) = ap (λ (l : List (List ℕ)). x.0.items ∷ l) (found_rests xs)

-- ---- whether a term is preferred, by a scan

prefers_where : (a : List ℕ) (es : List (TermPair × Unit {0})) → list_any (prefers a) (map (λ e. e.0) es) ≡ true → (e : TermPair × Unit {0}) × IsIn e es × (prefers a e.0 ≡ true)
prefers_where a [] h = absurd (false≢true h)
prefers_where a (e ∷ es) h = go (prefers_where a es) (prefers a e.0) refl h
  where
    go : (list_any (prefers a) (map (λ e. e.0) es) ≡ true → (x : TermPair × Unit {0}) × IsIn x es × (prefers a x.0 ≡ true)) → (b : Bool) → prefers a e.0 ≡ b → (b || list_any (prefers a) (map (λ e. e.0) es)) ≡ true
        → (x : TermPair × Unit {0}) × IsIn x (e ∷ es) × (prefers a x.0 ≡ true)
    go later true is h = (e, inl refl, is)
    go later false is h = let x = later h in (x.0, inr x.1, x.2)

some_in : {A : Type 0} (x : A) (xs : List A) → IsIn x xs → not (length xs == 0) ≡ true
some_in x [] is = absurd is
some_in x (y ∷ ys) is = go (length (y ∷ ys) == 0) refl
  where
    go : (b : Bool) → (length (y ∷ ys) == 0) ≡ b → not b ≡ true
    go true h = let e = eqb-true (length (y ∷ ys)) 0 h in absurd (omega (arith, e))
    go false h = refl

pub preferred_there : (m : Content) (ts : Thesauri) (holds : HoldsThesauri m ts) (name : List ℕ) (ps : PairSet) (is : get ts name ≡ Some ps) (a : List ℕ)
    → not (length (owner_entries kind.Relations name (3 ∷ counted_bytes a) m) == 0) ≡ has_preferred a (pairs_of ps)
preferred_there m ts holds name ps is a = same_tests _ _ (there (entries (under m ts holds name ps is a)) refl) back
  where
    there : (es : List (List ℕ × List ℕ)) → entries (under m ts holds name ps is a) ≡ es → not (length es == 0) ≡ true → has_preferred a (pairs_of ps) ≡ true
    there [] e h = absurd (false≢true h)
    there (x ∷ xs) e h =
        let is_in : IsIn x (entries (under m ts holds name ps is a)) = subst (λ (l : List (List ℕ × List ℕ)). IsIn x l) (sym e) (inl refl) in
        found_prefers m ts holds name ps is a x.0 (ap is_some (in_get nat_list_cmp_total (under m ts holds name ps is a) x is_in))

    back : has_preferred a (pairs_of ps) ≡ true → not (length (entries (under m ts holds name ps is a)) == 0) ≡ true
    back h =
        let e = prefers_where a (entries ps) h in
        let p = e.0.0 in
        let t = and_parts (same_kind ToPreferred p.kind) (bytes_eq a p.first) e.2 in
        let three : 3 ≡ kind_number p.kind = eqb-true 3 (kind_number p.kind) t.0 in
        let first : a ≡ p.first = (bytes_eq-Decides a p.first).0 t.1 in
        let part : (3 ∷ counted_bytes a) ++ counted_bytes p.second ≡ pair_part p = ap (λ (n : ℕ). n ∷ (counted_bytes a ++ counted_bytes p.second)) three ∙ ap (λ (l : List ℕ). kind_number p.kind ∷ (counted_bytes l ++ counted_bytes p.second)) first in
        let has : is_some (at m (pair_key name p)) ≡ true = ap is_some (at_pair m ts holds name ps is p) ∙ is_some-option_map empty_value (get ps p) ∙ ap is_some (in_get pair_order_total ps e.0 e.1) in
        let found : is_some (get (under m ts holds name ps is a) (counted_bytes p.second)) ≡ true =
        ap is_some (get-tail (prefix_of kind.Relations name ++ (3 ∷ counted_bytes a)) m (length p.second) p.second)
        ∙ ap is_some (ap (λ (l : List ℕ). get m l) (as_key m ts holds name ps is a (counted_bytes p.second) ∙ ap (λ (l : List ℕ). bytes (key kind.Relations name l)) part)) ∙ has in
        let v = some_value (get (under m ts holds name ps is a) (counted_bytes p.second)) found in
        some_in (counted_bytes p.second, v.0) (entries (under m ts holds name ps is a)) (get_in (slice_cmp-IsAntisymmetric nat_cmp-IsAntisymmetric) (under m ts holds name ps is a) (counted_bytes p.second) v.0 v.1)
