-- What loading the thesauri of a query looks up: nothing that counts, where the content has an index.
use Rattle.std.proofs.Common.{◌≡◌, ◌<◌, ℕ, Bool, true, false, cond, List, [], ◌∷◌, ◌++◌, Some, None, refl, sym, ap, subst, ◌∙◌, arith, inl, inr}
use Rattle.std.specs.Prelude.{◌||◌, filter, IsSome}
use Rattle.std.specs.FinMap.{entries, nat_cmp-IsAntisymmetric, slice_cmp-IsAntisymmetric}
use Rattle.std.specs.declared.cmp.Ordering.TheVariants.{Less}
use Rattle.std.specs.Ordering.{nat_cmp, is_lt}
use Rattle.std.proofs.lemmas.Bool.{and_parts}
use Rattle.std.proofs.lemmas.Bool.Decides.{nat_tests}
use Rattle.ct_base.specs.laws.Options.{some_value}
use Rattle.ct_base.specs.laws.Orders.{less_from_test, less_by_parts, lt_from_less, eq_from_equal}
use Rattle.ct_keep.specs.Content.{Content, begins_with, entries_above}
use Rattle.ct_keep.specs.KeeperViews.{Counts, KeeperView, ReadsKeeper, is_kind, is_kind_of}
use Rattle.ct_keep.specs.Looks.{RisesBy, behind, no_looks, one_if, scan_looks}
use Rattle.ct_keep.specs.laws.Composing.{reads_hold}
use Rattle.ct_keep.specs.laws.Looks.{behind_kind, rows-scan_looks, rules-scan_looks, texts-scan_looks}
use Rattle.ct_keep.specs.laws.Rising.{Entry, below, entries_rise, is_rising, order, rises_filter}
use Rattle.ct_entry.specs.declared.kinds.Kind.TheVariants as kind
use Rattle.ct_entry.specs.Keys.{at, bytes, counted_bytes, key, prefix_of}
use Rattle.ct_entry.specs.Lists.{IsIn}
use Rattle.ct_entry.specs.laws.MapEntries.{get_in}
use Rattle.db_find.specs.Thesauri.{CountsNothing}
use Rattle.db_find.specs.laws.Looking.{rises_behind}

-- ---- the entry behind those that a scan finds

-- an entry that is kept by a test
kept_in : (p : Entry → Bool) (x : Entry) (es : List Entry) → p x ≡ true → IsIn x es → IsIn x (filter p es)
kept_in p x [] passes there = there
kept_in p x (e ∷ es) passes (inl same) = subst (λ (b : Bool). IsIn x (cond b (e ∷ filter p es) (filter p es))) (sym (sym (ap p same) ∙ passes)) (inl same)
kept_in p x (e ∷ es) passes (inr later) = go (p e) (kept_in p x es passes later)
  where
    go : (b : Bool) → IsIn x (filter p es) → IsIn x (cond b (e ∷ filter p es) (filter p es))
    go true rest = inr rest
    go false rest = rest

-- one of those that are all greater
greater : (k q v : List ℕ) (es : List Entry) → below k es ≡ true → IsIn (q, v) es → order k q ≡ Less
greater k q v [] low there = absurd there
greater k q v (e ∷ es) low (inl same) =
    let parts = and_parts (is_lt (order k e.0)) (below k es) low in
    ap (λ (x : Entry). order k x.0) same ∙ less_from_test _ parts.0
greater k q v (e ∷ es) low (inr later) = let parts = and_parts (is_lt (order k e.0)) (below k es) low in greater k q v es parts.1 later

-- where an entry of a lower kind stands behind the scan, the first behind it is of no higher kind
module _ (higher c : ℕ) (ks p : List ℕ) (lower : c < higher) (outside : begins_with p (c ∷ ks) ≡ false) where
  not_higher : (k : List ℕ) → order k (c ∷ ks) ≡ Less → is_kind higher k ≡ false
  not_higher [] less = refl
  not_higher (x ∷ xs) less = elim (less_by_parts (nat_cmp x c) (order xs ks) less) [
    | inl before ↦ let up : x < c = lt_from_less x c before in grind (arith, nat_tests)
    | inr at ↦ let one : x ≡ c = eq_from_equal x c at.0 in grind (arith, nat_tests)
  ]

  not_itself : is_kind higher (c ∷ ks) ≡ false
  not_itself = grind (arith, nat_tests)

  first_behind : (v : List ℕ) (es : List Entry) → is_rising es ≡ true → IsIn (c ∷ ks, v) es → is_kind_of higher (behind p es) ≡ false
  first_behind v [] up there = absurd there
  first_behind v (e ∷ es) up (inl same) =
      let same_key : c ∷ ks ≡ e.0 = ap (λ (x : Entry). x.0) same in
      let stops : begins_with p e.0 ≡ false = ap (begins_with p) (sym same_key) ∙ outside in
      ap (λ (b : Bool). is_kind_of higher (cond b (behind p es) (Some e.0))) stops ∙ ap (is_kind higher) (sym same_key) ∙ not_itself
  first_behind v (e ∷ es) up (inr later) =
      let parts = and_parts (below e.0 es) (is_rising es) up in
      go (begins_with p e.0) (first_behind v es parts.1 later) (not_higher e.0 (greater e.0 (c ∷ ks) v es parts.0 later))
    where
      go : (b : Bool) → is_kind_of higher (behind p es) ≡ false → is_kind higher e.0 ≡ false → is_kind_of higher (cond b (behind p es) (Some e.0)) ≡ false
      go true rest here = rest
      go false rest here = here

-- ---- a scan of the pairs of a thesaurus

module _ (c : Content) (name i : List ℕ) (there : IsSome (at c (key kind.Indexes i []))) where
  abbrev prefix : List ℕ
  prefix = prefix_of kind.Relations name

  abbrev found : List Entry
  found = entries_above prefix c

  rising : is_rising found ≡ true
  rising = rises_filter (λ (e : Entry). is_lt (order prefix e.0)) (entries c) (entries_rise c)

  an_index : (v : List ℕ) × IsIn (bytes (key kind.Indexes i []), v) found
  an_index =
      let v = some_value (at c (key kind.Indexes i [])) there in
      (v.0, kept_in (λ (e : Entry). is_lt (order prefix e.0)) (bytes (key kind.Indexes i []), v.0) (entries c) refl (get_in (slice_cmp-IsAntisymmetric nat_cmp-IsAntisymmetric) c (bytes (key kind.Indexes i [])) v.0 v.1))

  none_behind : (higher : ℕ) → 0x20 < higher → is_kind_of higher (behind prefix found) ≡ false
  none_behind higher low = first_behind higher 0x20 (counted_bytes i ++ []) prefix low refl an_index.0 found rising an_index.1

  no_texts : (scan_looks prefix c).texts ≡ 0
  no_texts = texts-scan_looks 0x15 (counted_bytes name) c ∙ ap one_if (behind_kind 0x03 0x15 (counted_bytes name) c (omega arith))

  no_rows : (scan_looks prefix c).rows ≡ 0
  no_rows =
      rows-scan_looks 0x15 (counted_bytes name) c
      ∙ ap (λ (b : Bool). one_if (b || is_kind_of 0x25 (behind prefix found))) (none_behind 0x24 (omega arith))
      ∙ ap one_if (none_behind 0x25 (omega arith))

  no_rules : (scan_looks prefix c).rules ≡ 0
  no_rules = rules-scan_looks 0x15 (counted_bytes name) c ∙ ap one_if (none_behind 0x2a (omega arith))

  pub scan_counts_nothing : (old new : Counts) → RisesBy (scan_looks prefix c) old new → RisesBy no_looks old new
  scan_counts_nothing old new rises = record { texts = omega (arith, rises.texts, no_texts); rows = omega (arith, rises.rows, no_rows); rules = omega (arith, rises.rules, no_rules) }

-- ---- one part after the other

pub counts_then : {K : Type 0} (view : K → KeeperView) (a b d : K) → ReadsKeeper (view a) (view b) None → CountsNothing view a b → CountsNothing view b d → CountsNothing view a d
counts_then view a b d reads first second = λ c holds i there.
    rises_behind no_looks (view a).counts (view b).counts (view d).counts (first c holds i there) (second c (reads_hold (view a) (view b) c reads holds) i there)
