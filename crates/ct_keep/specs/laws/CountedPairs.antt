-- Laws of counts in memory: against the map in memory, and of one entry more or less.
use Rattle.std.specs.Prelude.{◌≡◌, ℕ, ◌+◌, ◌-◌, Bool, true, false, List, Option, Some, None, is_some, unwrap_or, refl}
use Rattle.std.proofs.Common.{[], cond, sym, ap, ◌∙◌, arith}
use Rattle.std.specs.Option.{option_map}
use Rattle.std.specs.Ordering.{nat_cmp}
use Rattle.std.specs.Cmp.Lexicographic.{slice_cmp}
use Rattle.std.specs.List.Sorted.{IsStrictlySortedBy}
use Rattle.std.specs.Map.{keys_of, lookup, set_value}
use Rattle.std.specs.BTreeMap.{insert_entry, is_at}
use Rattle.std.specs.FinMap.{get, insert, empty, get-insert}
use Rattle.std.proofs.lemmas.Cmp.{nat_list_cmp_total}
use Rattle.std.proofs.lemmas.Map.Lookups.{exact_bytes}
use Rattle.ct_base.specs.laws.SortedMaps.{seen-none, seen-insert, seen-set_value, lookup-seen}
use Rattle.ct_keep.specs.declared.entry_keys.EntryKey.{EntryKey}
use Rattle.ct_keep.specs.EntryKeys.{key_bytes, entry_key_order}
use Rattle.ct_keep.specs.laws.Content.{same, same_keys}
use Rattle.ct_keep.specs.Counting.{PrefixCounts, prefix_count, owner_prefix, owner_count, CountsMore, CountsLess}
use Rattle.ct_keep.specs.CountedPairs.{CountEntry, as_count, counts_of}

pub counts_of-none : counts_of [] ≡ empty
counts_of-none = seen-none (slice_cmp nat_cmp) key_bytes as_count

same_number : (o : Option ℕ) → option_map as_count o ≡ o
same_number None = refl
same_number (Some n) = refl

pub get-counts_of : (es : List CountEntry) (p : List ℕ) → IsStrictlySortedBy entry_key_order (keys_of es) → lookup (is_at (λ x. slice_cmp nat_cmp p (key_bytes x))) es ≡ get (counts_of es) p
get-counts_of es p s = sym (same_number (lookup (is_at (λ (x : EntryKey). slice_cmp nat_cmp p (key_bytes x))) es)) ∙ lookup-seen (slice_cmp nat_cmp) key_bytes as_count es p s

pub counts_of-insert : (old new : List CountEntry) (k : EntryKey) (n : ℕ) → IsStrictlySortedBy entry_key_order (keys_of old) → IsStrictlySortedBy entry_key_order (keys_of new) → new ≡ insert_entry entry_key_order old k n
    → counts_of new ≡ insert (counts_of old) (key_bytes k) n
counts_of-insert old new k n s t is = seen-insert (slice_cmp nat_cmp) key_bytes as_count nat_list_cmp_total old new k n s t is

pub counts_of-set_value : (old new : List CountEntry) (p : List ℕ) (n : ℕ) → IsStrictlySortedBy entry_key_order (keys_of old) → IsStrictlySortedBy entry_key_order (keys_of new) → is_some (get (counts_of old) p) ≡ true → new ≡ set_value (is_at (λ x. slice_cmp nat_cmp p (key_bytes x))) old n
    → counts_of new ≡ insert (counts_of old) p n
counts_of-set_value old new p n s t there is = seen-set_value (slice_cmp nat_cmp) key_bytes as_count nat_list_cmp_total exact_bytes old new p n s t there is

-- ---- one entry more or less

prefix_count-insert : (counts : PrefixCounts) (owner : List ℕ) (n : ℕ) (p : List ℕ) → prefix_count p (insert counts owner n) ≡ cond (same p owner) n (prefix_count p counts)
prefix_count-insert counts owner n p = ap (λ (o : Option ℕ). unwrap_or o 0) (get-insert nat_list_cmp_total counts owner n p) ∙ elim (same p owner) as (λ b. unwrap_or (cond b (Some n) (get counts p)) 0 ≡ cond b n (prefix_count p counts)) [ true ↦ refl | false ↦ refl ]

module _ (key : List ℕ) (old : PrefixCounts) where
  pub counts_unowned : owner_prefix key ≡ None → CountsLess key old old
  counts_unowned none = record { each = λ p. omega (arith, ap (owner_count p) none) }

  module _ (owner : List ℕ) (whose : owner_prefix key ≡ Some owner) where
    pub counts_more : (new : PrefixCounts) → new ≡ insert old owner (prefix_count owner old + 1) → CountsMore key old new
    counts_more new is = record {
      each = λ p. ap (prefix_count p) is ∙ prefix_count-insert old owner (prefix_count owner old + 1) p ∙ at p (same p owner) refl ∙ ap (λ (o : Option (List ℕ)). prefix_count p old + owner_count p o) (sym whose);
    }
      where
        at : (p : List ℕ) (b : Bool) → same p owner ≡ b → cond b (prefix_count owner old + 1) (prefix_count p old) ≡ prefix_count p old + cond b 1 0
        at p true e = ap (λ (l : List ℕ). prefix_count l old + 1) (sym (same_keys p owner e))
        at p false e = omega arith

    pub counts_less : (new : PrefixCounts) → new ≡ insert old owner (prefix_count owner old - 1) → CountsLess key old new
    counts_less new is = record {
      each = λ p. ap (prefix_count p) is ∙ prefix_count-insert old owner (prefix_count owner old - 1) p ∙ at p (same p owner) refl ∙ ap (λ (o : Option (List ℕ)). prefix_count p old - owner_count p o) (sym whose);
    }
      where
        at : (p : List ℕ) (b : Bool) → same p owner ≡ b → cond b (prefix_count owner old - 1) (prefix_count p old) ≡ prefix_count p old - cond b 1 0
        at p true e = ap (λ (l : List ℕ). prefix_count l old - 1) (sym (same_keys p owner e))
        at p false e = omega arith

    -- where nothing is counted, nothing goes
    pub counts_none_less : get old owner ≡ None → CountsLess key old old
    counts_none_less none = record { each = λ p. at p (same p owner) refl ∙ ap (λ (o : Option (List ℕ)). prefix_count p old - owner_count p o) (sym whose) }
      where
        at : (p : List ℕ) (b : Bool) → same p owner ≡ b → prefix_count p old ≡ prefix_count p old - cond b 1 0
        at p true e = let nothing = ap (λ (l : List ℕ). prefix_count l old) (same_keys p owner e) ∙ ap (λ (o : Option ℕ). unwrap_or o 0) none in omega (arith, nothing)
        at p false e = omega arith
