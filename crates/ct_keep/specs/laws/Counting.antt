-- Laws of counts: what one change of a content makes of the count under an owner, and of the counts that are kept.
use Rattle.std.specs.Prelude.{◌≡◌, ℕ, ◌+◌, ◌-◌, ◌≤◌, ◌<◌, nat_lt, Bool, true, false, List, [], ◌∷◌, ◌++◌, length, take, drop, filter, Option, Some, None, unwrap_or, is_some, refl}
use Rattle.std.proofs.Common.{cond, sym, ap, subst, ◌∙◌, arith, length-append, length-take, length-drop}
use Rattle.std.proofs.Math.Seq.{take-append_seam}
use Rattle.std.proofs.lemmas.List.{take-append-drop, length-map}
use Rattle.std.proofs.lemmas.Bool.{lt-ltb, ltb-true}
use Rattle.std.specs.Ordering.{nat_cmp, is_lt}
use Rattle.std.specs.Cmp.Lexicographic.{slice_cmp}
use Rattle.std.specs.FinMap.{get, insert, remove, entries, empty, find, len, len-entries, len-insert, len-remove, get-entries, get-empty}
use Rattle.std.proofs.lemmas.Cmp.{nat_list_cmp_total}
use Rattle.ct_keep.specs.Content.{Content, set_to, begins_with, entries_above, entries_under}
use Rattle.ct_keep.specs.laws.Rising.{Entry, order}
use Rattle.ct_keep.specs.laws.Content.{same, same_keys, same_other, same_itself, same_content, get-set_to, entries-empty}
use Rattle.ct_keep.specs.Tail.{tail}
use Rattle.ct_keep.specs.laws.Tail.{entries-tail, get-tail, get-tail_nil, tail-set_to}
use Rattle.ct_keep.specs.Counting.{count_under, IsOwner, owner_prefix, owner_count, key_count, PrefixCounts, prefix_count, AreCounts, CountsMore, CountsLess}

-- ---- keys by their owners

pub owner_prefix-append : (p : List ℕ) (x : ℕ) (q : List ℕ) → IsOwner p → owner_prefix (p ++ x ∷ q) ≡ Some p
owner_prefix-append p x q owner = subst (λ (l : List ℕ). owner_prefix (l ++ x ∷ q) ≡ Some l) (sym owner.is) (named owner.kind owner.name)
  where
    named : (kind : ℕ) (name : List ℕ) → owner_prefix (kind ∷ length name ∷ (name ++ x ∷ q)) ≡ Some (kind ∷ length name ∷ name)
    named kind name =
        let follows : nat_lt (length name) (length (name ++ x ∷ q)) ≡ true = lt-ltb (length name) (length (name ++ x ∷ q)) (omega (arith, length-append name (x ∷ q))) in
        rw (follows, take-append_seam name (x ∷ q)) refl

-- a key, by the prefix of its owner and what follows it
pub record IsUnder (p key : List ℕ) : Type 0 where
  pub owner : IsOwner p
  pub first : ℕ
  pub others : List ℕ
  pub is : key ≡ p ++ first ∷ others

pub under_prefix : (p key : List ℕ) → owner_prefix key ≡ Some p → IsUnder p key
under_prefix p [] is = cc
under_prefix p (kind ∷ []) is = cc
under_prefix p (kind ∷ n ∷ rest) is = go (nat_lt n (length rest)) refl is
  where
    split : n < length rest → (d : List ℕ) → drop n rest ≡ d → IsUnder (kind ∷ n ∷ take n rest) (kind ∷ n ∷ rest)
    split lt [] e = absurd (omega (arith, lt, length-drop n rest, ap (λ (l : List ℕ). length l) e))
    split lt (x ∷ q) e =
        let size : n ≡ length (take n rest) = omega (arith, lt, length-take n rest) in
        record {
          owner = record { kind = kind; name = take n rest; is = ap (λ (k : ℕ). kind ∷ k ∷ take n rest) size };
          first = x;
          others = q;
          is = ap (λ (l : List ℕ). kind ∷ n ∷ l) (sym (take-append-drop n rest) ∙ ap (λ (l : List ℕ). take n rest ++ l) e);
        }

    go : (b : Bool) → nat_lt n (length rest) ≡ b → cond b (Some (kind ∷ n ∷ take n rest)) None ≡ Some p → IsUnder p (kind ∷ n ∷ rest)
    go true lt is = let one : kind ∷ n ∷ take n rest ≡ p = cc in subst (λ (l : List ℕ). IsUnder l (kind ∷ n ∷ rest)) one (split (ltb-true n (length rest) lt) (drop n rest) refl)
    go false lt is = cc

-- ---- one change of a content

-- so much for a value, and nothing where there is none
abbrev pub for_value : Option (List ℕ) → ℕ → ℕ
for_value None n = 0
for_value (Some value) n = n

nothing_for_value : (o : Option (List ℕ)) → for_value o 0 ≡ 0
nothing_for_value None = refl
nothing_for_value (Some value) = refl

some_entry : (k v : List ℕ) (es : List Entry) → find (slice_cmp nat_cmp) k es ≡ Some v → 1 ≤ length es
some_entry k v [] is = cc
some_entry k v (e ∷ es) is = omega arith

length-set_to : (k : List ℕ) (o : Option (List ℕ)) (t : Content) → length (entries (set_to k o t)) + for_value (get t k) 1 ≡ length (entries t) + for_value o 1
length-set_to k (Some value) t = go (get t k) refl
  where
    go : (was : Option (List ℕ)) → get t k ≡ was → length (entries (insert t k value)) + for_value was 1 ≡ length (entries t) + 1
    go None is = omega (arith, sym (len-entries (insert t k value)) ∙ len-insert nat_list_cmp_total t k value ∙ ap (λ (o : Option (List ℕ)). cond (is_some o) (len t) (len t + 1)) is, len-entries t)
    go (Some v) is = omega (arith, sym (len-entries (insert t k value)) ∙ len-insert nat_list_cmp_total t k value ∙ ap (λ (o : Option (List ℕ)). cond (is_some o) (len t) (len t + 1)) is, len-entries t)
length-set_to k None t = go (get t k) refl
  where
    go : (was : Option (List ℕ)) → get t k ≡ was → length (entries (remove t k)) + for_value was 1 ≡ length (entries t) + 0
    go None is = omega (arith, sym (len-entries (remove t k)) ∙ len-remove nat_list_cmp_total t k ∙ ap (λ (o : Option (List ℕ)). cond (is_some o) (len t - 1) (len t)) is, len-entries t)
    go (Some v) is =
        let some = some_entry k v (entries t) (sym (get-entries t k) ∙ is) in
        omega (arith, sym (len-entries (remove t k)) ∙ len-remove nat_list_cmp_total t k ∙ ap (λ (o : Option (List ℕ)). cond (is_some o) (len t - 1) (len t)) is, len-entries t, some)

module _ (p key : List ℕ) (o : Option (List ℕ)) (m : Content) where
  -- the change counts so much
  abbrev Counted : ℕ → Type 0
  Counted n = count_under p (set_to key o m) + for_value (get m key) n ≡ count_under p m + for_value o n

  -- it is one of the owner's
  counted_here : owner_prefix key ≡ Some p → Counted 1
  counted_here is =
      let under = under_prefix p key is in
      subst (λ (k : List ℕ). count_under p (set_to k o m) + for_value (get m k) 1 ≡ count_under p m + for_value o 1) (sym under.is) (at under.first under.others)
    where
      at : (x : ℕ) (q : List ℕ) → count_under p (set_to (p ++ x ∷ q) o m) + for_value (get m (p ++ x ∷ q)) 1 ≡ count_under p m + for_value o 1
      at x q =
          ap (λ (t : Content). length (entries t) + for_value (get m (p ++ x ∷ q)) 1) (tail-set_to p x q o m)
          ∙ ap (λ (was : Option (List ℕ)). length (entries (set_to (x ∷ q) o (tail p m))) + for_value was 1) (sym (get-tail p m x q))
          ∙ length-set_to (x ∷ q) o (tail p m)

  -- it isn't
  counted_elsewhere : ((x : ℕ) (q : List ℕ) → p ++ x ∷ q ≡ key → ⊥) → Counted 0
  counted_elsewhere apart = omega (arith, ap (λ (t : Content). length (entries t)) same_tail, nothing_for_value (get m key), nothing_for_value o)
    where
      at : (k : List ℕ) → get (tail p (set_to key o m)) k ≡ get (tail p m) k
      at [] = get-tail_nil p (set_to key o m) ∙ sym (get-tail_nil p m)
      at (x ∷ q) =
          get-tail p (set_to key o m) x q ∙ get-set_to key o m (p ++ x ∷ q)
          ∙ ap (λ (b : Bool). cond b o (get m (p ++ x ∷ q))) (same_other (p ++ x ∷ q) key (apart x q))
          ∙ sym (get-tail p m x q)

      same_tail : tail p (set_to key o m) ≡ tail p m
      same_tail = same_content (tail p (set_to key o m)) (tail p m) at

  -- It takes the count of the entry that it replaces, and brings that of its own.
  pub count_under-set_to : IsOwner p → count_under p (set_to key o m) + for_value (get m key) (key_count p key) ≡ count_under p m + for_value o (key_count p key)
  count_under-set_to owner = go (owner_prefix key) refl
    where
      prefix : (x : ℕ) (q : List ℕ) → p ++ x ∷ q ≡ key → owner_prefix key ≡ Some p
      prefix x q is = ap owner_prefix (sym is) ∙ owner_prefix-append p x q owner

      at : (other : List ℕ) (b : Bool) → same p other ≡ b → owner_prefix key ≡ Some other → Counted (cond b 1 0)
      at other true e is = counted_here (is ∙ ap Some (sym (same_keys p other e)))
      at other false e is = counted_elsewhere (λ x q k. let one : p ≡ other = cc (prefix x q k) in let wrong = ap (same p) one in cc (same_itself p))

      go : (whose : Option (List ℕ)) → owner_prefix key ≡ whose → Counted (owner_count p whose)
      go None is = counted_elsewhere (λ x q k. cc (prefix x q k))
      go (Some other) is = at other (same p other) refl is

-- no count is greater than the number of entries
filtered_length : (f : Entry → Bool) (es : List Entry) → length (filter f es) ≤ length es
filtered_length f [] = omega arith
filtered_length f (e ∷ es) = go (f e) (filtered_length f es)
  where
    go : (b : Bool) → length (filter f es) ≤ length es → length (cond b (e ∷ filter f es) (filter f es)) ≤ length (e ∷ es)
    go true h = omega (arith, h)
    go false h = omega (arith, h)

pub count_under-le : (p : List ℕ) (m : Content) → count_under p m ≤ length (entries m)
count_under-le p m =
    let all = ap (λ (es : List Entry). length es) (entries-tail p m) in
    let cut_all = length-map {B = Entry} (entries_under p m) (λ e. (drop (length p) e.0, e.1)) in
    let under = filtered_length (λ (e : Entry). begins_with p e.0) (entries_above p m) in
    let above = filtered_length (λ (e : Entry). is_lt (order p e.0)) (entries m) in
    omega (arith, all, cut_all, under, above)

-- ---- the counts that are kept

pub counts_none : AreCounts empty empty
counts_none = record { each = λ p owner. ap (λ (o : Option ℕ). unwrap_or o 0) (get-empty (slice_cmp nat_cmp) p) ∙ sym (none p) }
  where
    none : (p : List ℕ) → count_under p empty ≡ 0
    none p = let few = count_under-le p empty in omega (arith, few, ap (λ (es : List Entry). length es) entries-empty)

-- of an entry whose key is new
pub counts_added : (m : Content) (old new : PrefixCounts) (key value : List ℕ) → AreCounts m old → get m key ≡ None → CountsMore key old new → AreCounts (insert m key value) new
counts_added m old new key value are absent more = record {
  each = λ p owner.
      let law = count_under-set_to p key (Some value) m owner in
      let was = ap (λ (o : Option (List ℕ)). for_value o (key_count p key)) absent in
      omega (arith, more.each p, are.each p owner, law, was);
}

-- of one whose value is replaced
pub counts_replaced : (m : Content) (counts : PrefixCounts) (key value was : List ℕ) → AreCounts m counts → get m key ≡ Some was → AreCounts (insert m key value) counts
counts_replaced m counts key value was are there = record {
  each = λ p owner.
      let law = count_under-set_to p key (Some value) m owner in
      let before = ap (λ (o : Option (List ℕ)). for_value o (key_count p key)) there in
      omega (arith, are.each p owner, law, before);
}

-- of one that is taken out
pub counts_taken : (m : Content) (old new : PrefixCounts) (key was : List ℕ) → AreCounts m old → get m key ≡ Some was → CountsLess key old new → AreCounts (remove m key) new
counts_taken m old new key was are there less = record {
  each = λ p owner.
      let law = count_under-set_to p key None m owner in
      let before = ap (λ (o : Option (List ℕ)). for_value o (key_count p key)) there in
      omega (arith, less.each p, are.each p owner, law, before);
}

-- of none, where there is none to take out
pub counts_not_taken : (m : Content) (counts : PrefixCounts) (key : List ℕ) → AreCounts m counts → get m key ≡ None → AreCounts (remove m key) counts
counts_not_taken m counts key are absent = record {
  each = λ p owner.
      let law = count_under-set_to p key None m owner in
      let before = ap (λ (o : Option (List ℕ)). for_value o (key_count p key)) absent in
      omega (arith, are.each p owner, law, before);
}

-- a count that is kept is bounded by the number of entries
pub prefix_count-le : (m : Content) (counts : PrefixCounts) (p key : List ℕ) → AreCounts m counts → owner_prefix key ≡ Some p → prefix_count p counts ≤ length (entries m)
prefix_count-le m counts p key are is = omega (arith, are.each p (under_prefix p key is).owner, count_under-le p m)
