-- Laws of contents: what changes make of them, and what they weigh.
use Rattle.std.specs.Prelude.{ℕ, ◌≡◌, ◌≢◌, ◌+◌, ◌*◌, ◌≤◌, sum_by, Bool, true, false, not, List, [], ◌∷◌, ◌++◌, length, filter, Option, Some, None, unwrap_or, codes, refl}
use Rattle.std.proofs.Common.{cond, sym, ap, ◌∙◌, arith}
use Rattle.std.specs.Option.{option_or}
use Rattle.std.specs.Bool.{if◌then◌else◌}
use Rattle.std.specs.declared.cmp.Ordering.{Ordering}
use Rattle.std.specs.declared.cmp.Ordering.TheVariants.{Less, Equal, Greater}
use Rattle.std.specs.Ordering.{nat_cmp, is_eq, is_lt, eq_by_cmp, ordering_then}
use Rattle.std.specs.Cmp.Lexicographic.{slice_cmp}
use Rattle.std.specs.FinMap.{get, insert, remove, entries, empty, find, put, from_sorted, entries-insert, entries-from_sorted, get-entries, get-insert, get-remove, get-from_sorted, len-empty, len-entries, same_map}
use Rattle.std.proofs.lemmas.Cmp.{tied_itself, nat_cmp_total, nat_list_cmp_total, eq_by_cmp_equiv}
use Rattle.std.proofs.lemmas.Map.Lookups.{exact_bytes}
use Rattle.std.proofs.lemmas.List.Sums.{sum_by-cons}
use Rattle.ct_keep.specs.Content.{Content, Change, set_to, after, entry_weight, weight, begins_with, entries_under, value_weight, changes_weight}
use Rattle.ct_keep.specs.laws.Rising.{Entry, order, below, is_rising, rises_filter, entries_rise, sorted_from_rises, below_lower}
use Rattle.ct_base.specs.laws.Orders.{less_from_test, equal_from_test}
use Rattle.std.proofs.lemmas.Bool.{and_parts}
use Rattle.ct_base.specs.laws.Bools.{T_from_true}

-- ---- keys that are one

abbrev pub same : List ℕ → List ℕ → Bool
same a b = eq_by_cmp (slice_cmp nat_cmp) a b

pub same_itself : (k : List ℕ) → same k k ≡ true
same_itself k = ap is_eq (tied_itself nat_list_cmp_total k)

pub same_keys : (a b : List ℕ) → same a b ≡ true → a ≡ b
same_keys a b e = exact_bytes a b (equal_from_test (order a b) e)

pub same_other : (a b : List ℕ) → a ≢ b → same a b ≡ false
same_other a b apart = elim (same a b) as (λ t. same a b ≡ t → same a b ≡ false) [ true ↦ λ t. absurd (apart (same_keys a b t)) | false ↦ λ t. t ] refl

pub same_back : (a b : List ℕ) → same a b ≡ same b a
same_back a b = (eq_by_cmp_equiv nat_list_cmp_total).symm a b

pub same-prefix : (p a b : List ℕ) → same (p ++ a) (p ++ b) ≡ same a b
same-prefix [] a b = refl
same-prefix (x ∷ p) a b = ap (λ (o : Ordering). is_eq (ordering_then o (order (p ++ a) (p ++ b)))) (tied_itself nat_cmp_total x) ∙ same-prefix p a b

-- ---- what a content has after changes

pub get-set_to : (key : List ℕ) (o : Option (List ℕ)) (m : Content) (q : List ℕ) → get (set_to key o m) q ≡ cond (same q key) o (get m q)
get-set_to key None m q = get-remove nat_list_cmp_total m key q
get-set_to key (Some value) m q = get-insert nat_list_cmp_total m key value q

-- what the last change on a key says, if there is one
abbrev pub last_change : List ℕ → List Change → Option (Option (List ℕ))
last_change q [] = None
last_change q (w ∷ ws) = option_or (last_change q ws) (if same q w.0 then Some w.1 else None)

pub get-after : (ws : List Change) (m : Content) (q : List ℕ) → get (after ws m) q ≡ unwrap_or (last_change q ws) (get m q)
get-after [] m q = refl
get-after (w ∷ ws) m q = get-after ws (set_to w.0 w.1 m) q ∙ ap (unwrap_or (last_change q ws)) (get-set_to w.0 w.1 m q) ∙ either (last_change q ws) (same q w.0)
  where
    either : (o : Option (Option (List ℕ))) (b : Bool) → unwrap_or o (cond b w.1 (get m q)) ≡ unwrap_or (option_or o (cond b (Some w.1) None)) (get m q)
    either None true = refl
    either None false = refl
    either (Some x) b = refl

pub after-append : (us ws : List Change) (m : Content) → after (us ++ ws) m ≡ after ws (after us m)
after-append [] ws m = refl
after-append (u ∷ us) ws m = after-append us ws (set_to u.0 u.1 m)

-- contents that have the same at each key are one
pub same_content : (m n : Content) → ((q : List ℕ) → get m q ≡ get n q) → m ≡ n
same_content m n is = same_map nat_list_cmp_total exact_bytes m n is

-- ---- the entries after one change

pub entries-empty : entries (empty {X = List ℕ} {R = slice_cmp nat_cmp}) ≡ []
entries-empty = none (entries (empty {X = List ℕ} {R = slice_cmp nat_cmp})) (sym (len-entries (empty {X = List ℕ} {R = slice_cmp nat_cmp})) ∙ len-empty (slice_cmp nat_cmp) (List ℕ))
  where
    none : (es : List Entry) → length es ≡ 0 → es ≡ []
    none [] e = refl
    none (x ∷ es) e = absurd (omega arith)

-- where the content's entries are known, those after an insertion compute
pub entries_put : (m : Content) (key value : List ℕ) (es : List Entry) → entries m ≡ es → entries (insert m key value) ≡ put (slice_cmp nat_cmp) key value es
entries_put m key value es is = entries-insert nat_list_cmp_total m key value ∙ ap (put (slice_cmp nat_cmp) key value) is

pub entries-insert_empty : (key value : List ℕ) → entries (insert (empty {X = List ℕ} {R = slice_cmp nat_cmp}) key value) ≡ (key, value) ∷ []
entries-insert_empty key value = entries_put empty key value [] entries-empty

-- a look-up among the entries whose keys pass a test
pub find-filter : (p : List ℕ → Bool) (q : List ℕ) (es : List Entry) → find (slice_cmp nat_cmp) q (filter (λ e. p e.0) es) ≡ cond (p q) (find (slice_cmp nat_cmp) q es) None
find-filter p q [] = elim (p q) as (λ b. ◌≡◌ {A = Option (List ℕ)} None (cond b None None)) [ true ↦ refl | false ↦ refl ]
find-filter p q (e ∷ es) =
    elim (same q e.0) as (λ t. same q e.0 ≡ t → find (slice_cmp nat_cmp) q (cond (p e.0) (e ∷ filter (λ e. p e.0) es) (filter (λ e. p e.0) es)) ≡ cond (p q) (cond t (Some e.1) (find (slice_cmp nat_cmp) q es)) None) [
      | true ↦ λ t. ap (λ (b : Bool). find (slice_cmp nat_cmp) q (cond b (e ∷ filter (λ e. p e.0) es) (filter (λ e. p e.0) es))) (ap p (sym (same_keys q e.0 t))) ∙ here (p q) t (find-filter p q es)
      | false ↦ λ t. passed (p e.0) t ∙ find-filter p q es
    ] refl
  where
    here : (b : Bool) → same q e.0 ≡ true → find (slice_cmp nat_cmp) q (filter (λ e. p e.0) es) ≡ cond b (find (slice_cmp nat_cmp) q es) None → find (slice_cmp nat_cmp) q (cond b (e ∷ filter (λ e. p e.0) es) (filter (λ e. p e.0) es)) ≡ cond b (Some e.1) None
    here true t rest = ap (λ (x : Bool). cond x (Some e.1) (find (slice_cmp nat_cmp) q (filter (λ e. p e.0) es))) t
    here false t rest = rest

    passed : (b : Bool) → same q e.0 ≡ false → find (slice_cmp nat_cmp) q (cond b (e ∷ filter (λ e. p e.0) es) (filter (λ e. p e.0) es)) ≡ find (slice_cmp nat_cmp) q (filter (λ e. p e.0) es)
    passed true t = ap (λ (x : Bool). cond x (Some e.1) (find (slice_cmp nat_cmp) q (filter (λ e. p e.0) es))) t
    passed false t = refl

abbrev pub without : List ℕ → List Entry → List Entry
without key es = filter (λ e. not (same key e.0)) es

pub entries-remove : (m : Content) (key : List ℕ) → entries (remove m key) ≡ without key (entries m)
entries-remove m key =
    let sorted = T_from_true _ (sorted_from_rises (without key (entries m)) (rises_filter (λ e. not (same key e.0)) (entries m) (entries_rise m))) in
    ap entries (same_content (remove m key) (from_sorted (without key (entries m))) (λ q.
    get-remove nat_list_cmp_total m key q ∙ turned (same q key) (same key q) (get m q) (same_back q key)
    ∙ sym (get-from_sorted (slice_cmp nat_cmp) (without key (entries m)) q sorted ∙ find-filter (λ k. not (same key k)) q (entries m) ∙ ap (λ (o : Option (List ℕ)). cond (not (same key q)) o None) (sym (get-entries m q)))))
    ∙ entries-from_sorted (slice_cmp nat_cmp) (without key (entries m)) sorted
  where
    turned : (a b : Bool) (o : Option (List ℕ)) → a ≡ b → cond a None o ≡ cond (not b) o None
    turned true true o e = refl
    turned false false o e = refl
    turned true false o e = cc
    turned false true o e = cc

-- what changes make of entries in the order of their keys
abbrev pub applied : List Change → List Entry → List Entry
applied [] es = es
applied ((key, Some value) ∷ ws) es = applied ws (put (slice_cmp nat_cmp) key value es)
applied ((key, None) ∷ ws) es = applied ws (without key es)

pub entries-after : (ws : List Change) (m : Content) → entries (after ws m) ≡ applied ws (entries m)
entries-after [] m = refl
entries-after ((key, Some value) ∷ ws) m = entries-after ws (insert m key value) ∙ ap (applied ws) (entries-insert nat_list_cmp_total m key value)
entries-after ((key, None) ∷ ws) m = entries-after ws (remove m key) ∙ ap (applied ws) (entries-remove m key)

-- ---- weights

pub weight-empty : weight empty ≡ 0
weight-empty = ap (sum_by entry_weight) entries-empty

not_found : (key : List ℕ) (es : List Entry) → below key es ≡ true → find (slice_cmp nat_cmp) key es ≡ None
not_found key [] h = refl
not_found key (e ∷ es) h = let b = and_parts (is_lt (order key e.0)) (below key es) h in rw (less_from_test (order key e.0) b.0) (not_found key es b.1)

nothing_without : (key : List ℕ) (es : List Entry) → below key es ≡ true → without key es ≡ es
nothing_without key [] h = refl
nothing_without key (e ∷ es) h = let b = and_parts (is_lt (order key e.0)) (below key es) h in rw (less_from_test (order key e.0) b.0) (ap (λ (l : List Entry). e ∷ l) (nothing_without key es b.1))

-- the sum from the first on
total : List Entry → ℕ
total [] = 0
total (e ∷ es) = entry_weight e + total es

sum-total : (es : List Entry) → sum_by entry_weight es ≡ total es
unfolding total
sum-total [] = refl
sum-total (e ∷ es) = sum_by-cons entry_weight e es ∙ ap (λ (n : ℕ). entry_weight e + n) (sum-total es)

-- the choice of `put`
abbrev by_order : {A : Type 0} → Ordering → A → A → A → A
by_order Less a b c = a
by_order Equal a b c = b
by_order Greater a b c = c

total_put : (key value : List ℕ) (es : List Entry) → is_rising es ≡ true → total (put (slice_cmp nat_cmp) key value es) + value_weight key (find (slice_cmp nat_cmp) key es) ≡ total es + entry_weight (key, value)
unfolding total
total_put key value [] h = omega arith
total_put key value (e ∷ es) h =
    let b = and_parts (below e.0 es) (is_rising es) h in
    elim (order key e.0) as (λ o. order key e.0 ≡ o → total (by_order o ((key, value) ∷ e ∷ es) ((e.0, value) ∷ es) (e ∷ put (slice_cmp nat_cmp) key value es)) + value_weight key (cond (is_eq o) (Some e.1) (find (slice_cmp nat_cmp) key es)) ≡ (entry_weight e + total es) + entry_weight (key, value)) [
      | Less ↦ λ lt. rw (not_found key es (below_lower key e.0 es lt b.0)) (omega arith)
      | Equal ↦ λ eq. let one : key ≡ e.0 = exact_bytes key e.0 eq in rw one (omega arith)
      | Greater ↦ λ gt. let rest = total_put key value es b.1 in omega (arith, rest)
    ] refl

total_without : (key : List ℕ) (es : List Entry) → is_rising es ≡ true → total (without key es) + value_weight key (find (slice_cmp nat_cmp) key es) ≡ total es
unfolding total
total_without key [] h = refl
total_without key (e ∷ es) h =
    let b = and_parts (below e.0 es) (is_rising es) h in
    elim (same key e.0) as (λ t. same key e.0 ≡ t → total (cond (not t) (e ∷ without key es) (without key es)) + value_weight key (cond t (Some e.1) (find (slice_cmp nat_cmp) key es)) ≡ entry_weight e + total es) [
      | true ↦ λ t. let one : key ≡ e.0 = same_keys key e.0 t in rw (one, nothing_without e.0 es b.0) (omega arith)
      | false ↦ λ t. let rest = total_without key es b.1 in omega (arith, rest)
    ] refl

-- One change takes the weight of the entry that it replaces, and brings that of its own.
pub weight-set_to : (key : List ℕ) (o : Option (List ℕ)) (m : Content) → weight (set_to key o m) + value_weight key (get m key) ≡ weight m + value_weight key o
weight-set_to key None m =
    let before = sum-total (entries m) in
    let behind = ap (sum_by entry_weight) (entries-remove m key) ∙ sum-total (without key (entries m)) in
    let found = ap (value_weight key) (get-entries m key) in
    let both = total_without key (entries m) (entries_rise m) in
    omega (arith, before, behind, found, both)
weight-set_to key (Some value) m =
    let before = sum-total (entries m) in
    let behind = ap (sum_by entry_weight) (entries-insert nat_list_cmp_total m key value) ∙ sum-total (put (slice_cmp nat_cmp) key value (entries m)) in
    let found = ap (value_weight key) (get-entries m key) in
    let both = total_put key value (entries m) (entries_rise m) in
    omega (arith, before, behind, found, both)

-- changes add no more than they weigh
pub weight-after_le : (ws : List Change) (m : Content) → weight (after ws m) ≤ weight m + changes_weight ws
weight-after_le [] m = omega arith
weight-after_le (w ∷ ws) m =
    let one = weight-set_to w.0 w.1 m in
    let rest = weight-after_le ws (set_to w.0 w.1 m) in
    omega (arith, one, rest)

total_of_length : (es : List Entry) → length es * 64 ≤ total es
unfolding total
total_of_length [] = omega arith
total_of_length (e ∷ es) = let rest = total_of_length es in omega (arith, rest)

-- each entry weighs at least 64
pub weight_of_length : (m : Content) → length (entries m) * 64 ≤ weight m
weight_of_length m = let each = total_of_length (entries m) in let sum = sum-total (entries m) in omega (arith, each, sum)

-- ---- the definitions at work

abbrev pub three_changes : List Change
three_changes = (codes "b", Some (codes "x")) ∷ (codes "ab", Some (codes "y")) ∷ (codes "a", Some (codes "z")) ∷ []

-- the last change on a key counts, and one change says nothing of other keys
last_counts : (m : Content) → get (after ((codes "a", None) ∷ (codes "a", Some (codes "one")) ∷ (codes "ab", None) ∷ (codes "a", Some (codes "two")) ∷ []) m) (codes "a") ≡ Some (codes "two")
last_counts m = get-after ((codes "a", None) ∷ (codes "a", Some (codes "one")) ∷ (codes "ab", None) ∷ (codes "a", Some (codes "two")) ∷ []) m (codes "a")

goes_again : (m : Content) → get (after ((codes "a", Some (codes "one")) ∷ (codes "a", None) ∷ []) m) (codes "a") ≡ None
goes_again m = get-after ((codes "a", Some (codes "one")) ∷ (codes "a", None) ∷ []) m (codes "a")

others_stay : (m : Content) → get (after ((codes "a", Some (codes "one")) ∷ (codes "ab", None) ∷ []) m) (codes "b") ≡ get m (codes "b")
others_stay m = get-after ((codes "a", Some (codes "one")) ∷ (codes "ab", None) ∷ []) m (codes "b")

-- entries stand in the order of their keys
pub in_order : entries (after three_changes empty) ≡ (codes "a", codes "z") ∷ (codes "ab", codes "y") ∷ (codes "b", codes "x") ∷ []
in_order = entries_put _ (codes "a") (codes "z") _ (entries_put _ (codes "ab") (codes "y") _ (entries-insert_empty (codes "b") (codes "x")))

-- of the entries under a prefix neither is the one of the prefix itself, nor one that begins otherwise
pub under_a : entries_under (codes "a") (after three_changes empty) ≡ (codes "ab", codes "y") ∷ []
under_a = ap (λ (es : List Entry). filter (λ e. begins_with (codes "a") e.0) (filter (λ e. is_lt (order (codes "a") e.0)) es)) in_order

three_weigh : weight (after three_changes empty) ≡ 192
three_weigh = ap (sum_by entry_weight) in_order
