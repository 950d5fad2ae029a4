-- Laws of counts: what look-ups add, one after the other, and how much at most.
use Rattle.std.specs.Prelude.{ℕ, ◌≡◌, ◌+◌, ◌≤◌, ◌==◌, ◌||◌, Bool, true, false, List, [], ◌∷◌, length, drop, Option, Some, None, refl}
use Rattle.std.proofs.Common.{cond, sym, ap, ◌∙◌, arith, inl, inr, ◌<◌}
use Rattle.std.proofs.lemmas.Bool.{eqb-true, and_parts}
use Rattle.std.proofs.lemmas.Bool.Decides.{nat_tests}
use Rattle.std.proofs.lemmas.List.{length-map}
use Rattle.std.specs.Bool.{if◌then◌else◌}
use Rattle.std.specs.declared.cmp.Ordering.TheVariants.{Less}
use Rattle.std.specs.Ordering.{nat_cmp, is_lt}
use Rattle.std.specs.FinMap.{entries}
use Rattle.ct_keep.specs.Content.{Content, begins_with, entries_above, entries_under}
use Rattle.ct_keep.specs.KeeperViews.{Counts, counted, is_kind, is_kind_of, is_either, looked_up}
use Rattle.ct_keep.specs.laws.Rising.{Entry, order, those_above, beginning, below, is_rising, rises_filter, entries_rise, begins_itself, none_later}
use Rattle.ct_base.specs.laws.Orders.{less_from_test, less_by_parts, lt_from_less, eq_from_equal}
use Rattle.ct_keep.specs.Tail.{tail}
use Rattle.ct_keep.specs.laws.Tail.{entries-tail}
use Rattle.ct_keep.specs.Looks.{one_if, look, no_looks, plus, looks, scan_looks, behind, raised_count, with_looks, RisesBy}

same_counts : (a b : Counts) → a.texts ≡ b.texts → a.rows ≡ b.rows → a.rules ≡ b.rules → a.fulls ≡ b.fulls → a.commits ≡ b.commits → a ≡ b
same_counts a b texts rows rules fulls commits = λ i. record { texts = texts i; rows = rows i; rules = rules i; fulls = fulls i; commits = commits i }

raised_count-plus : (m n k : ℕ) → raised_count n (raised_count m k) ≡ raised_count (m + n) k
raised_count-plus m n k = grind (arith, nat_tests)

raised_count-one_if : (b : Bool) (k : ℕ) → counted b k ≡ raised_count (one_if b) k
raised_count-one_if true k = refl
raised_count-one_if false k = refl

raised_by_le : (n k : ℕ) → raised_count n k ≤ k + n
raised_by_le n k = grind (arith, nat_tests)

-- ---- counts to which so much was added

pub raised-none : (c : Counts) → with_looks no_looks c ≡ c
raised-none c = refl

-- one part after the other
pub raised-plus : (a b c : Counts) → with_looks b (with_looks a c) ≡ with_looks (plus a b) c
raised-plus a b c = same_counts _ _ (raised_count-plus a.texts b.texts c.texts) (raised_count-plus a.rows b.rows c.rows) (raised_count-plus a.rules b.rules c.rules) (raised_count-plus a.fulls b.fulls c.fulls) (raised_count-plus a.commits b.commits c.commits)

pub looked_up-raised : (asked : List ℕ) (handed : Option (List ℕ)) (c : Counts) → looked_up asked handed c ≡ with_looks (look asked handed) c
looked_up-raised asked handed c = same_counts _ _
    (raised_count-one_if (is_either 0x03 asked handed) c.texts)
    (raised_count-one_if (is_either 0x24 asked handed || is_either 0x25 asked handed) c.rows)
    (raised_count-one_if (is_either 0x2a asked handed) c.rules)
    refl
    refl

-- ---- how much at most

pub rises_none : (c : Counts) → RisesBy no_looks c c
rises_none c = record { texts = omega arith; rows = omega arith; rules = omega arith }

pub rises_then : (a b old mid new : Counts) → RisesBy a old mid → RisesBy b mid new → RisesBy (plus a b) old new
rises_then a b old mid new first second = record {
  texts = omega (arith, first.texts, second.texts);
  rows = omega (arith, first.rows, second.rows);
  rules = omega (arith, first.rules, second.rules);
}

pub rises_raised : (more c : Counts) → RisesBy more c (with_looks more c)
rises_raised more c = record { texts = raised_by_le more.texts c.texts; rows = raised_by_le more.rows c.rows; rules = raised_by_le more.rules c.rules }

-- ---- what a scan adds: to the counts of its prefix's kind one more than it finds, and to another at most one, for the entry behind

-- how many entries at the beginning are under the prefix
prefixes : List ℕ → List Entry → ℕ
prefixes p [] = 0
prefixes p (e ∷ es) = if begins_with p e.0 then prefixes p es + 1 else 0

prefixes_are : (p k : List ℕ) (es : List Entry) → begins_with p k ≡ true → below k es ≡ true → is_rising es ≡ true → length (beginning p es) ≡ prefixes p es
unfolding prefixes
prefixes_are p k [] pk b r = refl
prefixes_are p k (e ∷ es) pk b r =
    let b2 = and_parts (is_lt (order k e.0)) (below k es) b in
    let r2 = and_parts (below e.0 es) (is_rising es) r in
    elim (begins_with p e.0) as (λ t. begins_with p e.0 ≡ t → length (cond t (e ∷ beginning p es) (beginning p es)) ≡ cond t (prefixes p es + 1) 0) [
      | true ↦ λ t. let rest = prefixes_are p e.0 es t r2.0 r2.1 in omega (arith, rest)
      | false ↦ λ t. ap length (none_later p k e.0 es pk (less_from_test _ b2.0) t r2.0)
    ] refl

below_above : (k : List ℕ) (es : List Entry) → below k (those_above k es) ≡ true
below_above k [] = refl
below_above k (e ∷ es) = elim (is_lt (order k e.0)) as (λ t. is_lt (order k e.0) ≡ t → below k (cond t (e ∷ those_above k es) (those_above k es)) ≡ true) [ true ↦ λ t. rw t (below_above k es) | false ↦ λ t. below_above k es ] refl

prefixes-tail : (p : List ℕ) (m : Content) → prefixes p (entries_above p m) ≡ length (entries (tail p m))
prefixes-tail p m =
    sym (prefixes_are p p (entries_above p m) (begins_itself p) (below_above p (entries m)) (rises_filter (λ e. is_lt (order p e.0)) (entries m) (entries_rise m)))
    ∙ sym (ap length (entries-tail p m) ∙ length-map (entries_under p m) (λ e. (drop (length p) e.0, e.1)))

-- whether the key asked for or the one handed out passes a test
passes : (List ℕ → Bool) → List ℕ → Option (List ℕ) → Bool
passes f asked None = f asked
passes f asked (Some handed) = f asked || f handed

tests : (List ℕ → Bool) → Option (List ℕ) → Bool
tests f None = false
tests f (Some key) = f key

-- how many of a scan's look-ups pass
passing : (List ℕ → Bool) → List ℕ → List ℕ → List Entry → ℕ
passing f p k [] = one_if (passes f k None)
passing f p k (e ∷ es) = one_if (passes f k (Some e.0)) + (if begins_with p e.0 then passing f p e.0 es else 0)

looks-passing : (f : List ℕ → Bool) (count : Counts → ℕ) → count no_looks ≡ 0 → ((a b : Counts) → count (plus a b) ≡ count a + count b) → ((k : List ℕ) (h : Option (List ℕ)) → count (look k h) ≡ one_if (passes f k h))
    → (p k : List ℕ) (es : List Entry) → count (looks p k es) ≡ passing f p k es
unfolding passing
looks-passing f count none both one p k [] = one k None
looks-passing f count none both one p k (e ∷ es) =
    let rest = looks-passing f count none both one p e.0 es in
    let more : count (if begins_with p e.0 then looks p e.0 es else no_looks) ≡ (if begins_with p e.0 then passing f p e.0 es else 0) =
    elim (begins_with p e.0) as (λ t. count (cond t (looks p e.0 es) no_looks) ≡ cond t (passing f p e.0 es) 0) [ true ↦ rest | false ↦ none ] in
    both _ _ ∙ ap (λ (n : ℕ). n + count (if begins_with p e.0 then looks p e.0 es else no_looks)) (one k (Some e.0)) ∙ ap (λ (n : ℕ). one_if (passes f k (Some e.0)) + n) more

-- where each key under the prefix passes
passing_all : (f : List ℕ → Bool) (p : List ℕ) → ((k : List ℕ) → begins_with p k ≡ true → f k ≡ true) → (k : List ℕ) (es : List Entry) → begins_with p k ≡ true → passing f p k es ≡ prefixes p es + 1
unfolding passing passes prefixes
passing_all f p pass k [] b = rw (pass k b) refl
passing_all f p pass k (e ∷ es) b =
    elim (begins_with p e.0) as (λ t. begins_with p e.0 ≡ t → one_if (f k || f e.0) + cond t (passing f p e.0 es) 0 ≡ cond t (prefixes p es + 1) 0 + 1) [
      | true ↦ λ t. let rest = passing_all f p pass e.0 es t in rw (pass k b, rest) (omega arith)
      | false ↦ λ t. rw (pass k b) refl
    ] refl

-- where none does
passing_behind : (f : List ℕ → Bool) (p : List ℕ) → ((k : List ℕ) → begins_with p k ≡ true → f k ≡ false) → (k : List ℕ) (es : List Entry) → begins_with p k ≡ true → passing f p k es ≡ one_if (tests f (behind p es))
unfolding passing passes tests
passing_behind f p pass k [] b = rw (pass k b) refl
passing_behind f p pass k (e ∷ es) b =
    elim (begins_with p e.0) as (λ t. begins_with p e.0 ≡ t → one_if (f k || f e.0) + cond t (passing f p e.0 es) 0 ≡ one_if (tests f (cond t (behind p es) (Some e.0)))) [
      | true ↦ λ t. let rest = passing_behind f p pass e.0 es t in rw (pass k b, pass e.0 t, rest) (omega arith)
      | false ↦ λ t. rw (pass k b) (omega arith)
    ] refl

scan-passing : (f : List ℕ → Bool) (v : Bool) (p : List ℕ) (m : Content) → ((k : List ℕ) → begins_with p k ≡ true → f k ≡ v)
    → passing f p p (entries_above p m) ≡ (if v then length (entries (tail p m)) + 1 else one_if (tests f (behind p (entries_above p m))))
scan-passing f true p m pass = passing_all f p pass p (entries_above p m) (begins_itself p) ∙ ap (λ (n : ℕ). n + 1) (prefixes-tail p m)
scan-passing f false p m pass = passing_behind f p pass p (entries_above p m) (begins_itself p)

kind_is : (kind b : ℕ) (bs k : List ℕ) → begins_with (b ∷ bs) k ≡ true → is_kind kind k ≡ (b == kind)
kind_is kind b bs [] h = cc
kind_is kind b bs (x ∷ k) h = let e : b ≡ x = eqb-true b x (and_parts _ _ h).0 in ap (λ (n : ℕ). n == kind) (sym e)

one_kind : (kind : ℕ) (k : List ℕ) (h : Option (List ℕ)) → is_either kind k h ≡ passes (is_kind kind) k h
unfolding passes
one_kind kind k None = or_false (is_kind kind k)
  where
    or_false : (b : Bool) → (b || false) ≡ b
    or_false true = refl
    or_false false = refl
one_kind kind k (Some h) = refl

test_kind : (kind : ℕ) (o : Option (List ℕ)) → tests (is_kind kind) o ≡ is_kind_of kind o
unfolding tests
test_kind kind None = refl
test_kind kind (Some k) = refl

is_row : List ℕ → Bool
is_row k = is_kind 0x24 k || is_kind 0x25 k

row_kind : (k : List ℕ) (h : Option (List ℕ)) → (is_either 0x24 k h || is_either 0x25 k h) ≡ passes is_row k h
unfolding passes is_row
row_kind k None = without (is_kind 0x24 k) (is_kind 0x25 k)
  where
    without : (a b : Bool) → ((a || false) || (b || false)) ≡ (a || b)
    without true b = refl
    without false true = refl
    without false false = refl
row_kind k (Some h) = four (is_kind 0x24 k) (is_kind 0x24 h) (is_kind 0x25 k) (is_kind 0x25 h)
  where
    four : (a b c d : Bool) → ((a || b) || (c || d)) ≡ ((a || c) || (b || d))
    four true b c d = refl
    four false true true d = refl
    four false true false d = refl
    four false false true d = refl
    four false false false d = refl

test_row : (o : Option (List ℕ)) → tests is_row o ≡ (is_kind_of 0x24 o || is_kind_of 0x25 o)
unfolding tests is_row
test_row None = refl
test_row (Some k) = refl

pub texts-scan_looks : (b : ℕ) (bs : List ℕ) (m : Content) →
    (scan_looks (b ∷ bs) m).texts ≡ (if b == 0x03 then length (entries (tail (b ∷ bs) m)) + 1 else one_if (is_kind_of 0x03 (behind (b ∷ bs) (entries_above (b ∷ bs) m))))
texts-scan_looks b bs m =
    looks-passing (is_kind 0x03) (λ c. c.texts) refl (λ x y. refl) (λ k h. ap one_if (one_kind 0x03 k h)) (b ∷ bs) (b ∷ bs) (entries_above (b ∷ bs) m)
    ∙ scan-passing (is_kind 0x03) (b == 0x03) (b ∷ bs) m (kind_is 0x03 b bs)
    ∙ ap (λ (t : Bool). if b == 0x03 then length (entries (tail (b ∷ bs) m)) + 1 else one_if t) (test_kind 0x03 (behind (b ∷ bs) (entries_above (b ∷ bs) m)))

pub rules-scan_looks : (b : ℕ) (bs : List ℕ) (m : Content) →
    (scan_looks (b ∷ bs) m).rules ≡ (if b == 0x2a then length (entries (tail (b ∷ bs) m)) + 1 else one_if (is_kind_of 0x2a (behind (b ∷ bs) (entries_above (b ∷ bs) m))))
rules-scan_looks b bs m =
    looks-passing (is_kind 0x2a) (λ c. c.rules) refl (λ x y. refl) (λ k h. ap one_if (one_kind 0x2a k h)) (b ∷ bs) (b ∷ bs) (entries_above (b ∷ bs) m)
    ∙ scan-passing (is_kind 0x2a) (b == 0x2a) (b ∷ bs) m (kind_is 0x2a b bs)
    ∙ ap (λ (t : Bool). if b == 0x2a then length (entries (tail (b ∷ bs) m)) + 1 else one_if t) (test_kind 0x2a (behind (b ∷ bs) (entries_above (b ∷ bs) m)))

row_is : (b : ℕ) (bs k : List ℕ) → begins_with (b ∷ bs) k ≡ true → is_row k ≡ (b == 0x24 || b == 0x25)
unfolding is_row
row_is b bs k h = rw (kind_is 0x24 b bs k h, kind_is 0x25 b bs k h) refl

pub rows-scan_looks : (b : ℕ) (bs : List ℕ) (m : Content) →
    (scan_looks (b ∷ bs) m).rows
    ≡ (if b == 0x24 || b == 0x25 then length (entries (tail (b ∷ bs) m)) + 1 else one_if (is_kind_of 0x24 (behind (b ∷ bs) (entries_above (b ∷ bs) m)) || is_kind_of 0x25 (behind (b ∷ bs) (entries_above (b ∷ bs) m))))
rows-scan_looks b bs m =
    looks-passing is_row (λ c. c.rows) refl (λ x y. refl) (λ k h. ap one_if (row_kind k h)) (b ∷ bs) (b ∷ bs) (entries_above (b ∷ bs) m)
    ∙ scan-passing is_row (b == 0x24 || b == 0x25) (b ∷ bs) m (row_is b bs)
    ∙ ap (λ (t : Bool). if b == 0x24 || b == 0x25 then length (entries (tail (b ∷ bs) m)) + 1 else one_if t) (test_row (behind (b ∷ bs) (entries_above (b ∷ bs) m)))

lower_kind : (kind b : ℕ) (bs k : List ℕ) → kind < b → order (b ∷ bs) k ≡ Less → is_kind kind k ≡ false
lower_kind kind b bs [] lower lt = refl
lower_kind kind b bs (x ∷ k) lower lt = elim (less_by_parts (nat_cmp b x) (order bs k) lt) [
  | inl before ↦ let up : b < x = lt_from_less b x before in grind (arith, nat_tests)
  | inr at ↦ let one : b ≡ x = eq_from_equal b x at.0 in grind (arith, nat_tests)
]

behind_lower : (kind b : ℕ) (bs : List ℕ) (es : List Entry) → kind < b → below (b ∷ bs) es ≡ true → is_kind_of kind (behind (b ∷ bs) es) ≡ false
behind_lower kind b bs [] lower h = refl
behind_lower kind b bs (e ∷ es) lower h =
    let h2 = and_parts (is_lt (order (b ∷ bs) e.0)) (below (b ∷ bs) es) h in
    elim (begins_with (b ∷ bs) e.0) as (λ t. is_kind_of kind (cond t (behind (b ∷ bs) es) (Some e.0)) ≡ false) [ true ↦ behind_lower kind b bs es lower h2.1 | false ↦ lower_kind kind b bs e.0 lower (less_from_test _ h2.0) ]

-- the entry behind a prefix is of no lower kind
pub behind_kind : (kind b : ℕ) (bs : List ℕ) (m : Content) → kind < b → is_kind_of kind (behind (b ∷ bs) (entries_above (b ∷ bs) m)) ≡ false
behind_kind kind b bs m lower = behind_lower kind b bs (entries_above (b ∷ bs) m) lower (below_above (b ∷ bs) (entries m))
