-- A walk over the keys of a table, from one to the next.
use Rattle.std.proofs.Common.{◌≡◌, ◌≤ℤ◌, ℤ, Bool, true, false, cond, List, [], ◌∷◌, ◌++◌, map, Option, Some, None, refl, sym, ap, ◌∙◌, subst, arith, append_assoc, append-nil}
use Rattle.std.specs.Prelude.{filter, not}
use Rattle.std.specs.Bool.{if◌then◌else◌}
use Rattle.std.specs.List.{list_all, AllByRecursion}
use Rattle.std.specs.declared.cmp.Ordering.{Ordering}
use Rattle.std.specs.declared.cmp.Ordering.TheVariants.{Equal, Greater}
use Rattle.std.specs.Ordering.{int_cmp, is_lt, is_eq, ordering_reverse}
use Rattle.std.specs.FinMap.{find}
use Rattle.std.proofs.lemmas.Bool.{and_parts, and_from}
use Rattle.std.proofs.lemmas.Cmp.{int_cmp_total, tied_itself}
use Rattle.std.proofs.lemmas.Int.{ints}
use Rattle.ct_base.specs.laws.Lists.{map-filter}
use Rattle.ct_base.specs.laws.Orders.{less_from_test}
use Rattle.ct_keep.specs.laws.RisingKeys.{below, rises}
use Rattle.ct_entry.specs.Listings.{first_of, rows_above}
use Rattle.db_rows.specs.Walking.{is_above, is_past_greatest}

-- ---- orders

before_then : (a b c : ℤ) → is_lt (int_cmp a b) ≡ true → is_lt (int_cmp b c) ≡ true → is_lt (int_cmp a c) ≡ true
before_then a b c p q = ap is_lt (int_cmp_total.trans a b c (less_from_test (int_cmp a b) p) (less_from_test (int_cmp b c) q))

above_then : (after : Option ℤ) (b c : ℤ) → is_above after b ≡ true → is_lt (int_cmp b c) ≡ true → is_above after c ≡ true
above_then None b c p q = refl
above_then (Some a) b c p q = before_then a b c p q

not_itself : (a : ℤ) → int_cmp a a ≡ Equal
not_itself a = tied_itself int_cmp_total a

behind : (a b : ℤ) → is_lt (int_cmp a b) ≡ true → int_cmp b a ≡ Greater
behind a b p = int_cmp_total.antisymm b a ∙ ap ordering_reverse (less_from_test (int_cmp a b) p)

pub not_above : (g r : ℤ) → is_lt (int_cmp g r) ≡ true → r ≤ℤ g → ⊥
not_above g r p q = grind (arith, ints)

-- ---- lists

all_pass : {X : Type 0} (xs : List X) → filter (λ _. true) xs ≡ xs
all_pass [] = refl
all_pass (x ∷ xs) = ap (λ l. x ∷ l) (all_pass xs)

-- the rows above a key are those that pass the test
pub rows_pass : (after : Option ℤ) (keys : List ℤ) → rows_above after keys ≡ filter (is_above after) keys
rows_pass None keys = sym (all_pass keys)
rows_pass (Some a) keys = refl

module _ {X : Type 0} where
  -- the entries that are left after a key
  abbrev pub left : Option ℤ → List (ℤ × X) → List (ℤ × X)
  left after es = filter (λ e. is_above after e.0) es

  pub keys_left : (after : Option ℤ) (es : List (ℤ × X)) → rows_above after (map (λ e. e.0) es) ≡ map (λ e. e.0) (left after es)
  keys_left after es = rows_pass after (map (λ e. e.0) es) ∙ sym (map-filter (is_above after) (λ (e : ℤ × X). e.0) es)

  -- all entries are left that stand above what does
  all_left : (after : Option ℤ) (k : ℤ) (es : List (ℤ × X)) → ((c : ℤ) → is_lt (int_cmp k c) ≡ true → is_above after c ≡ true) → below int_cmp k es ≡ true → left after es ≡ es
  all_left after k [] up low = refl
  all_left after k (e ∷ es) up low =
      let b = and_parts (is_lt (int_cmp k e.0)) (below int_cmp k es) low in
      ap (λ (t : Bool). cond t (e ∷ left after es) (left after es)) (up e.0 b.0) ∙ ap (λ (l : List (ℤ × X)). e ∷ l) (all_left after k es up b.1)

  -- The first entry that is left after one has this key.
  pub record IsFirst (after : Option ℤ) (es : List (ℤ × X)) (r : ℤ) : Type 0 where
    pub value : X
    pub split : left after es ≡ (r, value) ∷ left (Some r) es
    pub found : find int_cmp r es ≡ Some value
    pub lower : (k : ℤ) → below int_cmp k es ≡ true → is_lt (int_cmp k r) ≡ true

  pub first_left : (after : Option ℤ) (es : List (ℤ × X)) (r : ℤ) → rises int_cmp es ≡ true → first_of (map (λ e. e.0) (left after es)) ≡ Some r → IsFirst after es r
  first_left after [] r up is = cc
  first_left after (e ∷ es) r up is = go (is_above after e.0) refl is (first_left after es r b.1)
    where
      b : (below int_cmp e.0 es ≡ true) × (rises int_cmp es ≡ true)
      b = and_parts (below int_cmp e.0 es) (rises int_cmp es) up

      here : is_above after e.0 ≡ true → e.0 ≡ r → IsFirst after (e ∷ es) r
      here over same = subst (IsFirst after (e ∷ es)) same (record {
        value = e.1;
        split =
            ap (λ (t : Bool). cond t (e ∷ left after es) (left after es)) over
            ∙ ap (λ (l : List (ℤ × X)). e ∷ l) (all_left after e.0 es (λ c q. above_then after e.0 c over q) b.0)
            ∙ ap (λ (l : List (ℤ × X)). e ∷ l) (sym (
            ap (λ (o : Ordering). cond (is_lt o) (e ∷ left (Some e.0) es) (left (Some e.0) es)) (not_itself e.0)
            ∙ all_left (Some e.0) e.0 es (λ c q. q) b.0));
        found = ap (λ (o : Ordering). cond (is_eq o) (Some e.1) (find int_cmp e.0 es)) (not_itself e.0);
        lower = λ k low. (and_parts (is_lt (int_cmp k e.0)) (below int_cmp k es) low).0;
      })

      later : is_above after e.0 ≡ false → IsFirst after es r → IsFirst after (e ∷ es) r
      later under first =
          let high = behind e.0 r (first.lower e.0 b.0) in
          record {
            value = first.value;
            split =
                ap (λ (t : Bool). cond t (e ∷ left after es) (left after es)) under
                ∙ first.split
                ∙ ap (λ (l : List (ℤ × X)). (r, first.value) ∷ l) (sym (ap (λ (o : Ordering). cond (is_lt o) (e ∷ left (Some r) es) (left (Some r) es)) high));
            found = ap (λ (o : Ordering). cond (is_eq o) (Some e.1) (find int_cmp r es)) high ∙ first.found;
            lower = λ k low. first.lower k (and_parts (is_lt (int_cmp k e.0)) (below int_cmp k es) low).1;
          }

      go : (t : Bool) → is_above after e.0 ≡ t → first_of (map (λ e. e.0) (cond t (e ∷ left after es) (left after es))) ≡ Some r
          → (first_of (map (λ e. e.0) (left after es)) ≡ Some r → IsFirst after es r) → IsFirst after (e ∷ es) r
      go true over is rest = let same : e.0 ≡ r = cc in here over same
      go false under is rest = later under (rest is)

  -- ---- the walk

  -- The rows up to `after` were tried, and these meet the test.
  pub record IsWalked (p : ℤ × X → Bool) (es : List (ℤ × X)) (after : Option ℤ) (rows : List ℤ) : Type 0 where
    pub is : rows ++ map (λ e. e.0) (filter p (left after es)) ≡ map (λ e. e.0) (filter p es)

  passes_left : (p : ℤ × X → Bool) (after : Option ℤ) (es : List (ℤ × X)) → AllByRecursion (λ e. p e ≡ true → is_above after e.0 ≡ true) es → filter p (left after es) ≡ filter p es
  passes_left p after [] each = refl
  passes_left p after (e ∷ es) each = go (is_above after e.0) (p e) refl refl (each.0) (passes_left p after es each.1)
    where
      go : (t s : Bool) → is_above after e.0 ≡ t → p e ≡ s → (p e ≡ true → is_above after e.0 ≡ true) → filter p (left after es) ≡ filter p es
          → filter p (cond t (e ∷ left after es) (left after es)) ≡ cond s (e ∷ filter p es) (filter p es)
      go true s over is up rest = ap (λ (b : Bool). cond b (e ∷ filter p (left after es)) (filter p (left after es))) is ∙ ap (λ (l : List (ℤ × X)). cond s (e ∷ l) l) rest
      go false true under is up rest = let wrong = sym under ∙ up is in cc
      go false false under is up rest = rest

  pub walk_begins : (p : ℤ × X → Bool) (es : List (ℤ × X)) (after : Option ℤ) → AllByRecursion (λ e. p e ≡ true → is_above after e.0 ≡ true) es → IsWalked p es after []
  walk_begins p es after each = record { is = ap (map (λ (e : ℤ × X). e.0)) (passes_left p after es each) }

  pub walk_step : (p : ℤ × X → Bool) (es : List (ℤ × X)) (after : Option ℤ) (rows more : List ℤ) (r : ℤ) (met : Bool) → IsWalked p es after rows
      → (first : IsFirst after es r) → met ≡ p (r, first.value) → more ≡ rows ++ (if met then r ∷ [] else [])
      → IsWalked p es (Some r) more
  walk_step p es after rows more r met walked first met_is pushed = record {
    is =
        ap (λ (l : List ℤ). l ++ map (λ e. e.0) (filter p (left (Some r) es))) pushed
        ∙ go met
        ∙ ap (λ (b : Bool). rows ++ map (λ e. e.0) (cond b ((r, first.value) ∷ filter p (left (Some r) es)) (filter p (left (Some r) es)))) met_is
        ∙ ap (λ (l : List (ℤ × X)). rows ++ map (λ e. e.0) (filter p l)) (sym first.split)
        ∙ walked.is;
  }
    where
      go : (b : Bool)
          → (rows ++ cond b (r ∷ []) []) ++ map (λ e. e.0) (filter p (left (Some r) es)) ≡ rows ++ map (λ e. e.0) (cond b ((r, first.value) ∷ filter p (left (Some r) es)) (filter p (left (Some r) es)))
      go true = append_assoc rows (r ∷ []) (map (λ e. e.0) (filter p (left (Some r) es)))
      go false = ap (λ (l : List ℤ). l ++ map (λ e. e.0) (filter p (left (Some r) es))) (append-nil rows)

  none_left : (p : ℤ × X → Bool) (after : Option ℤ) (g : ℤ) (es : List (ℤ × X)) → AllByRecursion (λ e. p e ≡ true → e.0 ≤ℤ g) es
      → list_all (λ r. is_lt (int_cmp g r)) (map (λ e. e.0) (left after es)) ≡ true → filter p (left after es) ≡ []
  none_left p after g [] each over = refl
  none_left p after g (e ∷ es) each over = go (is_above after e.0) (p e) refl over each.0 (none_left p after g es each.1)
    where
      go : (t s : Bool) → p e ≡ s → list_all (λ r. is_lt (int_cmp g r)) (map (λ e. e.0) (cond t (e ∷ left after es) (left after es))) ≡ true → (p e ≡ true → e.0 ≤ℤ g)
          → (list_all (λ r. is_lt (int_cmp g r)) (map (λ e. e.0) (left after es)) ≡ true → filter p (left after es) ≡ []) → filter p (cond t (e ∷ left after es) (left after es)) ≡ []
      go true true is over low rest = absurd (not_above g e.0 (and_parts (is_lt (int_cmp g e.0)) _ over).0 (low is))
      go true false is over low rest = ap (λ (b : Bool). cond b (e ∷ filter p (left after es)) (filter p (left after es))) is ∙ rest (and_parts (is_lt (int_cmp g e.0)) _ over).1
      go false s is over low rest = rest over

  pub walk_ends : (p : ℤ × X → Bool) (es : List (ℤ × X)) (after : Option ℤ) (rows : List ℤ) (g : ℤ) → IsWalked p es after rows
      → AllByRecursion (λ e. p e ≡ true → e.0 ≤ℤ g) es → list_all (λ r. is_lt (int_cmp g r)) (map (λ e. e.0) (left after es)) ≡ true
      → rows ≡ map (λ e. e.0) (filter p es)
  walk_ends p es after rows g walked each over =
      sym (append-nil rows)
      ∙ ap (λ (l : List (ℤ × X)). rows ++ map (λ e. e.0) l) (sym (none_left p after g es each over))
      ∙ walked.is

-- ---- the next key

over_last : (a g : ℤ) (keys : List ℤ) → g ≤ℤ a → list_all (λ r. is_lt (int_cmp g r)) (filter (λ s. is_lt (int_cmp a s)) keys) ≡ true
over_last a g [] low = refl
over_last a g (k ∷ ks) low = go (is_lt (int_cmp a k)) refl (over_last a g ks low)
  where
    over : is_lt (int_cmp a k) ≡ true → is_lt (int_cmp g k) ≡ true
    over p = grind (arith, ints)

    go : (b : Bool) → is_lt (int_cmp a k) ≡ b → list_all (λ r. is_lt (int_cmp g r)) (filter (λ s. is_lt (int_cmp a s)) ks) ≡ true
        → list_all (λ r. is_lt (int_cmp g r)) (cond b (k ∷ filter (λ s. is_lt (int_cmp a s)) ks) (filter (λ s. is_lt (int_cmp a s)) ks)) ≡ true
    go true p rest = and_from (is_lt (int_cmp g k)) _ (over p) rest
    go false p rest = rest

at_most : (a g : ℤ) → not (is_lt (int_cmp a g)) ≡ true → g ≤ℤ a
at_most a g past = grind (arith, ints)

-- after the greatest, all are greater
pub none_after : (after : Option ℤ) (g : ℤ) (keys : List ℤ) → is_past_greatest after g ≡ true → list_all (λ r. is_lt (int_cmp g r)) (rows_above after keys) ≡ true
none_after None g keys past = cc
none_after (Some a) g keys past = over_last a g keys (at_most a g past)

pub none_at_all : (keys : List ℤ) (g : ℤ) → first_of keys ≡ None → list_all (λ r. is_lt (int_cmp g r)) keys ≡ true
none_at_all [] g none = refl
none_at_all (k ∷ ks) g none = cc

-- where the first is greater than the greatest, all are
module _ {X : Type 0} (after : Option ℤ) (g : ℤ) where
  over_all : (k : ℤ) (es : List (ℤ × X)) → is_lt (int_cmp g k) ≡ true → below int_cmp k es ≡ true → list_all (λ r. is_lt (int_cmp g r)) (map (λ e. e.0) (left after es)) ≡ true
  over_all k [] over low = refl
  over_all k (e ∷ es) over low =
      let b = and_parts (is_lt (int_cmp k e.0)) (below int_cmp k es) low in
      go (is_above after e.0) (before_then g k e.0 over b.0) (over_all k es over b.1)
    where
      go : (t : Bool) → is_lt (int_cmp g e.0) ≡ true → list_all (λ r. is_lt (int_cmp g r)) (map (λ e. e.0) (left after es)) ≡ true
          → list_all (λ r. is_lt (int_cmp g r)) (map (λ e. e.0) (cond t (e ∷ left after es) (left after es))) ≡ true
      go true here rest = and_from (is_lt (int_cmp g e.0)) _ here rest
      go false here rest = rest

  over_first : (es : List (ℤ × X)) (r : ℤ) → rises int_cmp es ≡ true → first_of (map (λ e. e.0) (left after es)) ≡ Some r
      → is_lt (int_cmp g r) ≡ true → list_all (λ r. is_lt (int_cmp g r)) (map (λ e. e.0) (left after es)) ≡ true
  over_first [] r up is over = refl
  over_first (e ∷ es) r up is over =
      let b = and_parts (below int_cmp e.0 es) (rises int_cmp es) up in
      go (is_above after e.0) b.0 is (λ h. over_first es r b.1 h over)
    where
      go : (t : Bool) → below int_cmp e.0 es ≡ true → first_of (map (λ e. e.0) (cond t (e ∷ left after es) (left after es))) ≡ Some r
          → (first_of (map (λ e. e.0) (left after es)) ≡ Some r → list_all (λ r. is_lt (int_cmp g r)) (map (λ e. e.0) (left after es)) ≡ true)
          → list_all (λ r. is_lt (int_cmp g r)) (map (λ e. e.0) (cond t (e ∷ left after es) (left after es))) ≡ true
      go true low is rest =
          let same : r ≡ e.0 = cc in
          let high : is_lt (int_cmp g e.0) ≡ true = subst (λ (k : ℤ). is_lt (int_cmp g k) ≡ true) same over in
          and_from (is_lt (int_cmp g e.0)) _ high (over_all e.0 es high low)
      go false low is rest = rest is

  pub none_within : (es : List (ℤ × X)) (r : ℤ) → rises int_cmp es ≡ true → first_of (rows_above after (map (λ e. e.0) es)) ≡ Some r
      → is_lt (int_cmp g r) ≡ true → list_all (λ r. is_lt (int_cmp g r)) (rows_above after (map (λ e. e.0) es)) ≡ true
  none_within es r up is over = ap (list_all (λ r. is_lt (int_cmp g r))) (keys_left after es) ∙ over_first es r up (ap first_of (sym (keys_left after es)) ∙ is) over
