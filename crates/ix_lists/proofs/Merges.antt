-- Rising lists made one.
use Rattle.std.proofs.Common.{ℕ, ◌≡◌, ◌≤◌, ◌<◌, ◌⊎◌, inl, inr, nat_le, Bool, true, false, List, [], ◌∷◌, ◌++◌, refl, sym, ap, subst, ◌∙◌, arith, append_assoc}
use Rattle.ix_lists.specs.Numbers.{lesser, greater}
use Rattle.std.specs.Bool.{if◌then◌else◌}
use Rattle.std.proofs.lemmas.Bool.{cases_lt, lt-ltb, le-ltb, le-leb, lt-leb, ne_eqb, eq-eqb}
use Rattle.ix_spans.specs.Rising.{Above, Rising}
use Rattle.ix_spans.specs.laws.Rising.{above_lower, above_rises}
use Rattle.q_tree.specs.Documents.{put_position, put_all}
use Rattle.q_tree.specs.laws.Postings.{put_above}

-- ---- one number more

put_behind : (p y : ℕ) (zs : List ℕ) → y < p → put_position p (y ∷ zs) ≡ y ∷ put_position p zs
put_behind p y zs lt = rw (le-ltb p y (omega (arith, lt)), ne_eqb p y (λ e. omega (arith, lt, e))) refl

put_first : (x : ℕ) (zs : List ℕ) → Above x zs → put_position x zs ≡ x ∷ zs
put_first x [] h = refl
put_first x (z ∷ zs) h = rw (lt-ltb x z h.0) refl

put_same : (x : ℕ) (zs : List ℕ) → put_position x (x ∷ zs) ≡ x ∷ zs
put_same x zs = rw (le-ltb x x (omega arith), eq-eqb x x refl) refl

all_above : (x : ℕ) (ps qs : List ℕ) → Above x ps → Above x qs → Above x (put_all ps qs)
all_above x [] qs a b = b
all_above x (p ∷ ps) qs a b = let f = a.0 in put_above x p (put_all ps qs) a.0 (all_above x ps qs (above_lower x p ps (omega (arith, f)) a.1) b)

-- ---- the first number of both

all_behind : (y : ℕ) (ps ys : List ℕ) → Above y ps → put_all ps (y ∷ ys) ≡ y ∷ put_all ps ys
all_behind y [] ys h = refl
all_behind y (p ∷ ps) ys h = let f = h.0 in rw (all_behind y ps ys (above_lower y p ps (omega (arith, f)) h.1)) (put_behind p y (put_all ps ys) h.0)

greater_none : (x : ℕ) (ys : List ℕ) → Above x ys → greater x ys ≡ ys
greater_none x [] h = refl
greater_none x (y ∷ ys) h = rw (lt-leb y x h.0) refl

-- ---- two lists at once

-- one number and those behind it, beside others: first the lesser of the others, then the number
pub first_of_both : (x : ℕ) (xs ys : List ℕ) → Above x xs → Rising ys → put_all (x ∷ xs) ys ≡ lesser x ys ++ x ∷ put_all xs (greater x ys)
first_of_both x xs [] rise others = put_first x (put_all xs []) (all_above x xs [] rise tt)
first_of_both x xs (y ∷ ys) rise others = go (first_of_both x xs ys rise (above_rises y ys others)) (cases_lt y x) (cases_lt x y)
  where
    go : put_all (x ∷ xs) ys ≡ lesser x ys ++ x ∷ put_all xs (greater x ys) → (y < x) ⊎ (x ≤ y) → (x < y) ⊎ (y ≤ x) → put_all (x ∷ xs) (y ∷ ys) ≡ lesser x (y ∷ ys) ++ x ∷ put_all xs (greater x (y ∷ ys))
    go rest (inl l) k = rw (lt-ltb y x l, le-leb y x (omega (arith, l))) (all_behind y (x ∷ xs) ys (l, rise) ∙ ap (λ zs. y ∷ zs) rest)
    go rest (inr l) (inl k) = rw (le-ltb y x l, lt-leb y x k) (put_first x (put_all xs (y ∷ ys)) (all_above x xs (y ∷ ys) rise (k, others)))
    go rest (inr l) (inr k) =
        let e : y ≡ x = omega (arith, l, k) in
        rw (le-ltb y x l, le-leb y x k, greater_none x ys (subst (λ n. Above n ys) e others)) (ap (λ n. put_position x (put_all xs (n ∷ ys))) e ∙ ap (put_position x) (all_behind x xs ys rise) ∙ put_same x (put_all xs ys))

greater_rises : (x : ℕ) (ys : List ℕ) → Rising ys → Rising (greater x ys)
greater_rises x [] h = tt
greater_rises x (y ∷ ys) h = go (nat_le y x) (greater_rises x ys (above_rises y ys h))
  where
    go : (b : Bool) → Rising (greater x ys) → Rising (if b then greater x ys else y ∷ ys)
    go true rest = rest
    go false rest = h

-- rising numbers beside none
pub put_none : (xs : List ℕ) → Rising xs → put_all xs [] ≡ xs
put_none [] rise = refl
put_none (x ∷ xs) rise = ap (put_position x) (put_none xs (above_rises x xs rise)) ∙ put_first x xs rise

-- what is built so far, and what is still to come
pub record Merging (numbers others left rest out : List ℕ) : Type 0 where
  pub rise : Rising left
  pub others_rise : Rising rest
  pub so_far : out ++ put_all left rest ≡ put_all numbers others

pub merging_more : (numbers others : List ℕ) (x : ℕ) (xs rest out : List ℕ) → Merging numbers others (x ∷ xs) rest out → Merging numbers others xs (greater x rest) ((out ++ lesser x rest) ++ x ∷ [])
merging_more numbers others x xs rest out m = record {
  rise = above_rises x xs m.rise;
  others_rise = greater_rises x rest m.others_rise;
  so_far = append_assoc (out ++ lesser x rest) (x ∷ []) (put_all xs (greater x rest)) ∙ append_assoc out (lesser x rest) (x ∷ put_all xs (greater x rest)) ∙ ap (λ zs. out ++ zs) (sym (first_of_both x xs rest m.rise m.others_rise)) ∙ m.so_far;
}

-- it holds before the first number
pub merging_first : (numbers others : List ℕ) → Rising numbers → Rising others → Merging numbers others numbers others []
merging_first numbers others rise others_rise = record { rise = rise; others_rise = others_rise; so_far = refl }
