-- The tokens of a slot in a tree.
use Rattle.std.proofs.Common.{ℕ, ◌≡◌, ◌≤◌, ◌||◌, nat_lt, Bool, true, false, cond, List, [], ◌∷◌, ◌++◌, Option, Some, None, refl, sym, ap, ◌∙◌, arith}
use Rattle.std.proofs.Math.Bool.{or_assoc}
use Rattle.std.proofs.lemmas.Bool.{lt-ltb, le-leb, ltb-true, ltb-false, le-ltb}
use Rattle.ct_base.specs.laws.Bools.{or_false}
use Rattle.ix_posting.specs.Rows.{WordDocument}
use Rattle.ix_spans.specs.Occurrences.{has_number}
use Rattle.ix_spans.specs.Rising.{Rising}
use Rattle.ix_spans.specs.laws.Rising.{one_list}
use Rattle.q_tree.specs.Documents.{put_all}
use Rattle.q_tree.specs.laws.Postings.{has_put_all, put_all_rises}
use Rattle.ix_lists.specs.Documents.{places_at}
use Rattle.ix_lists.specs.Seeking.{SameFrom, BoundsFrom, has_any}
use Rattle.ix_cursor.specs.Bounding.{earlier, is_behind}
use Rattle.ix_cursor.specs.Unions.{union_at}
use Rattle.ix_cursor.specs.Passing.{none_before}
use Rattle.ix_cursor.specs.Tokens.{unless_behind, tokens_at}
use Rattle.ix_cursor.specs.declared.tokens.Tokens.{Tokens}
use Rattle.ix_cursor.specs.declared.tokens.Tokens.TheVariants.{Nothing, One, Both'}
use Rattle.ix_cursor.proofs.Bounds.{bound_same, or_bound, put_any}

-- ---- the positions of a tree rise

unless_rises : (from : Option ℕ) (d : ℕ) (ps : List ℕ) → Rising ps → Rising (unless_behind from d ps)
unless_rises from d ps rise = go (is_behind from d)
  where
    go : (b : Bool) → Rising (cond b [] ps)
    go true = tt
    go false = rise

pub tokens_rise : (t : Tokens) (d : ℕ) → Rising (tokens_at t d)
tokens_rise Nothing d = tt
tokens_rise (One p) d = put_all_rises (places_at p d) [] tt
tokens_rise (Both' from p a q b) d = unless_rises from d (put_all (tokens_at a d) (tokens_at b d)) (put_all_rises (tokens_at a d) (tokens_at b d) (tokens_rise b d))

-- ---- two parts together

union_rises : (rs : List (List WordDocument)) (d : ℕ) → Rising (union_at rs d)
union_rises [] d = tt
union_rises (r ∷ rs) d = put_all_rises (places_at r d) (union_at rs d) (union_rises rs d)

put_in_turn : (ps qs rs : List ℕ) → Rising rs → put_all (put_all ps qs) rs ≡ put_all ps (put_all qs rs)
put_in_turn ps qs rs rise =
    one_list (put_all (put_all ps qs) rs) (put_all ps (put_all qs rs)) (put_all_rises (put_all ps qs) rs rise) (put_all_rises ps (put_all qs rs) (put_all_rises qs rs rise)) (λ n.
    has_put_all (put_all ps qs) rs n
    ∙ ap (λ (b : Bool). b || has_number rs n) (has_put_all ps qs n)
    ∙ or_assoc (has_number ps n) (has_number qs n) (has_number rs n)
    ∙ ap (λ (b : Bool). has_number ps n || b) (sym (has_put_all qs rs n))
    ∙ sym (has_put_all ps (put_all qs rs) n))

union_of_both : (xs ys : List (List WordDocument)) (d : ℕ) → put_all (union_at xs d) (union_at ys d) ≡ union_at (xs ++ ys) d
union_of_both [] ys d = refl
union_of_both (x ∷ xs) ys d = put_in_turn (places_at x d) (union_at xs d) (union_at ys d) (union_rises ys d) ∙ ap (put_all (places_at x d)) (union_of_both xs ys d)

never_before_0 : (d : ℕ) → nat_lt d 0 ≡ false
never_before_0 d = le-ltb d 0 (omega arith)

pub both_begin : (xs ys all : List (List WordDocument)) (d : ℕ) (ps qs : List ℕ) → xs ++ ys ≡ all → ps ≡ union_at xs d → qs ≡ union_at ys d → unless_behind (Some 0) d (put_all ps qs) ≡ union_at all d
both_begin xs ys all d ps qs whole first second =
    ap (λ (b : Bool). cond b [] (put_all ps qs)) (never_before_0 d)
    ∙ (λ i. put_all (first i) (second i))
    ∙ union_of_both xs ys d
    ∙ ap (λ (rs : List (List WordDocument)). union_at rs d) whole

-- ---- one token

-- the positions of a token, put into none
pub one_bound : (to : ℕ) (f : ℕ → List ℕ) (x : Option ℕ) → BoundsFrom to (λ d. has_any (f d)) x → BoundsFrom to (λ d. has_any (put_all (f d) [])) x
one_bound to f x h = bound_same to (λ d. has_any (f d)) (λ d. has_any (put_all (f d) [])) x (λ d le. put_any (f d) [] ∙ or_false (has_any (f d))) h

-- ---- a pair that is left alone, since it counts from a document behind

pub alone_bound : (to : ℕ) (f : ℕ → List ℕ) (from : Option ℕ) → is_behind from to ≡ true → BoundsFrom to (λ d. has_any (unless_behind from d (f d))) from
alone_bound to f None is = λ d le. refl
alone_bound to f (Some from) is =
    let behind = ltb-true to from is in
    (λ d le lt. ap (λ (b : Bool). has_any (cond b [] (f d))) (lt-ltb d from lt), λ le. absurd (omega (arith, le, behind)))

pub alone_passed : (to : ℕ) (from : Option ℕ) → is_behind from to ≡ true → none_before to from ≡ true
alone_passed to None is = refl
alone_passed to (Some from) is = le-leb to from (let less = ltb-true to from is in omega (arith, less))

-- ---- a pair that counts from the bound of its parts

not_behind_on : (from : Option ℕ) (to d : ℕ) → is_behind from to ≡ false → to ≤ d → is_behind from d ≡ false
not_behind_on None to d h le = cc
not_behind_on (Some from) to d h le = le-ltb d from (let low = ltb-false to from h in omega (arith, low, le))

none_behind : (to : ℕ) (f : ℕ → Bool) (x : Option ℕ) (d : ℕ) → BoundsFrom to f x → to ≤ d → is_behind x d ≡ true → f d ≡ false
none_behind to f None d h le is = h d le
none_behind to f (Some x) d h le is = h.0 d le (ltb-true d x is)

nothing_put : (ps qs : List ℕ) → (has_any ps || has_any qs) ≡ false → [] ≡ put_all ps qs
nothing_put [] [] h = refl
nothing_put [] (q ∷ qs) h = let wrong : true ≡ false = h in cc
nothing_put (p ∷ ps) qs h = let wrong : true ≡ false = h in cc

module _ (to : ℕ) (f g : ℕ → List ℕ) (x y : Option ℕ) (first : BoundsFrom to (λ d. has_any (f d)) x) (second : BoundsFrom to (λ d. has_any (g d)) y) where
  -- the bound leaves out nothing that the parts have
  pair_whole : (d : ℕ) → to ≤ d → unless_behind (earlier x y) d (put_all (f d) (g d)) ≡ put_all (f d) (g d)
  pair_whole d le = go (is_behind (earlier x y) d) refl
    where
      go : (b : Bool) → is_behind (earlier x y) d ≡ b → cond b [] (put_all (f d) (g d)) ≡ put_all (f d) (g d)
      go true is = nothing_put (f d) (g d) (none_behind to (λ e. has_any (f e) || has_any (g e)) (earlier x y) d (or_bound to (λ e. has_any (f e)) (λ e. has_any (g e)) x y first second) le is)
      go false is = refl

  pub pair_bound : BoundsFrom to (λ d. has_any (unless_behind (earlier x y) d (put_all (f d) (g d)))) (earlier x y)
  pair_bound =
      bound_same to (λ d. has_any (f d) || has_any (g d)) (λ d. has_any (unless_behind (earlier x y) d (put_all (f d) (g d)))) (earlier x y)
      (λ d le. ap has_any (pair_whole d le) ∙ put_any (f d) (g d))
      (or_bound to (λ e. has_any (f e)) (λ e. has_any (g e)) x y first second)

  -- from there on it has what it had
  pub pair_keeps : (from : Option ℕ) (f' g' : ℕ → List ℕ) → is_behind from to ≡ false → SameFrom to f' f → SameFrom to g' g
      → (d : ℕ) → to ≤ d → unless_behind (earlier x y) d (put_all (f d) (g d)) ≡ unless_behind from d (put_all (f' d) (g' d))
  pair_keeps from f' g' here same_first same_second d le =
      pair_whole d le
      ∙ (λ i. put_all (same_first d le i) (same_second d le i))
      ∙ sym (ap (λ (b : Bool). cond b [] (put_all (f' d) (g' d))) (not_behind_on from to d here le))
