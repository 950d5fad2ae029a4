-- Postings have one inversion: a list in order, of which each part of those that tie is known.
use Rattle.std.specs.Prelude.{ℕ, ◌≡◌, ◌+◌, ◌<◌, Bool, true, false, cond, not, ◌&&◌, List, [], ◌∷◌, length, refl}
use Rattle.std.proofs.Common.{ap, sym, ◌∙◌, is_lt, subst, suc, get_or, true≢false, arith}
use Rattle.std.specs.Cmp.{IsStrictWeakOrder}
use Rattle.std.specs.List.{filter}
use Rattle.std.specs.List.Sorted.{IsSortedBy, ties}
use Rattle.std.proofs.lemmas.List.MinMax.{ranks_by}
use Rattle.std.proofs.lemmas.List.Sorted.{sorted_far}
use Rattle.ix_invert.specs.declared.postings.Posting.{Posting}
use Rattle.ix_invert.specs.Inverting.{posting_cmp}
use Rattle.ix_invert.specs.Promises.{EachHasOneInversion}
use Rattle.ix_invert.specs.laws.Orders.{posting_cmp_total}

-- whether a posting stands before another
abbrev pub less : Posting → Posting → Bool
less a b = is_lt (posting_cmp a b)

pub less_weak : IsStrictWeakOrder less
less_weak = ranks_by posting_cmp_total (λ x. x)

-- none of them stands before it
abbrev pub NoneBefore : Posting → List Posting → Type 0
NoneBefore a [] = Unit {0}
NoneBefore a (b ∷ bs) = (less b a ≡ false) × NoneBefore a bs

none_before : (a : Posting) (bs : List Posting) → ((k : ℕ) (d : Posting) → k < length bs → less (get_or bs k d) a ≡ false) → NoneBefore a bs
none_before a [] each = tt
none_before a (b ∷ bs) each = (each 0 b (omega arith), none_before a bs (λ k d within. each (suc k) d (omega (arith, within))))

none_before_head : (a : Posting) (bs : List Posting) → IsSortedBy less (a ∷ bs) → NoneBefore a bs
none_before_head a bs sorted = none_before a bs (λ k d within. sorted_far less less_weak (a ∷ bs) sorted 0 (suc k) d (omega arith) (omega (arith, within)))

sorted_tail : (a : Posting) (bs : List Posting) → IsSortedBy less (a ∷ bs) → IsSortedBy less bs
sorted_tail a bs sorted k d low within =
    let next : suc k + 1 ≡ suc (k + 1) = omega arith in
    subst (λ (n : ℕ). less (get_or (a ∷ bs) n d) (get_or (a ∷ bs) (suc k) d) ≡ false) next (sorted (suc k) d (omega arith) (omega (arith, within)))

-- None stands before one that is given earlier: the order, element by element.
abbrev pub Ascends : List Posting → Type 0
Ascends [] = Unit {0}
Ascends (a ∷ bs) = NoneBefore a bs × Ascends bs

pub ascends : (bs : List Posting) → IsSortedBy less bs → Ascends bs
ascends [] sorted = tt
ascends (a ∷ bs) sorted = (none_before_head a bs sorted, ascends bs (sorted_tail a bs sorted))

less_itself : (a : Posting) → less a a ≡ false
less_itself a = go (less a a) refl
  where
    go : (t : Bool) → less a a ≡ t → less a a ≡ false
    go false at = at
    go true at = less_weak.one_way a a at

-- what stands before the first ties with none
no_tie : (a b c : Posting) → less a b ≡ true → less c b ≡ false → ties less a c ≡ false
no_tie a b c before behind = go (less a c) refl
  where
    go : (t : Bool) → less a c ≡ t → ties less a c ≡ false
    go true at = ap (λ t. not t && not (less c a)) at
    go false at = absurd (true≢false (sym before ∙ less_weak.chain a c b at behind))

tie_itself : (a : Posting) → ties less a a ≡ true
tie_itself a = ap (λ t. not t && not t) (less_itself a)

pub kept_head : (p : Posting → Bool) (a : Posting) (bs : List Posting) → p a ≡ true → filter p (a ∷ bs) ≡ a ∷ filter p bs
kept_head p a bs at = ap (λ (t : Bool). cond t (a ∷ filter p bs) (filter p bs)) at

pub passed_head : (p : Posting → Bool) (a : Posting) (bs : List Posting) → p a ≡ false → filter p (a ∷ bs) ≡ filter p bs
passed_head p a bs at = ap (λ (t : Bool). cond t (a ∷ filter p bs) (filter p bs)) at

no_ties : (a b : Posting) (cs : List Posting) → less a b ≡ true → NoneBefore b cs → filter (ties less a) cs ≡ []
no_ties a b [] before behind = refl
no_ties a b (c ∷ cs) before behind =
    passed_head (ties less a) c cs (no_tie a b c before behind.0) ∙ no_ties a b cs before behind.1

no_cons : (a : Posting) (bs : List Posting) → [] ≡ a ∷ bs → ⊥
no_cons a bs e = cc

-- the same postings tie with each
abbrev pub SameTies : List Posting → List Posting → Type 0
SameTies us bs = (x : Posting) → filter (ties less x) us ≡ filter (ties less x) bs

first_is_not_before : (a b : Posting) (us bs : List Posting) → NoneBefore b bs → SameTies (a ∷ us) (b ∷ bs) → less a b ≡ false
first_is_not_before a b us bs behind same = go (less a b) refl
  where
    go : (t : Bool) → less a b ≡ t → less a b ≡ false
    go false at = at
    go true at = absurd (no_cons a (filter (ties less a) us)
        (sym (passed_head (ties less a) b bs (no_tie a b b at (less_itself b)) ∙ no_ties a b bs at behind)
        ∙ sym (same a) ∙ kept_head (ties less a) a us (tie_itself a)))

same_tails : (a b : Posting) (us bs : List Posting) → a ≡ b → SameTies (a ∷ us) (b ∷ bs) → SameTies us bs
same_tails a b us bs heads same x = go (ties less x a) refl
  where
    go : (t : Bool) → ties less x a ≡ t → filter (ties less x) us ≡ filter (ties less x) bs
    go true at =
        let whole = sym (kept_head (ties less x) a us at) ∙ same x ∙ kept_head (ties less x) b bs (subst (λ (c : Posting). ties less x c ≡ true) heads at) in cc
    go false at = sym (passed_head (ties less x) a us at) ∙ same x ∙ passed_head (ties less x) b bs (subst (λ (c : Posting). ties less x c ≡ false) heads at)

pub one_order : (us bs : List Posting) → Ascends us → Ascends bs → SameTies us bs → us ≡ bs
one_order [] [] up rise same = refl
one_order [] (b ∷ bs) up rise same = absurd (no_cons b _ (same b ∙ kept_head (ties less b) b bs (tie_itself b)))
one_order (a ∷ us) [] up rise same = absurd (no_cons a _ (sym (same a) ∙ kept_head (ties less a) a us (tie_itself a)))
one_order (a ∷ us) (b ∷ bs) up rise same =
    let ab = first_is_not_before a b us bs rise.0 same in
    let ba = first_is_not_before b a bs us up.0 (λ x. sym (same x)) in
    let tie : ties less a b ≡ true = ap (λ (t : Bool). not t && not (less b a)) ab ∙ ap (λ (t : Bool). not t) ba in
    let whole = sym (kept_head (ties less a) a us (tie_itself a)) ∙ same a ∙ kept_head (ties less a) b bs tie in
    let heads : a ≡ b = cc in
    let tails : us ≡ bs = one_order us bs up.1 rise.1 (same_tails a b us bs heads same) in
    cc

pub each_has_one_inversion : EachHasOneInversion
each_has_one_inversion all one another first second =
    one_order one another (ascends one first.in_order) (ascends another second.in_order) (λ x. first.ties x ∙ sym (second.ties x))
