-- A query and its prefix form: each has just one of the other.
use Rattle.std.specs.Prelude.{ℕ, ◌≡◌, zero, suc, List, [], ◌∷◌, ◌++◌, Option, Some, None, refl}
use Rattle.std.specs.List.{flat_map}
use Rattle.std.specs.Option.{option_and_then}
use Rattle.std.proofs.Common.{arith, sym, ap, ◌∙◌, append_assoc, append-nil}
use Rattle.tx_settings.specs.laws.Apart.{pair_apart}
use Rattle.q_tree.specs.declared.queries.Op.TheVariants.{And, Or, Not, Minus}
use Rattle.q_tree.specs.ReducedQueries.{Reduced, Term, Both, Weight, Above, Near, Within, Define}
use Rattle.q_stored.specs.declared.heads.Head.{Head}
use Rattle.q_stored.specs.declared.heads.Head.TheVariants.{Term as TermHead, Both as BothHead, Weight as WeightHead, Above as AboveHead, Near as NearHead, Within as WithinHead, Define as DefineHead}
use Rattle.q_stored.specs.QueryBytes.{head_spelling, prefix, query_bytes}
use Rattle.q_stored.specs.Building.{push_head, stack_after, only, query_of}
use Rattle.q_stored.specs.Promises.{NoQueryBeginsAnother, QueriesHaveTheirBytes}
use Rattle.q_stored.specs.laws.Apart.{heads_apart}

-- ---- a query is built from its prefix form

pub stack_after-append : (hs gs : List Head) (qs : List Reduced) → stack_after (hs ++ gs) qs ≡ option_and_then (λ rs. stack_after hs rs) (stack_after gs qs)
stack_after-append [] gs qs = go (stack_after gs qs)
  where
    go : (o : Option (List Reduced)) → o ≡ option_and_then (λ rs. Some rs) o
    go None = refl
    go (Some rs) = refl
stack_after-append (h ∷ hs) gs qs = ap (option_and_then (push_head h)) (stack_after-append hs gs qs) ∙ go (stack_after gs qs)
  where
    go : (o : Option (List Reduced)) → option_and_then (push_head h) (option_and_then (λ rs. stack_after hs rs) o) ≡ option_and_then (λ rs. option_and_then (push_head h) (stack_after hs rs)) o
    go None = refl
    go (Some rs) = refl

pub stack_after-prefix : (q : Reduced) (qs : List Reduced) → stack_after (prefix q) qs ≡ Some (q ∷ qs)
stack_after-prefix (Term phrases) qs = refl
stack_after-prefix (Both op a b) qs =
    ap (option_and_then (push_head (BothHead op))) (stack_after-append (prefix a) (prefix b) qs ∙ ap (option_and_then (λ rs. stack_after (prefix a) rs)) (stack_after-prefix b qs) ∙ stack_after-prefix a (b ∷ qs))
stack_after-prefix (Weight tenths a) qs = ap (option_and_then (push_head (WeightHead tenths))) (stack_after-prefix a qs)
stack_after-prefix (Above n a) qs = ap (option_and_then (push_head (AboveHead n))) (stack_after-prefix a qs)
stack_after-prefix (Near operands span ordered) qs = refl
stack_after-prefix (Within place a) qs = ap (option_and_then (push_head (WithinHead place))) (stack_after-prefix a qs)
stack_after-prefix (Define phrases sum) qs = refl

pub its_query : (q : Reduced) → query_of (prefix q) ≡ Some q
its_query q = ap only (stack_after-prefix q [])

-- ---- what is built has the heads as its prefix form

push_head-prefix : (h : Head) (qs rs : List Reduced) → push_head h qs ≡ Some rs → flat_map prefix rs ≡ h ∷ flat_map prefix qs
push_head-prefix (TermHead phrases) qs rs is = let e : Term phrases ∷ qs ≡ rs = cc in ap (flat_map prefix) (sym e)
push_head-prefix (BothHead op) [] rs is = cc
push_head-prefix (BothHead op) (a ∷ []) rs is = cc
push_head-prefix (BothHead op) (a ∷ b ∷ qs) rs is =
    let e : Both op a b ∷ qs ≡ rs = cc in
    ap (flat_map prefix) (sym e) ∙ ap (λ (hs : List Head). BothHead op ∷ hs) (append_assoc (prefix a) (prefix b) (flat_map prefix qs))
push_head-prefix (WeightHead tenths) [] rs is = cc
push_head-prefix (WeightHead tenths) (a ∷ qs) rs is = let e : Weight tenths a ∷ qs ≡ rs = cc in ap (flat_map prefix) (sym e)
push_head-prefix (AboveHead n) [] rs is = cc
push_head-prefix (AboveHead n) (a ∷ qs) rs is = let e : Above n a ∷ qs ≡ rs = cc in ap (flat_map prefix) (sym e)
push_head-prefix (NearHead operands span ordered) qs rs is = let e : Near operands span ordered ∷ qs ≡ rs = cc in ap (flat_map prefix) (sym e)
push_head-prefix (WithinHead place) [] rs is = cc
push_head-prefix (WithinHead place) (a ∷ qs) rs is = let e : Within place a ∷ qs ≡ rs = cc in ap (flat_map prefix) (sym e)
push_head-prefix (DefineHead phrases sum) qs rs is = let e : Define phrases sum ∷ qs ≡ rs = cc in ap (flat_map prefix) (sym e)

pub stack_prefix : (hs : List Head) (qs rs : List Reduced) → stack_after hs qs ≡ Some rs → flat_map prefix rs ≡ hs ++ flat_map prefix qs
stack_prefix [] qs rs is = let e : qs ≡ rs = cc in ap (flat_map prefix) (sym e)
stack_prefix (h ∷ hs) qs rs is = go (stack_after hs qs) refl is (λ ts e. stack_prefix hs qs ts e)
  where
    go : (o : Option (List Reduced)) → stack_after hs qs ≡ o → option_and_then (push_head h) o ≡ Some rs → ((ts : List Reduced) → stack_after hs qs ≡ Some ts → flat_map prefix ts ≡ hs ++ flat_map prefix qs) → flat_map prefix rs ≡ h ∷ hs ++ flat_map prefix qs
    go None e k rest = cc
    go (Some ts) e k rest = push_head-prefix h ts rs k ∙ ap (λ (gs : List Head). h ∷ gs) (rest ts e)

pub prefix_again : (hs : List Head) (q : Reduced) → query_of hs ≡ Some q → prefix q ≡ hs
prefix_again hs q is = go (stack_after hs []) refl is
  where
    go : (o : Option (List Reduced)) → stack_after hs [] ≡ o → only o ≡ Some q → prefix q ≡ hs
    go None e k = cc
    go (Some []) e k = cc
    go (Some (p ∷ [])) e k =
        let same : p ≡ q = cc in
        ap prefix (sym same) ∙ sym (append-nil (prefix p)) ∙ stack_prefix hs [] (p ∷ []) e ∙ append-nil hs
    go (Some (p ∷ r ∷ qs)) e k = cc

pub one_prefix : (p q : Reduced) → prefix p ≡ prefix q → p ≡ q
one_prefix p q e = let same : Some p ≡ Some q = sym (its_query p) ∙ ap query_of e ∙ its_query q in cc

-- ---- bytes

-- heads that each of two queries begins with: so many parts are still to come
abbrev need : ℕ → List Head → Option ℕ
need n [] = Some n
need zero (h ∷ hs) = None
need (suc n) (TermHead phrases ∷ hs) = need n hs
need (suc n) (BothHead op ∷ hs) = need (suc (suc n)) hs
need (suc n) (WeightHead tenths ∷ hs) = need (suc n) hs
need (suc n) (AboveHead k ∷ hs) = need (suc n) hs
need (suc n) (NearHead operands span ordered ∷ hs) = need n hs
need (suc n) (WithinHead place ∷ hs) = need (suc n) hs
need (suc n) (DefineHead phrases sum ∷ hs) = need n hs

needed : (q : Reduced) (n : ℕ) (hs : List Head) → need (suc n) (prefix q ++ hs) ≡ need n hs
needed (Term phrases) n hs = refl
needed (Both op a b) n hs =
    ap (need (suc (suc n))) (append_assoc (prefix a) (prefix b) hs) ∙ needed a (suc n) (prefix b ++ hs) ∙ needed b n hs
needed (Weight tenths a) n hs = needed a n hs
needed (Above k a) n hs = needed a n hs
needed (Near operands span ordered) n hs = refl
needed (Within place a) n hs = needed a n hs
needed (Define phrases sum) n hs = refl

whole : (q : Reduced) → need 1 (prefix q) ≡ Some 0
whole q = ap (need 1) (sym (append-nil (prefix q))) ∙ needed q 0 []

-- after a head as many are to come, whatever follows
after : ℕ → Head → ℕ
after n (TermHead phrases) = n
after n (BothHead op) = suc (suc n)
after n (WeightHead tenths) = suc n
after n (AboveHead k) = suc n
after n (NearHead operands span ordered) = n
after n (WithinHead place) = suc n
after n (DefineHead phrases sum) = n

need_after : (n : ℕ) (h : Head) (hs : List Head) → need (suc n) (h ∷ hs) ≡ need (after n h) hs
unfolding after
need_after n (TermHead phrases) hs = refl
need_after n (BothHead op) hs = refl
need_after n (WeightHead tenths) hs = refl
need_after n (AboveHead k) hs = refl
need_after n (NearHead operands span ordered) hs = refl
need_after n (WithinHead place) hs = refl
need_after n (DefineHead phrases sum) hs = refl

heads_first : (n : ℕ) (hs gs : List Head) (r s : List ℕ) → need n hs ≡ Some 0 → need n gs ≡ Some 0 → flat_map head_spelling hs ++ r ≡ flat_map head_spelling gs ++ s → (hs ≡ gs) × (r ≡ s)
heads_first n [] [] r s a b e = (refl, e)
heads_first zero [] (g ∷ gs) r s a b e = cc
heads_first (suc n) [] (g ∷ gs) r s a b e = let wrong : suc n ≡ 0 = cc in absurd (omega (arith, wrong))
heads_first zero (h ∷ hs) gs r s a b e = cc
heads_first (suc n) (h ∷ hs) [] r s a b e = let wrong : suc n ≡ 0 = cc in absurd (omega (arith, wrong))
heads_first (suc n) (h ∷ hs) (g ∷ gs) r s a b e =
    let first = heads_apart h g (flat_map head_spelling hs ++ r) (flat_map head_spelling gs ++ s) (pair_apart (head_spelling h) (head_spelling g) (flat_map head_spelling hs) (flat_map head_spelling gs) r s e) in
    let rest = heads_first (after n h) hs gs r s (sym (need_after n h hs) ∙ a) (ap (λ (x : Head). need (after n x) gs) first.0 ∙ sym (need_after n g gs) ∙ b) first.1 in
    (λ i. first.0 i ∷ rest.0 i, rest.1)

pub queries_apart : NoQueryBeginsAnother
queries_apart p q r s e =
    let heads = heads_first 1 (prefix p) (prefix q) r s (whole p) (whole q) e in
    (one_prefix p q heads.0, heads.1)

-- no query has the bytes of the one that finds nothing
tag_some : (h : Head) (r s : List ℕ) → head_spelling h ++ r ≡ 0 ∷ s → ⊥
tag_some (TermHead phrases) r s e = cc
tag_some (BothHead And) r s e = cc
tag_some (BothHead Or) r s e = cc
tag_some (BothHead Not) r s e = cc
tag_some (BothHead Minus) r s e = cc
tag_some (WeightHead tenths) r s e = cc
tag_some (AboveHead n) r s e = cc
tag_some (NearHead operands span ordered) r s e = cc
tag_some (WithinHead place) r s e = cc
tag_some (DefineHead phrases sum) r s e = cc

heads_some : (hs : List Head) (r : List ℕ) → need 1 hs ≡ Some 0 → flat_map head_spelling hs ≡ 0 ∷ r → ⊥
heads_some [] r n e = cc
heads_some (h ∷ hs) r n e = tag_some h (flat_map head_spelling hs) r e

pub not_nothing : (q : Reduced) (r : List ℕ) → query_bytes q ≡ 0 ∷ r → ⊥
not_nothing q r e = heads_some (prefix q) r (whole q) e

same_bytes : (p q : Reduced) → query_bytes p ≡ query_bytes q → p ≡ q
same_bytes p q e = (queries_apart p q [] [] (ap (λ (x : List ℕ). x ++ []) e)).0

pub one_query : QueriesHaveTheirBytes
one_query bytes None None a b = refl
one_query bytes None (Some q) a b = absurd (not_nothing q [] (b.spelt ∙ sym a.spelt))
one_query bytes (Some p) None a b = absurd (not_nothing p [] (a.spelt ∙ sym b.spelt))
one_query bytes (Some p) (Some q) a b = ap Some (same_bytes p q (a.spelt ∙ sym b.spelt))
