-- The tag that closes is the first closing one between which and the opening one as many of its number open as close.
use Rattle.std.proofs.Common.{◌≡◌, ◌+◌, ℕ, Bool, true, false, cond, List, [], ◌∷◌, ◌++◌, refl, sym, ap, subst, ◌∙◌, arith, Some, None}
use Rattle.std.specs.Prelude.{◌==◌}
use Rattle.std.proofs.lemmas.Bool.{eqb-true, eqb-false}
use Rattle.tx_tags.specs.declared.tags.TagView.{TagView}
use Rattle.tx_tags.specs.Pairs.{closer}
use Rattle.tx_tags.specs.Promises.{Closes, IsFirstCloser, ClosersAreFirst, NoneCloses}

some-is : (t u : TagView) → Some t ≡ Some u → t ≡ u
some-is t u h = cc

head-is : (t u : TagView) (ts us : List TagView) → t ∷ ts ≡ u ∷ us → t ≡ u
head-is t u ts us h = cc

tail-is : (t u : TagView) (ts us : List TagView) → t ∷ ts ≡ u ∷ us → ts ≡ us
tail-is t u ts us h = cc

-- one tag more before them
module _ (k : ℕ) (x : TagView) where
  -- a tag closes behind x and these as it does behind these, where the counts have taken x
  opens : (o c : ℕ) (before : List TagView) (t : TagView) → (x.tag == k) ≡ true → x.closing ≡ false → Closes k (o + 1) c before t → Closes k o c (x ∷ before) t
  opens o c before t n cl h = record { named = h.named; closing = h.closing; balanced = let b = h.balanced in rw (n, cl) (omega (arith, b)) }

  opened : (o c : ℕ) (before : List TagView) (t : TagView) → (x.tag == k) ≡ true → x.closing ≡ false → Closes k o c (x ∷ before) t → Closes k (o + 1) c before t
  opened o c before t n cl h = record { named = h.named; closing = h.closing; balanced = let b = rw (n, cl) at h.balanced in omega (arith, b) }

  closes : (o c : ℕ) (before : List TagView) (t : TagView) → (x.tag == k) ≡ true → x.closing ≡ true → Closes k o (c + 1) before t → Closes k o c (x ∷ before) t
  closes o c before t n cl h = record { named = h.named; closing = h.closing; balanced = let b = h.balanced in rw (n, cl) (omega (arith, b)) }

  closed : (o c : ℕ) (before : List TagView) (t : TagView) → (x.tag == k) ≡ true → x.closing ≡ true → Closes k o c (x ∷ before) t → Closes k o (c + 1) before t
  closed o c before t n cl h = record { named = h.named; closing = h.closing; balanced = let b = rw (n, cl) at h.balanced in omega (arith, b) }

  passes : (o c : ℕ) (before : List TagView) (t : TagView) → (x.tag == k) ≡ false → Closes k o c before t → Closes k o c (x ∷ before) t
  passes o c before t n h = record { named = h.named; closing = h.closing; balanced = rw n h.balanced }

  passed : (o c : ℕ) (before : List TagView) (t : TagView) → (x.tag == k) ≡ false → Closes k o c (x ∷ before) t → Closes k o c before t
  passed o c before t n h = record { named = h.named; closing = h.closing; balanced = rw n at h.balanced }

-- x itself doesn't close, and what closes behind it is a first one of the others
more-first : (k o c o' c' : ℕ) (x : TagView) (ts : List TagView) (t : TagView)
    → ((before : List TagView) (u : TagView) → Closes k o' c' before u → Closes k o c (x ∷ before) u)
    → ((before : List TagView) (u : TagView) → Closes k o c (x ∷ before) u → Closes k o' c' before u)
    → (Closes k o c [] x → ⊥) → IsFirstCloser k o' c' ts t → IsFirstCloser k o c (x ∷ ts) t
more-first k o c o' c' x ts t to from here h = record {
  before = x ∷ h.before;
  after = h.after;
  split = ap (λ l. x ∷ l) h.split;
  closes = to h.before t h.closes;
  first = go;
}
  where
    go : (front : List TagView) (u : TagView) (rest : List TagView) → x ∷ h.before ≡ front ++ u ∷ rest → Closes k o c front u → ⊥
    go [] u rest e q = here (subst (Closes k o c []) (sym (head-is x u h.before rest e)) q)
    go (y ∷ front) u rest e q =
        h.first front u rest (tail-is x y h.before (front ++ u ∷ rest) e)
        (from front u (subst (λ z. Closes k o c (z ∷ front) u) (sym (head-is x y h.before (front ++ u ∷ rest) e)) q))

first-here : (k o c : ℕ) (x : TagView) (ts : List TagView) (t : TagView) → (x.tag == k) ≡ true → x.closing ≡ true → o ≡ c → x ≡ t → IsFirstCloser k o c (x ∷ ts) t
first-here k o c x ts t n cl same is = record {
  before = [];
  after = ts;
  split = ap (λ y. y ∷ ts) is;
  closes = record { named = subst (λ y. (y.tag == k) ≡ true) is n; closing = subst (λ y. y.closing ≡ true) is cl; balanced = omega (arith, same) };
  first = none;
}
  where
    none : (front : List TagView) (u : TagView) (rest : List TagView) → [] ≡ front ++ u ∷ rest → Closes k o c front u → ⊥
    none [] u rest e q = cc
    none (y ∷ front) u rest e q = cc

closer-first : (k o c : ℕ) (ts : List TagView) (t : TagView) → closer k o c ts ≡ Some t → IsFirstCloser k o c ts t
closer-first k o c [] t h = cc
closer-first k o c (x ∷ ts) t h =
    go (closer-first k o (c + 1) ts t) (closer-first k (o + 1) c ts t) (closer-first k o c ts t) ((x.tag == k)) x.closing (o == c) refl refl refl h
  where
    go : (closer k o (c + 1) ts ≡ Some t → IsFirstCloser k o (c + 1) ts t) → (closer k (o + 1) c ts ≡ Some t → IsFirstCloser k (o + 1) c ts t)
        → (closer k o c ts ≡ Some t → IsFirstCloser k o c ts t) → (n cl same : Bool) → (x.tag == k) ≡ n → x.closing ≡ cl → (o == c) ≡ same
        → cond n (cond cl (cond same (Some x) (closer k o (c + 1) ts)) (closer k (o + 1) c ts)) (closer k o c ts) ≡ Some t → IsFirstCloser k o c (x ∷ ts) t
    go later opening other true true true n cl same h = first-here k o c x ts t n cl (eqb-true o c same) (some-is x t h)
    go later opening other true true false n cl same h =
        more-first k o c o (c + 1) x ts t (λ b u q. closes k x o c b u n cl q) (λ b u q. closed k x o c b u n cl q)
        (λ q. let b = q.balanced in eqb-false o c same (omega (arith, b))) (later h)
    go later opening other true false same n cl s h =
        more-first k o c (o + 1) c x ts t (λ b u q. opens k x o c b u n cl q) (λ b u q. opened k x o c b u n cl q)
        (λ q. let clash = sym cl ∙ q.closing in cc) (opening h)
    go later opening other false cl same n c' s h =
        more-first k o c o c x ts t (λ b u q. passes k x o c b u n q) (λ b u q. passed k x o c b u n q)
        (λ q. let clash = sym n ∙ q.named in cc) (other h)

none-more : (k o c o' c' : ℕ) (x : TagView) (ts : List TagView)
    → ((before : List TagView) (u : TagView) → Closes k o c (x ∷ before) u → Closes k o' c' before u)
    → (Closes k o c [] x → ⊥) → ((front : List TagView) (u : TagView) (rest : List TagView) → ts ≡ front ++ u ∷ rest → Closes k o' c' front u → ⊥)
    → (front : List TagView) (u : TagView) (rest : List TagView) → x ∷ ts ≡ front ++ u ∷ rest → Closes k o c front u → ⊥
none-more k o c o' c' x ts from here none [] u rest e q = here (subst (Closes k o c []) (sym (head-is x u ts rest e)) q)
none-more k o c o' c' x ts from here none (y ∷ front) u rest e q =
    none front u rest (tail-is x y ts (front ++ u ∷ rest) e) (from front u (subst (λ z. Closes k o c (z ∷ front) u) (sym (head-is x y ts (front ++ u ∷ rest) e)) q))

nothing-in : (front : List TagView) (u : TagView) (rest : List TagView) → [] ≡ front ++ u ∷ rest → ⊥
nothing-in [] u rest e = cc
nothing-in (y ∷ front) u rest e = cc

closer-none : (k o c : ℕ) (ts : List TagView) → closer k o c ts ≡ None → (front : List TagView) (u : TagView) (rest : List TagView) → ts ≡ front ++ u ∷ rest → Closes k o c front u → ⊥
closer-none k o c [] h = λ front u rest e q. nothing-in front u rest e
closer-none k o c (x ∷ ts) h =
    go (closer-none k o (c + 1) ts) (closer-none k (o + 1) c ts) (closer-none k o c ts) ((x.tag == k)) x.closing (o == c) refl refl refl h
  where
    go : (closer k o (c + 1) ts ≡ None → (front : List TagView) (u : TagView) (rest : List TagView) → ts ≡ front ++ u ∷ rest → Closes k o (c + 1) front u → ⊥)
        → (closer k (o + 1) c ts ≡ None → (front : List TagView) (u : TagView) (rest : List TagView) → ts ≡ front ++ u ∷ rest → Closes k (o + 1) c front u → ⊥)
        → (closer k o c ts ≡ None → (front : List TagView) (u : TagView) (rest : List TagView) → ts ≡ front ++ u ∷ rest → Closes k o c front u → ⊥) → (n cl same : Bool) → (x.tag == k) ≡ n → x.closing ≡ cl → (o == c) ≡ same
        → cond n (cond cl (cond same (Some x) (closer k o (c + 1) ts)) (closer k (o + 1) c ts)) (closer k o c ts) ≡ None
        → (front : List TagView) (u : TagView) (rest : List TagView) → x ∷ ts ≡ front ++ u ∷ rest → Closes k o c front u → ⊥
    go later opening other true true true n cl same h = cc
    go later opening other true true false n cl same h = none-more k o c o (c + 1) x ts (λ b u q. closed k x o c b u n cl q) (λ q. let b = q.balanced in eqb-false o c same (omega (arith, b))) (later h)
    go later opening other true false same n cl s h = none-more k o c (o + 1) c x ts (λ b u q. opened k x o c b u n cl q) (λ q. let clash = sym cl ∙ q.closing in cc) (opening h)
    go later opening other false cl same n c' s h = none-more k o c o c x ts (λ b u q. passed k x o c b u n q) (λ q. let clash = sym n ∙ q.named in cc) (other h)

pub closers_are_first : ClosersAreFirst
closers_are_first k ts t h = closer-first k 0 0 ts t h

pub none_closes : NoneCloses
none_closes k ts h = closer-none k 0 0 ts h
