-- Pages of the directory that are given back and taken, one after the other.
use Rattle.std.specs.Prelude.{Bool, true, false}
use Rattle.std.proofs.Common.{◌≡◌, ◌≢◌, ◌⊎◌, inl, inr, ⊎_elim, ◌==◌, ◌≤◌, ◌<◌, ℕ, zero, suc, ◌+◌, ◌-◌, List, [], ◌∷◌, ◌++◌, length, get_or, drop, refl, sym, ap, subst, ◌∙◌, arith}
use Rattle.std.specs.List.{Contains}
use Rattle.std.proofs.lemmas.Bool.{eq-eqb, eqb-true, false≢true}
use Rattle.pg_map.specs.Kinds.{Free}
use Rattle.pg_map.specs.Holding.{times}
use Rattle.pg_map.specs.laws.Loose.{times-append, times_here, times_more, times_other}
use Rattle.pg_directory.specs.laws.Levels.{AsOften}
use Rattle.pg_plan.specs.DirectoryPages.{IsPageGiven, IsPageTaken}
use Rattle.pg_plan.specs.Drafts.{Drafted, SeesNone}
use Rattle.pg_plan.specs.Touched.{TouchesOne}
use Rattle.pg_plan.specs.laws.Touched.{touches_more, touched_still}
use Rattle.pg_change.specs.Rebuilding.{AreAway, IsAsItWas, IsGivenBack, IsTakenFor, GoesTo}

-- ---- places

-- one place is another, or it isn't
pub same_or : (i j : ℕ) → (i ≡ j) ⊎ (i ≢ j)
same_or i j = of (i == j) (eqb-true i j) (λ e is. false≢true (sym e ∙ eq-eqb i j is))
  where
    of : (b : Bool) → (b ≡ true → i ≡ j) → (b ≡ false → i ≢ j) → (i ≡ j) ⊎ (i ≢ j)
    of true yes_ no_ = inl (yes_ refl)
    of false yes_ no_ = inr (no_ refl)

-- ---- the same numbers in another order

pub away_often : (d : Drafted) (ns ms : List ℕ) → AsOften ns ms → AreAway d ns → AreAway d ms
away_often d ns ms same are = record {
  each = λ n some. are.each n (let e = same n in omega (arith, e, some));
  once = λ n. let e = same n in let o = are.once n in omega (arith, e, o);
}

module _ (old new : Drafted) (ns ms ns' ms' taken taken' : List ℕ) (first : AsOften ns ns') (second : AsOften ms ms') (third : AsOften taken taken') where
  as_it_was_often : (at : ℕ) → IsAsItWas old new ns ms taken at → IsAsItWas old new ns' ms' taken' at
  as_it_was_often at s = record {
    kind = s.kind;
    away = s.away;
    often = sym (second (at + 3)) ∙ s.often ∙ first (at + 3);
    untaken = sym (third (at + 3)) ∙ s.untaken;
    touched = s.touched;
  }

  given_often : (at : ℕ) → IsGivenBack old new ns ms at → IsGivenBack old new ns' ms' at
  given_often at g = record {
    was = let e = first (at + 3) in let w = g.was in omega (arith, e, w);
    none = sym (second (at + 3)) ∙ g.none;
    kind = g.kind;
    away = g.away;
    touched = g.touched;
  }

  taken_often : (at : ℕ) → IsTakenFor old new ns ms taken at → IsTakenFor old new ns' ms' taken' at
  taken_often at t = record {
    was = ⊎_elim (λ free. inl free) (λ w. inr (let e = first (at + 3) in omega (arith, e, w))) t.was;
    is = let e = second (at + 3) in let w = t.is in omega (arith, e, w);
    taken_is = let e = third (at + 3) in let w = t.taken_is in omega (arith, e, w);
    kind = t.kind;
    away = t.away;
    touched = t.touched;
  }

  pub goes_often : GoesTo old new ns ms taken → GoesTo old new ns' ms' taken'
  goes_often g = record {
    away = away_often new ms ms' second g.away;
    goes = record {
      grown = g.goes.grown;
      still = g.goes.still;
      each = λ at. ⊎_elim (λ s. inl (as_it_was_often at s)) (λ r. inr (⊎_elim (λ b. inl (given_often at b)) (λ t. inr (taken_often at t)) r)) (g.goes.each at);
    };
  }

-- ---- no step

pub goes_same : (d : Drafted) (ns : List ℕ) → AreAway d ns → GoesTo d d ns ns []
goes_same d ns are = record {
  away = are;
  goes = record {
    grown = omega arith;
    still = λ at has. has;
    each = λ at. inl (record { kind = refl; away = refl; often = refl; untaken = refl; touched = (λ has. has, λ has. has) });
  };
}

-- ---- steps one after the other

-- What was given back by the later steps was the directory's at first.
abbrev pub GivesOld : List ℕ → List ℕ → List ℕ → Type 0
GivesOld ns ms ks = (i : ℕ) → 1 ≤ times i ms → times i ks ≡ 0 → 1 ≤ times i ns

module _ (a b c : Drafted) (ns ms ks t u : List ℕ) (gives : GivesOld ns ms ks) where
  -- the place in the first steps, and in the later ones
  abbrev First : ℕ → Type 0
  First at = IsAsItWas a b ns ms t at ⊎ (IsGivenBack a b ns ms at ⊎ IsTakenFor a b ns ms t at)

  abbrev Then : ℕ → Type 0
  Then at = IsAsItWas b c ms ks u at ⊎ (IsGivenBack b c ms ks at ⊎ IsTakenFor b c ms ks u at)

  abbrev Both : ℕ → Type 0
  Both at = IsAsItWas a c ns ks (t ++ u) at ⊎ (IsGivenBack a c ns ks at ⊎ IsTakenFor a c ns ks (t ++ u) at)

  given_then : (at : ℕ) → IsGivenBack b c ms ks at → Both at
  given_then at g = inr (inl (record { was = gives (at + 3) g.was g.none; none = g.none; kind = g.kind; away = g.away; touched = g.touched }))

  was_then : (at : ℕ) → IsAsItWas a b ns ms t at → Then at → Both at
  was_then at s r = ⊎_elim
      (λ then. inl (record {
        kind = then.kind ∙ s.kind;
        away = then.away ∙ s.away;
        often = then.often ∙ s.often;
        untaken = let e = times-append (at + 3) t u in let x = s.untaken in let y = then.untaken in omega (arith, e, x, y);
        touched = (λ has. s.touched.0 (then.touched.0 has), λ has. then.touched.1 (s.touched.1 has));
      }))
      (λ more. ⊎_elim (λ g. given_then at g)
      (λ then. inr (inr (record {
        was = ⊎_elim (λ free. inl (sym s.kind ∙ free)) (λ w. inr (let e = s.often in omega (arith, e, w))) then.was;
        is = then.is;
        taken_is = let e = times-append (at + 3) t u in let w = then.taken_is in omega (arith, e, w);
        kind = then.kind;
        away = then.away;
        touched = then.touched;
      }))) more) r

  given_first : (at : ℕ) → ((i : ℕ) → Contains b.touched i → Contains c.touched i) → IsGivenBack a b ns ms at → Then at → Both at
  given_first at still g r = ⊎_elim
      (λ then. inr (inl (record {
        was = g.was;
        none = then.often ∙ g.none;
        kind = then.kind ∙ g.kind;
        away = then.away ∙ g.away;
        touched = still at g.touched;
      })))
      (λ more. ⊎_elim (λ h. given_then at h)
      (λ then. inr (inr (record {
        was = inr g.was;
        is = then.is;
        taken_is = let e = times-append (at + 3) t u in let w = then.taken_is in omega (arith, e, w);
        kind = then.kind;
        away = then.away;
        touched = then.touched;
      }))) more) r

  taken_first : (at : ℕ) → ((i : ℕ) → Contains b.touched i → Contains c.touched i) → IsTakenFor a b ns ms t at → Then at → Both at
  taken_first at still f r = ⊎_elim
      (λ then. inr (inr (record {
        was = f.was;
        is = let e = then.often in let w = f.is in omega (arith, e, w);
        taken_is = let e = times-append (at + 3) t u in let w = f.taken_is in omega (arith, e, w);
        kind = then.kind ∙ f.kind;
        away = then.away ∙ f.away;
        touched = still at f.touched;
      })))
      (λ more. ⊎_elim (λ h. given_then at h)
      (λ then. inr (inr (record {
        was = f.was;
        is = then.is;
        taken_is = let e = times-append (at + 3) t u in let w = then.taken_is in omega (arith, e, w);
        kind = then.kind;
        away = then.away;
        touched = then.touched;
      }))) more) r

  pub goes_then : GoesTo a b ns ms t → GoesTo b c ms ks u → GoesTo a c ns ks (t ++ u)
  goes_then first second = record {
    away = second.away;
    goes = record {
      grown = let x = first.goes.grown in let y = second.goes.grown in omega (arith, x, y);
      still = λ at has. second.goes.still at (first.goes.still at has);
      each = λ at. ⊎_elim
          (λ s. was_then at s (second.goes.each at))
          (λ r. ⊎_elim (λ g. given_first at second.goes.still g (second.goes.each at)) (λ f. taken_first at second.goes.still f (second.goes.each at)) r)
          (first.goes.each at);
    };
  }

-- later steps that only take pages
pub only_takes : (ns ms t : List ℕ) → GivesOld ns ms (t ++ ms)
only_takes ns ms t i some none = absurd (let e = times-append i t ms in omega (arith, e, some, none))

-- ---- a page is given back

pub gives_one : (old new : Drafted) (n : ℕ) (ms : List ℕ) → 3 ≤ n → AreAway old (n ∷ ms) → IsPageGiven old new (n - 3) → GoesTo old new (n ∷ ms) ms []
gives_one old new n ms low are given = record {
  away = record {
    each = λ m some.
        let r = are.each m (let e = times_more m n ms in omega (arith, e, some)) in
        (r.0, given.others.away (m - 3) (λ is. other m some (let l = r.0 in omega (arith, is, l, low))) ∙ r.1);
    once = λ m. let e = times_more m n ms in let o = are.once m in omega (arith, e, o);
  };
  goes = record {
    grown = let e = given.count in omega (arith, e);
    still = λ at has. touched_still old.touched new.touched (n - 3) at touches has;
    each = λ at. ⊎_elim (λ is. inr (inl (here at is))) (λ apart. inl (there at apart)) (same_or at (n - 3));
  };
}
  where
    touches : TouchesOne old.touched new.touched (n - 3)
    touches = touches_more old.touched new.touched (n - 3) given.touched

    none_left : times n ms ≡ 0
    none_left = let o = are.once n in let e = times_here n ms in omega (arith, o, e)

    other : (m : ℕ) → 1 ≤ times m ms → m ≡ n → ⊥
    other m some is = let e = ap (λ (k : ℕ). times k ms) is in omega (arith, e, some, none_left)

    here : (at : ℕ) → at ≡ n - 3 → IsGivenBack old new (n ∷ ms) ms at
    here at is =
        let back : n ≡ at + 3 = omega (arith, is, low) in
        record {
          was = subst (λ (k : ℕ). 1 ≤ times k (n ∷ ms)) back (let e = times_here n ms in omega (arith, e));
          none = subst (λ (k : ℕ). times k ms ≡ 0) back none_left;
          kind = subst (λ (k : ℕ). get_or new.now k Free ≡ Free) (sym is) given.kind;
          away = subst (λ (k : ℕ). get_or new.away k false ≡ false) (sym is) given.away;
          touched = subst (Contains new.touched) (sym is) touches.here;
        }

    there : (at : ℕ) → at ≢ n - 3 → IsAsItWas old new (n ∷ ms) ms [] at
    there at apart = record {
      kind = given.others.kinds at apart;
      away = given.others.away at apart;
      often = sym (times_other (at + 3) n ms (λ is. apart (omega (arith, is))));
      untaken = refl;
      touched = touches.others at apart;
    }

-- ---- a page is taken

pub takes_one : (old new : Drafted) (at : ℕ) (ns : List ℕ) → SeesNone old → AreAway old ns → IsPageTaken old new at → TouchesOne old.touched new.touched at → GoesTo old new ns ((at + 3) ∷ ns) ((at + 3) ∷ [])
takes_one old new at ns sees are took touches = record {
  away = record {
    each = λ m some. ⊎_elim
        (λ is. let low : 3 ≤ m = omega (arith, is) in let e : at ≡ m - 3 = omega (arith, is) in (low, subst (λ (k : ℕ). get_or new.away k false ≡ true) e took.away))
        (λ apart.
        let r = are.each m (let e = times_other m (at + 3) ns (λ is. apart (sym is)) in omega (arith, e, some)) in
        (r.0, took.others.away (m - 3) (λ is. apart (let l = r.0 in omega (arith, is, l))) ∙ r.1))
        (same_or m (at + 3));
    once = λ m. ⊎_elim
        (λ is. subst (λ (k : ℕ). times k ((at + 3) ∷ ns) ≤ 1) (sym is) (let e = times_here (at + 3) ns in omega (arith, e, new_one)))
        (λ apart. let e = times_other m (at + 3) ns (λ is. apart (sym is)) in let o = are.once m in omega (arith, e, o))
        (same_or m (at + 3));
  };
  goes = record {
    grown = took.grown;
    still = λ i has. touched_still old.touched new.touched at i touches has;
    each = λ i. ⊎_elim (λ is. inr (inr (subst (IsTakenFor old new ns ((at + 3) ∷ ns) ((at + 3) ∷ [])) (sym is) here))) (λ apart. inl (there i apart)) (same_or i at);
  };
}
  where
    -- it wasn't the directory's, since it was free
    new_one : times (at + 3) ns ≡ 0
    new_one = of (times (at + 3) ns) refl
      where
        of : (k : ℕ) → times (at + 3) ns ≡ k → k ≡ 0
        of zero is = refl
        of (suc k) is =
            let r = are.each (at + 3) (omega (arith, is)) in
            let e : (at + 3) - 3 ≡ at = omega arith in
            let kind = sees.kind at (subst (λ (n : ℕ). get_or old.away n false ≡ true) e r.1) in
            let was = took.was in
            cc (was, kind)

    here : IsTakenFor old new ns ((at + 3) ∷ ns) ((at + 3) ∷ []) at
    here = record {
      was = inl took.was;
      is = let e = times_here (at + 3) ns in omega (arith, e);
      taken_is = let e = times_here (at + 3) [] in omega (arith, e);
      kind = took.kind;
      away = took.away;
      touched = touches.here;
    }

    there : (i : ℕ) → i ≢ at → IsAsItWas old new ns ((at + 3) ∷ ns) ((at + 3) ∷ []) i
    there i apart = record {
      kind = took.others.kinds i apart;
      away = took.others.away i apart;
      often = times_other (i + 3) (at + 3) ns (λ is. apart (omega (arith, is)));
      untaken = times_other (i + 3) (at + 3) [] (λ is. apart (omega (arith, is)));
      touched = touches.others i apart;
    }

-- ---- several pages

times_drop : (i k : ℕ) (ns : List ℕ) → times i (drop k ns) ≤ times i ns
times_drop i zero ns = omega arith
times_drop i (suc k) [] = omega arith
times_drop i (suc k) (n ∷ ns) = let e = times_drop i k ns in let m = times_more i n ns in omega (arith, e, m)

drop_there : (k : ℕ) (ns : List ℕ) → k < length ns → drop k ns ≡ get_or ns k 0 ∷ drop (suc k) ns
drop_there k [] less = absurd (omega (arith, less))
drop_there zero (n ∷ ns) less = refl
drop_there (suc k) (n ∷ ns) less = drop_there k ns (omega (arith, less))

-- One page more of those that are given back.
pub gives_next : (a b c : Drafted) (numbers ms : List ℕ) (k : ℕ) → k < length numbers → GoesTo a b (numbers ++ ms) (drop k numbers ++ ms) []
    → ((rest : List ℕ) → AreAway b (get_or numbers k 0 ∷ rest) → GoesTo b c (get_or numbers k 0 ∷ rest) rest []) → GoesTo a c (numbers ++ ms) (drop (suc k) numbers ++ ms) []
gives_next a b c numbers ms k less first step =
    let is = ap (λ (l : List ℕ). l ++ ms) (drop_there k numbers less) in
    let mid = subst (λ (l : List ℕ). GoesTo a b (numbers ++ ms) l []) is first in
    goes_then a b c (numbers ++ ms) (get_or numbers k 0 ∷ (drop (suc k) numbers ++ ms)) (drop (suc k) numbers ++ ms) [] []
    (λ i some none.
    let e = ap (times i) is in
    let x = times-append i (drop k numbers) ms in
    let y = times-append i numbers ms in
    let z = times_drop i k numbers in
    omega (arith, e, x, y, z, some))
    mid (step (drop (suc k) numbers ++ ms) mid.away)

-- One page more of those that are taken.
pub takes_next : (a b c : Drafted) (ns numbers : List ℕ) (n : ℕ) → GoesTo a b ns (numbers ++ ns) numbers → ((ms : List ℕ) → AreAway b ms → GoesTo b c ms (n ∷ ms) (n ∷ [])) → GoesTo a c ns ((numbers ++ n ∷ []) ++ ns) (numbers ++ n ∷ [])
takes_next a b c ns numbers n first step =
    goes_often a c ns (n ∷ (numbers ++ ns)) ns ((numbers ++ n ∷ []) ++ ns) (numbers ++ n ∷ []) (numbers ++ n ∷ []) (λ i. refl) turned (λ i. refl)
    (goes_then a b c ns (numbers ++ ns) (n ∷ (numbers ++ ns)) numbers (n ∷ []) (only_takes ns (numbers ++ ns) (n ∷ [])) first (step (numbers ++ ns) first.away))
  where
    turned : AsOften (n ∷ (numbers ++ ns)) ((numbers ++ n ∷ []) ++ ns)
    turned i =
        let x = times-append i (n ∷ []) (numbers ++ ns) in
        let y = times-append i numbers ns in
        let z = times-append i (numbers ++ n ∷ []) ns in
        let w = times-append i numbers (n ∷ []) in
        omega (arith, x, y, z, w)
