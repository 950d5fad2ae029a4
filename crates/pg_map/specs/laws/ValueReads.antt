-- A value, as its long pages are walked.
use Rattle.std.specs.Prelude.{Bool, true, false, cond}
use Rattle.std.proofs.Common.{◌≡◌, ◌≢◌, ◌⊎◌, inl, inr, ⊎_elim, ℕ, ◌+◌, ◌-◌, ◌<◌, ◌≤◌, List, [], ◌∷◌, ◌++◌, length, get_or, set, Option, Some, None, refl, sym, ap, subst, ◌∙◌, arith, append_assoc, append-nil, length-append}
use Rattle.std.proofs.lemmas.List.{get_or-set_same, get_or-set_other}
use Rattle.std.proofs.lemmas.Bool.Decides.{eqb_tells}
use Rattle.pg_map.specs.Kinds.{Each, Kind, Long, IsKind}
use Rattle.pg_map.specs.Holding.{kind_of_page, IsChain, times}
use Rattle.pg_map.specs.laws.Loose.{times-append, times_here, times_other}
use Rattle.pg_map.specs.laws.MapReading.{kind_is}
use Rattle.pg_map.specs.laws.Holding.{long_parts}
use Rattle.pg_map.specs.ChainReading.{taken_times, TakesPage, IsTakenOr, AreTaken, MayTake, HasValue}

-- ---- the marks of pages

one : Bool → ℕ
one b = cond b 1 0

mark_new : (taken : List Bool) (page i : ℕ) → 3 ≤ page → 3 ≤ i → page - 3 < length taken → i ≡ page → taken_times (set taken (page - 3) true) i ≡ 1
unfolding one
mark_new taken page i low least within is = ap (λ (n : ℕ). one (get_or (set taken (page - 3) true) (n - 3) false)) is ∙ ap one (get_or-set_same taken (page - 3) true false within)

mark_old : (taken : List Bool) (page i : ℕ) → 3 ≤ page → 3 ≤ i → i ≢ page → taken_times (set taken (page - 3) true) i ≡ taken_times taken i
unfolding one
mark_old taken page i low least apart = ap one (get_or-set_other taken (page - 3) (i - 3) true false (λ e. apart (omega (arith, e, low, least))))

pub takes_none : (taken : List Bool) → AreTaken taken taken []
takes_none taken = record { counts = λ i low. omega arith }

takes_more : (old mid new : List Bool) (pages : List ℕ) (page : ℕ) → AreTaken old mid pages → 3 ≤ page → page - 3 < length mid → taken_times mid page ≡ 0 → new ≡ set mid (page - 3) true → AreTaken old new (pages ++ page ∷ [])
takes_more old mid new pages page takes low within none is = record { counts = λ i least. of i least (eqb_case i) }
  where
    eqb_case : (i : ℕ) → ((i ≡ page) × Unit {0}) ⊎ (i ≢ page)
    eqb_case i = ⊎_elim (λ t. inl (t.1, tt)) (λ f. inr f.1) (eqb_tells i page)

    of : (i : ℕ) → 3 ≤ i → ((i ≡ page) × Unit {0}) ⊎ (i ≢ page) → times i (pages ++ page ∷ []) + taken_times old i ≡ taken_times new i
    of i least (inl (e, u)) =
        let one_more : times i (page ∷ []) ≡ 1 = ap (λ (n : ℕ). times i (n ∷ [])) (sym e) ∙ times_here i [] in
        let was = takes.counts i least in
        let before : taken_times mid i ≡ 0 = ap (taken_times mid) e ∙ none in
        let after : taken_times new i ≡ 1 = ap (λ (l : List Bool). taken_times l i) is ∙ mark_new mid page i low least within e in
        omega (arith, one_more, was, before, after, times-append i pages (page ∷ []))
    of i least (inr apart) =
        let none_more : times i (page ∷ []) ≡ 0 = times_other i page [] (λ e. apart (sym e)) in
        let was = takes.counts i least in
        let after : taken_times new i ≡ taken_times mid i = ap (λ (l : List Bool). taken_times l i) is ∙ mark_old mid page i low least apart in
        omega (arith, none_more, was, after, times-append i pages (page ∷ []))

-- ---- the walk

-- What is left of a value's chain behind the pages that were walked.
pub record IsLeft (kinds : List Kind) (pages value : List ℕ) (page : ℕ) (js v : List ℕ) : Type 0 where
  pub is : List ℕ
  pub rest : List ℕ
  pub pages_are : js ≡ pages ++ is
  pub value_is : v ≡ value ++ rest
  pub chain : IsChain kinds page is rest

-- Pages were walked and taken from the first one on, and have this much of the value; `page` is the next one.
pub record Walks (kinds : List Kind) (first : ℕ) (old new : List Bool) (page : ℕ) (value : List ℕ) : Type 0 where
  pub pages : List ℕ
  pub onward : (is rest : List ℕ) → IsChain kinds page is rest → IsChain kinds first (pages ++ is) (value ++ rest)
  pub back : (js v : List ℕ) → IsChain kinds first js v → IsLeft kinds pages value page js v
  pub takes : AreTaken old new pages

pub walks_none : (kinds : List Kind) (first : ℕ) (taken : List Bool) → Walks kinds first taken taken first []
walks_none kinds first taken = record {
  pages = [];
  onward = λ is rest chain. chain;
  back = λ js v chain. record { is = js; rest = v; pages_are = refl; value_is = refl; chain = chain };
  takes = takes_none taken;
}

pub walks_more : (kinds : List Kind) (first : ℕ) (old mid new : List Bool) (page next : ℕ) (value more : List ℕ) → Walks kinds first old mid page value → TakesPage kinds page next mid new value more → Walks kinds first old new next more
walks_more kinds first old mid new page next value more walks takes = record {
  pages = walks.pages ++ page ∷ [];
  onward = λ is rest chain.
      let whole : IsChain kinds first (walks.pages ++ page ∷ is) (value ++ (takes.bytes ++ rest)) =
      walks.onward (page ∷ is) (takes.bytes ++ rest) (refl, takes.low, next, takes.bytes, rest, takes.kind, refl, chain) in
      let value_is : value ++ (takes.bytes ++ rest) ≡ more ++ rest = sym (append_assoc value takes.bytes rest) ∙ ap (λ (l : List ℕ). l ++ rest) (sym takes.value) in
      subst (λ (l : List ℕ). IsChain kinds first l (more ++ rest)) (sym (append_assoc walks.pages (page ∷ []) is)) (subst (λ (l : List ℕ). IsChain kinds first (walks.pages ++ page ∷ is) l) value_is whole);
  back = λ js v chain. let l = walks.back js v chain in of l l.is refl;
  takes = takes_more old mid new walks.pages page walks.takes takes.low takes.within takes.first takes.taken;
}
  where
    of : {js v : List ℕ} → (l : IsLeft kinds walks.pages value page js v) (is : List ℕ) → l.is ≡ is → IsLeft kinds (walks.pages ++ page ∷ []) more next js v
    of l [] none =
        let end : IsChain kinds page [] l.rest = subst (λ (is : List ℕ). IsChain kinds page is l.rest) none l.chain in
        let e = end.0 in
        let low = takes.low in
        absurd (omega (arith, e, low))
    of {js} {v} l (i ∷ is) some = step (subst (λ (is : List ℕ). IsChain kinds page is l.rest) some l.chain)
      where
        step : IsChain kinds page (i ∷ is) l.rest → IsLeft kinds (walks.pages ++ page ∷ []) more next js v
        step (at, least, n, bytes, rest, kind, parts, chain) =
            let same = long_parts next n takes.bytes bytes (sym takes.kind ∙ ap (kind_of_page kinds) (sym at) ∙ kind) in
            record {
              is = is;
              rest = rest;
              pages_are = l.pages_are ∙ ap (λ (x : List ℕ). walks.pages ++ x) some ∙ ap (λ (n : ℕ). walks.pages ++ n ∷ is) at ∙ sym (append_assoc walks.pages (page ∷ []) is);
              value_is = l.value_is ∙ ap (λ (x : List ℕ). value ++ x) parts ∙ ap (λ (x : List ℕ). value ++ (x ++ rest)) (sym same.1) ∙ sym (append_assoc value takes.bytes rest) ∙ ap (λ (x : List ℕ). x ++ rest) (sym takes.value);
              chain = subst (λ (k : ℕ). IsChain kinds k is rest) (sym same.0) chain;
            }

-- a page that was taken has a byte
pub taken_some : (kinds : List Kind) (page next : ℕ) (old new : List Bool) (before after : List ℕ) → Each IsKind kinds → TakesPage kinds page next old new before after → length before < length after
taken_some kinds page next old new before after are takes =
    let k : IsKind (Long next takes.bytes) = subst IsKind takes.kind (kind_is kinds (page - 3) are) in
    let some = k.1 in
    let e = ap (λ (l : List ℕ). length l) takes.value in
    omega (arith, some, e, length-append before takes.bytes)

-- no page can be taken, but more of the value is to come
pub walks_stuck : (kinds : List Kind) (first : ℕ) (old new after : List Bool) (page count : ℕ) (value more : List ℕ) → Walks kinds first old new page value → length value < count → IsTakenOr None kinds page new after value more
    → (js v : List ℕ) → IsChain kinds first js v → length v ≡ count → MayTake old js → ⊥
walks_stuck kinds first old new after page count value more walks less none js v chain long may = let l = walks.back js v chain in of l l.is refl
  where
    of : (l : IsLeft kinds walks.pages value page js v) (is : List ℕ) → l.is ≡ is → ⊥
    of l [] ends =
        let end : IsChain kinds page [] l.rest = subst (λ (is : List ℕ). IsChain kinds page is l.rest) ends l.chain in
        let e = ap (λ (x : List ℕ). length x) end.1 in
        let f = ap (λ (x : List ℕ). length x) l.value_is in
        omega (arith, e, f, long, less, length-append value l.rest)
    of l (i ∷ is) some = step (subst (λ (is : List ℕ). IsChain kinds page is l.rest) some l.chain)
      where
        step : IsChain kinds page (i ∷ is) l.rest → ⊥
        step (at, least, n, bytes, rest, kind, parts, chain) =
            let low : 3 ≤ page = subst (λ (n : ℕ). 3 ≤ n) at least in
            let all : js ≡ walks.pages ++ page ∷ is = l.pages_are ∙ ap (λ (x : List ℕ). walks.pages ++ x) some ∙ ap (λ (n : ℕ). walks.pages ++ n ∷ is) at in
            let m = may.once page low in
            let t = ap (times page) all in
            let w = walks.takes.counts page low in
            none n bytes low (ap (kind_of_page kinds) (sym at) ∙ kind) (omega (arith, m, t, w, times-append page walks.pages (page ∷ is), times_here page is))

-- the value would be too long
pub walks_over : (kinds : List Kind) (first : ℕ) (old new : List Bool) (page count : ℕ) (value : List ℕ) → Walks kinds first old new page value → count < length value → (js v : List ℕ) → IsChain kinds first js v → length v ≡ count → MayTake old js → ⊥
walks_over kinds first old new page count value walks more js v chain long may =
    let l = walks.back js v chain in
    let e = ap (λ (x : List ℕ). length x) l.value_is in
    omega (arith, e, long, more, length-append value l.rest)

-- the value has all its bytes, but another page follows
pub walks_on : (kinds : List Kind) (first : ℕ) (old new : List Bool) (page count : ℕ) (value : List ℕ) → Each IsKind kinds → Walks kinds first old new page value → count ≤ length value → page ≢ 0
    → (js v : List ℕ) → IsChain kinds first js v → length v ≡ count → MayTake old js → ⊥
walks_on kinds first old new page count value are walks all more js v chain long may = let l = walks.back js v chain in of l l.is refl
  where
    of : (l : IsLeft kinds walks.pages value page js v) (is : List ℕ) → l.is ≡ is → ⊥
    of l [] ends =
        let end : IsChain kinds page [] l.rest = subst (λ (is : List ℕ). IsChain kinds page is l.rest) ends l.chain in
        more end.0
    of l (i ∷ is) some = step (subst (λ (is : List ℕ). IsChain kinds page is l.rest) some l.chain)
      where
        step : IsChain kinds page (i ∷ is) l.rest → ⊥
        step (at, least, n, bytes, rest, kind, parts, chain) =
            let k : IsKind (Long n bytes) = subst IsKind kind (kind_is kinds (i - 3) are) in
            let byte = k.1 in
            let e = ap (λ (x : List ℕ). length x) l.value_is in
            let f = ap (λ (x : List ℕ). length x) parts in
            omega (arith, e, f, byte, all, long, length-append value l.rest, length-append bytes rest)

pub walks_all : (kinds : List Kind) (first : ℕ) (old new : List Bool) (page count : ℕ) (value : List ℕ) → Walks kinds first old new page value → length value ≡ count → page ≡ 0 → HasValue kinds old new first count value
walks_all kinds first old new page count value walks long ends = record {
  pages = walks.pages;
  chain = subst (λ (l : List ℕ). IsChain kinds first l value) (append-nil walks.pages) (subst (λ (l : List ℕ). IsChain kinds first (walks.pages ++ []) l) (append-nil value) (walks.onward [] [] (ends, refl)));
  long = long;
  takes = walks.takes;
}

pub page_found : (found : Option ℕ) (kinds : List Kind) (page next : ℕ) (old new : List Bool) (before after : List ℕ) → IsTakenOr found kinds page old new before after → found ≡ Some next → TakesPage kinds page next old new before after
page_found found kinds page next old new before after is some = subst (λ (o : Option ℕ). IsTakenOr o kinds page old new before after) some is

pub page_missing : (found : Option ℕ) (kinds : List Kind) (page : ℕ) (old new : List Bool) (before after : List ℕ) → IsTakenOr found kinds page old new before after → found ≡ None → IsTakenOr None kinds page old new before after
page_missing found kinds page old new before after is none = subst (λ (o : Option ℕ). IsTakenOr o kinds page old new before after) none is
