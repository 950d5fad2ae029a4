-- What pages hold while a batch is planned, one page at a time: a layout, and beside it one chain of long pages that no entry has.
use Rattle.std.proofs.lemmas.Bool.{eq-eqb}
use Rattle.std.proofs.lemmas.Bool.Decides.{eqb_tells}
use Rattle.std.specs.Prelude.{Bool, true, false, cond}
use Rattle.std.proofs.Common.{◌≤◌, ◌≡◌, ◌≢◌, ⊎_elim, ℕ, ◌+◌, ◌==◌, List, [], ◌∷◌, ◌++◌, refl, sym, ap, ◌∙◌, arith}
use Rattle.ct_keep.specs.laws.Content.{same}
use Rattle.pg_map.specs.Kinds.{Kind, StringItem, Short, Far, Entry}
use Rattle.pg_map.specs.Holding.{kind_of_page, IsChain, Placed, StandsFor, times, chains_of}
use Rattle.pg_map.specs.Loose.{values_under, Stand}

-- ---- the values of a key among entries

pub values-append : (key : List ℕ) (es fs : List Entry) → values_under key (es ++ fs) ≡ values_under key es ++ values_under key fs
values-append key [] fs = refl
values-append key (e ∷ es) fs = elim (same key e.0) as (λ b. cond b (e.1 ∷ values_under key (es ++ fs)) (values_under key (es ++ fs)) ≡ cond b (e.1 ∷ values_under key es) (values_under key es) ++ values_under key fs) [
  | true ↦ ap (λ (l : List (List ℕ)). e.1 ∷ l) (values-append key es fs)
  | false ↦ values-append key es fs
]

-- ---- the pages of a chain

pub times-append : (i : ℕ) (is js : List ℕ) → times i (is ++ js) ≡ times i is + times i js
times-append i [] js = omega arith
times-append i (k ∷ is) js = elim (k == i) as (λ b. cond b (1 + times i (is ++ js)) (times i (is ++ js)) ≡ cond b (1 + times i is) (times i is) + times i js) [
  | true ↦ omega (arith, times-append i is js)
  | false ↦ times-append i is js
]

pub times_more : (i k : ℕ) (is : List ℕ) → times i is ≤ times i (k ∷ is)
times_more i k is = elim (k == i) as (λ b. times i is ≤ cond b (1 + times i is) (times i is)) [
  | true ↦ omega arith
  | false ↦ omega arith
]

pub times_here : (i : ℕ) (is : List ℕ) → times i (i ∷ is) ≡ 1 + times i is
times_here i is = here_ (i == i) (eq-eqb i i refl)
  where
    here_ : (b : Bool) → b ≡ true → cond b (1 + times i is) (times i is) ≡ 1 + times i is
    here_ true e = refl
    here_ false e = cc

pub times_other : (i k : ℕ) (is : List ℕ) → k ≢ i → times i (k ∷ is) ≡ times i is
times_other i k is apart = other (k == i) (⊎_elim (λ t. absurd (apart t.1)) (λ f. f.0) (eqb_tells k i))
  where
    other : (b : Bool) → b ≡ false → cond b (1 + times i is) (times i is) ≡ times i is
    other false e = refl
    other true e = cc

-- Two lists of kinds are the same at the pages of a list.
abbrev pub SameAt : List ℕ → List Kind → List Kind → Type 0
SameAt is ks ls = (i : ℕ) → 3 ≤ i → 1 ≤ times i is → kind_of_page ks i ≡ kind_of_page ls i

pub chain_same : (ks ls : List Kind) (first : ℕ) (is value : List ℕ) → SameAt is ks ls → IsChain ks first is value → IsChain ls first is value
chain_same ks ls first [] value same_ chain = chain
chain_same ks ls first (i ∷ is) value same_ (at, least, next, bytes, rest, kind, parts, more) = (
  at,
  least,
  next,
  bytes,
  rest,
  sym (same_ i least (let e = times_here i is in omega (arith, e))) ∙ kind,
  parts,
  chain_same ks ls next is rest (λ j low some. same_ j low (let e = times_more j i is in omega (arith, e, some))) more,
)

pub stands_same : (ks ls : List Kind) (item : StringItem) (e : Entry) (chain : List ℕ) → SameAt chain ks ls → StandsFor ks item e chain → StandsFor ls item e chain
stands_same ks ls (Short key value) e chain same_ stands = stands
stands_same ks ls (Far key count first) e chain same_ stands = (stands.0, stands.1, chain_same ks ls first chain e.1 same_ stands.2)

pub all_same : (ks ls : List Kind) (ps : List Placed) → SameAt (chains_of ps) ks ls → Stand ks ps → Stand ls ps
all_same ks ls [] same_ stand = tt
all_same ks ls (p ∷ ps) same_ stand = (
  stands_same ks ls p.item p.entry p.chain (λ i low some. same_ i low (let e = times-append i p.chain (chains_of ps) in omega (arith, e, some))) stand.0,
  all_same ks ls ps (λ i low some. same_ i low (let e = times-append i p.chain (chains_of ps) in omega (arith, e, some))) stand.1,
)

-- ---- a layout with a loose chain
