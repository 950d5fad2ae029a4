-- An item stands in one way, on pages that are long ones.
use Rattle.std.specs.Prelude.{Bool, true, false, cond, ◌==◌}
use Rattle.std.proofs.Common.{◌≡◌, ◌≢◌, ◌⊎◌, inl, inr, ℕ, zero, suc, ◌+◌, ◌-◌, ◌≤◌, List, [], ◌∷◌, ◌++◌, get_or, refl, sym, ap, subst, ◌∙◌, arith}
use Rattle.std.proofs.lemmas.Bool.Decides.{eqb_tells}
use Rattle.pg_map.specs.ChainReading.{taken_times}
use Rattle.pg_map.specs.Holding.{kind_of_page, IsChain, Placed, StandsFor, times, one_if_long, chains_of, bytes_of}
use Rattle.pg_map.specs.Kinds.{Each, Kind, Long, StringItem, Short, Far, IsStringItem, Entry}
use Rattle.pg_map.specs.Loose.{Stand}
use Rattle.pg_map.specs.laws.Loose.{times-append}
use Rattle.pg_map.specs.laws.OneMap.{one_item, one_entry}

-- ---- the entries of a string stand in one way

one_pages : (ks : List Kind) (first : ℕ) (is js v w : List ℕ) → IsChain ks first is v → IsChain ks first js w → is ≡ js
one_pages ks first [] [] v w a b = refl
one_pages ks first [] (j ∷ js) v w a b = absurd (omega (arith, a.0, b.0, b.1))
one_pages ks first (i ∷ is) [] v w a b = absurd (omega (arith, a.0, a.1, b.0))
one_pages ks first (i ∷ is) (j ∷ js) v w (ia, l1, n1, b1, r1, k1, p1, m1) (jb, l2, n2, b2, r2, k2, p2, m2) =
    let next = long_next n1 n2 b1 b2 (sym k1 ∙ ap (kind_of_page ks) (ia ∙ sym jb) ∙ k2) in
    ap (λ (n : ℕ). n ∷ is) (ia ∙ sym jb) ∙ ap (λ (l : List ℕ). j ∷ l) (one_pages ks n2 is js r1 r2 (subst (λ (n : ℕ). IsChain ks n is r1) next m1) m2)
  where
    long_next : (n k : ℕ) (b c : List ℕ) → Long n b ≡ Long k c → n ≡ k
    long_next n k b c is = cc is

one_chain_of : (ks : List Kind) (i : StringItem) (e f : Entry) (c d : List ℕ) → StandsFor ks i e c → StandsFor ks i f d → c ≡ d
one_chain_of ks (Short key value) e f c d a b = a.1 ∙ sym b.1
one_chain_of ks (Far key count first) e f c d a b = one_pages ks first c d e.1 f.1 a.2 b.2

placed_of : StringItem → Entry → List ℕ → Placed
placed_of item entry chain = record { item = item; entry = entry; chain = chain }

pub one_placed : (ks : List Kind) (p q : Placed) → p.item ≡ q.item → StandsFor ks p.item p.entry p.chain → StandsFor ks q.item q.entry q.chain → p ≡ q
unfolding placed_of
one_placed ks p q item a b =
    let a1 : StandsFor ks q.item p.entry p.chain = subst (λ (i : StringItem). StandsFor ks i p.entry p.chain) item a in
    ap (λ (i : StringItem). placed_of i p.entry p.chain) item ∙ ap (λ (e : Entry). placed_of q.item e p.chain) (one_entry ks q.item p.entry q.entry p.chain q.chain a1 b)
    ∙ ap (placed_of q.item q.entry) (one_chain_of ks q.item p.entry q.entry p.chain q.chain a1 b)

abbrev pub Items : List Placed → Type 0
Items ps = Each (λ (p : Placed). IsStringItem p.item) ps

-- Entries of the first strings are the first of all entries.
pub record Begins (ps qs : List Placed) (rest : List (List ℕ)) : Type 0 where
  pub more : List Placed
  pub is : qs ≡ ps ++ more
  pub bytes : bytes_of more ≡ rest

head_of : List (List ℕ) → List ℕ
head_of [] = []
head_of (s ∷ ss) = s

tail_of : List (List ℕ) → List (List ℕ)
tail_of [] = []
tail_of (s ∷ ss) = ss

pub begins : (ks : List Kind) (ps qs : List Placed) (rest : List (List ℕ)) → Items ps → Stand ks ps → Items qs → Stand ks qs → bytes_of qs ≡ bytes_of ps ++ rest → Begins ps qs rest
unfolding head_of tail_of
begins ks [] qs rest a b c d is = record { more = qs; is = refl; bytes = is }
begins ks (p ∷ ps) [] rest a b c d is = absurd (cc is)
begins ks (p ∷ ps) (q ∷ qs) rest a b c d is =
    let item : q.item ≡ p.item = one_item q.item p.item c.0 a.0 (ap head_of is) in
    let same_ : q ≡ p = one_placed ks q p item d.0 b.0 in
    let more = begins ks ps qs rest a.1 b.1 c.1 d.1 (ap tail_of is) in
    record { more = more.more; is = ap (λ (x : Placed). x ∷ qs) same_ ∙ ap (λ (l : List Placed). p ∷ l) more.is; bytes = more.bytes }

-- ---- the pages of what stands

-- a page of a chain is a long one
chained_long : (ks : List Kind) (first : ℕ) (is v : List ℕ) (i : ℕ) → IsChain ks first is v → 1 ≤ times i is → one_if_long (kind_of_page ks i) ≡ 1
chained_long ks first [] v i chain some = absurd (omega (arith, some))
chained_long ks first (j ∷ is) v i (at, least, next, bytes, rest, kind, parts, more) some = of (λ times_. chained_long ks next is rest i more times_) (eqb_tells j i)
  where
    of : (1 ≤ times i is → one_if_long (kind_of_page ks i) ≡ 1) → (((j == i) ≡ true) × (j ≡ i)) ⊎ (((j == i) ≡ false) × (j ≢ i)) → one_if_long (kind_of_page ks i) ≡ 1
    of again (inl yes_) = ap (λ (n : ℕ). one_if_long (kind_of_page ks n)) (sym yes_.1) ∙ ap one_if_long kind
    of again (inr no_) = again (subst (λ (b : Bool). 1 ≤ cond b (1 + times i is) (times i is)) no_.0 some)

pub placed_long : (ks : List Kind) (ps : List Placed) (i : ℕ) → Stand ks ps → 1 ≤ times i (chains_of ps) → one_if_long (kind_of_page ks i) ≡ 1
placed_long ks [] i stand some = absurd (omega (arith, some))
placed_long ks (p ∷ ps) i stand some = of (λ times_. placed_long ks ps i stand.1 times_) (times i p.chain) refl
  where
    one : (item : StringItem) (e : Entry) (chain : List ℕ) → StandsFor ks item e chain → 1 ≤ times i chain → one_if_long (kind_of_page ks i) ≡ 1
    one (Short key value) e chain stands times_ = absurd (let z = ap (times i) stands.1 in omega (arith, z, times_))
    one (Far key count first) e chain stands times_ = chained_long ks first chain e.1 i stands.2 times_

    of : (1 ≤ times i (chains_of ps) → one_if_long (kind_of_page ks i) ≡ 1) → (n : ℕ) → times i p.chain ≡ n → one_if_long (kind_of_page ks i) ≡ 1
    of again zero none = again (omega (arith, none, some, times-append i p.chain (chains_of ps)))
    of again (suc n) more = one p.item p.entry p.chain stand.0 (omega (arith, more))

pub mark_few : (taken : List Bool) (i : ℕ) → taken_times taken i ≤ 1
mark_few taken i = elim (get_or taken (i - 3) false) as (λ b. cond b 1 0 ≤ 1) [ true ↦ omega arith | false ↦ omega arith ]
