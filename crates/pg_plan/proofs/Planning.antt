-- What the steps of a plan need of the laws.
use Rattle.std.proofs.Common.{◌≤◌, ◌<◌, ◌≡◌, ◌≢◌, ℕ, zero, suc, ◌+◌, ◌-◌, ◌%◌, ◌^◌, List, [], ◌∷◌, ◌++◌, length, set, take, drop, refl, sym, ap, subst, ◌∙◌, length-append, arith}
use Rattle.ct_keep.specs.Content.{Content}
use Rattle.pg_map.specs.Kinds.{Kind, Free, Long, IsKind}
use Rattle.pg_map.specs.Holding.{kind_of_page}
use Rattle.pg_plan.specs.Planned.{HasFree, HasChain, IsLongAt}
use Rattle.pg_map.specs.Done.{IsPlanned, IsDone}
use Rattle.pg_plan.specs.laws.Planned.{roomier, laid_at, freed_at, begins_at, ended}
use Rattle.pg_map.specs.laws.MapReading.{kind_is}
use Rattle.std.proofs.Math.Seq.{drop-length}

pub page_laid : (old mid new : List Kind) (at next : ℕ) (m : Content) (bytes value : List ℕ) → HasFree old mid at → new ≡ set mid at (Long next bytes) → IsKind (Long next bytes) → HasChain old m next value → HasChain new m (at + 3) (bytes ++ value)
page_laid old mid new at next m bytes value free is good chain =
    let n : 3 + at ≡ at + 3 = omega arith in
    record {
      loose = (3 + at) ∷ chain.loose;
      is = subst (λ (l : List Kind). IsPlanned l m (at + 3) ((3 + at) ∷ chain.loose) (bytes ++ value)) (sym is)
          (subst (λ (k : ℕ). IsPlanned (set mid at (Long next bytes)) m k ((3 + at) ∷ chain.loose) (bytes ++ value)) n
          (laid_at mid at m next chain.loose value bytes (roomier old mid m next chain.loose value free.roomier chain.is) free.within free.free good));
    }

-- ---- a value is laid from its end to its front

pub record PutsLong (before : List Kind) (kinds : List Kind) (value : List ℕ) (first left : ℕ) : Type 0 where
  pub within : left ≤ length value
  pub full : first ≢ 0 → left % 4088 ≡ 0
  pub small : first < 2 ^ 32
  pub chain : (m : Content) → IsDone before m → HasChain kinds m first (drop left value)

pub puts_none : (kinds : List Kind) (value : List ℕ) (n : ℕ) → n ≡ length value → PutsLong kinds kinds value 0 n
puts_none kinds value n is = record {
  within = omega (arith, is);
  full = λ no_. absurd (no_ refl);
  small = omega arith;
  chain = λ m done. record { loose = []; is = subst (λ (v : List ℕ). IsPlanned kinds m 0 [] v) (sym (ap (λ (k : ℕ). drop k value) is ∙ drop-length value)) done };
}

dropped : (value : List ℕ) (a b : ℕ) → drop (a + b) value ≡ drop b (drop a value)
dropped value zero b = let e : 0 + b ≡ b = omega arith in ap (λ (n : ℕ). drop n value) e
dropped [] (suc a) zero = let e : suc a + 0 ≡ suc a = omega arith in ap (λ (n : ℕ). drop n []) e
dropped [] (suc a) (suc b) = let e : suc a + suc b ≡ suc (a + suc b) = omega arith in ap (λ (n : ℕ). drop n []) e
dropped (x ∷ value) (suc a) b = let e : suc a + b ≡ suc (a + b) = omega arith in ap (λ (n : ℕ). drop n (x ∷ value)) e ∙ dropped value a b

joined : (n : ℕ) (xs : List ℕ) → take n xs ++ drop n xs ≡ xs
joined zero xs = refl
joined (suc n) [] = refl
joined (suc n) (x ∷ xs) = ap (λ (l : List ℕ). x ∷ l) (joined n xs)

part_of : (value : List ℕ) (left count : ℕ) → count ≤ left → left ≤ length value → take count (drop (left - count) value) ++ drop left value ≡ drop (left - count) value
part_of value left count less within =
    let e : (left - count) + count ≡ left = omega (arith, less) in
    let two : drop left value ≡ drop count (drop (left - count) value) = ap (λ (n : ℕ). drop n value) (sym e) ∙ dropped value (left - count) count in
    ap (λ (l : List ℕ). take count (drop (left - count) value) ++ l) two ∙ joined count (drop (left - count) value)

pub part_count : (left : ℕ) → 1 ≤ left → (left - 1) % 4088 + 1 ≤ left
part_count left some = omega (arith, some)

pub twice : (left : ℕ) → 1 ≤ left → left - (left - ((left - 1) % 4088 + 1)) ≡ (left - 1) % 4088 + 1
twice left some = omega (arith, some)

pub part_kind : (left first : ℕ) (bytes : List ℕ) → 1 ≤ left → (first ≢ 0 → left % 4088 ≡ 0) → first < 2 ^ 32 → length bytes ≡ (left - 1) % 4088 + 1 → IsKind (Long first bytes)
part_kind left first bytes some full small count = (small, omega (arith, count), omega (arith, count), λ no_. let e = full no_ in omega (arith, count, e, some))

pub puts_more : (before old new : List Kind) (value bytes : List ℕ) (first next left count : ℕ) → PutsLong before old value first left → count ≡ (left - 1) % 4088 + 1 → 1 ≤ left → bytes ≡ take count (drop (left - count) value) → next < 2 ^ 32
    → ((m : Content) (v : List ℕ) → HasChain old m first v → HasChain new m next (bytes ++ v)) → PutsLong before new value next (left - count)
puts_more before old new value bytes first next left count is count_is some bytes_is small step = record {
  within = let e = is.within in omega (arith, e);
  full = λ no_. omega (arith, count_is, some);
  small = small;
  chain = λ m done. subst (HasChain new m next) (ap (λ (b : List ℕ). b ++ drop left value) bytes_is ∙ part_of value left count (let e = part_count left some in omega (arith, e, count_is)) is.within) (step m (drop left value) (is.chain m done));
}

pub puts_all : (before kinds : List Kind) (value : List ℕ) (first left : ℕ) (m : Content) → PutsLong before kinds value first left → left ≡ 0 → IsDone before m → HasChain kinds m first value
puts_all before kinds value first left m is none done = subst (λ (n : ℕ). HasChain kinds m first (drop n value)) none (is.chain m done)

-- ---- a chain is freed from its front

pub record HasRest (kinds : List Kind) (m : Content) (first left : ℕ) : Type 0 where
  pub rest : List ℕ
  pub chain : HasChain kinds m first rest
  pub count : length rest ≡ left

pub record FreesLong (before : List Kind) (begins count : ℕ) (kinds : List Kind) (first left : ℕ) : Type 0 where
  pub has : (m : Content) (value : List ℕ) → HasChain before m begins value → length value ≡ count → HasRest kinds m first left

pub frees_none : (kinds : List Kind) (first count : ℕ) → FreesLong kinds first count kinds first count
frees_none kinds first count = record { has = λ m value chain is. record { rest = value; chain = chain; count = is } }

pub frees_more : (before old new : List Kind) (begins count first next left used rest : ℕ) → FreesLong before begins count old first left → IsLongAt old first next used → new ≡ set old (first - 3) Free → rest ≡ left - used → FreesLong before begins count new next rest
frees_more before old new begins count first next left used rest is at put rest_is = record { has = λ m value chain long. of m (is.has m value chain long) }
  where
    of : (m : Content) → HasRest old m first left → HasRest new m next rest
    of m r =
        let e : 3 + (first - 3) ≡ first = let low = at.low in omega (arith, low) in
        let p : IsPlanned old m (3 + (first - 3)) r.chain.loose r.rest = subst (λ (n : ℕ). IsPlanned old m n r.chain.loose r.rest) (sym e) r.chain.is in
        let f = freed_at old (first - 3) m next r.chain.loose r.rest at.bytes p at.within at.kind in
        record {
          rest = f.rest;
          chain = record { loose = f.loose; is = subst (λ (l : List Kind). IsPlanned l m next f.loose f.rest) (sym put) f.is };
          count = let c = r.count in let u = at.used_is in let z = ap (λ (l : List ℕ). length l) f.parts in omega (arith, c, u, z, rest_is, length-append at.bytes f.rest);
        }

pub frees_all : (before kinds : List Kind) (begins count first left : ℕ) (m : Content) (value : List ℕ) → FreesLong before begins count kinds first left → left ≡ 0 → HasChain before m begins value → length value ≡ count → IsDone kinds m
frees_all before kinds begins count first left m value is none chain long = let r = is.has m value chain long in let c = r.count in ended kinds m first r.chain.loose r.rest r.chain.is (omega (arith, c, none))

-- where no long page stands, there is nothing left
pub frees_stuck : (before kinds : List Kind) (begins count first left : ℕ) (m : Content) (value : List ℕ) → FreesLong before begins count kinds first left → 1 ≤ left
    → ((next : ℕ) (bytes : List ℕ) → 3 ≤ first → 1 ≤ length bytes → kind_of_page kinds first ≡ Long next bytes → ⊥) → HasChain before m begins value → length value ≡ count → ⊥
frees_stuck before kinds begins count first left m value is some none chain long =
    let r = is.has m value chain long in
    let c = r.count in
    let b = begins_at kinds m first r.chain.loose r.rest r.chain.is (omega (arith, c, some)) in
    let k : IsKind (Long b.next b.bytes) = subst IsKind b.kind (kind_is kinds (first - 3) r.chain.is.are) in
    none b.next b.bytes b.low k.1 b.kind
