-- Items that stand one after another: how a loop that reads them comes to all of them.
use Rattle.std.proofs.Common.{◌≡◌, ℕ, zero, suc, ◌+◌, List, [], ◌∷◌, ◌++◌, length, refl, sym, ap, ◌∙◌, subst, append_assoc, arith}
use Rattle.std.proofs.lemmas.List.{append-nil}
use Rattle.ix_posting.specs.Places.{StandsAt, AreItemsAt}
use Rattle.ix_posting.specs.laws.Standing.{nothing_stands, nothing_left, joined, first_part, second_part}

-- Of so many items the first, and the others.
pub record ItemAndRest {X S : Type 0} (One : S → ℕ → X → ℕ → Type 0) (Many : S → ℕ → ℕ → List X → ℕ → Type 0) (after : X → S) (s : S) (at k : ℕ) (xs : List X) (next : ℕ) : Type 0 where
  pub first : X
  pub rest : List X
  pub mid : ℕ
  pub whole : xs ≡ first ∷ rest
  pub one : One s at first mid
  pub others : Many (after first) mid k rest next

-- One item after what was read before it, and so many items. `after` is what an item leaves for the next one.
pub record AreItems {X S : Type 0} (One : S → ℕ → X → ℕ → Type 0) (Many : S → ℕ → ℕ → List X → ℕ → Type 0) (after : X → S) : Type 0 where
  pub none : (s : S) (at : ℕ) → Many s at 0 [] at
  pub ended : (s : S) (at : ℕ) (xs : List X) (next : ℕ) → Many s at 0 xs next → (xs ≡ []) × (next ≡ at)
  pub joined : (s : S) (at : ℕ) (x : X) (mid k : ℕ) (xs : List X) (next : ℕ) → One s at x mid → Many (after x) mid k xs next → Many s at (suc k) (x ∷ xs) next
  pub parts : (s : S) (at k : ℕ) (xs : List X) (next : ℕ) → Many s at (suc k) xs next → ItemAndRest One Many after s at k xs next
  pub alone : (s : S) (at : ℕ) (x : X) (i : ℕ) (y : X) (j : ℕ) → One s at x i → One s at y j → (x ≡ y) × (i ≡ j)

-- ---- items by their bytes

-- What one item is, by the rules and the bytes of many: `piece` is its bytes after what stands before it.
pub record IsOneOf {X S : Type 0} (One : S → ℕ → X → ℕ → Type 0) (Rises : S → List X → Type 0) (spelling : S → List X → List ℕ) (piece : S → X → List ℕ) (after : X → S) (bytes : List ℕ) : Type 0 where
  pub none : (s : S) → Rises s []
  pub no_bytes : (s : S) → spelling s [] ≡ []
  pub more_bytes : (s : S) (x : X) (xs : List X) → spelling s (x ∷ xs) ≡ piece s x ++ spelling (after x) xs
  pub stands : (s : S) (at : ℕ) (x : X) (next : ℕ) → One s at x next → StandsAt bytes at (piece s x) next
  pub rises : (s : S) (at : ℕ) (x : X) (next : ℕ) (xs : List X) → One s at x next → Rises (after x) xs → Rises s (x ∷ xs)
  pub one : (s : S) (at : ℕ) (x : X) (next : ℕ) (xs : List X) → Rises s (x ∷ xs) → StandsAt bytes at (piece s x) next → One s at x next
  pub others : (s : S) (x : X) (xs : List X) → Rises s (x ∷ xs) → Rises (after x) xs
  pub alone : (s : S) (at : ℕ) (x : X) (i : ℕ) (y : X) (j : ℕ) → One s at x i → One s at y j → (x ≡ y) × (i ≡ j)

module _ {X S : Type 0} (One : S → ℕ → X → ℕ → Type 0) (Rises : S → List X → Type 0) (spelling : S → List X → List ℕ) (piece : S → X → List ℕ) (after : X → S) (bytes : List ℕ) (is : IsOneOf One Rises spelling piece after bytes) where
  none_at : (s : S) (at : ℕ) → AreItemsAt Rises spelling bytes s at 0 [] at
  none_at s at = record { many = refl; rise = is.none s; stand = subst (λ (b : List ℕ). StandsAt bytes at b at) (sym (is.no_bytes s)) (nothing_stands bytes at) }

  ended_at : (s : S) (at : ℕ) (xs : List X) (next : ℕ) → AreItemsAt Rises spelling bytes s at 0 xs next → (xs ≡ []) × (next ≡ at)
  ended_at s at [] next are = (refl, nothing_left bytes at next (subst (λ (b : List ℕ). StandsAt bytes at b next) (is.no_bytes s) are.stand))
  ended_at s at (x ∷ xs) next are = absurd (omega (arith, are.many))

  joined_at : (s : S) (at : ℕ) (x : X) (mid k : ℕ) (xs : List X) (next : ℕ) → One s at x mid → AreItemsAt Rises spelling bytes (after x) mid k xs next → AreItemsAt Rises spelling bytes s at (suc k) (x ∷ xs) next
  joined_at s at x mid k xs next one others = record {
    many = omega (arith, others.many);
    rise = is.rises s at x mid xs one others.rise;
    stand = subst (λ (b : List ℕ). StandsAt bytes at b next) (sym (is.more_bytes s x xs)) (joined bytes at (piece s x) mid (spelling (after x) xs) next (is.stands s at x mid one) others.stand);
  }

  parts_at : (s : S) (at k : ℕ) (xs : List X) (next : ℕ) → AreItemsAt Rises spelling bytes s at (suc k) xs next → ItemAndRest One (AreItemsAt Rises spelling bytes) after s at k xs next
  parts_at s at k [] next are = absurd (omega (arith, are.many))
  parts_at s at k (x ∷ xs) next are =
      let all = subst (λ (b : List ℕ). StandsAt bytes at b next) (is.more_bytes s x xs) are.stand in
      record {
        first = x;
        rest = xs;
        mid = at + length (piece s x);
        whole = refl;
        one = is.one s at x (at + length (piece s x)) xs are.rise (first_part bytes at (piece s x) (spelling (after x) xs) next all);
        others = record {
          many = omega (arith, are.many);
          rise = is.others s x xs are.rise;
          stand = second_part bytes at (piece s x) (spelling (after x) xs) next all;
        };
      }

  pub items_of : AreItems One (AreItemsAt Rises spelling bytes) after
  items_of = record { none = none_at; ended = ended_at; joined = joined_at; parts = parts_at; alone = is.alone }

-- ---- reading one after another

-- What is left of all items after those that have been read.
pub record Rest {X S : Type 0} (Many : S → ℕ → ℕ → List X → ℕ → Type 0) (read : List X) (s : S) (at k : ℕ) (xs : List X) (next : ℕ) : Type 0 where
  pub rest : List X
  pub whole : xs ≡ read ++ rest
  pub others : Many s at k rest next

-- Some of `count` items have been read from `at` on, up to `place`, and `left` more stand there.
pub record HasRead {X S : Type 0} (Many : S → ℕ → ℕ → List X → ℕ → Type 0) (s : S) (at count : ℕ) (read : List X) (last : S) (place left : ℕ) : Type 0 where
  pub onward : (rest : List X) (next : ℕ) → Many last place left rest next → Many s at count (read ++ rest) next
  pub back : (xs : List X) (next : ℕ) → Many s at count xs next → Rest Many read last place left xs next

pub read_none : {X S : Type 0} (Many : S → ℕ → ℕ → List X → ℕ → Type 0) (s : S) (at count : ℕ) → HasRead Many s at count [] s at count
read_none Many s at count = record {
  onward = λ rest next many. many;
  back = λ xs next many. record { rest = xs; whole = refl; others = many };
}

module _ {X S : Type 0} (One : S → ℕ → X → ℕ → Type 0) (Many : S → ℕ → ℕ → List X → ℕ → Type 0) (after : X → S) (items : AreItems One Many after) where
  pub read_more : (s : S) (at count : ℕ) (read : List X) (last : S) (place left k : ℕ) (x : X) (mid : ℕ) → HasRead Many s at count read last place left → left ≡ suc k → One last place x mid → HasRead Many s at count (read ++ x ∷ []) (after x) mid k
  read_more s at count read last place left k x mid so_far more one = record {
    onward = λ rest next others.
        let all : Many last place left (x ∷ rest) next = rw more (items.joined last place x mid k rest next one others) in
        rw append_assoc (so_far.onward (x ∷ rest) next all);
    back = λ xs next many.
        let r = so_far.back xs next many in
        let p = items.parts last place k r.rest next (rw more at r.others) in
        let same = items.alone last place p.first p.mid x mid p.one one in
        record {
          rest = p.rest;
          whole = r.whole ∙ ap (λ l. read ++ l) (p.whole ∙ ap (λ y. y ∷ p.rest) same.0) ∙ sym (append_assoc read (x ∷ []) p.rest);
          others = rw (← same.0, ← same.1) p.others;
        };
  }

  pub read_all : (s : S) (at count : ℕ) (read : List X) (last : S) (place left : ℕ) → HasRead Many s at count read last place left → left ≡ 0 → Many s at count read place
  read_all s at count read last place left so_far none =
      let last_none : Many last place left [] place = rw none (items.none last place) in
      let all = so_far.onward [] place last_none in
      rw (append-nil read) at all

  -- where no item stands there are not so many of them
  pub none_more : (s : S) (at count : ℕ) (read : List X) (last : S) (place left k : ℕ) → HasRead Many s at count read last place left → left ≡ suc k → ((x : X) (mid : ℕ) → One last place x mid → ⊥) → (xs : List X) (next : ℕ) → Many s at count xs next → ⊥
  none_more s at count read last place left k so_far more none xs next many =
      let r = so_far.back xs next many in
      let p = items.parts last place k r.rest next (rw more at r.others) in
      none p.first p.mid p.one

  -- a place has one list of so many items
  pub many_alone : (k : ℕ) (s : S) (at : ℕ) (xs : List X) (i : ℕ) (ys : List X) (j : ℕ) → Many s at k xs i → Many s at k ys j → (xs ≡ ys) × (i ≡ j)
  many_alone zero s at xs i ys j first second =
      let x = items.ended s at xs i first in
      let y = items.ended s at ys j second in
      (x.0 ∙ sym y.0, x.1 ∙ sym y.1)
  many_alone (suc k) s at xs i ys j first second =
      let p = items.parts s at k xs i first in
      let q = items.parts s at k ys j second in
      let same = items.alone s at p.first p.mid q.first q.mid p.one q.one in
      let others : Many (after q.first) q.mid k p.rest i = rw (← same.0, ← same.1) p.others in
      let rest = many_alone k (after q.first) q.mid p.rest i q.rest j others q.others in
      (p.whole ∙ ap (λ x. x ∷ p.rest) same.0 ∙ ap (λ l. q.first ∷ l) rest.0 ∙ sym q.whole, rest.1)
