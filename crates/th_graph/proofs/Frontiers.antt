-- How the terms that were found, those among them that are new, and those that are next go together.
use Rattle.std.proofs.Common.{◌≡◌, ◌≤◌, ◌-◌, ℕ, suc, Bool, true, false, List, [], ◌∷◌, length, refl, sym, ap, ◌∙◌, arith, ◌⊎◌, inl, inr}
use Rattle.std.specs.Prelude.{◌&&◌, ◌||◌, not}
use Rattle.std.proofs.lemmas.Bool.{false≢true, or_cases, or_left, or_right}
use Rattle.ct_base.specs.laws.Bools.{same_tests}
use Rattle.q_tree.specs.declared.queries.Relation.{Relation}
use Rattle.th_graph.specs.declared.pairs.TermPair.{TermPair}
use Rattle.th_graph.specs.Rising.{is_among_terms, rise, with_ordered_terms}
use Rattle.th_graph.specs.laws.Rising.{among_with_terms, one_rising, with_terms_rise}
use Rattle.th_graph.specs.declared.faults.ExpandFault.{ExpandFault}
use Rattle.th_graph.specs.Answers.{AreWithinLimit, AreNew, IsTooMany}
use Rattle.th_graph.specs.Expansions.{expansion_limit, next_terms, or_itself, widened, terms_within}
use Rattle.th_graph.proofs.Gathering.{too_many_on}
use Rattle.th_graph.proofs.Walks.{closed_later, longer, next_from, next_to, widened_adds, within_next, nexts}

-- ---- the frontier

module _ (ps : List TermPair) (r : Relation) where
  -- The fresh terms are among those that were found; and what is next to one of these that isn't fresh was found.
  pub record IsFrontier (found fresh : List (List ℕ)) : Type 0 where
    pub among : (t : List ℕ) → is_among_terms t fresh ≡ true → is_among_terms t found ≡ true
    pub behind : (t q : List ℕ) → is_among_terms t found ≡ true → is_among_terms t fresh ≡ false → is_among_terms q (next_terms ps r t) ≡ true → is_among_terms q found ≡ true

  pub frontier_begins : (a : List ℕ) (found fresh : List (List ℕ)) → found ≡ a ∷ [] → fresh ≡ a ∷ [] → IsFrontier found fresh
  frontier_begins a found fresh f g = record {
    among = λ t h. ap (is_among_terms t) (f ∙ sym g) ∙ h;
    behind = λ t q h none next. absurd (false≢true (sym none ∙ ap (is_among_terms t) (g ∙ sym f) ∙ h));
  }

  -- what the fresh ones lead to is all that is new
  by_fresh : (found fresh : List (List ℕ)) → rise found ≡ true → IsFrontier found fresh → with_ordered_terms found (nexts ps r fresh) ≡ widened ps r found
  by_fresh found fresh rises frontier = one_rising _ _ (with_terms_rise found (nexts ps r fresh) rises) (with_terms_rise found (nexts ps r found) rises)
      (λ q. among_with_terms q found (nexts ps r fresh) ∙ same_tests _ _ (there q) (back q) ∙ sym (among_with_terms q found (nexts ps r found)))
    where
      there : (q : List ℕ) → (is_among_terms q (nexts ps r fresh) || is_among_terms q found) ≡ true → (is_among_terms q (nexts ps r found) || is_among_terms q found) ≡ true
      there q h = go (or_cases (is_among_terms q (nexts ps r fresh)) (is_among_terms q found) h)
        where
          go : ((is_among_terms q (nexts ps r fresh) ≡ true) ⊎ (is_among_terms q found ≡ true)) → (is_among_terms q (nexts ps r found) || is_among_terms q found) ≡ true
          go (inl n) = let c = next_from ps r fresh q n in or_left (is_among_terms q (nexts ps r found)) (is_among_terms q found) (next_to ps r found c.0 q (frontier.among c.0 c.1) c.2)
          go (inr f) = or_right (is_among_terms q (nexts ps r found)) (is_among_terms q found) f

      back : (q : List ℕ) → (is_among_terms q (nexts ps r found) || is_among_terms q found) ≡ true → (is_among_terms q (nexts ps r fresh) || is_among_terms q found) ≡ true
      back q h = go (or_cases (is_among_terms q (nexts ps r found)) (is_among_terms q found) h)
        where
          of_one : (c : List ℕ) (b : Bool) → is_among_terms c fresh ≡ b → is_among_terms c found ≡ true → is_among_terms q (next_terms ps r c) ≡ true → (is_among_terms q (nexts ps r fresh) || is_among_terms q found) ≡ true
          of_one c true fresh_is there next = or_left (is_among_terms q (nexts ps r fresh)) (is_among_terms q found) (next_to ps r fresh c q fresh_is next)
          of_one c false none there next = or_right (is_among_terms q (nexts ps r fresh)) (is_among_terms q found) (frontier.behind c q there none next)

          go : ((is_among_terms q (nexts ps r found) ≡ true) ⊎ (is_among_terms q found ≡ true)) → (is_among_terms q (nexts ps r fresh) || is_among_terms q found) ≡ true
          go (inl n) = let c = next_from ps r found q n in of_one c.0 (is_among_terms c.0 fresh) refl c.1 c.2
          go (inr f) = or_right (is_among_terms q (nexts ps r fresh)) (is_among_terms q found) f

  -- one round more
  pub frontier_on : (found found' fresh newer : List (List ℕ)) → rise found ≡ true → IsFrontier found fresh → found' ≡ with_ordered_terms found (nexts ps r fresh) → AreNew [] newer found (nexts ps r fresh) → IsFrontier found' newer
  frontier_on found found' fresh newer rises frontier is new = record {
    among = λ t h. ap (is_among_terms t) is ∙ among_with_terms t found (nexts ps r fresh) ∙ or_left (is_among_terms t (nexts ps r fresh)) (is_among_terms t found) (was_next t h);
    behind = λ t q there none next. ap (is_among_terms q) (is ∙ by_fresh found fresh rises frontier) ∙ widened_adds ps r found t q (was_found t none there) next;
  }
    where
      first_of : (a b : Bool) → (a && b) ≡ true → a ≡ true
      first_of true b h = refl
      first_of false b h = h

      was_next : (t : List ℕ) → is_among_terms t newer ≡ true → is_among_terms t (nexts ps r fresh) ≡ true
      was_next t h = first_of (is_among_terms t (nexts ps r fresh)) (not (is_among_terms t found)) (sym (new t) ∙ h)

      either : (n f : Bool) → (n && not f) ≡ false → (n || f) ≡ true → f ≡ true
      either true true a b = refl
      either true false a b = absurd (false≢true (sym a))
      either false f a b = b

      was_found : (t : List ℕ) → is_among_terms t newer ≡ false → is_among_terms t found' ≡ true → is_among_terms t found ≡ true
      was_found t none there = either (is_among_terms t (nexts ps r fresh)) (is_among_terms t found) (sym (new t) ∙ none) (sym (among_with_terms t found (nexts ps r fresh)) ∙ sym (ap (is_among_terms t) is) ∙ there)

  module _ (a : List ℕ) where
    pub round_is : (found fresh : List (List ℕ)) (k : ℕ) → rise found ≡ true → IsFrontier found fresh → found ≡ terms_within ps r k a → with_ordered_terms found (nexts ps r fresh) ≡ terms_within ps r (suc k) a
    round_is found fresh k rises frontier is = by_fresh found fresh rises frontier ∙ ap (widened ps r) is ∙ sym (within_next ps r a k)

    -- without fresh ones no step leads further
    pub none_fresh : (found : List (List ℕ)) (k rounds : ℕ) → k ≤ rounds → rise found ≡ true → IsFrontier found [] → found ≡ terms_within ps r k a → found ≡ terms_within ps r rounds a
    none_fresh found k rounds le rises frontier is =
        let closed : widened ps r (terms_within ps r k a) ≡ terms_within ps r k a = ap (widened ps r) (sym is) ∙ sym (by_fresh found [] rises frontier) ∙ is in
        is ∙ sym (closed_later ps r a k rounds closed le)

-- ---- what is answered

module _ (ps : List TermPair) (r : Relation) where
  pub expands_err : (e : ExpandFault) (a : List ℕ) (found fresh : List (List ℕ)) (left rounds : ℕ) → 1 ≤ left → left ≤ rounds → rise found ≡ true → IsFrontier ps r found fresh → found ≡ terms_within ps r (rounds - left) a
      → IsTooMany e (with_ordered_terms found (nexts ps r fresh)) → IsTooMany e (terms_within ps r rounds a)
  expands_err e a found fresh left rounds some le rises frontier is many =
      let l = ap length (round_is ps r a found fresh (rounds - left) rises frontier is) in
      let m = longer ps r a (suc (rounds - left)) rounds (omega (arith, some, le)) in
      too_many_on e (with_ordered_terms found (nexts ps r fresh)) (terms_within ps r rounds a) (omega (arith, l, m)) many

pub itself_err : (e : ExpandFault) (a : List ℕ) (found all : List (List ℕ)) → found ≡ [] → IsTooMany e (with_ordered_terms found all) → IsTooMany e (or_itself a (with_ordered_terms [] all))
itself_err e a found all none many =
    let l = ap (λ (x : List (List ℕ)). length (with_ordered_terms x all)) none in
    let m = more (with_ordered_terms [] all) in
    too_many_on e (with_ordered_terms found all) (or_itself a (with_ordered_terms [] all)) (omega (arith, l, m)) many
  where
    more : (ts : List (List ℕ)) → length ts ≤ length (or_itself a ts)
    more [] = omega arith
    more (t ∷ ts) = omega arith

pub itself_ok : (a : List ℕ) (found last all : List (List ℕ)) → found ≡ with_ordered_terms [] all → AreWithinLimit found → ((found ≡ [] → last ≡ a ∷ []) × ((found ≡ [] → ⊥) → last ≡ found))
    → (last ≡ or_itself a (with_ordered_terms [] all)) × (length (or_itself a (with_ordered_terms [] all)) ≤ expansion_limit)
itself_ok a found last all is limit ends = go found is limit.limited ends
  where
    go : (found : List (List ℕ)) → found ≡ with_ordered_terms [] all → length found ≤ expansion_limit → ((found ≡ [] → last ≡ a ∷ []) × ((found ≡ [] → ⊥) → last ≡ found)) → (last ≡ or_itself a (with_ordered_terms [] all)) × (length (or_itself a (with_ordered_terms [] all)) ≤ expansion_limit)
    go [] is few ends = (ends.0 refl ∙ ap (or_itself a) is, (let l = ap (λ (x : List (List ℕ)). length (or_itself a x)) is in omega (arith, l)))
    go (t ∷ ts) is few ends = (ends.1 (λ e. cc) ∙ ap (or_itself a) is, (let l = ap (λ (x : List (List ℕ)). length (or_itself a x)) is in omega (arith, l, few)))
