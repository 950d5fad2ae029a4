-- What is computed is the expansion, and there is one at most.
use Rattle.std.proofs.Common.{◌≡◌, ◌+◌, ◌<◌, ◌≤◌, ℕ, true, false, List, [], ◌∷◌, length, refl, sym, subst, ◌∙◌, arith, ◌⊎◌, inl, inr}
use Rattle.std.specs.Str.{bytes_eq}
use Rattle.std.proofs.lemmas.Bool.{cases_lt, false≢true, or_left}
use Rattle.std.proofs.lemmas.Slice.Eq.{bytes_eq-Decides}
use Rattle.ct_base.specs.laws.Bools.{same_tests, or_false}
use Rattle.q_tree.specs.declared.queries.Relation.TheVariants.{Syn, Broader, Narrower, Preferred}
use Rattle.th_graph.specs.declared.pairs.TermPair.{TermPair}
use Rattle.th_graph.specs.Rising.{is_among_terms, rise, with_ordered_terms}
use Rattle.th_graph.specs.laws.Rising.{among_with_terms, first_among, one_rising, with_terms_rise}
use Rattle.th_graph.specs.Expansions.{step_limit, expansion, expansion_limit, is_step_of, IsReached, IsWalk, next_terms, or_itself, widened, terms_within}
use Rattle.th_graph.specs.Promises.{ExpansionsAreReached, OneExpansion}
use Rattle.th_graph.proofs.Walks.{closed_later, limit_closed, found_walk, grows, longer, next_is_step, walk_found, within_rises}

module _ (ps : List TermPair) (a : List ℕ) where
  -- ---- synonyms: no walk has to be longer

  synonym_found : (m : ℕ) (b : List ℕ) → IsWalk ps Syn m a b → is_among_terms b (terms_within ps Syn (step_limit ps) a) ≡ true
  synonym_found m b walk = go (cases_lt (step_limit ps) m)
    where
      go : ((step_limit ps < m) ⊎ (m ≤ step_limit ps)) → is_among_terms b (terms_within ps Syn (step_limit ps) a) ≡ true
      go (inr few) = walk_found ps Syn a m (step_limit ps) b few walk
      go (inl many) = subst (λ (l : List (List ℕ)). is_among_terms b l ≡ true) (closed_later ps Syn a (step_limit ps) m (limit_closed ps Syn a) (omega (arith, many))) (walk_found ps Syn a m m b (omega arith) walk)

  -- within as many steps as an expansion may have terms there are all synonyms, or too many terms
  pub all_synonyms : length (terms_within ps Syn expansion_limit a) ≤ expansion_limit → terms_within ps Syn expansion_limit a ≡ terms_within ps Syn (step_limit ps) a
  all_synonyms few = go (grows ps Syn a expansion_limit) (cases_lt (step_limit ps) expansion_limit)
    where
      go : ((widened ps Syn (terms_within ps Syn expansion_limit a) ≡ terms_within ps Syn expansion_limit a) ⊎ (expansion_limit + 1 ≤ length (terms_within ps Syn expansion_limit a))) → ((step_limit ps < expansion_limit) ⊎ (expansion_limit ≤ step_limit ps)) → terms_within ps Syn expansion_limit a ≡ terms_within ps Syn (step_limit ps) a
      go (inl closed) (inr le) = sym (closed_later ps Syn a expansion_limit (step_limit ps) closed le)
      go (inl closed) (inl lt) = closed_later ps Syn a (step_limit ps) expansion_limit (limit_closed ps Syn a) (omega (arith, lt))
      go (inr long) le = absurd (omega (arith, few, long))

  pub many_synonyms : expansion_limit < length (terms_within ps Syn expansion_limit a) → expansion_limit < length (terms_within ps Syn (step_limit ps) a)
  many_synonyms many = go (cases_lt (step_limit ps) expansion_limit)
    where
      go : ((step_limit ps < expansion_limit) ⊎ (expansion_limit ≤ step_limit ps)) → expansion_limit < length (terms_within ps Syn (step_limit ps) a)
      go (inr le) = let l = longer ps Syn a expansion_limit (step_limit ps) le in omega (arith, l, many)
      go (inl lt) = subst (λ (l : List (List ℕ)). expansion_limit < length l) (closed_later ps Syn a (step_limit ps) expansion_limit (limit_closed ps Syn a) (omega (arith, lt))) many

  -- ---- preferred terms

  abbrev next : List (List ℕ)
  next = next_terms ps Preferred a

  preferred_rises : (ts : List (List ℕ)) → rise ts ≡ true → rise (or_itself a ts) ≡ true
  preferred_rises [] h = refl
  preferred_rises (t ∷ ts) h = h

  preferred_reached : (ts : List (List ℕ)) → ((q : List ℕ) → is_among_terms q ts ≡ is_step_of ps Preferred a q) → (b : List ℕ)
      → (is_among_terms b (or_itself a ts) ≡ true → IsReached ps Preferred 1 a b) × (IsReached ps Preferred 1 a b → is_among_terms b (or_itself a ts) ≡ true)
  preferred_reached [] same b = (λ h. inr ((bytes_eq-Decides b a).0 (sym (or_false (bytes_eq b a)) ∙ h), λ c. sym (same c)), back)
    where
      back : IsReached ps Preferred 1 a b → is_among_terms b (a ∷ []) ≡ true
      back (inl step) = absurd (false≢true (same b ∙ step))
      back (inr itself) = or_left (bytes_eq b a) false ((bytes_eq-Decides b a).1 itself.0)
  preferred_reached (t ∷ ts) same b = (λ h. inl (sym (same b) ∙ h), back)
    where
      back : IsReached ps Preferred 1 a b → is_among_terms b (t ∷ ts) ≡ true
      back (inl step) = same b ∙ step
      back (inr itself) = absurd (false≢true (sym (itself.1 t) ∙ sym (same t) ∙ first_among t ts))

pub expansions_reached : ExpansionsAreReached
unfolding expansion
expansions_reached ps Syn level a = record {
  rises = within_rises ps Syn a (step_limit ps);
  reached = λ b. ((λ h. let w = found_walk ps Syn a (step_limit ps) b h in (w.0, w.2)), (λ w. synonym_found ps a w.0 b w.1));
}
expansions_reached ps Broader level a = record {
  rises = within_rises ps Broader a level;
  reached = λ b. ((λ h. found_walk ps Broader a level b h), (λ w. walk_found ps Broader a w.0 level b w.1 w.2));
}
expansions_reached ps Narrower level a = record {
  rises = within_rises ps Narrower a level;
  reached = λ b. ((λ h. found_walk ps Narrower a level b h), (λ w. walk_found ps Narrower a w.0 level b w.1 w.2));
}
expansions_reached ps Preferred level a = record {
  rises = preferred_rises ps a (with_ordered_terms [] (next_terms ps Preferred a)) (with_terms_rise [] (next_terms ps Preferred a) refl);
  reached = λ b. preferred_reached ps a (with_ordered_terms [] (next_terms ps Preferred a)) (λ q. among_with_terms q [] (next_terms ps Preferred a) ∙ or_false (is_among_terms q (next_terms ps Preferred a)) ∙ next_is_step ps Preferred a q) b;
}

pub one_expansion : OneExpansion
one_expansion ps r level a ts us first second = one_rising ts us first.rises second.rises (λ q. same_tests (is_among_terms q ts) (is_among_terms q us)
    (λ h. (second.reached q).1 ((first.reached q).0 h)) (λ h. (first.reached q).1 ((second.reached q).0 h)))
