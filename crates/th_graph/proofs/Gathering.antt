-- Terms that are put among those that were found, some after the others.
use Rattle.std.proofs.Common.{◌≡◌, ◌+◌, ◌<◌, ◌≤◌, ℕ, Bool, true, false, cond, List, [], ◌∷◌, ◌++◌, length, Result, Ok, Err, refl, sym, ap, subst, ◌∙◌, arith, append-nil, ◌⊎◌, inl, inr}
use Rattle.std.specs.Prelude.{◌&&◌, ◌||◌, not}
use Rattle.std.specs.List.{insert}
use Rattle.std.specs.Str.{bytes_eq}
use Rattle.std.proofs.lemmas.List.Folds.{list_any-append}
use Rattle.std.proofs.lemmas.Slice.Eq.{bytes_eq-Decides}
use Rattle.ct_base.specs.laws.Bools.{or_false}
use Rattle.th_graph.specs.Rising.{is_among_terms, rise, term_place, with_ordered_term, with_ordered_terms}
use Rattle.th_graph.specs.laws.Rising.{among_with_terms, one_rising, with_grows, with_rises, with_terms-append, with_terms_length, with_terms_rise}
use Rattle.th_graph.specs.declared.faults.ExpandFault.{ExpandFault}
use Rattle.th_graph.specs.declared.faults.ExpandFault.TheVariants.{TooMany, Memory}
use Rattle.th_graph.specs.Answers.{AreWithinLimit, Gathered, Gathers, IsTooMany}
use Rattle.th_graph.specs.Expansions.{expansion_limit}

-- ---- one

limit_keeps : (t : List ℕ) (us : List (List ℕ)) → AreWithinLimit us → length us < expansion_limit → AreWithinLimit (with_ordered_term t us)
limit_keeps t us limit room = record { rises = with_rises t us limit.rises; limited = go (with_grows t us) }
  where
    go : ((with_ordered_term t us ≡ us) ⊎ (length (with_ordered_term t us) ≡ length us + 1)) → length (with_ordered_term t us) ≤ expansion_limit
    go (inl same) = let l = ap length same in omega (arith, l, room)
    go (inr one) = omega (arith, one, room)

-- a term that wasn't found, put at its place
pub new_gathered : (found newer found' newer' : List (List ℕ)) (t : List ℕ) (i : ℕ) → is_among_terms t found ≡ false → i ≡ term_place t found → found' ≡ insert found i t → newer' ≡ newer ++ t ∷ []
    → AreWithinLimit found → length found < expansion_limit → Gathered found newer found' newer' (t ∷ [])
new_gathered found newer found' newer' t i none at put pushed limit room =
    let is : found' ≡ with_ordered_term t found = put ∙ ap (λ k. insert found k t) at ∙ sym (ap (λ (b : Bool). cond b found (insert found (term_place t found) t)) none) in
    record {
      among = is;
      limit = subst AreWithinLimit (sym is) (limit_keeps t found limit room);
      new = λ q. ap (is_among_terms q) pushed ∙ list_any-append (bytes_eq q) newer (t ∷ []) ∙ ap (λ (b : Bool). is_among_terms q newer || b) (go q (bytes_eq q t) refl);
    }
  where
    go : (q : List ℕ) (b : Bool) → bytes_eq q t ≡ b → (b || false) ≡ ((b || false) && not (is_among_terms q found))
    go q true same = sym (ap not (ap (λ (x : List ℕ). is_among_terms x found) ((bytes_eq-Decides q t).0 same) ∙ none))
    go q false other = refl

-- ---- some after the others

-- What was found and is new, and what the rest makes of it, is what all make of what was found and new at first.
pub record AreGathering (found newer rest found0 newer0 all : List (List ℕ)) : Type 0 where
  pub among : with_ordered_terms found rest ≡ with_ordered_terms found0 all
  pub limit : AreWithinLimit found
  pub new : (q : List ℕ) → (is_among_terms q newer || (is_among_terms q rest && not (is_among_terms q found))) ≡ (is_among_terms q newer0 || (is_among_terms q all && not (is_among_terms q found0)))

news_step : (n m r f : Bool) → ((n || (m && not f)) || (r && not (m || f))) ≡ (n || ((m || r) && not f))
news_step true m r f = refl
news_step false true true true = refl
news_step false true true false = refl
news_step false true false true = refl
news_step false true false false = refl
news_step false false true f = refl
news_step false false false f = refl

-- a fault of some of the terms is one of all
pub too_many_on : (e : ExpandFault) (ts us : List (List ℕ)) → length ts ≤ length us → IsTooMany e ts → IsTooMany e us
too_many_on TooMany ts us more many = omega (arith, more, many)
too_many_on Memory ts us more many = tt

pub gathering_begins : (found newer all : List (List ℕ)) → AreWithinLimit found → AreGathering found newer all found newer all
gathering_begins found newer all limit = record { among = refl; limit = limit; new = λ q. refl }

module _ (found newer found0 newer0 all : List (List ℕ)) where
  pub gathering_on : (found' newer' more rest : List (List ℕ)) → Gathered found newer found' newer' more → AreGathering found newer (more ++ rest) found0 newer0 all → AreGathering found' newer' rest found0 newer0 all
  gathering_on found' newer' more rest now old = record {
    among = ap (λ (l : List (List ℕ)). with_ordered_terms l rest) now.among ∙ sym (with_terms-append found more rest) ∙ old.among;
    limit = now.limit;
    new = λ q.
        ap (λ (b : Bool). b || (is_among_terms q rest && not (is_among_terms q found'))) (now.new q)
        ∙ ap (λ (b : Bool). (is_among_terms q newer || (is_among_terms q more && not (is_among_terms q found))) || (is_among_terms q rest && not b)) (ap (is_among_terms q) now.among ∙ among_with_terms q found more)
        ∙ news_step (is_among_terms q newer) (is_among_terms q more) (is_among_terms q rest) (is_among_terms q found)
        ∙ ap (λ (b : Bool). is_among_terms q newer || (b && not (is_among_terms q found))) (sym (list_any-append (bytes_eq q) more rest))
        ∙ old.new q;
  }

  pub gathering_ends : AreGathering found newer [] found0 newer0 all → Gathered found0 newer0 found newer all
  gathering_ends last = record { among = last.among; limit = last.limit; new = λ q. sym (or_false (is_among_terms q newer)) ∙ last.new q }

  pub gathering_fails : (e : ExpandFault) (more rest : List (List ℕ)) → IsTooMany e (with_ordered_terms found more) → AreGathering found newer (more ++ rest) found0 newer0 all → IsTooMany e (with_ordered_terms found0 all)
  gathering_fails e more rest many old =
      let l = with_terms_length (with_ordered_terms found more) rest in
      let m = ap length (sym (with_terms-append found more rest) ∙ old.among) in
      too_many_on e (with_ordered_terms found more) (with_ordered_terms found0 all) (omega (arith, l, m)) many

-- first these, then those
pub gathers_both : {T : Type 0} (r : Result T ExpandFault) (found newer found1 newer1 found2 newer2 a b all : List (List ℕ)) → all ≡ a ++ b → AreWithinLimit found → Gathered found newer found1 newer1 a → Gathers r found1 newer1 found2 newer2 b → Gathers r found newer found2 newer2 all
gathers_both {T} r found newer found1 newer1 found2 newer2 a b all is limit one two = subst (Gathers r found newer found2 newer2) (sym is) (go r two)
  where
    last : AreGathering found1 newer1 (b ++ []) found newer (a ++ b)
    last = subst (λ (l : List (List ℕ)). AreGathering found1 newer1 l found newer (a ++ b)) (sym (append-nil b)) (gathering_on found newer found newer (a ++ b) found1 newer1 a b one (gathering_begins found newer (a ++ b) limit))

    go : (r : Result T ExpandFault) → Gathers r found1 newer1 found2 newer2 b → Gathers r found newer found2 newer2 (a ++ b)
    go (Ok done) two = gathering_ends found2 newer2 found newer (a ++ b) (gathering_on found1 newer1 found newer (a ++ b) found2 newer2 b [] two last)
    go (Err fault) many = gathering_fails found1 newer1 found newer (a ++ b) fault b [] many last

-- ---- lists of the same terms

put_alike : (found ts us : List (List ℕ)) → rise found ≡ true → ((q : List ℕ) → is_among_terms q ts ≡ is_among_terms q us) → with_ordered_terms found ts ≡ with_ordered_terms found us
put_alike found ts us rises same = one_rising (with_ordered_terms found ts) (with_ordered_terms found us) (with_terms_rise found ts rises) (with_terms_rise found us rises)
    (λ q. among_with_terms q found ts ∙ ap (λ (b : Bool). b || is_among_terms q found) (same q) ∙ sym (among_with_terms q found us))

module _ (found ts us : List (List ℕ)) (limit : AreWithinLimit found) (same : (q : List ℕ) → is_among_terms q ts ≡ is_among_terms q us) where
  pub gathered_alike : (newer found' newer' : List (List ℕ)) → Gathered found newer found' newer' ts → Gathered found newer found' newer' us
  gathered_alike newer found' newer' all = record {
    among = all.among ∙ put_alike found ts us limit.rises same;
    limit = all.limit;
    new = λ q. all.new q ∙ ap (λ (b : Bool). is_among_terms q newer || (b && not (is_among_terms q found))) (same q);
  }

  pub too_many_alike : (e : ExpandFault) → IsTooMany e (with_ordered_terms found ts) → IsTooMany e (with_ordered_terms found us)
  too_many_alike e many = subst (IsTooMany e) (put_alike found ts us limit.rises same) many
