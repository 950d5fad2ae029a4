-- The verdict that is computed is the one that the grammar gives, and it gives no other.
use Rattle.std.proofs.Common.{◌≡◌, ℕ, ◌+◌, ◌<◌, ◌≤◌, zero, suc, Bool, true, false, IfSome, List, [], ◌∷◌, ◌++◌, length, take, refl, sym, ap, subst, ◌∙◌, append_assoc, append-nil, length-append, arith, inl, inr, Option, Some, None}
use Rattle.std.specs.Prelude.{is_some}
use Rattle.std.proofs.lemmas.Bool.{cases_lt}
use Rattle.q_lex.specs.Lexing.{byte_count}
use Rattle.st_parse.specs.declared.lexemes.Lexeme.{Lexeme}
use Rattle.st_parse.specs.declared.lexemes.Lexeme.TheVariants.{Number}
use Rattle.st_parse.specs.declared.statements.Whole.{Whole}
use Rattle.st_parse.specs.declared.statements.Whole.TheVariants.{Fits, Beyond}
use Rattle.st_parse.specs.Numbers.{number, negated}
use Rattle.cat_where.specs.declared.lexing.Placed.{Placed}
use Rattle.cat_where.specs.declared.stages.Where.{Where}
use Rattle.cat_where.specs.declared.stages.Role.{Role}
use Rattle.cat_where.specs.declared.stages.Stage.{Stage}
use Rattle.cat_where.specs.declared.stages.Stage.TheVariants.{WantsValue, WantsDigits}
use Rattle.cat_where.specs.declared.stages.State.{State}
use Rattle.cat_where.specs.Grammar.{BeginsStructured, GoesOn, IsFirstBad, IsStructured}
use Rattle.cat_where.specs.Lexing.{bare, end_at, end_of, lexed, place_of_index}
use Rattle.cat_where.specs.Machine.{finish, number_in, start, step, step_at, wants_digits, wants_value}
use Rattle.cat_where.specs.Verdicts.{Verdict, Found, OutOfRange, Syntax, IsBadAt, IsCause, IsVerdict, ending, fault_at, goes_on, verdict, verdict_from}
use Rattle.cat_where.proofs.Complete.{steps, steps-append, finish_of, read, structured_read}
use Rattle.cat_where.proofs.Sound.{completed, read_is_structured}

-- ---- lists

bare-append : (xs ys : List Placed) → bare (xs ++ ys) ≡ bare xs ++ bare ys
bare-append [] ys = refl
bare-append (x ∷ xs) ys = ap (λ (l : List Lexeme). x.lexeme ∷ l) (bare-append xs ys)

take_first : {X : Type 0} (xs ys : List X) → take (length xs) (xs ++ ys) ≡ xs
take_first [] ys = refl
take_first (x ∷ xs) ys = ap (λ l. x ∷ l) (take_first xs ys)

place_after : (end : ℕ) (xs ys : List Placed) → place_of_index end (xs ++ ys) (length (bare xs)) ≡ place_of_index end ys 0
place_after end [] ys = refl
place_after end (x ∷ xs) ys = place_after end xs ys

-- ---- what begins a query, and what doesn't

nowhere : (limits : Bool) (ls : List Lexeme) → steps limits None ls ≡ None
nowhere limits [] = refl
nowhere limits (l ∷ ls) = refl

begins : (limits : Bool) (ls : List Lexeme) (s : State) → steps limits (Some start) ls ≡ Some s → BeginsStructured limits ls
begins limits ls s is =
    let rest = completed limits s in
    record {
      rest = rest.rest;
      query = rest.query;
      whole =
          read_is_structured limits (ls ++ rest.rest) rest.query
          (ap finish_of (steps-append limits (Some start) ls rest.rest) ∙ ap (λ (o : Option State). finish_of (steps limits o rest.rest)) is ∙ rest.is);
    }

refused : (limits : Bool) (ls : List Lexeme) → steps limits (Some start) ls ≡ None → BeginsStructured limits ls → ⊥
refused limits ls none b =
    let e : None ≡ Some b.query =
    sym (ap finish_of (steps-append limits (Some start) ls b.rest ∙ ap (λ (o : Option State). steps limits o b.rest) none ∙ nowhere limits b.rest))
    ∙ structured_read limits (ls ++ b.rest) b.query b.whole in
    cc

no_query : (ls : List Lexeme) → read true ls ≡ None → (w : Where) → IsStructured true ls w → ⊥
no_query ls none w is = let e : None ≡ Some w = sym none ∙ structured_read true ls w is in cc

-- ---- without the limits of numbers

loose_number : (role : Role) (n : Whole) (w : Where) (next : State) → number_in true role n w ≡ Some next → number_in false role n w ≡ Some next
loose_number role (Fits n) w next e = e
loose_number role Beyond w next e = cc

loose_value : (role : Role) (w : Where) (l : Lexeme) (next : State) → wants_value true role w l ≡ Some next → wants_value false role w l ≡ Some next
loose_value role w (Number digits) next e = loose_number role (number digits) w next e
loose_value role w l next e = e

loose_digits : (role : Role) (w : Where) (l : Lexeme) (next : State) → wants_digits true role w l ≡ Some next → wants_digits false role w l ≡ Some next
loose_digits role w (Number digits) next e = loose_number role (negated digits) w next e
loose_digits role w l next e = e

loose_at : (stage : Stage) (w : Where) (l : Lexeme) (next : State) → step_at true stage w l ≡ Some next → step_at false stage w l ≡ Some next
loose_at (WantsValue role) w l next e = loose_value role w l next e
loose_at (WantsDigits role) w l next e = loose_digits role w l next e
loose_at stage w l next e = e

loose_steps : (s : State) (ls : List Lexeme) (last : State) → steps true (Some s) ls ≡ Some last → steps false (Some s) ls ≡ Some last
loose_steps s [] last e = e
loose_steps s (l ∷ ls) last e = go (step true s l) refl e (λ next is. loose_steps next ls last is)
  where
    go : (o : Option State) → step true s l ≡ o → steps true o ls ≡ Some last → ((next : State) → steps true (Some next) ls ≡ Some last → steps false (Some next) ls ≡ Some last)
        → steps false (step false s l) ls ≡ Some last
    go None f e more = let none : None ≡ Some last = sym (nowhere true ls) ∙ e in cc
    go (Some next) f e more = ap (λ (o : Option State). steps false o ls) (loose_at s.stage s.done l next f) ∙ more next e

-- ---- the verdict of what is left

pub record BadSays (end : ℕ) (broken : Option ℕ) (all : List Placed) (out_of_range : Bool) (place : ℕ) : Type 0 where
  pub index : ℕ
  pub bad : IsFirstBad (bare all) broken index
  pub cause : IsCause out_of_range (bare all) index
  pub stands : place_of_index (end_at end broken) all index ≡ place

-- what the verdict says of all lexemes
abbrev Says : ℕ → Option ℕ → List Placed → Verdict → Type 0
Says end broken all (Found w) = (broken ≡ None) × IsStructured true (bare all) w
Says end broken all (OutOfRange place) = BadSays end broken all true place
Says end broken all (Syntax place) = BadSays end broken all false place

before_all : (done : List Placed) (s : State) → steps true (Some start) (bare done) ≡ Some s → BeginsStructured true (take (length (bare done)) (bare done))
before_all done s is =
    subst (BeginsStructured true) (sym (ap (take (length (bare done))) (sym (append-nil (bare done))) ∙ take_first (bare done) [])) (begins true (bare done) s is)

at_end : (end : ℕ) (broken : Option ℕ) (done : List Placed) (s : State) → steps true (Some start) (bare done) ≡ Some s → (broken ≡ None → finish s ≡ None)
    → BadSays end broken done false (end_at end broken)
at_end end broken done s is none = record {
  index = length (bare done);
  bad = record {
    before = before_all done s is;
    within = omega arith;
    lexeme = λ goes. absurd (omega (arith, goes.0));
    no_query = λ unbroken. no_query (bare done) (ap finish_of is ∙ none unbroken);
  };
  cause = λ goes. absurd (omega (arith, goes.0));
  stands = ap (λ (l : List Placed). place_of_index (end_at end broken) l (length (bare done))) (sym (append-nil done)) ∙ place_after (end_at end broken) done [];
}

ends : (end : ℕ) (broken : Option ℕ) (done : List Placed) (s : State) (o : Option Where) → steps true (Some start) (bare done) ≡ Some s → finish s ≡ o → Says end broken done (ending end broken o)
ends end (Some place) done s o is e = at_end end (Some place) done s is (λ unbroken. cc)
ends end None done s None is e = at_end end None done s is (λ unbroken. e)
ends end None done s (Some w) is e = (refl, read_is_structured true (bare done) w (ap finish_of is ∙ e))

-- the lexemes up to and with one
first_with : (done : List Placed) (p : Placed) (ps : List Placed) → take (length (bare done) + 1) (bare (done ++ p ∷ ps)) ≡ bare done ++ p.lexeme ∷ []
first_with done p ps =
    ap (take (length (bare done) + 1)) (bare-append done (p ∷ ps) ∙ sym (append_assoc (bare done) (p.lexeme ∷ []) (bare ps)))
    ∙ ap (λ (n : ℕ). take n ((bare done ++ p.lexeme ∷ []) ++ bare ps)) (sym (length-append (bare done) (p.lexeme ∷ [])))
    ∙ take_first (bare done ++ p.lexeme ∷ []) (bare ps)

-- the state after it
after_with : (limits : Bool) (ls : List Lexeme) (l : Lexeme) (s : State) (o : Option State) → steps limits (Some start) ls ≡ Some s → step limits s l ≡ o → steps limits (Some start) (ls ++ l ∷ []) ≡ o
after_with limits ls l s o is e = steps-append limits (Some start) ls (l ∷ []) ∙ ap (λ (x : Option State). steps limits x (l ∷ [])) is ∙ ap (λ (x : Option State). steps limits x []) e ∙ itself o
  where
    itself : (x : Option State) → steps limits x [] ≡ x
    itself None = refl
    itself (Some s) = refl

within_all : (done : List Placed) (p : Placed) (ps : List Placed) → length (bare done) < length (bare (done ++ p ∷ ps))
within_all done p ps = let whole = ap length (bare-append done (p ∷ ps)) in let long = length-append (bare done) (bare (p ∷ ps)) in omega (arith, whole, long)

first_refused : (broken : Option ℕ) (done : List Placed) (p : Placed) (ps : List Placed) (s : State) → steps true (Some start) (bare done) ≡ Some s → step true s p.lexeme ≡ None
    → IsFirstBad (bare (done ++ p ∷ ps)) broken (length (bare done))
first_refused broken done p ps s is none = record {
  before = subst (BeginsStructured true) (sym (ap (take (length (bare done))) (bare-append done (p ∷ ps)) ∙ take_first (bare done) (bare (p ∷ ps)))) (begins true (bare done) s is);
  within = (let less = within_all done p ps in omega (arith, less));
  lexeme = λ goes. refused true (bare done ++ p.lexeme ∷ []) (after_with true (bare done) p.lexeme s None is none) (subst (BeginsStructured true) (first_with done p ps) goes.1);
  no_query = λ unbroken. no_query (bare (done ++ p ∷ ps)) (ap finish_of (whole ∙ nowhere true (bare ps)));
}
  where
    whole : steps true (Some start) (bare (done ++ p ∷ ps)) ≡ steps true None (bare ps)
    whole =
        ap (steps true (Some start)) (bare-append done (p ∷ ps))
        ∙ steps-append true (Some start) (bare done) (bare (p ∷ ps))
        ∙ ap (λ (o : Option State). steps true o (bare (p ∷ ps))) is
        ∙ ap (λ (o : Option State). steps true o (bare ps)) none

lexeme_refused : (end : ℕ) (broken : Option ℕ) (done : List Placed) (p : Placed) (ps : List Placed) (s : State) (o : Option State) → steps true (Some start) (bare done) ≡ Some s → step true s p.lexeme ≡ None → step false s p.lexeme ≡ o
    → BadSays end broken (done ++ p ∷ ps) (is_some o) p.place
lexeme_refused end broken done p ps s None is none loose = record {
  index = length (bare done);
  bad = first_refused broken done p ps s is none;
  cause = λ goes. refused false (bare done ++ p.lexeme ∷ []) (after_with false (bare done) p.lexeme s None (loose_steps start (bare done) s is) loose) (subst (BeginsStructured false) (first_with done p ps) goes.1);
  stands = place_after (end_at end broken) done (p ∷ ps);
}
lexeme_refused end broken done p ps s (Some next) is none loose = record {
  index = length (bare done);
  bad = first_refused broken done p ps s is none;
  cause = (within_all done p ps, subst (BeginsStructured false) (sym (first_with done p ps)) (begins false (bare done ++ p.lexeme ∷ []) next (after_with false (bare done) p.lexeme s (Some next) (loose_steps start (bare done) s is) loose)));
  stands = place_after (end_at end broken) done (p ∷ ps);
}

fault_says : (end : ℕ) (broken : Option ℕ) (all : List Placed) (b : Bool) (place : ℕ) → BadSays end broken all b place → Says end broken all (fault_at b place)
fault_says end broken all true place says = says
fault_says end broken all false place says = says

verdict_says : (end : ℕ) (broken : Option ℕ) (left done : List Placed) (s : State) → steps true (Some start) (bare done) ≡ Some s → Says end broken (done ++ left) (verdict_from end broken s left)
verdict_says end broken [] done s is = subst (λ (l : List Placed). Says end broken l (ending end broken (finish s))) (sym (append-nil done)) (ends end broken done s (finish s) is refl)
verdict_says end broken (p ∷ ps) done s is = go (step true s p.lexeme) refl (λ next e. verdict_says end broken ps (done ++ p ∷ []) next (further next e))
  where
    further : (next : State) → step true s p.lexeme ≡ Some next → steps true (Some start) (bare (done ++ p ∷ [])) ≡ Some next
    further next e = ap (steps true (Some start)) (bare-append done (p ∷ [])) ∙ after_with true (bare done) p.lexeme s (Some next) is e

    go : (o : Option State) → step true s p.lexeme ≡ o
        → ((next : State) → step true s p.lexeme ≡ Some next → Says end broken ((done ++ p ∷ []) ++ ps) (verdict_from end broken next ps))
        → Says end broken (done ++ p ∷ ps) (goes_on (λ next. verdict_from end broken next ps) (fault_at (is_some (step false s p.lexeme)) p.place) o)
    go None e later = fault_says end broken (done ++ p ∷ ps) (is_some (step false s p.lexeme)) p.place (lexeme_refused end broken done p ps s (step false s p.lexeme) is e refl)
    go (Some next) e later = subst (λ (l : List Placed). Says end broken l (verdict_from end broken next ps)) (append_assoc done (p ∷ []) ps) (later next e)

pub verdict_is_true : (text : List ℕ) → IsVerdict text (verdict text)
verdict_is_true text = with_text (verdict text) (verdict_says (byte_count text + 1) (lexed text).broken (lexed text).lexemes [] start refl)
  where
    of_bad : (b : Bool) (place : ℕ) → BadSays (byte_count text + 1) (lexed text).broken (lexed text).lexemes b place → IsBadAt text b place
    of_bad b place says = record { index = says.index; bad = says.bad; cause = says.cause; stands = says.stands }

    with_text : (v : Verdict) → Says (byte_count text + 1) (lexed text).broken (lexed text).lexemes v → IsVerdict text v
    with_text (Found w) says = says
    with_text (OutOfRange place) says = of_bad true place says
    with_text (Syntax place) says = of_bad false place says

-- what is the verdict of a text is true of it
pub grammar_of : (o : Option Verdict) (text : List ℕ) → IfSome o (λ v. v ≡ verdict text) → IfSome o (λ v. IsVerdict text v)
grammar_of None text is = tt
grammar_of (Some v) text is = subst (IsVerdict text) (sym is) (verdict_is_true text)

-- ---- one verdict

same_query : (ls : List Lexeme) (v w : Where) → IsStructured true ls v → IsStructured true ls w → v ≡ w
same_query ls v w a b = let e : Some v ≡ Some w = sym (structured_read true ls v a) ∙ structured_read true ls w b in cc

-- the first lexemes of more
take_of_take : {X : Type 0} (m n : ℕ) (xs : List X) → m ≤ n → (more : List X) × (take n xs ≡ take m xs ++ more)
take_of_take zero n xs le = (take n xs, refl)
take_of_take (suc m) zero xs le = absurd (omega (arith, le))
take_of_take (suc m) (suc n) [] le = ([], refl)
take_of_take (suc m) (suc n) (x ∷ xs) le = let rest = take_of_take m n xs (omega (arith, le)) in (rest.0, ap (λ l. x ∷ l) rest.1)

begins_shorter : (ls more : List Lexeme) → BeginsStructured true (ls ++ more) → BeginsStructured true ls
begins_shorter ls more b = record { rest = more ++ b.rest; query = b.query; whole = subst (λ (x : List Lexeme). IsStructured true x b.query) (append_assoc ls more b.rest) b.whole }

not_before : (ls : List Lexeme) (broken : Option ℕ) (i j : ℕ) → IsFirstBad ls broken i → IsFirstBad ls broken j → i < j → ⊥
not_before ls broken i j a b less =
    let within = b.within in
    let longer = take_of_take (i + 1) j ls (omega (arith, less)) in
    a.lexeme (omega (arith, less, within), begins_shorter (take (i + 1) ls) longer.0 (subst (BeginsStructured true) longer.1 b.before))

same_index : (ls : List Lexeme) (broken : Option ℕ) (i j : ℕ) → IsFirstBad ls broken i → IsFirstBad ls broken j → i ≡ j
same_index ls broken i j a b = elim (cases_lt i j) [
  | inl less ↦ absurd (not_before ls broken i j a b less)
  | inr rest ↦ elim (cases_lt j i) [
    | inl less ↦ absurd (not_before ls broken j i b a less)
    | inr others ↦ omega (arith, rest, others)
  ]
]

same_place : (text : List ℕ) (b c : Bool) (p q : ℕ) → IsBadAt text b p → IsBadAt text c q → p ≡ q
same_place text b c p q x y =
    sym x.stands ∙ ap (place_of_index (end_of text (lexed text).broken) (lexed text).lexemes) (same_index (bare (lexed text).lexemes) (lexed text).broken x.index y.index x.bad y.bad) ∙ y.stands

two_causes : (text : List ℕ) (p q : ℕ) → IsBadAt text true p → IsBadAt text false q → ⊥
two_causes text p q x y =
    y.cause (subst (λ (i : ℕ). GoesOn false (bare (lexed text).lexemes) i) (same_index (bare (lexed text).lexemes) (lexed text).broken x.index y.index x.bad y.bad) x.cause)

pub one_verdict : (text : List ℕ) (a b : Verdict) → IsVerdict text a → IsVerdict text b → a ≡ b
one_verdict text (Found v) (Found w) a b = ap Found (same_query (bare (lexed text).lexemes) v w a.1 b.1)
one_verdict text (Found v) (OutOfRange q) a b = absurd (b.bad.no_query a.0 v a.1)
one_verdict text (Found v) (Syntax q) a b = absurd (b.bad.no_query a.0 v a.1)
one_verdict text (OutOfRange p) (Found w) a b = absurd (a.bad.no_query b.0 w b.1)
one_verdict text (Syntax p) (Found w) a b = absurd (a.bad.no_query b.0 w b.1)
one_verdict text (OutOfRange p) (OutOfRange q) a b = ap OutOfRange (same_place text true true p q a b)
one_verdict text (Syntax p) (Syntax q) a b = ap Syntax (same_place text false false p q a b)
one_verdict text (OutOfRange p) (Syntax q) a b = absurd (two_causes text p q a b)
one_verdict text (Syntax p) (OutOfRange q) a b = absurd (two_causes text q p b a)
