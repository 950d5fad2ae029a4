-- The verdict that is computed is the one that the grammar gives, and it gives no other.
use Rattle.std.specs.Prelude.{ℕ, ◌≡◌, ◌+◌, ◌<◌, ◌≤◌, zero, suc, Bool, true, false, cond, IfSome, List, [], ◌∷◌, ◌++◌, length, take, Option, Some, None, refl}
use Rattle.std.proofs.Common.{arith, inl, inr, sym, ap, subst, ◌∙◌, append_assoc, append-nil, length-append}
use Rattle.std.proofs.lemmas.Bool.{cases_lt}
use Rattle.q_tree.specs.Trees.{Tree}
use Rattle.cat_query.specs.declared.lexemes.Lexeme.{Lexeme}
use Rattle.cat_query.specs.declared.lexemes.Placed.{Placed}
use Rattle.cat_query.specs.Grammar.{IsQuery, BeginsQuery, IsFirstBad}
use Rattle.q_lex.specs.Lexing.{byte_count}
use Rattle.cat_query.specs.Lexing.{bare, query_lexemes, too_large}
use Rattle.cat_query.specs.Machine.{State, start, step, finish}
use Rattle.cat_query.specs.Verdicts.{Verdict, TooLarge, Found, Fault, IsVerdict, place_of_index, ending, goes_on, verdict_from, verdict}
use Rattle.cat_query.proofs.Complete.{steps, steps-append, query_is_read}
use Rattle.cat_query.proofs.Sound.{StateSpelt, start_spelt, step_spelt, finish_is_query, begins_shorter, spelt_begins}

-- ---- lists

bare-append : (xs ys : List Placed) → bare (xs ++ ys) ≡ bare xs ++ bare ys
bare-append [] ys = refl
bare-append (x ∷ xs) ys = ap (λ (l : List Lexeme). x.lexeme ∷ l) (bare-append xs ys)

take_first : {X : Type 0} (xs ys : List X) → take (length xs) (xs ++ ys) ≡ xs
take_first [] ys = refl
take_first (x ∷ xs) ys = ap (λ l. x ∷ l) (take_first xs ys)

place_after : (end : ℕ) (xs ys : List Placed) → place_of_index end (xs ++ ys) (length (bare xs)) ≡ place_of_index end ys 0
place_after end [] ys = refl
place_after end (x ∷ xs) ys = place_after end xs ys

place_of_end : (end : ℕ) (ys : List Placed) → ys ≡ [] → place_of_index end ys 0 ≡ end
place_of_end end [] is = refl
place_of_end end (y ∷ ys) is = cc

-- ---- what is refused

-- where the lexemes lead nowhere, or may not end, they are no query
none_read : (ls : List Lexeme) → steps (Some start) ls ≡ None → (t : Tree) → IsQuery ls t → ⊥
none_read ls none t is = let read = query_is_read ls t is in let e : None ≡ Some read.last = sym none ∙ read.steps in cc

not_ended : (ls : List Lexeme) (s : State) → steps (Some start) ls ≡ Some s → finish s ≡ None → (t : Tree) → IsQuery ls t → ⊥
not_ended ls s is none t query =
    let read = query_is_read ls t query in
    let same : s ≡ read.last = (let e : Some s ≡ Some read.last = sym is ∙ read.steps in cc) in
    let e : None ≡ Some t = sym none ∙ ap finish same ∙ read.finish in
    cc

none_begins : (ls : List Lexeme) → steps (Some start) ls ≡ None → BeginsQuery ls → ⊥
none_begins ls none begins = none_read (ls ++ begins.rest) (steps-append (Some start) ls begins.rest ∙ ap (λ (o : Option State). steps o begins.rest) none ∙ goes_nowhere begins.rest) begins.tree begins.whole
  where
    goes_nowhere : (ls : List Lexeme) → steps None ls ≡ None
    goes_nowhere [] = refl
    goes_nowhere (l ∷ ls) = refl

-- ---- the verdict of what is left

-- what the verdict says of all lexemes, where the text isn't too large
abbrev Says : ℕ → List Placed → Verdict → Type 0
Says end all TooLarge = ⊥
Says end all (Found t) = IsQuery (bare all) t
Says end all (Fault place) = (i : ℕ) × IsFirstBad (bare all) i × (place_of_index end all i ≡ place)

refused_at_end : (end : ℕ) (done : List Placed) (s : State) → steps (Some start) (bare done) ≡ Some s → StateSpelt s (bare done) → finish s ≡ None → Says end done (Fault end)
refused_at_end end done s is spelt none = (
  length (bare done),
  record {
    before = subst BeginsQuery (sym (ap (take (length (bare done))) (sym (append-nil (bare done))) ∙ take_first (bare done) [])) (spelt_begins s (bare done) spelt);
    within = omega arith;
    lexeme = λ less. absurd (omega (arith, less));
    no_query = λ t query. not_ended (bare done) s is none t query;
  },
  ap (λ (l : List Placed). place_of_index end l (length (bare done))) (sym (append-nil done)) ∙ place_after end done [],
)

refused_lexeme : (end : ℕ) (done : List Placed) (p : Placed) (ps : List Placed) (s : State) → steps (Some start) (bare done) ≡ Some s → StateSpelt s (bare done) → step s p.lexeme ≡ None → Says end (done ++ p ∷ ps) (Fault p.place)
refused_lexeme end done p ps s is spelt none = (
  length (bare done),
  record {
    before = subst BeginsQuery (sym (ap (take (length (bare done))) (bare-append done (p ∷ ps)) ∙ take_first (bare done) (bare (p ∷ ps)))) (spelt_begins s (bare done) spelt);
    within = (let whole = ap length (bare-append done (p ∷ ps)) in let long = length-append (bare done) (bare (p ∷ ps)) in omega (arith, whole, long));
    lexeme = λ less begins. none_begins (bare done ++ p.lexeme ∷ []) to_none (subst BeginsQuery first begins);
    no_query = λ t query. none_read (bare (done ++ p ∷ ps)) (ap (steps (Some start)) (bare-append done (p ∷ ps)) ∙ steps-append (Some start) (bare done) (bare (p ∷ ps)) ∙ ap (λ (o : Option State). steps o (bare (p ∷ ps))) is ∙ ap (λ (o : Option State). steps o (bare ps)) none ∙ goes_nowhere (bare ps)) t query;
  },
  place_after end done (p ∷ ps),
)
  where
    goes_nowhere : (ls : List Lexeme) → steps None ls ≡ None
    goes_nowhere [] = refl
    goes_nowhere (l ∷ ls) = refl

    to_none : steps (Some start) (bare done ++ p.lexeme ∷ []) ≡ None
    to_none = steps-append (Some start) (bare done) (p.lexeme ∷ []) ∙ ap (λ (o : Option State). steps o (p.lexeme ∷ [])) is ∙ ap (λ (o : Option State). steps o []) none

    first : take (length (bare done) + 1) (bare (done ++ p ∷ ps)) ≡ bare done ++ p.lexeme ∷ []
    first =
        ap (take (length (bare done) + 1)) (bare-append done (p ∷ ps) ∙ sym (append_assoc (bare done) (p.lexeme ∷ []) (bare ps)))
        ∙ ap (λ (n : ℕ). take n ((bare done ++ p.lexeme ∷ []) ++ bare ps)) (sym (length-append (bare done) (p.lexeme ∷ [])))
        ∙ take_first (bare done ++ p.lexeme ∷ []) (bare ps)

verdict_says : (end : ℕ) (left done : List Placed) (s : State) → steps (Some start) (bare done) ≡ Some s → StateSpelt s (bare done) → Says end (done ++ left) (verdict_from end s left)
verdict_says end [] done s is spelt = subst (λ (l : List Placed). Says end l (ending end (finish s))) (sym (append-nil done)) (go (finish s) refl)
  where
    go : (o : Option Tree) → finish s ≡ o → Says end done (ending end o)
    go None e = refused_at_end end done s is spelt e
    go (Some t) e = finish_is_query s (bare done) t e spelt
verdict_says end (p ∷ ps) done s is spelt = go (step s p.lexeme) refl (λ next e. verdict_says end ps (done ++ p ∷ []) next (further next e) (subst (StateSpelt next) (sym (bare-append done (p ∷ []))) (step_spelt s p.lexeme next (bare done) e spelt)))
  where
    further : (next : State) → step s p.lexeme ≡ Some next → steps (Some start) (bare (done ++ p ∷ [])) ≡ Some next
    further next e = ap (steps (Some start)) (bare-append done (p ∷ [])) ∙ steps-append (Some start) (bare done) (p.lexeme ∷ []) ∙ ap (λ (o : Option State). steps o (p.lexeme ∷ [])) is ∙ ap (λ (o : Option State). steps o []) e

    go : (o : Option State) → step s p.lexeme ≡ o → ((next : State) → step s p.lexeme ≡ Some next → Says end ((done ++ p ∷ []) ++ ps) (verdict_from end next ps))
        → Says end (done ++ p ∷ ps) (goes_on (λ next. verdict_from end next ps) p.place o)
    go None e later = refused_lexeme end done p ps s is spelt e
    go (Some next) e later = subst (λ (l : List Placed). Says end l (verdict_from end next ps)) (append_assoc done (p ∷ []) ps) (later next e)

pub verdict_is_true : (text : List ℕ) → IsVerdict text (verdict text)
verdict_is_true text = go (too_large text) refl
  where
    with_size : (v : Verdict) → too_large text ≡ false → Says (byte_count text + 1) (query_lexemes text) v → IsVerdict text v
    with_size TooLarge h says = absurd says
    with_size (Found t) h says = (h, says)
    with_size (Fault place) h says = (h, says)

    go : (b : Bool) → too_large text ≡ b → IsVerdict text (cond b TooLarge (verdict_from (byte_count text + 1) start (query_lexemes text)))
    go true h = h
    go false h = with_size _ h (verdict_says (byte_count text + 1) (query_lexemes text) [] start refl start_spelt)

-- ---- one verdict

both_sizes : {X : Type 0} (b : Bool) → b ≡ true → b ≡ false → X
both_sizes b t f = let e : true ≡ false = sym t ∙ f in cc

same_tree : (ls : List Lexeme) (t u : Tree) → IsQuery ls t → IsQuery ls u → t ≡ u
same_tree ls t u a b =
    let x = query_is_read ls t a in
    let y = query_is_read ls u b in
    let same : x.last ≡ y.last = (let e : Some x.last ≡ Some y.last = sym x.steps ∙ y.steps in cc) in
    let e : Some t ≡ Some u = sym x.finish ∙ ap finish same ∙ y.finish in
    cc

-- the first lexemes of more
take_of_take : {X : Type 0} (m n : ℕ) (xs : List X) → m ≤ n → (more : List X) × (take n xs ≡ take m xs ++ more)
take_of_take zero n xs le = (take n xs, refl)
take_of_take (suc m) zero xs le = absurd (omega (arith, le))
take_of_take (suc m) (suc n) [] le = ([], refl)
take_of_take (suc m) (suc n) (x ∷ xs) le = let rest = take_of_take m n xs (omega (arith, le)) in (rest.0, ap (λ l. x ∷ l) rest.1)

not_before : (ls : List Lexeme) (i j : ℕ) → IsFirstBad ls i → IsFirstBad ls j → i < j → ⊥
not_before ls i j a b less =
    let within = b.within in
    let longer = take_of_take (i + 1) j ls (omega (arith, less)) in
    a.lexeme (omega (arith, less, within)) (begins_shorter (take (i + 1) ls) longer.0 (subst BeginsQuery longer.1 b.before))

same_index : (ls : List Lexeme) (i j : ℕ) → IsFirstBad ls i → IsFirstBad ls j → i ≡ j
same_index ls i j a b = elim (cases_lt i j) [
  | inl less ↦ absurd (not_before ls i j a b less)
  | inr rest ↦ elim (cases_lt j i) [
    | inl less ↦ absurd (not_before ls j i b a less)
    | inr others ↦ omega (arith, rest, others)
  ]
]

pub one_verdict : (text : List ℕ) (a b : Verdict) → IsVerdict text a → IsVerdict text b → a ≡ b
one_verdict text TooLarge TooLarge a b = refl
one_verdict text TooLarge (Found u) a b = both_sizes (too_large text) a b.0
one_verdict text TooLarge (Fault q) a b = both_sizes (too_large text) a b.0
one_verdict text (Found t) TooLarge a b = both_sizes (too_large text) b a.0
one_verdict text (Found t) (Found u) a b = ap Found (same_tree (bare (query_lexemes text)) t u a.1 b.1)
one_verdict text (Found t) (Fault q) a b = absurd (b.1.1.no_query t a.1)
one_verdict text (Fault p) TooLarge a b = both_sizes (too_large text) b a.0
one_verdict text (Fault p) (Found u) a b = absurd (a.1.1.no_query u b.1)
one_verdict text (Fault p) (Fault q) a b =
    ap Fault (sym a.1.2 ∙ ap (place_of_index (byte_count text + 1) (query_lexemes text)) (same_index (bare (query_lexemes text)) a.1.0 b.1.0 a.1.1 b.1.1) ∙ b.1.2)

-- what is the verdict of a text is true of it
pub grammar_of : (o : Option Verdict) (text : List ℕ) → IfSome o (λ v. v ≡ verdict text) → IfSome o (λ v. IsVerdict text v)
grammar_of None text is = tt
grammar_of (Some v) text is = subst (IsVerdict text) (sym is) (verdict_is_true text)
