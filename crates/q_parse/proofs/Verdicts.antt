-- A verdict is what the grammar says.
use Rattle.std.proofs.Common.{◌≡◌, ℕ, ◌+◌, ◌≤◌, suc, Bool, true, false, cond, IfSome, List, [], ◌∷◌, ◌++◌, length, take, drop, refl, sym, ap, ◌∙◌, subst, append_assoc, append-nil, arith, Option, Some, None}
use Rattle.q_lex.specs.declared.lexemes.Lexeme.{Lexeme}
use Rattle.q_lex.specs.Words.{strict}
use Rattle.q_tree.specs.Trees.{Tree}
use Rattle.q_parse.specs.Machine.{State, step, read_from, start_state, finish}
use Rattle.q_lex.specs.declared.lexemes.Placed.{Placed}
use Rattle.q_parse.specs.Faults.{Verdict, TooLarge, Found, Fault, IsCause, IsVerdict}
use Rattle.q_parse.specs.Verdicts.{cause, ending, goes_on, verdict_from, verdict}
use Rattle.q_lex.specs.Lexing.{byte_count, query_lexemes, bare, place_of_index, too_large}
use Rattle.q_parse.specs.Grammar.{IsQuery, IsFirstBad}
use Rattle.q_parse.proofs.First.{read_from-append, read_from-one}
use Rattle.q_parse.proofs.Steps.{refused, finished, unfinished}

bare-append : (ps qs : List Placed) → bare (ps ++ qs) ≡ bare ps ++ bare qs
bare-append [] qs = refl
bare-append (p ∷ ps) qs = ap (λ x. p.lexeme ∷ x) (bare-append ps qs)

bare-length : (ps : List Placed) → length (bare ps) ≡ length ps
bare-length [] = refl
bare-length (p ∷ ps) = ap (λ n. suc n) (bare-length ps)

drop-front : (xs ys : List Lexeme) → drop (length xs) (xs ++ ys) ≡ ys
drop-front [] ys = refl
drop-front (x ∷ xs) ys = drop-front xs ys

take-front : (xs ys : List Lexeme) → take (length xs) (xs ++ ys) ≡ xs
take-front [] ys = refl
take-front (x ∷ xs) ys = ap (λ l. x ∷ l) (take-front xs ys)

place-front : (end : ℕ) (ps qs : List Placed) → place_of_index end (ps ++ qs) (length ps) ≡ place_of_index end qs 0
place-front end [] qs = refl
place-front end (p ∷ ps) qs = place-front end ps qs

at-front : (done : List Placed) (qs : List Placed) (s : State) → read_from strict (Some start_state) (bare done) ≡ Some s → read_from strict (Some start_state) (take (length done) (bare (done ++ qs))) ≡ Some s
at-front done qs s read = ap (λ x. read_from strict (Some start_state) x) (ap (λ x. take (length done) x) (bare-append done qs) ∙ ap (λ n. take n (bare done ++ bare qs)) (sym (bare-length done)) ∙ take-front (bare done) (bare qs)) ∙ read

left-front : (done qs : List Placed) → drop (length done) (bare (done ++ qs)) ≡ bare qs
left-front done qs = ap (λ x. drop (length done) x) (bare-append done qs) ∙ ap (λ n. drop n (bare done ++ bare qs)) (sym (bare-length done)) ∙ drop-front (bare done) (bare qs)

-- The tree is one of the grammar, and a fault stands at the first bad place with its cause.
abbrev IsReadAs : ℕ → List Placed → Verdict → Type 0
IsReadAs end ps TooLarge = ⊥
IsReadAs end ps (Found t) = IsQuery strict (bare ps) t
IsReadAs end ps (Fault why place) = (i : ℕ) × IsFirstBad (bare ps) i × IsCause (bare ps) i why × (place_of_index end ps i ≡ place)

ends : (end : ℕ) (done : List Placed) (s : State) (o : Option Tree) → read_from strict (Some start_state) (bare done) ≡ Some s → finish s ≡ o → IsReadAs end done (ending end o)
ends end done s None read e =
    let all : length (bare done) ≤ length done = omega (arith, bare-length done) in
    let within : length done ≤ length (bare done) = omega (arith, bare-length done) in
    let f = unfinished (bare done) (length done) s within all (subst (λ x. read_from strict (Some start_state) (take (length done) (bare x)) ≡ Some s) (append-nil done) (at-front done [] s read)) e in
    (length done, f.0, f.1, subst (λ x. place_of_index end x (length done) ≡ end) (append-nil done) (place-front end done []))
ends end done s (Some t) read e =
    let all : length (bare done) ≤ length done = omega (arith, bare-length done) in
    finished (bare done) (length done) s t all (subst (λ x. read_from strict (Some start_state) (take (length done) (bare x)) ≡ Some s) (append-nil done) (at-front done [] s read)) e

goes-is : (end : ℕ) (done : List Placed) (p : Placed) (ps : List Placed) (s : State) (o : Option State)
    → ((next : State) → read_from strict (Some start_state) (bare (done ++ p ∷ [])) ≡ Some next → IsReadAs end ((done ++ p ∷ []) ++ ps) (verdict_from end next ps))
    → read_from strict (Some start_state) (bare done) ≡ Some s → step strict s p.lexeme ≡ o
    → IsReadAs end (done ++ p ∷ ps) (goes_on (λ next. verdict_from end next ps) (Fault (cause s.stage s.frames p.lexeme) p.place) o)
goes-is end done p ps s None more read e =
    let f = refused (bare (done ++ p ∷ ps)) (length done) p.lexeme (bare ps) s (cause s.stage s.frames p.lexeme) (left-front done (p ∷ ps)) (at-front done (p ∷ ps) s read) e refl in
    (length done, f.0, f.1, place-front end done (p ∷ ps))
goes-is end done p ps s (Some next) more read e =
    let goes : read_from strict (Some start_state) (bare (done ++ p ∷ [])) ≡ Some next = ap (λ x. read_from strict (Some start_state) x) (bare-append done (p ∷ [])) ∙ read_from-append strict (Some start_state) (bare done) (p.lexeme ∷ []) ∙ ap (λ x. read_from strict x (p.lexeme ∷ [])) read ∙ read_from-one strict (step strict s p.lexeme) ∙ e in
    subst (λ x. IsReadAs end x (verdict_from end next ps)) (append_assoc done (p ∷ []) ps) (more next goes)

verdict-is : (end : ℕ) (done ps : List Placed) (s : State) → read_from strict (Some start_state) (bare done) ≡ Some s → IsReadAs end (done ++ ps) (verdict_from end s ps)
verdict-is end done [] s read = subst (λ x. IsReadAs end x (ending end (finish s))) (sym (append-nil done)) (ends end done s (finish s) read refl)
verdict-is end done (p ∷ ps) s read = goes-is end done p ps s (step strict s p.lexeme) (λ next more. verdict-is end (done ++ p ∷ []) ps next more) read refl

as-verdict : (text : List ℕ) → too_large text ≡ false → (v : Verdict) → IsReadAs (byte_count text + 1) (query_lexemes text) v → IsVerdict text v
as-verdict text small TooLarge is = absurd is
as-verdict text small (Found t) is = (small, is)
as-verdict text small (Fault why place) is = (small, is)

pub verdict-true : (text : List ℕ) → IsVerdict text (verdict text)
verdict-true text = pick (too_large text) refl
  where
    pick : (b : Bool) → too_large text ≡ b → IsVerdict text (cond b TooLarge (verdict_from (byte_count text + 1) start_state (query_lexemes text)))
    pick true e = e
    pick false e = as-verdict text e (verdict_from (byte_count text + 1) start_state (query_lexemes text)) (verdict-is (byte_count text + 1) [] (query_lexemes text) start_state refl)

-- what is the verdict of a text is true of it
pub grammar-of : (o : Option Verdict) (text : List ℕ) → IfSome o (λ v. v ≡ verdict text) → IfSome o (λ v. IsVerdict text v)
grammar-of None text is = tt
grammar-of (Some v) text is = subst (IsVerdict text) (sym is) (verdict-true text)
