-- The grammar gives each text one verdict.
use Rattle.std.proofs.Common.{◌≡◌, ℕ, ◌+◌, ◌<◌, ◌≤◌, zero, suc, Bool, true, false, inl, inr, List, [], ◌∷◌, ◌++◌, length, take, refl, sym, ap, ◌∙◌, subst, arith, Some, ⊎_elim}
use Rattle.std.proofs.lemmas.Bool.{cases_order}
use Rattle.q_tree.specs.Trees.{Tree}
use Rattle.q_lex.specs.declared.lexemes.Lexeme.{Lexeme}
use Rattle.q_parse.specs.declared.faults.Cause.{Cause}
use Rattle.q_parse.specs.declared.faults.Cause.TheVariants.{OutOfRange, NotInProfile, Syntax}
use Rattle.q_lex.specs.Words.{strict}
use Rattle.q_parse.specs.Grammar.{BeginsQuery, IsFirstBad, IsQuery}
use Rattle.q_lex.specs.Lexing.{byte_count, query_lexemes, bare, place_of_index}
use Rattle.q_parse.specs.Faults.{IsCause, Verdict, TooLarge, Found, Fault, IsVerdict}
use Rattle.q_parse.proofs.Complete.{query-read}
use Rattle.q_parse.proofs.Begins.{begins-more}

take-front : (ls : List Lexeme) (i j : ℕ) → i ≤ j → (ms : List Lexeme) × (take j ls ≡ take i ls ++ ms)
take-front ls zero j le = (take j ls, refl)
take-front [] (suc i) zero le = absurd (omega arith)
take-front [] (suc i) (suc j) le = ([], refl)
take-front (l ∷ ls) (suc i) zero le = absurd (omega arith)
take-front (l ∷ ls) (suc i) (suc j) le = let front = take-front ls i j (omega arith) in (front.0, ap (λ x. l ∷ x) front.1)

-- no first bad place is before another
not-before : (ls : List Lexeme) (i j : ℕ) → IsFirstBad ls i → IsFirstBad ls j → i < j → ⊥
not-before ls i j a b less =
    let front = take-front ls (i + 1) j (omega arith) in
    let within : i < length ls = omega (arith, b.within) in
    a.lexeme within (begins-more strict (take (i + 1) ls) front.0 (subst (BeginsQuery strict) front.1 b.before))

one-place : (ls : List Lexeme) (i j : ℕ) → IsFirstBad ls i → IsFirstBad ls j → i ≡ j
one-place ls i j a b = elim (cases_order i j) [
  | inl same ↦ same
  | inr (inl less) ↦ absurd (not-before ls i j a b less)
  | inr (inr more) ↦ absurd (not-before ls j i b a more)
]

false-true : (b : Bool) → b ≡ false → b ≡ true → ⊥
false-true b e f = let no : false ≡ true = sym e ∙ f in cc

range-profile : (ls : List Lexeme) (i : ℕ) → IsCause ls i OutOfRange → IsCause ls i NotInProfile → ⊥
range-profile ls i (inl g) k = k.0 g
range-profile ls i (inr h) k = ⊎_elim (λ m. false-true _ h.0 m) (λ s. h.1 s) k.1

range-syntax : (ls : List Lexeme) (i : ℕ) → IsCause ls i OutOfRange → IsCause ls i Syntax → ⊥
range-syntax ls i (inl g) k = k.0 g
range-syntax ls i (inr h) k = k.3 h.2

profile-syntax : (ls : List Lexeme) (i : ℕ) → IsCause ls i NotInProfile → IsCause ls i Syntax → ⊥
profile-syntax ls i h k = ⊎_elim (λ m. false-true _ k.1 m) (λ s. k.2 s) h.1

one-cause : (ls : List Lexeme) (i : ℕ) (v w : Cause) → IsCause ls i v → IsCause ls i w → v ≡ w
one-cause ls i OutOfRange OutOfRange h k = refl
one-cause ls i OutOfRange NotInProfile h k = absurd (range-profile ls i h k)
one-cause ls i OutOfRange Syntax h k = absurd (range-syntax ls i h k)
one-cause ls i NotInProfile OutOfRange h k = absurd (range-profile ls i k h)
one-cause ls i NotInProfile NotInProfile h k = refl
one-cause ls i NotInProfile Syntax h k = absurd (profile-syntax ls i h k)
one-cause ls i Syntax OutOfRange h k = absurd (range-syntax ls i k h)
one-cause ls i Syntax NotInProfile h k = absurd (profile-syntax ls i k h)
one-cause ls i Syntax Syntax h k = refl

pub one-tree : (ls : List Lexeme) (s t : Tree) → IsQuery strict ls s → IsQuery strict ls t → s ≡ t
one-tree ls s t p q = let same : Some s ≡ Some t = sym (query-read strict ls s p) ∙ query-read strict ls t q in cc

pub one-verdict : (text : List ℕ) (v w : Verdict) → IsVerdict text v → IsVerdict text w → v ≡ w
one-verdict text TooLarge TooLarge h k = refl
one-verdict text TooLarge (Found t) h k = absurd (false-true _ k.0 h)
one-verdict text TooLarge (Fault why place) h k = absurd (false-true _ k.0 h)
one-verdict text (Found s) TooLarge h k = absurd (false-true _ h.0 k)
one-verdict text (Found s) (Found t) h k = ap Found (one-tree (bare (query_lexemes text)) s t h.1 k.1)
one-verdict text (Found s) (Fault why place) h k = absurd (k.1.1.no_query s h.1)
one-verdict text (Fault why place) TooLarge h k = absurd (false-true _ h.0 k)
one-verdict text (Fault why place) (Found t) h k = absurd (h.1.1.no_query t k.1)
one-verdict text (Fault why place) (Fault other there) h k =
    let same = one-place (bare (query_lexemes text)) h.1.0 k.1.0 h.1.1 k.1.1 in
    let cause = one-cause (bare (query_lexemes text)) k.1.0 why other (subst (λ i. IsCause (bare (query_lexemes text)) i why) same h.1.2) k.1.2 in
    let at = sym h.1.3 ∙ ap (place_of_index (byte_count text + 1) (query_lexemes text)) same ∙ k.1.3 in
    ap (λ x. Fault x place) cause ∙ ap (Fault other) at
