-- The steps of the reader's loop over what is left of the lexemes.
use Rattle.std.proofs.Common.{◌≡◌, ℕ, ◌+◌, ◌<◌, ◌≤◌, zero, suc, List, [], ◌∷◌, length, take, drop, sym, ap, ◌∙◌, subst, arith, Option, Some, None, get_or}
use Rattle.q_lex.specs.declared.lexemes.Lexeme.{Lexeme}
use Rattle.q_parse.specs.declared.faults.Cause.{Cause}
use Rattle.q_parse.specs.declared.faults.Cause.TheVariants.{Syntax}
use Rattle.q_lex.specs.Words.{strict}
use Rattle.q_tree.specs.Trees.{Tree}
use Rattle.q_parse.specs.Grammar.{IsQuery, IsFirstBad}
use Rattle.q_parse.specs.Machine.{State, step, read_from, start_state, finish, tree_at_end}
use Rattle.q_parse.specs.Faults.{IsCause}
use Rattle.q_parse.specs.Verdicts.{cause}
use Rattle.q_parse.proofs.First.{read_from-more, read_from-all, bad-at_lexeme, bad-at_end, tree_at_end-query, cause-at, cause-at_end}

-- where a lexeme is the first of what is left, it stands at this place
pub left-within : (ls : List Lexeme) (i : ℕ) (l : Lexeme) (rest : List Lexeme) → drop i ls ≡ l ∷ rest → i < length ls
left-within [] zero l rest e = cc
left-within [] (suc i) l rest e = cc
left-within (m ∷ ls) zero l rest e = omega arith
left-within (m ∷ ls) (suc i) l rest e = let less = left-within ls i l rest e in omega arith

left-is : (ls : List Lexeme) (i : ℕ) (l d : Lexeme) (rest : List Lexeme) → drop i ls ≡ l ∷ rest → get_or ls i d ≡ l
left-is [] zero l d rest e = cc
left-is [] (suc i) l d rest e = cc
left-is (m ∷ ls) zero l d rest e = cc
left-is (m ∷ ls) (suc i) l d rest e = left-is ls i l d rest e

pub goes : (ls : List Lexeme) (i : ℕ) (l : Lexeme) (rest : List Lexeme) (s : State) (next : Option State) → drop i ls ≡ l ∷ rest → read_from strict (Some start_state) (take i ls) ≡ Some s → step strict s l ≡ next → read_from strict (Some start_state) (take (i + 1) ls) ≡ next
goes ls i l rest s next left read stepped = read_from-more strict ls i l s next (left-within ls i l rest left) read (ap (λ x. step strict s x) (left-is ls i l l rest left) ∙ stepped)

pub refused : (ls : List Lexeme) (i : ℕ) (l : Lexeme) (rest : List Lexeme) (s : State) (why : Cause) → drop i ls ≡ l ∷ rest → read_from strict (Some start_state) (take i ls) ≡ Some s → step strict s l ≡ None → why ≡ cause s.stage s.frames l
    → IsFirstBad ls i × IsCause ls i why
refused ls i l rest s why left read none is =
    let within = left-within ls i l rest left in
    let its = left-is ls i l l rest left in (
      bad-at_lexeme ls i s within read (goes ls i l rest s None left read none),
      subst (IsCause ls i) (ap (λ x. cause s.stage s.frames x) its ∙ sym is) (cause-at ls i s l within read (ap (λ x. step strict s x) its ∙ none)),
    )

pub finished : (ls : List Lexeme) (i : ℕ) (s : State) (t : Tree) → length ls ≤ i → read_from strict (Some start_state) (take i ls) ≡ Some s → finish s ≡ Some t → IsQuery strict ls t
finished ls i s t left read end = tree_at_end-query strict ls t (ap tree_at_end (read_from-all strict ls i s left read) ∙ end)

pub unfinished : (ls : List Lexeme) (i : ℕ) (s : State) → i ≤ length ls → length ls ≤ i → read_from strict (Some start_state) (take i ls) ≡ Some s → finish s ≡ None → IsFirstBad ls i × IsCause ls i Syntax
unfinished ls i s within left read none =
    let same : length ls ≡ i = omega (arith, left, within) in
    subst (λ n. IsFirstBad ls n × IsCause ls n Syntax) same (bad-at_end ls s (read_from-all strict ls i s left read) none, cause-at_end ls)
