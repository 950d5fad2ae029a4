-- What the reader of Machine answers: the cause by where it is when it refuses a lexeme, and the verdict of a text.
-- Nothing here has to be believed: the law `verdict_is_true` says of each text that its verdict is the one that the grammar gives.
use Rattle.std.specs.Prelude.{ℕ, ◌≡◌, ◌+◌, ◌||◌, ◌&&◌, Bool, true, false, List, [], ◌∷◌, Option, Some, None, refl}
use Rattle.std.specs.Bool.{if◌then◌else◌}
use Rattle.q_tree.specs.Trees.{Tree}
use Rattle.q_parse.specs.declared.faults.Cause.{Cause}
use Rattle.q_parse.specs.declared.faults.Cause.TheVariants.{OutOfRange, NotInProfile, Syntax}
use Rattle.q_lex.specs.declared.lexemes.Placed.{Placed}
use Rattle.q_lex.specs.declared.lexemes.Lexeme.{Lexeme}
use Rattle.q_lex.specs.declared.lexemes.Lexeme.TheVariants.{Word, Near, Comma, Refused}
use Rattle.q_parse.specs.declared.stages.Kind.{Kind}
use Rattle.q_parse.specs.declared.stages.Kind.TheVariants.{InNear}
use Rattle.q_lex.specs.Words.{strict, is_foreign, is_plain}
use Rattle.q_parse.specs.Grammar.{has_level, is_sum_sign}
use Rattle.q_lex.specs.Lexing.{byte_count, query_lexemes, too_large}
use Rattle.q_parse.specs.Machine.{Frame, Chain, TermsOf, Stage, Operand, InPhrase, ThesArgument, AfterChain, AfterTerms, Factor, Threshold, NearSpan, SumOperand, SumAfter, State, step, start_state, finish}
use Rattle.q_parse.specs.Faults.{Verdict, TooLarge, Found, Fault}

-- whether one operand or operator too many is refused
abbrev pub is_near_lexeme : Lexeme → Bool
is_near_lexeme Near = true
is_near_lexeme l = false

abbrev pub is_comma : Lexeme → Bool
is_comma Comma = true
is_comma l = false

abbrev pub kind_counts : Kind → Lexeme → Bool
kind_counts (InNear ops) l = is_comma l
kind_counts kind l = false

abbrev pub phrase_counts : List Frame → Lexeme → Bool
phrase_counts (Chain ops ∷ fs) l = is_near_lexeme l
phrase_counts (TermsOf kind ps ∷ fs) l = kind_counts kind l
phrase_counts fs l = false

abbrev pub terms_count : List Frame → Lexeme → Bool
terms_count (TermsOf kind ps ∷ fs) l = kind_counts kind l
terms_count fs l = false

abbrev pub wants_count : Stage → List Frame → Lexeme → Bool
wants_count (InPhrase ss) fs l = phrase_counts fs l
wants_count (AfterChain ops) fs l = is_near_lexeme l
wants_count AfterTerms fs l = terms_count fs l
wants_count (SumAfter ps out stack n) fs l = is_sum_sign strict l
wants_count stage fs l = false

-- whether a word of other products is refused in a sum
abbrev pub wants_score : Stage → Lexeme → Bool
wants_score (SumOperand ps out stack n) (Word w) = is_foreign w
wants_score (SumAfter ps out stack n) (Word w) = is_foreign w
wants_score stage l = false

-- whether a word is refused where a number may stand
abbrev pub wants_number : Stage → Lexeme → Bool
wants_number (Factor t) (Word w) = is_plain w
wants_number (Threshold t) (Word w) = is_plain w
wants_number (ThesArgument relation ws) (Word w) = has_level relation && is_plain w
wants_number (NearSpan ops) (Word w) = is_plain w
wants_number (SumOperand ps out stack n) (Word w) = is_plain w
wants_number stage l = false

abbrev pub is_mark : Lexeme → Bool
is_mark Refused = true
is_mark Comma = true
is_mark l = false

abbrev pub cause : Stage → List Frame → Lexeme → Cause
cause stage fs l =
    if wants_count stage fs l then OutOfRange
    else (if is_mark l || wants_score stage l then NotInProfile
    else (if wants_number stage l then OutOfRange else Syntax))

abbrev pub ending : ℕ → Option Tree → Verdict
ending end None = Fault Syntax end
ending end (Some t) = Found t

abbrev pub goes_on : (State → Verdict) → Verdict → Option State → Verdict
goes_on more fault None = fault
goes_on more fault (Some next) = more next

-- The verdict of what is left, where the reader is in this state; the end of the text has the place `end`.
abbrev pub verdict_from : ℕ → State → List Placed → Verdict
verdict_from end s [] = ending end (finish s)
verdict_from end s (p ∷ ps) = goes_on (λ next. verdict_from end next ps) (Fault (cause s.stage s.frames p.lexeme) p.place) (step strict s p.lexeme)

abbrev pub verdict : List ℕ → Verdict
verdict text = if too_large text then TooLarge else verdict_from (byte_count text + 1) start_state (query_lexemes text)

-- computed examples, beside the texts of Examples: a comma is bad as such, but behind an operand of NEAR it is one operand too many
comma_as_such : cause Operand [] Comma ≡ NotInProfile
comma_as_such = refl

operand_too_many : cause (InPhrase []) (TermsOf (InNear []) [] ∷ []) Comma ≡ OutOfRange
operand_too_many = refl
