-- Conditions are read as they are spelt.
use Rattle.std.proofs.Common.{◌≡◌, ℕ, List, ◌∷◌, ◌++◌, refl, sym, ap, ◌∙◌, append_assoc, Option, Some, None}
use Rattle.st_parse.specs.declared.lexemes.Keyword.TheVariants.{Between as BETWEEN, In as IN, And as AND}
use Rattle.st_parse.specs.declared.lexemes.Symbol.{Symbol}
use Rattle.st_parse.specs.declared.lexemes.Symbol.TheVariants.{Equal as EqualSign, Less as LessSign, AtMost as AtMostSign, Greater as GreaterSign, AtLeast as AtLeastSign}
use Rattle.st_parse.specs.declared.lexemes.Lexeme.{Lexeme}
use Rattle.st_parse.specs.declared.lexemes.Lexeme.TheVariants.{Word, Name, Sign}
use Rattle.st_parse.specs.declared.statements.Operand.{Operand}
use Rattle.st_parse.specs.declared.statements.Compare.{Compare as Comparison}
use Rattle.st_parse.specs.declared.statements.Compare.TheVariants.{Equal, Less, AtMost, Greater, AtLeast}
use Rattle.st_parse.specs.declared.statements.Cond.{Cond}
use Rattle.st_parse.specs.declared.statements.Cond.TheVariants.{Compare, Between, OneOf}
use Rattle.st_parse.specs.Lexemes.{◌>>=◌}
use Rattle.st_parse.specs.Lists.{AreEnclosed, enclosed}
use Rattle.st_parse.specs.Values.{IsOperand, operand_at}
use Rattle.st_parse.specs.Conditions.{sign_of_comparison, IsCond, comparison_of, compared_at, between_at, cond_at}
use Rattle.st_parse.proofs.Spelt.{Spelt, Follows, enclosed-spelt, enclosed-again}
use Rattle.st_parse.proofs.SpeltValues.{value-spelt, value-again}

-- a value that a sign stands before
compared-spelt : (column : List ℕ) (op : Comparison) (o : Option (Operand × List Lexeme)) (ls : List Lexeme) → Spelt IsOperand o ls
    → Spelt IsCond (o >>= λ value. Some (Compare column op value.0, value.1)) (Name column ∷ Sign (sign_of_comparison op) ∷ ls)
compared-spelt column op None ls is = tt
compared-spelt column op (Some (value, rest)) ls (back, is, e) =
    (Name column ∷ Sign (sign_of_comparison op) ∷ back, (back, is, refl), ap (λ x. Name column ∷ Sign (sign_of_comparison op) ∷ x) e)

comparison-spelt : (column : List ℕ) (sign : Symbol) (ls : List Lexeme)
    → Spelt IsCond (comparison_of sign >>= λ op. compared_at column op ls) (Name column ∷ Sign sign ∷ ls)
comparison-spelt column EqualSign ls = compared-spelt column Equal (operand_at ls) ls (value-spelt ls)
comparison-spelt column LessSign ls = compared-spelt column Less (operand_at ls) ls (value-spelt ls)
comparison-spelt column AtMostSign ls = compared-spelt column AtMost (operand_at ls) ls (value-spelt ls)
comparison-spelt column GreaterSign ls = compared-spelt column Greater (operand_at ls) ls (value-spelt ls)
comparison-spelt column AtLeastSign ls = compared-spelt column AtLeast (operand_at ls) ls (value-spelt ls)
comparison-spelt column sign ls = tt

high-spelt : (column : List ℕ) (low : Operand) (lows ms : List Lexeme) (o : Option (Operand × List Lexeme)) (ls : List Lexeme) → IsOperand lows low
    → ls ≡ lows ++ Word AND ∷ ms → Spelt IsOperand o ms
    → Spelt IsCond (o >>= λ high. Some (Between column low high.0, high.1)) (Name column ∷ Word BETWEEN ∷ ls)
high-spelt column low lows ms None ls is e is' = tt
high-spelt column low lows ms (Some (high, rest)) ls is e (highs, is', e') = (
  Name column ∷ Word BETWEEN ∷ (lows ++ Word AND ∷ highs),
  (lows, highs, is, is', refl),
  ap (λ x. Name column ∷ Word BETWEEN ∷ x) (e ∙ ap (λ x. lows ++ Word AND ∷ x) e' ∙ sym (append_assoc lows (Word AND ∷ highs) rest)),
)

between-spelt : (column : List ℕ) (o : Option (Operand × List Lexeme)) (ls : List Lexeme) → Spelt IsOperand o ls
    → Spelt IsCond (o >>= between_at column) (Name column ∷ Word BETWEEN ∷ ls)
between-spelt column (Some (low, Word AND ∷ ms)) ls (lows, is, e) = high-spelt column low lows ms (operand_at ms) ls is e (value-spelt ms)
between-spelt column o ls is = tt

one_of-spelt : (column : List ℕ) (o : Option (List Operand × List Lexeme)) (ls : List Lexeme) → Spelt (AreEnclosed IsOperand) o ls
    → Spelt IsCond (o >>= λ values. Some (OneOf column values.0, values.1)) (Name column ∷ Word IN ∷ ls)
one_of-spelt column None ls are = tt
one_of-spelt column (Some (values, rest)) ls (list, are, e) = (Name column ∷ Word IN ∷ list, (list, are, refl), ap (λ x. Name column ∷ Word IN ∷ x) e)

pub cond-spelt : (ls : List Lexeme) → Spelt IsCond (cond_at ls) ls
cond-spelt (Name column ∷ Sign sign ∷ ls) = comparison-spelt column sign ls
cond-spelt (Name column ∷ Word BETWEEN ∷ ls) = between-spelt column (operand_at ls) ls (value-spelt ls)
cond-spelt (Name column ∷ Word IN ∷ ls) = one_of-spelt column (enclosed operand_at ls) ls (enclosed-spelt IsOperand operand_at value-spelt ls)
cond-spelt ls = tt

comparison-again : (op : Comparison) → comparison_of (sign_of_comparison op) ≡ Some op
comparison-again Equal = refl
comparison-again Less = refl
comparison-again AtMost = refl
comparison-again Greater = refl
comparison-again AtLeast = refl

pub cond-again : (prefix rest : List Lexeme) (condition : Cond) → IsCond prefix condition → Follows rest → cond_at (prefix ++ rest) ≡ Some (condition, rest)
cond-again prefix rest (Compare column op value) (back, is, e) follows =
    ap (λ x. cond_at (x ++ rest)) e
    ∙ ap (λ o. o >>= λ found. compared_at column found (back ++ rest)) (comparison-again op)
    ∙ ap (λ o. o >>= λ found. Some (Compare column op found.0, found.1)) (value-again back rest value is follows)
cond-again prefix rest (Between column low high) (lows, highs, is, is', e) follows =
    ap (λ x. cond_at (x ++ rest)) e
    ∙ ap (λ x. operand_at x >>= between_at column) (append_assoc lows (Word AND ∷ highs) rest)
    ∙ ap (λ o. o >>= between_at column) (value-again lows (Word AND ∷ (highs ++ rest)) low is tt)
    ∙ ap (λ o. o >>= λ found. Some (Between column low found.0, found.1)) (value-again highs rest high is' follows)
cond-again prefix rest (OneOf column values) (list, are, e) follows =
    ap (λ x. cond_at (x ++ rest)) e
    ∙ ap (λ o. o >>= λ found. Some (OneOf column found.0, found.1)) (enclosed-again IsOperand operand_at value-again list rest values are)
