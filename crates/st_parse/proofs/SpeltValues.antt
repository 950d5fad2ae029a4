-- Values are read as they are spelt.
use Rattle.std.proofs.Common.{◌≡◌, List, [], ◌∷◌, ◌++◌, refl, sym, ap, ◌∙◌, inl, inr, Option, Some, None}
use Rattle.st_parse.specs.declared.lexemes.Symbol.TheVariants.{Minus}
use Rattle.st_parse.specs.declared.lexemes.Lexeme.{Lexeme}
use Rattle.st_parse.specs.declared.lexemes.Lexeme.TheVariants.{Text, Number, Sign}
use Rattle.st_parse.specs.declared.statements.Whole.{Whole}
use Rattle.st_parse.specs.declared.statements.Operand.{Operand}
use Rattle.st_parse.specs.declared.statements.Operand.TheVariants.{Text as TextValue, Number as NumberValue}
use Rattle.st_parse.specs.Lexemes.{◌>>=◌}
use Rattle.st_parse.specs.Values.{IsSigned, IsOperand, signed_at, operand_at}
use Rattle.st_parse.proofs.Spelt.{Spelt, Follows}

pub signed-spelt : (ls : List Lexeme) → Spelt IsSigned (signed_at ls) ls
signed-spelt (Number digits ∷ ls) = (Number digits ∷ [], (digits, inl (refl, refl)), refl)
signed-spelt (Sign Minus ∷ Number digits ∷ ls) = (Sign Minus ∷ Number digits ∷ [], (digits, inr (refl, refl)), refl)
signed-spelt ls = tt

pub signed-again : (prefix rest : List Lexeme) (n : Whole) → IsSigned prefix n → signed_at (prefix ++ rest) ≡ Some (n, rest)
signed-again prefix rest n (digits, inl (value, e)) = ap (λ x. signed_at (x ++ rest)) e ∙ ap (λ x. Some (x, rest)) (sym value)
signed-again prefix rest n (digits, inr (value, e)) = ap (λ x. signed_at (x ++ rest)) e ∙ ap (λ x. Some (x, rest)) (sym value)

number-spelt : (o : Option (Whole × List Lexeme)) (ls : List Lexeme) → Spelt IsSigned o ls → Spelt IsOperand (o >>= λ n. Some (NumberValue n.0, n.1)) ls
number-spelt None ls is = tt
number-spelt (Some (n, rest)) ls is = is

pub value-spelt : (ls : List Lexeme) → Spelt IsOperand (operand_at ls) ls
value-spelt (Text text ∷ ls) = (Text text ∷ [], refl, refl)
value-spelt ls = number-spelt (signed_at ls) ls (signed-spelt ls)

pub value-again : (prefix rest : List Lexeme) (value : Operand) → IsOperand prefix value → Follows rest → operand_at (prefix ++ rest) ≡ Some (value, rest)
value-again prefix rest (TextValue text) e follows = ap (λ x. operand_at (x ++ rest)) e
value-again prefix rest (NumberValue n) (digits, inl (value, e)) follows = ap (λ x. operand_at (x ++ rest)) e ∙ ap (λ x. Some (NumberValue x, rest)) (sym value)
value-again prefix rest (NumberValue n) (digits, inr (value, e)) follows = ap (λ x. operand_at (x ++ rest)) e ∙ ap (λ x. Some (NumberValue x, rest)) (sym value)
