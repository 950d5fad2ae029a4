-- Values: texts and numbers with a sign, as they are spelt and as they are read.
use Rattle.std.specs.Prelude.{ℕ, ◌≡◌, ◌⊎◌, negsuc, List, [], ◌∷◌, codes, Some, None, refl}
use Rattle.st_parse.specs.declared.lexemes.Symbol.TheVariants.{Minus}
use Rattle.st_parse.specs.declared.lexemes.Lexeme.{Lexeme}
use Rattle.st_parse.specs.declared.lexemes.Lexeme.TheVariants.{Text, Number, Sign}
use Rattle.st_parse.specs.declared.statements.Whole.{Whole}
use Rattle.st_parse.specs.declared.statements.Whole.TheVariants.{Fits}
use Rattle.st_parse.specs.declared.statements.Operand.{Operand}
use Rattle.st_parse.specs.declared.statements.Operand.TheVariants.{Text as TextValue, Number as NumberValue}
use Rattle.st_parse.specs.Lexemes.{◌>>=◌}
use Rattle.st_parse.specs.Numbers.{number, negated}
use Rattle.st_parse.specs.Lists.{Reader}

-- These lexemes are this number, with a minus or without one.
abbrev pub IsSigned : List Lexeme → Whole → Type 0
IsSigned ls n = (digits : List ℕ) × (((n ≡ number digits) × (ls ≡ Number digits ∷ [])) ⊎ ((n ≡ negated digits) × (ls ≡ Sign Minus ∷ Number digits ∷ [])))

abbrev pub IsOperand : List Lexeme → Operand → Type 0
IsOperand ls (TextValue text) = ls ≡ Text text ∷ []
IsOperand ls (NumberValue n) = IsSigned ls n

-- The same as functions.
abbrev pub signed_at : Reader Whole
signed_at (Number digits ∷ ls) = Some (number digits, ls)
signed_at (Sign Minus ∷ Number digits ∷ ls) = Some (negated digits, ls)
signed_at ls = None

abbrev pub operand_at : Reader Operand
operand_at (Text text ∷ ls) = Some (TextValue text, ls)
operand_at ls = signed_at ls >>= λ n. Some (NumberValue n.0, n.1)

-- computed examples
a_text : operand_at (Text (codes "fox") ∷ Sign Minus ∷ []) ≡ Some (TextValue (codes "fox"), Sign Minus ∷ [])
a_text = refl

minus_seven : operand_at (Sign Minus ∷ Number (codes "007") ∷ []) ≡ Some (NumberValue (Fits (negsuc 6)), [])
minus_seven = refl

two_signs : operand_at (Sign Minus ∷ Sign Minus ∷ Number (codes "7") ∷ []) ≡ None
two_signs = refl
