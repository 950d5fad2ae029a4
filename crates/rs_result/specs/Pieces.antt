-- The pieces between separators.
use Rattle.std.specs.Prelude.{◌≡◌, Bool, true, false, List, [], ◌∷◌, Option, Some, None, refl}
use Rattle.std.specs.Bool.{if◌then◌else◌}
use Rattle.rs_result.specs.declared.lexemes.Lexeme.{Lexeme}
use Rattle.rs_result.specs.declared.lexemes.Lexeme.TheVariants.{Slash, Comma, Number}
use Rattle.rs_result.specs.declared.pieces.Separator.{Separator}
use Rattle.rs_result.specs.declared.pieces.Separator.TheVariants.{Slash as BySlash, Comma as ByComma}
use Rattle.rs_result.specs.Lexemes.{◌>>=◌}

abbrev pub is_separator : Separator → Lexeme → Bool
is_separator BySlash Slash = true
is_separator ByComma Comma = true
is_separator separator l = false

-- the lexeme as the first of the first piece
abbrev pub in_first : {A : Type 0} → A → List (List A) → List (List A)
in_first l [] = (l ∷ []) ∷ []
in_first l (piece ∷ more) = (l ∷ piece) ∷ more

-- the pieces between the separators, one more than there are separators
abbrev pub pieces : Separator → List Lexeme → List (List Lexeme)
pieces separator [] = [] ∷ []
pieces separator (l ∷ ls) = if is_separator separator l then [] ∷ pieces separator ls else in_first l (pieces separator ls)

-- the pieces of what follows a separator, where one follows
abbrev pub pieces_left : Separator → Option (List Lexeme) → List (List Lexeme)
pieces_left separator None = []
pieces_left separator (Some ls) = pieces separator ls

-- what reads a piece; None where it is nothing
abbrev pub PieceReader : Type 0 → Type 0
PieceReader A = List Lexeme → Option A

-- what each piece is; None where one is nothing
abbrev pub items_of : {A : Type 0} → PieceReader A → List (List Lexeme) → Option (List A)
items_of f [] = Some []
items_of f (piece ∷ ps) = f piece >>= λ a. items_of f ps >>= λ more. Some (a ∷ more)

-- computed examples
three : pieces BySlash (Number 1 ∷ Comma ∷ Slash ∷ Slash ∷ Number 2 ∷ []) ≡ (Number 1 ∷ Comma ∷ []) ∷ [] ∷ (Number 2 ∷ []) ∷ []
three = refl

one_without_lexemes : pieces ByComma [] ≡ [] ∷ []
one_without_lexemes = refl
