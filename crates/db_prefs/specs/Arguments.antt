-- The arguments of the procedures that define something for indexes.
use Rattle.std.specs.Prelude.{ℕ, pos, ◌≡◌, Bool, true, false, List, [], ◌∷◌, map, Option, Some, None, codes, refl}
use Rattle.std.specs.Option.{option_map}
use Rattle.std.specs.Char.{to_ascii_lowercase}
use Rattle.st_parse.specs.declared.statements.Arg.{Arg}
use Rattle.st_parse.specs.declared.statements.Arg.TheVariants.{Text, Number, Flag}
use Rattle.st_parse.specs.declared.statements.Whole.TheVariants.{Fits}
use Rattle.db_call.specs.Arguments.{argument_text}

-- the text at a place of the arguments in ASCII lower case, as tags are kept
abbrev pub lower_at : ℕ → List Arg → Option (List ℕ)
lower_at place args = option_map (map to_ascii_lowercase) (argument_text place args)

-- whether they are three texts and a truth value
abbrev pub are_texts_and_flag : List Arg → Bool
are_texts_and_flag (Text a ∷ Text b ∷ Text c ∷ Flag d ∷ []) = true
are_texts_and_flag args = false

-- whether the fourth argument is TRUE
abbrev pub is_flagged : List Arg → Bool
is_flagged (a ∷ b ∷ c ∷ Flag d ∷ args) = d
is_flagged args = false

-- computed examples
a_tag : lower_at 1 (Text (codes "g") ∷ Text (codes "H1") ∷ []) ≡ Some (codes "h1")
a_tag = refl

no_text : lower_at 1 (Text (codes "g") ∷ Number (Fits (pos 1)) ∷ []) ≡ None
no_text = refl

a_visible_field : is_flagged (Text (codes "g") ∷ Text (codes "f") ∷ Text (codes "t") ∷ Flag true ∷ []) ≡ true
a_visible_field = refl

no_flag : are_texts_and_flag (Text (codes "g") ∷ Text (codes "f") ∷ Text (codes "t") ∷ Text (codes "TRUE") ∷ []) ≡ false
no_flag = refl
