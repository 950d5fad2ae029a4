-- The arguments of a procedure: the texts among them, and the names and words that these spell.
use Rattle.std.specs.Prelude.{ℕ, zero, suc, pos, ◌≡◌, ◌==◌, ◌&&◌, Bool, true, false, List, [], ◌∷◌, length, map, Option, Some, None, codes, refl}
use Rattle.std.specs.Bool.{if◌then◌else◌}
use Rattle.std.specs.List.{list_all}
use Rattle.std.specs.Option.{option_and_then}
use Rattle.std.specs.Char.{to_ascii_lowercase}
use Rattle.ct_base.specs.Names.{is_spelling}
use Rattle.tx_settings.specs.Attributes.{is_spelt}
use Rattle.st_parse.specs.declared.statements.Arg.{Arg}
use Rattle.st_parse.specs.declared.statements.Arg.TheVariants.{Text, Number, Flag}
use Rattle.st_parse.specs.declared.statements.Whole.TheVariants.{Fits}

-- the name that a text spells, in lower case
abbrev pub spelt_name : List ℕ → Option (List ℕ)
spelt_name text = if is_spelling text then Some (map to_ascii_lowercase text) else None

-- the text that an argument is, if it is one
abbrev pub text_of : Arg → Option (List ℕ)
text_of (Text text) = Some text
text_of (Number n) = None
text_of (Flag b) = None

-- the text at a place, counted from 0
abbrev pub argument_text : ℕ → List Arg → Option (List ℕ)
argument_text place [] = None
argument_text zero (arg ∷ args) = text_of arg
argument_text (suc place) (arg ∷ args) = argument_text place args

-- the name that it spells
abbrev pub argument_name : ℕ → List Arg → Option (List ℕ)
argument_name place args = option_and_then spelt_name (argument_text place args)

abbrev pub is_text_argument : Arg → Bool
is_text_argument (Text text) = true
is_text_argument (Number n) = false
is_text_argument (Flag b) = false

-- whether there are so many arguments, and each is a text
abbrev pub are_texts : ℕ → List Arg → Bool
are_texts count args = (length args == count) && list_all is_text_argument args

-- whether there is a text, and it is this word, which is given in lower case, in any ASCII case
abbrev pub spells_word : List ℕ → Option (List ℕ) → Bool
spells_word word None = false
spells_word word (Some text) = is_spelt word text

-- computed examples
the_second : argument_name 1 (Text (codes "g") ∷ Text (codes "Title") ∷ Number (Fits (pos 1)) ∷ []) ≡ Some (codes "title")
the_second = refl

no_name : argument_name 0 (Text (codes "no name") ∷ []) ≡ None
no_name = refl

a_number : argument_text 1 (Text (codes "g") ∷ Number (Fits (pos 1)) ∷ []) ≡ None
a_number = refl

none_there : argument_text 2 (Text (codes "g") ∷ Text (codes "title") ∷ []) ≡ None
none_there = refl

two_texts : are_texts 2 (Text (codes "a") ∷ Text (codes "b") ∷ []) ≡ true
two_texts = refl

one_more : are_texts 1 (Text (codes "a") ∷ Text (codes "b") ∷ []) ≡ false
one_more = refl

a_flag_among_them : are_texts 2 (Text (codes "a") ∷ Flag true ∷ []) ≡ false
a_flag_among_them = refl

in_any_case : spells_word (codes "basic_lexer") (Some (codes "Basic_Lexer")) ≡ true
in_any_case = refl
