-- What CTX_DOC.POLICY_TOKENS does: its arguments are a text, or the name of a lexer preference and a text.
use Rattle.std.specs.Prelude.{ℕ, pos, ◌-◌, nat_lt, Bool, true, false, is_some, List, [], ◌∷◌, length, map, Option, Some, None, codes, ◌≡◌, refl, replicate}
use Rattle.std.specs.Bool.{if◌then◌else◌}
use Rattle.std.specs.Option.{option_and_then}
use Rattle.std.specs.Str.{chars}
use Rattle.std.specs.FinMap.{get, get-empty}
use Rattle.std.specs.Ordering.{nat_cmp}
use Rattle.std.specs.Cmp.Lexicographic.{slice_cmp}
use Rattle.std.proofs.Common.{ap}
use Rattle.ct_base.specs.declared.lists.Value.{Value}
use Rattle.ct_base.specs.declared.lists.Value.TheVariants.{Number, Text}
use Rattle.tx_lexer.specs.declared.tokens.Token.{Token}
use Rattle.tx_lexer.specs.Tokens.{tokens, rules}
use Rattle.tx_settings.specs.declared.attributes.Setting.{Setting}
use Rattle.tx_settings.specs.Attributes.{options_of}
use Rattle.tx_prefs.specs.declared.kinds.PrefKind.TheVariants.{Lexer}
use Rattle.tx_prefs.specs.Preferences.{Preferences}
use Rattle.tx_prefs.specs.Requests.{unknown_or}
use Rattle.st_parse.specs.declared.statements.Arg.{Arg}
use Rattle.st_parse.specs.declared.statements.Arg.TheVariants.{Text as TextArg, Number as NumberArg, Flag}
use Rattle.st_parse.specs.declared.statements.Whole.TheVariants.{Fits}
use Rattle.ct_base.specs.Limits.{text_limit}
use Rattle.db_call.specs.Arguments.{are_texts, argument_name, argument_text}
use Rattle.db_cond.specs.Faults.{UnknownName, WrongValues, ValueTooLong, BadValue}
use Rattle.db_cond.specs.Lines.{line}
use Rattle.db_state.specs.States.{StoreState, empty_state}
use Rattle.db_state.specs.Effects.{Effect, Refused, Does, refuse, refuse_by, with_found}
use Rattle.std.specs.Fmt.{digits}
use Rattle.db_state.specs.Lines.{lines_or_none}

-- ---- the lines

-- the line of a token: its key, the place of its first byte, and how many bytes of the text it has
abbrev pub token_line : Token → List Value
token_line t = Text t.key ∷ Number (pos t.start) ∷ Number (pos (t.end - t.start)) ∷ []

-- a line for each token of a text, by the options that settings make
abbrev pub token_lines : List Setting → List ℕ → List ℕ
token_lines settings text = lines_or_none (map token_line (tokens (rules (options_of settings)) (chars text)))

-- ---- the arguments

-- With fewer than two arguments no preference is named, and none is read.
abbrev pub reads_no_preference : List Arg → Bool
reads_no_preference args = nat_lt (length args) 2

-- the name of a lexer preference, where there are at least two arguments and the first is a text that spells a name
abbrev pub lexer_name : List Arg → Option (List ℕ)
lexer_name args = if reads_no_preference args then None else argument_name 0 args

-- the text whose tokens are asked for, where the arguments are one text or two
abbrev pub text_asked : List Arg → Option (List ℕ)
text_asked args = if are_texts 1 args then argument_text 0 args else (if are_texts 2 args then argument_text 1 args else None)

-- ---- what they mean

-- the name, where no lexer preference has it
abbrev pub unknown_lexer : Preferences → Option (List ℕ) → Option (List ℕ)
unknown_lexer ps name = unknown_or None Lexer name ps

-- The settings of the preference that is named; where none may be named, no settings, which is the default. None where the first of two arguments spells no name, or no preference has it.
abbrev pub settings_asked : Preferences → List Arg → Option (List Setting)
settings_asked ps args = if reads_no_preference args then Some [] else option_and_then (get ps.lexers) (argument_name 0 args)

-- What follows where no name is unknown: the arguments are one text or two, the text isn't too long, and there are settings, which are missing where the name is badly spelt.
abbrev pub tokens_asked : StoreState → Option (List Setting) → List Arg → Effect
tokens_asked m settings args =
    with_found (text_asked args) WrongValues (λ text.
    refuse (nat_lt text_limit (length text)) ValueTooLong
    (with_found settings BadValue (λ settings.
    Does m (token_lines settings text))))

abbrev pub policy_tokens : StoreState → List Arg → Effect
policy_tokens m args = refuse_by (unknown_lexer m.preferences (lexer_name args)) UnknownName (tokens_asked m (settings_asked m.preferences args) args)

-- ---- computed examples

-- the word `site` of `Web-site`: its key, its place and its length
site : line (token_line (record { key = codes "site"; start = 4; end = 8; ends_sentence = false; ends_paragraph = false })) ≡ codes "site|4|4\n"
unfolding digits
site = refl

-- one text, by the defaults
a_text : (m : StoreState) → policy_tokens m (TextArg (codes "Web-site") ∷ []) ≡ Does m (token_lines [] (codes "Web-site"))
a_text m = refl

-- two texts, by the settings of the preference that the first one names
by_settings : (m : StoreState) (settings : List Setting) → tokens_asked m (Some settings) (TextArg (codes "LX") ∷ TextArg (codes "Web-site") ∷ []) ≡ Does m (token_lines settings (codes "Web-site"))
by_settings m settings = refl

the_name : lexer_name (TextArg (codes "LX") ∷ TextArg (codes "Web-site") ∷ []) ≡ Some (codes "lx")
the_name = refl

no_argument : (m : StoreState) → policy_tokens m [] ≡ Refused WrongValues
no_argument m = refl

a_number : (m : StoreState) → policy_tokens m (NumberArg (Fits (pos 1)) ∷ []) ≡ Refused WrongValues
a_number m = refl

text_too_long : (m : StoreState) → policy_tokens m (TextArg (replicate 4001 0x61) ∷ []) ≡ Refused ValueTooLong
text_too_long m = refl

badly_spelt : (m : StoreState) → policy_tokens m (TextArg (codes "no name") ∷ TextArg (codes "a") ∷ []) ≡ Refused BadValue
badly_spelt m = refl

-- a long text comes before a name that is badly spelt, and the number of arguments before both
too_long_first : (m : StoreState) → policy_tokens m (TextArg (codes "no name") ∷ TextArg (replicate 4001 0x61) ∷ []) ≡ Refused ValueTooLong
too_long_first m = refl

wrong_first : (m : StoreState) → policy_tokens m (TextArg (codes "no name") ∷ TextArg (replicate 4001 0x61) ∷ Flag true ∷ []) ≡ Refused WrongValues
wrong_first m = refl

-- a new store has no preference; and an unknown name comes before a wrong number of arguments
unknown_first : policy_tokens empty_state (TextArg (codes "LX") ∷ NumberArg (Fits (pos 1)) ∷ NumberArg (Fits (pos 2)) ∷ []) ≡ Refused (UnknownName (codes "lx"))
unknown_first =
    ap (λ (o : Option (List Setting)). refuse_by (if is_some o then None else Some (codes "lx")) UnknownName (tokens_asked empty_state o (TextArg (codes "LX") ∷ NumberArg (Fits (pos 1)) ∷ NumberArg (Fits (pos 2)) ∷ [])))
    (get-empty (slice_cmp nat_cmp) (codes "lx"))
