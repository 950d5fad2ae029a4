-- The effect of POLICY_TOKENS by what was read.
use Rattle.std.proofs.Common.{◌≡◌, ℕ, Bool, true, false, List, [], Option, Some, None, refl, sym, ap, ◌∙◌}
use Rattle.std.specs.Prelude.{is_some, length, nat_lt}
use Rattle.std.specs.Bool.{if◌then◌else◌}
use Rattle.std.specs.Option.{option_and_then}
use Rattle.std.specs.FinMap.{get}
use Rattle.ct_base.specs.Limits.{text_limit}
use Rattle.tx_settings.specs.declared.attributes.Setting.{Setting}
use Rattle.st_parse.specs.declared.statements.Arg.{Arg}
use Rattle.db_call.specs.Arguments.{argument_name}
use Rattle.db_cond.specs.Faults.{UnknownName, WrongValues, ValueTooLong, BadValue}
use Rattle.db_state.specs.States.{StoreState}
use Rattle.db_state.specs.Effects.{Effect, Refused, Does, OnlyLooks, refuse_by}
use Rattle.db_state.specs.laws.OnlyLooking.{only_looks_by, only_looks_found, only_looks_unless}
use Rattle.db_index.specs.Tokenizing.{lexer_name, policy_tokens, reads_no_preference, settings_asked, text_asked, token_lines, tokens_asked, unknown_lexer}

-- ---- the preference

pub by_default : (m : StoreState) (args : List Arg) → reads_no_preference args ≡ true → policy_tokens m args ≡ tokens_asked m (Some []) args
by_default m args few =
    ap (λ (b : Bool). refuse_by (unknown_lexer m.preferences (if b then None else argument_name 0 args)) UnknownName (tokens_asked m (if b then Some [] else option_and_then (get m.preferences.lexers) (argument_name 0 args)) args)) few

module _ (m : StoreState) (args : List Arg) (more : reads_no_preference args ≡ false) where
  abbrev by_name : Option (List ℕ) → Effect
  by_name name = refuse_by (unknown_lexer m.preferences name) UnknownName (tokens_asked m (option_and_then (get m.preferences.lexers) name) args)

  named : (name : Option (List ℕ)) → name ≡ argument_name 0 args → policy_tokens m args ≡ by_name name
  named name is =
      ap (λ (b : Bool). refuse_by (unknown_lexer m.preferences (if b then None else argument_name 0 args)) UnknownName (tokens_asked m (if b then Some [] else option_and_then (get m.preferences.lexers) (argument_name 0 args)) args)) more
      ∙ ap by_name (sym is)

  pub badly_named : None ≡ argument_name 0 args → policy_tokens m args ≡ tokens_asked m None args
  badly_named is = named None is

  abbrev by_settings : List ℕ → Option (List Setting) → Effect
  by_settings name settings = refuse_by (if is_some settings then None else Some name) UnknownName (tokens_asked m settings args)

  pub lexer_unknown : (name : List ℕ) → Some name ≡ argument_name 0 args → None ≡ get m.preferences.lexers name → policy_tokens m args ≡ Refused (UnknownName name)
  lexer_unknown name is none = named (Some name) is ∙ ap (by_settings name) (sym none)

  pub lexer_known : (name : List ℕ) (settings : List Setting) → Some name ≡ argument_name 0 args → Some settings ≡ get m.preferences.lexers name → policy_tokens m args ≡ tokens_asked m (Some settings) args
  lexer_known name settings is some = named (Some name) is ∙ ap (by_settings name) (sym some)

-- ---- it only looks

pub tokens_only_look : (m : StoreState) (args : List Arg) → OnlyLooks m (policy_tokens m args)
tokens_only_look m args =
    only_looks_unless m (unknown_lexer m.preferences (lexer_name args)) UnknownName _
    (only_looks_found m (text_asked args) WrongValues _ (λ text.
    only_looks_by m (nat_lt text_limit (length text)) ValueTooLong _
    (only_looks_found m (settings_asked m.preferences args) BadValue (λ settings. Does m (token_lines settings text)) (λ settings. refl))))
