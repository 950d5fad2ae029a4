-- The command's form, as the crate clap sees it.
use Rattle.std.specs.Prelude.{◌≡◌, true, [], ◌∷◌, Some, codes, refl}
use Rattle.clap.specs.Walk.{Rule, Text}
use Rattle.clap.specs.Simple.{App, new_app, new_rule, on_top, with_rule}
use Rattle.clap.specs.Faults.{fault_of}
use Rattle.clap.specs.declared.builder.action.ArgAction.TheVariants.{Set}
use Rattle.clap.specs.declared.error.kind.ErrorKind.TheVariants.{ArgumentConflict, UnknownArgument}
use Rattle.clap.proofs.OnLiterals.{clap_on_literals}

-- an option of this name, which takes one value
abbrev pub option_arg : Text → Rule
option_arg name = record (new_rule name) { long = Some name; action = Some Set }

abbrev pub limit_arg : Rule
limit_arg = option_arg (codes "limit")

abbrev pub degree_arg : Rule
degree_arg = option_arg (codes "degree")

abbrev pub generate_arg : Rule
generate_arg = option_arg (codes "generate")

abbrev pub file_arg : Rule
file_arg = new_rule (codes "file")

-- a command that is given its arguments without its own name before them, and has no option for help
abbrev pub bare : App
bare = on_top (λ s. record s { no_binary_name = true; disable_help_flag = true }) (new_app (codes "ctxsql"))

-- three options and a FILE
abbrev pub app : App
app = with_rule (with_rule (with_rule (with_rule bare limit_arg) degree_arg) generate_arg) file_arg

-- computed examples: what is taken, a second FILE, an option twice, and help
a_store : fault_of app (codes "--limit" ∷ codes "5000" ∷ codes "a.db" ∷ []) ≡ []
unfolding clap_on_literals
a_store = refl

two_files : fault_of app (codes "a" ∷ codes "--" ∷ codes "b" ∷ []) ≡ UnknownArgument ∷ []
unfolding clap_on_literals
two_files = refl

option_twice : fault_of app (codes "--limit=5000" ∷ codes "--limit" ∷ codes "5000" ∷ []) ≡ ArgumentConflict ∷ []
unfolding clap_on_literals
option_twice = refl

no_help : fault_of app (codes "--help" ∷ []) ≡ UnknownArgument ∷ []
unfolding clap_on_literals
no_help = refl
