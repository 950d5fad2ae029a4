-- How arguments are read, one after the other. What they ask for is defined in `Arguments.antt`.
use Rattle.std.specs.Prelude.{ℕ, ◌≡◌, ◌==◌, List, [], ◌∷◌, codes, Option, Some, None, option_and_then, is_none, refl}
use Rattle.std.specs.Bool.{if◌then◌else◌}
use Rattle.std.specs.Option.{option_map}
use Rattle.std.specs.Str.{bytes_eq}
use Rattle.db_arguments.specs.Arguments.{Part, File, Limit, Degree, Rows, OptionName, LimitOption, DegreeOption, GenerateOption, part_of, is_part, is_option_like}
use Rattle.db_arguments.specs.declared.parsing.Given.{Given}

-- the text that was given to each part
abbrev pub Values : Type 0
Values = Part → Option (List ℕ)

-- before the first argument
abbrev pub nothing_given : Values
nothing_given part = None

-- what the next argument is
pub data Next : Type 0 where
  -- a FILE, an option or the `--`
  Any : Next
  -- the value of this option
  Value : OptionName → Next
  -- a FILE, whatever it looks like
  Trailing : Next

-- with a text for this part
abbrev pub with_text : Values → Part → List ℕ → Values
with_text v part text other = if is_part other part then Some text else v other

-- the same; None where the part has one already
abbrev pub put : Values → Part → List ℕ → Option Values
put v part text = if is_none (v part) then Some (with_text v part text) else None

-- what follows these bytes in a text that begins with them
abbrev pub after_prefix : List ℕ → List ℕ → Option (List ℕ)
after_prefix [] text = Some text
after_prefix (p ∷ ps) [] = None
after_prefix (p ∷ ps) (b ∷ bs) = if b == p then after_prefix ps bs else None

-- an option, with the value that is joined to it
abbrev pub Met : Type 0
Met = OptionName × Option (List ℕ)

abbrev pub joined_to : OptionName → Option (List ℕ) → Option Met → Option Met
joined_to option (Some value) other = Some (option, Some value)
joined_to option None other = other

-- the option that an argument is
abbrev pub met_by : List ℕ → Option Met
met_by argument =
    if bytes_eq argument (codes "--limit") then Some (LimitOption, None)
    else (if bytes_eq argument (codes "--degree") then Some (DegreeOption, None)
    else (if bytes_eq argument (codes "--generate") then Some (GenerateOption, None)
    else joined_to LimitOption (after_prefix (codes "--limit=") argument) (joined_to DegreeOption (after_prefix (codes "--degree=") argument) (joined_to GenerateOption (after_prefix (codes "--generate=") argument) None))))

-- what was given, and what comes next
abbrev pub Stage : Type 0
Stage = Values × Next

abbrev pub stage_by : Next → Option Values → Option Stage
stage_by next given = option_map (λ (v : Values). (v, next)) given

-- with an option
abbrev pub with_option : Values → Option Met → Option Stage
with_option v None = None
with_option v (Some (option, None)) = Some (v, Value option)
with_option v (Some (option, Some value)) = stage_by Any (put v (part_of option) value)

-- with an argument that looks like an option
abbrev pub with_dashes : Values → List ℕ → Option Stage
with_dashes v argument = if bytes_eq argument (codes "--") then Some (v, Trailing) else with_option v (met_by argument)

-- with one argument more
abbrev pub gather : Values → Next → List ℕ → Option Stage
gather v Any argument = if is_option_like argument then with_dashes v argument else stage_by Any (put v File argument)
gather v (Value option) argument = if is_option_like argument then None else stage_by Any (put v (part_of option) argument)
gather v Trailing argument = stage_by Trailing (put v File argument)

-- what was given where no argument follows; None where an option has no value
abbrev pub ended : Values → Next → Option Values
ended v Any = Some v
ended v (Value option) = None
ended v Trailing = Some v

-- what is given in all, where these arguments follow
abbrev pub gathers : Values → Next → List (List ℕ) → Option Values
gathers v next [] = ended v next
gathers v next (argument ∷ others) = option_and_then (λ (s : Stage). gathers s.0 s.1 others) (gather v next argument)

-- what all these arguments give
abbrev pub all_given : List (List ℕ) → Option Values
all_given arguments = gathers nothing_given Any arguments

-- These arguments give these texts, or nothing is given by them.
pub record IsGiven (arguments : List (List ℕ)) (given : Given) : Type 0 where
  pub values : Values
  pub are : all_given arguments ≡ Some values
  pub file : option_map (λ f. f.now) given.file ≡ values File
  pub limit : option_map (λ l. l.now) given.limit ≡ values Limit
  pub degree : option_map (λ d. d.now) given.degree ≡ values Degree
  pub rows : option_map (λ r. r.now) given.rows ≡ values Rows

abbrev pub AreGathered : List (List ℕ) → Option Given → Type 0
AreGathered arguments None = all_given arguments ≡ None
AreGathered arguments (Some given) = IsGiven arguments given

-- ---- computed examples

option_then_file : option_and_then (λ (v : Values). v Limit) (all_given (codes "--limit" ∷ codes "4096" ∷ codes "a" ∷ [])) ≡ Some (codes "4096")
option_then_file = refl

two_options : option_and_then (λ (v : Values). v Degree) (all_given (codes "--degree=4" ∷ codes "a" ∷ codes "--limit" ∷ codes "4096" ∷ [])) ≡ Some (codes "4")
two_options = refl

no_dashes_after_dashes : option_and_then (λ (v : Values). v File) (all_given (codes "--" ∷ codes "--" ∷ [])) ≡ Some (codes "--")
no_dashes_after_dashes = refl

an_option_is_no_value : all_given (codes "--limit" ∷ codes "--generate" ∷ codes "8" ∷ []) ≡ None
an_option_is_no_value = refl
