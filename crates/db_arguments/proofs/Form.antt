-- The command's form as clap has it, and what clap makes of one argument.
use Rattle.std.proofs.Common.{ℕ, ◌≡◌, ◌≢◌, ◌==◌, Bool, true, false, cond, zero, suc, List, [], ◌∷◌, ◌++◌, length, Option, Some, None, codes, refl, sym, ap, ap₂, ◌∙◌, subst, arith, append-nil, eqb-true, true≢false, inl, inr, ◌⊎◌}
use Rattle.std.specs.Prelude.{slice_get, Result, Ok, Err, IfOk, IfErr}
use Rattle.std.specs.Str.{bytes_eq, chars, encode_utf8_all}
use Rattle.std.specs.Option.{option_map_or}
use Rattle.std.proofs.lemmas.Bool.Decides.{nat_tests}
use Rattle.std.proofs.lemmas.Option.{none-some}
use lib.Utf8.{encode}
use Rattle.std.proofs.lemmas.Slice.Eq.{bytes_eq-Decides}
use Rattle.clap.specs.Lexer.{long_of, short_of, name_and_value}
use Rattle.clap.specs.Walk.{Rule, Text, Held, Row, arg_by_id, arg_by_long}
use Rattle.clap.specs.Simple.{App, HasMatchesOf, Shape, app_of, app_of_fields, new_app, on_top, with_rule, with_index, filled, built, is_simple, matches_of}
use Rattle.clap.specs.Words.{found_of, kind_of, rows_of}
use Rattle.clap.specs.declared.builder.command.Command.{Command}
use Rattle.clap.specs.declared.builder.command.Command.TheViews.{out-Command as fields_of}
use Rattle.clap.specs.declared.builder.command.Command.TheOpen.{Command-F}
use Rattle.clap.specs.declared.error.Error.{Error}
use Rattle.clap.specs.declared.error.kind.ErrorKind.TheVariants.{OutOfMemory}
use Rattle.clap.specs.declared.parser.matches.ArgMatches.{ArgMatches}
use Rattle.clap.specs.Kinds.{FailsBy, IsAmong, Kinds, or_else}
use Rattle.clap.specs.Faults.{bundle_fault, flag_word_fault, fault_of, flags_fault, long_fault, is_simple_and_free}
use Rattle.clap.proofs.CutLemmas.{Lacks}
use Rattle.clap.proofs.LexerLemmas.{name_and_value-at, name_and_value-without}
use Rattle.db_arguments.specs.Arguments.{Part, File, Limit, Degree, Rows, OptionName, LimitOption, DegreeOption, GenerateOption, spelling, part_of, is_option_like}
use Rattle.db_arguments.specs.Form.{app, bare, degree_arg, file_arg, generate_arg, limit_arg}
use Rattle.db_arguments.specs.Gathering.{met_by, after_prefix}

-- ---- the command

-- the rules as clap fills them in
abbrev pub rule : Part → Rule
rule File = with_index 1 (filled file_arg)
rule Limit = filled limit_arg
rule Degree = filled degree_arg
rule Rows = filled generate_arg

abbrev pub form : List Rule
form = rule Limit ∷ rule Degree ∷ rule Rows ∷ rule File ∷ []

abbrev pub shape : Shape
shape = (built app).top

pub form_is : shape.rules ≡ form
form_is = refl

pub is_plain_form : is_simple_and_free app ≡ true
is_plain_form = refl

pub simple_form : is_simple app ≡ true
simple_form = refl

abbrev pub id : Part → Text
id File = codes "file"
id Limit = codes "limit"
id Degree = codes "degree"
id Rows = codes "generate"

pub by_id : (part : Part) → arg_by_id form (id part) ≡ Some (rule part)
by_id File = refl
by_id Limit = refl
by_id Degree = refl
by_id Rows = refl

-- ---- faults

abbrev pub IsFault : Kinds → Type 0
IsFault [] = ⊥
IsFault (k ∷ ks) = Unit {0}

pub fault_first : (a b : Kinds) → IsFault a → IsFault (or_else a b)
fault_first [] b is = absurd is
fault_first (k ∷ ks) b is = tt

pub fault_second : (a b : Kinds) → IsFault b → IsFault (or_else a b)
fault_second [] b is = is
fault_second (k ∷ ks) b is = tt

-- ---- what an argument looks like

lacks_nothing : Lacks 61 []
lacks_nothing i lt = absurd (omega arith)

lacks_more : (x : ℕ) (xs : List ℕ) → x ≢ 61 → Lacks 61 xs → Lacks 61 (x ∷ xs)
lacks_more x xs other lacks zero lt = other
lacks_more x xs other lacks (suc i) lt = lacks i (omega (arith, lt))

pub record HasEquals (text : List ℕ) : Type 0 where
  pub first : List ℕ
  pub later : List ℕ
  pub lacks : Lacks 61 first
  pub is : text ≡ first ++ 61 ∷ later

-- a text has a first `=`, or none
equals_in : (text : List ℕ) → Lacks 61 text ⊎ HasEquals text
equals_in [] = inl lacks_nothing
equals_in (x ∷ xs) = go (x == 61) refl (equals_in xs)
  where
    later : x ≢ 61 → Lacks 61 xs ⊎ HasEquals xs → Lacks 61 (x ∷ xs) ⊎ HasEquals (x ∷ xs)
    later other (inl lacks) = inl (lacks_more x xs other lacks)
    later other (inr has) = inr (record { first = x ∷ has.first; later = has.later; lacks = lacks_more x has.first other has.lacks; is = ap (λ (l : List ℕ). x ∷ l) has.is })

    go : (b : Bool) → (x == 61) ≡ b → Lacks 61 xs ⊎ HasEquals xs → Lacks 61 (x ∷ xs) ⊎ HasEquals (x ∷ xs)
    go true same rest = inr (record { first = []; later = xs; lacks = lacks_nothing; is = ap (λ (n : ℕ). n ∷ xs) (eqb-true x 61 same) })
    go false apart rest = later (grind (arith, nat_tests)) rest

-- the rest of a text behind its name
abbrev pub joined_part : Option (List ℕ) → List ℕ
joined_part None = []
joined_part (Some value) = 61 ∷ value

pub record IsSplit (text : List ℕ) : Type 0 where
  pub name : List ℕ
  pub value : Option (List ℕ)
  pub cut : name_and_value text ≡ (name, value)
  pub is : text ≡ name ++ joined_part value

split_of : (text : List ℕ) → IsSplit text
split_of text = go (equals_in text)
  where
    go : Lacks 61 text ⊎ HasEquals text → IsSplit text
    go (inl lacks) = record { name = text; value = None; cut = name_and_value-without text lacks; is = sym (append-nil text) }
    go (inr has) = record { name = has.first; value = Some has.later; cut = ap name_and_value has.is ∙ name_and_value-at has.first has.later has.lacks; is = has.is }

-- an option alone, and one with a value behind `=`
pub long_alone : (option : OptionName) → long_of (spelling option) ≡ Some (id (part_of option), None)
long_alone LimitOption = refl
long_alone DegreeOption = refl
long_alone GenerateOption = refl

pub long_joined : (option : OptionName) (text : List ℕ) → long_of (spelling option ++ 61 ∷ text) ≡ Some (id (part_of option), Some text)
long_joined LimitOption text = refl
long_joined DegreeOption text = refl
long_joined GenerateOption text = refl

pub by_long : (option : OptionName) → arg_by_long form (id (part_of option)) ≡ Some (rule (part_of option))
by_long LimitOption = refl
by_long DegreeOption = refl
by_long GenerateOption = refl

pub met_alone : (option : OptionName) → met_by (spelling option) ≡ Some (option, None)
met_alone LimitOption = refl
met_alone DegreeOption = refl
met_alone GenerateOption = refl

pub met_joined : (option : OptionName) (text : List ℕ) → met_by (spelling option ++ 61 ∷ text) ≡ Some (option, Some text)
met_joined LimitOption text = refl
met_joined DegreeOption text = refl
met_joined GenerateOption text = refl

-- nothing that looks like an option but these is one
abbrev pub nothing_skipped : List Row → Option (Text × List Text) → Held
nothing_skipped rows pending = record { rows = rows; pending = pending; skip = 0 }

-- the argument is no option that the command has
pub record IsUnknown (argument : List ℕ) : Type 0 where
  pub unmet : met_by argument ≡ None
  pub fault : (rows : List Row) (pending : Option (Text × List Text)) → IsFault (flag_word_fault form false (long_of argument) argument (nothing_skipped rows pending))

-- an argument that looks like an option, and isn't `--`
pub data Look (argument : List ℕ) : Type 0 where
  Alone : (option : OptionName) → argument ≡ spelling option → Look argument
  WithValue : (option : OptionName) (text : List ℕ) → argument ≡ spelling option ++ 61 ∷ text → Look argument
  Unknown : IsUnknown argument → Look argument

pub prefix_is : (prefix text rest : List ℕ) → after_prefix prefix text ≡ Some rest → text ≡ prefix ++ rest
prefix_is [] text rest e = cc
prefix_is (p ∷ ps) [] rest e = cc
prefix_is (p ∷ ps) (b ∷ bs) rest e = go (b == p) refl (prefix_is ps bs rest) e
  where
    go : (t : Bool) → (b == p) ≡ t → (after_prefix ps bs ≡ Some rest → bs ≡ ps ++ rest) → cond t (after_prefix ps bs) None ≡ Some rest → b ∷ bs ≡ p ∷ (ps ++ rest)
    go true same more f = let one : b ≡ p = eqb-true b p same in let others : bs ≡ ps ++ rest = more f in cc
    go false same more f = cc

-- the characters of a text spell it
abbrev pub IsSpelt : List ℕ → Type 0
IsSpelt text = encode_utf8_all (chars text) ≡ text

pub record FirstChar (text : List ℕ) : Type 0 where
  pub char : ℕ
  pub is : slice_get (chars text) 0 ≡ Some char

-- what follows a hyphen has a first character
first_char : (c : ℕ) (cs : List ℕ) → IsSpelt (45 ∷ c ∷ cs) → FirstChar (c ∷ cs)
unfolding chars encode
first_char c cs spelt = go (chars (c ∷ cs)) refl
  where
    go : (l : List ℕ) → chars (c ∷ cs) ≡ l → FirstChar (c ∷ cs)
    go [] is = let one : 45 ∷ [] ≡ 45 ∷ c ∷ cs = ap (λ (l : List ℕ). encode_utf8_all (45 ∷ l)) (sym is) ∙ spelt in let counts : 1 ≡ suc (suc (length cs)) = ap length one in absurd (omega (arith, counts))
    go (x ∷ xs) is = record { char = x; is = ap (λ (l : List ℕ). slice_get l 0) is }

module _ (rows : List Row) (pending : Option (Text × List Text)) where
  abbrev held : Held
  held = nothing_skipped rows pending

  -- `-c`
  short_fault_of : (c : ℕ) (cs : List ℕ) (x : ℕ) → slice_get (chars (c ∷ cs)) 0 ≡ Some x → IsFault (flags_fault form false (suc (length cs)) (c ∷ cs) 0 held)
  unfolding flags_fault
  short_fault_of c cs x is = rw is tt

  short_unknown : (c : ℕ) (cs : List ℕ) → (c == 45) ≡ false → IsSpelt (45 ∷ c ∷ cs) → IsFault (flag_word_fault form false (long_of (45 ∷ c ∷ cs)) (45 ∷ c ∷ cs) held)
  short_unknown c cs apart spelt =
      let first = first_char c cs spelt in
      let long : long_of (45 ∷ c ∷ cs) ≡ None = rw apart refl in
      let short : short_of (45 ∷ c ∷ cs) ≡ Some (c ∷ cs) = rw apart refl in
      subst (λ (l : Option (Text × Option Text)). IsFault (flag_word_fault form false l (45 ∷ c ∷ cs) held)) (sym long)
      (subst (λ (s : Option Text). IsFault (option_map_or (λ (flags : Text). bundle_fault form false flags held) s [])) (sym short) (short_fault_of c cs first.char first.is))

  -- `--name`, where no option has the name
  long_unknown : (name : List ℕ) (value : Option (List ℕ)) → bytes_eq (codes "limit") name ≡ false → bytes_eq (codes "degree") name ≡ false → bytes_eq (codes "generate") name ≡ false
      → IsFault (long_fault form false (arg_by_long form name) value held)
  long_unknown name value a d b = rw (a, d, b) tt

named : (option : OptionName) (name : List ℕ) (value : Option (List ℕ)) → id (part_of option) ≡ name → met_by (45 ∷ 45 ∷ (name ++ joined_part value)) ≡ None → ⊥
named option name None same unmet = none-some (option, None) (sym unmet ∙ ap (λ (n : List ℕ). met_by (45 ∷ 45 ∷ (n ++ []))) (sym same) ∙ alone option)
  where
    alone : (option : OptionName) → met_by (45 ∷ 45 ∷ (id (part_of option) ++ [])) ≡ Some (option, None)
    alone LimitOption = refl
    alone DegreeOption = refl
    alone GenerateOption = refl
named option name (Some text) same unmet = none-some (option, Some text) (sym unmet ∙ ap (λ (n : List ℕ). met_by (45 ∷ 45 ∷ (n ++ 61 ∷ text))) (sym same) ∙ joined option)
  where
    joined : (option : OptionName) → met_by (45 ∷ 45 ∷ (id (part_of option) ++ 61 ∷ text)) ≡ Some (option, Some text)
    joined LimitOption = refl
    joined DegreeOption = refl
    joined GenerateOption = refl

unknown_long : (d : ℕ) (ds : List ℕ) → met_by (45 ∷ 45 ∷ d ∷ ds) ≡ None → (rows : List Row) (pending : Option (Text × List Text))
    → IsFault (long_fault form false (arg_by_long form (name_and_value (d ∷ ds)).0) (name_and_value (d ∷ ds)).1 (nothing_skipped rows pending))
unknown_long d ds unmet rows pending =
    let s = split_of (d ∷ ds) in
    let unmet_too : met_by (45 ∷ 45 ∷ (s.name ++ joined_part s.value)) ≡ None = ap (λ (l : List ℕ). met_by (45 ∷ 45 ∷ l)) (sym s.is) ∙ unmet in
    let faulty = go s.name s.value (bytes_eq (codes "limit") s.name) (bytes_eq (codes "degree") s.name) (bytes_eq (codes "generate") s.name) refl refl refl unmet_too in
    subst (λ (p : Text × Option Text). IsFault (long_fault form false (arg_by_long form p.0) p.1 (nothing_skipped rows pending))) (sym s.cut) faulty
  where
    go : (name : List ℕ) (value : Option (List ℕ)) (a c b : Bool) → bytes_eq (codes "limit") name ≡ a → bytes_eq (codes "degree") name ≡ c → bytes_eq (codes "generate") name ≡ b
        → met_by (45 ∷ 45 ∷ (name ++ joined_part value)) ≡ None → IsFault (long_fault form false (arg_by_long form name) value (nothing_skipped rows pending))
    go name value true c b is two three none = absurd (named LimitOption name value ((bytes_eq-Decides (codes "limit") name).0 is) none)
    go name value false true b one is three none = absurd (named DegreeOption name value ((bytes_eq-Decides (codes "degree") name).0 is) none)
    go name value false false true one two is none = absurd (named GenerateOption name value ((bytes_eq-Decides (codes "generate") name).0 is) none)
    go name value false false false one two three none = long_unknown rows pending name value one two three

unknown_fault : (argument : List ℕ) → is_option_like argument ≡ true → bytes_eq argument (codes "--") ≡ false → IsSpelt argument → met_by argument ≡ None
    → (rows : List Row) (pending : Option (Text × List Text)) → IsFault (flag_word_fault form false (long_of argument) argument (nothing_skipped rows pending))
unknown_fault [] like other spelt unmet rows pending = absurd (true≢false (sym like))
unknown_fault (b ∷ []) like other spelt unmet rows pending = absurd (true≢false (sym like))
unknown_fault (b ∷ c ∷ cs) like other spelt unmet rows pending =
    subst (λ (n : ℕ). bytes_eq (n ∷ c ∷ cs) (codes "--") ≡ false → IsSpelt (n ∷ c ∷ cs) → met_by (n ∷ c ∷ cs) ≡ None → IsFault (flag_word_fault form false (long_of (n ∷ c ∷ cs)) (n ∷ c ∷ cs) (nothing_skipped rows pending)))
    (sym (eqb-true b 45 like)) (second (c == 45) refl cs) other spelt unmet
  where
    third : (cs : List ℕ) → bytes_eq (45 ∷ 45 ∷ cs) (codes "--") ≡ false → met_by (45 ∷ 45 ∷ cs) ≡ None
        → IsFault (flag_word_fault form false (long_of (45 ∷ 45 ∷ cs)) (45 ∷ 45 ∷ cs) (nothing_skipped rows pending))
    third [] other unmet = absurd (true≢false other)
    third (d ∷ ds) other unmet = unknown_long d ds unmet rows pending

    second : (same : Bool) → (c == 45) ≡ same → (cs : List ℕ) → bytes_eq (45 ∷ c ∷ cs) (codes "--") ≡ false → IsSpelt (45 ∷ c ∷ cs) → met_by (45 ∷ c ∷ cs) ≡ None
        → IsFault (flag_word_fault form false (long_of (45 ∷ c ∷ cs)) (45 ∷ c ∷ cs) (nothing_skipped rows pending))
    second true same cs other spelt unmet =
        subst (λ (n : ℕ). bytes_eq (45 ∷ n ∷ cs) (codes "--") ≡ false → met_by (45 ∷ n ∷ cs) ≡ None → IsFault (flag_word_fault form false (long_of (45 ∷ n ∷ cs)) (45 ∷ n ∷ cs) (nothing_skipped rows pending)))
        (sym (eqb-true c 45 same)) (third cs) other unmet
    second false apart cs other spelt unmet = short_unknown rows pending c cs apart spelt

pub look_of : (argument : List ℕ) → is_option_like argument ≡ true → bytes_eq argument (codes "--") ≡ false → IsSpelt argument → Look argument
look_of argument like other spelt =
    go (bytes_eq argument (codes "--limit")) (bytes_eq argument (codes "--degree")) (bytes_eq argument (codes "--generate"))
    (after_prefix (codes "--limit=") argument) (after_prefix (codes "--degree=") argument) (after_prefix (codes "--generate=") argument) refl refl refl refl refl refl
  where
    go : (a d b : Bool) (o n p : Option (List ℕ)) → bytes_eq argument (codes "--limit") ≡ a → bytes_eq argument (codes "--degree") ≡ d → bytes_eq argument (codes "--generate") ≡ b
        → after_prefix (codes "--limit=") argument ≡ o → after_prefix (codes "--degree=") argument ≡ n → after_prefix (codes "--generate=") argument ≡ p → Look argument
    go true d b o n p ea ed eb eo en ep = Alone LimitOption ((bytes_eq-Decides argument (codes "--limit")).0 ea)
    go false true b o n p ea ed eb eo en ep = Alone DegreeOption ((bytes_eq-Decides argument (codes "--degree")).0 ed)
    go false false true o n p ea ed eb eo en ep = Alone GenerateOption ((bytes_eq-Decides argument (codes "--generate")).0 eb)
    go false false false (Some text) n p ea ed eb eo en ep = WithValue LimitOption text (prefix_is (codes "--limit=") argument text eo)
    go false false false None (Some text) p ea ed eb eo en ep = WithValue DegreeOption text (prefix_is (codes "--degree=") argument text en)
    go false false false None None (Some text) ea ed eb eo en ep = WithValue GenerateOption text (prefix_is (codes "--generate=") argument text ep)
    go false false false None None None ea ed eb eo en ep =
        let unmet : met_by argument ≡ None = rw (ea, ed, eb, eo, en, ep) refl in
        Unknown (record { unmet = unmet; fault = unknown_fault argument like other spelt unmet })

-- an argument that doesn't look like an option is none to clap
pub record IsPlainWord (argument : List ℕ) : Type 0 where
  pub dashes : bytes_eq argument (45 ∷ 45 ∷ []) ≡ false
  pub long : long_of argument ≡ None
  pub short : short_of argument ≡ None

pub plain_word_of : (argument : List ℕ) → is_option_like argument ≡ false → IsPlainWord argument
plain_word_of [] like = record { dashes = refl; long = refl; short = refl }
plain_word_of (b ∷ []) like = go (b == 45) refl
  where
    go : (same : Bool) → (b == 45) ≡ same → IsPlainWord (b ∷ [])
    go true same = record { dashes = rw same refl; long = rw same refl; short = rw same refl }
    go false apart = record { dashes = rw apart refl; long = rw apart refl; short = rw apart refl }
plain_word_of (b ∷ c ∷ cs) like = record { dashes = rw like refl; long = rw like refl; short = rw like refl }

-- ---- the command that the code makes

pub bare_of : (given plain named : Command) → fields_of named ≡ record (fields_of given) { no_binary_name = true } → fields_of plain ≡ record (fields_of named) { disable_help_flag = true }
    → app_of given ≡ new_app (codes "ctxsql") → app_of plain ≡ bare
bare_of given plain named first second new =
    ap app_of_fields second ∙ ap (λ (f : Command-F Command). app_of_fields (record f { disable_help_flag = true })) first
    ∙ ap (on_top (λ (s : Shape). record s { no_binary_name = true; disable_help_flag = true })) new

pub app_is : (plain first second third whole : App) (limit degree generate file : Rule) → plain ≡ bare → first ≡ with_rule plain limit → second ≡ with_rule first degree → third ≡ with_rule second generate
    → whole ≡ with_rule third file → limit ≡ limit_arg → degree ≡ degree_arg → generate ≡ generate_arg → file ≡ file_arg → whole ≡ app
app_is plain first second third whole limit degree generate file p f s t w l d g i =
    w ∙ ap₂ with_rule (t ∙ ap₂ with_rule (s ∙ ap₂ with_rule (f ∙ ap₂ with_rule p l) d) g) i

-- what a parse of it answers
abbrev pub Taken : List Text → ArgMatches → Type 0
Taken words m = (fault_of app words ≡ []) × (rows_of (found_of m) ≡ matches_of app words)

abbrev pub Refused : List Text → Error → Type 0
Refused words e = (kind_of e ≡ OutOfMemory) ⊎ IsAmong (kind_of e) (fault_of app words)

module _ (a : App) (words : List Text) (r : Result ArgMatches Error) (same : a ≡ app) (kinds : is_simple_and_free a ≡ true → FailsBy (fault_of a words) r) where
  exact : FailsBy (fault_of app words) r
  exact = subst (λ (x : App). is_simple_and_free x ≡ true → FailsBy (fault_of x words) r) same kinds is_plain_form

  pub taken_of : IfOk r (HasMatchesOf a words) → IfOk r (Taken words)
  taken_of has = go r exact (subst (λ (x : App). IfOk r (HasMatchesOf x words)) same has)
    where
      go : (x : Result ArgMatches Error) → FailsBy (fault_of app words) x → IfOk x (HasMatchesOf app words) → IfOk x (Taken words)
      go (Ok m) none h = (none, (h simple_form).0)
      go (Err e) kinds h = tt

  pub refused_of : IfErr r (Refused words)
  refused_of = go r exact
    where
      go : (x : Result ArgMatches Error) → FailsBy (fault_of app words) x → IfErr x (Refused words)
      go (Ok m) none = tt
      go (Err e) kinds = kinds
