-- What clap gives for all arguments is what is gathered from them.
use Rattle.std.proofs.Common.{ℕ, ◌≡◌, ◌||◌, ◌⊎◌, Bool, true, false, cond, List, [], ◌∷◌, Option, Some, None, refl, sym, ap, ◌∙◌, subst, inl, inr, map}
use Rattle.std.specs.Prelude.{fold, is_some, option_and_then}
use Rattle.std.specs.List.{AllByRecursion}
use Rattle.std.specs.Coded.{Coded-set, coded_list, coded_ℕ}
use Rattle.std.specs.Str.{IsUtf8, chars, encode_utf8_all}
use Rattle.std.proofs.Math.Logic.{∥∥₁_elim}
use Rattle.std.proofs.lemmas.Str.{encodes-chars}
use Rattle.clap.specs.Walk.{Row, Text, Walk, idle, finished, first_of, has_row, nothing_held, settled, walk_from, walked, with_default}
use Rattle.clap.specs.Simple.{built, entered, matches_of}
use Rattle.clap.specs.Kinds.{IsAmong, Kinds, or_else}
use Rattle.clap.specs.declared.error.kind.ErrorKind.{ErrorKind}
use Rattle.clap.specs.declared.error.kind.ErrorKind.TheVariants.{OutOfMemory}
use Rattle.clap.specs.Faults.{check_fault, default_fault, defaults_fault, entered_fault, fault_of, given_default_fault, settle_fault, turn_fault, walk_fault}
use Rattle.db_arguments.specs.Arguments.{Part, File, Limit, Degree, Rows, part_of}
use Rattle.db_arguments.specs.Gathering.{Values, Next, Any, Value, Trailing, Stage, all_given, gather, gathers, nothing_given}
use Rattle.db_arguments.specs.Form.{app}
use Rattle.db_arguments.proofs.Form.{IsFault, IsSpelt, fault_first, fault_second, form, id, nothing_skipped, rule, shape}
use Rattle.db_arguments.proofs.Given.{RowsHave, no_value_used, pending_of, rest_rows, rest_settles, settle_fault_is}
use Rattle.db_arguments.proofs.Steps.{Doomed, Fails, Follows, Passes, Steps, doomed_step, fault_by, position_of, step, walk_at}

-- the walk over these arguments
abbrev walked_over : Walk → List Text → Walk
walked_over w words = fold (walked form []) w words

-- what waits at the end is used
abbrev end_fault : Walk → Kinds
end_fault w = settle_fault form false w.held

-- No argument is a fault, and the rows have this.
pub record Ends (w : Walk) (words : List Text) (v : Values) : Type 0 where
  pub fault : walk_fault shape [] w words ≡ []
  pub stopped : (walked_over w words).stopped ≡ None
  pub settles : end_fault (walked_over w words) ≡ []
  pub have : RowsHave (settled form (walked_over w words).held).rows v

-- Some argument is a fault.
abbrev pub Breaks : Walk → List Text → Type 0
Breaks w words = IsFault (or_else (walk_fault shape [] w words) (end_fault (walked_over w words)))

abbrev pub Answers : Walk → List Text → Option Values → Type 0
Answers w words None = Breaks w words
Answers w words (Some v) = Ends w words v

-- ---- one argument more

more_fault : (w : Walk) (word : Text) (words : List Text) → walk_fault shape [] w (word ∷ words) ≡ or_else (turn_fault shape [] w word) (walk_fault shape [] (walked form [] w word) words)
unfolding walk_fault
more_fault w word words = refl

-- a fault of one of three parts is one of all
fault_among : (a b c : Kinds) → IsFault (or_else b c) → IsFault (or_else (or_else a b) c)
fault_among [] b c is = is
fault_among (k ∷ ks) b c is = tt

breaks_now : (w : Walk) (word : Text) (words : List Text) → IsFault (turn_fault shape [] w word) → Breaks w (word ∷ words)
breaks_now w word words is = fault_by _ _ (ap (λ (k : Kinds). or_else k (end_fault (walked_over w (word ∷ words)))) (more_fault w word words)) (fault_first _ _ (fault_first _ _ is))

breaks_later : (w : Walk) (word : Text) (words : List Text) → Breaks (walked form [] w word) words → Breaks w (word ∷ words)
breaks_later w word words is = fault_by _ _ (ap (λ (k : Kinds). or_else k (end_fault (walked_over w (word ∷ words)))) (more_fault w word words)) (fault_among (turn_fault shape [] w word) _ _ is)

no_words : (w : Walk) → walk_fault shape [] w [] ≡ []
unfolding walk_fault
no_words w = refl

-- ---- all arguments

doomed_breaks : (words : List Text) (w : Walk) → AllByRecursion IsSpelt words → Doomed w → Breaks w words
doomed_breaks [] w spelt d = fault_by _ _ (ap (λ (k : Kinds). or_else k (end_fault w)) (no_words w)) (subst (λ (x : Walk). IsFault (end_fault x)) (sym d.is) d.fault)
doomed_breaks (word ∷ words) w spelt d = go (doomed_step w word d spelt.0) (doomed_breaks words (walked form [] w word) spelt.1)
  where
    go : Fails w word → (Doomed (walked form [] w word) → Breaks (walked form [] w word) words) → Breaks w (word ∷ words)
    go (inl fault) later = breaks_now w word words fault
    go (inr doomed) later = breaks_later w word words (later doomed)

none_left : (v : Values) (next : Next) (w : Walk) → Follows v next w → Answers w [] (gathers v next [])
none_left v Any w f = subst (λ (x : Walk). Ends x [] v) (sym f.2)
    (record { fault = no_words (walk_at false idle (position_of (v File)) f.0 (pending_of f.1)); stopped = refl; settles = rest_settles v f.0 f.1 f.3; have = rest_rows v f.0 f.1 f.3 })
none_left v Trailing w f = subst (λ (x : Walk). Ends x [] v) (sym f.3)
    (record { fault = no_words (walk_at true f.2 (position_of (v File)) f.0 (pending_of f.1)); stopped = refl; settles = rest_settles v f.0 f.1 f.4; have = rest_rows v f.0 f.1 f.4 })
none_left v (Value option) w f =
    let missing : IsFault (settle_fault form false (nothing_skipped f.0 (Some (id (part_of option), [])))) = fault_by _ _ (settle_fault_is (part_of option) [] f.0 ∙ no_value_used (part_of option) f.0) tt in
    fault_by _ _ (ap (λ (k : Kinds). or_else k (end_fault w)) (no_words w)) (subst (λ (x : Walk). IsFault (end_fault x)) (sym f.1) missing)

one_more : (w : Walk) (word : Text) (words : List Text) (o : Option Values) (v : Values) (next : Next) → Passes w word v next → Answers (walked form [] w word) words o → Answers w (word ∷ words) o
one_more w word words None v next p later = breaks_later w word words later
one_more w word words (Some u) v next p later = record {
  fault = more_fault w word words ∙ ap (λ (k : Kinds). or_else k (walk_fault shape [] (walked form [] w word) words)) p.fault ∙ later.fault;
  stopped = later.stopped;
  settles = later.settles;
  have = later.have;
}

pub answers : (words : List Text) (v : Values) (next : Next) (w : Walk) → AllByRecursion IsSpelt words → Follows v next w → Answers w words (gathers v next words)
answers [] v next w spelt f = none_left v next w f
answers (word ∷ words) v next w spelt f = go (gather v next word) (step v next w word f spelt.0) (λ u after g. answers words u after (walked form [] w word) spelt.1 g) (doomed_breaks words (walked form [] w word) spelt.1)
  where
    go : (stage : Option Stage) → Steps w word stage → ((u : Values) (after : Next) → Follows u after (walked form [] w word) → Answers (walked form [] w word) words (gathers u after words))
        → (Doomed (walked form [] w word) → Breaks (walked form [] w word) words) → Answers w (word ∷ words) (option_and_then (λ (s : Stage). gathers s.0 s.1 words) stage)
    go None (inl fault) more doomed = breaks_now w word words fault
    go None (inr is) more doomed = breaks_later w word words (doomed is)
    go (Some (u, after)) passes more doomed = one_more w word words (gathers u after words) u after passes (more u after passes.follows)

-- ---- the whole parse

no_default : (b : Bool) (k : Kinds) → cond (b || true) [] k ≡ []
no_default true k = refl
no_default false k = refl

same_rows : (b : Bool) (rows : List Row) → cond b rows rows ≡ rows
same_rows true rows = refl
same_rows false rows = refl

default_kept : (part : Part) (rows : List Row) → with_default rows (rule part) ≡ rows
default_kept File rows = same_rows (has_row (id File) rows) rows
default_kept Limit rows = same_rows (has_row (id Limit) rows) rows
default_kept Degree rows = same_rows (has_row (id Degree) rows) rows
default_kept Rows rows = same_rows (has_row (id Rows) rows) rows

default_passes : (part : Part) (rows : List Row) → default_fault rows (rule part) ≡ []
default_passes File rows = no_default (has_row (id File) rows) (given_default_fault (rule File) [])
default_passes Limit rows = no_default (has_row (id Limit) rows) (given_default_fault (rule Limit) [])
default_passes Degree rows = no_default (has_row (id Degree) rows) (given_default_fault (rule Degree) [])
default_passes Rows rows = no_default (has_row (id Rows) rows) (given_default_fault (rule Rows) [])

defaults_pass : (rows : List Row) → defaults_fault rows form ≡ []
unfolding defaults_fault
defaults_pass rows =
    let second = with_default rows (rule Limit) in
    let third = with_default second (rule Degree) in
    let last = with_default third (rule Rows) in
    ap (λ (k : Kinds). or_else k (defaults_fault second (rule Degree ∷ rule Rows ∷ rule File ∷ []))) (default_passes Limit rows)
    ∙ ap (λ (k : Kinds). or_else k (defaults_fault third (rule Rows ∷ rule File ∷ []))) (default_passes Degree second)
    ∙ ap (λ (k : Kinds). or_else k (defaults_fault last (rule File ∷ []))) (default_passes Rows third)
    ∙ ap (λ (k : Kinds). or_else k []) (default_passes File last)

-- nothing is missing
nothing_missing : (rows : List Row) (has_subcommand : Bool) → check_fault shape rows has_subcommand ≡ []
nothing_missing rows true = refl
nothing_missing rows false = refl

tail_passes : (rows all : List Row) (has_subcommand : Bool) → or_else (defaults_fault rows form) (check_fault shape all has_subcommand) ≡ []
tail_passes rows all has_subcommand = ap (λ (k : Kinds). or_else k (check_fault shape all has_subcommand)) (defaults_pass rows) ∙ nothing_missing all has_subcommand

finished_is : (w : Walk) → finished form w.held ≡ (settled form w.held).rows
finished_is w =
    let rows = (settled form w.held).rows in
    let second = with_default rows (rule Limit) in
    let third = with_default second (rule Degree) in
    default_kept File (with_default third (rule Rows)) ∙ default_kept Rows third ∙ default_kept Degree second ∙ default_kept Limit rows

passes_all : (walk_kinds below settle tail : Kinds) → walk_kinds ≡ [] → below ≡ [] → settle ≡ [] → tail ≡ [] → or_else walk_kinds (or_else below (or_else settle tail)) ≡ []
passes_all walk_kinds below settle tail a b c d = rw (a, b, c, d) refl

breaks_all : (walk_kinds below settle tail : Kinds) → IsFault (or_else walk_kinds settle) → IsFault (or_else walk_kinds (or_else below (or_else settle tail)))
breaks_all [] below settle tail is = fault_second below (or_else settle tail) (fault_first settle tail is)
breaks_all (k ∷ ks) below settle tail is = tt

at_start : Follows nothing_given Any (walk_from nothing_held)
at_start = ([], None, refl, nothing_yet)
  where
    nothing_yet : RowsHave [] nothing_given
    nothing_yet part = record { first = refl; there = refl }

-- What clap answers: it takes the arguments and has what is gathered, or it refuses them.
abbrev pub IsAnswered : List Text → Option Values → Type 0
IsAnswered words None = IsFault (fault_of app words)
IsAnswered words (Some v) = (fault_of app words ≡ []) × ((part : Part) → first_of (id part) (matches_of app words) ≡ v part)

pub answered : (words : List Text) → AllByRecursion IsSpelt words → IsAnswered words (all_given words)
answered words spelt = go (all_given words) (answers words nothing_given Any (walk_from nothing_held) spelt at_start)
  where
    begins : Kinds
    begins = walk_fault shape [] (walk_from nothing_held) words

    last : Walk
    last = walked_over (walk_from nothing_held) words

    end_tail : Kinds
    end_tail = or_else (defaults_fault (settled form last.held).rows form) (check_fault shape (finished form last.held) (is_some (entered (built app) last.stopped)))

    go : (o : Option Values) → Answers (walk_from nothing_held) words o → IsAnswered words o
    go None breaks = breaks_all begins (entered_fault (built app) last.stopped) (end_fault last) end_tail breaks
    go (Some v) ends = (
      passes_all begins (entered_fault (built app) last.stopped) (end_fault last) end_tail ends.fault (ap (entered_fault (built app)) ends.stopped) ends.settles
          (tail_passes (settled form last.held).rows (finished form last.held) (is_some (entered (built app) last.stopped))),
      λ part. ap (first_of (id part)) (finished_is last) ∙ (ends.have part).first,
    )

-- ---- from what clap answers

-- texts of values, each of which is spelt
pub all_spelt : {X : Type 0} (bytes : X → List ℕ) → ((x : X) → IsSpelt (bytes x)) → (xs : List X) → AllByRecursion IsSpelt (map bytes xs)
all_spelt bytes spelt [] = tt
all_spelt bytes spelt (x ∷ xs) = (spelt x, all_spelt bytes spelt xs)

-- what was taken
pub record IsTaken (words : List Text) (rows : List Row) : Type 0 where
  pub values : Values
  pub are : all_given words ≡ Some values
  pub have : (part : Part) → first_of (id part) rows ≡ values part

pub taken : (words : List Text) (rows : List Row) → AllByRecursion IsSpelt words → fault_of app words ≡ [] → rows ≡ matches_of app words → IsTaken words rows
taken words rows spelt none is = go (all_given words) refl (answered words spelt)
  where
    go : (o : Option Values) → all_given words ≡ o → IsAnswered words o → IsTaken words rows
    go None same fault = absurd (subst IsFault none fault)
    go (Some v) same a = record { values = v; are = same; have = λ part. ap (first_of (id part)) is ∙ a.1 part }

pub not_taken : (words : List Text) (k : ErrorKind) → AllByRecursion IsSpelt words → IsAmong k (fault_of app words) → all_given words ≡ None
not_taken words k spelt among = go (all_given words) (answered words spelt)
  where
    go : (o : Option Values) → IsAnswered words o → o ≡ None
    go None fault = refl
    go (Some v) a = absurd (subst (IsAmong k) a.0 among)

-- an error that isn't want of memory
pub not_memory : (words : List Text) (k : ErrorKind) → AllByRecursion IsSpelt words → (k ≡ OutOfMemory) ⊎ IsAmong k (fault_of app words) → (k ≡ OutOfMemory → ⊥) → all_given words ≡ None
not_memory words k spelt (inl memory) other = absurd (other memory)
not_memory words k spelt (inr among) other = not_taken words k spelt among

-- lists of numbers are equal in one way
one_way : (a b : List ℕ) → IsProp (a ≡ b)
one_way a b = Coded-set (coded_list coded_ℕ) a b

pub spelt_by : (text : List ℕ) → ∥ IsUtf8 text ∥₁ → IsSpelt text
spelt_by text ok = ∥∥₁_elim ok (one_way (encode_utf8_all (chars text)) text) (encodes-chars text)
