-- What clap's walk makes of one argument, beside what is gathered.
use Rattle.std.proofs.Common.{ℕ, ◌≡◌, ◌==◌, ◌&&◌, ◌⊎◌, Bool, true, false, cond, List, [], ◌∷◌, ◌++◌, Option, Some, None, codes, refl, sym, ap, ◌∙◌, subst, inl, inr, true≢false, if◌then◌else◌}
use Rattle.std.specs.Prelude.{is_none}
use Rattle.std.specs.Str.{bytes_eq}
use Rattle.std.specs.Option.{option_map_or}
use Rattle.std.proofs.lemmas.Slice.Eq.{bytes_eq-Decides}
use Rattle.clap.specs.Walk.{Held, Row, Rule, Text, Waiting, Walk, idle, option as awaits, positional, is_pending, pushed, settled, subcommand_met, used, walked, word_met}
use Rattle.clap.specs.Kinds.{Kinds, or_else}
use Rattle.clap.specs.Faults.{positional_fault, settle_fault, step_fault, stray_fault, turn_fault, use_fault, word_fault}
use Rattle.db_arguments.specs.Arguments.{Part, File, OptionName, LimitOption, DegreeOption, GenerateOption, spelling, part_of, is_option_like}
use Rattle.db_arguments.specs.Gathering.{Values, Next, Any, Value, Trailing, Stage, Met, put, stage_by, with_text, with_dashes, with_option, met_by, gather}
use Rattle.db_arguments.proofs.Form.{IsFault, IsPlainWord, IsSpelt, IsUnknown, Look, Alone, WithValue, Unknown, fault_first, fault_second, form, id, look_of, met_alone, met_joined, nothing_skipped, plain_word_of, rule, shape}
use Rattle.db_arguments.proofs.Given.{Rest, RowsHave, Waits, first_use, no_value_used, pending_of, rest_rows, rest_settles, second_use, settle_fault_is, settled_in, used_have}

-- where the walk stands
abbrev pub walk_at : Bool → Waiting → ℕ → List Row → Option (Text × List Text) → Walk
walk_at trailing waiting position rows pending = record { held = nothing_skipped rows pending; waiting = waiting; position = position; is_trailing = trailing; stopped = None }

-- the place of the next FILE
abbrev pub position_of : Option Text → ℕ
position_of None = 1
position_of (Some file) = 2

-- The walk follows what was gathered.
abbrev pub Follows : Values → Next → Walk → Type 0
Follows v Any w = (rows : List Row) × (waits : Waits) × (w ≡ walk_at false idle (position_of (v File)) rows (pending_of waits)) × Rest v rows waits
Follows v (Value option) w = (rows : List Row) × (w ≡ walk_at false (awaits (id (part_of option))) (position_of (v File)) rows (Some (id (part_of option), []))) × RowsHave rows v
Follows v Trailing w = (rows : List Row) × (waits : Waits) × (waiting : Waiting) × (w ≡ walk_at true waiting (position_of (v File)) rows (pending_of waits)) × Rest v rows waits

-- The use of what waits is a fault, and no argument that follows mends it.
pub record Doomed (w : Walk) : Type 0 where
  pub trailing : Bool
  pub waiting : Waiting
  pub position : ℕ
  pub rows : List Row
  pub pending : Option (Text × List Text)
  pub is : w ≡ walk_at trailing waiting position rows pending
  pub fault : IsFault (settle_fault form false (nothing_skipped rows pending))
  pub reach : (trailing ≡ true) ⊎ (waiting ≡ idle)

-- An argument is a fault, now or later.
abbrev pub Fails : Walk → Text → Type 0
Fails w word = IsFault (turn_fault shape [] w word) ⊎ Doomed (walked form [] w word)

-- An argument is none.
pub record Passes (w : Walk) (word : Text) (v : Values) (next : Next) : Type 0 where
  pub fault : turn_fault shape [] w word ≡ []
  pub follows : Follows v next (walked form [] w word)

abbrev pub Steps : Walk → Text → Option Stage → Type 0
Steps w word None = Fails w word
Steps w word (Some (v, next)) = Passes w word v next

-- ---- small laws

pub fault_by : (a b : Kinds) → a ≡ b → IsFault b → IsFault a
fault_by a b e is = subst IsFault (sym e) is

and_false : (b : Bool) → (b && false) ≡ false
and_false true = refl
and_false false = refl

put_none : (v : Values) (part : Part) (text : Text) → v part ≡ None → put v part text ≡ Some (with_text v part text)
put_none v part text none = ap (λ (o : Option Text). if is_none o then Some (with_text v part text) else None) none

put_some : (v : Values) (part : Part) (text other : Text) → v part ≡ Some other → put v part text ≡ None
put_some v part text other some = ap (λ (o : Option Text). if is_none o then Some (with_text v part text) else None) some

-- the FILE's place stays where an option is given
same_place : (v : Values) (option : OptionName) (text : Text) → with_text v (part_of option) text File ≡ v File
same_place v LimitOption text = refl
same_place v DegreeOption text = refl
same_place v GenerateOption text = refl

-- no argument is a subcommand
no_subcommand : (waiting : Waiting) (word : Text) → subcommand_met [] waiting word ≡ None
no_subcommand idle word = refl
no_subcommand (awaits name) word = refl
no_subcommand positional word = refl

module _ (waiting : Waiting) (position : ℕ) (rows : List Row) (pending : Option (Text × List Text)) where
  abbrev sf : Kinds
  sf = settle_fault form false (nothing_skipped rows pending)

  abbrev here : Walk
  here = walk_at false waiting position rows pending

  -- ---- `--`

  dashes_fault : turn_fault shape [] here (codes "--") ≡ []
  dashes_fault = rw (no_subcommand waiting (codes "--")) refl

  dashes_walked : walked form [] here (codes "--") ≡ walk_at true waiting position rows pending
  unfolding walked
  dashes_walked = rw (no_subcommand waiting (codes "--")) refl

  -- ---- options

  alone_fault : (option : OptionName) → turn_fault shape [] here (spelling option) ≡ or_else sf []
  alone_fault LimitOption = rw (no_subcommand waiting (codes "--limit")) refl
  alone_fault DegreeOption = rw (no_subcommand waiting (codes "--degree")) refl
  alone_fault GenerateOption = rw (no_subcommand waiting (codes "--generate")) refl

  alone_walked : (option : OptionName) → walked form [] here (spelling option) ≡ walk_at false (awaits (id (part_of option))) position (settled_in rows pending) (Some (id (part_of option), []))
  unfolding walked
  alone_walked LimitOption = rw (no_subcommand waiting (codes "--limit")) refl
  alone_walked DegreeOption = rw (no_subcommand waiting (codes "--degree")) refl
  alone_walked GenerateOption = rw (no_subcommand waiting (codes "--generate")) refl

  -- the fault of an option with a value
  abbrev uf : OptionName → Text → Kinds
  uf option text = use_fault false (rule (part_of option)) (text ∷ []) (settled_in rows pending)

  abbrev jf : OptionName → Text → Kinds
  jf option text = or_else (or_else sf (uf option text)) []

  joined_fault : (option : OptionName) (text : Text) → turn_fault shape [] here (spelling option ++ 61 ∷ text) ≡ jf option text
  joined_fault LimitOption text = rw (no_subcommand waiting (codes "--limit" ++ 61 ∷ text)) refl
  joined_fault DegreeOption text = rw (no_subcommand waiting (codes "--degree" ++ 61 ∷ text)) refl
  joined_fault GenerateOption text = rw (no_subcommand waiting (codes "--generate" ++ 61 ∷ text)) refl

  joined_walked : (option : OptionName) (text : Text) → walked form [] here (spelling option ++ 61 ∷ text)
      ≡ walk_at false idle position (used (rule (part_of option)) (text ∷ []) (settled_in rows pending)) None
  unfolding walked
  joined_walked LimitOption text = rw (no_subcommand waiting (codes "--limit" ++ 61 ∷ text)) refl
  joined_walked DegreeOption text = rw (no_subcommand waiting (codes "--degree" ++ 61 ∷ text)) refl
  joined_walked GenerateOption text = rw (no_subcommand waiting (codes "--generate" ++ 61 ∷ text)) refl

  -- an argument that isn't known
  unknown_turn : (word : Text) → bytes_eq word (codes "--") ≡ false → IsUnknown word → IsFault (turn_fault shape [] here word)
  unknown_turn word other unknown =
      let met = word_met form [] false waiting position word (nothing_skipped rows pending) in
      fault_first (word_fault shape [] false waiting word (nothing_skipped rows pending)) (step_fault shape position met.0 met.1) (rw (no_subcommand waiting word, other) (unknown.fault rows pending))

  -- where what waits is a fault, so is each option
  option_fails : (word : Text) → bytes_eq word (codes "--") ≡ false → Look word → IsFault sf → IsFault (turn_fault shape [] here word)
  option_fails word other (Alone option is) fault = subst (λ (w : Text). IsFault (turn_fault shape [] here w)) (sym is) (fault_by _ _ (alone_fault option) (fault_first sf [] fault))
  option_fails word other (WithValue option text is) fault =
      subst (λ (w : Text). IsFault (turn_fault shape [] here w)) (sym is) (fault_by _ _ (joined_fault option text) (fault_first (or_else sf (uf option text)) [] (fault_first sf (uf option text) fault)))
  option_fails word other (Unknown unknown) fault = unknown_turn word other unknown

-- ---- FILEs

module _ (rows : List Row) (pending : Option (Text × List Text)) where
  abbrev sf_here : Kinds
  sf_here = settle_fault form false (nothing_skipped rows pending)

  -- the fault of a FILE, if there is room for one
  abbrev ff : Kinds
  ff = cond (is_pending (rule File) pending && false) [] sf_here

  ff_is : ff ≡ sf_here
  ff_is = ap (λ (b : Bool). cond b [] sf_here) (and_false (is_pending (rule File) pending))

  file_fault : (word : Text) → IsPlainWord word → turn_fault shape [] (walk_at false idle 1 rows pending) word ≡ sf_here
  file_fault word p = rw (p.dashes, p.long, p.short) ff_is

  trailing_fault : (waiting : Waiting) (word : Text) → turn_fault shape [] (walk_at true waiting 1 rows pending) word ≡ sf_here
  trailing_fault waiting word = ff_is

  stray_file : (word : Text) → IsPlainWord word → IsFault (turn_fault shape [] (walk_at false idle 2 rows pending) word)
  stray_file word p = rw (p.dashes, p.long, p.short) tt

  stray_trailing : (waiting : Waiting) (word : Text) → IsFault (turn_fault shape [] (walk_at true waiting 2 rows pending) word)
  stray_trailing waiting word = tt

  abbrev file_held : Text → Bool → Held
  file_held word b = pushed (id File) word (cond b (nothing_skipped rows pending) (settled form (nothing_skipped rows pending)))

  abbrev after_held : Bool → Held → Walk
  after_held trailing held = record { held = held; waiting = idle; position = 2; is_trailing = trailing; stopped = None }

  file_walked : (word : Text) → IsPlainWord word → walked form [] (walk_at false idle 1 rows pending) word ≡ walk_at false idle 2 (settled_in rows pending) (Some (id File, word ∷ []))
  unfolding walked
  file_walked word p = rw (p.dashes, p.long, p.short) (ap (λ (b : Bool). after_held false (file_held word b)) (and_false (is_pending (rule File) pending)))

  trailing_walked : (waiting : Waiting) (word : Text) → walked form [] (walk_at true waiting 1 rows pending) word ≡ walk_at true idle 2 (settled_in rows pending) (Some (id File, word ∷ []))
  unfolding walked
  trailing_walked waiting word = ap (λ (b : Bool). after_held true (file_held word b)) (and_false (is_pending (rule File) pending))

  -- wherever the FILE would stand
  file_fails : (position : ℕ) (word : Text) → IsPlainWord word → IsFault sf_here → IsFault (turn_fault shape [] (walk_at false idle position rows pending) word)
  file_fails position word p fault = rw (p.dashes, p.long, p.short) (go (1 == position))
    where
      go : (b : Bool) → IsFault (option_map_or (λ (a : Rule). positional_fault form false a (nothing_skipped rows pending)) (cond b (Some (rule File)) None) (stray_fault shape))
      go true = subst IsFault (sym ff_is) fault
      go false = tt

  trailing_fails : (waiting : Waiting) (position : ℕ) (word : Text) → IsFault sf_here → IsFault (turn_fault shape [] (walk_at true waiting position rows pending) word)
  trailing_fails waiting position word fault = go (1 == position)
    where
      go : (b : Bool) → IsFault (option_map_or (λ (a : Rule). positional_fault form false a (nothing_skipped rows pending)) (cond b (Some (rule File)) None) (stray_fault shape))
      go true = subst IsFault (sym ff_is) fault
      go false = tt

-- the value of an option
value_fault : (option : OptionName) (position : ℕ) (rows : List Row) (word : Text) → IsPlainWord word → turn_fault shape [] (walk_at false (awaits (id (part_of option))) position rows (Some (id (part_of option), []))) word ≡ []
value_fault LimitOption position rows word p = rw (p.dashes, p.long, p.short) refl
value_fault DegreeOption position rows word p = rw (p.dashes, p.long, p.short) refl
value_fault GenerateOption position rows word p = rw (p.dashes, p.long, p.short) refl

value_walked : (option : OptionName) (position : ℕ) (rows : List Row) (word : Text) → IsPlainWord word
    → walked form [] (walk_at false (awaits (id (part_of option))) position rows (Some (id (part_of option), []))) word ≡ walk_at false idle position rows (Some (id (part_of option), word ∷ []))
unfolding walked
value_walked LimitOption position rows word p = rw (p.dashes, p.long, p.short) refl
value_walked DegreeOption position rows word p = rw (p.dashes, p.long, p.short) refl
value_walked GenerateOption position rows word p = rw (p.dashes, p.long, p.short) refl

-- ---- steps

module _ (v : Values) (rows : List Row) (waits : Waits) (rest : Rest v rows waits) (word : Text) where
  abbrev place : ℕ
  place = position_of (v File)

  abbrev at_rest : Walk
  at_rest = walk_at false idle place rows (pending_of waits)

  abbrev sf_rest : Kinds
  sf_rest = settle_fault form false (nothing_skipped rows (pending_of waits))

  settles : sf_rest ≡ []
  settles = rest_settles v rows waits rest

  have : RowsHave (settled_in rows (pending_of waits)) v
  have = rest_rows v rows waits rest

  with_value : (option : OptionName) (text : Text) (given : Option Text) → v (part_of option) ≡ given → Steps at_rest (spelling option ++ 61 ∷ text) (stage_by Any (put v (part_of option) text))
  with_value option text None none =
      subst (λ (o : Option Values). Steps at_rest (spelling option ++ 61 ∷ text) (stage_by Any o)) (sym (put_none v (part_of option) text none)) (record {
        fault = joined_fault idle place rows (pending_of waits) option text
            ∙ ap (λ (k : Kinds). or_else (or_else k (use_fault false (rule (part_of option)) (text ∷ []) (settled_in rows (pending_of waits)))) []) settles
            ∙ ap (λ (k : Kinds). or_else k []) (first_use (part_of option) text (settled_in rows (pending_of waits)) v have none);
        follows = (
          used (rule (part_of option)) (text ∷ []) (settled_in rows (pending_of waits)),
          None,
          joined_walked idle place rows (pending_of waits) option text
              ∙ ap (λ (o : Option Text). walk_at false idle (position_of o) (used (rule (part_of option)) (text ∷ []) (settled_in rows (pending_of waits))) None) (sym (same_place v option text)),
          used_have (part_of option) text (settled_in rows (pending_of waits)) v have none,
        );
      })
  with_value option text (Some other) some =
      subst (λ (o : Option Values). Steps at_rest (spelling option ++ 61 ∷ text) (stage_by Any o)) (sym (put_some v (part_of option) text other some))
      (inl (fault_by _ _ (joined_fault idle place rows (pending_of waits) option text)
      (fault_first (or_else sf_rest (uf idle place rows (pending_of waits) option text)) [] (fault_second sf_rest (uf idle place rows (pending_of waits) option text)
      (fault_by _ _ (second_use (part_of option) text other (settled_in rows (pending_of waits)) v have some) tt)))))

  with_look : Look word → bytes_eq word (codes "--") ≡ false → Steps at_rest word (with_option v (met_by word))
  with_look (Alone option is) other = subst (λ (w : Text). Steps at_rest w (with_option v (met_by w))) (sym is)
      (subst (λ (m : Option Met). Steps at_rest (spelling option) (with_option v m)) (sym (met_alone option)) (record {
        fault = alone_fault idle place rows (pending_of waits) option ∙ ap (λ (k : Kinds). or_else k []) settles;
        follows = (settled_in rows (pending_of waits), alone_walked idle place rows (pending_of waits) option, have);
      }))
  with_look (WithValue option text is) other = subst (λ (w : Text). Steps at_rest w (with_option v (met_by w))) (sym is)
      (subst (λ (m : Option Met). Steps at_rest (spelling option ++ 61 ∷ text) (with_option v m)) (sym (met_joined option text)) (with_value option text (v (part_of option)) refl))
  with_look (Unknown unknown) other = subst (λ (m : Option Met). Steps at_rest word (with_option v m)) (sym unknown.unmet) (inl (unknown_turn idle place rows (pending_of waits) word other unknown))

  step_dashes : (b : Bool) → bytes_eq word (codes "--") ≡ b → is_option_like word ≡ true → IsSpelt word → Steps at_rest word (cond b (Some (v, Trailing)) (with_option v (met_by word)))
  step_dashes true is like spelt = subst (λ (w : Text). Passes at_rest w v Trailing) (sym ((bytes_eq-Decides word (codes "--")).0 is))
      (record { fault = dashes_fault idle place rows (pending_of waits); follows = (rows, waits, idle, dashes_walked idle place rows (pending_of waits), rest) })
  step_dashes false is like spelt = with_look (look_of word like is spelt) is

  step_file : (given : Option Text) → v File ≡ given → IsPlainWord word → Steps (walk_at false idle (position_of given) rows (pending_of waits)) word (stage_by Any (put v File word))
  step_file None none p = subst (λ (o : Option Values). Steps (walk_at false idle 1 rows (pending_of waits)) word (stage_by Any o)) (sym (put_none v File word none)) (record {
    fault = file_fault rows (pending_of waits) word p ∙ settles;
    follows = (settled_in rows (pending_of waits), Some (File, word), file_walked rows (pending_of waits) word p, (v, have, none, refl));
  })
  step_file (Some other) some p = subst (λ (o : Option Values). Steps (walk_at false idle 2 rows (pending_of waits)) word (stage_by Any o)) (sym (put_some v File word other some))
      (inl (stray_file rows (pending_of waits) word p))

  step_any : (b : Bool) → is_option_like word ≡ b → IsSpelt word → Steps at_rest word (cond b (with_dashes v word) (stage_by Any (put v File word)))
  step_any true like spelt = step_dashes (bytes_eq word (codes "--")) refl like spelt
  step_any false plain spelt = step_file (v File) refl (plain_word_of word plain)

  step_trailing : (waiting : Waiting) (given : Option Text) → v File ≡ given → Steps (walk_at true waiting (position_of given) rows (pending_of waits)) word (stage_by Trailing (put v File word))
  step_trailing waiting None none = subst (λ (o : Option Values). Steps (walk_at true waiting 1 rows (pending_of waits)) word (stage_by Trailing o)) (sym (put_none v File word none)) (record {
    fault = trailing_fault rows (pending_of waits) waiting word ∙ settles;
    follows = (settled_in rows (pending_of waits), Some (File, word), idle, trailing_walked rows (pending_of waits) waiting word, (v, have, none, refl));
  })
  step_trailing waiting (Some other) some = subst (λ (o : Option Values). Steps (walk_at true waiting 2 rows (pending_of waits)) word (stage_by Trailing o)) (sym (put_some v File word other some))
      (inl (stray_trailing rows (pending_of waits) waiting word))

module _ (v : Values) (option : OptionName) (rows : List Row) (have : RowsHave rows v) (word : Text) where
  abbrev wanted_value : Option (Text × List Text)
  wanted_value = Some (id (part_of option), [])

  abbrev at_value : Walk
  at_value = walk_at false (awaits (id (part_of option))) (position_of (v File)) rows wanted_value

  value_missing : IsFault (settle_fault form false (nothing_skipped rows wanted_value))
  value_missing = fault_by _ _ (settle_fault_is (part_of option) [] rows ∙ no_value_used (part_of option) rows) tt

  value_dashes : (b : Bool) → bytes_eq word (codes "--") ≡ b → is_option_like word ≡ true → IsSpelt word → Fails at_value word
  value_dashes true is like spelt = subst (Fails at_value) (sym ((bytes_eq-Decides word (codes "--")).0 is)) (inr (record {
    trailing = true;
    waiting = awaits (id (part_of option));
    position = position_of (v File);
    rows = rows;
    pending = wanted_value;
    is = dashes_walked (awaits (id (part_of option))) (position_of (v File)) rows wanted_value;
    fault = value_missing;
    reach = inl refl;
  }))
  value_dashes false is like spelt = inl (option_fails (awaits (id (part_of option))) (position_of (v File)) rows wanted_value word is (look_of word like is spelt) value_missing)

  value_given : (given : Option Text) → v (part_of option) ≡ given → IsPlainWord word → Steps at_value word (stage_by Any (put v (part_of option) word))
  value_given None none p = subst (λ (o : Option Values). Steps at_value word (stage_by Any o)) (sym (put_none v (part_of option) word none)) (record {
    fault = value_fault option (position_of (v File)) rows word p;
    follows = (
      rows,
      Some (part_of option, word),
      value_walked option (position_of (v File)) rows word p ∙ ap (λ (o : Option Text). walk_at false idle (position_of o) rows (Some (id (part_of option), word ∷ []))) (sym (same_place v option word)),
      (v, have, none, refl),
    );
  })
  value_given (Some other) some p = subst (λ (o : Option Values). Steps at_value word (stage_by Any o)) (sym (put_some v (part_of option) word other some)) (inr (record {
    trailing = false;
    waiting = idle;
    position = position_of (v File);
    rows = rows;
    pending = Some (id (part_of option), word ∷ []);
    is = value_walked option (position_of (v File)) rows word p;
    fault = fault_by _ _ (settle_fault_is (part_of option) (word ∷ []) rows ∙ second_use (part_of option) word other rows v have some) tt;
    reach = inr refl;
  }))

  step_value : (b : Bool) → is_option_like word ≡ b → IsSpelt word → Steps at_value word (cond b None (stage_by Any (put v (part_of option) word)))
  step_value true like spelt = value_dashes (bytes_eq word (codes "--")) refl like spelt
  step_value false plain spelt = value_given (v (part_of option)) refl (plain_word_of word plain)

pub step : (v : Values) (next : Next) (w : Walk) (word : Text) → Follows v next w → IsSpelt word → Steps w word (gather v next word)
step v Any w word f spelt = subst (λ (x : Walk). Steps x word (gather v Any word)) (sym f.2) (step_any v f.0 f.1 f.3 word (is_option_like word) refl spelt)
step v (Value option) w word f spelt = subst (λ (x : Walk). Steps x word (gather v (Value option) word)) (sym f.1) (step_value v option f.0 f.2 word (is_option_like word) refl spelt)
step v Trailing w word f spelt = subst (λ (x : Walk). Steps x word (gather v Trailing word)) (sym f.3) (step_trailing v f.0 f.1 f.4 word f.2 (v File) refl)

-- ---- what can't be mended

module _ (position : ℕ) (rows : List Row) (pending : Option (Text × List Text)) (fault : IsFault (settle_fault form false (nothing_skipped rows pending))) (word : Text) where
  doomed_dashes : (b : Bool) → bytes_eq word (codes "--") ≡ b → is_option_like word ≡ true → IsSpelt word → Fails (walk_at false idle position rows pending) word
  doomed_dashes true is like spelt = subst (Fails (walk_at false idle position rows pending)) (sym ((bytes_eq-Decides word (codes "--")).0 is)) (inr (record {
    trailing = true;
    waiting = idle;
    position = position;
    rows = rows;
    pending = pending;
    is = dashes_walked idle position rows pending;
    fault = fault;
    reach = inl refl;
  }))
  doomed_dashes false is like spelt = inl (option_fails idle position rows pending word is (look_of word like is spelt) fault)

  doomed_idle : (b : Bool) → is_option_like word ≡ b → IsSpelt word → Fails (walk_at false idle position rows pending) word
  doomed_idle true like spelt = doomed_dashes (bytes_eq word (codes "--")) refl like spelt
  doomed_idle false plain spelt = inl (file_fails rows pending position word (plain_word_of word plain) fault)

  doomed_at : (trailing : Bool) (waiting : Waiting) → (trailing ≡ true) ⊎ (waiting ≡ idle) → IsSpelt word → Fails (walk_at trailing waiting position rows pending) word
  doomed_at true waiting reach spelt = inl (trailing_fails rows pending waiting position word fault)
  doomed_at false waiting (inl never) spelt = absurd (true≢false (sym never))
  doomed_at false waiting (inr is) spelt = subst (λ (x : Waiting). Fails (walk_at false x position rows pending) word) (sym is) (doomed_idle (is_option_like word) refl spelt)

pub doomed_step : (w : Walk) (word : Text) → Doomed w → IsSpelt word → Fails w word
doomed_step w word d spelt = subst (λ (x : Walk). Fails x word) (sym d.is) (doomed_at d.position d.rows d.pending d.fault word d.trailing d.waiting d.reach spelt)
