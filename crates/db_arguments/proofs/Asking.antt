-- What is read is what the arguments ask for.
use Rattle.std.specs.Prelude.{option_and_then, codes, nat_le, is_none, IfSome, IfNone}
use Rattle.std.specs.Char.{is_ascii_digit}
use Rattle.std.specs.List.{flat_map, list_all, AllByRecursion}
use Rattle.std.specs.Option.{option_map, option_to_list}
use Rattle.std.specs.Str.{bytes_eq}
use Rattle.std.specs.Str.Parse.{digits_value}
use Rattle.std.proofs.Common.{ℕ, ◌≡◌, ◌≤◌, ◌&&◌, Bool, true, false, cond, List, [], ◌∷◌, ◌++◌, length, Option, Some, None, refl, sym, ap, ◌∙◌, subst, arith, append-nil}
use Rattle.std.proofs.lemmas.Bool.{and_parts, leb-true}
use Rattle.std.proofs.lemmas.Option.{cond_some}
use Rattle.std.proofs.lemmas.Slice.Eq.{bytes_eq-Decides}
use Rattle.ct_base.specs.laws.Options.{and_then_some, option_map_some}
use Rattle.db_arguments.specs.Arguments.{Part, File, Limit, Degree, Rows, OptionName, LimitOption, DegreeOption, GenerateOption, spelling, part_of, is_part, if_part, Item, Spaced, Joined, Plain, item_arguments, item_texts, IsItem, IsLimit, IsDegree, after_items, Give, Spells, AskForNothing, least_limit, store_limit, greatest_degree, most_rows, is_option_like}
use Rattle.db_arguments.specs.Gathering.{Values, Next, Any, Value, Trailing, Stage, IsGiven, all_given, gather, gathers, joined_to, met_by, nothing_given, put, stage_by, with_dashes, with_option, with_text, after_prefix}
use Rattle.db_arguments.specs.Reading.{AskFor, Store, Script, Wanted, degree_by, is_in_range, is_number, limit_by, number_of, wanted, wanted_by}
use Rattle.db_arguments.specs.laws.OneReading.{Adds, others_for, refused, wanted_of}
use Rattle.db_arguments.specs.declared.arguments.Asked.{Asked}
use Rattle.db_arguments.specs.declared.parsing.Given.{Given}
use Rattle.db_arguments.proofs.Form.{prefix_is}

-- ---- numbers

-- a number that is read is spelt
read_is_spelt : (least greatest : ℕ) (value : List ℕ) (number : ℕ) → number_of least greatest value ≡ Some number → Spells least greatest value number
read_is_spelt least greatest value number e =
    let p = cond_some (is_number value && is_in_range least greatest (digits_value 10 value)) (digits_value 10 value) number e in
    let tests = and_parts (is_number value) _ p.0 in
    let digits = and_parts (list_all is_ascii_digit value) _ tests.0 in
    let size = and_parts (nat_le 1 (length value)) _ digits.1 in
    let fits = and_parts (nat_le least (digits_value 10 value)) _ tests.1 in
    let low : least ≤ digits_value 10 value = leb-true _ _ fits.0 in
    let high : digits_value 10 value ≤ greatest = leb-true _ _ fits.1 in
    record {
      digits = digits.0;
      not_empty = leb-true _ _ size.0;
      at_most_twenty = leb-true _ _ size.1;
      is = p.1;
      at_least = omega (arith, low, p.1);
      at_most = omega (arith, high, p.1);
    }

-- ---- one argument

-- what one text more leaves
put_taken : (v u : Values) (part : Part) (text : List ℕ) → put v part text ≡ Some u → (v part ≡ None) × (with_text v part text ≡ u)
put_taken v u part text e = go (v part) refl e
  where
    go : (o : Option (List ℕ)) → v part ≡ o → cond (is_none o) (Some (with_text v part text)) None ≡ Some u → (v part ≡ None) × (with_text v part text ≡ u)
    go None is f = (is, cc)
    go (Some other) is f = cc

then_taken : (v : Values) (part : Part) (text : List ℕ) (next : Next) (s : Stage) → stage_by next (put v part text) ≡ Some s → (v part ≡ None) × ((with_text v part text, next) ≡ s)
then_taken v part text next s e =
    let p = option_map_some (λ (u : Values). (u, next)) (put v part text) s e in
    let q = put_taken v p.0 part text p.1 in
    (q.0, ap (λ (u : Values). (u, next)) q.1 ∙ p.2)

-- an argument that begins an item, or is the `--`: which of these it is, and what it leaves
pub data Takes (v : Values) (argument : List ℕ) (s : Stage) : Type 0 where
  IsEnd : argument ≡ codes "--" → (v, Trailing) ≡ s → Takes v argument s
  IsOption : (option : OptionName) → argument ≡ spelling option → (v, Value option) ≡ s → Takes v argument s
  IsJoined : (option : OptionName) (value : List ℕ) → argument ≡ spelling option ++ 61 ∷ value → v (part_of option) ≡ None → (with_text v (part_of option) value, Any) ≡ s → Takes v argument s
  IsFile : is_option_like argument ≡ false → v File ≡ None → (with_text v File argument, Any) ≡ s → Takes v argument s

module _ (v : Values) (argument : List ℕ) (s : Stage) where
  option_taken : (a d b : Bool) (o n p : Option (List ℕ)) → bytes_eq argument (codes "--limit") ≡ a → bytes_eq argument (codes "--degree") ≡ d → bytes_eq argument (codes "--generate") ≡ b
      → after_prefix (codes "--limit=") argument ≡ o → after_prefix (codes "--degree=") argument ≡ n → after_prefix (codes "--generate=") argument ≡ p
      → with_option v (cond a (Some (LimitOption, None)) (cond d (Some (DegreeOption, None)) (cond b (Some (GenerateOption, None))
      (joined_to LimitOption o (joined_to DegreeOption n (joined_to GenerateOption p None)))))) ≡ Some s → Takes v argument s
  option_taken true d b o n p ea ed eb eo en ep e = IsOption LimitOption ((bytes_eq-Decides argument (codes "--limit")).0 ea) (cc)
  option_taken false true b o n p ea ed eb eo en ep e = IsOption DegreeOption ((bytes_eq-Decides argument (codes "--degree")).0 ed) (cc)
  option_taken false false true o n p ea ed eb eo en ep e = IsOption GenerateOption ((bytes_eq-Decides argument (codes "--generate")).0 eb) (cc)
  option_taken false false false (Some value) n p ea ed eb eo en ep e =
      let q = then_taken v Limit value Any s e in IsJoined LimitOption value (prefix_is (codes "--limit=") argument value eo) q.0 q.1
  option_taken false false false None (Some value) p ea ed eb eo en ep e =
      let q = then_taken v Degree value Any s e in IsJoined DegreeOption value (prefix_is (codes "--degree=") argument value en) q.0 q.1
  option_taken false false false None None (Some value) ea ed eb eo en ep e =
      let q = then_taken v Rows value Any s e in IsJoined GenerateOption value (prefix_is (codes "--generate=") argument value ep) q.0 q.1
  option_taken false false false None None None ea ed eb eo en ep e = cc

  dashes_taken : (a : Bool) → bytes_eq argument (codes "--") ≡ a → cond a (Some (v, Trailing)) (with_option v (met_by argument)) ≡ Some s → Takes v argument s
  dashes_taken true is e = IsEnd ((bytes_eq-Decides argument (codes "--")).0 is) (cc)
  dashes_taken false other e =
      option_taken (bytes_eq argument (codes "--limit")) (bytes_eq argument (codes "--degree")) (bytes_eq argument (codes "--generate"))
      (after_prefix (codes "--limit=") argument) (after_prefix (codes "--degree=") argument) (after_prefix (codes "--generate=") argument) refl refl refl refl refl refl e

  item_taken : (a : Bool) → is_option_like argument ≡ a → cond a (with_dashes v argument) (stage_by Any (put v File argument)) ≡ Some s → Takes v argument s
  item_taken true is e = dashes_taken (bytes_eq argument (codes "--")) refl e
  item_taken false is e = let p = then_taken v File argument Any s e in IsFile is p.0 p.1

-- ---- all arguments

-- what these arguments give after what was given before them
pub record GiveAfter (v : Values) (arguments : List (List ℕ)) (u : Values) : Type 0 where
  pub items : List Item
  pub others : Option (List (List ℕ))
  pub are_items : AllByRecursion IsItem items
  pub spelt : arguments ≡ flat_map item_arguments items ++ after_items others
  pub adds : Adds v items others (λ part. option_to_list (u part))

-- what they give where the first is a value
pub record GiveByValue (v : Values) (option : OptionName) (arguments : List (List ℕ)) (u : Values) : Type 0 where
  pub value : List ℕ
  pub rest : List (List ℕ)
  pub spelt : arguments ≡ value ∷ rest
  pub none : v (part_of option) ≡ None
  pub give : GiveAfter (with_text v (part_of option) value) rest u

-- what they give where each is a FILE
abbrev pub GiveFiles : Values → List (List ℕ) → Values → Type 0
GiveFiles v arguments u = (part : Part) → option_to_list (v part) ++ others_for part (Some arguments) ≡ option_to_list (u part)

-- a text more in front
module _ (v u : Values) (text : List ℕ) (r s : Part → List (List ℕ)) where
  abbrev With : Part → Type 0
  With part = (p : Part) → option_to_list (with_text v part text p) ++ (r p ++ s p) ≡ option_to_list (u p)

  abbrev Without : Part → Type 0
  Without part = (p : Part) → option_to_list (v p) ++ ((if_part (is_part p part) text ++ r p) ++ s p) ≡ option_to_list (u p)

  own_text : (part : Part) → v part ≡ None → text ∷ (r part ++ s part) ≡ option_to_list (u part) → option_to_list (v part) ++ text ∷ (r part ++ s part) ≡ option_to_list (u part)
  own_text part none h = subst (λ (o : Option (List ℕ)). option_to_list o ++ text ∷ (r part ++ s part) ≡ option_to_list (u part)) (sym none) h

  text_before : (part : Part) → v part ≡ None → With part → Without part
  text_before File none h File = own_text File none (h File)
  text_before File none h Limit = h Limit
  text_before File none h Degree = h Degree
  text_before File none h Rows = h Rows
  text_before Limit none h File = h File
  text_before Degree none h File = h File
  text_before Limit none h Limit = own_text Limit none (h Limit)
  text_before Degree none h Degree = own_text Degree none (h Degree)
  text_before Limit none h Rows = h Rows
  text_before Degree none h Rows = h Rows
  text_before Limit none h Degree = h Degree
  text_before Rows none h File = h File
  text_before Rows none h Limit = h Limit
  text_before Rows none h Degree = h Degree
  text_before Degree none h Limit = h Limit
  text_before Rows none h Rows = own_text Rows none (h Rows)

-- with an item before them
module _ (v : Values) (arguments : List (List ℕ)) (u : Values) where
  after_file : (argument : List ℕ) → is_option_like argument ≡ false → v File ≡ None → GiveAfter (with_text v File argument) arguments u → GiveAfter v (argument ∷ arguments) u
  after_file argument plain none r = record {
    items = Plain argument ∷ r.items;
    others = r.others;
    are_items = (plain, r.are_items);
    spelt = ap (λ (x : List (List ℕ)). argument ∷ x) r.spelt;
    adds = text_before v u argument (λ p. flat_map (item_texts p) r.items) (λ p. others_for p r.others) File none r.adds;
  }

  after_joined : (option : OptionName) (value : List ℕ) → v (part_of option) ≡ None → GiveAfter (with_text v (part_of option) value) arguments u → GiveAfter v ((spelling option ++ 61 ∷ value) ∷ arguments) u
  after_joined option value none r = record {
    items = Joined option value ∷ r.items;
    others = r.others;
    are_items = (tt, r.are_items);
    spelt = ap (λ (x : List (List ℕ)). (spelling option ++ 61 ∷ value) ∷ x) r.spelt;
    adds = text_before v u value (λ p. flat_map (item_texts p) r.items) (λ p. others_for p r.others) (part_of option) none r.adds;
  }

  after_spaced : (option : OptionName) (value : List ℕ) → v (part_of option) ≡ None → GiveAfter (with_text v (part_of option) value) arguments u → GiveAfter v (spelling option ∷ value ∷ arguments) u
  after_spaced option value none r = record {
    items = Spaced option value ∷ r.items;
    others = r.others;
    are_items = (tt, r.are_items);
    spelt = ap (λ (x : List (List ℕ)). spelling option ∷ value ∷ x) r.spelt;
    adds = text_before v u value (λ p. flat_map (item_texts p) r.items) (λ p. others_for p r.others) (part_of option) none r.adds;
  }

  after_end : GiveFiles v arguments u → GiveAfter v (codes "--" ∷ arguments) u
  after_end h = record { items = []; others = Some arguments; are_items = tt; spelt = refl; adds = h }

-- FILEs
file_before : (v u : Values) (file : List ℕ) (others : List (List ℕ)) → v File ≡ None → GiveFiles (with_text v File file) others u → GiveFiles v (file ∷ others) u
file_before v u file others none h File = subst (λ (o : Option (List ℕ)). option_to_list o ++ file ∷ others ≡ option_to_list (u File)) (sym none) (h File)
file_before v u file others none h Limit = h Limit
file_before v u file others none h Degree = h Degree
file_before v u file others none h Rows = h Rows

files_give : (arguments : List (List ℕ)) (v u : Values) → gathers v Trailing arguments ≡ Some u → GiveFiles v arguments u
files_give [] v u e = nothing_more
  where
    same : v ≡ u
    same = cc

    nothing_more : GiveFiles v [] u
    nothing_more File = append-nil (option_to_list (v File)) ∙ ap (λ (w : Values). option_to_list (w File)) same
    nothing_more Limit = append-nil (option_to_list (v Limit)) ∙ ap (λ (w : Values). option_to_list (w Limit)) same
    nothing_more Degree = append-nil (option_to_list (v Degree)) ∙ ap (λ (w : Values). option_to_list (w Degree)) same
    nothing_more Rows = append-nil (option_to_list (v Rows)) ∙ ap (λ (w : Values). option_to_list (w Rows)) same
files_give (file ∷ others) v u e =
    let p = and_then_some (λ (s : Stage). gathers s.0 s.1 others) (gather v Trailing file) u e in
    let q = then_taken v File file Trailing p.0 p.1 in
    file_before v u file others q.0 (files_give others (with_text v File file) u (ap (λ (s : Stage). gathers s.0 s.1 others) q.1 ∙ p.2))

abbrev GiveAny : List (List ℕ) → Type 0
GiveAny arguments = (v u : Values) → gathers v Any arguments ≡ Some u → GiveAfter v arguments u

abbrev GiveValue : List (List ℕ) → Type 0
GiveValue arguments = (v u : Values) (option : OptionName) → gathers v (Value option) arguments ≡ Some u → GiveByValue v option arguments u

none_more : GiveAny []
none_more v u e = record { items = []; others = None; are_items = tt; spelt = refl; adds = nothing_more }
  where
    same : v ≡ u
    same = cc

    nothing_more : Adds v [] None (λ part. option_to_list (u part))
    nothing_more File = append-nil (option_to_list (v File)) ∙ ap (λ (w : Values). option_to_list (w File)) same
    nothing_more Limit = append-nil (option_to_list (v Limit)) ∙ ap (λ (w : Values). option_to_list (w Limit)) same
    nothing_more Degree = append-nil (option_to_list (v Degree)) ∙ ap (λ (w : Values). option_to_list (w Degree)) same
    nothing_more Rows = append-nil (option_to_list (v Rows)) ∙ ap (λ (w : Values). option_to_list (w Rows)) same

module _ (argument : List ℕ) (more : List (List ℕ)) (give : GiveAny more) where
  from : (s t : Stage) (u : Values) → s ≡ t → gathers t.0 t.1 more ≡ Some u → gathers s.0 s.1 more ≡ Some u
  from s t u same e = ap (λ (x : Stage). gathers x.0 x.1 more) same ∙ e

  value_as : (v u : Values) (option : OptionName) (b : Bool) (s : Stage) → cond b None (stage_by Any (put v (part_of option) argument)) ≡ Some s → gathers s.0 s.1 more ≡ Some u → GiveByValue v option (argument ∷ more) u
  value_as v u option true s e f = cc
  value_as v u option false s e f =
      let q = then_taken v (part_of option) argument Any s e in
      record { value = argument; rest = more; spelt = refl; none = q.0; give = give (with_text v (part_of option) argument) u (from (with_text v (part_of option) argument, Any) s u q.1 f) }

  one_more_value : GiveValue (argument ∷ more)
  one_more_value v u option e =
      let p = and_then_some (λ (s : Stage). gathers s.0 s.1 more) (gather v (Value option) argument) u e in
      value_as v u option (is_option_like argument) p.0 p.1 p.2

  one_more_as : GiveValue more → (v u : Values) (s : Stage) → Takes v argument s → gathers s.0 s.1 more ≡ Some u → GiveAfter v (argument ∷ more) u
  one_more_as with_value v u s (IsEnd is after) e =
      subst (λ (a : List ℕ). GiveAfter v (a ∷ more) u) (sym is) (after_end v more u (files_give more v u (from (v, Trailing) s u after e)))
  one_more_as with_value v u s (IsOption option is after) e =
      let r : GiveByValue v option more u = with_value v u option (from (v, Value option) s u after e) in
      let same : spelling option ∷ r.value ∷ r.rest ≡ argument ∷ more = λ i. sym is i ∷ sym r.spelt i in
      subst (λ (l : List (List ℕ)). GiveAfter v l u) same (after_spaced v r.rest u option r.value r.none r.give)
  one_more_as with_value v u s (IsJoined option value is none after) e =
      subst (λ (a : List ℕ). GiveAfter v (a ∷ more) u) (sym is)
      (after_joined v more u option value none (give (with_text v (part_of option) value) u (from (with_text v (part_of option) value, Any) s u after e)))
  one_more_as with_value v u s (IsFile plain none after) e =
      after_file v more u argument plain none (give (with_text v File argument) u (from (with_text v File argument, Any) s u after e))

  one_more : GiveValue more → GiveAny (argument ∷ more)
  one_more with_value v u e =
      let p = and_then_some (λ (s : Stage). gathers s.0 s.1 more) (gather v Any argument) u e in
      one_more_as with_value v u p.0 (item_taken v argument p.0 (is_option_like argument) refl p.1) p.2

all_give : (arguments : List (List ℕ)) → GiveAny arguments × GiveValue arguments
all_give [] = (none_more, λ v u option e. cc)
all_give (argument ∷ more) = let r = all_give more in (one_more argument more r.0 r.1, one_more_value argument more r.0)

gathered_give : (arguments : List (List ℕ)) (v : Values) → all_given arguments ≡ Some v
    → Give arguments (option_to_list (v File)) (option_to_list (v Limit)) (option_to_list (v Degree)) (option_to_list (v Rows))
gathered_give arguments v e =
    let r : GiveAfter nothing_given arguments v = (all_give arguments).0 nothing_given v e in
    record {
      items = r.items;
      others = r.others;
      are_items = r.are_items;
      spelt = r.spelt;
      files_are = r.adds File;
      limits_are = sym (append-nil (flat_map (item_texts Limit) r.items)) ∙ r.adds Limit;
      degrees_are = sym (append-nil (flat_map (item_texts Degree) r.items)) ∙ r.adds Degree;
      rows_are = sym (append-nil (flat_map (item_texts Rows) r.items)) ∙ r.adds Rows;
    }

-- ---- what is asked for

limit_asked : (o : Option (List ℕ)) (limit : ℕ) → limit_by o ≡ Some limit → IsLimit (option_to_list o) limit
limit_asked None limit e = cc
limit_asked (Some value) limit e = read_is_spelt least_limit store_limit value limit e

degree_asked : (o : Option (List ℕ)) (degree : ℕ) → degree_by o ≡ Some degree → IsDegree (option_to_list o) degree
degree_asked None degree e = cc
degree_asked (Some value) degree e = read_is_spelt 1 greatest_degree value degree e

give_asks : (arguments : List (List ℕ)) (file limit degree rows : Option (List ℕ)) (w : Wanted)
    → Give arguments (option_to_list file) (option_to_list limit) (option_to_list degree) (option_to_list rows) → wanted file limit degree rows ≡ Some w → AskFor arguments w
give_asks arguments (Some file) limit degree None w g e =
    let p = and_then_some (λ (n : ℕ). option_map (Store file n) (degree_by degree)) (limit_by limit) w e in
    let q = option_map_some (Store file p.0) (degree_by degree) w p.2 in
    subst (AskFor arguments) q.2
    (record { limits = option_to_list limit; degrees = option_to_list degree; give = g; limited = limit_asked limit p.0 p.1; parallel = degree_asked degree q.0 q.1 })
give_asks arguments (Some file) limit degree (Some rows) w g e = cc
give_asks arguments None None None (Some value) w g e =
    let p = option_map_some Script (number_of 1 most_rows value) w e in
    subst (AskFor arguments) p.2 (record { value = value; give = g; spells = read_is_spelt 1 most_rows value p.0 p.1 })
give_asks arguments None (Some value) degree rows w g e = cc
give_asks arguments None None (Some value) rows w g e = cc
give_asks arguments None None None None w g e = cc

-- what is asked for by what was given
pub given_asks : (arguments : List (List ℕ)) (v : Values) (file limit degree rows : Option (List ℕ)) (w : Wanted)
    → all_given arguments ≡ Some v → file ≡ v File → limit ≡ v Limit → degree ≡ v Degree → rows ≡ v Rows → wanted file limit degree rows ≡ Some w → AskFor arguments w
given_asks arguments v file limit degree rows w are f l d r e =
    give_asks arguments (v File) (v Limit) (v Degree) (v Rows) w (gathered_give arguments v are) (rw (← f, ← l, ← d, ← r) e)

pub given_ask_nothing : (arguments : List (List ℕ)) (v : Values) (file limit degree rows : Option (List ℕ))
    → all_given arguments ≡ Some v → file ≡ v File → limit ≡ v Limit → degree ≡ v Degree → rows ≡ v Rows → wanted file limit degree rows ≡ None → AskForNothing arguments
given_ask_nothing arguments v file limit degree rows are f l d r e = refused arguments (ap (option_and_then wanted_of) are ∙ rw (← f, ← l, ← d, ← r) e)

pub nothing_gathered : (arguments : List (List ℕ)) → all_given arguments ≡ None → AskForNothing arguments
nothing_gathered arguments none = refused arguments (ap (option_and_then wanted_of) none)

-- ---- what the code answers

pub asked_some : (arguments : List (List ℕ)) (given : Given) (o : Option Asked) → IsGiven arguments given
    → option_map wanted_by o ≡ wanted (option_map (λ f. f.now) given.file) (option_map (λ l. l.now) given.limit) (option_map (λ d. d.now) given.degree) (option_map (λ r. r.now) given.rows)
    → IfSome o (λ a. AskFor arguments (wanted_by a))
asked_some arguments given None is e = tt
asked_some arguments given (Some a) is e = given_asks arguments is.values _ _ _ _ (wanted_by a) is.are is.file is.limit is.degree is.rows (sym e)

pub asked_none : (arguments : List (List ℕ)) (given : Given) (o : Option Asked) → IsGiven arguments given
    → option_map wanted_by o ≡ wanted (option_map (λ f. f.now) given.file) (option_map (λ l. l.now) given.limit) (option_map (λ d. d.now) given.degree) (option_map (λ r. r.now) given.rows)
    → IfNone o (AskForNothing arguments)
asked_none arguments given None is e = given_ask_nothing arguments is.values _ _ _ _ is.are is.file is.limit is.degree is.rows (sym e)
asked_none arguments given (Some a) is e = tt
