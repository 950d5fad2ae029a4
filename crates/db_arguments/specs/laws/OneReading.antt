-- Whatever the arguments ask for is what is read from them, so they ask for at most one thing.
use Rattle.std.specs.Prelude.{ℕ, ◌≡◌, ◌≤◌, nat_le, suc, Bool, true, false, List, [], ◌∷◌, ◌++◌, length, codes, Option, Some, None, unwrap_or, option_and_then, is_none, refl}
use Rattle.std.specs.Bool.{if◌then◌else◌}
use Rattle.std.specs.List.{flat_map, list_all, AllByRecursion}
use Rattle.std.specs.Option.{option_map, option_to_list}
use Rattle.std.specs.Char.{is_ascii_digit}
use Rattle.std.specs.Str.Parse.{digits_value}
use Rattle.std.proofs.Common.{sym, ap, ◌∙◌, subst, arith, append-nil, true≢false, ne_eqb}
use Rattle.std.proofs.lemmas.Bool.{and_from, and_parts, le-leb, leb-true, cond-true}
use Rattle.std.proofs.lemmas.Option.{none-some}
use Rattle.db_arguments.specs.Arguments.{Part, File, Limit, Degree, Rows, OptionName, LimitOption, DegreeOption, GenerateOption, spelling, part_of, is_part, if_part, Item, Spaced, Joined, Plain, item_arguments, item_texts, IsItem, after_items, Give, IsLimit, IsDegree, Spells, AskForNothing, least_limit, store_limit, greatest_degree, most_rows, is_option_like}
use Rattle.db_arguments.specs.Gathering.{Values, Next, Any, Value, Trailing, Stage, nothing_given, with_text, put, stage_by, gather, gathers, all_given}
use Rattle.db_arguments.specs.Reading.{Wanted, Store, Script, AskFor, number_of, is_number, is_in_range, limit_by, degree_by, wanted}
use Rattle.db_arguments.specs.Promises.{OneReading}

-- ---- numbers

-- a value that spells a number is read as it
pub spelt_is_read : (least greatest : ℕ) (value : List ℕ) (number : ℕ) → Spells least greatest value number → number_of least greatest value ≡ Some number
spelt_is_read least greatest value number is =
    let least_is : least ≤ digits_value 10 value = omega (arith, is.is, is.at_least) in
    let greatest_is : digits_value 10 value ≤ greatest = omega (arith, is.is, is.at_most) in
    let digits : is_number value ≡ true = and_from _ _ is.digits (and_from _ _ (le-leb _ _ is.not_empty) (le-leb _ _ is.at_most_twenty)) in
    let fits : is_in_range least greatest (digits_value 10 value) ≡ true = and_from _ _ (le-leb _ _ least_is) (le-leb _ _ greatest_is) in
    cond-true _ (Some (digits_value 10 value)) None (and_from _ _ digits fits) ∙ ap Some is.is

-- a text that looks like no option
abbrev pub IsValue : List ℕ → Type 0
IsValue text = is_option_like text ≡ false

-- digits don't
digits_are_value : (value : List ℕ) → list_all is_ascii_digit value ≡ true → IsValue value
digits_are_value [] digits = refl
digits_are_value (b ∷ []) digits = refl
digits_are_value (b ∷ c ∷ cs) digits =
    let first : is_ascii_digit b ≡ true = (and_parts (is_ascii_digit b) (list_all is_ascii_digit (c ∷ cs)) digits).0 in
    let least : 48 ≤ b = leb-true 48 b (and_parts (nat_le 48 b) (nat_le b 57) first).0 in
    ne_eqb b 45 (λ same. omega (arith, least, same))

-- ---- the texts of each part

-- the other arguments are FILEs
abbrev pub others_for : Part → Option (List (List ℕ)) → List (List ℕ)
others_for File others = unwrap_or others []
others_for Limit others = []
others_for Degree others = []
others_for Rows others = []

-- what was given to each part, and what these items and other arguments give to it, are these texts
abbrev pub Adds : Values → List Item → Option (List (List ℕ)) → (Part → List (List ℕ)) → Type 0
Adds v items others texts = (part : Part) → option_to_list (v part) ++ (flat_map (item_texts part) items ++ others_for part others) ≡ texts part

-- no part has two
abbrev pub AtMostOne : (Part → List (List ℕ)) → Type 0
AtMostOne texts = (part : Part) → length (texts part) ≤ 1

-- these are the texts that were given
abbrev pub AreTexts : Values → (Part → List (List ℕ)) → Type 0
AreTexts v texts = (part : Part) → option_to_list (v part) ≡ texts part

pub record Gathers (v : Values) (next : Next) (arguments : List (List ℕ)) (texts : Part → List (List ℕ)) : Type 0 where
  pub values : Values
  pub are : gathers v next arguments ≡ Some values
  pub have : AreTexts values texts

-- ---- one text more

put_is : (v : Values) (part : Part) (text : List ℕ) → v part ≡ None → put v part text ≡ Some (with_text v part text)
put_is v part text none = ap (λ (o : Option (List ℕ)). if is_none o then Some (with_text v part text) else None) none

one_only : (given : Option (List ℕ)) (text : List ℕ) (more all : List (List ℕ)) → option_to_list given ++ text ∷ more ≡ all → length all ≤ 1 → given ≡ None
one_only None text more all is few = refl
one_only (Some other) text more all is few = let counts : suc (suc (length more)) ≡ length all = ap length is in absurd (omega (arith, counts, few))

module _ (v : Values) (text : List ℕ) (r s texts : Part → List (List ℕ)) where
  abbrev Before : Part → Type 0
  Before part = (p : Part) → option_to_list (v p) ++ ((if_part (is_part p part) text ++ r p) ++ s p) ≡ texts p

  abbrev After : Part → Type 0
  After part = (p : Part) → option_to_list (with_text v part text p) ++ (r p ++ s p) ≡ texts p

  none_before : (part : Part) → Before part → AtMostOne texts → v part ≡ None
  none_before File h few = one_only (v File) text (r File ++ s File) (texts File) (h File) (few File)
  none_before Limit h few = one_only (v Limit) text (r Limit ++ s Limit) (texts Limit) (h Limit) (few Limit)
  none_before Degree h few = one_only (v Degree) text (r Degree ++ s Degree) (texts Degree) (h Degree) (few Degree)
  none_before Rows h few = one_only (v Rows) text (r Rows ++ s Rows) (texts Rows) (h Rows) (few Rows)

  -- the text is the first one of its part
  first_text : (part : Part) → Before part → v part ≡ None → text ∷ (r part ++ s part) ≡ texts part
  first_text File h none = subst (λ (o : Option (List ℕ)). option_to_list o ++ text ∷ (r File ++ s File) ≡ texts File) none (h File)
  first_text Limit h none = subst (λ (o : Option (List ℕ)). option_to_list o ++ text ∷ (r Limit ++ s Limit) ≡ texts Limit) none (h Limit)
  first_text Degree h none = subst (λ (o : Option (List ℕ)). option_to_list o ++ text ∷ (r Degree ++ s Degree) ≡ texts Degree) none (h Degree)
  first_text Rows h none = subst (λ (o : Option (List ℕ)). option_to_list o ++ text ∷ (r Rows ++ s Rows) ≡ texts Rows) none (h Rows)

  put_after : (part : Part) → Before part → v part ≡ None → After part
  put_after File h none File = first_text File h none
  put_after File h none Limit = h Limit
  put_after File h none Degree = h Degree
  put_after File h none Rows = h Rows
  put_after Limit h none File = h File
  put_after Degree h none File = h File
  put_after Limit h none Limit = first_text Limit h none
  put_after Degree h none Degree = first_text Degree h none
  put_after Limit h none Rows = h Rows
  put_after Degree h none Rows = h Rows
  put_after Limit h none Degree = h Degree
  put_after Rows h none File = h File
  put_after Rows h none Limit = h Limit
  put_after Rows h none Degree = h Degree
  put_after Degree h none Limit = h Limit
  put_after Rows h none Rows = first_text Rows h none

-- one argument, and then the others
one_then : (v : Values) (next : Next) (argument : List ℕ) (others : List (List ℕ)) (s : Stage) → gather v next argument ≡ Some s → gathers v next (argument ∷ others) ≡ gathers s.0 s.1 others
one_then v next argument others s is = ap (option_and_then (λ (t : Stage). gathers t.0 t.1 others)) is

gathers_then : (v : Values) (next : Next) (argument : List ℕ) (others : List (List ℕ)) (s : Stage) (texts : Part → List (List ℕ))
    → gather v next argument ≡ Some s → Gathers s.0 s.1 others texts → Gathers v next (argument ∷ others) texts
gathers_then v next argument others s texts is g = record { values = g.values; are = one_then v next argument others s is ∙ g.are; have = g.have }

file_step : (v : Values) (file : List ℕ) → IsValue file → v File ≡ None → gather v Any file ≡ Some (with_text v File file, Any)
file_step v file plain none = rw plain (ap (stage_by Any) (put_is v File file none))

value_step : (v : Values) (option : OptionName) (value : List ℕ) → IsValue value → v (part_of option) ≡ None → gather v (Value option) value ≡ Some (with_text v (part_of option) value, Any)
value_step v option value plain none = rw plain (ap (stage_by Any) (put_is v (part_of option) value none))

trailing_step : (v : Values) (file : List ℕ) → v File ≡ None → gather v Trailing file ≡ Some (with_text v File file, Trailing)
trailing_step v file none = ap (stage_by Trailing) (put_is v File file none)

option_step : (v : Values) (option : OptionName) → gather v Any (spelling option) ≡ Some (v, Value option)
option_step v LimitOption = refl
option_step v DegreeOption = refl
option_step v GenerateOption = refl

joined_step : (v : Values) (option : OptionName) (value : List ℕ) → v (part_of option) ≡ None → gather v Any (spelling option ++ 61 ∷ value) ≡ Some (with_text v (part_of option) value, Any)
joined_step v LimitOption value none = ap (stage_by Any) (put_is v Limit value none)
joined_step v DegreeOption value none = ap (stage_by Any) (put_is v Degree value none)
joined_step v GenerateOption value none = ap (stage_by Any) (put_is v Rows value none)

-- ---- all arguments

-- the values of options look like no option
abbrev pub HaveValues : (Part → List (List ℕ)) → Type 0
HaveValues texts = (option : OptionName) → AllByRecursion IsValue (texts (part_of option))

-- FILEs, in a list that is taken element by element
abbrev each_file : List (List ℕ) → Part → List (List ℕ)
each_file files File = files
each_file files Limit = []
each_file files Degree = []
each_file files Rows = []

file_first : (file : List ℕ) (others : List (List ℕ)) (part : Part) → others_for part (Some (file ∷ others)) ≡ (if_part (is_part part File) file ++ others_for part (Some others)) ++ []
file_first file others File = sym (append-nil (file ∷ others))
file_first file others Limit = refl
file_first file others Degree = refl
file_first file others Rows = refl

others_are_read : (others : List (List ℕ)) (v : Values) (texts : Part → List (List ℕ))
    → ((part : Part) → option_to_list (v part) ++ others_for part (Some others) ≡ texts part) → AtMostOne texts → Gathers v Trailing others texts
others_are_read [] v texts h few = record { values = v; are = refl; have = nothing_more }
  where
    nothing_more : AreTexts v texts
    nothing_more File = sym (append-nil (option_to_list (v File))) ∙ h File
    nothing_more Limit = sym (append-nil (option_to_list (v Limit))) ∙ h Limit
    nothing_more Degree = sym (append-nil (option_to_list (v Degree))) ∙ h Degree
    nothing_more Rows = sym (append-nil (option_to_list (v Rows))) ∙ h Rows
others_are_read (file ∷ others) v texts h few =
    let r = λ (p : Part). others_for p (Some others) in
    let s : Part → List (List ℕ) = λ p. [] in
    let before : Before v file r s texts File = λ p. ap (λ (x : List (List ℕ)). option_to_list (v p) ++ x) (sym (file_first file others p)) ∙ h p in
    let none = none_before v file r s texts File before few in
    let after = put_after v file r s texts File before none in
    gathers_then v Trailing file others (with_text v File file, Trailing) texts (trailing_step v file none)
    (others_are_read others (with_text v File file) texts (λ p. ap (λ (x : List (List ℕ)). option_to_list (with_text v File file p) ++ x) (sym (append-nil (r p))) ∙ after p) few)

items_are_read : (items : List Item) (others : Option (List (List ℕ))) (v : Values) (texts : Part → List (List ℕ))
    → AllByRecursion IsItem items → Adds v items others texts → AtMostOne texts → HaveValues texts
    → Gathers v Any (flat_map item_arguments items ++ after_items others) texts
items_are_read [] None v texts are h few values = record { values = v; are = refl; have = nothing_more }
  where
    nothing_more : AreTexts v texts
    nothing_more File = sym (append-nil (option_to_list (v File))) ∙ h File
    nothing_more Limit = sym (append-nil (option_to_list (v Limit))) ∙ h Limit
    nothing_more Degree = sym (append-nil (option_to_list (v Degree))) ∙ h Degree
    nothing_more Rows = sym (append-nil (option_to_list (v Rows))) ∙ h Rows
items_are_read [] (Some others) v texts are h few values =
    gathers_then v Any (codes "--") others (v, Trailing) texts refl (others_are_read others v texts h few)
items_are_read (Plain file ∷ items) others v texts are h few values =
    let r = λ (p : Part). flat_map (item_texts p) items in
    let s = λ (p : Part). others_for p others in
    let none = none_before v file r s texts File h few in
    gathers_then v Any file (flat_map item_arguments items ++ after_items others) (with_text v File file, Any) texts (file_step v file are.0 none)
    (items_are_read items others (with_text v File file) texts are.1 (put_after v file r s texts File h none) few values)
items_are_read (Spaced option value ∷ items) others v texts are h few values =
    let r = λ (p : Part). flat_map (item_texts p) items in
    let s = λ (p : Part). others_for p others in
    let none = none_before v value r s texts (part_of option) h few in
    let plain : IsValue value = (subst (AllByRecursion IsValue) (sym (first_text v value r s texts (part_of option) h none)) (values option)).0 in
    let rest = flat_map item_arguments items ++ after_items others in
    gathers_then v Any (spelling option) (value ∷ rest) (v, Value option) texts (option_step v option)
    (gathers_then v (Value option) value rest (with_text v (part_of option) value, Any) texts (value_step v option value plain none)
    (items_are_read items others (with_text v (part_of option) value) texts are.1 (put_after v value r s texts (part_of option) h none) few values))
items_are_read (Joined option value ∷ items) others v texts are h few values =
    let r = λ (p : Part). flat_map (item_texts p) items in
    let s = λ (p : Part). others_for p others in
    let none = none_before v value r s texts (part_of option) h few in
    gathers_then v Any (spelling option ++ 61 ∷ value) (flat_map item_arguments items ++ after_items others) (with_text v (part_of option) value, Any) texts (joined_step v option value none)
    (items_are_read items others (with_text v (part_of option) value) texts are.1 (put_after v value r s texts (part_of option) h none) few values)

-- the texts of the parts
abbrev pub texts_by : List (List ℕ) → List (List ℕ) → List (List ℕ) → List (List ℕ) → Part → List (List ℕ)
texts_by files limits degrees rows File = files
texts_by files limits degrees rows Limit = limits
texts_by files limits degrees rows Degree = degrees
texts_by files limits degrees rows Rows = rows

given_adds : (arguments files limits degrees rows : List (List ℕ)) (g : Give arguments files limits degrees rows) → Adds nothing_given g.items g.others (texts_by files limits degrees rows)
given_adds arguments files limits degrees rows g File = g.files_are
given_adds arguments files limits degrees rows g Limit = append-nil (flat_map (item_texts Limit) g.items) ∙ g.limits_are
given_adds arguments files limits degrees rows g Degree = append-nil (flat_map (item_texts Degree) g.items) ∙ g.degrees_are
given_adds arguments files limits degrees rows g Rows = append-nil (flat_map (item_texts Rows) g.items) ∙ g.rows_are

-- what arguments give is read, where no part has two texts, and values of options look like no option
pub given_is_read : (arguments files limits degrees rows : List (List ℕ)) → Give arguments files limits degrees rows → AtMostOne (texts_by files limits degrees rows) → HaveValues (texts_by files limits degrees rows)
    → Gathers nothing_given Any arguments (texts_by files limits degrees rows)
given_is_read arguments files limits degrees rows g few values =
    let read = items_are_read g.items g.others nothing_given (texts_by files limits degrees rows) g.are_items (given_adds arguments files limits degrees rows g) few values in
    record { values = read.values; are = ap (gathers nothing_given Any) g.spelt ∙ read.are; have = read.have }

-- ---- what is asked for

-- what is asked for by what was given
abbrev pub wanted_of : Values → Option Wanted
wanted_of v = wanted (v File) (v Limit) (v Degree) (v Rows)

-- what arguments ask for is what is read from them
abbrev pub IsRead : List (List ℕ) → Wanted → Type 0
IsRead arguments w = option_and_then wanted_of (all_given arguments) ≡ Some w

same_given : (o p : Option (List ℕ)) → option_to_list o ≡ option_to_list p → o ≡ p
same_given None None is = refl
same_given None (Some text) is = cc
same_given (Some text) None is = cc
same_given (Some text) (Some other) is = cc

read_by : (arguments : List (List ℕ)) (v : Values) (w : Wanted) (file limit degree rows : Option (List ℕ))
    → all_given arguments ≡ Some v → v File ≡ file → v Limit ≡ limit → v Degree ≡ degree → v Rows ≡ rows → wanted file limit degree rows ≡ Some w → IsRead arguments w
read_by arguments v w file limit degree rows are f l d r is = ap (option_and_then wanted_of) are ∙ rw (f, l, d, r) is

-- The texts of an option are at most one value, which is read as this number.
pub record IsReadAs (read : Option (List ℕ) → Option ℕ) (texts : List (List ℕ)) (number : ℕ) : Type 0 where
  pub given : Option (List ℕ)
  pub are : texts ≡ option_to_list given
  pub few : length texts ≤ 1
  pub values : AllByRecursion IsValue texts
  pub is : read given ≡ Some number

limit_is_read : (limits : List (List ℕ)) (limit : ℕ) → IsLimit limits limit → IsReadAs limit_by limits limit
limit_is_read [] limit is = record { given = None; are = refl; few = omega arith; values = tt; is = ap Some (sym is) }
limit_is_read (value ∷ []) limit is =
    record { given = Some value; are = refl; few = omega arith; values = (digits_are_value value is.digits, tt); is = spelt_is_read least_limit store_limit value limit is }
limit_is_read (value ∷ another ∷ more) limit is = absurd is

degree_is_read : (degrees : List (List ℕ)) (degree : ℕ) → IsDegree degrees degree → IsReadAs degree_by degrees degree
degree_is_read [] degree is = record { given = None; are = refl; few = omega arith; values = tt; is = ap Some (sym is) }
degree_is_read (value ∷ []) degree is =
    record { given = Some value; are = refl; few = omega arith; values = (digits_are_value value is.digits, tt); is = spelt_is_read 1 greatest_degree value degree is }
degree_is_read (value ∷ another ∷ more) degree is = absurd is

-- a store, by the values of the limit and of the degree
store_is_read : (arguments : List (List ℕ)) (file : List ℕ) (limits degrees : List (List ℕ)) (limit degree : ℕ) → Give arguments (file ∷ []) limits degrees []
    → IsReadAs limit_by limits limit → IsReadAs degree_by degrees degree → IsRead arguments (Store file limit degree)
store_is_read arguments file limits degrees limit degree g l d =
    let read = given_is_read arguments (file ∷ []) limits degrees [] g few values in
    read_by arguments read.values (Store file limit degree) (Some file) l.given d.given None read.are
    (same_given _ (Some file) (read.have File)) (same_given _ l.given (read.have Limit ∙ l.are)) (same_given _ d.given (read.have Degree ∙ d.are)) (same_given _ None (read.have Rows))
    (ap (option_and_then (λ (n : ℕ). option_map (Store file n) (degree_by d.given))) l.is ∙ ap (option_map (Store file limit)) d.is)
  where
    few : AtMostOne (texts_by (file ∷ []) limits degrees [])
    few File = omega arith
    few Limit = l.few
    few Degree = d.few
    few Rows = omega arith

    values : HaveValues (texts_by (file ∷ []) limits degrees [])
    values LimitOption = l.values
    values DegreeOption = d.values
    values GenerateOption = tt

rows_are_read : (arguments : List (List ℕ)) (value : List ℕ) (rows : ℕ) → Give arguments [] [] [] (value ∷ []) → Spells 1 most_rows value rows → IsRead arguments (Script rows)
rows_are_read arguments value rows g is =
    let read = given_is_read arguments [] [] [] (value ∷ []) g few values in
    read_by arguments read.values (Script rows) None None None (Some value) read.are
    (same_given _ None (read.have File)) (same_given _ None (read.have Limit)) (same_given _ None (read.have Degree)) (same_given _ (Some value) (read.have Rows))
    (ap (option_map Script) (spelt_is_read 1 most_rows value rows is))
  where
    few : AtMostOne (texts_by [] [] [] (value ∷ []))
    few File = omega arith
    few Limit = omega arith
    few Degree = omega arith
    few Rows = omega arith

    values : HaveValues (texts_by [] [] [] (value ∷ []))
    values LimitOption = tt
    values DegreeOption = tt
    values GenerateOption = (digits_are_value value is.digits, tt)

pub asked_is_read : (arguments : List (List ℕ)) (w : Wanted) → AskFor arguments w → IsRead arguments w
asked_is_read arguments (Store file limit degree) asks =
    store_is_read arguments file asks.limits asks.degrees limit degree asks.give (limit_is_read asks.limits limit asks.limited) (degree_is_read asks.degrees degree asks.parallel)
asked_is_read arguments (Script rows) asks = rows_are_read arguments asks.value rows asks.give asks.spells

same_wanted : (arguments : List (List ℕ)) (w u : Wanted) → AskFor arguments w → AskFor arguments u → w ≡ u
same_wanted arguments w u asks too = let e : ◌≡◌ {A = Option Wanted} (Some w) (Some u) = sym (asked_is_read arguments w asks) ∙ asked_is_read arguments u too in cc

abbrev file_in : Wanted → List ℕ
file_in (Store file limit degree) = file
file_in (Script rows) = []

abbrev number_in : Wanted → ℕ
number_in (Store file limit degree) = limit
number_in (Script rows) = rows

abbrev degree_in : Wanted → ℕ
degree_in (Store file limit degree) = degree
degree_in (Script rows) = 0

abbrev is_store : Wanted → Bool
is_store (Store file limit degree) = true
is_store (Script rows) = false

pub one_reading : OneReading
one_reading = record {
  one_store = λ arguments file another limit other asks too.
      let e = same_wanted arguments (Store file limit asks.0) (Store another other too.0) asks.1 too.1 in (ap file_in e, ap number_in e);
  one_degree = λ arguments file another limit other degree more asks too. ap degree_in (same_wanted arguments (Store file limit degree) (Store another other more) asks too);
  one_number = λ arguments rows others asks too. ap number_in (same_wanted arguments (Script rows) (Script others) asks too);
  not_both = λ arguments file limit rows asks too. true≢false (ap is_store (same_wanted arguments (Store file limit asks.0) (Script rows) asks.1 too));
}

-- ---- what is refused

pub refused : (arguments : List (List ℕ)) → option_and_then wanted_of (all_given arguments) ≡ None → AskForNothing arguments
refused arguments none =
    (λ file limit asks. none-some (Store file limit asks.0) (sym none ∙ asked_is_read arguments (Store file limit asks.0) asks.1), λ rows asks. none-some (Script rows) (sym none ∙ asked_is_read arguments (Script rows) asks))

-- computed examples: no FILE, or two of them
no_file : AskForNothing (codes "--limit=5000" ∷ codes "--" ∷ [])
no_file = refused _ refl

two_files : AskForNothing (codes "a" ∷ codes "--" ∷ codes "b" ∷ [])
two_files = refused _ refl

-- another option, an option twice, and an option without a value
other_option : AskForNothing (codes "--help" ∷ codes "a" ∷ [])
other_option = refused _ refl

option_twice : AskForNothing (codes "--limit=5000" ∷ codes "a" ∷ codes "--limit" ∷ codes "5000" ∷ [])
option_twice = refused _ refl

no_value : AskForNothing (codes "a" ∷ codes "--limit" ∷ [])
no_value = refused _ refl

-- values that are no number, and numbers that are no limit
dashes_as_value : AskForNothing (codes "--limit" ∷ codes "--" ∷ codes "a" ∷ [])
dashes_as_value = refused _ refl

long_value : AskForNothing (codes "--limit=000000000000000005000" ∷ codes "a" ∷ [])
long_value = refused _ refl

small_limit : AskForNothing (codes "--limit=4095" ∷ codes "a" ∷ [])
small_limit = refused _ refl

large_limit : AskForNothing (codes "--limit=68719476737" ∷ codes "a" ∷ [])
large_limit = refused _ refl

-- numbers that are no degree, and a degree twice
no_threads : AskForNothing (codes "a" ∷ codes "--degree=0" ∷ [])
no_threads = refused _ refl

many_threads : AskForNothing (codes "--degree" ∷ codes "17" ∷ codes "a" ∷ [])
many_threads = refused _ refl

degree_twice : AskForNothing (codes "--degree=4" ∷ codes "a" ∷ codes "--degree=4" ∷ [])
degree_twice = refused _ refl

-- a number of rows beside a FILE, a limit or a degree, and numbers of rows that are too small or too large
rows_with_file : AskForNothing (codes "--generate=8" ∷ codes "a" ∷ [])
rows_with_file = refused _ refl

rows_with_limit : AskForNothing (codes "--generate=8" ∷ codes "--limit=5000" ∷ [])
rows_with_limit = refused _ refl

rows_with_degree : AskForNothing (codes "--generate=8" ∷ codes "--degree" ∷ codes "1" ∷ [])
rows_with_degree = refused _ refl

no_rows : AskForNothing (codes "--generate=0" ∷ [])
no_rows = refused _ refl

too_many_rows : AskForNothing (codes "--generate" ∷ codes "100001" ∷ [])
too_many_rows = refused _ refl
