-- What the arguments of the command ask for: `ctxsql FILE [--limit N] [--degree N]` and `ctxsql --generate N`. Texts are lists of bytes, and `-` is the byte 45.
use Rattle.std.specs.Prelude.{ℕ, ◌≡◌, ◌≤◌, ◌^◌, ◌==◌, Bool, true, false, List, [], ◌∷◌, ◌++◌, length, codes, Option, Some, None, unwrap_or, refl}
use Rattle.std.specs.Char.{is_ascii_digit}
use Rattle.std.specs.List.{flat_map, list_all, AllByRecursion}
use Rattle.std.specs.Str.Parse.{digits_value}
use Rattle.std.proofs.Common.{lit≤}

-- how much the content of the store may weigh: the greatest limit that an option may give, and the limit where none gives one
abbrev pub store_limit : ℕ
store_limit = 2 ^ 36

-- the least limit that an option may give
abbrev pub least_limit : ℕ
least_limit = 4096

-- how many threads may be at work on a statement: the greatest degree that an option may give, and the degree where none gives one
abbrev pub greatest_degree : ℕ
greatest_degree = 16

abbrev pub default_degree : ℕ
default_degree = 1

-- the most rows that a script may be generated for
abbrev pub most_rows : ℕ
most_rows = 100000

-- The argument begins with `-`, and isn't `-` alone.
abbrev pub is_option_like : List ℕ → Bool
is_option_like [] = false
is_option_like (b ∷ []) = false
is_option_like (b ∷ c ∷ cs) = b == 45

-- what arguments may give: a FILE, and the values of `--limit`, `--degree` and `--generate`
pub data Part : Type 0 where
  File : Part
  Limit : Part
  Degree : Part
  Rows : Part

-- the options
pub data OptionName : Type 0 where
  LimitOption : OptionName
  DegreeOption : OptionName
  GenerateOption : OptionName

abbrev pub spelling : OptionName → List ℕ
spelling LimitOption = codes "--limit"
spelling DegreeOption = codes "--degree"
spelling GenerateOption = codes "--generate"

-- the part that an option gives
abbrev pub part_of : OptionName → Part
part_of LimitOption = Limit
part_of DegreeOption = Degree
part_of GenerateOption = Rows

-- what stands before a `--`, item by item
pub data Item : Type 0 where
  -- an option, with its value as the next argument
  Spaced : OptionName → List ℕ → Item
  -- an option, with its value after `=`
  Joined : OptionName → List ℕ → Item
  -- a FILE
  Plain : List ℕ → Item

-- the arguments that are this item
abbrev pub item_arguments : Item → List (List ℕ)
item_arguments (Spaced option value) = spelling option ∷ value ∷ []
item_arguments (Joined option value) = (spelling option ++ 61 ∷ value) ∷ []
item_arguments (Plain file) = file ∷ []

-- a FILE before a `--` doesn't look like an option; a value may be any text
abbrev pub IsItem : Item → Type 0
IsItem (Spaced option value) = Unit {0}
IsItem (Joined option value) = Unit {0}
IsItem (Plain file) = is_option_like file ≡ false

-- whether two parts are the same one
abbrev pub is_part : Part → Part → Bool
is_part File File = true
is_part Limit Limit = true
is_part Degree Degree = true
is_part Rows Rows = true
is_part part other = false

-- what one argument gives to a part, where it gives this text to another
abbrev pub if_part : Bool → List ℕ → List (List ℕ)
if_part true text = text ∷ []
if_part false text = []

-- the texts that an item gives to a part
abbrev pub item_texts : Part → Item → List (List ℕ)
item_texts part (Spaced option value) = if_part (is_part part (part_of option)) value
item_texts part (Joined option value) = if_part (is_part part (part_of option)) value
item_texts part (Plain file) = if_part (is_part part File) file

-- after the items: nothing, or a `--` and other arguments
abbrev pub after_items : Option (List (List ℕ)) → List (List ℕ)
after_items None = []
after_items (Some others) = codes "--" ∷ others

-- The arguments are items, and then perhaps a `--` and other arguments, each of which is a FILE. These are their FILEs, and these are the values that they give to the options.
pub record Give (arguments files limits degrees rows : List (List ℕ)) : Type 0 where
  pub items : List Item
  pub others : Option (List (List ℕ))
  pub are_items : AllByRecursion IsItem items
  pub spelt : arguments ≡ flat_map item_arguments items ++ after_items others
  pub files_are : flat_map (item_texts File) items ++ unwrap_or others [] ≡ files
  pub limits_are : flat_map (item_texts Limit) items ≡ limits
  pub degrees_are : flat_map (item_texts Degree) items ≡ degrees
  pub rows_are : flat_map (item_texts Rows) items ≡ rows

-- The value has 1 to 20 digits, and spells a number from `least` to `greatest`.
pub record Spells (least greatest : ℕ) (value : List ℕ) (number : ℕ) : Type 0 where
  pub digits : list_all is_ascii_digit value ≡ true
  pub not_empty : 1 ≤ length value
  pub at_most_twenty : length value ≤ 20
  pub is : digits_value 10 value ≡ number
  pub at_least : least ≤ number
  pub at_most : number ≤ greatest

-- the limit where the option is given these values: at most one
abbrev pub IsLimit : List (List ℕ) → ℕ → Type 0
IsLimit [] limit = limit ≡ store_limit
IsLimit (value ∷ []) limit = Spells least_limit store_limit value limit
IsLimit (value ∷ another ∷ more) limit = ⊥

-- the degree where the option is given these values: at most one
abbrev pub IsDegree : List (List ℕ) → ℕ → Type 0
IsDegree [] degree = degree ≡ default_degree
IsDegree (value ∷ []) degree = Spells 1 greatest_degree value degree
IsDegree (value ∷ another ∷ more) degree = ⊥

-- THE STORE: the arguments have one FILE, at most one limit and one degree, and no number of rows.
pub record AsksForStore (arguments : List (List ℕ)) (file : List ℕ) (limit degree : ℕ) : Type 0 where
  pub limits : List (List ℕ)
  pub degrees : List (List ℕ)
  pub give : Give arguments (file ∷ []) limits degrees []
  pub limited : IsLimit limits limit
  pub parallel : IsDegree degrees degree

-- the same, whatever the degree
abbrev pub AsksFor : List (List ℕ) → List ℕ → ℕ → Type 0
AsksFor arguments file limit = (degree : ℕ) × AsksForStore arguments file limit degree

-- A GENERATED SCRIPT: the arguments have a number of rows, and nothing else.
pub record AsksForRows (arguments : List (List ℕ)) (rows : ℕ) : Type 0 where
  pub value : List ℕ
  pub give : Give arguments [] [] [] (value ∷ [])
  pub spells : Spells 1 most_rows value rows

-- there is no store that the arguments ask for
abbrev pub AskForNoStore : List (List ℕ) → Type 0
AskForNoStore arguments = (file : List ℕ) (limit : ℕ) → AsksFor arguments file limit → ⊥

-- there is nothing that the arguments ask for
abbrev pub AskForNothing : List (List ℕ) → Type 0
AskForNothing arguments = AskForNoStore arguments × ((rows : ℕ) → AsksForRows arguments rows → ⊥)

-- ---- computed examples; what is refused stands in `laws/OneReading.antt`

-- a FILE alone, which may be `-`
alone : (file : List ℕ) → is_option_like file ≡ false → AsksForStore (file ∷ []) file 68719476736 1
alone file plain = record {
  limits = [];
  degrees = [];
  give = record { items = Plain file ∷ []; others = None; are_items = (plain, tt); spelt = refl; files_are = refl; limits_are = refl; degrees_are = refl; rows_are = refl };
  limited = refl;
  parallel = refl;
}

pub file_alone : AsksForStore (codes "a.db" ∷ []) (codes "a.db") 68719476736 1
file_alone = alone (codes "a.db") refl

dash_alone : AsksForStore (codes "-" ∷ []) (codes "-") 68719476736 1
dash_alone = alone (codes "-") refl

-- values with and without leading zeros, and the greatest limit
five_thousand : Spells least_limit store_limit (codes "5000") 5000
five_thousand = record { digits = refl; not_empty = lit≤ tt; at_most_twenty = lit≤ tt; is = refl; at_least = lit≤ tt; at_most = lit≤ tt }

least_with_zeros : Spells least_limit store_limit (codes "00000000000000004096") 4096
least_with_zeros = record { digits = refl; not_empty = lit≤ tt; at_most_twenty = lit≤ tt; is = refl; at_least = lit≤ tt; at_most = lit≤ tt }

greatest_limit : Spells least_limit store_limit (codes "68719476736") store_limit
greatest_limit = record { digits = refl; not_empty = lit≤ tt; at_most_twenty = lit≤ tt; is = refl; at_least = lit≤ tt; at_most = lit≤ tt }

-- the option before the FILE, with its value as the next argument
value_spaced : AsksForStore (codes "--limit" ∷ codes "5000" ∷ codes "a.db" ∷ []) (codes "a.db") 5000 1
value_spaced = record {
  limits = codes "5000" ∷ [];
  degrees = [];
  give = record { items = Spaced LimitOption (codes "5000") ∷ Plain (codes "a.db") ∷ []; others = None; are_items = (tt, (refl, tt)); spelt = refl; files_are = refl; limits_are = refl; degrees_are = refl; rows_are = refl };
  limited = five_thousand;
  parallel = refl;
}

-- the option after it, with its value after `=`
value_joined : AsksForStore (codes "a.db" ∷ codes "--limit=00000000000000004096" ∷ []) (codes "a.db") 4096 1
value_joined = record {
  limits = codes "00000000000000004096" ∷ [];
  degrees = [];
  give = record { items = Plain (codes "a.db") ∷ Joined LimitOption (codes "00000000000000004096") ∷ []; others = None; are_items = (refl, (tt, tt)); spelt = refl; files_are = refl; limits_are = refl; degrees_are = refl; rows_are = refl };
  limited = least_with_zeros;
  parallel = refl;
}

-- a FILE that looks like an option, after a `--`
after_dashes : AsksForStore (codes "--limit=5000" ∷ codes "--" ∷ codes "--limit" ∷ []) (codes "--limit") 5000 1
after_dashes = record {
  limits = codes "5000" ∷ [];
  degrees = [];
  give = record { items = Joined LimitOption (codes "5000") ∷ []; others = Some (codes "--limit" ∷ []); are_items = (tt, tt); spelt = refl; files_are = refl; limits_are = refl; degrees_are = refl; rows_are = refl };
  limited = five_thousand;
  parallel = refl;
}

-- a degree with both spellings, beside a limit and alone
four_threads : Spells 1 greatest_degree (codes "4") 4
four_threads = record { digits = refl; not_empty = lit≤ tt; at_most_twenty = lit≤ tt; is = refl; at_least = lit≤ tt; at_most = lit≤ tt }

sixteen_threads : Spells 1 greatest_degree (codes "016") 16
sixteen_threads = record { digits = refl; not_empty = lit≤ tt; at_most_twenty = lit≤ tt; is = refl; at_least = lit≤ tt; at_most = lit≤ tt }

degree_spaced : AsksForStore (codes "--degree" ∷ codes "4" ∷ codes "--limit=5000" ∷ codes "a.db" ∷ []) (codes "a.db") 5000 4
degree_spaced = record {
  limits = codes "5000" ∷ [];
  degrees = codes "4" ∷ [];
  give = record {
    items = Spaced DegreeOption (codes "4") ∷ Joined LimitOption (codes "5000") ∷ Plain (codes "a.db") ∷ [];
    others = None;
    are_items = (tt, (tt, (refl, tt)));
    spelt = refl;
    files_are = refl;
    limits_are = refl;
    degrees_are = refl;
    rows_are = refl;
  };
  limited = five_thousand;
  parallel = four_threads;
}

degree_joined : AsksForStore (codes "a.db" ∷ codes "--degree=016" ∷ []) (codes "a.db") 68719476736 16
degree_joined = record {
  limits = [];
  degrees = codes "016" ∷ [];
  give = record { items = Plain (codes "a.db") ∷ Joined DegreeOption (codes "016") ∷ []; others = None; are_items = (refl, (tt, tt)); spelt = refl; files_are = refl; limits_are = refl; degrees_are = refl; rows_are = refl };
  limited = refl;
  parallel = sixteen_threads;
}

-- a script of eight rows
eight : Spells 1 most_rows (codes "8") 8
eight = record { digits = refl; not_empty = lit≤ tt; at_most_twenty = lit≤ tt; is = refl; at_least = lit≤ tt; at_most = lit≤ tt }

rows_spaced : AsksForRows (codes "--generate" ∷ codes "8" ∷ codes "--" ∷ []) 8
rows_spaced = record {
  value = codes "8";
  give = record { items = Spaced GenerateOption (codes "8") ∷ []; others = Some []; are_items = (tt, tt); spelt = refl; files_are = refl; limits_are = refl; degrees_are = refl; rows_are = refl };
  spells = eight;
}
