-- What the texts say that arguments give, and what an argument gives by itself. What arguments ask for is defined in `Arguments.antt`.
use Rattle.std.specs.Prelude.{ℕ, ◌≡◌, ◌&&◌, nat_le, Bool, List, length, codes, Option, Some, None, option_and_then, refl}
use Rattle.std.specs.Bool.{if◌then◌else◌}
use denote.Ref.{Bor}
use Rattle.std.specs.Option.{option_map}
use Rattle.std.specs.Char.{is_ascii_digit}
use Rattle.std.specs.List.{list_all}
use Rattle.std.specs.Str.Parse.{digits_value}
use Rattle.db_arguments.specs.Arguments.{store_limit, least_limit, greatest_degree, default_degree, most_rows, AsksForStore, AsksForRows}
use Rattle.db_arguments.specs.declared.arguments.Asked.{Asked}
use Rattle.db_arguments.specs.declared.arguments.Asked.TheVariants as asked

-- what the arguments ask for: a FILE, a limit and a degree, or a number of rows
pub data Wanted : Type 0 where
  Store : List ℕ → ℕ → ℕ → Wanted
  Script : ℕ → Wanted

abbrev pub wanted_by : Asked → Wanted
wanted_by (asked.Over store) = Store store.file.now store.limit store.degree
wanted_by (asked.Rows rows) = Script rows

-- the arguments ask for this
abbrev pub AskFor : List (List ℕ) → Wanted → Type 0
AskFor arguments (Store file limit degree) = AsksForStore arguments file limit degree
AskFor arguments (Script rows) = AsksForRows arguments rows

-- the value has 1 to 20 digits, and nothing else
abbrev pub is_number : List ℕ → Bool
is_number value = list_all is_ascii_digit value && (nat_le 1 (length value) && nat_le (length value) 20)

-- a number from the least to the greatest
abbrev pub is_in_range : ℕ → ℕ → ℕ → Bool
is_in_range least greatest number = nat_le least number && nat_le number greatest

-- the number from the least to the greatest that a value spells
abbrev pub number_of : ℕ → ℕ → List ℕ → Option ℕ
number_of least greatest value = if is_number value && is_in_range least greatest (digits_value 10 value) then Some (digits_value 10 value) else None

-- the limit where the option is given, or isn't
abbrev pub limit_by : Option (List ℕ) → Option ℕ
limit_by None = Some store_limit
limit_by (Some value) = number_of least_limit store_limit value

-- the degree where the option is given, or isn't
abbrev pub degree_by : Option (List ℕ) → Option ℕ
degree_by None = Some default_degree
degree_by (Some value) = number_of 1 greatest_degree value

-- a text that is given, where it is
abbrev pub given_text : Option (Bor (List ℕ)) → Option (List ℕ)
given_text found = option_map (λ t. t.now) found

-- what is asked for by a FILE, a limit, a degree and a number of rows, where these are given
abbrev pub wanted : Option (List ℕ) → Option (List ℕ) → Option (List ℕ) → Option (List ℕ) → Option Wanted
wanted (Some file) limit degree None = option_and_then (λ n. option_map (Store file n) (degree_by degree)) (limit_by limit)
wanted None None None (Some value) = option_map Script (number_of 1 most_rows value)
wanted file limit degree rows = None

-- ---- computed examples

no_value : number_of least_limit store_limit (codes "4095") ≡ None
no_value = refl

no_degree : number_of 1 greatest_degree (codes "17") ≡ None
no_degree = refl

a_store : wanted (Some (codes "a")) (Some (codes "4096")) None None ≡ Some (Store (codes "a") 4096 1)
a_store = refl

on_four_threads : wanted (Some (codes "a")) None (Some (codes "4")) None ≡ Some (Store (codes "a") store_limit 4)
on_four_threads = refl

rows_and_a_degree : wanted None None (Some (codes "4")) (Some (codes "8")) ≡ None
rows_and_a_degree = refl

rows_and_a_file : wanted (Some (codes "a")) None None (Some (codes "8")) ≡ None
rows_and_a_file = refl

hundred_thousand : wanted None None None (Some (codes "100000")) ≡ Some (Script 100000)
hundred_thousand = refl
