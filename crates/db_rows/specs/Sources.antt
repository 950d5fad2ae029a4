-- Where the value of a column comes from: the row's key, its numbers or its texts.
use Rattle.std.specs.Prelude.{ℕ, ℤ, pos, suc, ◌-◌, ◌==◌, nat_lt, Bool, true, false, List, [], ◌∷◌, Option, Some, None, codes, ◌≡◌, refl}
use Rattle.std.specs.Bool.{if◌then◌else◌}
use Rattle.std.specs.List.{slice_get}
use Rattle.std.specs.Option.{option_map}
use Rattle.ct_base.specs.declared.lists.Value.{Value}
use Rattle.ct_base.specs.declared.lists.Value.TheVariants.{Number as NumberValue, Text as TextValue}
use Rattle.ct_entry.specs.Keys.{same_list}
use Rattle.tb_table.specs.declared.columns.Sort.{Sort}
use Rattle.tb_table.specs.declared.columns.Sort.TheVariants.{Number as NumberSort, Varchar2, Clob}
use Rattle.tb_table.specs.declared.columns.Column.{Column}
use Rattle.tb_table.specs.Tables.{numbers_of, text_in_column}
use Rattle.db_rows.specs.declared.sources.Source.{Source}
use Rattle.db_rows.specs.declared.sources.Source.TheVariants.{Key, Number, Text, Nothing}

-- of a NUMBER column with so many NUMBER columns before it: the key, which is the first, or one of the numbers of the row
abbrev pub number_source : ℕ → Source
number_source before = if before == 0 then Key else Number (before - 1)

-- of a column of texts at a place, which has one byte
abbrev pub text_source : ℕ → Source
text_source place = if nat_lt place 256 then Text place else Nothing

abbrev pub source_by : Sort → ℕ → ℕ → Source
source_by NumberSort place before = number_source before
source_by (Varchar2 size) place before = text_source place
source_by Clob place before = text_source place

-- how many NUMBER columns there are before the next column
abbrev pub with_sort : Sort → ℕ → ℕ
with_sort NumberSort before = suc before
with_sort (Varchar2 size) before = before
with_sort Clob before = before

abbrev pub source_from : ℕ → ℕ → List ℕ → List Column → Source
source_from place before name [] = Nothing
source_from place before name (c ∷ cs) = if same_list name c.name then source_by c.sort place before else source_from (suc place) (with_sort c.sort before) name cs

-- of the column with this name
abbrev pub source_of : List ℕ → List Column → Source
source_of name columns = source_from 0 0 name columns

-- the value that comes from there, of a row with this key and these other values
abbrev pub source_value : ℤ → List Value → Source → Option Value
source_value r vs Key = Some (NumberValue r)
source_value r vs (Number place) = option_map NumberValue (slice_get (numbers_of vs) place)
source_value r vs (Text column) = option_map TextValue (text_in_column vs column)
source_value r vs Nothing = None

abbrev pub is_key_source : Source → Bool
is_key_source Key = true
is_key_source (Number place) = false
is_key_source (Text column) = false
is_key_source Nothing = false

abbrev pub is_text_source : Source → Bool
is_text_source Key = false
is_text_source (Number place) = false
is_text_source (Text column) = true
is_text_source Nothing = false

-- computed examples: of a table with a key, a number and two texts
abbrev pub of_columns : List Column
of_columns =
    record { name = codes "id"; sort = NumberSort } ∷ record { name = codes "a"; sort = Clob } ∷ record { name = codes "n"; sort = NumberSort } ∷ record { name = codes "b"; sort = Varchar2 10 } ∷ []

its_key : source_of (codes "id") of_columns ≡ Key
its_key = refl

its_number : source_of (codes "n") of_columns ≡ Number 0
its_number = refl

its_last_text : source_of (codes "b") of_columns ≡ Text 3
its_last_text = refl

no_such_column : source_of (codes "c") of_columns ≡ Nothing
no_such_column = refl

abbrev its_value : Source → Option Value
its_value source = source_value (pos 7) (TextValue (codes "x") ∷ NumberValue (pos 5) ∷ TextValue (codes "y") ∷ []) source

the_number : its_value (Number 0) ≡ Some (NumberValue (pos 5))
the_number = refl

the_last_text : its_value (Text 3) ≡ Some (TextValue (codes "y"))
the_last_text = refl

no_second_number : its_value (Number 1) ≡ None
no_second_number = refl
