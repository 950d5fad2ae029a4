-- What was read of a row.
use Rattle.std.specs.Prelude.{ℕ, ℤ, ◌==◌, ◌+◌, List, [], ◌∷◌, Option, Some, None, IfSome, codes, ◌≡◌, refl}
use Rattle.std.specs.Map.{lookup}
use Rattle.ct_base.specs.declared.lists.Value.{Value}
use Rattle.ct_base.specs.declared.numbers.RowKey.{RowKey}
use Rattle.ct_base.specs.declared.lists.Value.TheVariants.{Text}
use Rattle.ct_keep.specs.Content.{Content}
use Rattle.ct_keep.specs.KeeperViews.{Counts, KeeperView}
use Rattle.ct_keep.specs.Looks.{no_looks, one_if}
use Rattle.tb_table.specs.declared.columns.Column.{Column}
use Rattle.tb_table.specs.Tables.{Table, Tables, numbers_of, text_in_column}
use Rattle.db_state.specs.States.{StoreState, StandsForState, OverNamedTable}
use Rattle.st_parse.specs.declared.statements.Operand.TheVariants.{Text as TextOperand}
use Rattle.st_parse.specs.declared.statements.Compare.TheVariants.{Equal}
use Rattle.st_parse.specs.declared.statements.Cond.{Cond}
use Rattle.st_parse.specs.declared.statements.Cond.TheVariants.{Compare}
use Rattle.db_rows.specs.Values.{row_values}
use Rattle.db_rows.specs.Sources.{is_text_source, of_columns, source_of}
use Rattle.db_rows.specs.Checking.{cond_column}
use Rattle.db_rows.specs.declared.reading.RowRead.{RowRead}
use Rattle.db_rows.specs.declared.sources.Source.{Source}
use Rattle.db_rows.specs.declared.sources.Source.TheVariants.{Key, Number, Text as TextSource, Nothing}

-- texts that were read, each with its column, are those of the row
abbrev pub KnowTexts : List Value → List (ℕ × Option (List ℕ)) → Type 0
KnowTexts vs texts = (column : ℕ) (text : Option (List ℕ)) → lookup (λ place. column == place) texts ≡ Some text → text ≡ text_in_column vs column

-- What was read is the row's.
pub record IsReadOf (vs : List Value) (read : RowRead) : Type 0 where
  pub numbers : IfSome read.numbers (λ numbers. numbers.items ≡ numbers_of vs)
  pub texts : KnowTexts vs read.texts.items

-- What was read of the row with this key is its own.
abbrev pub IsOwn : Tables → List ℕ → RowKey → RowRead → Type 0
IsOwn ts t row read = IsReadOf (row_values ts t row.0) read

-- This holds of the values of a row in each state that the content stands for, where what was read of it before is its own.
abbrev pub OverRow : {K : Type 0} → (K → KeeperView) → K → List ℕ → ℤ → RowRead → (List Value → Type 0) → Type 0
OverRow view old t r read holds = (m : StoreState) (c : Content) → (view old).content ≡ Some c → StandsForState c m → IsReadOf (row_values m.tables t r) read → holds (row_values m.tables t r)

-- This holds of the table of this name, where there is one and these are its columns.
abbrev pub OverColumns : {K : Type 0} → (K → KeeperView) → K → List ℕ → List Column → (Table → Type 0) → Type 0
OverColumns view old t columns holds = OverNamedTable view old t (λ m c x. x.columns ≡ columns → holds x)

-- the same where what was read before of its row with this key is that row's
abbrev pub OverColumnsOf : {K : Type 0} → (K → KeeperView) → K → List ℕ → List Column → ℤ → RowRead → (Table → Type 0) → Type 0
OverColumnsOf view old t columns r read holds = OverNamedTable view old t (λ m c x. x.columns ≡ columns → IsReadOf (row_values m.tables t r) read → holds x)

-- ---- how many texts it costs

-- one text is read, and no row of postings and no rule
abbrev pub one_text : Counts
one_text = record no_looks { texts = 1 }

-- what a look at a text costs: nothing where it was read before
abbrev pub unless_known : {X : Type 0} → Option X → Counts
unless_known None = one_text
unless_known (Some known) = no_looks

-- what a look at the text of this column adds at most, after what was read
abbrev pub column_looks : RowRead → ℕ → Counts
column_looks read column = unless_known (lookup (λ place. column == place) read.texts.items)

-- what a look at the value that comes from this place adds at most: keys and numbers are no texts
abbrev pub source_looks : RowRead → Source → Counts
source_looks read Key = no_looks
source_looks read (Number place) = no_looks
source_looks read (TextSource column) = column_looks read column
source_looks read Nothing = no_looks

-- what a look at the value that a condition is on adds at most
abbrev pub cond_looks : List Column → Cond → RowRead → Counts
cond_looks columns cond read = source_looks read (source_of (cond_column cond) columns)

-- how many of the conditions are on texts
abbrev pub text_conds : List Column → List Cond → ℕ
text_conds columns [] = 0
text_conds columns (cond ∷ conds) = one_if (is_text_source (source_of (cond_column cond) columns)) + text_conds columns conds

-- one text for each of these conditions
abbrev pub texts_for : List Column → List Cond → Counts
texts_for columns conds = record no_looks { texts = text_conds columns conds }

-- computed examples: nothing was read, and a text
nothing_read : (vs : List Value) → KnowTexts vs []
nothing_read vs column text found = cc

not_read_twice : lookup (λ place. 1 == place) ((2, None) ∷ (1, Some (codes "fox")) ∷ []) ≡ Some (text_in_column (Text (codes "fox") ∷ []) 1)
not_read_twice = refl

abbrev equals : List ℕ → Cond
equals column = Compare column Equal (TextOperand (codes "fox"))

-- of a row of which the text of the column 1 was read, that of the column 2 costs one text, and that of the column 1 none
abbrev looked : ℕ → Counts
looked column = unless_known (lookup (λ place. column == place) ((1, Some (codes "fox")) ∷ []))

another_text : looked 2 ≡ one_text
another_text = refl

the_same_text : looked 1 ≡ no_looks
the_same_text = refl

-- of two conditions on the text `a` and one on the key
on_texts : text_conds of_columns (equals (codes "a") ∷ equals (codes "id") ∷ equals (codes "a") ∷ []) ≡ 2
on_texts = refl
