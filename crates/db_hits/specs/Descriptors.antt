-- What the parts of a descriptor name, and what they need.
use Rattle.std.specs.Prelude.{ℕ, ◌≡◌, ◌==◌, ◌||◌, nat_lt, Bool, true, false, List, [], ◌∷◌, codes, refl}
use Rattle.std.specs.List.{flat_map, list_all, list_any}
use Rattle.ct_entry.specs.Keys.{same_list}
use Rattle.tb_table.specs.declared.columns.Column.{Column}
use Rattle.tb_table.specs.Tables.{docs_columns}
use Rattle.rs_result.specs.declared.descriptors.HitKey.{HitKey}
use Rattle.rs_result.specs.declared.descriptors.HitKey.TheVariants.{Score, Column as ColumnKey}
use Rattle.rs_result.specs.declared.descriptors.ResultPart.{ResultPart}
use Rattle.rs_result.specs.declared.descriptors.ResultPart.TheVariants.{Count, Hits, Group}
use Rattle.db_rows.specs.Checking.{fit_sort, sort_of}
use Rattle.db_rows.specs.Sources.{of_columns}
use Rattle.db_rows.specs.Texts.{passing_text_places}

-- ---- columns

-- the columns that a key names, a part names, and all parts name, in the order of the text
abbrev pub key_column : HitKey → List (List ℕ)
key_column (Score down) = []
key_column (ColumnKey name down) = name ∷ []

abbrev pub part_columns : ResultPart → List (List ℕ)
part_columns Count = []
part_columns (Hits first last keys) = flat_map key_column keys
part_columns (Group name) = name ∷ []

abbrev pub named_columns : List ResultPart → List (List ℕ)
named_columns parts = flat_map part_columns parts

-- whether a key, a part or one of the parts names this column
abbrev pub is_key : List ℕ → HitKey → Bool
is_key name (Score down) = false
is_key name (ColumnKey column down) = same_list name column

abbrev pub is_in_part : List ℕ → ResultPart → Bool
is_in_part name Count = false
is_in_part name (Hits first last keys) = list_any (is_key name) keys
is_in_part name (Group column) = same_list name column

abbrev pub is_named : List ResultPart → Column → Bool
is_named parts c = list_any (is_in_part c.name) parts

-- THE COLUMNS OF TEXTS THAT A DESCRIPTOR NAMES, each once, by their places in the table
abbrev pub named_texts : List ResultPart → List Column → List ℕ
named_texts parts columns = passing_text_places (is_named parts) columns

-- Hits are ordered and counted by numbers and short texts, and by no CLOB.
abbrev pub fits_column : List Column → List ℕ → Bool
fits_column columns name = fit_sort [] (sort_of name columns)

abbrev pub fits_key : List Column → HitKey → Bool
fits_key columns (Score down) = true
fits_key columns (ColumnKey name down) = fits_column columns name

abbrev pub fits_part : List Column → ResultPart → Bool
fits_part columns Count = true
fits_part columns (Hits first last keys) = list_all (fits_key columns) keys
fits_part columns (Group name) = fits_column columns name

abbrev pub fit_parts : List Column → List ResultPart → Bool
fit_parts columns parts = list_all (fits_part columns) parts

-- ---- numbers

-- Hits are asked for from a number that is 0, which stands for each one outside 1 to 100,000, or from a greater number than to.
abbrev pub is_bad_cut : ResultPart → Bool
is_bad_cut Count = false
is_bad_cut (Hits first last keys) = (first == 0) || nat_lt last first
is_bad_cut (Group name) = false

abbrev pub has_bad_cut : List ResultPart → Bool
has_bad_cut parts = list_any is_bad_cut parts

-- ---- computed examples: `group n / count / hits 1 to 2 order by b desc, score, n`
abbrev pub three_parts : List ResultPart
three_parts = Group (codes "n") ∷ Count ∷ Hits 1 2 (ColumnKey (codes "b") true ∷ Score false ∷ ColumnKey (codes "n") false ∷ []) ∷ []

its_columns : named_columns three_parts ≡ codes "n" ∷ codes "b" ∷ codes "n" ∷ []
its_columns = refl

-- of the columns id, a (a CLOB), n (a NUMBER) and b (a VARCHAR2)
its_text : named_texts three_parts of_columns ≡ 3 ∷ []
its_text = refl

they_fit : fit_parts of_columns three_parts ≡ true
they_fit = refl

no_clob : fit_parts of_columns (Group (codes "a") ∷ []) ≡ false
no_clob = refl

no_key_of_a_clob : fit_parts docs_columns (Count ∷ Hits 1 2 (Score true ∷ ColumnKey (codes "body") false ∷ []) ∷ []) ≡ false
no_key_of_a_clob = refl

one_hit : has_bad_cut (Count ∷ Hits 7 7 [] ∷ []) ≡ false
one_hit = refl

backwards : has_bad_cut (Count ∷ Hits 2 1 [] ∷ []) ≡ true
backwards = refl

from_none : has_bad_cut (Hits 0 0 [] ∷ []) ≡ true
from_none = refl

to_beyond : has_bad_cut (Hits 1 0 [] ∷ []) ≡ true
to_beyond = refl
