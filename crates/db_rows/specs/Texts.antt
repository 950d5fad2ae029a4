-- The texts that are read of a row: of which columns, and how many may still be read.
use Rattle.std.specs.Prelude.{ℕ, suc, ◌==◌, ◌+◌, ◌≤◌, ◌&&◌, is_none, Bool, true, false, List, [], ◌∷◌, length, filter, Option, Some, None, Result, Ok, Err, codes, ◌≡◌, refl}
use Rattle.std.specs.Bool.{if◌then◌else◌}
use Rattle.std.specs.List.{list_all, list_any}
use Rattle.std.specs.Map.{lookup}
use Rattle.ct_keep.specs.KeeperViews.{Counts, KeeperView}
use Rattle.ct_keep.specs.Looks.{no_looks}
use Rattle.ct_keep.specs.declared.keepers.KeepFault.{KeepFault}
use Rattle.ct_entry.specs.Keys.{same_list}
use Rattle.ix_kinds.specs.Targets.{is_text_sort}
use Rattle.tb_table.specs.declared.columns.Column.{Column}
use Rattle.st_parse.specs.declared.statements.Cond.{Cond}
use Rattle.db_rows.specs.Checking.{cond_column}
use Rattle.db_rows.specs.Sources.{of_columns, source_of}
use Rattle.db_rows.specs.declared.reading.RowRead.{RowRead}
use Rattle.db_rows.specs.declared.reading.Shown.{Shown}
use Rattle.db_rows.specs.declared.reading.Shown.TheVariants.{Keys, Texts}
use Rattle.db_rows.specs.declared.sources.Source.{Source}
use Rattle.db_rows.specs.declared.sources.Source.TheVariants.{Key, Number, Text, Nothing}

-- ---- the columns

-- the places of the columns that pass a test, where the first has this place
abbrev pub places_from : ℕ → (Column → Bool) → List Column → List ℕ
places_from place test [] = []
places_from place test (c ∷ cs) = if test c then place ∷ places_from (suc place) test cs else places_from (suc place) test cs

-- THE COLUMNS OF TEXTS THAT PASS A TEST, each once, by their places in the table
abbrev pub passing_text_places : (Column → Bool) → List Column → List ℕ
passing_text_places test columns = places_from 0 (λ c. is_text_sort c.sort && test c) columns

-- one of the names is that of the column
abbrev pub is_named : List (List ℕ) → Column → Bool
is_named names c = list_any (same_list c.name) names

-- what comes from there is a text of one of these columns, or no text
abbrev pub reads_among : List ℕ → Source → Bool
reads_among places Key = true
reads_among places (Number place) = true
reads_among places (Text column) = list_any (λ place. column == place) places
reads_among places Nothing = true

-- so is what a condition is on, and what conditions are
abbrev pub cond_among : List ℕ → List Column → Cond → Bool
cond_among places columns cond = reads_among places (source_of (cond_column cond) columns)

abbrev pub conds_among : List ℕ → List Column → List Cond → Bool
conds_among places columns conds = list_all (cond_among places columns) conds

-- ---- how many are left

-- the text of this column isn't among those that were read
abbrev pub is_unread : List (ℕ × Option (List ℕ)) → ℕ → Bool
is_unread texts column = is_none (lookup (λ place. column == place) texts)

-- how many of these columns' texts aren't
abbrev pub unread : List ℕ → List (ℕ × Option (List ℕ)) → ℕ
unread places texts = length (filter (is_unread texts) places)

-- HOW MANY TEXTS OF THESE COLUMNS are left to be read of a row, after what was read
abbrev pub texts_left : List ℕ → RowRead → ℕ
texts_left places read = unread places read.texts.items

-- how many are left after a call that so ended: where it failed, nothing is read any more
abbrev pub left_by : {T : Type 0} → (T → ℕ) → Result T KeepFault → ℕ
left_by left (Ok x) = left x
left_by left (Err fault) = 0

-- so many texts, and no row of postings and no rule
abbrev pub texts_alone : ℕ → Counts
texts_alone n = record no_looks { texts = n }

-- Each count rose by no more than this, and so many of its texts weren't looked up.
pub record RisesLeaving (most : Counts) (left : ℕ) (old new : Counts) : Type 0 where
  pub texts : new.texts + left ≤ old.texts + most.texts
  pub rows : new.rows ≤ old.rows + most.rows
  pub rules : new.rules ≤ old.rules + most.rules

-- EACH TEXT OF A ROW IS READ ONCE. Take any columns among which are those of all texts that the call asks for: it looked up no more texts
-- than there are fewer of theirs left to read; after a failure, no more than were left before.
abbrev pub ReadsOnce : {K T : Type 0} → (K → KeeperView) → K → K → RowRead → RowRead → Result T KeepFault → (List ℕ → Bool) → Type 0
ReadsOnce view old new before after result asks =
    (places : List ℕ) → asks places ≡ true
    → RisesLeaving (texts_alone (texts_left places before)) (left_by (λ x. texts_left places after) result) (view old).counts (view new).counts

-- No row has more texts left of these columns than of those.
abbrev pub HasFewerLeft : List ℕ → List ℕ → Type 0
HasFewerLeft some all = (read : RowRead) → texts_left some read ≤ texts_left all read

-- the columns of the texts that are shown
abbrev pub shown_places : Shown → List ℕ
shown_places Keys = []
shown_places (Texts columns) = columns.items

-- ROWS ARE TRIED. Take any columns among which are those of the conditions' texts and those that are shown: the texts looked up, and those
-- still left of the rows that were found, are together within the limit for so many columns.
abbrev pub TriesRows : {K : Type 0} → (K → KeeperView) → K → K → Shown → List Column → List Cond → (ℕ → ℕ) → ℕ → Type 0
TriesRows view old new shown columns conds most left =
    (places : List ℕ) → HasFewerLeft (shown_places shown) places → conds_among places columns conds ≡ true
    → RisesLeaving (texts_alone (most (length places))) left (view old).counts (view new).counts

-- how many are left of a row, if there is one
abbrev pub left_of : List ℕ → Option RowRead → ℕ
left_of places None = 0
left_of places (Some read) = texts_left places read

-- Of one row each of these texts is looked up once, and what is kept of it leaves so many of those that are shown.
abbrev pub TriesRow : {K : Type 0} → (K → KeeperView) → K → K → Shown → List Column → List Cond → Result (Option RowRead) KeepFault → Type 0
TriesRow view old new shown columns conds result = TriesRows view old new shown columns conds (λ n. n) (left_by (left_of (shown_places shown)) result)

-- ---- what is kept

-- of texts that were read those of these columns
abbrev pub texts_among : List ℕ → List (ℕ × Option (List ℕ)) → List (ℕ × Option (List ℕ))
texts_among columns texts = filter (λ e. list_any (λ column. e.0 == column) columns) texts

-- Of what was read the numbers, and the texts of these columns.
pub record KeepsTexts (columns : List ℕ) (old new : RowRead) : Type 0 where
  pub numbers : new.numbers ≡ old.numbers
  pub texts : new.texts.items ≡ texts_among columns old.texts.items

-- ---- computed examples: of the columns id, a (a CLOB), n (a NUMBER) and b (a VARCHAR2)

each_once : passing_text_places (is_named (codes "b" ∷ codes "n" ∷ codes "a" ∷ codes "b" ∷ [])) of_columns ≡ 1 ∷ 3 ∷ []
each_once = refl

no_such_column : passing_text_places (is_named (codes "c" ∷ [])) of_columns ≡ []
no_such_column = refl

-- of the texts of a and b that of b was read
one_is_left : unread (1 ∷ 3 ∷ []) ((3, None) ∷ []) ≡ 1
one_is_left = refl

-- and that of a too, of which b's isn't kept
as_it_is_kept : texts_among (1 ∷ []) ((3, None) ∷ (1, Some (codes "fox")) ∷ []) ≡ (1, Some (codes "fox")) ∷ []
as_it_is_kept = refl
