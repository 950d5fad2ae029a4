-- Hits with their values, as code holds them.
use Rattle.std.specs.Prelude.{ℕ, ℤ, suc, pos, ◌≡◌, ◌==◌, ◌++◌, Bool, true, false, List, [], ◌∷◌, length, map, filter, Some, None, OnOk, Result, codes, refl, IsPermutation}
use Rattle.std.specs.Bool.{if◌then◌else◌}
use Rattle.std.specs.List.{flat_map, list_all}
use Rattle.ct_base.specs.declared.lists.Value.TheVariants.{Number, Text}
use Rattle.ct_base.specs.declared.faults.Memory.{Memory}
use Rattle.ct_keep.specs.KeeperViews.{KeeperView}
use Rattle.ct_keep.specs.Looks.{LooksAtMost}
use Rattle.ct_entry.specs.Keys.{same_list}
use Rattle.tb_table.specs.declared.columns.Column.{Column}
use Rattle.tb_table.specs.Tables.{Table, Tables}
use Rattle.rs_result.specs.declared.descriptors.HitKey.{HitKey}
use Rattle.rs_result.specs.declared.descriptors.HitKey.TheVariants.{Score, Column as ColumnKey}
use Rattle.rs_result.specs.declared.descriptors.ResultPart.{ResultPart}
use Rattle.rs_result.specs.declared.descriptors.ResultPart.TheVariants.{Count, Hits, Group}
use Rattle.rs_result.specs.declared.rows.By.{By}
use Rattle.rs_result.specs.declared.rows.By.TheVariants.{Score as ByScore, Column as ByColumn}
use Rattle.rs_result.specs.declared.rows.OrderBy.{OrderBy}
use Rattle.rs_result.specs.declared.rows.ResultRow.{ResultRow}
use Rattle.rs_result.specs.Comparing.{Ranked, rank_cmp, ranked}
use Rattle.rs_result.specs.Counts.{column_values, value_counts}
use Rattle.rs_result.specs.Orders.{HaveOwnKeys, cut}
use Rattle.rs_result.specs.Sorting.{sorted_by}
use Rattle.ix_search.specs.declared.hits.Hit.{Hit}
use Rattle.db_rows.specs.Sources.{of_columns, source_of, source_value}
use Rattle.db_rows.specs.Texts.{reads_among, texts_alone}
use Rattle.db_rows.specs.Values.{row_values}
use Rattle.db_rows.specs.declared.sources.Source.{Source}
use Rattle.db_hits.specs.Descriptors.{is_named, three_parts}
use Rattle.db_hits.specs.Parts.{count_line, group_line, hit_line, hit_value}

-- ---- the values of hits

-- the names of the columns that a descriptor names, each once, in the order of the table
abbrev pub names_of : List ResultPart → List Column → List (List ℕ)
names_of parts columns = map (λ c. c.name) (filter (is_named parts) columns)

-- where the values come from
abbrev pub sources_of : List Column → List (List ℕ) → List Source
sources_of columns names = map (λ name. source_of name columns) names

-- the place of a name among names; their number where it isn't among them
abbrev pub index_in : List ℕ → List (List ℕ) → ℕ
index_in name [] = 0
index_in name (n ∷ ns) = if same_list name n then 0 else suc (index_in name ns)

-- a hit with its values in columns of these names; and with those that were read of it
abbrev pub rank_of : Table → List (List ℕ) → ℤ × ℕ → Ranked
rank_of x names h = record { key = h.0; score = h.1; values = map (λ name. hit_value x name h) names }

abbrev pub rank_read : Tables → List ℕ → List Source → Hit → Ranked
rank_read ts t sources hit = record { key = hit.key.0; score = hit.score; values = map (source_value hit.key.0 (row_values ts t hit.key.0)) sources }

-- Take any columns among which are those of all texts that come from these places: of each of so many hits no more texts were looked up than there are columns.
abbrev pub ReadsWithin : {K : Type 0} → (K → KeeperView) → K → K → List Source → (ℕ → ℕ) → Type 0
ReadsWithin view old new sources most = (places : List ℕ) → list_all (reads_among places) sources ≡ true → LooksAtMost view old new (texts_alone (most (length places)))

-- ---- the order

-- a key of the order, by the place of the column among these names
abbrev pub key_by : List (List ℕ) → HitKey → OrderBy
key_by names (Score down) = record { by = ByScore; down = down }
key_by names (ColumnKey name down) = record { by = ByColumn (index_in name names); down = down }

-- two keys order by the same
abbrev pub same_by : By → By → Bool
same_by ByScore ByScore = true
same_by ByScore (ByColumn place) = false
same_by (ByColumn place) ByScore = false
same_by (ByColumn place) (ByColumn other) = place == other

-- Some keys order rows as others do.
abbrev pub OrderAlike : List OrderBy → List OrderBy → Type 0
OrderAlike some others = (a b : Ranked) → rank_cmp some a b ≡ rank_cmp others a b

-- rows that are held, with nothing beside
abbrev pub Row : Type 0
Row = ResultRow (Unit {0})

-- ---- the lines

abbrev pub rank_line : Ranked → List ℕ
rank_line r = hit_line (r.key, r.score)

-- what a part prints of hits with their values in columns of these names
abbrev pub held_text : List (List ℕ) → List Ranked → ResultPart → List ℕ
held_text names rs Count = count_line (length rs)
held_text names rs (Hits first last keys) = flat_map rank_line (cut first last (sorted_by (rank_cmp (map (key_by names) keys)) rs))
held_text names rs (Group name) = flat_map group_line (value_counts (column_values (index_in name names) rs))

-- A part was printed of rows, which may stand in any order: of rows with keys of their own it is what is printed of them in the order that they had at first.
abbrev pub PrintsPart : List (List ℕ) → ResultPart → List Row → Result (Unit {0}) Memory → List ℕ → List ℕ → Type 0
PrintsPart names part rows result old new = (first : List Row) → HaveOwnKeys first → IsPermutation first rows → OnOk result (new ≡ old ++ held_text names (map ranked first) part)

-- ---- computed examples: `group n / count / hits 1 to 2 order by b desc, score, n`, of the columns id, a, n and b
its_names : names_of three_parts of_columns ≡ codes "n" ∷ codes "b" ∷ []
its_names = refl

its_second_key : key_by (codes "n" ∷ codes "b" ∷ []) (ColumnKey (codes "b") true) ≡ record { by = ByColumn 1; down = true }
its_second_key = refl

no_such_name : index_in (codes "id") (codes "n" ∷ codes "b" ∷ []) ≡ 2
no_such_name = refl

abbrev one : Ranked
one = record { key = pos 1; score = 9; values = Some (Number (pos 5)) ∷ Some (Text (codes "x")) ∷ [] }

abbrev two : Ranked
two = record { key = pos 2; score = 18; values = Some (Number (pos 5)) ∷ None ∷ [] }

-- the second has no text, so it comes last where the order falls
by_text : held_text (codes "n" ∷ codes "b" ∷ []) (two ∷ one ∷ []) (Hits 1 1 (ColumnKey (codes "b") true ∷ [])) ≡ hit_line (pos 1, 9) ++ []
by_text = refl
