-- What a search finds, and why it is refused, is the same of indexes and states that are alike.
use Rattle.std.proofs.Common.{◌≡◌, ℕ, List, Option, Some, None, refl, ap, ◌∙◌, inl, inr}
use Rattle.std.specs.Prelude.{ℤ}
use Rattle.std.specs.List.{filter_map}
use Rattle.std.specs.Option.{option_and_then, option_map}
use Rattle.std.specs.FinMap.{entries}
use Rattle.tb_table.specs.declared.columns.Column.{Column}
use Rattle.tb_table.specs.Tables.{Table, Tables}
use Rattle.th_store.specs.Thesauri.{Thesauri}
use Rattle.q_tree.specs.ReducedQueries.{Reduced}
use Rattle.ix_kinds.specs.Indextypes.{IndexOf, with_body}
use Rattle.ix_kinds.specs.Rows.{table_at}
use Rattle.ix_docmap.specs.Marks.{Mark, Pending, Settled}
use Rattle.ix_context.specs.Indexes.{ContextIndex}
use Rattle.ix_indexes.specs.Indexes.{Body, Index}
use Rattle.ix_search.specs.Finding.{found, found_at}
use Rattle.db_state.specs.States.{StoreState}
use Rattle.db_state.specs.Lookups.{index_on}
use Rattle.db_state.specs.Columns.{column_place}
use Rattle.db_state.specs.Alike.{plain_state, plain_body, plain_index, plain_indexes}
use Rattle.db_state.specs.laws.Alike.{index_on-plain, plain_context}
use Rattle.db_find.specs.Querying.{Meaning, Refuses, Finds, meaning_of}
use Rattle.db_find.specs.Searches.{Search, Contains, Catsearch, Matches, search_column, search_kind, threshold_of}
use Rattle.db_find.specs.Finding.{found_by, found_in, refused_by, refusal_of_kind, rows_in, search_refusal, search_rows}
use Rattle.db_find.specs.Seeking.{index_of_search}

-- ---- CONTAINS: two CONTEXT indexes that differ in their parts alone

-- a CONTEXT index with another body that has the same marks
found_same : (t : Table) (x : IndexOf ContextIndex) (c : ContextIndex) → c.marks ≡ x.body.marks → (q : Reduced) (n : ℕ)
    → found t (with_body x c) q n ≡ found t x q n
found_same t x c marks q n =
    (λ j. filter_map (λ e. at_row e.0 e.1 j) (entries c.marks)) ∙ ap (λ ms. filter_map (λ e. found_at t x q n e.0 e.1) (entries ms)) marks
  where
    at_row : (r : ℤ) (m : Mark (Unit {0})) → found_at t (with_body x c) q n r m ≡ found_at t x q n r m
    at_row r Pending = refl
    at_row r (Settled u) = refl

by_same : (ts : Tables) (x : IndexOf ContextIndex) (c : ContextIndex) → c.marks ≡ x.body.marks → (meaning : Meaning) (above : Option ℕ)
    → found_by ts (with_body x c) meaning above ≡ found_by ts x meaning above
by_same ts x c marks (Refuses refusal) above = refl
by_same ts x c marks (Finds None) above = refl
by_same ts x c marks (Finds (Some q)) None = refl
by_same ts x c marks (Finds (Some q)) (Some n) = found_same (table_at ts x.table) x c marks q n

-- ---- a search

-- why an index refuses it, and the rows that it finds there
sees_plain : (ts : Tables) (thesauri : Thesauri) (x : Index) (s : Search)
    → (search_refusal ts thesauri (plain_index x) s ≡ search_refusal ts thesauri x s) × (search_rows ts thesauri (plain_index x) s ≡ search_rows ts thesauri x s)
sees_plain ts thesauri x s = go x.body s
  where
    go : (b : Body) (s : Search)
        → (refusal_of_kind ts thesauri (plain_index x) (plain_body b) s ≡ refusal_of_kind ts thesauri x b s) × (rows_in ts thesauri (plain_index x) (plain_body b) s ≡ rows_in ts thesauri x b s)
    go (inl c) (Contains column query label above) =
        (refl, by_same ts (with_body x c) (plain_context c) refl (meaning_of x.prefs thesauri query) (threshold_of above))
    go (inl c) (Catsearch column query structured) = (refl, refl)
    go (inl c) (Matches column document) = (refl, refl)
    go (inr (inl b)) (Contains column query label above) = (refl, refl)
    go (inr (inl b)) (Catsearch column query structured) = (refl, refl)
    go (inr (inl b)) (Matches column document) = (refl, refl)
    go (inr (inr b)) (Contains column query label above) = (refl, refl)
    go (inr (inr b)) (Catsearch column query structured) = (refl, refl)
    go (inr (inr b)) (Matches column document) = (refl, refl)

pub search_refusal-plain : (ts : Tables) (thesauri : Thesauri) (x : Index) (s : Search)
    → search_refusal ts thesauri (plain_index x) s ≡ search_refusal ts thesauri x s
search_refusal-plain ts thesauri x s = (sees_plain ts thesauri x s).0

pub search_rows-plain : (ts : Tables) (thesauri : Thesauri) (x : Index) (s : Search) → search_rows ts thesauri (plain_index x) s ≡ search_rows ts thesauri x s
search_rows-plain ts thesauri x s = (sees_plain ts thesauri x s).1

pub refused_by-plain : (ts : Tables) (thesauri : Thesauri) (o : Option Index) (s : Search)
    → refused_by ts thesauri (option_map plain_index o) s ≡ refused_by ts thesauri o s
refused_by-plain ts thesauri None s = refl
refused_by-plain ts thesauri (Some x) s = search_refusal-plain ts thesauri x s

pub found_in-plain : (ts : Tables) (thesauri : Thesauri) (o : Option Index) (s : Search)
    → found_in ts thesauri (option_map plain_index o) s ≡ found_in ts thesauri o s
found_in-plain ts thesauri None s = refl
found_in-plain ts thesauri (Some x) s = search_rows-plain ts thesauri x s

-- the index that it needs
pub needed_plain : (m : StoreState) (t : List ℕ) (columns : List Column) (s : Search)
    → index_of_search (plain_state m) t columns s ≡ option_map plain_index (index_of_search m t columns s)
needed_plain m t columns s = go (column_place (search_column s) columns)
  where
    go : (o : Option ℕ)
        → option_and_then (λ (place : ℕ). index_on (search_kind s) (plain_indexes m.indexes) t place) o
        ≡ option_map plain_index (option_and_then (λ (place : ℕ). index_on (search_kind s) m.indexes t place) o)
    go None = refl
    go (Some place) = index_on-plain (search_kind s) m.indexes t place
