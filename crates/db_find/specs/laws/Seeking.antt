-- The index that a search needs is the only one with its name.
use Rattle.std.proofs.Common.{◌≡◌, ℕ, Bool, true, false, cond, List, [], ◌∷◌, Option, Some, None, refl, sym, ap, inl, inr, ◌∙◌}
use Rattle.std.specs.Option.{option_and_then}
use Rattle.std.specs.FinMap.{get, entries}
use Rattle.std.proofs.lemmas.Cmp.{nat_list_cmp_total}
use Rattle.ct_entry.specs.Lists.{IsIn}
use Rattle.ct_entry.specs.Maps.{Names}
use Rattle.ct_entry.specs.laws.MapEntries.{in_get}
use Rattle.tb_table.specs.declared.columns.Column.{Column}
use Rattle.tb_table.specs.Tables.{Table, Tables}
use Rattle.ix_kinds.specs.Rows.{table_at, table_or_none}
use Rattle.ix_indexes.specs.Indexes.{Index, AreIndexes, kinds}
use Rattle.db_names.specs.Heads.{index_code}
use Rattle.db_names.specs.laws.Heads.{kind_one}
use Rattle.ct_entry.specs.Keys.{same_list}
use Rattle.ct_entry.specs.laws.Keys.{list_from_same}
use Rattle.std.specs.Prelude.{◌==◌, ◌&&◌}
use Rattle.std.proofs.lemmas.Bool.{and_parts, eqb-true}
use Rattle.db_names.specs.declared.heads.IndexKind.{IndexKind}
use Rattle.db_state.specs.States.{StoreState}
use Rattle.db_state.specs.Columns.{column_place}
use Rattle.db_state.specs.Lookups.{index_among, index_on, is_on_column}
use Rattle.db_find.specs.Finding.{Answers}
use Rattle.db_find.specs.Searches.{Search, search_column, search_kind}
use Rattle.db_find.specs.Seeking.{NeedsIndex, index_of_search, named_index_among, named_index, named_on}

-- It is among the entries, with a name.
among_named : (kind : IndexKind) (t : List ℕ) (place : ℕ) (es : List (List ℕ × Index)) (x : Index) → index_among kind t place es ≡ Some x
    → (j : List ℕ) × ((named_index_among kind t place es ≡ Some (j, x)) × IsIn (j, x) es)
among_named kind t place [] x is = absurd (cc)
among_named kind t place (e ∷ es) x is = go (is_on_column kind t place e.1) is (among_named kind t place es x)
  where
    go : (b : Bool) → cond b (Some e.1) (index_among kind t place es) ≡ Some x
        → (index_among kind t place es ≡ Some x → (j : List ℕ) × ((named_index_among kind t place es ≡ Some (j, x)) × IsIn (j, x) es))
        → (j : List ℕ) × ((cond b (Some e) (named_index_among kind t place es) ≡ Some (j, x)) × IsIn (j, x) (e ∷ es))
    go true is rest =
        let same : e.1 ≡ x = cc in
        (e.0, (ap (λ (y : Index). Some (e.0, y)) same, inl (λ i. (e.0, sym same i))))
    go false is rest = let r = rest is in (r.0, (r.1.0, inr r.1.1))

-- a column has one of each kind
on_named : (ts : Tables) (xs : Names Index) (kind : IndexKind) (t : List ℕ) (place : ℕ) (i : List ℕ) (x : Index) → AreIndexes ts xs → get xs i ≡ Some x → index_on kind xs t place ≡ Some x
    → named_on kind xs t place ≡ Some (i, x)
on_named ts xs kind t place i x are here is =
    let named = among_named kind t place (entries xs) x is in
    let there : get xs named.0 ≡ Some x = in_get nat_list_cmp_total xs (named.0, x) named.1.1 in
    named.1.0 ∙ ap (λ (j : List ℕ). Some (j, x)) (are.one named.0 i x x there here refl refl refl)

at_named : (m : StoreState) (t : List ℕ) (s : Search) (o : Option ℕ) (i : List ℕ) (x : Index) → AreIndexes m.tables m.indexes → get m.indexes i ≡ Some x
    → option_and_then (λ (place : ℕ). index_on (search_kind s) m.indexes t place) o ≡ Some x → option_and_then (λ (place : ℕ). named_on (search_kind s) m.indexes t place) o ≡ Some (i, x)
at_named m t s None i x are here is = absurd (cc)
at_named m t s (Some place) i x are here is = on_named m.tables m.indexes (search_kind s) t place i x are here is

-- THE INDEX THAT IS NEEDED has this name.
pub needed_named : (m : StoreState) (t : List ℕ) (columns : List Column) (s : Search) (i : List ℕ) → AreIndexes m.tables m.indexes → (needed : NeedsIndex m t columns s (Some i)) → named_index m t columns s ≡ Some (i, needed.0)
needed_named m t columns s i are needed = at_named m t s (column_place (search_column s) columns) i needed.0 are needed.1.0 needed.1.1

-- it is of the kind that answers the search
among_kind : (kind : IndexKind) (t : List ℕ) (place : ℕ) (es : List (List ℕ × Index)) (x : Index) → index_among kind t place es ≡ Some x → kinds.kind x.body ≡ kind
among_kind kind t place [] x is = absurd (cc)
among_kind kind t place (e ∷ es) x is = go (is_on_column kind t place e.1) refl is (among_kind kind t place es x)
  where
    go : (b : Bool) → is_on_column kind t place e.1 ≡ b → cond b (Some e.1) (index_among kind t place es) ≡ Some x → (index_among kind t place es ≡ Some x → kinds.kind x.body ≡ kind) → kinds.kind x.body ≡ kind
    go true on is rest =
        let same : e.1 ≡ x = cc in
        let both = and_parts (same_list e.1.table t && (e.1.column == place)) (index_code (kinds.kind e.1.body) == index_code kind) on in
        ap (λ (y : Index). kinds.kind y.body) (sym same) ∙ kind_one (kinds.kind e.1.body) kind (eqb-true (index_code (kinds.kind e.1.body)) (index_code kind) both.1)
    go false on is rest = rest is

pub needed_kind : (m : StoreState) (t : List ℕ) (columns : List Column) (s : Search) (i : List ℕ) → (needed : NeedsIndex m t columns s (Some i)) → kinds.kind needed.0.body ≡ search_kind s
needed_kind m t columns s i needed = go (column_place (search_column s) columns) needed.1.1
  where
    go : (o : Option ℕ) → option_and_then (λ (place : ℕ). index_on (search_kind s) m.indexes t place) o ≡ Some needed.0 → kinds.kind needed.0.body ≡ search_kind s
    go None is = absurd (cc)
    go (Some place) is = among_kind (search_kind s) t place (entries m.indexes) needed.0 is

-- and it is on the table that is searched
among_table : (kind : IndexKind) (t : List ℕ) (place : ℕ) (es : List (List ℕ × Index)) (x : Index) → index_among kind t place es ≡ Some x → x.table ≡ t
among_table kind t place [] x is = absurd (cc)
among_table kind t place (e ∷ es) x is = go (is_on_column kind t place e.1) refl is (among_table kind t place es x)
  where
    go : (b : Bool) → is_on_column kind t place e.1 ≡ b → cond b (Some e.1) (index_among kind t place es) ≡ Some x → (index_among kind t place es ≡ Some x → x.table ≡ t) → x.table ≡ t
    go true on is rest =
        let same : e.1 ≡ x = cc in
        let both = and_parts (same_list e.1.table t && (e.1.column == place)) (index_code (kinds.kind e.1.body) == index_code kind) on in
        ap (λ (y : Index). y.table) (sym same) ∙ list_from_same e.1.table t (and_parts (same_list e.1.table t) (e.1.column == place) both.0).0
    go false on is rest = rest is

pub needed_table : (m : StoreState) (t : List ℕ) (columns : List Column) (s : Search) (i : List ℕ) → (needed : NeedsIndex m t columns s (Some i)) → needed.0.table ≡ t
needed_table m t columns s i needed = go (column_place (search_column s) columns) needed.1.1
  where
    go : (o : Option ℕ) → option_and_then (λ (place : ℕ). index_on (search_kind s) m.indexes t place) o ≡ Some needed.0 → needed.0.table ≡ t
    go None is = absurd (cc)
    go (Some place) is = among_table (search_kind s) t place (entries m.indexes) needed.0 is

pub needed_is_on : (m : StoreState) (t : List ℕ) (x : Table) (columns : List Column) (s : Search) (i : List ℕ) → get m.tables t ≡ Some x → (needed : NeedsIndex m t columns s (Some i)) → table_at m.tables needed.0.table ≡ x
needed_is_on m t x columns s i there needed = ap (table_at m.tables) (needed_table m t columns s i needed) ∙ ap table_or_none there

-- THE INDEX THAT IS NEEDED answers the search.
pub needed_answers : (m : StoreState) (t : List ℕ) (x : Table) (s : Search) (i : List ℕ) → get m.tables t ≡ Some x → (needed : NeedsIndex m t x.columns s (Some i)) → Answers m.tables needed.0 x.columns s
needed_answers m t x s i there needed = record {
  kind = needed_kind m t x.columns s i needed;
  table = ap (λ (y : Table). y.columns) (needed_is_on m t x x.columns s i there needed);
}

-- ---- the other way: an index that is found with its name is the one that is needed

named_among : (kind : IndexKind) (t : List ℕ) (place : ℕ) (es : List (List ℕ × Index)) (e : List ℕ × Index) → named_index_among kind t place es ≡ Some e → (index_among kind t place es ≡ Some e.1) × IsIn e es
named_among kind t place [] e is = absurd (cc)
named_among kind t place (d ∷ es) e is = go (is_on_column kind t place d.1) is (named_among kind t place es e)
  where
    go : (b : Bool) → cond b (Some d) (named_index_among kind t place es) ≡ Some e → (named_index_among kind t place es ≡ Some e → (index_among kind t place es ≡ Some e.1) × IsIn e es)
        → (cond b (Some d.1) (index_among kind t place es) ≡ Some e.1) × IsIn e (d ∷ es)
    go true is rest = let same : d ≡ e = cc in (ap (λ (x : List ℕ × Index). Some x.1) same, inl (sym same))
    go false is rest = let r = rest is in (r.0, inr r.1)

pub named_needs : (m : StoreState) (t : List ℕ) (columns : List Column) (s : Search) (i : List ℕ) (x : Index) → named_index m t columns s ≡ Some (i, x) → (get m.indexes i ≡ Some x) × (index_of_search m t columns s ≡ Some x)
named_needs m t columns s i x is = go (column_place (search_column s) columns) is
  where
    go : (o : Option ℕ) → option_and_then (λ (place : ℕ). named_on (search_kind s) m.indexes t place) o ≡ Some (i, x)
        → (get m.indexes i ≡ Some x) × (option_and_then (λ (place : ℕ). index_on (search_kind s) m.indexes t place) o ≡ Some x)
    go None is = absurd (cc)
    go (Some place) is =
        let among = named_among (search_kind s) t place (entries m.indexes) (i, x) is in
        (in_get nat_list_cmp_total m.indexes (i, x) among.1, among.0)
