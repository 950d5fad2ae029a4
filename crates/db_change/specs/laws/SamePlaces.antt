-- Where rows of a table are lost, the entries of the indexes end in the places in which they ended before.
use Rattle.std.proofs.Common.{◌≡◌, ℕ, ℤ, ◌+◌, Bool, true, false, cond, List, [], ◌∷◌, ◌++◌, length, Option, Some, refl, sym, ap, ◌∙◌, arith, length-append, inl, inr}
use Rattle.std.specs.Prelude.{◌&&◌}
use Rattle.std.specs.FinMap.{get}
use Rattle.ct_base.specs.laws.Options.{option_map_some}
use Rattle.ct_keep.specs.Content.{Content}
use Rattle.ct_entry.specs.declared.kinds.Kind.{Kind}
use Rattle.ct_entry.specs.declared.kinds.Kind.TheVariants as kind
use Rattle.ct_entry.specs.Keys.{Key, at, key, same_list}
use Rattle.ct_entry.specs.Changes.{put_value, told, view}
use Rattle.ct_entry.specs.Each.{each, is_any_of}
use Rattle.ct_entry.specs.Maps.{Names}
use Rattle.ct_entry.specs.laws.Changes.{told_frame}
use Rattle.ct_entry.specs.laws.Keys.{key_same}
use Rattle.tb_table.specs.Tables.{Tables}
use Rattle.db_names.specs.Heads.{index_head_bytes}
use Rattle.ix_kinds.specs.Rows.{RowChange, row_change}
use Rattle.ix_kinds.specs.Indextypes.{untidied_index, with_body}
use Rattle.ix_kinds.specs.Standing.{is_entry}
use Rattle.ix_kinds.specs.Statements.{AreIndexesOn, bytes_behind, index_after_row, indexes_after, indexes_after_row, place_of, row_cost, untidying_at, untidying_for, untidying_in}
use Rattle.ix_kinds.specs.laws.Rows.{get-after_row}
use Rattle.ix_kinds.specs.laws.Standing.{behind_parts, told_own}
use Rattle.ix_kinds.specs.laws.Untidies.{untidying_on}
use Rattle.ix_context.specs.Contexts.{context_after}
use Rattle.ix_context.specs.laws.ContextUntidies.{rest_long}
use Rattle.ix_indexes.specs.Indexes.{Body, Index, index_entry, kinds}
use Rattle.ix_indexes.specs.laws.Indexes.{kinds_laws}
use Rattle.db_state.specs.States.{StoreState, is_of_rows}
use Rattle.db_state.specs.Entries.{HaveSamePostings, is_of_documents}
use Rattle.db_change.specs.laws.LostRows.{lost_of}

-- ---- how long an entry is without its place

abbrev width : Index → ℕ
width x = length (index_entry x [])

-- by its two parts
parts_long : (x : Index) → width x ≡ length (index_head_bytes (kinds.kind x.body) x.table x.column) + length (kinds.rest x)
parts_long x =
    let head = length-append (index_head_bytes (kinds.kind x.body) x.table x.column) (kinds.rest x ++ []) in
    let rest = length-append (kinds.rest x) [] in
    omega (arith, head, rest)

same_width : (x y : Index) → index_head_bytes (kinds.kind x.body) x.table x.column ≡ index_head_bytes (kinds.kind y.body) y.table y.column → length (kinds.rest x) ≡ length (kinds.rest y) → width x ≡ width y
same_width x y heads rests =
    let a = parts_long x in
    let b = parts_long y in
    let c = ap (λ (l : List ℕ). length l) heads in
    omega (arith, a, b, c, rests)

-- once it is tidy no more
untidied_width : (x : Index) → width (untidied_index kinds x) ≡ width x
untidied_width x =
    same_width (untidied_index kinds x) x (λ j. index_head_bytes ((kinds_laws.untidies.same x).kind j) x.table x.column) (kinds_laws.untidies.long x)

-- and after a row
row_width : (c : RowChange) (i : List ℕ) (x : Index) → width (index_after_row kinds c i x) ≡ width x
row_width c i x = go x.body
  where
    go : (b : Body) → width (index_after_row kinds c i (with_body x b)) ≡ width (with_body x b)
    go (inl b) = same_width (index_after_row kinds c i (with_body x (inl b))) (with_body x (inl b)) refl
        (rest_long (with_body x (context_after c.row c.old c.new (row_cost kinds i (with_body x (inl b)) c.old) b)) (with_body x b) refl)
    go (inr (inl b)) = refl
    go (inr (inr b)) = refl

-- after some rows the index of each name is as long as the one that had the name
module _ (test : Index → Bool) (step : Tables → ℤ → Tables) (t : List ℕ) (i : List ℕ) where
  after_width : (rows : List ℤ) (ts : Tables) (xs : Names Index) (y : Index) → get (indexes_after kinds test step ts t rows xs) i ≡ Some y → (x : Index) × (get xs i ≡ Some x) × (width y ≡ width x)
  after_width [] ts xs y is = (y, is, refl)
  after_width (r ∷ rows) ts xs y is =
      let c = row_change ts (step ts r) t r in
      let later = after_width rows (step ts r) (indexes_after_row kinds test t c xs) y is in
      let was = option_map_some (λ x. cond (same_list x.table t && test x) (index_after_row kinds c i x) x) (get xs i) later.0 (sym (get-after_row kinds kinds_laws test t c xs i) ∙ later.1) in
      (was.0, was.1, later.2 ∙ ap width (sym was.2) ∙ one c was.0 (same_list was.0.table t && test was.0))
    where
      one : (c : RowChange) (x : Index) (b : Bool) → width (cond b (index_after_row kinds c i x) x) ≡ width x
      one c x true = row_width c i x
      one c x false = refl

-- ---- what is put before

module _ (f : Key → Option (List ℕ)) (xs : Names Index) (test : Index → Bool) (t : List ℕ) (names : List (List ℕ)) (on : AreIndexesOn kinds test xs t names) where
  module _ (i : List ℕ) (x : Index) (here : get xs i ≡ Some x) where
    abbrev entry : Key
    entry = key kind.Indexes i []

    abbrev put : List ℕ
    put = index_entry (untidied_index kinds x) (place_of kinds f i x)

    of_put : bytes_behind (width x) (Some put) ≡ bytes_behind (width x) (f entry)
    of_put =
        ap (λ (n : ℕ). bytes_behind n (Some put)) (sym (untidied_width x))
        ∙ behind_parts (index_head_bytes (kinds.kind (untidied_index kinds x).body) x.table x.column) (kinds.rest (untidied_index kinds x)) (place_of kinds f i x)

    by_tidiness : (b : Bool) → bytes_behind (width x) (told (cond b (put_value entry put ∷ []) []) entry (f entry)) ≡ bytes_behind (width x) (f entry)
    by_tidiness true = ap (λ (b : Bool). bytes_behind (width x) (cond b (Some put) (f entry))) (key_same entry) ∙ of_put
    by_tidiness false = refl

    its_own : bytes_behind (width x) (told (untidying_at kinds f xs i) entry (f entry)) ≡ bytes_behind (width x) (f entry)
    its_own = ap (λ (o : Option Index). bytes_behind (width x) (told (untidying_in kinds f i o) entry (f entry))) here ∙ by_tidiness (kinds.tidy x.body)

    of_all : bytes_behind (width x) (view (each (untidying_at kinds f xs) names) f entry) ≡ bytes_behind (width x) (f entry)
    of_all = ap (bytes_behind (width x)) (told_own (untidying_at kinds f xs) (untidying_on kinds kinds_laws f xs) names on.distinct entry (f entry)) ∙ go (is_any_of i names)
      where
        go : (b : Bool) → bytes_behind (width x) (cond b (told (untidying_at kinds f xs i) entry (f entry)) (f entry)) ≡ bytes_behind (width x) (f entry)
        go true = its_own
        go false = refl

    pub places_untidied : (rows : List ℤ) → bytes_behind (width x) (view (untidying_for kinds f xs names rows) f entry) ≡ bytes_behind (width x) (f entry)
    places_untidied [] = refl
    places_untidied (r ∷ rows) = of_all

-- what is put before rows are lost
abbrev first_changes : Content → StoreState → List (List ℕ) → List ℤ → List (Key × Option (List ℕ))
first_changes c m names rows = untidying_for kinds (at c) m.indexes names rows

-- So what is put before rows are lost leaves the rows of postings of all indexes, and their places.
pub untidying_leaves : (c : Content) (m n : StoreState) (test : Index → Bool) (step : Tables → ℤ → Tables) (t : List ℕ) (names : List (List ℕ)) → AreIndexesOn kinds test m.indexes t names
    → (rows : List ℤ) → n.indexes ≡ indexes_after kinds test step m.tables t rows m.indexes → HaveSamePostings n (at c) (view (first_changes c m names rows) (at c))
untidying_leaves c m n test step t names on rows is = record {
  rows = λ k of here. told_frame is_entry (first_changes c m names rows) k (at c k) (lost_of c m names rows) (no_entry k.kind of);
  documents = λ k v of here has. sym (told_frame is_entry (first_changes c m names rows) k (at c k) (lost_of c m names rows) (no_map k.kind of)) ∙ has;
  places = λ i y here.
      let was = after_width test step t i rows m.tables m.indexes y (ap (λ (xs : Names Index). get xs i) (sym is) ∙ here) in
      ap (λ (n : ℕ). bytes_behind n (view (first_changes c m names rows) (at c) (key kind.Indexes i []))) was.2
      ∙ places_untidied (at c) m.indexes test t names on i was.0 was.1 rows
      ∙ sym (ap (λ (n : ℕ). bytes_behind n (at c (key kind.Indexes i []))) was.2);
}
  where
    no_entry : (k : Kind) → is_of_rows k ≡ true → is_entry k ≡ false
    no_entry kind.Postings h = refl
    no_entry kind.Spans h = refl
    no_entry k h = cc

    no_map : (k : Kind) → is_of_documents k ≡ true → is_entry k ≡ false
    no_map kind.DocumentRows h = refl
    no_map kind.RowDocuments h = refl
    no_map k h = cc
