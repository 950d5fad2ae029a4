-- The index of a kind on a column.
use Rattle.std.proofs.Common.{◌≡◌, ℕ, Bool, true, false, cond, List, [], ◌∷◌, Option, Some, None, refl, sym, ap, subst, ◌∙◌, arith, eqb, eqb-true, eq-eqb}
use Rattle.std.specs.Prelude.{◌&&◌}
use Rattle.std.specs.List.{Contains}
use Rattle.std.specs.Option.{option_map}
use Rattle.std.specs.Ordering.{nat_cmp, eq_by_cmp}
use Rattle.std.specs.Cmp.Lexicographic.{slice_cmp}
use Rattle.std.specs.FinMap.{get, find, entries, get-entries}
use Rattle.std.proofs.lemmas.Cmp.{nat_list_cmp_total}
use Rattle.std.proofs.lemmas.List.Elements.{Contains-append_right}
use Rattle.std.proofs.lemmas.Bool.{and_parts, and_from}
use Rattle.ct_keep.specs.laws.RisingKeys.{entries_rise}
use Rattle.ct_entry.specs.Keys.{Key, same_list}
use Rattle.ct_entry.specs.Maps.{Names}
use Rattle.ct_entry.specs.laws.Keys.{list_from_same, list_same}
use Rattle.tb_table.specs.Tables.{Tables}
use Rattle.tb_table.specs.Rules.{AreTables}
use Rattle.ix_indexes.specs.Indexes.{Index, kinds, IndexesStand, AreIndexes}
use Rattle.db_names.specs.declared.heads.IndexKind.{IndexKind}
use Rattle.db_names.specs.Heads.{index_code}
use Rattle.db_names.specs.declared.heads.IndexHead.{IndexHead}
use Rattle.db_names.specs.Findings.{IsIndexOn}
use Rattle.db_names.specs.laws.Heads.{index_on_read, kind_one}
use Rattle.db_names.specs.laws.Pairs.{pair_found}
use Rattle.db_state.specs.Lookups.{is_on_column, index_among, index_on, FoundOn}
use Rattle.db_state.specs.laws.Heads.{store_head, store_heads, get-heads, head_found, heads_stand}

-- it is of this kind, and on this column
pub record IsOnColumn (kind : IndexKind) (xs : Names Index) (t : List ℕ) (place : ℕ) (x : Index) : Type 0 where
  pub name : List ℕ
  pub there : get xs name ≡ Some x
  pub table : x.table ≡ t
  pub column : x.column ≡ place
  pub kind_is : kinds.kind x.body ≡ kind

some_same : {A : Type 0} {a b : A} → Some a ≡ Some b → a ≡ b
some_same e = cc

-- one that is found among pairs is on the column
among_on : (kind : IndexKind) (xs : Names Index) (t : List ℕ) (place : ℕ) (es : List (List ℕ × Index)) (x : Index) → ((e : List ℕ × Index) → Contains es e → get xs e.0 ≡ Some e.1) → index_among kind t place es ≡ Some x → IsOnColumn kind xs t place x
among_on kind xs t place [] x all is = cc
among_on kind xs t place (e ∷ es) x all is = go (is_on_column kind t place e.1) refl is (among_on kind xs t place es x (λ f there. all f (Contains-append_right (e ∷ []) es f there)))
  where
    go : (b : Bool) → is_on_column kind t place e.1 ≡ b → cond b (Some e.1) (index_among kind t place es) ≡ Some x → (index_among kind t place es ≡ Some x → IsOnColumn kind xs t place x) → IsOnColumn kind xs t place x
    go true on is rest =
        let same : e.1 ≡ x = some_same is in
        let of_kind = and_parts (same_list e.1.table t && eqb e.1.column place) (eqb (index_code (kinds.kind e.1.body)) (index_code kind)) on in
        let both = and_parts (same_list e.1.table t) (eqb e.1.column place) of_kind.0 in
        record {
          name = e.0;
          there = all e (0, omega arith, refl) ∙ ap Some same;
          table = ap (λ (y : Index). y.table) (sym same) ∙ list_from_same e.1.table t both.0;
          column = ap (λ (y : Index). y.column) (sym same) ∙ eqb-true e.1.column place both.1;
          kind_is = ap (λ (y : Index). kinds.kind y.body) (sym same) ∙ kind_one (kinds.kind e.1.body) kind (eqb-true (index_code (kinds.kind e.1.body)) (index_code kind) of_kind.1);
        }
    go false on is rest = rest is

-- where one is on the column, one is found
among_some : (kind : IndexKind) (t : List ℕ) (place : ℕ) (es : List (List ℕ × Index)) (i : List ℕ) (x : Index) → find (slice_cmp nat_cmp) i es ≡ Some x → is_on_column kind t place x ≡ true → index_among kind t place es ≡ None → ⊥
among_some kind t place [] i x is on none = cc
among_some kind t place (e ∷ es) i x is on none = go (is_on_column kind t place e.1) refl none (among_some kind t place es i x)
  where
    at_name : (b : Bool) → is_on_column kind t place e.1 ≡ false → cond b (Some e.1) (find (slice_cmp nat_cmp) i es) ≡ Some x → index_among kind t place es ≡ None
        → (find (slice_cmp nat_cmp) i es ≡ Some x → is_on_column kind t place x ≡ true → index_among kind t place es ≡ None → ⊥) → ⊥
    at_name true off is none rest =
        let same : e.1 ≡ x = some_same is in
        let wrong : true ≡ false = sym on ∙ ap (λ (y : Index). is_on_column kind t place y) (sym same) ∙ off in
        cc
    at_name false off is none rest = rest is on none

    go : (b : Bool) → is_on_column kind t place e.1 ≡ b → cond b (Some e.1) (index_among kind t place es) ≡ None
        → (find (slice_cmp nat_cmp) i es ≡ Some x → is_on_column kind t place x ≡ true → index_among kind t place es ≡ None → ⊥) → ⊥
    go true on none rest = cc
    go false off none rest = at_name (eq_by_cmp (slice_cmp nat_cmp) i e.0) off is none rest

all_there : (xs : Names Index) (e : List ℕ × Index) → Contains (entries xs) e → get xs e.0 ≡ Some e.1
all_there xs e there = get-entries xs e.0 ∙ pair_found (slice_cmp nat_cmp) nat_list_cmp_total (entries xs) e (entries_rise (slice_cmp nat_cmp) xs) there

-- ---- what is read

pub index_found : (f : Key → Option (List ℕ)) (ts : Tables) (xs : Names Index) → AreTables ts → AreIndexes ts xs → IndexesStand f ts xs → (kind : IndexKind) (t : List ℕ) (place : ℕ) (found : Option (List ℕ)) → IsIndexOn f (record { table = t; column = place }) kind found
    → FoundOn kind xs t place found
index_found f ts xs tables are stand kind t place None is = none (index_on kind xs t place) refl
  where
    free : (i : List ℕ) → get (store_heads xs) i ≡ Some (record { kind = kind; target = record { table = t; column = place } }) → ⊥
    free = index_on_read f (store_heads xs) (heads_stand f ts xs tables are stand) (record { table = t; column = place }) kind None is

    none : (o : Option Index) → index_on kind xs t place ≡ o → o ≡ None
    none None e = refl
    none (Some x) e =
        let on = among_on kind xs t place (entries xs) x (all_there xs) e in
        let head : store_head x ≡ record { kind = kind; target = record { table = t; column = place } } = λ j. record { kind = on.kind_is j; target = record { table = on.table j; column = on.column j } } in
        absurd (free on.name (get-heads xs on.name ∙ ap (λ (o : Option Index). option_map store_head o) on.there ∙ ap Some head))
index_found f ts xs tables are stand kind t place (Some i) is = (x, (found.1, one (index_on kind xs t place) refl))
  where
    found : (x : Index) × (get xs i ≡ Some x) × (store_head x ≡ record { kind = kind; target = record { table = t; column = place } })
    found = head_found xs i (record { kind = kind; target = record { table = t; column = place } }) (index_on_read f (store_heads xs) (heads_stand f ts xs tables are stand) (record { table = t; column = place }) kind (Some i) is)

    x : Index
    x = found.0

    table : x.table ≡ t
    table = ap (λ (h : IndexHead). h.target.table) found.2

    column : x.column ≡ place
    column = ap (λ (h : IndexHead). h.target.column) found.2

    kind_is : kinds.kind x.body ≡ kind
    kind_is = ap (λ (h : IndexHead). h.kind) found.2

    one : (o : Option Index) → index_on kind xs t place ≡ o → o ≡ Some x
    one None e =
        absurd (among_some kind t place (entries xs) i x (sym (get-entries xs i) ∙ found.1)
        (and_from _ _ (and_from _ _ (subst (λ (u : List ℕ). same_list x.table u ≡ true) table (list_same x.table)) (eq-eqb x.column place column)) (eq-eqb (index_code (kinds.kind x.body)) (index_code kind) (ap index_code kind_is))) e)
    one (Some y) e =
        let on = among_on kind xs t place (entries xs) y (all_there xs) e in
        let same : on.name ≡ i = are.one on.name i y x on.there found.1 (on.table ∙ sym table) (on.column ∙ sym column) (on.kind_is ∙ sym kind_is) in
        sym on.there ∙ ap (get xs) same ∙ found.1
