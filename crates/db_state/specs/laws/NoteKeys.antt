-- What statements tell indexes of a row is on keys of these indexes.
use Rattle.std.proofs.Common.{◌≡◌, ◌<◌, ◌^◌, ℕ, ℤ, Bool, true, List, [], ◌∷◌, Option, Some, None, refl, sym, ap, subst, ◌∙◌, inl, inr, arith}
use Rattle.std.specs.Prelude.{◌||◌}
use Rattle.std.specs.FinMap.{get}
use Rattle.std.proofs.lemmas.Bool.{and_parts, or_right}
use Rattle.ct_base.specs.Names.{IsName}
use Rattle.ct_base.specs.declared.lists.Value.{Value}
use Rattle.ct_entry.specs.Keys.{Key, same_list, IsRow}
use Rattle.ct_entry.specs.Changes.{AreChanges}
use Rattle.ct_entry.specs.Each.{each, is_any_of}
use Rattle.ct_entry.specs.Maps.{Names}
use Rattle.ct_entry.specs.laws.Changes.{are-append}
use Rattle.ct_entry.specs.laws.Keys.{list_from_same, list_same}
use Rattle.tb_table.specs.declared.columns.Column.{Column}
use Rattle.tb_table.specs.Tables.{Tables, row_at}
use Rattle.tb_table.specs.Rules.{AreTables, IsTable}
use Rattle.ix_docmap.specs.Readings.{document_at}
use Rattle.ix_kinds.specs.Rows.{row_change, table_at}
use Rattle.ix_kinds.specs.Targets.{IsTarget}
use Rattle.ix_kinds.specs.Indextypes.{IndexOf, with_body}
use Rattle.ix_kinds.specs.Statements.{is_on, AreIndexesOn, row_changes_in, row_changes_at}
use Rattle.ix_kinds.specs.RowSteps.{DifferInRow, IndexesHold}
use Rattle.ix_kinds.specs.laws.Tables.{changes_by, row_of_table, table_is, target_alike}
use Rattle.ix_context.specs.Indexes.{ContextIndex}
use Rattle.ix_context.specs.Contexts.{context_changes}
use Rattle.ix_context.specs.laws.RowChanges.{document_read}
use Rattle.cat_index.specs.Catalogues.{CatalogueBody, filing}
use Rattle.cat_index.specs.Rules.{IsCatalogue}
use Rattle.cat_index.specs.Shapes.{IsFiling}
use Rattle.cat_index.specs.laws.Kind.{catalogue_laws}
use Rattle.db_state.specs.laws.CatalogueKeys.{row_changes_are}
use Rattle.cat_index.specs.laws.Well.{filings_fit}
use Rattle.rule_index.specs.Spelling.{anchors_at}
use Rattle.rule_index.specs.laws.Kind.{anchors_are}
use Rattle.rule_index.specs.laws.Shapes.{AreShort}
use Rattle.db_state.specs.laws.RuleKeys.{mark_anchors_short, rules_are_keys}
use Rattle.ix_indexes.specs.Indexes.{Body, Defined, Index, StandsUnder, as_catalogue, as_index, as_rules, kinds}
use Rattle.ix_indexes.specs.laws.Indexes.{catalogue_is, context_is, rules_are, rules_at}
use Rattle.rule_index.specs.RuleIndexes.{RuleIndex, mark_of}

-- ---- in a CONTEXT index, by a document that keys may have

context_are : (i : List ℕ) (r : ℤ) (old new : Option (List Value)) (o : Option ℕ) → IsName i → IsRow r → ((d : ℕ) → o ≡ Some d → d < 2 ^ 32) → AreChanges (context_changes i r old new o)
context_are i r None None o name row few = tt
context_are i r None (Some new) o name row few = (record { owner = name; part = (r, row, refl) }, tt)
context_are i r (Some old) None None name row few = (record { owner = name; part = (r, row, refl) }, tt)
context_are i r (Some old) None (Some d) name row few = (record { owner = name; part = (d, few d refl, refl) }, (record { owner = name; part = (r, row, refl) }, tt))
context_are i r (Some old) (Some new) None name row few = tt
context_are i r (Some old) (Some new) (Some d) name row few = (
  record { owner = name; part = (d, few d refl, refl) },
  (record { owner = name; part = (r, row, refl) }, (record { owner = name; part = (r, row, refl) }, tt)),
)

-- ---- in each index of a store whose tables come to differ in the row

module _ (f : Key → Option (List ℕ)) (ts us : Tables) (xs : Names Index) (t : List ℕ) (r : ℤ) (hold : IndexesHold kinds f ts xs) (after : AreTables us) (differ : DifferInRow ts us t r) (row : IsRow r) where
  document_few : (i : List ℕ) (x : IndexOf ContextIndex) → get xs i ≡ Some (as_index x) → (d : ℕ) → document_at f i r ≡ Some d → d < 2 ^ 32
  document_few i x is d read =
      let stand : StandsUnder f ts i (Some (as_index x)) = subst (StandsUnder f ts i) is (hold.stand i) in
      let most = (context_is ts x (hold.rules.each i (as_index x) is)).numbers in
      let known = document_read f i (get x.body.marks) x.body.part.given stand.part.document stand.part.row stand.part.documents (omega (arith, most)) r row in
      let within = (stand.part.documents.numbers.within r d (sym known ∙ read)).1 in
      omega (arith, most, within)

  module _ (i : List ℕ) (x : IndexOf CatalogueBody) (is : get xs i ≡ Some (as_catalogue x)) (on : x.table ≡ t) where
    target : IsTarget ts t x.column
    target = subst (λ (q : List ℕ). IsTarget ts q x.column) on (hold.rules.each i (as_catalogue x) is).target

    was_table : IsTable (table_at ts t)
    was_table = table_is ts t target.table hold.tables target.there

    is_table : IsTable (table_at us t)
    is_table = let now = target_alike ts us differ.alike t x.column target in table_is us t now.table after now.there

    was_catalogue : IsCatalogue (table_at ts t) x
    was_catalogue = subst (λ (q : List ℕ). IsCatalogue (table_at ts q) x) on (catalogue_is ts x (hold.rules.each i (as_catalogue x) is))

    is_catalogue : IsCatalogue (table_at us t) x
    is_catalogue = (catalogue_laws {D = Defined}).rows.is (table_at ts t) (table_at us t) x (row_change ts us t r) 0 was_table is_table (changes_by ts us t r differ) was_catalogue

    was_filed : (vs : List Value) → row_at ts t r ≡ Some vs → IsFiling (filing x r vs)
    was_filed vs here = filings_fit (table_at ts t) x was_table (hold.rules.each i (as_catalogue x) is).prefs was_catalogue r vs (row_of_table ts t r ∙ here)

    is_filed : (vs : List Value) → row_at us t r ≡ Some vs → IsFiling (filing x r vs)
    is_filed vs here = filings_fit (table_at us t) x is_table (hold.rules.each i (as_catalogue x) is).prefs is_catalogue r vs (row_of_table us t r ∙ here)

  -- the keys under which its rule was filed in a rule index
  anchors_few : (i : List ℕ) (x : RuleIndex) → get xs i ≡ Some (as_rules x) → AreShort (anchors_at f i r)
  anchors_few i x is =
      let rules = rules_are ts x (hold.rules.each i (as_rules x) is) in
      subst AreShort (sym (anchors_are f i x r row (rules.each r) (rules_at f ts xs hold.stand i x is))) (mark_anchors_short (mark_of x r) (rules.each r))

  one_are : (columns : List Column) (i : List ℕ) (x : Index) → get xs i ≡ Some x → x.table ≡ t → AreChanges (row_changes_in kinds f columns (row_change ts us t r) i (Some x))
  one_are columns i x is on = go x.body refl
    where
      name : IsName i
      name = hold.rules.names i x is

      go : (b : Body) → x.body ≡ b → AreChanges (row_changes_in kinds f columns (row_change ts us t r) i (Some (with_body x b)))
      go (inl c) body = context_are i r (row_at ts t r) (row_at us t r) (document_at f i r) name row (document_few i (with_body x c) (is ∙ ap (λ (b : Body). Some (with_body x b)) body))
      go (inr (inr b)) body =
          rules_are_keys i r name row (row_at ts t r) (row_at us t r) (anchors_at f i r) (anchors_few i (with_body x b) (is ∙ ap (λ (b : Body). Some (with_body x b)) body))
      go (inr (inl c)) body =
          let here : get xs i ≡ Some (as_catalogue (with_body x c)) = is ∙ ap (λ (b : Body). Some (with_body x b)) body in
          row_changes_are i r name row (with_body x c) (row_at ts t r) (row_at us t r) (was_filed i (with_body x c) here on) (is_filed i (with_body x c) here on)

  named_are : (columns : List Column) (test : Index → Bool) (names : List (List ℕ)) → ((i : List ℕ) → is_any_of i names ≡ true → is_on kinds test t (get xs i) ≡ true)
      → AreChanges (each (row_changes_at kinds f xs columns (row_change ts us t r)) names)
  named_are columns test [] each_on = tt
  named_are columns test (i ∷ names) each_on =
      are-append (row_changes_at kinds f xs columns (row_change ts us t r) i) (each (row_changes_at kinds f xs columns (row_change ts us t r)) names)
      (go (get xs i) refl (each_on i (ap (λ (b : Bool). b || is_any_of i names) (list_same i)))) (named_are columns test names (λ j among. each_on j (or_right (same_list j i) (is_any_of j names) among)))
    where
      go : (o : Option Index) → get xs i ≡ o → is_on kinds test t o ≡ true → AreChanges (row_changes_in kinds f columns (row_change ts us t r) i o)
      go None is on = tt
      go (Some x) is on = one_are columns i x is (list_from_same x.table t (and_parts (same_list x.table t) (test x) on).0)

  -- The changes of the row in the indexes of these names, which are on the table.
  pub notes_are_keys : (columns : List Column) (test : Index → Bool) (names : List (List ℕ)) → AreIndexesOn kinds test xs t names → AreChanges (each (row_changes_at kinds f xs columns (row_change ts us t r)) names)
  notes_are_keys columns test names on = named_are columns test names (λ i among. sym (on.each i) ∙ among)
