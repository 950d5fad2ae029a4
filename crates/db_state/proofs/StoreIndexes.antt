-- The entries that spell indexes are ones that a store has.
use Rattle.std.proofs.Common.{◌≡◌, ℕ, ℤ, ◌+◌, ◌^◌, ◌<◌, ◌≤◌, List, [], ◌∷◌, length, true, Option, Some, None, refl, sym, ap, ◌∙◌, arith, inl, inr, subst}
use Rattle.std.specs.Prelude.{is_some}
use Rattle.std.specs.Int.{to_be_bytes, w32}
use Rattle.std.specs.FinMap.{get}
use Rattle.ct_base.specs.laws.Options.{option_map_some}
use Rattle.ct_bytes.specs.RowKeys.{row_bytes}
use Rattle.ct_bytes.specs.laws.RowKeys.{length-row_bytes}
use Rattle.ct_keep.specs.Content.{value_limit}
use Rattle.ct_entry.specs.declared.kinds.Kind.TheVariants as kind
use Rattle.ct_base.specs.Limits.{token_limit}
use Rattle.ct_entry.specs.declared.kinds.Kind.{Kind}
use Rattle.ct_entry.specs.Keys.{Key, key, row_part, document_part, anchor_part, IsRow, IsDocument, IsPart}
use Rattle.ct_entry.specs.laws.Lists.{each_at_in}
use Rattle.ct_entry.specs.Maps.{Names}
use Rattle.tb_table.specs.Tables.{Tables}
use Rattle.tb_table.specs.Rules.{AreTables}
use Rattle.ix_posting.specs.declared.rows.RowDocument.{RowDocument}
use Rattle.ix_posting.specs.Forms.{PlaceForm, number_form, pair_form}
use Rattle.ix_posting.specs.Rows.{IsPostingRowOf, posting_bytes_of, IsPostingRow, posting_bytes, IsSpanRow, span_row_bytes}
use Rattle.ix_rows.specs.PlacedRows.{document_number}
use Rattle.ix_rows.specs.Spelling.{row_key, first_document}
use Rattle.ix_rows.specs.WordRows.{IsWordTerm}
use Rattle.ix_rows.specs.SpanRows.{IsSpanTerm}
use Rattle.ix_rows.specs.laws.Rooms.{row_found}
use Rattle.ix_docmap.specs.Marks.{is_settled}
use Rattle.ix_context.specs.Standing.{PartStands}
use Rattle.ix_kinds.specs.Rows.{table_at}
use Rattle.ix_kinds.specs.Indextypes.{with_body}
use Rattle.ix_kinds.specs.Statements.{place_of}
use Rattle.ix_kinds.specs.laws.Tables.{table_is}
use Rattle.ix_context.specs.Indexes.{mark_limit}
use Rattle.cat_index.specs.Shapes.{IsWordPart}
use Rattle.cat_index.specs.laws.Well.{entry_well, row_well}
use Rattle.ix_indexes.specs.Indexes.{Body, Defined, Index, index_entry, kinds, StandsUnder, IndexesStand, AreIndexes, IsIndex, as_catalogue, as_rules, marks_in, part_in, mark_of, mark_at, part_of, postings_in}
use Rattle.ix_indexes.specs.Shapes.{HasIndexValue}
use Rattle.ix_indexes.specs.laws.Indexes.{context_at, entry_at, resumes_at, kind_is, catalogue_is, catalogue_at, filed_in, is_of_rules, marked_row, rules_are, rules_at, ruled_in}
use Rattle.ix_context.specs.Shapes.{HasContextValue, StartsAt, IsRowFrom, IsSpanRowFrom}
use Rattle.ix_context.specs.laws.Well.{length-entry_le}
use Rattle.rule_index.specs.RuleIndexes.{RuleIndex, RuleMark, mark_of as rule_of}
use Rattle.rule_index.specs.Shapes.{HasRuleValue}
use Rattle.rule_index.specs.Standing.{IsRuleMark, MarksStand}
use Rattle.rule_index.specs.laws.Kind.{entry_is as rules_entry_is}
use Rattle.rule_index.specs.laws.Shapes.{length-rules_bytes_le}
use Rattle.db_state.proofs.RuleEntries.{query_well, anchor_well, fault_well}
use Rattle.db_state.proofs.WeighIndexes.{settled_there, is_queued}
use Rattle.ix_context.specs.laws.ContextRows.{entry_is}
use Rattle.ix_context.specs.laws.Reading.{column_few}

-- a row that stands under its first document
starts_at : {P : Type 0} (form : PlaceForm P) (row : List (RowDocument P)) (d : ℕ) (v : List ℕ) → IsPostingRowOf form row → d ≡ first_document document_number row → v ≡ posting_bytes_of form row → StartsAt form d v
starts_at form [] d v row first spelt = let some = row.some in absurd (omega (arith, some))
starts_at form (x ∷ xs) d v row first spelt = record { first = x; others = xs; starts = sym first; row = row; spelt = spelt }

-- an index that has a settled row has no more marks than there are numbers
few_given : (ts : Tables) (x : Index) → IsIndex ts x → (r : ℤ) → is_settled (marks_in x.body r) ≡ true → (part_in x.body).given ≤ mark_limit
few_given ts x is r settled = go x.body (kind_is ts x is) settled
  where
    go : (b : Body) → kinds.is (table_at ts x.table) (with_body x b) → is_settled (marks_in b r) ≡ true → (part_in b).given ≤ mark_limit
    go (inl b) rules h = rules.numbers
    go (inr b) rules h = omega arith

module _ (f : Key → Option (List ℕ)) (ts : Tables) (xs : Names Index) (tables : AreTables ts) (are : AreIndexes ts xs) (stand : IndexesStand f ts xs) where
  its_part : (i : List ℕ) → PartStands f i (postings_in ts (get xs i)) (mark_at xs i) (part_of (get xs i))
  its_part i = context_at f ts i (get xs i) (stand i)

  -- a row that has a number is a row of the table, and the number is one that fits
  numbered : (i : List ℕ) (r : ℤ) (d : ℕ) → (its_part i).document r ≡ Some d → IsRow r × (1 ≤ d) × (d < 2 ^ 32)
  numbered i r d is = go (get xs i) refl (sym ((its_part i).documents.numbers.marked r) ∙ ap is_some is) ((its_part i).documents.numbers.within r d is)
    where
      go : (o : Option Index) → get xs i ≡ o → is_settled (mark_of o r) ≡ true → (1 ≤ d) × (d ≤ (part_of o).given) → IsRow r × (1 ≤ d) × (d < 2 ^ 32)
      go None here settled within = cc
      go (Some x) here settled within =
          let rules = are.each i x here in
          let few = few_given ts x rules r settled in
          (marked_row ts x tables rules r (ap is_some (settled_there (marks_in x.body r) settled)), within.0, omega (arith, within.1, few))

  -- the entry of an index, by its kind
  abbrev pub IsWell : List ℕ → List ℕ → Type 0
  IsWell i v = HasIndexValue (key kind.Indexes i []) v × (length v ≤ value_limit)

  its_value : (i : List ℕ) (x : Index) (place : List ℕ) → IsIndex ts x → kinds.resumes x.body place → IsWell i (index_entry x place)
  its_value i x place index resumes = go x.body (kind_is ts x index) resumes
    where
      go : (b : Body) → kinds.is (table_at ts x.table) (with_body x b) → kinds.resumes b place → IsWell i (index_entry (with_body x b) place)
      go (inl b) is resumes =
          let name = tables.names x.table index.target.table index.target.there in
          let few = column_few ts tables x.table x.column index.target in
          let most = is.numbers in
          let long = length-entry_le x.table x.column x.prefs (b.part.given + 1) b.part.tidiness place name index.prefs resumes in
          let same = entry_is Defined (with_body x b) place in (
            inl (record {
              table = x.table;
              column = x.column;
              prefs = x.prefs;
              next = b.part.given + 1;
              tidiness = b.part.tidiness;
              place = place;
              named = name;
              low = omega (arith, few);
              are = index.prefs;
              fits = omega (arith, most);
              resumes = resumes;
              spelt = sym same;
            }),
            omega (arith, long, ap length same),
          )
      go (inr (inl b)) is resumes =
          let few = column_few ts tables x.table x.column index.target in
          let well = entry_well Defined i (with_body x b) (table_at ts x.table) (tables.names x.table index.target.table index.target.there) (omega (arith, few)) index.prefs is in
          subst (λ (p : List ℕ). IsWell i (index_entry (with_body x (inr (inl b))) p)) (sym resumes) (inr (inl well.0), well.1)
      go (inr (inr b)) is resumes =
          let name = tables.names x.table index.target.table index.target.there in
          let few = column_few ts tables x.table x.column index.target in
          let long = length-rules_bytes_le x.table x.column x.prefs name index.prefs in
          let same = rules_entry_is (with_body x b) in
          subst (λ (p : List ℕ). IsWell i (index_entry (with_body x (inr (inr b))) p)) (sym resumes)
          (inr (inr (record { table = x.table; column = x.column; prefs = x.prefs; named = name; place = omega (arith, few); are = index.prefs; spelt = sym same })), omega (arith, long, ap length same))

  pub index_value : (i v : List ℕ) → f (key kind.Indexes i []) ≡ Some v → IsWell i v
  index_value i v has =
      let x = option_map_some (λ (x : Index). index_entry x (place_of kinds f i x)) (get xs i) v (sym (entry_at f ts i (get xs i) (stand i)) ∙ has) in
      let resumes = resumes_at f ts i x.0 (subst (StandsUnder f ts i) x.1 (stand i)) in
      subst (IsWell i) x.2 (its_value i x.0 (place_of kinds f i x.0) (are.each i x.0 x.1) resumes)

  -- the entry of a row in a catalogue
  pub filed_value : (i part v : List ℕ) → IsPart kind.Catalogue part → f (key kind.Catalogue i part) ≡ Some v → IsWordPart part × (v ≡ [])
  filed_value i part v is has =
      let found = filed_in f ts xs stand i part v has in
      let x = found.0 in
      let index = are.each i (as_catalogue x) found.1 in
      (row_well f i x (table_at ts x.table) (table_is ts x.table index.target.table tables index.target.there) index.prefs (catalogue_is ts x index) (catalogue_at f ts xs stand i x found.1) part v is has).0

  -- an entry of a rule index
  ruled_value : (k : Kind) (i part v : List ℕ) → is_of_rules k ≡ true → f (key k i part) ≡ Some v
      → ((x : RuleIndex) → MarksStand f i (rule_of x) → ((r : ℤ) (m : RuleMark) → rule_of x r ≡ Some m → IsRuleMark m) → HasRuleValue (key k i part) v × (length v ≤ value_limit)) → HasRuleValue (key k i part) v × (length v ≤ value_limit)
  ruled_value k i part v of has value =
      let found = ruled_in f ts xs stand k i part v of has in
      value found.0 (rules_at f ts xs stand i found.0 found.1) (rules_are ts found.0 (are.each i (as_rules found.0) found.1)).each

  pub rule_value : (i v : List ℕ) (r : ℤ) → IsRow r → f (key kind.Rules i (row_part r)) ≡ Some v → HasRuleValue (key kind.Rules i (row_part r)) v × (length v ≤ value_limit)
  rule_value i v r row has = ruled_value kind.Rules i (row_part r) v refl has (λ x its each. query_well f i x its each r v row has)

  pub anchor_value : (i v a : List ℕ) (r : ℤ) → length a ≤ token_limit → IsRow r → f (key kind.Anchors i (anchor_part a r)) ≡ Some v → HasRuleValue (key kind.Anchors i (anchor_part a r)) v × (length v ≤ value_limit)
  anchor_value i v a r short row has = ruled_value kind.Anchors i (anchor_part a r) v refl has (λ x its each. anchor_well f i x its each a r v short row has)

  pub fault_value : (i v : List ℕ) (r : ℤ) → IsRow r → f (key kind.RuleFaults i (row_part r)) ≡ Some v → HasRuleValue (key kind.RuleFaults i (row_part r)) v × (length v ≤ value_limit)
  fault_value i v r row has = ruled_value kind.RuleFaults i (row_part r) v refl has (λ x its each. fault_well f i x its each r v row has)

  pub document_row_value : (i v : List ℕ) (d : ℕ) → IsDocument d → f (key kind.DocumentRows i (document_part d)) ≡ Some v → HasContextValue (key kind.DocumentRows i (document_part d)) v × (length v ≤ value_limit)
  document_row_value i v d document has =
      let r = option_map_some row_bytes ((its_part i).row d) v (sym ((its_part i).documents.rows d document) ∙ has) in
      let eight = length-row_bytes r.0 in
      ((r.0, (numbered i r.0 d ((its_part i).documents.numbers.back r.0 d r.1)).0, sym r.2), omega (arith, eight, ap length r.2))

  pub row_document_value : (i v : List ℕ) (r : ℤ) → IsRow r → f (key kind.RowDocuments i (row_part r)) ≡ Some v → HasContextValue (key kind.RowDocuments i (row_part r)) v × (length v ≤ value_limit)
  row_document_value i v r row has =
      let d = option_map_some (to_be_bytes w32) ((its_part i).document r) v (sym ((its_part i).documents.documents r row) ∙ has) in
      ((d.0, (numbered i r d.0 d.1).2, sym d.2), omega (arith, ap length d.2))

  pub pending_value : (i v : List ℕ) (r : ℤ) → IsRow r → f (key kind.Pending i (row_part r)) ≡ Some v → HasContextValue (key kind.Pending i (row_part r)) v × (length v ≤ value_limit)
  pending_value i v r row has = let q = is_queued (mark_at xs i r) v (sym ((its_part i).documents.queue r row) ∙ has) in (q.1, omega (arith, ap length q.1))

  -- a row of postings, of documents that are rows or dead ones
  pub posting_value : (i v term : List ℕ) (d : ℕ) → IsWordTerm term → IsDocument d → f (key kind.Postings i (row_key term d)) ≡ Some v → IsRowFrom d v
  posting_value i v term d is document has =
      let r = row_found document_number posting_bytes ((its_part i).word_rows term) d v (sym ((its_part i).words.spelled.spelled term d is document) ∙ has) in
      starts_at number_form r.0 d v (each_at_in IsPostingRow r.0 ((its_part i).word_rows term) ((its_part i).words.are term is).each r.1) r.2 r.3

  pub span_value : (i v term : List ℕ) (d : ℕ) → IsSpanTerm term → IsDocument d → f (key kind.Spans i (row_key term d)) ≡ Some v → IsSpanRowFrom d v
  span_value i v term d is document has =
      let r = row_found document_number span_row_bytes ((its_part i).span_rows term) d v (sym ((its_part i).spans.spelled.spelled term d is document) ∙ has) in
      starts_at pair_form r.0 d v (each_at_in IsSpanRow r.0 ((its_part i).span_rows term) ((its_part i).spans.are term is).each r.1) r.2 r.3
