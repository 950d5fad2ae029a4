-- Each entry that spells an index, but for the rows of postings, is among those of all.
use Rattle.std.proofs.Common.{◌≡◌, ◌≤◌, ℕ, ℤ, true, length, List, [], Option, Some, None, refl, sym, ap, subst, ◌∙◌, inl, inr, arith}
use Rattle.std.specs.Prelude.{is_some}
use Rattle.std.specs.List.{flat_map}
use Rattle.std.specs.Int.{to_be_bytes, w32}
use Rattle.std.specs.FinMap.{get, entries, nat_cmp-IsAntisymmetric, int_cmp-IsAntisymmetric, slice_cmp-IsAntisymmetric}
use Rattle.ct_base.specs.laws.Options.{option_map_some}
use Rattle.ct_bytes.specs.RowKeys.{row_bytes}
use Rattle.ct_entry.specs.declared.kinds.Kind.TheVariants as kind
use Rattle.ct_base.specs.Limits.{token_limit}
use Rattle.ct_entry.specs.declared.kinds.Kind.{Kind}
use Rattle.ct_entry.specs.Keys.{Key, key, row_part, document_part, anchor_part, IsRow, IsDocument, IsPart}
use Rattle.ct_entry.specs.Lists.{IsIn}
use Rattle.ct_entry.specs.laws.Lists.{in_flat_mapped, in_left, in_right}
use Rattle.ct_entry.specs.laws.MapEntries.{get_in}
use Rattle.ct_entry.specs.Maps.{Names}
use Rattle.tb_table.specs.Tables.{Tables}
use Rattle.ix_docmap.specs.Marks.{Mark, Pending, Settled, is_settled, queued}
use Rattle.ix_context.specs.Standing.{PartStands}
use Rattle.ix_context.specs.laws.Places.{length-place_le}
use Rattle.cat_index.specs.laws.Weights.{entry_listed}
use Rattle.ix_indexes.specs.Indexes.{Body, Index, index_entry, kinds, StandsUnder, IndexesStand, as_catalogue, as_rules, listed_marks, marks_in, mark_of, mark_at, part_of, postings_in}
use Rattle.ix_indexes.specs.Room.{longest_place}
use Rattle.ix_indexes.specs.laws.Indexes.{context_at, entry_at, resumes_at, catalogue_at, filed_in, is_of_rules, rules_at, ruled_in}
use Rattle.ix_kinds.specs.Rows.{table_at}
use Rattle.ix_kinds.specs.Statements.{place_of}
use Rattle.rule_index.specs.RuleIndexes.{RuleIndex, mark_of as rule_of}
use Rattle.rule_index.specs.Standing.{MarksStand}
use Rattle.db_state.proofs.RuleEntries.{ruled_entries, waits_listed, query_listed, anchor_listed, fault_listed}
use Rattle.db_state.proofs.WeighEntries.{Entry, entry, document_entries, mark_entries, filed_entries, place_in, index_entries}

-- ---- marks

pub settled_there : (o : Option (Mark (Unit {0}))) → is_settled o ≡ true → o ≡ Some (Settled tt)
settled_there None h = cc
settled_there (Some Pending) h = cc
settled_there (Some (Settled a)) h = refl

pub is_queued : (o : Option (Mark (Unit {0}))) (v : List ℕ) → queued o ≡ Some v → (o ≡ Some Pending) × (v ≡ [])
is_queued None v is = cc
is_queued (Some Pending) v is = (refl, cc)
is_queued (Some (Settled a)) v is = cc

mark_there : (o : Option Index) (r : ℤ) (m : Mark (Unit {0})) → mark_of o r ≡ Some m → (x : Index) × (o ≡ Some x) × (marks_in x.body r ≡ Some m)
mark_there None r m h = cc
mark_there (Some x) r m h = (x, refl, h)

-- a mark is among those listed
mark_listed : (b : Body) (r : ℤ) (m : Mark (Unit {0})) → marks_in b r ≡ Some m → IsIn (r, m) (listed_marks b)
mark_listed (inl c) r m at = get_in int_cmp-IsAntisymmetric c.marks r m at
mark_listed (inr (inl b)) r m at = cc
mark_listed (inr (inr b)) r m at = waits_listed (entries b.marks) r (get b.marks r) m (λ k is. get_in int_cmp-IsAntisymmetric b.marks r k is) at

-- ---- places

-- none is longer than the longest
place_few : (b : Body) (place : List ℕ) → kinds.resumes b place → length place ≤ longest_place
place_few (inl c) place is = length-place_le place is
place_few (inr (inl b)) place is = omega (arith, ap length is)
place_few (inr (inr b)) place is = omega (arith, ap length is)

-- ---- the entries of indexes

module _ (f : Key → Option (List ℕ)) (ts : Tables) (xs : Names Index) (stand : IndexesStand f ts xs) where
  pub its_part : (i : List ℕ) → PartStands f i (postings_in ts (get xs i)) (mark_at xs i) (part_of (get xs i))
  its_part i = context_at f ts i (get xs i) (stand i)

  -- which document each settled row is
  abbrev pub numbers : List ℕ → ℤ → Option ℕ
  numbers i r = (its_part i).document r

  -- the place that the entry of each ends in
  abbrev pub places : List ℕ → List ℕ
  places i = place_in f i (get xs i)

  pub places_few : (i : List ℕ) → length (places i) ≤ longest_place
  places_few i = go (get xs i) (stand i)
    where
      go : (o : Option Index) → StandsUnder f ts i o → length (place_in f i o) ≤ longest_place
      go None s = omega arith
      go (Some x) s = place_few x.body (place_of kinds f i x) (resumes_at f ts i x s)

  -- the entry is among those of all indexes
  abbrev IsListed : Entry → Type 0
  IsListed e = IsIn e (flat_map (index_entries numbers places ts) (entries xs))

  -- what is among an index's entries
  in_index : (i : List ℕ) (x : Index) (e : Entry) → get xs i ≡ Some x → IsIn e (index_entries numbers places ts (i, x)) → IsListed e
  in_index i x e is h = in_flat_mapped (index_entries numbers places ts) (i, x) (entries xs) e (get_in (slice_cmp-IsAntisymmetric nat_cmp-IsAntisymmetric) xs i x is) h

  -- what is among a mark's
  in_mark : (i : List ℕ) (x : Index) (r : ℤ) (m : Mark (Unit {0})) (e : Entry) → get xs i ≡ Some x → marks_in x.body r ≡ Some m → IsIn e (mark_entries numbers i (r, m)) → IsListed e
  in_mark i x r m e is at h = in_index i x e is (inr (in_left e (flat_map (mark_entries numbers i) (listed_marks x.body)) (filed_entries ts i x x.body) (in_flat_mapped (mark_entries numbers i) (r, m) (listed_marks x.body) e (mark_listed x.body r m at) h)))

  -- what is among a document's
  in_document : (i : List ℕ) (r : ℤ) (d : ℕ) (e : Entry) → numbers i r ≡ Some d → IsIn e (document_entries i r (Some d)) → IsListed e
  in_document i r d e is h =
      let settled = settled_there (mark_of (get xs i) r) (sym ((its_part i).documents.numbers.marked r) ∙ ap is_some is) in
      let x = mark_there (get xs i) r (Settled tt) settled in
      in_mark i x.0 r (Settled tt) e x.1 x.2 (subst (λ (o : Option ℕ). IsIn e (document_entries i r o)) (sym is) h)

  pub index_in : (i v : List ℕ) → f (key kind.Indexes i []) ≡ Some v → IsListed (entry (key kind.Indexes i []) v)
  index_in i v has =
      let x = option_map_some (λ (x : Index). index_entry x (place_of kinds f i x)) (get xs i) v (sym (entry_at f ts i (get xs i) (stand i)) ∙ has) in
      in_index i x.0 _ x.1 (inl (ap (entry (key kind.Indexes i [])) (sym x.2 ∙ ap (index_entry x.0) (sym (ap (place_in f i) x.1)))))

  pub document_row_in : (i v : List ℕ) (d : ℕ) → IsDocument d → f (key kind.DocumentRows i (document_part d)) ≡ Some v → IsListed (entry (key kind.DocumentRows i (document_part d)) v)
  document_row_in i v d document has =
      let r = option_map_some row_bytes ((its_part i).row d) v (sym ((its_part i).documents.rows d document) ∙ has) in
      in_document i r.0 d _ ((its_part i).documents.numbers.back r.0 d r.1) (inl (ap (entry (key kind.DocumentRows i (document_part d))) (sym r.2)))

  pub row_document_in : (i v : List ℕ) (r : ℤ) → IsRow r → f (key kind.RowDocuments i (row_part r)) ≡ Some v → IsListed (entry (key kind.RowDocuments i (row_part r)) v)
  row_document_in i v r row has =
      let d = option_map_some (to_be_bytes w32) (numbers i r) v (sym ((its_part i).documents.documents r row) ∙ has) in
      in_document i r d.0 _ d.1 (inr (inl (ap (entry (key kind.RowDocuments i (row_part r))) (sym d.2))))

  pub pending_in : (i v : List ℕ) (r : ℤ) → IsRow r → f (key kind.Pending i (row_part r)) ≡ Some v → IsListed (entry (key kind.Pending i (row_part r)) v)
  pending_in i v r row has =
      let q = is_queued (mark_at xs i r) v (sym ((its_part i).documents.queue r row) ∙ has) in
      let x = mark_there (get xs i) r Pending q.0 in
      in_mark i x.0 r Pending _ x.1 x.2 (inl (ap (entry (key kind.Pending i (row_part r))) q.1))

  pub filed_entry_in : (i part v : List ℕ) → IsPart kind.Catalogue part → f (key kind.Catalogue i part) ≡ Some v → IsListed (entry (key kind.Catalogue i part) v)
  filed_entry_in i part v is has =
      let found = filed_in f ts xs stand i part v has in
      let x = found.0 in
      in_index i (as_catalogue x) _ found.1
      (inr (in_right (entry (key kind.Catalogue i part) v) (flat_map (mark_entries numbers i) (listed_marks (inr (inl x.body)))) (filed_entries ts i (as_catalogue x) (inr (inl x.body)))
      (entry_listed f i x (table_at ts x.table) (catalogue_at f ts xs stand i x found.1) part v is has)))

  -- what is among the entries of rules
  in_rules : (i : List ℕ) (x : RuleIndex) (e : Entry) → get xs i ≡ Some (as_rules x) → IsIn e (ruled_entries i x.body) → IsListed e
  in_rules i x e is h = in_index i (as_rules x) e is (inr (in_right e (flat_map (mark_entries numbers i) (listed_marks (inr (inr x.body)))) (filed_entries ts i (as_rules x) (inr (inr x.body))) h))

  -- where a name has such an entry, it is that of a rule index
  ruled : (k : Kind) (i part v : List ℕ) → is_of_rules k ≡ true → f (key k i part) ≡ Some v → ((x : RuleIndex) → MarksStand f i (rule_of x) → IsIn (entry (key k i part) v) (ruled_entries i x.body)) → IsListed (entry (key k i part) v)
  ruled k i part v of has listed =
      let found = ruled_in f ts xs stand k i part v of has in
      in_rules i found.0 (entry (key k i part) v) found.1 (listed found.0 (rules_at f ts xs stand i found.0 found.1))

  pub rule_in : (i v : List ℕ) (r : ℤ) → IsRow r → f (key kind.Rules i (row_part r)) ≡ Some v → IsListed (entry (key kind.Rules i (row_part r)) v)
  rule_in i v r row has = ruled kind.Rules i (row_part r) v refl has (λ x its. query_listed f i x its r v row has)

  pub anchor_in : (i v a : List ℕ) (r : ℤ) → length a ≤ token_limit → IsRow r → f (key kind.Anchors i (anchor_part a r)) ≡ Some v → IsListed (entry (key kind.Anchors i (anchor_part a r)) v)
  anchor_in i v a r short row has = ruled kind.Anchors i (anchor_part a r) v refl has (λ x its. anchor_listed f i x its a r v short row has)

  pub fault_in : (i v : List ℕ) (r : ℤ) → IsRow r → f (key kind.RuleFaults i (row_part r)) ≡ Some v → IsListed (entry (key kind.RuleFaults i (row_part r)) v)
  fault_in i v r row has = ruled kind.RuleFaults i (row_part r) v refl has (λ x its. fault_listed f i x its r v row has)
