-- What a row that comes, changes or goes makes of a CONTEXT index.
use Rattle.std.proofs.Common.{cond, ◌≤◌, ◌≡◌, ℕ, ℤ, zero, suc, ◌+◌, ◌<◌, ◌^◌, Bool, true, false, List, [], ◌∷◌, ◌++◌, Option, Some, None, refl, sym, ap, subst, ◌∙◌, ◌⊎◌, inl, inr, arith, append_assoc}
use Rattle.std.specs.Prelude.{is_some, ◌==◌, ◌||◌}
use Rattle.std.specs.Int.{to_be_bytes, w32}
use Rattle.std.specs.Option.{option_and_then}
use Rattle.std.specs.Ordering.{int_eq}
use Rattle.std.specs.FinMap.{get, insert, remove}
use Rattle.std.proofs.lemmas.Bool.{eq-eqb}
use Rattle.ct_base.specs.declared.lists.Value.{Value}
use Rattle.ct_bytes.specs.Varints.{text_bytes}
use Rattle.ct_entry.specs.declared.kinds.Kind.{Kind}
use Rattle.ct_entry.specs.declared.kinds.Kind.TheVariants as kind
use Rattle.ct_entry.specs.Keys.{Key, key, row_part, IsRow}
use Rattle.ct_entry.specs.Changes.{view, AllOf, AllOn}
use Rattle.ct_entry.specs.laws.Changes.{told_frame}
use Rattle.ct_entry.specs.laws.Maps.{get_row-insert, get_row-remove}
use Rattle.ct_entry.specs.laws.Parts.{int_from_eq, int_same}
use Rattle.tb_table.specs.Tables.{Table, as_text, text_in, text_in_column}
use Rattle.tb_table.specs.Rules.{IsTable}
use Rattle.tx_settings.specs.declared.preferences.Prefs.{Prefs}
use Rattle.tx_settings.specs.PrefsBytes.{prefs_bytes}
use Rattle.db_names.specs.Heads.{index_head_bytes}
use Rattle.db_names.specs.declared.heads.IndexKind.TheVariants.{Context}
use Rattle.ix_kinds.specs.Rows.{RowChange, ChangesBy, LookAlike, value_at_place, value_in_column, value_of_row}
use Rattle.ix_kinds.specs.Indextypes.{IndexOf}
use Rattle.ix_kinds.specs.Standing.{is_entry, index_entry, HasEntry}
use Rattle.ix_kinds.specs.IndextypeLaws.{is_its, by_row, StandsAlone, RowsChange}
use Rattle.ix_docmap.specs.Marks.{Mark, Pending, Settled, is_settled}
use Rattle.ix_docmap.specs.Changes.{gone_changes, changed_changes}
use Rattle.ix_docmap.specs.Readings.{document_of, document_at}
use Rattle.ix_docmap.specs.laws.Documents.{is_of_map}
use Rattle.ix_context.specs.Places.{tidiness_byte, is_tidy}
use Rattle.ix_context.specs.Indexes.{ContextIndex, part_after_loss, mark_limit, texts_in}
use Rattle.ix_context.specs.Documents.{Postings, text_postings, document_cost, postings_by}
use Rattle.ix_context.specs.Standing.{PartStands}
use Rattle.ix_context.specs.laws.Standing.{part_agree, part_of_any}
use Rattle.ix_context.specs.laws.Parts.{part_see}
use Rattle.ix_context.specs.laws.Notes.{context_new, context_gone, context_gone_waiting, context_changed, context_changed_waiting}
use Rattle.ix_context.specs.Contents.{HasContextEntry}
use Rattle.ix_context.specs.Contexts.{IsContext, context_rest, context_entry, context_after, context_changes, context}
use Rattle.ix_context.specs.Spelling.{is_context_part}
use Rattle.ix_context.specs.laws.RowChanges.{document_read, settled_there, all_gone, all_on_gone, all_changed, all_on_changed, gone_others, changed_others}
use Rattle.ix_context.specs.laws.Bodies.{given-after_loss, untidy-after_loss, untidy_is}

-- ---- the entry of the index

-- is what its head, its rest and its place are
pub entry_is : (D : Type 0) (x : IndexOf ContextIndex) (place : List ℕ) → context_entry x place ≡ index_entry (context {D = D}) x place
entry_is D x place =
    ap (λ (l : List ℕ). 1 ∷ text_bytes x.table ++ (x.column ∷ 0 ∷ l)) (sym (append_assoc (prefs_bytes x.prefs) (0 ∷ (to_be_bytes w32 (x.body.part.given + 1) ++ tidiness_byte x.body.part.tidiness ∷ [])) place))
    ∙ sym (append_assoc (1 ∷ text_bytes x.table) (x.column ∷ []) (context_rest x ++ place))

-- the content has it, with the place that it ends in
abbrev pub has_entry : (D : Type 0) (f : Key → Option (List ℕ)) (i : List ℕ) (x : IndexOf ContextIndex) → HasContextEntry f i x → HasEntry (context {D = D}) f i x
has_entry D f i x has = record { place = has.place; resumes = has.resumes; whole = has.whole ∙ ap Some (entry_is D x has.place) }

-- what it is by
pub same_rest : (D : Type 0) (x y : IndexOf ContextIndex) (place : List ℕ) → x.table ≡ y.table → x.column ≡ y.column → x.prefs ≡ y.prefs → x.body.part.given ≡ y.body.part.given
    → x.body.part.tidiness ≡ y.body.part.tidiness → index_entry (context {D = D}) x place ≡ index_entry (context {D = D}) y place
same_rest D x y place table column prefs given tidiness j =
    index_head_bytes Context (table j) (column j) ++ ((0 ∷ prefs_bytes (prefs j) ++ (0 ∷ (to_be_bytes w32 (given j + 1) ++ tidiness_byte (tidiness j) ∷ []))) ++ place)

-- ---- what it sees

-- a text is a value of a column
text_of_value : (vs : List Value) (column : ℕ) → text_in_column vs column ≡ option_and_then as_text (value_in_column vs column)
text_of_value vs zero = refl
text_of_value vs (suc place) = go vs place
  where
    go : (vs : List Value) (place : ℕ) → text_in vs place ≡ option_and_then as_text (value_at_place vs place)
    go [] place = refl
    go (v ∷ vs) zero = refl
    go (v ∷ vs) (suc place) = go vs place

text_of_row : (o : Option (List Value)) (column : ℕ) → option_and_then (λ vs. text_in_column vs column) o ≡ option_and_then as_text (value_of_row o column)
text_of_row None column = refl
text_of_row (Some vs) column = text_of_value vs column

-- tables that look alike have the same texts
pub same_texts : (x : IndexOf ContextIndex) (t u : Table) → LookAlike (λ column. column == x.column) t u → (r : ℤ) → texts_in u x.column r ≡ texts_in t x.column r
same_texts x t u alike r =
    text_of_row (get u.rows r) x.column ∙ ap (option_and_then as_text) (alike.values r x.column (eq-eqb x.column x.column refl)) ∙ sym (text_of_row (get t.rows r) x.column)

-- ---- it stands alone

pub context_alone : {D : Type 0} → StandsAlone (context {D = D})
context_alone {D} = record {
  part = λ c k. part_of_any k;
  agree = λ f g i x t same stand. part_agree f g i (postings_by x.prefs (texts_in t x.column)) (get x.body.marks) x.body.part same stand;
  alike = λ f i x t u alike is stand.
      part_see f i (postings_by x.prefs (texts_in t x.column)) (postings_by x.prefs (texts_in u x.column)) (get x.body.marks) x.body.part (λ r settled. ap (text_postings x.prefs) (same_texts x t u alike r)) stand;
  is_alike = λ x t u alike is. record { marks = λ r. is.marks r ∙ sym (alike.rows r); numbers = is.numbers };
}

-- ---- which changes they are

of_map : (k : Kind) → is_of_map k ≡ true → (is_entry k || is_context_part k) ≡ true
of_map kind.DocumentRows h = refl
of_map kind.RowDocuments h = refl
of_map kind.Pending h = refl
of_map k h = cc

pub all_weaker : (p q : Kind → Bool) → ((k : Kind) → p k ≡ true → q k ≡ true) → (ws : List (Key × Option (List ℕ))) → AllOf p ws → AllOf q ws
all_weaker p q weaker [] all = tt
all_weaker p q weaker (w ∷ ws) all = (weaker w.0.kind all.0, all_weaker p q weaker ws all.1)

-- all of the map
pub all_of_changes : (i : List ℕ) (r : ℤ) (old new : Option (List Value)) (document : Option ℕ) → AllOf is_of_map (context_changes i r old new document)
all_of_changes i r None None document = tt
all_of_changes i r None (Some new) document = (refl, tt)
all_of_changes i r (Some old) (Some new) document = all_changed i r document
all_of_changes i r (Some old) None document = all_gone i r document

all_on_changes : (i : List ℕ) (r : ℤ) (old new : Option (List Value)) (document : Option ℕ) → AllOn i (context_changes i r old new document)
all_on_changes i r None None document = tt
all_on_changes i r None (Some new) document = (refl, tt)
all_on_changes i r (Some old) (Some new) document = all_on_changed i r document
all_on_changes i r (Some old) None document = all_on_gone i r document

-- the number of documents stays
given_after : (r : ℤ) (old new : Option (List Value)) (cost : ℕ) (c : ContextIndex) → (context_after r old new cost c).part.given ≡ c.part.given
given_after r None None cost c = refl
given_after r None (Some new) cost c = refl
given_after r (Some old) (Some new) cost c = given-after_loss (get c.marks r) cost c.part
given_after r (Some old) None cost c = given-after_loss (get c.marks r) cost c.part

-- one that isn't tidy stays so, and one that is does where the row is new
loose_after : (r : ℤ) (old new : Option (List Value)) (cost : ℕ) (c : ContextIndex) → is_tidy c.part.tidiness ≡ false → is_tidy (context_after r old new cost c).part.tidiness ≡ false
loose_after r None None cost c loose = loose
loose_after r None (Some new) cost c loose = loose
loose_after r (Some old) (Some new) cost c loose = ap is_tidy (untidy-after_loss (get c.marks r) cost c.part)
loose_after r (Some old) None cost c loose = ap is_tidy (untidy-after_loss (get c.marks r) cost c.part)

tidy_after : (r : ℤ) (old new : Option (List Value)) (cost : ℕ) (c : ContextIndex) → (old ≡ None) ⊎ (is_tidy c.part.tidiness ≡ false)
    → (context_after r old new cost c).part.tidiness ≡ c.part.tidiness
tidy_after r old new cost c (inl fresh) = ap (λ (o : Option (List Value)). (context_after r o new cost c).part.tidiness) fresh ∙ of_new new
  where
    of_new : (new : Option (List Value)) → (context_after r None new cost c).part.tidiness ≡ c.part.tidiness
    of_new None = refl
    of_new (Some new) = refl
tidy_after r old new cost c (inr loose) = untidy_is (context_after r old new cost c).part.tidiness (loose_after r old new cost c loose) ∙ sym (untidy_is c.part.tidiness loose)

-- ---- the marks

-- what the row has a mark by
marks_after : (r : ℤ) (old new : Option (List Value)) (cost : ℕ) (c : ContextIndex) (s : ℤ)
    → (int_eq s r ≡ true → is_some (get c.marks s) ≡ is_some old) → is_some (get (context_after r old new cost c).marks s) ≡ cond (int_eq s r) (is_some new) (is_some (get c.marks s))
marks_after r None None cost c s was = go (int_eq s r) was
  where
    go : (b : Bool) → (b ≡ true → is_some (get c.marks s) ≡ false) → is_some (get c.marks s) ≡ cond b false (is_some (get c.marks s))
    go true was = was refl
    go false was = refl
marks_after r None (Some new) cost c s was = ap is_some (get_row-insert c.marks r Pending s) ∙ go (int_eq s r)
  where
    go : (b : Bool) → is_some (cond b (Some Pending) (get c.marks s)) ≡ cond b true (is_some (get c.marks s))
    go true = refl
    go false = refl
marks_after r (Some old) (Some new) cost c s was = ap is_some (get_row-insert c.marks r Pending s) ∙ go (int_eq s r)
  where
    go : (b : Bool) → is_some (cond b (Some Pending) (get c.marks s)) ≡ cond b true (is_some (get c.marks s))
    go true = refl
    go false = refl
marks_after r (Some old) None cost c s was = ap is_some (get_row-remove c.marks r s) ∙ go (int_eq s r)
  where
    go : (b : Bool) → is_some (cond b None (get c.marks s)) ≡ cond b false (is_some (get c.marks s))
    go true = refl
    go false = refl

-- each row of the table after has a mark
row_is : (D : Type 0) (t u : Table) (x : IndexOf ContextIndex) (c : RowChange) (n : ℕ) → ChangesBy c t u → IsContext t x → IsContext u (by_row (context {D = D}) c n x)
row_is D t u x c n by is = record {
  marks = λ s. marks_after c.row c.old c.new n x.body s (λ same. is.marks s ∙ ap (λ (z : ℤ). is_some (get t.rows z)) (int_from_eq s c.row same) ∙ ap is_some by.old) ∙ at s (int_eq s c.row) refl;
  numbers = subst (λ (n : ℕ). n ≤ mark_limit) (sym (given_after c.row c.old c.new n x.body)) is.numbers;
}
  where
    at : (s : ℤ) (b : Bool) → int_eq s c.row ≡ b → cond b (is_some c.new) (is_some (get x.body.marks s)) ≡ is_some (get u.rows s)
    at s true same = sym (ap (λ (z : ℤ). is_some (get u.rows z)) (int_from_eq s c.row same) ∙ ap is_some by.new)
    at s false other = is.marks s ∙ ap is_some (sym (by.others s other))

-- ---- the entries

module _ (f : Key → Option (List ℕ)) (i : List ℕ) (p : Prefs) (column : ℕ) (b : ContextIndex) (t u : Table) (r : ℤ) where
  -- what the rows have before and after
  abbrev before : ℤ → Postings
  before = postings_by p (texts_in t column)

  abbrev after : ℤ → Postings
  after = postings_by p (texts_in u column)

  abbrev Stands : (Key → Option (List ℕ)) → (ℤ → Postings) → ContextIndex → Type 0
  Stands g doc c = PartStands g i doc (get c.marks) c.part

  -- other rows have the same
  other_rows : ((s : ℤ) → int_eq s r ≡ false → get u.rows s ≡ get t.rows s) → (s : ℤ) → int_eq s r ≡ false → after s ≡ before s
  other_rows others s other = ap (λ (o : Option (List Value)). text_postings p (option_and_then (λ vs. text_in_column vs column) o)) (others s other)

  -- and so do settled ones, where this one isn't settled
  settled_rows : (m : Option (Mark (Unit {0}))) → get b.marks r ≡ m → is_settled m ≡ false
      → ((s : ℤ) → int_eq s r ≡ false → get u.rows s ≡ get t.rows s) → (s : ℤ) → is_settled (get b.marks s) ≡ true → after s ≡ before s
  settled_rows m is free others s settled = go (int_eq s r) refl
    where
      go : (e : Bool) → int_eq s r ≡ e → after s ≡ before s
      go true e = let wrong : true ≡ false = sym settled ∙ ap (λ (z : ℤ). is_settled (get b.marks z)) (int_from_eq s r e) ∙ ap is_settled is ∙ free in cc
      go false e = other_rows others s e

  -- by the mark of the row, and the document that it is
  module _ (is_row : IsRow r) (room : b.part.given < 2 ^ 32) (others : (s : ℤ) → int_eq s r ≡ false → get u.rows s ≡ get t.rows s) (cost : ℕ) (cost_is : cost ≡ document_cost i (before r)) (stand : Stands f before b) where
    goes_by : (m : Option (Mark (Unit {0}))) → get b.marks r ≡ m → is_some m ≡ true → (o : Option ℕ) → stand.document r ≡ o → is_some o ≡ is_settled m
        → Stands (view (gone_changes i r o) f) after (record { part = part_after_loss (get b.marks r) cost b.part; marks = remove b.marks r })
    goes_by None mark some o is settled = cc
    goes_by (Some Pending) mark some (Some d) is settled = cc
    goes_by (Some (Settled a)) mark some None is settled = cc
    goes_by (Some Pending) mark some None is settled = context_gone_waiting f i before after cost b r is_row mark (settled_rows (Some Pending) mark refl others) stand
    goes_by (Some (Settled a)) mark some (Some d) is settled =
        subst (λ (n : ℕ). Stands (view (gone_changes i r (Some d)) f) after (record { part = part_after_loss (get b.marks r) n b.part; marks = remove b.marks r })) (sym cost_is)
        (context_gone f i before after b r is_row mark room (λ s other settled. other_rows others s other) stand d is)

    changes_by : (m : Option (Mark (Unit {0}))) → get b.marks r ≡ m → is_some m ≡ true → (o : Option ℕ) → stand.document r ≡ o → is_some o ≡ is_settled m
        → Stands (view (changed_changes i r o) f) after (record { part = part_after_loss (get b.marks r) cost b.part; marks = insert b.marks r Pending })
    changes_by None mark some o is settled = cc
    changes_by (Some Pending) mark some (Some d) is settled = cc
    changes_by (Some (Settled a)) mark some None is settled = cc
    changes_by (Some Pending) mark some None is settled = context_changed_waiting f i before after cost b r mark (settled_rows (Some Pending) mark refl others) stand
    changes_by (Some (Settled a)) mark some (Some d) is settled =
        subst (λ (n : ℕ). Stands (view (changed_changes i r (Some d)) f) after (record { part = part_after_loss (get b.marks r) n b.part; marks = insert b.marks r Pending })) (sym cost_is)
        (context_changed f i before after b r is_row mark room (λ s other settled. other_rows others s other) stand d is)

  -- a row without a mark has none
  no_mark : (o : Option (Mark (Unit {0}))) → is_some o ≡ false → o ≡ None
  no_mark None h = refl
  no_mark (Some m) h = cc

  -- whatever happens to the row
  row_stands : (old new : Option (List Value)) (cost : ℕ) → IsTable t → IsTable u → get t.rows r ≡ old → get u.rows r ≡ new → ((s : ℤ) → int_eq s r ≡ false → get u.rows s ≡ get t.rows s)
      → ((vs : List Value) → old ≡ Some vs → cost ≡ document_cost i (text_postings p (text_in_column vs column))) → is_some (get b.marks r) ≡ is_some old → b.part.given ≤ mark_limit → Stands f before b
      → Stands (view (context_changes i r old new (document_at f i r)) f) after (context_after r old new cost b)
  row_stands None None cost is_t is_u was now others cost_is marked most stand =
      part_see f i before after (get b.marks) b.part (settled_rows None (no_mark (get b.marks r) marked) refl others) stand
  row_stands None (Some new) cost is_t is_u was now others cost_is marked most stand =
      context_new f i before after b r (is_u.keys r new now) (no_mark (get b.marks r) marked) (settled_rows None (no_mark (get b.marks r) marked) refl others) stand
  row_stands (Some old) (Some new) cost is_t is_u was now others cost_is marked most stand =
      let is_row = is_t.keys r old was in
      let read = document_read f i (get b.marks) b.part.given stand.document stand.row stand.documents (omega (arith, most)) r is_row in
      subst (λ (o : Option ℕ). Stands (view (changed_changes i r o) f) after (record { part = part_after_loss (get b.marks r) cost b.part; marks = insert b.marks r Pending })) (sym read)
      (changes_by is_row (omega (arith, most)) others cost (cost_is old refl ∙ ap (λ (o : Option (List Value)). document_cost i (text_postings p (option_and_then (λ vs. text_in_column vs column) o))) (sym was)) stand
      (get b.marks r) refl marked (stand.document r) refl (settled_there f i (get b.marks) b.part.given stand.document stand.row stand.documents r (get b.marks r) (stand.document r) refl refl))
  row_stands (Some old) None cost is_t is_u was now others cost_is marked most stand =
      let is_row = is_t.keys r old was in
      let read = document_read f i (get b.marks) b.part.given stand.document stand.row stand.documents (omega (arith, most)) r is_row in
      subst (λ (o : Option ℕ). Stands (view (gone_changes i r o) f) after (record { part = part_after_loss (get b.marks r) cost b.part; marks = remove b.marks r })) (sym read)
      (goes_by is_row (omega (arith, most)) others cost (cost_is old refl ∙ ap (λ (o : Option (List Value)). document_cost i (text_postings p (option_and_then (λ vs. text_in_column vs column) o))) (sym was)) stand
      (get b.marks r) refl marked (stand.document r) refl (settled_there f i (get b.marks) b.part.given stand.document stand.row stand.documents r (get b.marks r) (stand.document r) refl refl))

-- the changes of a row leave what is read of another
rows_apart : (f : Key → Option (List ℕ)) (i : List ℕ) (r s : ℤ) (old new : Option (List Value)) (document : Option ℕ) → IsRow r → IsRow s → int_eq s r ≡ false
    → document_at (view (context_changes i r old new document) f) i s ≡ document_at f i s
rows_apart f i r s None None document r_is s_is apart = refl
rows_apart f i r s None (Some new) document r_is s_is apart = refl
rows_apart f i r s (Some old) (Some new) document r_is s_is apart = ap (option_and_then document_of) (changed_others i i r s document (f (key kind.RowDocuments i (row_part s))) r_is s_is apart)
rows_apart f i r s (Some old) None document r_is s_is apart = ap (option_and_then document_of) (gone_others i i r s document (f (key kind.RowDocuments i (row_part s))) r_is s_is apart)

-- a row whose mark is lost isn't settled any more
pub lost_unsettled : (r : ℤ) (old : List Value) (new : Option (List Value)) (cost : ℕ) (c : ContextIndex) → is_settled (get (context_after r (Some old) new cost c).marks r) ≡ false
lost_unsettled r old None cost c = ap is_settled (get_row-remove c.marks r r ∙ ap (λ (b : Bool). cond b None (get c.marks r)) (int_same r))
lost_unsettled r old (Some new) cost c = ap is_settled (get_row-insert c.marks r Pending r ∙ ap (λ (b : Bool). cond b (Some Pending) (get c.marks r)) (int_same r))

-- ---- all of it

pub context_rows : {D : Type 0} → RowsChange (context {D = D})
context_rows {D} = record {
  same = λ c n x. record { kind = refl; own = λ k. refl; looks = λ column. refl; resumes = λ place is. is };
  loose = λ c n b loose. loose_after c.row c.old c.new n b loose;
  own = λ f i x columns c. record {
    on = all_on_changes i c.row c.old c.new (document_at f i c.row);
    of = all_weaker is_of_map (is_its (context {D = D}) x.body) of_map (context_changes i c.row c.old c.new (document_at f i c.row)) (all_of_changes i c.row c.old c.new (document_at f i c.row));
  };
  entry = λ f i x columns c n place keeps.
      told_frame is_of_map (context_changes i c.row c.old c.new (document_at f i c.row)) (key kind.Indexes i []) (Some (index_entry (context {D = D}) x place)) (all_of_changes i c.row c.old c.new (document_at f i c.row)) refl
      ∙ ap Some (same_rest D x (by_row (context {D = D}) c n x) place refl refl refl (sym (given_after c.row c.old c.new n x.body)) (sym (tidy_after c.row c.old c.new n x.body keeps)));
  is = λ t u x c n is_t is_u by is. row_is D t u x c n by is;
  stands = λ f i x t u c n is_t is_u by cost is stand.
      row_stands f i x.prefs x.column x.body t u c.row c.old c.new n is_t is_u by.old by.new by.others cost (is.marks c.row ∙ ap is_some by.old) is.numbers stand;
  read_agree = λ f g i x r same. ap (option_and_then document_of) (same (key kind.RowDocuments i (row_part r)) refl refl);
  changes_same = λ f i x columns c d n. refl;
  apart = λ f i x columns c r row is_row apart. rows_apart f i c.row r c.old c.new (document_at f i c.row) row is_row apart;
}
