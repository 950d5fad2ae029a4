-- An index that was optimised stands, as the state has it then.
use Rattle.std.specs.Prelude.{ℕ, ℤ, ◌≡◌, ◌==◌, ◌||◌, ◌+◌, ◌≤◌, Bool, true, false, List, [], ◌∷◌, Option, Some, None, is_some, refl}
use Rattle.std.specs.Bool.{if◌then◌else◌}
use Rattle.std.specs.Int.{from_be_bytes, w64}
use Rattle.std.specs.Option.{option_map, option_and_then}
use Rattle.std.specs.FinMap.{get}
use Rattle.std.proofs.Common.{sym, ap, subst, ◌∙◌, inl, inr, arith}
use Rattle.ct_bytes.specs.RowKeys.{row_bytes}
use Rattle.ct_bytes.specs.laws.RowKeys.{length-row_bytes}
use Rattle.ct_keep.specs.Content.{Content}
use Rattle.ct_entry.specs.declared.kinds.Kind.{Kind}
use Rattle.ct_entry.specs.declared.kinds.Kind.TheVariants as kind
use Rattle.ct_entry.specs.Keys.{Key, key, at, IsDocument, HasKeysOnly}
use Rattle.ct_entry.specs.Changes.{told, view, put_value, AllOf, AllOn}
use Rattle.ct_entry.specs.Each.{each}
use Rattle.ct_entry.specs.Listings.{row_of, sign_turned_back}
use Rattle.ct_entry.specs.Lists.{IsIn}
use Rattle.ct_entry.specs.laws.Changes.{told-append, view-append, all-append, all_on-append}
use Rattle.tb_table.specs.Tables.{Table}
use Rattle.ix_kinds.specs.Indextypes.{IndexOf}
use Rattle.ix_kinds.specs.Standing.{is_entry, index_entry, IndexStands}
use Rattle.ix_kinds.specs.IndextypeLaws.{LeadsEntry}
use Rattle.ix_kinds.specs.laws.Standing.{own_stand}
use Rattle.ix_posting.specs.Forms.{number_form, pair_form}
use Rattle.ix_posting.specs.Rows.{WordDocument, SpanDocument}
use Rattle.ix_rows.specs.WordRows.{IsWordTerm}
use Rattle.ix_rows.specs.SpanRows.{IsSpanTerm}
use Rattle.ix_docmap.specs.Marks.{Marks}
use Rattle.ix_docmap.specs.Readings.{row_at_document}
use Rattle.ix_repack.specs.declared.terms.Term.{Term}
use Rattle.ix_repack.specs.declared.terms.Term.TheVariants.{Word, Section}
use Rattle.ix_repack.specs.Terms.{all_terms, IsTermOrStart}
use Rattle.ix_repack.specs.Repacking.{stays, HasRows, HasIndexRows}
use Rattle.ix_repack.specs.Walking.{handled_terms, last_term, has_more}
use Rattle.ix_repack.specs.laws.Handled.{words_of, sections_of, words_in, sections_in, AreTerms, all_are_terms, handled_are_terms, word_handled, section_handled}
use Rattle.ix_repack.specs.laws.Rows.{words_scanned, sections_scanned, term_stored}
use Rattle.ix_context.specs.Contents.{target_of}
use Rattle.ix_context.specs.declared.places.Place.{Place}
use Rattle.ix_context.specs.Places.{IsPlaceRead, place_bytes}
use Rattle.ix_context.specs.Indexes.{ContextIndex, Part, mark_limit, texts_in}
use Rattle.ix_context.specs.Documents.{Postings, postings_by}
use Rattle.ix_context.specs.Standing.{PartStands}
use Rattle.ix_context.specs.Spelling.{is_context_part, index_bytes}
use Rattle.ix_context.specs.Contexts.{IsContext, context, context_entry, context_stands}
use Rattle.ix_context.specs.Levels.{Level, Fast, Full, FullUpTo, tidied, optimised_body, optimised_index}
use Rattle.ix_context.specs.laws.Standing.{entry_put, entry_here}
use Rattle.ix_context.specs.laws.ContextRows.{entry_is, context_alone}
use Rattle.ix_context.specs.laws.ContextSyncs.{weaker}
use Rattle.ix_context.specs.laws.Places.{place_read_is}
use Rattle.ix_optimize.specs.declared.levels.Progress.TheVariants.{Done, More}
use Rattle.ix_optimize.specs.Optimising.{keeps_rows_only, term_at, place_behind, place_left, terms_handled, place_after, tidiness_after, rows_renewed, optimise_changes}
use Rattle.ix_optimize.specs.laws.Places.{term_at_is, place_behind_is}
use Rattle.ix_optimize.specs.laws.Parts.{rows_of, terms_of_part, terms_on, part_some, part_fast, part_full}

-- ---- which documents are rows of the table

-- eight bytes are a row key
has_row : (r : ℤ) → is_some (row_of (row_bytes r)) ≡ true
has_row r = ap (λ (n : ℕ). is_some (if n == 8 then Some (sign_turned_back (from_be_bytes w64 (row_bytes r))) else None)) (length-row_bytes r)

module _ (m : Content) (i : List ℕ) (doc : ℤ → Postings) (mark : Marks) (part : Part) (stand : PartStands (at m) i doc mark part) where
  read_row : (d : ℕ) → IsDocument d → (o : Option ℤ) → stand.row d ≡ o → is_some (row_at_document (at m) i d) ≡ is_some o
  read_row d small None is = ap (λ (v : Option (List ℕ)). is_some (option_and_then row_of v)) (stand.documents.rows d small ∙ ap (option_map row_bytes) is)
  read_row d small (Some r) is = ap (λ (v : Option (List ℕ)). is_some (option_and_then row_of v)) (stand.documents.rows d small ∙ ap (option_map row_bytes) is) ∙ has_row r

  -- one that is a row stays
  pub row_stays : part.given ≤ mark_limit → (mapped : Bool) (d : ℕ) (r : ℤ) → stand.row d ≡ Some r → stays mapped m i d ≡ true
  row_stays few false d r is = refl
  row_stays few true d r is = let low = (stand.documents.numbers.within r d (stand.documents.numbers.back r d is)).1 in read_row d (omega (arith, few, low)) (Some r) is

  -- and of those that stay each is one
  stays_row : (d : ℕ) → IsDocument d → stays true m i d ≡ true → is_some (stand.row d) ≡ true
  stays_row d small stay = sym (read_row d small (stand.row d) refl) ∙ stay

  -- ---- its rows

  -- THE ROWS OF AN INDEX that stands are those that scans find
  pub rows_stand : HasKeysOnly m → HasIndexRows m i (rows_of stand)
  rows_stand only = record {
    words = λ t is. words_scanned m i stand.word_rows only stand.words.spelled t is (stand.words.are t is);
    sections = λ t is. sections_scanned m i stand.span_rows only stand.spans.spelled t is (stand.spans.are t is);
  }

  -- where a term isn't handled among all, it has no rows
  no_word : HasKeysOnly m → (t : List ℕ) → IsWordTerm t → (IsIn t (words_of (all_terms i m)) → ⊥) → stand.word_rows t ≡ []
  no_word only t is other = go (stand.word_rows t) ((rows_stand only).words t is)
    where
      go : (rows : List (List WordDocument)) → HasRows number_form m kind.Postings i t rows → rows ≡ []
      go [] has = refl
      go (row ∷ rows) has = absurd (other (word_handled m i t (term_stored number_form m kind.Postings i t row rows has)))

  no_section : HasKeysOnly m → (t : List ℕ) → IsSpanTerm t → (IsIn t (sections_of (all_terms i m)) → ⊥) → stand.span_rows t ≡ []
  no_section only t is other = go (stand.span_rows t) ((rows_stand only).sections t is)
    where
      go : (rows : List (List SpanDocument)) → HasRows pair_form m kind.Spans i t rows → rows ≡ []
      go [] has = refl
      go (row ∷ rows) has = absurd (other (section_handled m i t (term_stored pair_form m kind.Spans i t row rows has)))

  part_renewed : HasKeysOnly m → part.given ≤ mark_limit → (level : Level) (place : Place) → PartStands (view (rows_renewed m i level place (rows_of stand)) (at m)) i doc mark (tidied level part)
  part_renewed only few Fast place =
      let are = all_are_terms m i only in
      part_fast (at m) i doc mark part stand (all_terms i m) (stays false m i) are.words_apart are.are_words are.sections_apart are.are_sections (row_stays few false) (no_word only) (no_section only)
  part_renewed only few Full place =
      let are = all_are_terms m i only in
      part_full (at m) i doc mark part stand (all_terms i m) (stays true m i) are.words_apart are.are_words are.sections_apart are.are_sections (row_stays few true) (no_word only) (no_section only) stays_row
  part_renewed only few (FullUpTo n) place =
      let are = handled_are_terms m i only n (term_at place) in
      part_some (at m) i doc mark part stand (handled_terms n (term_at place) (all_terms i m)) (stays true m i) are.words_apart are.are_words are.sections_apart are.are_sections (row_stays few true)

-- ---- the entry

-- the last of some terms is one
last_is : (place : Option Term) (ts : List Term) → IsTermOrStart place → ((t : Term) → IsIn t ts → IsTermOrStart (Some t)) → IsTermOrStart (last_term place ts)
last_is place [] is each = is
last_is place (t ∷ ts) is each = last_is (Some t) ts (each t (inl refl)) (λ u h. each u (inr h))

each_is : (m : Content) (i : List ℕ) (ts : List Term) → AreTerms m i ts → (t : Term) → IsIn t ts → IsTermOrStart (Some t)
each_is m i ts are (Word t) h = are.are_words t (words_in t ts h)
each_is m i ts are (Section t) h = are.are_sections t (sections_in t ts h)

pub place_after_is : (m : Content) (i : List ℕ) → HasKeysOnly m → (level : Level) (place : Place) → IsPlaceRead place → IsPlaceRead (place_after level place (all_terms i m))
place_after_is m i only Fast place is = is
place_after_is m i only Full place is = tt
place_after_is m i only (FullUpTo n) place is = go (has_more n (term_at place) (all_terms i m))
  where
    ts : List Term
    ts = handled_terms n (term_at place) (all_terms i m)

    go : (b : Bool) → IsPlaceRead (place_left (if b then More (place_behind (last_term (term_at place) ts)) else Done))
    go true = place_behind_is (last_term (term_at place) ts) (last_is (term_at place) ts (term_at_is place is) (each_is m i ts (handled_are_terms m i only n (term_at place))))
    go false = tt

-- what is put is the entry of the index as it is then
entry_so : (level : Level) (x : IndexOf ContextIndex) (p : List ℕ)
    → index_bytes x.table x.column x.prefs (x.body.part.given + 1) (tidiness_after level x.body.part.tidiness) p ≡ context_entry (optimised_index level x) p
entry_so Fast x p = refl
entry_so Full x p = refl
entry_so (FullUpTo n) x p = refl

-- ---- an index

-- what an optimisation puts of an index, with the rows by which it stands
abbrev pub index_optimised : (m : Content) (i : List ℕ) (x : IndexOf ContextIndex) (t : Table) → context_stands (at m) i x t → Level → Place → List (Key × Option (List ℕ))
index_optimised m i x t stand level place = optimise_changes m i level place (rows_of stand) (target_of x) x.prefs (x.body.part.given + 1) x.body.part.tidiness

module _ (D : Type 0) (m : Content) (i : List ℕ) (x : IndexOf ContextIndex) (t : Table) (only : HasKeysOnly m) (few : x.body.part.given ≤ mark_limit) (level : Level) (place : Place) where
  abbrev doc : ℤ → Postings
  doc = postings_by x.prefs (texts_in t x.column)

  abbrev rule : Kind → Bool
  rule k = is_entry k || is_context_part k

  module _ (stand : context_stands (at m) i x t) where
    abbrev rows : List (Key × Option (List ℕ))
    rows = rows_renewed m i level place (rows_of stand)

    abbrev entry : List ℕ
    entry = index_bytes x.table x.column x.prefs (x.body.part.given + 1) (tidiness_after level x.body.part.tidiness) (place_bytes (place_after level place (all_terms i m)))

    abbrev its : List Term
    its = terms_handled level place (all_terms i m)

    pub optimised_on : AllOn i (index_optimised m i x t stand level place)
    optimised_on = all_on-append i rows (put_value (key kind.Indexes i []) entry ∷ []) (terms_on i (stays (keeps_rows_only level) m i) (rows_of stand) its) (refl, tt)

    pub optimised_of : AllOf rule (index_optimised m i x t stand level place)
    optimised_of = all-append rule rows (put_value (key kind.Indexes i []) entry ∷ []) (weaker rows (terms_of_part i (stays (keeps_rows_only level) m i) (rows_of stand) its)) (refl, tt)

    -- the part that it has then stands
    pub optimised_part : context_stands (view (index_optimised m i x t stand level place) (at m)) i (optimised_index level x) t
    optimised_part =
        subst (λ (g : Key → Option (List ℕ)). PartStands g i doc (get x.body.marks) (tidied level x.body.part)) (sym (view-append rows (put_value (key kind.Indexes i []) entry ∷ []) (at m)))
        (entry_put (view rows (at m)) i entry doc (get x.body.marks) (tidied level x.body.part) (part_renewed m i doc (get x.body.marks) x.body.part stand only few level place))

    -- its entry ends in the place where the next one goes on
    pub optimised_entry : (p : List ℕ) → LeadsEntry (context {D = D}) i x p (optimised_index level x) (place_bytes (place_after level place (all_terms i m))) (index_optimised m i x t stand level place)
    optimised_entry p =
        told-append rows (put_value (key kind.Indexes i []) entry ∷ []) (key kind.Indexes i []) (Some (index_entry (context {D = D}) x p))
        ∙ entry_here i entry (told rows (key kind.Indexes i []) (Some (index_entry (context {D = D}) x p)))
        ∙ ap Some (entry_so level x (place_bytes (place_after level place (all_terms i m))) ∙ entry_is D (optimised_index level x) (place_bytes (place_after level place (all_terms i m))))

  -- AN INDEX THAT WAS OPTIMISED STANDS, as the state has it then
  pub optimised_stands : (stand : IndexStands (context {D = D}) (at m) i x t) → IsPlaceRead place
      → IndexStands (context {D = D}) (view (index_optimised m i x t stand.part level place) (at m)) i (optimised_index level x) t
  optimised_stands stand read =
      own_stand (context {D = D}) context_alone (at m) i x (optimised_body level x.body) t t (index_optimised m i x t stand.part level place) (place_bytes (place_after level place (all_terms i m)))
      (record { kind = refl; own = λ k. refl; looks = λ column. refl; resumes = λ p is. is })
      (record { on = optimised_on stand.part; of = optimised_of stand.part }) stand
      (place_read_is (place_after level place (all_terms i m)) (place_after_is m i only level place read)) (optimised_entry stand.part stand.entry.place) (optimised_part stand.part)

-- and keeps its rules
pub optimised_is : (level : Level) (t : Table) (x : IndexOf ContextIndex) → IsContext t x → IsContext t (optimised_index level x)
optimised_is Fast t x is = record { marks = is.marks; numbers = is.numbers }
optimised_is Full t x is = record { marks = is.marks; numbers = is.numbers }
optimised_is (FullUpTo n) t x is = record { marks = is.marks; numbers = is.numbers }
