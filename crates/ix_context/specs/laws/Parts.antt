-- What notes and synchronisations make of a CONTEXT index.
use Rattle.std.specs.Prelude.{ℕ, ℤ, ◌≡◌, ◌==◌, ◌+◌, ◌<◌, ◌^◌, Bool, true, false, cond, List, [], ◌∷◌, ◌++◌, length, map, sum_by, Option, Some, None, is_some, refl}
use Rattle.std.specs.Option.{option_map}
use Rattle.std.specs.Ordering.{nat_cmp, eq_by_cmp}
use Rattle.ct_base.specs.laws.Orders.{equal_from_test}
use Rattle.std.specs.Cmp.Lexicographic.{slice_cmp}
use Rattle.std.specs.FinMap.{FinMap, get, entries, find, get-entries, nat_cmp-IsAntisymmetric, slice_cmp-IsAntisymmetric}
use Rattle.std.proofs.Common.{sym, ap, subst, ◌∙◌, inl, inr, arith}
use Rattle.std.proofs.lemmas.List.Sums.{sum_by-cons}
use Rattle.ct_base.specs.declared.numbers.Pair.{Pair}
use Rattle.ct_entry.specs.declared.kinds.Kind.{Kind}
use Rattle.ct_entry.specs.declared.kinds.Kind.TheVariants as kind
use Rattle.ct_entry.specs.Keys.{Key, key, row_part, IsRow}
use Rattle.ct_entry.specs.Changes.{told, view, AllOf}
use Rattle.ct_entry.specs.Each.{with_rows}
use Rattle.ct_entry.specs.laws.Each.{all_each}
use Rattle.ct_entry.specs.laws.Changes.{told_frame, told-append}
use Rattle.ct_base.specs.laws.Options.{option_map_some}
use Rattle.ix_rows.specs.PlacedRows.{document_number}
use Rattle.ix_posting.specs.Lists.{posting_list}
use Rattle.ix_posting.specs.Rows.{IsPostingRow, posting_bytes, WordDocument, SpanDocument, IsSpanRow, span_row_bytes}
use Rattle.ct_entry.specs.Lists.{IsIn, AreApart}
use Rattle.ix_docmap.specs.Marks.{Mark, is_settled, queued, settled_at, Marks}
use Rattle.ix_context.specs.Indexes.{Part}
use Rattle.ix_rows.specs.laws.Stored.{without}
use Rattle.ix_rows.specs.Spelling.{row_key, first_document}
use Rattle.ix_rows.specs.laws.Spelling.{added, add_changes}
use Rattle.ix_rows.specs.Posts.{Rises}
use Rattle.ix_rows.specs.Stores.{Untidy}
use Rattle.ix_rows.specs.laws.Stores.{store_agree, store_added, store_unmapped, store_see}
use Rattle.ix_rows.specs.laws.Inverted.{inverted_new, inverted_rise}
use Rattle.ix_docmap.specs.laws.Documents.{with_mark, with_document_of, map_queued, map_unmapped, not_given, map_agree, is_of_map, settled_in, AllFree, MapsAfter, map_synced, all_map}
use Rattle.ix_docmap.specs.Changes.{unmark_changes, map_changes}
use Rattle.ix_rows.specs.WordRows.{IsWordTerm, positions_cost, word_cost}
use Rattle.ix_rows.specs.SpanRows.{IsSpanTerm, pairs_cost, span_cost}
use Rattle.ix_rows.specs.laws.Puts.{AreRowsOf}
use Rattle.ix_context.specs.Documents.{Postings, document_with, word_posting, section_posting, document_cost}
use Rattle.ix_context.specs.Standing.{PartStands}

-- ---- the postings of a row

module _ {X Y : Type 0} where
  -- a row's postings as those of a document
  abbrev pub its : (ℕ → X → Y) → ℕ → FinMap (slice_cmp nat_cmp) X → List (List ℕ × Y)
  its made d m = map (λ e. (e.0, made d e.1)) (entries m)

  find_in : (made : X → Y) (t : List ℕ) (x : X) (es : List (List ℕ × X)) → find (slice_cmp nat_cmp) t es ≡ Some x → IsIn {A = List ℕ × Y} (t, made x) (map (λ e. (e.0, made e.1)) es)
  find_in made t x [] h = cc
  find_in made t x (e ∷ es) h = go (eq_by_cmp (slice_cmp nat_cmp) t e.0) refl h (find_in made t x es)
    where
      go : (b : Bool) → eq_by_cmp (slice_cmp nat_cmp) t e.0 ≡ b → cond b (Some e.1) (find (slice_cmp nat_cmp) t es) ≡ Some x
          → (find (slice_cmp nat_cmp) t es ≡ Some x → IsIn {A = List ℕ × Y} (t, made x) (map (λ e. (e.0, made e.1)) es)) → IsIn {A = List ℕ × Y} (t, made x) (map (λ e. (e.0, made e.1)) (e ∷ es))
      go true tie is rest =
          let one : t ≡ e.0 = slice_cmp-IsAntisymmetric nat_cmp-IsAntisymmetric t e.0 (equal_from_test _ tie) in
          let value : x ≡ e.1 = cc in
          inl (λ j. (one j, made (value j)))
      go false tie is rest = inr (rest is)

  pub in_its : (made : ℕ → X → Y) (d : ℕ) (m : FinMap (slice_cmp nat_cmp) X) (t : List ℕ) (y : Y) → option_map (made d) (get m t) ≡ Some y → IsIn (t, y) (its made d m)
  in_its made d m t y is =
      let x = option_map_some (made d) (get m t) y is in
      subst (λ (z : Y). IsIn {A = List ℕ × Y} (t, z) (its made d m)) x.2 (find_in (made d) t x.0 (entries m) (sym (get-entries m t) ∙ x.1))

  pub its_cost : (made : ℕ → X → Y) (d : ℕ) (cost : List ℕ × Y → ℕ) (alone : List ℕ × X → ℕ) → ((e : List ℕ × X) → cost (e.0, made d e.1) ≡ alone e)
      → (es : List (List ℕ × X)) → sum_by cost (map (λ e. (e.0, made d e.1)) es) ≡ sum_by alone es
  its_cost made d cost alone same [] = refl
  its_cost made d cost alone same (e ∷ es) =
      sum_by-cons cost (e.0, made d e.1) (map (λ e. (e.0, made d e.1)) es) ∙ ap (λ (n : ℕ). n + sum_by cost (map (λ e. (e.0, made d e.1)) es)) (same e)
      ∙ ap (λ (n : ℕ). alone e + n) (its_cost made d cost alone same es) ∙ sym (sum_by-cons alone e es)

-- ---- a row that isn't settled, and one that loses its document

-- a row that isn't settled has this in the queue now, and none has another text
pub part_queued : (f : Key → Option (List ℕ)) (i : List ℕ) (doc : ℤ → Postings) (mark : Marks) (part : Part) (r : ℤ) (m : Option (Mark (Unit {0})))
    → IsRow r → is_settled (mark r) ≡ false → is_settled m ≡ false → PartStands f i doc mark part → PartStands (view ((key kind.Pending i (row_part r), queued m) ∷ []) f) i doc (with_mark r m mark) part
part_queued f i doc mark part r m is_row free unmarked stand = record {
  document = stand.document;
  row = stand.row;
  word_rows = stand.word_rows;
  span_rows = stand.span_rows;
  words_waste = stand.words_waste;
  spans_waste = stand.spans_waste;
  documents = map_queued f i mark part.given stand.document stand.row r m is_row free unmarked stand.documents;
  words = store_agree document_number posting_bytes IsPostingRow IsWordTerm (word_cost i) f (view ((key kind.Pending i (row_part r), queued m) ∷ []) f) kind.Postings i (word_posting doc) stand.row part.given part.tidiness stand.words_waste stand.word_rows (λ p. refl) stand.words;
  spans = store_agree document_number span_row_bytes IsSpanRow IsSpanTerm (span_cost i) f (view ((key kind.Pending i (row_part r), queued m) ∷ []) f) kind.Spans i (section_posting doc) stand.row part.given part.tidiness stand.spans_waste stand.span_rows (λ p. refl) stand.spans;
  waste = stand.waste;
}

-- ---- DELETE and UPDATE of a row that is settled

-- it loses its document: its postings stay, and are wasted
pub part_unmapped : (f : Key → Option (List ℕ)) (i : List ℕ) (doc : ℤ → Postings) (mark : Marks) (part : Part) (r : ℤ)
    → IsRow r → is_settled (mark r) ≡ true → part.given < 2 ^ 32 → (stand : PartStands f i doc mark part) → (d : ℕ) → stand.document r ≡ Some d
    → PartStands (view (unmark_changes i d r) f) i doc (with_mark r None mark) (record part { tidiness = Untidy; waste = part.waste + document_cost i (doc r) })
part_unmapped f i doc mark part r is_row settled room stand d is =
    let low = (stand.documents.numbers.within r d is).1 in
    let at = stand.documents.numbers.there r d is in
    record {
      document = with_document_of r None stand.document;
      row = λ e. cond (e == d) None (stand.row e);
      word_rows = stand.word_rows;
      span_rows = stand.span_rows;
      words_waste = stand.words_waste + sum_by (word_cost i) (its document_with d (doc r).words);
      spans_waste = stand.spans_waste + sum_by (span_cost i) (its document_with d (doc r).spans);
      documents = map_unmapped f i mark part.given stand.document stand.row r d is_row (omega (arith, low, room)) is settled stand.documents;
      words = store_agree document_number posting_bytes IsPostingRow IsWordTerm (word_cost i) f (view (unmark_changes i d r) f) kind.Postings i (word_posting doc) (without (document_number {P = ℕ}) IsWordTerm stand.row d) part.given Untidy (stand.words_waste + sum_by (word_cost i) (its document_with d (doc r).words)) stand.word_rows (λ p. refl)
          (store_unmapped document_number posting_bytes IsPostingRow IsWordTerm (word_cost i) f kind.Postings i (word_posting doc) stand.row part.given part.tidiness stand.words_waste stand.word_rows d r (its document_with d (doc r).words) at
          (λ term x term_is has. in_its document_with d (doc r).words term x has) stand.words);
      spans = store_agree document_number span_row_bytes IsSpanRow IsSpanTerm (span_cost i) f (view (unmark_changes i d r) f) kind.Spans i (section_posting doc) (without (document_number {P = Pair}) IsSpanTerm stand.row d) part.given Untidy (stand.spans_waste + sum_by (span_cost i) (its document_with d (doc r).spans)) stand.span_rows (λ p. refl)
          (store_unmapped document_number span_row_bytes IsSpanRow IsSpanTerm (span_cost i) f kind.Spans i (section_posting doc) stand.row part.given part.tidiness stand.spans_waste stand.span_rows d r (its document_with d (doc r).spans) at
          (λ term x term_is has. in_its document_with d (doc r).spans term x has) stand.spans);
      waste =
          let w = its_cost document_with d (word_cost i) (positions_cost i) (λ e. refl) (entries (doc r).words) in
          let s = its_cost document_with d (span_cost i) (pairs_cost i) (λ e. refl) (entries (doc r).spans) in
          omega (arith, stand.waste, w, s);
    }

-- the text of a row that isn't settled may be another
pub part_see : (f : Key → Option (List ℕ)) (i : List ℕ) (doc doc' : ℤ → Postings) (mark : Marks) (part : Part)
    → ((r : ℤ) → is_settled (mark r) ≡ true → doc' r ≡ doc r) → PartStands f i doc mark part → PartStands f i doc' mark part
part_see f i doc doc' mark part same stand = record {
  document = stand.document;
  row = stand.row;
  word_rows = stand.word_rows;
  span_rows = stand.span_rows;
  words_waste = stand.words_waste;
  spans_waste = stand.spans_waste;
  documents = stand.documents;
  words = store_see document_number posting_bytes IsPostingRow IsWordTerm (word_cost i) f kind.Postings i (word_posting doc) (word_posting doc') stand.row part.given part.tidiness stand.words_waste stand.word_rows
      (λ d r is. λ j term e. option_map (document_with e) (get (known d r is j).words term)) stand.words;
  spans = store_see document_number span_row_bytes IsSpanRow IsSpanTerm (span_cost i) f kind.Spans i (section_posting doc) (section_posting doc') stand.row part.given part.tidiness stand.spans_waste stand.span_rows
      (λ d r is. λ j term e. option_map (document_with e) (get (known d r is j).spans term)) stand.spans;
  waste = stand.waste;
}
  where
    known : (d : ℕ) (r : ℤ) → stand.row d ≡ Some r → doc' r ≡ doc r
    known d r is = same r (sym (stand.documents.numbers.marked r) ∙ ap is_some (stand.documents.numbers.back r d is))

-- ---- a synchronisation

pub numbers_words : (doc : ℤ → Postings) (r : ℤ) (term : List ℕ) (d : ℕ) (x : WordDocument) → word_posting doc r term d ≡ Some x → document_number x ≡ d
numbers_words doc r term d x is = let p = option_map_some (document_with d) (get (doc r).words term) x is in sym (ap document_number p.2)

pub numbers_spans : (doc : ℤ → Postings) (r : ℤ) (term : List ℕ) (d : ℕ) (x : SpanDocument) → section_posting doc r term d ≡ Some x → document_number x ≡ d
numbers_spans doc r term d x is = let p = option_map_some (document_with d) (get (doc r).spans term) x is in sym (ap document_number p.2)

abbrev pub synced_changes : List ℕ → ℕ → List ℤ → List (List ℕ × List (List WordDocument)) → List (List ℕ × List (List SpanDocument)) → List (Key × Option (List ℕ))
synced_changes i given rows es ss = map_changes i given rows ++ (add_changes document_number posting_bytes kind.Postings i es ++ add_changes document_number span_row_bytes kind.Spans i ss)

abbrev pub is_postings : Kind → Bool
is_postings kind.Postings = true
is_postings k = false

abbrev pub is_spans : Kind → Bool
is_spans kind.Spans = true
is_spans k = false

module _ {D : Type 0} (number : D → ℕ) (bytes_of : List D → List ℕ) (k : Kind) (p : Kind → Bool) (yes_k : p k ≡ true) (i : List ℕ) where
  all_rows : (t : List ℕ) (rows : List (List D)) → AllOf p (map (λ row. (key k i (row_key t (first_document number row)), Some (bytes_of row))) rows)
  all_rows t [] = tt
  all_rows t (row ∷ rows) = (yes_k, all_rows t rows)

  all_added : (es : List (List ℕ × List (List D))) → AllOf p (add_changes number bytes_of k i es)
  all_added es = all_each p (λ (e : List ℕ × List (List D)). map (λ row. (key k i (row_key e.0 (first_document number row)), Some (bytes_of row))) e.1) (λ e. all_rows e.0 e.1) es

-- THE SYNCHRONISATION: each row that waits becomes the next document, and its postings are put as rows of their own, however split
pub part_synced : (f : Key → Option (List ℕ)) (i : List ℕ) (doc : ℤ → Postings) (mark : Marks) (part : Part) (rows : List ℤ) (es : List (List ℕ × List (List WordDocument))) (ss : List (List ℕ × List (List SpanDocument)))
    → AreApart rows → AllFree mark rows → part.given + length rows < 2 ^ 32
    → AreRowsOf document_number posting_bytes IsPostingRow IsWordTerm kind.Postings i (word_posting doc) part.given rows es
    → AreRowsOf document_number span_row_bytes IsSpanRow IsSpanTerm kind.Spans i (section_posting doc) part.given rows ss
    → PartStands f i doc mark part → PartStands (view (synced_changes i part.given rows es ss) f) i doc (settled_in rows mark) (record part { given = part.given + length rows; tidiness = Untidy })
part_synced f i doc mark part rows es ss apart free room are sections stand = record {
  document = maps.document;
  row = with_rows part.given rows stand.row;
  word_rows = λ term. stand.word_rows term ++ added document_number posting_bytes kind.Postings i es term;
  span_rows = λ term. stand.span_rows term ++ added document_number span_row_bytes kind.Spans i ss term;
  words_waste = stand.words_waste;
  spans_waste = stand.spans_waste;
  documents = map_agree f1 (view (synced_changes i part.given rows es ss) f) i (settled_in rows mark) (part.given + length rows) maps.document (with_rows part.given rows stand.row)
      (λ k of. at k ∙ told_frame is_spans sw k (told aw k (f1 k)) all_sw (no_spans k.kind of) ∙ told_frame is_postings aw k (f1 k) all_aw (no_postings k.kind of)) maps.stand;
  words = store_agree document_number posting_bytes IsPostingRow IsWordTerm (word_cost i) f2 (view (synced_changes i part.given rows es ss) f) kind.Postings i (word_posting doc) (with_rows part.given rows stand.row) (part.given + length rows) Untidy stand.words_waste (λ term. stand.word_rows term ++ added document_number posting_bytes kind.Postings i es term)
      (λ q. at (key kind.Postings i q) ∙ told_frame is_spans sw (key kind.Postings i q) (f2 (key kind.Postings i q)) all_sw refl)
      (store_added document_number posting_bytes IsPostingRow IsWordTerm (word_cost i) f1 kind.Postings i (word_posting doc) stand.row (with_rows part.given rows stand.row) part.given (part.given + length rows) part.tidiness stand.words_waste stand.word_rows es
      are.firsts (λ term is. (are.each term is, subst (Rises document_number part.given) (sym (are.same term is)) (inverted_rise document_number IsWordTerm (word_posting doc) (numbers_words doc) term rows part.given room)))
      (inverted_new document_number IsWordTerm (word_posting doc) (numbers_words doc) stand.row part.given rows (λ term. posting_list (added document_number posting_bytes kind.Postings i es term)) given are.same)
      (store_agree document_number posting_bytes IsPostingRow IsWordTerm (word_cost i) f f1 kind.Postings i (word_posting doc) stand.row part.given part.tidiness stand.words_waste stand.word_rows
      (λ q. told_frame is_of_map ms (key kind.Postings i q) (f (key kind.Postings i q)) (all_map i part.given rows) refl) stand.words));
  spans = store_agree document_number span_row_bytes IsSpanRow IsSpanTerm (span_cost i) (view sw f2) (view (synced_changes i part.given rows es ss) f) kind.Spans i (section_posting doc) (with_rows part.given rows stand.row) (part.given + length rows) Untidy stand.spans_waste (λ term. stand.span_rows term ++ added document_number span_row_bytes kind.Spans i ss term)
      (λ q. at (key kind.Spans i q))
      (store_added document_number span_row_bytes IsSpanRow IsSpanTerm (span_cost i) f2 kind.Spans i (section_posting doc) stand.row (with_rows part.given rows stand.row) part.given (part.given + length rows) part.tidiness stand.spans_waste stand.span_rows ss
      sections.firsts (λ term is. (sections.each term is, subst (Rises document_number part.given) (sym (sections.same term is)) (inverted_rise document_number IsSpanTerm (section_posting doc) (numbers_spans doc) term rows part.given room)))
      (inverted_new document_number IsSpanTerm (section_posting doc) (numbers_spans doc) stand.row part.given rows (λ term. posting_list (added document_number span_row_bytes kind.Spans i ss term)) given sections.same)
      (store_agree document_number span_row_bytes IsSpanRow IsSpanTerm (span_cost i) f f2 kind.Spans i (section_posting doc) stand.row part.given part.tidiness stand.spans_waste stand.span_rows
      (λ q. told_frame is_postings aw (key kind.Spans i q) (f1 (key kind.Spans i q)) all_aw refl ∙ told_frame is_of_map ms (key kind.Spans i q) (f (key kind.Spans i q)) (all_map i part.given rows) refl) stand.spans));
  waste = stand.waste;
}
  where
    ms : List (Key × Option (List ℕ))
    ms = map_changes i part.given rows

    aw : List (Key × Option (List ℕ))
    aw = add_changes document_number posting_bytes kind.Postings i es

    sw : List (Key × Option (List ℕ))
    sw = add_changes document_number span_row_bytes kind.Spans i ss

    f1 : Key → Option (List ℕ)
    f1 = view ms f

    f2 : Key → Option (List ℕ)
    f2 = view aw f1

    at : (k : Key) → view (synced_changes i part.given rows es ss) f k ≡ told sw k (told aw k (f1 k))
    at k = told-append ms (aw ++ sw) k (f k) ∙ told-append aw sw k (f1 k)

    all_aw : AllOf is_postings aw
    all_aw = all_added document_number posting_bytes kind.Postings is_postings refl i es

    all_sw : AllOf is_spans sw
    all_sw = all_added document_number span_row_bytes kind.Spans is_spans refl i ss

    no_spans : (k : Kind) → is_of_map k ≡ true → is_spans k ≡ false
    no_spans kind.DocumentRows h = refl
    no_spans kind.RowDocuments h = refl
    no_spans kind.Pending h = refl
    no_spans k h = cc

    no_postings : (k : Kind) → is_of_map k ≡ true → is_postings k ≡ false
    no_postings kind.DocumentRows h = refl
    no_postings kind.RowDocuments h = refl
    no_postings kind.Pending h = refl
    no_postings k h = cc

    maps : MapsAfter f1 i (settled_in rows mark) (part.given + length rows) (with_rows part.given rows stand.row)
    maps = map_synced i rows f mark part.given stand.row apart free room (record { document = stand.document; stand = stand.documents })

    given : (d : ℕ) → part.given < d → stand.row d ≡ None
    given d high = not_given (settled_at mark) part.given stand.document stand.row stand.documents.numbers d high
