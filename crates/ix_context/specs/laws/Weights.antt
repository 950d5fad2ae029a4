-- A content weighs at most what its entries of other kinds weigh, and for each CONTEXT index what its settled rows cost and what is wasted.
use Rattle.std.specs.Prelude.{ℕ, ℤ, ◌≡◌, ◌==◌, ◌+◌, ◌≤◌, Bool, true, false, not, List, [], ◌∷◌, length, map, filter, sum_by, Option, Some, None, is_some, IsSome, refl}
use Rattle.std.specs.List.{flat_map}
use Rattle.std.specs.Ordering.{nat_cmp}
use Rattle.std.specs.Cmp.Lexicographic.{slice_cmp}
use Rattle.std.specs.FinMap.{get, entries, get-entries}
use Rattle.std.proofs.Common.{sym, ap, subst, ◌∙◌, inl, inr, arith}
use Rattle.std.proofs.lemmas.Bool.{eqb-true}
use Rattle.std.proofs.lemmas.Cmp.{nat_list_cmp_total}
use Rattle.std.proofs.lemmas.List.Sums.{sum_by-cons, sum_by-append}
use Rattle.ct_keep.specs.Content.{Content, entry_weight, weight}
use Rattle.ct_keep.specs.laws.RisingKeys.{entries_rise}
use Rattle.ct_entry.specs.declared.kinds.Kind.{Kind}
use Rattle.ct_entry.specs.declared.kinds.Kind.TheVariants as kind
use Rattle.ct_entry.specs.Kinds.{code}
use Rattle.ct_entry.specs.Keys.{Key, key, bytes, at, HasKeysOnly, IsPart, IsDocument}
use Rattle.ct_entry.specs.laws.Keys.{kind_from_code}
use Rattle.ix_rows.specs.PlacedRows.{document_number}
use Rattle.ix_rows.specs.laws.PlacedRows.{row_light}
use Rattle.ix_posting.specs.Forms.{pair_form, number_form}
use Rattle.ix_posting.specs.Lists.{posting_list}
use Rattle.ix_posting.specs.Rows.{IsPostingRow, posting_bytes, WordDocument, SpanDocument, IsSpanRow, span_row_bytes}
use Rattle.ct_entry.specs.Lists.{IsIn}
use Rattle.ct_entry.specs.laws.Lists.{in_left, in_right, in_filter, apart_filter, sum_by-within, sum_by-parts}
use Rattle.ix_rows.specs.Spelling.{row_key}
use Rattle.ix_rows.specs.laws.Posts.{in_posting_list, in_posting}
use Rattle.ix_rows.specs.laws.Weighs.{each_in}
use Rattle.ix_context.specs.Indexes.{Part}
use Rattle.ix_rows.specs.laws.Rooms.{kind_weighs}
use Rattle.ix_context.specs.Documents.{Postings, document_with, word_posting, section_posting, words_cost, spans_cost, document_cost}
use Rattle.ix_context.specs.Standing.{PartStands}
use Rattle.ix_docmap.specs.Marks.{Marks}
use Rattle.ix_context.specs.laws.Parts.{its, in_its, its_cost}
use Rattle.ix_rows.specs.SpanRows.{IsSpanTerm, span_cost, pairs_cost}
use Rattle.ct_entry.specs.laws.MapEntries.{rises_apart, in_find}
use Rattle.ix_rows.specs.WordRows.{word_term, IsWordTerm, positions_cost, word_cost}

abbrev pub StoredEntry : Type 0
StoredEntry = List ℕ × List ℕ

-- ---- the kinds of postings

abbrev first_byte : List ℕ → ℕ
first_byte [] = 0
first_byte (b ∷ bs) = b

abbrev pub has_code : ℕ → StoredEntry → Bool
has_code n e = first_byte e.0 == n

-- ---- what settled rows have, as documents

abbrev number_or : Option ℕ → ℕ
number_or None = 0
number_or (Some d) = d

module _ {X Y : Type 0} (made : ℕ → X → Y) where
  -- the postings of some rows, each as a document
  abbrev pub rows_its : (ℤ → ℕ) → (ℤ → List (List ℕ × X)) → List ℤ → List (List ℕ × Y)
  rows_its number postings rows = flat_map (λ r. map (λ e. (e.0, made (number r) e.1)) (postings r)) rows

  in_rows : (number : ℤ → ℕ) (postings : ℤ → List (List ℕ × X)) (rows : List ℤ) (r : ℤ) (s : List ℕ × Y) → IsIn r rows
      → IsIn s (map (λ e. (e.0, made (number r) e.1)) (postings r)) → IsIn s (rows_its number postings rows)
  in_rows number postings [] r s h k = absurd h
  in_rows number postings (q ∷ rows) r s h k = elim h [
    | inl e ↦ in_left s (map (λ e. (e.0, made (number q) e.1)) (postings q)) (rows_its number postings rows) (subst (λ (z : ℤ). IsIn s (map (λ e. (e.0, made (number z) e.1)) (postings z))) e k)
    | inr t ↦ in_right s (map (λ e. (e.0, made (number q) e.1)) (postings q)) (rows_its number postings rows) (in_rows number postings rows r s t k)
  ]

  rows_cost : (number : ℤ → ℕ) (postings : ℤ → List (List ℕ × X)) (cost : List ℕ × Y → ℕ) (alone : List ℕ × X → ℕ) → ((d : ℕ) (e : List ℕ × X) → cost (e.0, made d e.1) ≡ alone e) → (rows : List ℤ)
      → sum_by cost (rows_its number postings rows) ≡ sum_by (λ r. sum_by alone (postings r)) rows
  rows_cost number postings cost alone same [] = refl
  rows_cost number postings cost alone same (r ∷ rows) =
      sum_by-append cost (map (λ e. (e.0, made (number r) e.1)) (postings r)) (rows_its number postings rows)
      ∙ ap (λ (n : ℕ). n + sum_by cost (rows_its number postings rows)) (its_cost made (number r) cost alone (same (number r)) (postings r))
      ∙ ap (λ (n : ℕ). sum_by alone (postings r) + n) (rows_cost number postings cost alone same rows)
      ∙ sym (sum_by-cons (λ r. sum_by alone (postings r)) r rows)

-- ---- THE ROOM OF POSTINGS

module _ (c : Content) (only : HasKeysOnly c) (doc : List ℕ → ℤ → Postings) (mark : List ℕ → Marks) (part : List ℕ → Part) (stand : (i : List ℕ) → PartStands (at c) i (doc i) (mark i) (part i)) where
  abbrev number_of_row : List ℕ → ℤ → ℕ
  number_of_row i r = number_or ((stand i).document r)

  entry_at : (e : StoredEntry) → IsIn e (entries c) → (k : Key) × (e.0 ≡ bytes k) × IsPart k.kind k.part × (at c k ≡ Some e.1)
  entry_at e h =
      let has : get c e.0 ≡ Some e.1 = get-entries c e.0 ∙ in_find (slice_cmp nat_cmp) nat_list_cmp_total e (entries c) (entries_rise (slice_cmp nat_cmp) c) h in
      let k = only e.0 (subst IsSome (sym has) refl) in
      (k.0, k.1, k.2.part, ap (get c) (sym k.1) ∙ has)

  kind_at : (k : Kind) (e : StoredEntry) → IsIn e (entries c) → has_code (code k) e ≡ true → (i part : List ℕ) × (e.0 ≡ bytes (key k i part)) × IsPart k part × (at c (key k i part) ≡ Some e.1)
  kind_at k e h is =
      let a = entry_at e h in
      let same : a.0.kind ≡ k = kind_from_code a.0.kind k (sym (ap first_byte a.1) ∙ eqb-true (first_byte e.0) (code k) is) in
      let whole : a.0 ≡ key k a.0.owner a.0.part = λ j. key (same j) a.0.owner a.0.part in
      (a.0.owner, a.0.part, a.1 ∙ ap bytes whole, subst (λ (z : Kind). IsPart z a.0.part) same a.2, ap (at c) (sym whole) ∙ a.3)

  word_entry : (e : StoredEntry) → IsIn e (entries c) → has_code (code kind.Postings) e ≡ true
      → (i term : List ℕ) × ((d : ℕ) × IsWordTerm term × IsDocument d × (e.0 ≡ bytes (key kind.Postings i (row_key term d))) × (at c (key kind.Postings i (row_key term d)) ≡ Some e.1))
  word_entry e h is =
      let k = kind_at kind.Postings e h is in
      let p = k.3 in
      let part : k.1 ≡ row_key (word_term p.0 p.2.0) p.1 = p.2.4 in
      (k.0, word_term p.0 p.2.0, (p.1, (p.0, (p.2.0, p.2.1, p.2.2, refl)), p.2.3, k.2 ∙ ap (λ (q : List ℕ). bytes (key kind.Postings k.0 q)) part, sym (ap (λ (q : List ℕ). at c (key kind.Postings k.0 q)) part) ∙ k.4))

  span_entry : (e : StoredEntry) → IsIn e (entries c) → has_code (code kind.Spans) e ≡ true
      → (i term : List ℕ) × ((d : ℕ) × IsSpanTerm term × IsDocument d × (e.0 ≡ bytes (key kind.Spans i (row_key term d))) × (at c (key kind.Spans i (row_key term d)) ≡ Some e.1))
  span_entry e h is =
      let k = kind_at kind.Spans e h is in
      let p = k.3 in
      let part : k.1 ≡ row_key (length p.1.0 ∷ p.1.0) p.0 = p.1.3 in
      (k.0, length p.1.0 ∷ p.1.0, (p.0, (p.1.0, p.1.1, refl), p.1.2, k.2 ∙ ap (λ (q : List ℕ). bytes (key kind.Spans k.0 q)) part, sym (ap (λ (q : List ℕ). at c (key kind.Spans k.0 q)) part) ∙ k.4))

  module _ (names : List (List ℕ)) (rows : List ℕ → List ℤ) (listed : (i : List ℕ) (r : ℤ) → is_some ((stand i).document r) ≡ true → IsIn r (rows i)) (named : (i : List ℕ) → 1 ≤ (part i).given → IsIn i names) where
    -- a row that is there has a document that was given, so the index is there
    words_named : (i term : List ℕ) (row : List WordDocument) → IsWordTerm term → IsIn row ((stand i).word_rows term) → IsIn i names
    words_named i term row is h = go row h (each_in document_number posting_bytes IsPostingRow IsWordTerm (word_cost i) IsPostingRow row ((stand i).word_rows term) ((stand i).words.are term is).each h).some
      where
        go : (row : List WordDocument) → IsIn row ((stand i).word_rows term) → 1 ≤ length row → IsIn i names
        go [] h some = absurd (omega (arith, some))
        go (x ∷ xs) h some =
            let known = (stand i).words.lists.known term (document_number x) x is (in_posting document_number 0 x (posting_list ((stand i).word_rows term)) ((stand i).words.are term is).rise (in_posting_list x (x ∷ xs) ((stand i).word_rows term) h (inl refl))) in
            named i (omega (arith, known))

    spans_named : (i term : List ℕ) (row : List SpanDocument) → IsSpanTerm term → IsIn row ((stand i).span_rows term) → IsIn i names
    spans_named i term row is h = go row h (each_in document_number span_row_bytes IsSpanRow IsSpanTerm (span_cost i) IsSpanRow row ((stand i).span_rows term) ((stand i).spans.are term is).each h).some
      where
        go : (row : List SpanDocument) → IsIn row ((stand i).span_rows term) → 1 ≤ length row → IsIn i names
        go [] h some = absurd (omega (arith, some))
        go (x ∷ xs) h some =
            let known = (stand i).spans.lists.known term (document_number x) x is (in_posting document_number 0 x (posting_list ((stand i).span_rows term)) ((stand i).spans.are term is).rise (in_posting_list x (x ∷ xs) ((stand i).span_rows term) h (inl refl))) in
            named i (omega (arith, known))

    row_listed : (i : List ℕ) (r : ℤ) (d : ℕ) → (stand i).row d ≡ Some r → IsIn r (rows i) × (d ≡ number_of_row i r)
    row_listed i r d is = let b = (stand i).documents.numbers.back r d is in (listed i r (ap is_some b), sym (ap number_or b))

    abbrev word_its : List ℕ → List (List ℕ × WordDocument)
    word_its i = rows_its document_with (number_of_row i) (λ r. entries (doc i r).words) (rows i)

    abbrev span_its : List ℕ → List (List ℕ × SpanDocument)
    span_its i = rows_its document_with (number_of_row i) (λ r. entries (doc i r).spans) (rows i)

    -- what an index may take for its postings
    abbrev pub postings_room : List ℕ → ℕ
    postings_room i = sum_by (λ r. document_cost i (doc i r)) (rows i) + (part i).waste

    costs_two : (i : List ℕ) (rs : List ℤ) → sum_by (λ r. words_cost i (doc i r)) rs + sum_by (λ r. spans_cost i (doc i r)) rs ≡ sum_by (λ r. document_cost i (doc i r)) rs
    costs_two i [] = refl
    costs_two i (r ∷ rs) =
        let rest = costs_two i rs in
        omega (arith, rest, sum_by-cons (λ r. words_cost i (doc i r)) r rs, sum_by-cons (λ r. spans_cost i (doc i r)) r rs, sum_by-cons (λ r. document_cost i (doc i r)) r rs)

    one_room : (i : List ℕ) → (sum_by (word_cost i) (word_its i) + (stand i).words_waste) + (sum_by (span_cost i) (span_its i) + (stand i).spans_waste) ≤ postings_room i
    one_room i =
        let w = rows_cost document_with (number_of_row i) (λ r. entries (doc i r).words) (word_cost i) (positions_cost i) (λ d e. refl) (rows i) in
        let s = rows_cost document_with (number_of_row i) (λ r. entries (doc i r).spans) (span_cost i) (pairs_cost i) (λ d e. refl) (rows i) in
        let two = costs_two i (rows i) in
        let waste = (stand i).waste in
        omega (arith, w, s, two, waste)

    all_rooms : (ns : List (List ℕ))
        → sum_by (λ i. sum_by (word_cost i) (word_its i) + (stand i).words_waste) ns + sum_by (λ i. sum_by (span_cost i) (span_its i) + (stand i).spans_waste) ns ≤ sum_by postings_room ns
    all_rooms [] = omega arith
    all_rooms (i ∷ ns) =
        omega (
          arith,
          sum_by-cons (λ i. sum_by (word_cost i) (word_its i) + (stand i).words_waste) i ns,
          sum_by-cons (λ i. sum_by (span_cost i) (span_its i) + (stand i).spans_waste) i ns,
          sum_by-cons postings_room i ns,
          one_room i,
          all_rooms ns,
        )

    -- WEIGHT AND ROOM: `rest` has all entries of other kinds
    pub weighs : (rest : List StoredEntry)
        → ((e : StoredEntry) → IsIn e (entries c) → has_code (code kind.Postings) e ≡ false → has_code (code kind.Spans) e ≡ false → IsIn e rest)
        → weight c ≤ sum_by entry_weight rest + sum_by postings_room names
    weighs rest others =
        let es = entries c in
        let apart = rises_apart (slice_cmp nat_cmp) nat_list_cmp_total es (entries_rise (slice_cmp nat_cmp) c) in
        let ws = filter (has_code (code kind.Postings)) es in
        let left = filter (λ e. not (has_code (code kind.Postings) e)) es in
        let left_apart = apart_filter (λ e. not (has_code (code kind.Postings) e)) es apart in
        let ss = filter (has_code (code kind.Spans)) left in
        let os = filter (λ e. not (has_code (code kind.Spans) e)) left in
        let in_left_es : (e : StoredEntry) → IsIn e left → IsIn e es × (not (has_code (code kind.Postings) e) ≡ true) = λ e h. in_filter (λ e. not (has_code (code kind.Postings) e)) e es h in
        let of_words = kind_weighs document_number posting_bytes IsPostingRow IsWordTerm word_cost kind.Postings (λ i e r. row_light number_form kind.Postings i e r) (at c) (λ i. word_posting (doc i)) (λ i. (stand i).row) (λ i. (part i).given) (λ i. (part i).tidiness) (λ i. (stand i).words_waste) (λ i. (stand i).word_rows) (λ i. (stand i).words)
        ws names word_its (apart_filter (has_code (code kind.Postings)) es apart) (λ e h. let p = in_filter (has_code (code kind.Postings)) e es h in word_entry e p.0 p.1) words_named
        (λ i term d r x is has wants. let l = row_listed i r d has in in_rows document_with (number_of_row i) (λ r. entries (doc i r).words) (rows i) r (term, x) l.0 (subst (λ (n : ℕ). IsIn {A = List ℕ × WordDocument} (term, x) (its document_with n (doc i r).words)) l.1 (in_its document_with d (doc i r).words term x wants)))
        in
        let of_spans = kind_weighs document_number span_row_bytes IsSpanRow IsSpanTerm span_cost kind.Spans (λ i e r. row_light pair_form kind.Spans i e r) (at c) (λ i. section_posting (doc i)) (λ i. (stand i).row) (λ i. (part i).given) (λ i. (part i).tidiness) (λ i. (stand i).spans_waste) (λ i. (stand i).span_rows) (λ i. (stand i).spans)
        ss names span_its (apart_filter (has_code (code kind.Spans)) left left_apart) (λ e h. let p = in_filter (has_code (code kind.Spans)) e left h in span_entry e (in_left_es e p.0).0 p.1) spans_named
        (λ i term d r x is has wants. let l = row_listed i r d has in in_rows document_with (number_of_row i) (λ r. entries (doc i r).spans) (rows i) r (term, x) l.0 (subst (λ (n : ℕ). IsIn {A = List ℕ × SpanDocument} (term, x) (its document_with n (doc i r).spans)) l.1 (in_its document_with d (doc i r).spans term x wants)))
        in
        let of_rest = sum_by-within entry_weight os rest (apart_filter (λ e. not (has_code (code kind.Spans) e)) left left_apart)
        (λ e h. let p = in_filter (λ e. not (has_code (code kind.Spans) e)) e left h in let q = in_left_es e p.0 in others e q.0 (not_true _ q.1) (not_true _ p.1))
        in
        let first = sum_by-parts (has_code (code kind.Postings)) entry_weight es in
        let second = sum_by-parts (has_code (code kind.Spans)) entry_weight left in
        let rooms = all_rooms names in
        omega (arith, of_words, of_spans, of_rest, first, second, rooms)
      where
        not_true : (b : Bool) → not b ≡ true → b ≡ false
        not_true true h = cc
        not_true false h = refl
