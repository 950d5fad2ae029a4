-- What an optimisation leaves, and that calls with a limit come to an end.
use Rattle.std.specs.Prelude.{ℕ, ℤ, zero, suc, ◌≡◌, ◌+◌, ◌*◌, ◌≤◌, Bool, true, false, cond, ◌||◌, List, [], ◌∷◌, ◌++◌, map, filter, take, drop, length, Option, Some, None, MatchOption, refl}
use Rattle.std.specs.Bool.{if◌then◌else◌}
use Rattle.std.specs.FinMap.{get, entries, nat_cmp-IsAntisymmetric, slice_cmp-IsAntisymmetric}
use Rattle.std.proofs.Common.{sym, ap, subst, ◌∙◌, inl, inr, arith, append-nil}
use Rattle.std.proofs.lemmas.Cmp.{nat_list_cmp_total}
use Rattle.std.proofs.Math.Nat.{le-div_iff_mul-le}
use Rattle.ct_base.specs.laws.Names.{kept_name-name}
use Rattle.ct_keep.specs.Content.{Content}
use Rattle.ct_keep.specs.Tail.{tail}
use Rattle.ct_keep.specs.laws.Tail.{get-tail, get-tail_nil}
use Rattle.ct_entry.specs.declared.kinds.Kind.{Kind}
use Rattle.ct_entry.specs.declared.kinds.Kind.TheVariants as kind
use Rattle.ct_entry.specs.Keys.{Key, key, at, prefix_of, same_list, IsDocument, HasKeysOnly}
use Rattle.ct_entry.specs.Changes.{told, put_value, AllOf, AllOn}
use Rattle.ct_entry.specs.Each.{each, is_any_of}
use Rattle.ct_entry.specs.Lists.{IsIn}
use Rattle.ct_entry.specs.laws.Changes.{told-append, told_frame, told_others, all-append, all_on-append}
use Rattle.ct_entry.specs.laws.Keys.{list_from_same}
use Rattle.ct_entry.specs.laws.Lists.{in_filter, apart_filter}
use Rattle.ct_entry.specs.laws.MapEntries.{get_in, in_get}
use Rattle.ix_kinds.specs.Standing.{is_entry}
use Rattle.ix_posting.specs.declared.rows.RowDocument.{RowDocument}
use Rattle.ix_posting.specs.Forms.{PlaceForm, number_form, pair_form}
use Rattle.ix_posting.specs.Rows.{IsPostingRowOf, posting_bytes_of}
use Rattle.ix_rows.specs.Spelling.{AreRows, RowsSpelled, row_key, row_value}
use Rattle.ix_rows.specs.PlacedRows.{document_number}
use Rattle.ix_rows.specs.WordRows.{IsWordTerm}
use Rattle.ix_rows.specs.SpanRows.{IsSpanTerm}
use Rattle.ix_repack.specs.declared.terms.Term.{Term}
use Rattle.ix_repack.specs.declared.terms.Term.TheVariants.{Word, Section}
use Rattle.ix_repack.specs.Terms.{term_of, stored_terms, all_terms, is_behind, terms_from, IsTermOrStart, next_stored}
use Rattle.ix_repack.specs.Repacking.{stays, IndexRows, HasIndexRows, repacked, repack_changes, rows_drop, rows_come, term_changes}
use Rattle.ix_repack.specs.Walking.{handled_terms, last_term, has_some, has_more}
use Rattle.ix_repack.specs.laws.Order.{term_of_row}
use Rattle.ix_repack.specs.laws.Terms.{terms_in, in_terms, of_terms, AreRowKeys, word_keys, section_keys, stored_are, stored_rise, next_begins}
use Rattle.ix_repack.specs.laws.Handled.{words_of, sections_of, AreTerms, all_apart, all_are_terms, handled_are_terms}
use Rattle.ix_repack.specs.laws.Rows.{words_scanned, sections_scanned}
use Rattle.ix_context.specs.declared.places.Place.{Place}
use Rattle.ix_context.specs.Documents.{Postings, postings_by, word_posting, section_posting}
use Rattle.ix_context.specs.Indexes.{texts_in}
use Rattle.ix_context.specs.Places.{place_bytes}
use Rattle.ix_context.specs.Spelling.{index_bytes}
use Rattle.ix_context.specs.laws.Standing.{entry_here}
use Rattle.ix_context.specs.Levels.{Level, Fast, Full, FullUpTo}
use Rattle.ix_optimize.specs.declared.levels.Progress.{Progress}
use Rattle.ix_optimize.specs.declared.levels.Progress.TheVariants.{Done, More}
use Rattle.ix_optimize.specs.Optimising.{keeps_rows_only, term_at, word_behind, section_named, section_behind, place_behind, terms_handled, place_after, tidiness_after, rows_renewed}
use Rattle.ix_optimize.specs.Limited.{LeadsTo, MakesContent, may_change, LeavesFewer, LeavesNone, AllMore, ReachDone, rows_then, left_behind}
use Rattle.ix_optimize.specs.laws.Places.{term_at_is}
use Rattle.ix_optimize.specs.laws.Tidies.{after_some}
use Rattle.ix_optimize.specs.laws.Parts.{rows_of, terms_on, at_words, at_sections}
use Rattle.ix_optimize.specs.laws.Optimised.{row_stays, index_optimised}
use Rattle.ix_optimize.specs.laws.Lists.{in_kept, same_filtered, in_first, first_counted, first_all, parts_apart}

-- ---- terms of one content and another

-- what has the same under its key has the same behind the prefix of its kind
same_behind : (k : Kind) (i : List ℕ) (a b : Content) (rest : List ℕ) → at a (key k i rest) ≡ at b (key k i rest) → get (tail (prefix_of k i) a) rest ≡ get (tail (prefix_of k i) b) rest
same_behind k i a b [] same = get-tail_nil (prefix_of k i) a ∙ sym (get-tail_nil (prefix_of k i) b)
same_behind k i a b (x ∷ q) same = get-tail (prefix_of k i) a x q ∙ same ∙ sym (get-tail (prefix_of k i) b x q)

-- a stored term whose entries another content has too is stored there
stored_there : (IsTerm : List ℕ → Type 0) (k : Kind) (i : List ℕ) (a b : Content) → AreRowKeys IsTerm (tail (prefix_of k i) a) → (u : List ℕ)
    → ((d : ℕ) → IsDocument d → at a (key k i (row_key u d)) ≡ at b (key k i (row_key u d))) → IsIn u (stored_terms k i a) → IsIn u (stored_terms k i b)
stored_there IsTerm k i a b rows u same there =
    let c = tail (prefix_of k i) a in
    let e = of_terms u (entries c) (subst (λ (p : List ℕ). IsIn u (terms_in (entries (tail p a)))) (append-nil (prefix_of k i)) there) in
    let got = in_get nat_list_cmp_total c e.0 e.1 in
    let r = rows e.0.0 e.0.1 got in
    let is_u : r.0 ≡ u = sym (e.2 ∙ ap term_of r.1.3 ∙ term_of_row r.0 r.1.0) in
    let rest : e.0.0 ≡ row_key u r.1.0 = r.1.3 ∙ ap (λ (t : List ℕ). row_key t r.1.0) is_u in
    let equal = subst (λ (q : List ℕ). get c q ≡ get (tail (prefix_of k i) b) q) (sym rest) (same_behind k i a b (row_key u r.1.0) (same r.1.0 r.1.2)) in
    let found = in_terms e.0 (entries (tail (prefix_of k i) b)) (get_in (slice_cmp-IsAntisymmetric nat_cmp-IsAntisymmetric) (tail (prefix_of k i) b) e.0.0 e.0.1 (sym equal ∙ got)) in
    subst (λ (p : List ℕ). IsIn u (terms_in (entries (tail p b)))) (sym (append-nil (prefix_of k i))) (subst (λ (t : List ℕ). IsIn t (terms_in (entries (tail (prefix_of k i) b)))) (sym e.2) found)

-- ---- behind a place, by kind

all_by_kind : (place : Option Term) (ws ss : List (List ℕ)) → terms_from place (map Word ws ++ map Section ss) ≡ map Word (filter (λ t. is_behind place (Word t)) ws) ++ map Section (filter (λ t. is_behind place (Section t)) ss)
all_by_kind place [] [] = refl
all_by_kind place [] (s ∷ ss) = go (is_behind place (Section s)) (all_by_kind place [] ss)
  where
    go : (b : Bool) → terms_from place (map Section ss) ≡ map Section (filter (λ t. is_behind place (Section t)) ss)
        → cond b (Section s ∷ terms_from place (map Section ss)) (terms_from place (map Section ss)) ≡ map Section (cond b (s ∷ filter (λ t. is_behind place (Section t)) ss) (filter (λ t. is_behind place (Section t)) ss))
    go true rest = ap (λ (l : List Term). Section s ∷ l) rest
    go false rest = rest
all_by_kind place (w ∷ ws) ss = go (is_behind place (Word w)) (all_by_kind place ws ss)
  where
    both : List Term
    both = terms_from place (map Word ws ++ map Section ss)

    words : List (List ℕ)
    words = filter (λ t. is_behind place (Word t)) ws

    sections : List Term
    sections = map Section (filter (λ t. is_behind place (Section t)) ss)

    go : (b : Bool) → both ≡ map Word words ++ sections → cond b (Word w ∷ both) both ≡ map Word (cond b (w ∷ words) words) ++ sections
    go true rest = ap (λ (l : List Term). Word w ∷ l) rest
    go false rest = rest

-- ---- the handled terms end where the rest begins

module _ (m : Content) (only : HasKeysOnly m) (i : List ℕ) where
  abbrev all : List Term
  all = all_terms i m

  -- what is behind the last of the handled terms is what is behind all of them
  last_handled : (n : ℕ) (place : Option Term) → IsTermOrStart place → IsTermOrStart (last_term place (handled_terms n place all)) × (terms_from (last_term place (handled_terms n place all)) all ≡ drop n (terms_from place all))
  last_handled zero place is = (is, refl)
  last_handled (suc n) place is = go (next_stored i place m) (next_begins m only i place is) (λ t one. last_handled n (Some t) one)
    where
      Ends : List Term → Type 0
      Ends ts = IsTermOrStart (last_term place (take (suc n) ts)) × (terms_from (last_term place (take (suc n) ts)) all ≡ drop (suc n) ts)

      go : (o : Option Term) → MatchOption o (terms_from place all ≡ []) (λ t. IsTermOrStart (Some t) × (terms_from place all ≡ t ∷ terms_from (Some t) all))
          → ((t : Term) → IsTermOrStart (Some t) → IsTermOrStart (last_term (Some t) (handled_terms n (Some t) all)) × (terms_from (last_term (Some t) (handled_terms n (Some t) all)) all ≡ drop n (terms_from (Some t) all)))
          → Ends (terms_from place all)
      go None none rest = subst Ends (sym none) (is, none)
      go (Some t) first rest = subst Ends (sym first.1) (rest t first.0)

  -- so none of the handled terms is behind the last of them
  not_handled : (n : ℕ) (place : Option Term) → IsTermOrStart place → (t : Term) → is_behind (last_term place (handled_terms n place all)) t ≡ true → IsIn t (handled_terms n place all) → ⊥
  not_handled n place is t behind handled =
      let from = terms_from place all in
      let there = (in_filter (is_behind place) t all (in_first n t from handled)).0 in
      parts_apart n t from (apart_filter (is_behind place) all (all_apart m i)) handled
      (subst (IsIn t) (last_handled n place is).1 (in_kept (is_behind (last_term place (handled_terms n place all))) t all there behind))

-- ---- places

-- the place behind a term is behind it
behind_term : (t : Option Term) → IsTermOrStart t → term_at (place_behind t) ≡ t
behind_term None is = refl
behind_term (Some (Word t)) is = subst (λ (u : List ℕ). term_at (word_behind u) ≡ Some (Word u)) (sym is.1.3) refl
behind_term (Some (Section t)) is =
    subst (λ (u : List ℕ). term_at (section_behind u) ≡ Some (Section u)) (sym is.2) (ap (λ (o : Option (List ℕ)). term_at (section_named o)) (kept_name-name is.0 is.1))

-- ---- the rows after an optimisation

not_any : (t : List ℕ) (ts : List (List ℕ)) → (IsIn t ts → ⊥) → is_any_of t ts ≡ false
not_any t [] none = refl
not_any t (u ∷ ts) none = go (same_list t u) refl (not_any t ts (λ h. none (inr h)))
  where
    go : (b : Bool) → same_list t u ≡ b → is_any_of t ts ≡ false → is_any_of t (u ∷ ts) ≡ false
    go true same rest = absurd (none (inl (list_from_same t u same)))
    go false same rest = ap (λ (b : Bool). b || is_any_of t ts) same ∙ rest

-- the change of the entry of an index changes nothing else
one_entry : (i v : List ℕ) (k : Key) (old : Option (List ℕ)) → is_entry k.kind ≡ false → told (put_value (key kind.Indexes i []) v ∷ []) k old ≡ old
one_entry i v k old other = told_frame is_entry (put_value (key kind.Indexes i []) v ∷ []) k old (refl, tt) other

-- the changes of terms are of the kinds of rows
kind_of_rows : {P : Type 0} (form : PlaceForm P) (k : Kind) (i t : List ℕ) (keep : ℕ → Bool) (rows : List (List (RowDocument P))) (p : Kind → Bool) → p k ≡ true → AllOf p (repack_changes form k i t keep rows)
kind_of_rows form k i t keep rows p is = all-append p (rows_drop form k i t rows) (rows_come form k i t (repacked form keep rows)) (dropped rows) (come (repacked form keep rows))
  where
    dropped : (rs : List (List (RowDocument _))) → AllOf p (rows_drop form k i t rs)
    dropped [] = tt
    dropped (r ∷ rs) = (is, dropped rs)

    come : (rs : List (List (RowDocument _))) → AllOf p (rows_come form k i t rs)
    come [] = tt
    come (r ∷ rs) = (is, come rs)

terms_of_rows : (i : List ℕ) (keep : ℕ → Bool) (rows : IndexRows) (p : Kind → Bool) → p kind.Postings ≡ true → p kind.Spans ≡ true → (ts : List Term) → AllOf p (each (term_changes i keep rows) ts)
terms_of_rows i keep rows p w s [] = tt
terms_of_rows i keep rows p w s (Word t ∷ ts) = all-append p (term_changes i keep rows (Word t)) (each (term_changes i keep rows) ts) (kind_of_rows number_form kind.Postings i t keep (rows.words t) p w) (terms_of_rows i keep rows p w s ts)
terms_of_rows i keep rows p w s (Section t ∷ ts) = all-append p (term_changes i keep rows (Section t)) (each (term_changes i keep rows) ts) (kind_of_rows pair_form kind.Spans i t keep (rows.sections t) p s) (terms_of_rows i keep rows p w s ts)

module _ (i : List ℕ) (level : Level) (m : Content) (place : Place) (next : Content) (leads : LeadsTo i level m place next) where
  abbrev its : List Term
  its = terms_handled level place (all_terms i m)

  abbrev keep : ℕ → Bool
  keep = stays (keeps_rows_only level) m i

  abbrev rows_left : IndexRows
  rows_left = rows_then m i level place (rows_of leads.stands)

  handled_are : AreTerms m i its
  handled_are = go level
    where
      go : (l : Level) → AreTerms m i (terms_handled l place (all_terms i m))
      go Fast = all_are_terms m i leads.only
      go Full = all_are_terms m i leads.only
      go (FullUpTo n) = handled_are_terms m i leads.only n (term_at place)

  -- but for its entry only its rows change
  but_entry : (k : Key) → is_entry k.kind ≡ false → at next k ≡ told (rows_renewed m i level place (rows_of leads.stands)) k (at m k)
  but_entry k other = leads.has k ∙ told-append (rows_renewed m i level place (rows_of leads.stands)) _ k (at m k) ∙ one_entry i _ k _ other

  abbrev doc : ℤ → Postings
  doc = postings_by leads.index.prefs (texts_in leads.table leads.index.column)

  -- a document that is a row of the table stays
  row_kept : (d : ℕ) (r : ℤ) → leads.stands.row d ≡ Some r → keep d ≡ true
  row_kept = row_stays m i doc (get leads.index.body.marks) leads.index.body.part leads.stands leads.rules.numbers (keeps_rows_only level)

  -- what each key of a word has then, and that these are rows
  words_then : RowsSpelled document_number (posting_bytes_of number_form) IsWordTerm (at next) kind.Postings i rows_left.words × ((t : List ℕ) → IsWordTerm t → AreRows document_number (IsPostingRowOf number_form) (rows_left.words t))
  words_then =
      let st = leads.stands in
      let part = leads.index.body.part in
      let after = after_some number_form kind.Postings IsWordTerm (at m) i (word_posting doc) st.row part.given part.tidiness st.words_waste st.word_rows (words_of its) st.words handled_are.words_apart handled_are.are_words keep row_kept in
      let has = λ (q : List ℕ). but_entry (key kind.Postings i q) refl ∙ at_words i keep (rows_of st) its q (at m (key kind.Postings i q)) in
      (record { spelled = λ t d is small. has (row_key t d) ∙ after.spelled.spelled t d is small }, after.are)

  -- and of a section
  sections_then : RowsSpelled document_number (posting_bytes_of pair_form) IsSpanTerm (at next) kind.Spans i rows_left.sections × ((t : List ℕ) → IsSpanTerm t → AreRows document_number (IsPostingRowOf pair_form) (rows_left.sections t))
  sections_then =
      let st = leads.stands in
      let part = leads.index.body.part in
      let after = after_some pair_form kind.Spans IsSpanTerm (at m) i (section_posting doc) st.row part.given part.tidiness st.spans_waste st.span_rows (sections_of its) st.spans handled_are.sections_apart handled_are.are_sections keep row_kept in
      let has = λ (q : List ℕ). but_entry (key kind.Spans i q) refl ∙ at_sections i keep (rows_of st) its q (at m (key kind.Spans i q)) in
      (record { spelled = λ t d is small. has (row_key t d) ∙ after.spelled.spelled t d is small }, after.are)

  -- THE ROWS that scans of it find
  rows_found : HasIndexRows next i rows_left
  rows_found = record {
    words = λ t is. words_scanned next i rows_left.words leads.keys words_then.0 t is (words_then.1 t is);
    sections = λ t is. sections_scanned next i rows_left.sections leads.keys sections_then.0 t is (sections_then.1 t is);
  }

  -- ---- the terms that aren't handled

  word_stays : (t : List ℕ) → IsWordTerm t → (IsIn t (words_of its) → ⊥) → (d : ℕ) → IsDocument d → at m (key kind.Postings i (row_key t d)) ≡ at next (key kind.Postings i (row_key t d))
  word_stays t is none d doc =
      leads.stands.words.spelled.spelled t d is doc
      ∙ sym (words_then.0.spelled t d is doc ∙ ap (λ (b : Bool). row_value document_number (posting_bytes_of number_form) (if b then repacked number_form keep (leads.stands.word_rows t) else leads.stands.word_rows t) d) (not_any t (words_of its) none))

  section_stays : (t : List ℕ) → IsSpanTerm t → (IsIn t (sections_of its) → ⊥) → (d : ℕ) → IsDocument d → at m (key kind.Spans i (row_key t d)) ≡ at next (key kind.Spans i (row_key t d))
  section_stays t is none d doc =
      leads.stands.spans.spelled.spelled t d is doc
      ∙ sym (sections_then.0.spelled t d is doc ∙ ap (λ (b : Bool). row_value document_number (posting_bytes_of pair_form) (if b then repacked pair_form keep (leads.stands.span_rows t) else leads.stands.span_rows t) d) (not_any t (sections_of its) none))

  -- ---- the entry, and all else

  abbrev entry : List ℕ
  entry = index_bytes leads.index.table leads.index.column leads.index.prefs (leads.index.body.part.given + 1) (tidiness_after level leads.index.body.part.tidiness) (place_bytes (place_after level place (all_terms i m)))

  abbrev renewed : List (Key × Option (List ℕ))
  renewed = rows_renewed m i level place (rows_of leads.stands)

  entry_then : at next (key kind.Indexes i []) ≡ Some entry
  entry_then =
      leads.has (key kind.Indexes i []) ∙ told-append renewed (put_value (key kind.Indexes i []) entry ∷ []) (key kind.Indexes i []) (at m (key kind.Indexes i []))
      ∙ entry_here i entry (told renewed (key kind.Indexes i []) (at m (key kind.Indexes i [])))

  kind_stays : (k : Key) → may_change k.kind ≡ false → at next k ≡ at m k
  kind_stays k other = but_entry k (no_entry k.kind other) ∙ told_frame may_change renewed k (at m k) (only_rows its) other
    where
      no_entry : (k : Kind) → may_change k ≡ false → is_entry k ≡ false
      no_entry kind.Indexes h = let wrong : true ≡ false = h in cc
      no_entry k h = refl

      only_rows : (ts : List Term) → AllOf may_change (each (term_changes i keep (rows_of leads.stands)) ts)
      only_rows ts = terms_of_rows i keep (rows_of leads.stands) may_change refl refl ts

  name_stays : (k : Key) → same_list k.owner i ≡ false → at next k ≡ at m k
  name_stays k other = leads.has k ∙ told_others i (index_optimised m i leads.index leads.table leads.stands level place) k (at m k) on other
    where
      on : AllOn i (index_optimised m i leads.index leads.table leads.stands level place)
      on = all_on-append i renewed (put_value (key kind.Indexes i []) entry ∷ []) (terms_on i keep (rows_of leads.stands) its) (refl, tt)

-- THE CONTENT AFTER AN OPTIMISATION
pub makes_content : MakesContent
makes_content i level m place next leads = record {
  rows = rows_found i level m place next leads;
  entry = entry_then i level m place next leads;
  other_kinds = kind_stays i level m place next leads;
  other_names = name_stays i level m place next leads;
}

-- ---- calls with a limit

-- a handled term of a kind is one of them
in_words : (t : List ℕ) (ts : List Term) → IsIn t (words_of ts) → IsIn (Word t) ts
in_words t (Word u ∷ ts) h = elim h [ inl e ↦ inl (ap Word e) | inr r ↦ inr (in_words t ts r) ]
in_words t (Section u ∷ ts) h = inr (in_words t ts h)
in_words t [] h = absurd h

in_sections : (t : List ℕ) (ts : List Term) → IsIn t (sections_of ts) → IsIn (Section t) ts
in_sections t (Word u ∷ ts) h = inr (in_sections t ts h)
in_sections t (Section u ∷ ts) h = elim h [ inl e ↦ inl (ap Section e) | inr r ↦ inr (in_sections t ts r) ]
in_sections t [] h = absurd h

module _ (i : List ℕ) (n : ℕ) (m : Content) (place : Place) (next : Content) (leads : LeadsTo i (FullUpTo n) m place next) where
  abbrev last : Option Term
  last = last_term (term_at place) (handled_terms n (term_at place) (all_terms i m))

  -- behind the last handled term the contents have the same terms
  same_words : filter (λ t. is_behind last (Word t)) (stored_terms kind.Postings i next) ≡ filter (λ t. is_behind last (Word t)) (stored_terms kind.Postings i m)
  same_words = sym (same_filtered (λ t. is_behind last (Word t)) (stored_terms kind.Postings i m) (stored_terms kind.Postings i next) (stored_rise kind.Postings i m) (stored_rise kind.Postings i next)
      (λ u behind h. stored_there IsWordTerm kind.Postings i m next (word_keys m leads.only i) u (stays_so u behind (stored_are IsWordTerm kind.Postings i m (word_keys m leads.only i) u h)) h)
      (λ u behind h. stored_there IsWordTerm kind.Postings i next m (word_keys next leads.keys i) u (λ d doc. sym (stays_so u behind (stored_are IsWordTerm kind.Postings i next (word_keys next leads.keys i) u h) d doc)) h))
    where
      stays_so : (u : List ℕ) → is_behind last (Word u) ≡ true → IsWordTerm u → (d : ℕ) → IsDocument d → at m (key kind.Postings i (row_key u d)) ≡ at next (key kind.Postings i (row_key u d))
      stays_so u behind is = word_stays i (FullUpTo n) m place next leads u is (λ h. not_handled m leads.only i n (term_at place) (term_at_is place leads.read) (Word u) behind (in_words u (handled_terms n (term_at place) (all_terms i m)) h))

  same_sections : filter (λ t. is_behind last (Section t)) (stored_terms kind.Spans i next) ≡ filter (λ t. is_behind last (Section t)) (stored_terms kind.Spans i m)
  same_sections = sym (same_filtered (λ t. is_behind last (Section t)) (stored_terms kind.Spans i m) (stored_terms kind.Spans i next) (stored_rise kind.Spans i m) (stored_rise kind.Spans i next)
      (λ u behind h. stored_there IsSpanTerm kind.Spans i m next (section_keys m leads.only i) u (stays_so u behind (stored_are IsSpanTerm kind.Spans i m (section_keys m leads.only i) u h)) h)
      (λ u behind h. stored_there IsSpanTerm kind.Spans i next m (section_keys next leads.keys i) u (λ d doc. sym (stays_so u behind (stored_are IsSpanTerm kind.Spans i next (section_keys next leads.keys i) u h) d doc)) h))
    where
      stays_so : (u : List ℕ) → is_behind last (Section u) ≡ true → IsSpanTerm u → (d : ℕ) → IsDocument d → at m (key kind.Spans i (row_key u d)) ≡ at next (key kind.Spans i (row_key u d))
      stays_so u behind is = section_stays i (FullUpTo n) m place next leads u is (λ h. not_handled m leads.only i n (term_at place) (term_at_is place leads.read) (Section u) behind (in_sections u (handled_terms n (term_at place) (all_terms i m)) h))

  same_left : terms_from last (all_terms i next) ≡ drop n (terms_from (term_at place) (all_terms i m))
  same_left =
      all_by_kind last (stored_terms kind.Postings i next) (stored_terms kind.Spans i next)
      ∙ ap (λ (ws : List (List ℕ)). map Word ws ++ map Section (filter (λ t. is_behind last (Section t)) (stored_terms kind.Spans i next))) same_words
      ∙ ap (λ (ss : List (List ℕ)). map Word (filter (λ t. is_behind last (Word t)) (stored_terms kind.Postings i m)) ++ map Section ss) same_sections
      ∙ sym (all_by_kind last (stored_terms kind.Postings i m) (stored_terms kind.Spans i m))
      ∙ (last_handled m leads.only i n (term_at place) (term_at_is place leads.read)).1

-- what an answer tells
abbrev answer : Bool → Place → Progress
answer more place = if more then More place else Done

told_more : (b : Bool) (p q : Place) → answer b p ≡ More q → (b ≡ true) × (p ≡ q)
told_more true p q e = (refl, cc)
told_more false p q e = let wrong : Done ≡ More q = e in cc

told_done : (b : Bool) (p : Place) → answer b p ≡ Done → b ≡ false
told_done true p e = let wrong : More p ≡ Done = e in cc
told_done false p e = refl

some_long : (ts : List Term) → has_some ts ≡ true → 1 ≤ length ts
some_long [] h = let wrong : false ≡ true = h in cc
some_long (t ∷ ts) h = omega arith

none_left : (ts : List Term) → has_some ts ≡ false → ts ≡ []
none_left [] h = refl
none_left (t ∷ ts) h = let wrong : true ≡ false = h in cc

pub leaves_none : LeavesNone
leaves_none n place ts done =
    first_all n (terms_from (term_at place) ts) (none_left (drop n (terms_from (term_at place) ts)) (told_done (has_more n (term_at place) ts) (place_behind (last_term (term_at place) (handled_terms n (term_at place) ts))) done))

pub leaves_fewer : LeavesFewer
leaves_fewer i n m place next behind leads more =
    let ts = all_terms i m in
    let last = last_term (term_at place) (handled_terms n (term_at place) ts) in
    let tells = told_more (has_more n (term_at place) ts) (place_behind last) behind more in
    let some = some_long (drop n (terms_from (term_at place) ts)) tells.0 in
    let ends = last_handled m leads.only i n (term_at place) (term_at_is place leads.read) in
    let left : left_behind i behind next ≡ drop n (left_behind i place m) = ap (λ (p : Place). terms_from (term_at p) (all_terms i next)) (sym tells.1) ∙ ap (λ (t : Option Term). terms_from t (all_terms i next)) (behind_term last ends.0) ∙ same_left i n m place next leads in
    (left, ap (λ (l : List Term). n + length l) left ∙ first_counted n (left_behind i place m) some, subst (λ (l : List Term). 1 ≤ length l) (sym left) some)

-- calls that answer More handle as many terms each
many_handled : (i : List ℕ) (n k : ℕ) (m : Content) (place : Place) → AllMore i n k m place → k * n ≤ length (left_behind i place m)
many_handled i n zero m place calls = omega arith
many_handled i n (suc k) m place calls =
    let fewer = (leaves_fewer i n m place calls.0 calls.1.0 calls.1.1 calls.1.2).1 in
    let rest = many_handled i n k calls.0 calls.1.0 calls.1.3 in
    omega (arith, fewer, rest)

pub reach_done : ReachDone
reach_done i n k m place some calls = (le-div_iff_mul-le (omega (arith, some))).1 (many_handled i n k m place calls)
