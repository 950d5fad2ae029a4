-- What holds of the entries of every text: each makes a row of postings or a section's, and no two stand under one term.
use Rattle.std.proofs.Common.{◌≡◌, ℕ, ◌+◌, ◌*◌, ◌^◌, ◌<◌, ◌≤◌, Bool, true, false, cond, List, [], ◌∷◌, length, Some, None, refl, sym, ap, subst, ◌∙◌, inl, inr, arith}
use Rattle.std.specs.Prelude.{All, ◌==◌}
use Rattle.std.specs.List.{AllByRecursion, cons_option}
use Rattle.std.specs.Ordering.{nat_cmp, eq_by_cmp}
use Rattle.std.specs.Cmp.Lexicographic.{slice_cmp}
use Rattle.std.specs.FinMap.{find}
use Rattle.std.specs.FinMap as fin
use Rattle.std.proofs.lemmas.Bool.{ne_eqb}
use Rattle.std.proofs.lemmas.Cmp.{nat_list_cmp_total}
use Rattle.std.proofs.lemmas.List.{length-map}
use Rattle.std.proofs.lemmas.List.Elements.{All-map, recursion_from_All}
use Rattle.ct_base.specs.Limits.{stream_limit}
use Rattle.ct_base.specs.declared.numbers.Pair.{Pair}
use Rattle.ct_keep.specs.laws.FoundKeys.{all_entries}
use Rattle.tx_settings.specs.declared.preferences.Prefs.{Prefs}
use Rattle.tx_document.specs.declared.entries.Entry.{Entry}
use Rattle.tx_document.specs.Documents.{pair}
use Rattle.tx_document.specs.Entries.{section_stream, place_map, places_under, entry_of}
use Rattle.tx_settings.specs.PrefsBytes.{IsPrefs}
use Rattle.tx_document.specs.Promises.{IsWordEntry, IsSectionEntry, PositionsRise, PairsRise, as_pairs, if_any}
use Rattle.tx_document.specs.laws.Found.{places_are_found}
use Rattle.tx_document.specs.laws.Ordered.{entries_are_ordered}
use Rattle.tx_document.specs.laws.Few.{places_are_few}
use Rattle.ix_posting.specs.Rows.{IsPostingRow, IsSpanRow}
use Rattle.ix_posting.specs.Forms.{Rise, PlacesRise, pair_form, no_pair}
use Rattle.ix_posting.specs.laws.Numbers.{few_rise}
use Rattle.ix_rows.specs.WordRows.{word_term}
use Rattle.ix_context.specs.Postings.{places_in_text, text_entries, is_section_entry, word_terms, section_terms, IsWord, IsSection, IsSectionOrWord, IsPosting, indexed_text_limit}
use Rattle.ix_rows.specs.Firsts.{first_positions}
use Rattle.ix_rows.specs.SpanRows.{section_term}
use Rattle.ix_context.specs.Documents.{document_with}

-- a name of places, with the places that it has
abbrev pub Named : Type 0
Named = List ℕ × List Pair

-- the names of a text, in the order of their bytes
abbrev pub text_names : Prefs → List ℕ → List Named
text_names p text = fin.entries (place_map (places_in_text p text))

-- ---- each is a word or a section

pub firsts_of_pairs : (ps : List ℕ) → first_positions (as_pairs ps) ≡ ps
firsts_of_pairs [] = refl
firsts_of_pairs (p ∷ ps) = ap (λ (l : List ℕ). p ∷ l) (firsts_of_pairs ps)

rise_so : (before : ℕ) (ps : List ℕ) → PositionsRise before ps → Rise before ps
rise_so before [] rise = tt
rise_so before (p ∷ ps) rise = (rise.0, rise.1, rise_so p ps rise.2)

pub pairs_rise_so : (before : Pair) (ps : List Pair) → PairsRise before ps → PlacesRise pair_form before ps
pairs_rise_so before [] rise = tt
pairs_rise_so before (p ∷ ps) rise = (rise.0, (rise.1, rise.2, rise.3), pairs_rise_so p ps rise.4)

low_stream : (stream : ℕ) → stream ≤ stream_limit → (stream == section_stream) ≡ false
low_stream stream low = ne_eqb stream section_stream (λ same. absurd (omega (arith, low, same)))

word_fits : (name : List ℕ) (places : List Pair) → IsWordEntry name places → IsPosting (entry_of (name, places))
word_fits name places is =
    subst (λ (n : Named). IsPosting (entry_of n)) (λ i. (sym is.named i, places))
    (subst (λ (b : Bool). IsSectionOrWord b (entry_of (is.stream ∷ is.token, places))) (sym (low_stream is.stream is.main_or_field))
    (record {
      stream = is.main_or_field;
      token = record { some = is.some; short = is.short };
      some = subst (λ (l : List Pair). 1 ≤ length l) (sym is.are) (let long = length-map is.positions (λ (p : ℕ). pair p p) in let some = is.anywhere in omega (arith, long, some));
      rise = subst (λ (l : List Pair). Rise 0 (first_positions l)) (sym is.are) (subst (Rise 0) (sym (firsts_of_pairs is.positions)) (rise_so 0 is.positions is.rise));
    }))

section_fits : (name : List ℕ) (places : List Pair) → IsSectionEntry name places → IsPosting (entry_of (name, places))
section_fits name places is =
    subst (λ (n : Named). IsPosting (entry_of n)) (λ i. (sym is.named i, places))
    (record { named = is.is_name; some = is.anywhere; few = is.few; rise = pairs_rise_so no_pair places is.rise })

pub names_fit : (p : Prefs) (text : List ℕ) → IsPrefs p → length text ≤ 2 ^ 24 → All (λ (n : Named). IsPosting (entry_of n)) (text_names p text)
names_fit p text is short = all_entries (slice_cmp nat_cmp) nat_list_cmp_total (λ (n : Named). IsPosting (entry_of n)) (place_map (places_in_text p text)) (λ name places found.
    elim (entries_are_ordered p text is short name places found) [ inl w ↦ word_fits name places w | inr s ↦ section_fits name places s ])

-- each entry of a text may stand in a row of postings, or of a section
pub entries_fit : (p : Prefs) (text : List ℕ) → IsPrefs p → length text ≤ 2 ^ 24 → All IsPosting (text_entries p text)
entries_fit p text is short = All-map IsPosting entry_of (text_names p text) (names_fit p text is short)

-- ---- how many places it has

-- at most so many, where the text may be indexed
abbrev pub most_places : ℕ
most_places = 9 * indexed_text_limit + 2

pub entries_few : (p : Prefs) (text : List ℕ) → IsPrefs p → length text ≤ indexed_text_limit → All (λ (e : Entry). length e.places ≤ most_places) (text_entries p text)
entries_few p text is short = All-map (λ (e : Entry). length e.places ≤ most_places) entry_of (text_names p text)
    (all_entries (slice_cmp nat_cmp) nat_list_cmp_total (λ (n : Named). length (entry_of n).places ≤ most_places) (place_map (places_in_text p text)) (λ name places found.
    few name places (places_under name (places_in_text p text)) refl (sym (places_are_found p text name) ∙ found)))
  where
    same_places : (name : List ℕ) (places : List Pair) → (entry_of (name, places)).places ≡ places
    same_places [] places = refl
    same_places (s ∷ token) places = refl

    few : (name : List ℕ) (places under : List Pair) → places_under name (places_in_text p text) ≡ under → if_any under ≡ Some places → length (entry_of (name, places)).places ≤ most_places
    few name places [] here found = cc
    few name places (q ∷ qs) here found =
        let same : places_under name (places_in_text p text) ≡ places = let e : q ∷ qs ≡ places = cc in here ∙ e in
        let count = ap length (same_places name places ∙ sym same) in
        let most = places_are_few p text name is (omega (arith, short)) in
        omega (arith, count, most, short)

-- ---- a row of one document

pub word_is_row : (e : Entry) (d : ℕ) → 1 ≤ d → d < 2 ^ 32 → IsWord e → IsPostingRow (document_with d (first_positions e.places) ∷ [])
word_is_row e d some room is = record {
  some = omega arith;
  few = omega arith;
  rise =
      let long = length-map e.places (λ (p : Pair). p.first) in
      let any = is.some in
      let few = few_rise 0 (first_positions e.places) (omega arith) is.rise in
      (omega (arith, some), room, omega (arith, long, any), omega (arith, few), is.rise, tt);
}

pub section_is_row : (e : Entry) (d : ℕ) → 1 ≤ d → d < 2 ^ 32 → IsSection e → IsSpanRow (document_with d e.places ∷ [])
section_is_row e d some room is = record { some = omega arith; few = omega arith; rise = (omega (arith, some), room, is.some, is.few, is.rise, tt) }

module _ (d : ℕ) (some : 1 ≤ d) (room : d < 2 ^ 32) where
  word_found : (es : List Entry) → AllByRecursion IsPosting es → (t x : List ℕ) → find (slice_cmp nat_cmp) t (word_terms es) ≡ Some x → IsPostingRow (document_with d x ∷ [])
  word_found [] all t x found = cc
  word_found (e ∷ es) all t x found = go (is_section_entry e) all.0 found (word_found es all.1 t x)
    where
      here : (b : Bool) → IsWord e → cond b (Some (first_positions e.places)) (find (slice_cmp nat_cmp) t (word_terms es)) ≡ Some x
          → (find (slice_cmp nat_cmp) t (word_terms es) ≡ Some x → IsPostingRow (document_with d x ∷ [])) → IsPostingRow (document_with d x ∷ [])
      here true is found rest = let same : first_positions e.places ≡ x = cc in subst (λ (l : List ℕ). IsPostingRow (document_with d l ∷ [])) same (word_is_row e d some room is)
      here false is found rest = rest found

      go : (b : Bool) → IsSectionOrWord b e → find (slice_cmp nat_cmp) t (cons_option (cond b None (Some (word_term e.stream e.token, first_positions e.places))) (word_terms es)) ≡ Some x
          → (find (slice_cmp nat_cmp) t (word_terms es) ≡ Some x → IsPostingRow (document_with d x ∷ [])) → IsPostingRow (document_with d x ∷ [])
      go true is found rest = rest found
      go false is found rest = here (eq_by_cmp (slice_cmp nat_cmp) t (word_term e.stream e.token)) is found rest

  section_found : (es : List Entry) → AllByRecursion IsPosting es → (t : List ℕ) (x : List Pair) → find (slice_cmp nat_cmp) t (section_terms es) ≡ Some x → IsSpanRow (document_with d x ∷ [])
  section_found [] all t x found = cc
  section_found (e ∷ es) all t x found = go (is_section_entry e) all.0 found (section_found es all.1 t x)
    where
      here : (b : Bool) → IsSection e → cond b (Some e.places) (find (slice_cmp nat_cmp) t (section_terms es)) ≡ Some x
          → (find (slice_cmp nat_cmp) t (section_terms es) ≡ Some x → IsSpanRow (document_with d x ∷ [])) → IsSpanRow (document_with d x ∷ [])
      here true is found rest = let same : e.places ≡ x = cc in subst (λ (l : List Pair). IsSpanRow (document_with d l ∷ [])) same (section_is_row e d some room is)
      here false is found rest = rest found

      go : (b : Bool) → IsSectionOrWord b e → find (slice_cmp nat_cmp) t (cons_option (cond b (Some (section_term e.token, e.places)) None) (section_terms es)) ≡ Some x
          → (find (slice_cmp nat_cmp) t (section_terms es) ≡ Some x → IsSpanRow (document_with d x ∷ [])) → IsSpanRow (document_with d x ∷ [])
      go true is found rest = here (eq_by_cmp (slice_cmp nat_cmp) t (section_term e.token)) is found rest
      go false is found rest = rest found

  -- what stands under a term of a text makes a row
  pub word_term_is_row : (p : Prefs) (text : List ℕ) → IsPrefs p → length text ≤ 2 ^ 24 → (x t : List ℕ)
      → find (slice_cmp nat_cmp) t (word_terms (text_entries p text)) ≡ Some x → IsPostingRow (document_with d x ∷ [])
  word_term_is_row p text is short x t found = word_found (text_entries p text) (recursion_from_All IsPosting (text_entries p text) (entries_fit p text is short)) t x found

  pub section_term_is_row : (p : Prefs) (text : List ℕ) → IsPrefs p → length text ≤ 2 ^ 24 → (x : List Pair) (t : List ℕ)
      → find (slice_cmp nat_cmp) t (section_terms (text_entries p text)) ≡ Some x → IsSpanRow (document_with d x ∷ [])
  section_term_is_row p text is short x t found = section_found (text_entries p text) (recursion_from_All IsPosting (text_entries p text) (entries_fit p text is short)) t x found
