-- What is put of documents that were joined, and of one batch after another.
use Rattle.std.specs.Prelude.{ℕ, ◌≡◌, ◌-◌, ◌^◌, ◌<◌, ◌≤◌, All, List, [], ◌∷◌, ◌++◌, length, map, Option, Some, None, refl}
use Rattle.std.specs.FinMap.{entries}
use Rattle.std.specs.Ordering.{nat_cmp}
use Rattle.std.specs.Cmp.Lexicographic.{slice_cmp}
use Rattle.std.proofs.Common.{sym, ap, subst, ◌∙◌, inl, inr, arith, append_assoc, append-nil}
use Rattle.std.proofs.lemmas.Cmp.{nat_list_cmp_total}
use Rattle.std.proofs.lemmas.List.{length-append}
use Rattle.std.proofs.lemmas.List.Elements.{All-head, All-tail}
use Rattle.ct_bytes.specs.Varints.{varint}
use Rattle.ct_bytes.specs.laws.Varints.{varint_length}
use Rattle.ct_keep.specs.Content.{value_limit}
use Rattle.ct_keep.specs.laws.FoundKeys.{all_entries}
use Rattle.ct_entry.specs.declared.kinds.Kind.{Kind}
use Rattle.ct_entry.specs.declared.kinds.Kind.TheVariants as kind
use Rattle.ct_entry.specs.Keys.{Key}
use Rattle.ct_entry.specs.Changes.{AllPut, Puts, spell}
use Rattle.ct_entry.specs.laws.Changes.{spell-append}
use Rattle.ct_entry.specs.Each.{each}
use Rattle.ct_entry.specs.Lists.{EachIs}
use Rattle.ix_posting.specs.declared.rows.RowDocument.{RowDocument}
use Rattle.ix_posting.specs.Forms.{PlaceForm, counted_bytes, number_form, pair_form}
use Rattle.ix_posting.specs.Rows.{IsPostingRowOf, document_bytes, posting_bytes_of}
use Rattle.ix_rows.specs.Growing.{Growing, grown_rows}
use Rattle.ix_rows.specs.GrowingLists.{IsGrown}
use Rattle.ix_rows.specs.RowMaps.{TermRowsView, with_posting, row_changes, row_map_changes}
use Rattle.ix_rows.specs.Spelling.{greedy}
use Rattle.ix_rows.specs.WordRows.{IsWordTerm}
use Rattle.ix_rows.specs.SpanRows.{IsSpanTerm}
use Rattle.ix_rows.specs.PlacedRows.{document_number}
use Rattle.ix_rows.specs.laws.PlacedRows.{HasPlaces, place_bytes, row_laws, row_spelt}
use Rattle.ix_rows.specs.laws.GrowingLists.{are_grown_more}
use Rattle.ix_rows.specs.laws.Growing.{spelt_row, grown_is_greedy}
use Rattle.ix_rows.specs.laws.Splits.{each_short}
use Rattle.ix_rows.specs.laws.Tidies.{greedy_rows}
use Rattle.ix_repack.specs.Putting.{FitsAlone, AreJoined, IsRowEntry, IsIndexRow, AddsPuts}
use Rattle.ix_repack.specs.Repacking.{entries_drop}

-- ---- one after the other

all_put-append : (Is : Key → List ℕ → Type 0) (xs ys : List (Key × Option (List ℕ))) → AllPut Is xs → AllPut Is ys → AllPut Is (xs ++ ys)
all_put-append Is [] ys a b = b
all_put-append Is (x ∷ xs) ys a b = (a.0, all_put-append Is xs ys a.1 b)

pub adds_nothing : (Is : Key → List ℕ → Type 0) (old : List (List ℕ × Option (List ℕ))) → AddsPuts Is old old
adds_nothing Is old = record { changes = []; adds = sym (append-nil old); put = tt }

pub adds_then : (Is : Key → List ℕ → Type 0) (old mid new : List (List ℕ × Option (List ℕ))) → AddsPuts Is old mid → AddsPuts Is mid new → AddsPuts Is old new
adds_then Is old mid new a b = record {
  changes = a.changes ++ b.changes;
  adds =
      b.adds ∙ ap (λ (ws : List (List ℕ × Option (List ℕ))). ws ++ spell b.changes) a.adds ∙ append_assoc old (spell a.changes) (spell b.changes)
      ∙ ap (λ (ws : List (List ℕ × Option (List ℕ))). old ++ ws) (sym (spell-append a.changes b.changes));
  put = all_put-append Is a.changes b.changes a.put b.put;
}

-- a wider rule
pub adds_wider : (Is Are : Key → List ℕ → Type 0) → ((k : Key) (v : List ℕ) → Is k v → Are k v) → (old new : List (List ℕ × Option (List ℕ))) → AddsPuts Is old new → AddsPuts Are old new
adds_wider Is Are wider old new a = record { changes = a.changes; adds = a.adds; put = all a.changes a.put }
  where
    each_put : (k : Key) (o : Option (List ℕ)) → Puts Is k o → Puts Are k o
    each_put k None p = tt
    each_put k (Some v) p = wider k v p

    all : (ws : List (Key × Option (List ℕ))) → AllPut Is ws → AllPut Are ws
    all [] p = tt
    all (w ∷ ws) p = (each_put w.0 w.1 p.0, all ws p.1)

-- what goes puts nothing
pub drops_put_nothing : (Is : Key → List ℕ → Type 0) (kind : Kind) (i t : List ℕ) (es : List (List ℕ × List ℕ)) → AllPut Is (entries_drop kind i t es)
drops_put_nothing Is kind i t [] = tt
drops_put_nothing Is kind i t (e ∷ es) = (tt, drops_put_nothing Is kind i t es)

-- ---- what was joined

-- the bytes of the places of a document that fits into an entry alone
abbrev pub place_bytes_limit : ℕ
place_bytes_limit = 2 ^ 25

module _ {P : Type 0} (form : PlaceForm P) where
  pub fits_alone : (x : RowDocument P) → HasPlaces form x → length (counted_bytes form x.places) ≤ place_bytes_limit → FitsAlone form x
  fits_alone x has few = record {
    places = has;
    short = omega (arith, few, length-append (varint 1) (document_bytes form 0 x ++ []), length-append (document_bytes form 0 x) [], length-append (varint (x.document - 0)) (counted_bytes form x.places), varint_length 1, varint_length (x.document - 0));
  }

  -- a document comes
  pub joined_one : (t : List ℕ) (out : TermRowsView) (x : RowDocument P) → FitsAlone form x → x.document < 2 ^ 32 → AreJoined form t out → AreJoined form t (with_posting out t x.document (counted_bytes form x.places))
  joined_one t out x fits small are = are_grown_more document_number (place_bytes form) (λ u. u ≡ t) (FitsAlone form) out t x are refl fits small

  module _ (kind : Kind) (i t : List ℕ) where
    abbrev Is : Key → List ℕ → Type 0
    Is = IsRowEntry form kind i t

    put_each : (rows : List (List (RowDocument P))) → EachIs (IsPostingRowOf form) rows → EachIs (λ (row : List (RowDocument P)). length (posting_bytes_of form row) ≤ value_limit) rows
        → AllPut Is (row_changes kind i t (map (spelt_row document_number (place_bytes form) (posting_bytes_of form) (row_spelt form)) rows))
    put_each [] are short = tt
    put_each ([] ∷ rows) are short = let none = are.0.some in absurd (omega (arith, none))
    put_each ((x ∷ xs) ∷ rows) are short = (record { first = x; others = xs; row = are.0; place = refl; spelt = refl; short = short.0 }, put_each rows are.1 short.1)

    grown_put : (g : Growing) → IsGrown document_number (place_bytes form) (λ u. u ≡ t) (FitsAlone form) t g → AllPut Is (row_changes kind i t (grown_rows g))
    grown_put g is =
        subst (λ (rows : List (ℕ × List ℕ)). AllPut Is (row_changes kind i t rows)) (sym (ap grown_rows is.same ∙ grown_is_greedy document_number (place_bytes form) (posting_bytes_of form) (row_spelt form) is.list is.rises))
        (put_each (greedy document_number (posting_bytes_of form) is.list)
        (greedy_rows document_number (posting_bytes_of form) (IsPostingRowOf form) (HasPlaces form) (row_laws form) is.list is.rises (λ x h. (is.good x h).places))
        (each_short document_number (posting_bytes_of form) value_limit (omega arith) is.list (λ x h. (is.good x h).short)))

    abbrev Grown : List ℕ × Growing → Type 0
    Grown e = IsGrown document_number (place_bytes form) (λ u. u ≡ t) (FitsAlone form) e.0 e.1

    entry_put : (e : List ℕ × Growing) → Grown e → AllPut Is (row_changes kind i e.0 (grown_rows e.1))
    entry_put e is =
        subst (λ (u : List ℕ). AllPut Is (row_changes kind i u (grown_rows e.1))) (sym is.term)
        (grown_put e.1 (record { term = refl; list = is.list; same = is.same; rises = is.rises; good = is.good }))

    all_put : (es : List (List ℕ × Growing)) → All Grown es → AllPut Is (each (λ (e : List ℕ × Growing). row_changes kind i e.0 (grown_rows e.1)) es)
    all_put [] all = tt
    all_put (e ∷ es) all =
        all_put-append Is (row_changes kind i e.0 (grown_rows e.1)) (each (λ (e : List ℕ × Growing). row_changes kind i e.0 (grown_rows e.1)) es) (entry_put e (All-head Grown e es all)) (all_put es (All-tail Grown e es all))

    -- WHAT WAS JOINED is put as rows
    pub map_put : (out : TermRowsView) → AreJoined form t out → AllPut Is (row_map_changes kind i out)
    map_put out are = all_put (entries out) (all_entries (slice_cmp nat_cmp) nat_list_cmp_total Grown out (λ u g there. are u g there))

-- rows of a word, and of a section, are rows of the index
pub word_rows : (i t : List ℕ) (old new : List (List ℕ × Option (List ℕ))) → IsWordTerm t → AddsPuts (IsRowEntry number_form kind.Postings i t) old new → AddsPuts (IsIndexRow i) old new
word_rows i t old new is = adds_wider (IsRowEntry number_form kind.Postings i t) (IsIndexRow i) (λ k v e. inl (t, is, e)) old new

pub section_rows : (i t : List ℕ) (old new : List (List ℕ × Option (List ℕ))) → IsSpanTerm t → AddsPuts (IsRowEntry pair_form kind.Spans i t) old new → AddsPuts (IsIndexRow i) old new
section_rows i t old new is = adds_wider (IsRowEntry pair_form kind.Spans i t) (IsIndexRow i) (λ k v e. inr (t, is, e)) old new
