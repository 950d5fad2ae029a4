-- What several rows have under terms, each as its document: what a synchronisation puts of them.
use Rattle.std.specs.Prelude.{ℕ, ℤ, pos, ◌≡◌, List, [], ◌∷◌, map, Option, codes, refl}
use Rattle.std.specs.List.{flat_map, filter_map}
use Rattle.std.specs.Option.{option_map}
use Rattle.std.specs.Ordering.{nat_cmp}
use Rattle.std.specs.Cmp.Lexicographic.{slice_cmp}
use Rattle.std.specs.FinMap.{get, keys, from_entries, empty}
use Rattle.ct_entry.specs.declared.kinds.Kind.{Kind}
use Rattle.ct_entry.specs.Keys.{Key, key}
use Rattle.ct_entry.specs.Changes.{put_value}
use Rattle.ct_entry.specs.Each.{each}
use Rattle.ct_entry.specs.Maps.{Names}
use Rattle.ix_rows.specs.Spelling.{row_key, first_document, greedy}
use Rattle.ix_rows.specs.RowMaps.{TermRowsView, with_posting}

-- what each row has, by the bytes of terms
abbrev pub Having : Type 0 → Type 0
Having X = ℤ → Names X

-- the terms under which some of these rows have anything, in order, each once
abbrev pub terms_of : {X : Type 0} → Having X → List ℤ → List (List ℕ)
terms_of has rows = keys {R = slice_cmp nat_cmp} (from_entries (map {B = List ℕ × Unit {0}} (λ t. (t, tt)) (flat_map (λ r. keys (has r)) rows)))

module _ {D X : Type 0} (number : D → ℕ) (bytes_of : List D → List ℕ) (made : ℕ → X → D) where
  -- the posting list of a term: what each of these rows has under it, as its document
  abbrev pub gathered_list : Having X → List (ℕ × ℤ) → List ℕ → List D
  gathered_list has ps t = filter_map (λ p. option_map (made p.0) (get (has p.1) t)) ps

  -- each of these terms with the split of its posting list
  abbrev pub gathered_rows : Having X → List (ℕ × ℤ) → List (List ℕ) → List (List ℕ × List (List D))
  gathered_rows has ps terms = map (λ t. (t, greedy number bytes_of (gathered_list has ps t))) terms

  -- the changes that put rows of terms: each row under its term and its first document
  abbrev pub rows_put : Kind → List ℕ → List (List ℕ × List (List D)) → List (Key × Option (List ℕ))
  rows_put kind i es = each (λ (e : List ℕ × List (List D)). map (λ (row : List D). put_value (key kind i (row_key e.0 (first_document number row))) (bytes_of row)) e.1) es

-- ---- as it is gathered: document by document, of each what it has, with the bytes of its places

abbrev pub with_document : TermRowsView → ℕ → List (List ℕ × List ℕ) → TermRowsView
with_document m d [] = m
with_document m d (e ∷ es) = with_document (with_posting m e.0 d e.1) d es

abbrev pub with_documents : (ℤ → List (List ℕ × List ℕ)) → TermRowsView → List (ℕ × ℤ) → TermRowsView
with_documents its m [] = m
with_documents its m (p ∷ ps) = with_documents its (with_document m p.0 (its p.1)) ps

-- computed example: one after the other
two_postings : with_documents (λ r. (codes "a", 1 ∷ 1 ∷ []) ∷ (codes "b", 1 ∷ 2 ∷ []) ∷ []) empty ((1, pos 7) ∷ [])
    ≡ with_posting (with_posting empty (codes "a") 1 (1 ∷ 1 ∷ [])) (codes "b") 1 (1 ∷ 2 ∷ [])
two_postings = refl
