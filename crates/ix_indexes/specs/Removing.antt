-- What the removal of an index puts into a batch, whatever its kind.
use Rattle.std.specs.Prelude.{ℕ, ◌≡◌, List, [], ◌∷◌, ◌++◌, Option, filter, codes, refl, true}
use Rattle.ct_keep.specs.Content.{Content}
use Rattle.ct_entry.specs.declared.kinds.Kind.{Kind}
use Rattle.ct_entry.specs.declared.kinds.Kind.TheVariants.{Tables, RowNumbers, Thesauri, Indexes, DocumentRows, RowDocuments, Pending, Postings, Spans, Catalogue, Rules, Anchors, RuleFaults}
use Rattle.ct_entry.specs.Keys.{Key, at, same_list}
use Rattle.ct_entry.specs.Each.{each, is_any_of}
use Rattle.ct_entry.specs.Removals.{owned_removals}
use Rattle.ix_kinds.specs.Standing.{is_of_indexes}
use Rattle.ct_entry.specs.Changes.{view}
use Rattle.ix_kinds.specs.Drops.{LosesIndexes}

-- the kinds of the entries that an index can have
abbrev pub index_kinds : List Kind
index_kinds = Indexes ∷ DocumentRows ∷ RowDocuments ∷ Pending ∷ Postings ∷ Spans ∷ Catalogue ∷ Rules ∷ Anchors ∷ RuleFaults ∷ []

-- the removal of all of an index's entries of these kinds, kind by kind
abbrev pub kind_removals : List ℕ → Content → List Kind → List (Key × Option (List ℕ))
kind_removals i m kinds = each (λ kind. owned_removals kind i m) kinds

-- the removal of an index: of all its entries
abbrev pub index_removals : List ℕ → Content → List (Key × Option (List ℕ))
index_removals i m = kind_removals i m index_kinds

-- the removals of several indexes, one after the other
abbrev pub remove_all_changes : Content → List (List ℕ) → List (Key × Option (List ℕ))
remove_all_changes m names = each (λ i. index_removals i m) names

-- ---- what the removals take away

-- Where entries of indexes are as in the content, the removal of an index takes away all its entries, whatever its kind, and no other index's.
abbrev pub RemovedIndexesLoseEntries : Type 0
RemovedIndexesLoseEntries =
    (i : List ℕ) (m : Content) (f : Key → Option (List ℕ)) → ((k : Key) → is_of_indexes k.kind ≡ true → f k ≡ at m k) → LosesIndexes (λ q. same_list q i) f (view (index_removals i m) f)

-- So do the removals of several, one after the other.
abbrev pub AllRemovedIndexesLoseEntries : Type 0
AllRemovedIndexesLoseEntries =
    (names : List (List ℕ)) (m : Content) (f : Key → Option (List ℕ)) → ((k : Key) → is_of_indexes k.kind ≡ true → f k ≡ at m k)
    → LosesIndexes (λ q. is_any_of q names) f (view (remove_all_changes m names) f)

-- computed examples: of some kinds those of indexes, and two indexes in turn
ten_kinds : filter is_of_indexes (Tables ∷ Indexes ∷ RowNumbers ∷ DocumentRows ∷ RowDocuments ∷ Thesauri ∷ Pending ∷ Postings ∷ Spans ∷ Catalogue ∷ Rules ∷ Anchors ∷ RuleFaults ∷ []) ≡ index_kinds
ten_kinds = refl

two_in_turn : (m : Content) → remove_all_changes m (codes "di" ∷ codes "dj" ∷ []) ≡ index_removals (codes "di") m ++ (index_removals (codes "dj") m ++ [])
two_in_turn m = refl
