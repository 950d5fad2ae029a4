-- What the removal of indexes makes of the entries.
use Rattle.std.proofs.Common.{◌≡◌, ℕ, Bool, true, false, cond, List, [], ◌∷◌, Option, Some, None, refl, sym, ap, ◌∙◌}
use Rattle.std.specs.Prelude.{◌&&◌, ◌||◌, ◌==◌, is_some}
use Rattle.std.specs.List.{list_any}
use Rattle.ct_keep.specs.Content.{Content}
use Rattle.ct_entry.specs.declared.kinds.Kind.{Kind}
use Rattle.ct_entry.specs.declared.kinds.Kind.TheVariants as kind
use Rattle.ct_entry.specs.Kinds.{code}
use Rattle.ct_entry.specs.Keys.{Key, key, at, same_list, HasKeysOnly}
use Rattle.ct_entry.specs.Changes.{told, view, AreChanges, AllOf}
use Rattle.ct_entry.specs.Each.{is_any_of}
use Rattle.ct_entry.specs.Removals.{drop_rests, rests_of, owned_removals, is_owned}
use Rattle.ct_entry.specs.laws.Changes.{told-append, are-append, all-append}
use Rattle.ct_entry.specs.laws.Each.{told_each, all_each}
use Rattle.ct_entry.specs.laws.Removals.{told-drop_rests, rests_are, owned_is, are_removals}
use Rattle.ix_kinds.specs.Standing.{is_of_indexes}
use Rattle.ix_kinds.specs.Drops.{LosesIndexes}
use Rattle.ix_indexes.specs.Removing.{index_kinds, kind_removals, index_removals, remove_all_changes, RemovedIndexesLoseEntries, AllRemovedIndexesLoseEntries}

-- ---- what a key has after the removals

-- of one kind
told-owned_removals : (kind : Kind) (i : List ℕ) (m : Content) (k : Key) (old : Option (List ℕ)) → told (owned_removals kind i m) k old ≡ cond (is_owned kind i k && is_some (at m k)) None old
told-owned_removals kind i m k old =
    told-drop_rests kind i (rests_of kind i m) k old
    ∙ ap (λ (b : Bool). cond (is_owned kind i k && b) None old) (rests_are kind i m k.part)
    ∙ by_owner (is_owned kind i k) refl
  where
    by_owner : (b : Bool) → is_owned kind i k ≡ b → cond (b && is_some (at m (key kind i k.part))) None old ≡ cond (b && is_some (at m k)) None old
    by_owner true h = ap (λ (j : Key). cond (is_some (at m j)) None old) (sym (owned_is kind i k h))
    by_owner false h = refl

-- a kind is one of those that indexes have
kinds_tie : (j : Kind) (b c : Bool) → list_any (λ (kind : Kind). ((code j == code kind) && b) && c) index_kinds ≡ ((is_of_indexes j && b) && c)
kinds_tie j b c = go j
  where
    last : (x : Bool) → (x || false) ≡ x
    last true = refl
    last false = refl

    go : (j : Kind) → list_any (λ (kind : Kind). ((code j == code kind) && b) && c) index_kinds ≡ ((is_of_indexes j && b) && c)
    go kind.Tables = refl
    go kind.RowNumbers = refl
    go kind.RowTexts = refl
    go kind.Preferences = refl
    go kind.Stoplists = refl
    go kind.SectionGroups = refl
    go kind.IndexSets = refl
    go kind.Thesauri = refl
    go kind.Relations = refl
    go kind.Indexes = last (b && c)
    go kind.DocumentRows = last (b && c)
    go kind.RowDocuments = last (b && c)
    go kind.Pending = last (b && c)
    go kind.Postings = last (b && c)
    go kind.Spans = last (b && c)
    go kind.Catalogue = last (b && c)
    go kind.Rules = last (b && c)
    go kind.Anchors = last (b && c)
    go kind.RuleFaults = last (b && c)

-- of an index
pub told-remove : (i : List ℕ) (m : Content) (k : Key) (old : Option (List ℕ)) → told (index_removals i m) k old ≡ cond ((is_of_indexes k.kind && same_list k.owner i) && is_some (at m k)) None old
told-remove i m k old =
    told_each (λ (kind : Kind). owned_removals kind i m) k (λ kind. is_owned kind i k && is_some (at m k)) None (λ kind o. told-owned_removals kind i m k o) index_kinds old
    ∙ ap (λ (b : Bool). cond b None old) (kinds_tie k.kind (same_list k.owner i) (is_some (at m k)))

-- of several indexes
pub told-remove_all : (m : Content) (names : List (List ℕ)) (k : Key) (old : Option (List ℕ)) → is_of_indexes k.kind ≡ true
    → told (remove_all_changes m names) k old ≡ cond (is_any_of k.owner names && is_some (at m k)) None old
told-remove_all m names k old of =
    told_each (λ i. index_removals i m) k (λ i. same_list k.owner i && is_some (at m k)) None (λ i o. told-remove i m k o ∙ ap (λ (b : Bool). cond ((b && same_list k.owner i) && is_some (at m k)) None o) of) names old
    ∙ ap (λ (b : Bool). cond b None old) (among (is_some (at m k)) names)
  where
    among : (c : Bool) (names : List (List ℕ)) → list_any (λ i. same_list k.owner i && c) names ≡ (is_any_of k.owner names && c)
    among c [] = refl
    among c (i ∷ is) = ap (λ (b : Bool). (same_list k.owner i && c) || b) (among c is) ∙ one (same_list k.owner i) (is_any_of k.owner is) c
      where
        one : (a b c : Bool) → ((a && c) || (b && c)) ≡ ((a || b) && c)
        one true b true = refl
        one true true false = refl
        one true false false = refl
        one false b c = refl

-- ---- which entries are lost

-- an owner's entries that were there are gone, and all others stay
loses_by : (gone : List ℕ → Bool) (m : Content) (ws : List (Key × Option (List ℕ))) (f : Key → Option (List ℕ)) → ((k : Key) → is_of_indexes k.kind ≡ true → f k ≡ at m k)
    → ((k : Key) → is_of_indexes k.kind ≡ true → told ws k (f k) ≡ cond (gone k.owner && is_some (at m k)) None (f k)) → LosesIndexes gone f (view ws f)
loses_by gone m ws f same tell = record {
  none = λ k of hit.
      tell k of ∙ ap (λ (b : Bool). cond (b && is_some (at m k)) None (f k)) hit ∙ ap (cond (is_some (at m k)) None) (same k of) ∙ emptied (at m k);
  others = λ k of miss. tell k of ∙ ap (λ (b : Bool). cond (b && is_some (at m k)) None (f k)) miss;
}
  where
    emptied : (o : Option (List ℕ)) → cond (is_some o) None o ≡ None
    emptied None = refl
    emptied (Some x) = refl

pub remove_loses : RemovedIndexesLoseEntries
remove_loses i m f same =
    loses_by (λ q. same_list q i) m (index_removals i m) f same
    (λ k of. told-remove i m k (f k) ∙ ap (λ (b : Bool). cond ((b && same_list k.owner i) && is_some (at m k)) None (f k)) of)

pub remove_all_loses : AllRemovedIndexesLoseEntries
remove_all_loses names m f same = loses_by (λ q. is_any_of q names) m (remove_all_changes m names) f same (λ k of. told-remove_all m names k (f k) of)

-- ---- the changes themselves

all_dropped : (p : Kind → Bool) (kind : Kind) (i : List ℕ) (rests : List (List ℕ)) → p kind ≡ true → AllOf p (drop_rests kind i rests)
all_dropped p kind i [] of = tt
all_dropped p kind i (r ∷ rs) of = (of, all_dropped p kind i rs of)

-- they are on entries of indexes
pub all_of_index : (i : List ℕ) (m : Content) → AllOf is_of_indexes (index_removals i m)
all_of_index i m =
    more kind.Indexes (kind.DocumentRows ∷ kind.RowDocuments ∷ kind.Pending ∷ kind.Postings ∷ kind.Spans ∷ kind.Catalogue ∷ kind.Rules ∷ kind.Anchors ∷ kind.RuleFaults ∷ []) refl (
    more kind.DocumentRows (kind.RowDocuments ∷ kind.Pending ∷ kind.Postings ∷ kind.Spans ∷ kind.Catalogue ∷ kind.Rules ∷ kind.Anchors ∷ kind.RuleFaults ∷ []) refl (
    more kind.RowDocuments (kind.Pending ∷ kind.Postings ∷ kind.Spans ∷ kind.Catalogue ∷ kind.Rules ∷ kind.Anchors ∷ kind.RuleFaults ∷ []) refl (
    more kind.Pending (kind.Postings ∷ kind.Spans ∷ kind.Catalogue ∷ kind.Rules ∷ kind.Anchors ∷ kind.RuleFaults ∷ []) refl (
    more kind.Postings (kind.Spans ∷ kind.Catalogue ∷ kind.Rules ∷ kind.Anchors ∷ kind.RuleFaults ∷ []) refl (
    more kind.Spans (kind.Catalogue ∷ kind.Rules ∷ kind.Anchors ∷ kind.RuleFaults ∷ []) refl (
    more kind.Catalogue (kind.Rules ∷ kind.Anchors ∷ kind.RuleFaults ∷ []) refl (
    more kind.Rules (kind.Anchors ∷ kind.RuleFaults ∷ []) refl (
    more kind.Anchors (kind.RuleFaults ∷ []) refl (
    more kind.RuleFaults [] refl tt)))))))))
  where
    more : (kind : Kind) (kinds : List Kind) → is_of_indexes kind ≡ true → AllOf is_of_indexes (kind_removals i m kinds) → AllOf is_of_indexes (kind_removals i m (kind ∷ kinds))
    more kind kinds of rest = all-append is_of_indexes (owned_removals kind i m) (kind_removals i m kinds) (all_dropped is_of_indexes kind i (rests_of kind i m) of) rest

pub all_of_indexes : (m : Content) (names : List (List ℕ)) → AllOf is_of_indexes (remove_all_changes m names)
all_of_indexes m names = all_each is_of_indexes (λ i. index_removals i m) (λ i. all_of_index i m) names

-- and on keys of their kinds, where the content has no others
pub removals_are : (i : List ℕ) (m : Content) → HasKeysOnly m → AreChanges (index_removals i m)
removals_are i m only = go index_kinds
  where
    go : (kinds : List Kind) → AreChanges (kind_removals i m kinds)
    go [] = tt
    go (kind ∷ kinds) = are-append (owned_removals kind i m) (kind_removals i m kinds) (are_removals kind i m only) (go kinds)

pub all_removals_are : (m : Content) (names : List (List ℕ)) → HasKeysOnly m → AreChanges (remove_all_changes m names)
all_removals_are m [] only = tt
all_removals_are m (i ∷ is) only = are-append (index_removals i m) (remove_all_changes m is) (removals_are i m only) (all_removals_are m is only)

-- ---- what is there afterwards was there before

-- of any key, by the removal of one index
pub told_one : (i : List ℕ) (m : Content) (k : Key) (old : Option (List ℕ)) (v : List ℕ) → told (index_removals i m) k old ≡ Some v → old ≡ Some v
told_one i m k old v has = left ((is_of_indexes k.kind && same_list k.owner i) && is_some (at m k)) (sym (told-remove i m k old) ∙ has)
  where
    left : (b : Bool) → cond b None old ≡ Some v → old ≡ Some v
    left true h = cc
    left false h = h

-- and by those of several
pub told_all : (m : Content) (names : List (List ℕ)) (k : Key) (old : Option (List ℕ)) (v : List ℕ) → told (remove_all_changes m names) k old ≡ Some v → old ≡ Some v
told_all m [] k old v is = is
told_all m (i ∷ is) k old v has =
    told_one i m k old v (told_all m is k (told (index_removals i m) k old) v (sym (told-append (index_removals i m) (remove_all_changes m is) k old) ∙ has))
