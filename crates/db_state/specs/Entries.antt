-- What statements make of a content's entries, where the state that it then stands for doesn't tell it: the rows of postings, the numbers of documents, and the
-- places where optimisations go on.
use Rattle.std.specs.Prelude.{ℕ, ◌≡◌, ◌+◌, Bool, true, false, List, Option, Some, None, is_some, codes, refl}
use Rattle.std.specs.Ordering.{nat_cmp}
use Rattle.std.specs.Cmp.Lexicographic.{slice_cmp}
use Rattle.std.specs.FinMap.{get, get-empty}
use Rattle.std.proofs.Common.{ap, sym, subst, ◌∙◌, inl, inr}
use Rattle.std.proofs.lemmas.Option.{same_Some}
use Rattle.std.proofs.lemmas.Bool.{false≢true}
use Rattle.ct_keep.specs.Content.{Content, after}
use Rattle.ct_entry.specs.declared.kinds.Kind.{Kind}
use Rattle.ct_entry.specs.declared.kinds.Kind.TheVariants as kind
use Rattle.ct_entry.specs.Keys.{Key, at, key}
use Rattle.ct_entry.specs.Changes.{spell}
use Rattle.ix_kinds.specs.Rows.{table_at}
use Rattle.ix_kinds.specs.Indextypes.{IndexOf, with_body}
use Rattle.ix_kinds.specs.Statements.{place_of}
use Rattle.ix_context.specs.Contents.{HoldsContext, target_of}
use Rattle.ix_context.specs.Indexes.{ContextIndex}
use Rattle.ix_context.specs.Levels.{Level, Full}
use Rattle.ix_repack.specs.Repacking.{IndexRows, HasIndexRows}
use Rattle.ix_optimize.specs.Optimising.{optimise_changes, resumed}
use Rattle.ix_indexes.specs.Indexes.{Body, Index, kinds}
use Rattle.db_cond.specs.Faults.{WrongValues}
use Rattle.db_state.specs.States.{StoreState, StandsForState, empty_state, is_of_rows, named_thesauri}
use Rattle.db_state.specs.Effects.{Effect, IndexWork, Refused, Does, Works, Creates, Syncs, Optimises}

-- ---- statements that work on no index

-- the kinds of the map between rows and documents
abbrev pub is_of_documents : Kind → Bool
is_of_documents kind.DocumentRows = true
is_of_documents kind.RowDocuments = true
is_of_documents k = false

-- Of each index that the state has, the rows of postings stay as they are, and so does the place in which its entry ends; and no row gets a number of a document, nor
-- another one than it had.
pub record HaveSamePostings (m : StoreState) (f g : Key → Option (List ℕ)) : Type 0 where
  pub rows : (k : Key) → is_of_rows k.kind ≡ true → is_some (get m.indexes k.owner) ≡ true → g k ≡ f k
  pub documents : (k : Key) (v : List ℕ) → is_of_documents k.kind ≡ true → is_some (get m.indexes k.owner) ≡ true → g k ≡ Some v → f k ≡ Some v
  pub places : (i : List ℕ) (x : Index) → get m.indexes i ≡ Some x → place_of kinds g i x ≡ place_of kinds f i x

-- The content c comes to `next`, which stands for this state, with the rows of c.
pub record Becomes (m : StoreState) (c next : Content) : Type 0 where
  pub stands : StandsForState next m
  pub keeps : HaveSamePostings m (at c) (at next)

-- ---- work on an index

-- what a synchronisation puts: the entry of the index ends in the same place as before
abbrev pub its_sync_changes : StoreState → Content → List ℕ → Index → List (Key × Option (List ℕ))
its_sync_changes m c i x = kinds.sync_changes (named_thesauri m) (table_at m.tables x.table) i x (place_of kinds (at c) i x)

-- what an optimisation puts of a CONTEXT index with these rows, which goes on from the place in which the entry of the index ends
abbrev pub its_optimise_changes : (m : StoreState) (c : Content) → Level → (i : List ℕ) (x : IndexOf ContextIndex) → HoldsContext c m.tables i x → IndexRows → List (Key × Option (List ℕ))
its_optimise_changes m c level i x holds rows =
    optimise_changes c i level (resumed holds.entry.resumes) rows (target_of x) x.prefs (x.body.part.given + 1) x.body.part.tidiness

-- the index is synchronised, if it is there
abbrev pub IsSynced : StoreState → List ℕ → Option Index → Content → Content → Type 0
IsSynced m i None c next = next ≡ c
IsSynced m i (Some x) c next = next ≡ after (spell (its_sync_changes m c i x)) c

-- It is optimised, if it is a CONTEXT index: by the rows that the content has under its name. A content that stands for the state has such rows, and just these.
abbrev pub IsOptimisedAs : StoreState → Level → List ℕ → Index → Body → Content → Content → Type 0
IsOptimisedAs m level i x (inl b) c next =
    (holds : HoldsContext c m.tables i (with_body x b)) (rows : IndexRows) → HasIndexRows c i rows → next ≡ after (spell (its_optimise_changes m c level i (with_body x b) holds rows)) c
IsOptimisedAs m level i x (inr b) c next = next ≡ c

abbrev pub IsOptimisedIn : StoreState → Level → List ℕ → Option Index → Content → Content → Type 0
IsOptimisedIn m level i None c next = next ≡ c
IsOptimisedIn m level i (Some x) c next = IsOptimisedAs m level i x x.body c next

-- `next` is the content c with what the work puts, and nothing else.
abbrev pub WorkPuts : IndexWork → Content → Content → Type 0
WorkPuts (Creates m asked i on prefs) c next = next ≡ after (spell (kinds.create_changes asked (named_thesauri m) (table_at m.tables on.table) i on prefs)) c
WorkPuts (Syncs m i) c next = IsSynced m i (get m.indexes i) c next
WorkPuts (Optimises m level i) c next = IsOptimisedIn m level i (get m.indexes i) c next

-- ---- an effect

-- what it makes of the entries of c
abbrev pub Makes : Effect → Content → Content → Type 0
Makes (Refused refusal) c next = next ≡ c
Makes (Does m reply) c next = HaveSamePostings m (at c) (at next)
Makes (Works m reply work) c next = WorkPuts work c next

-- The effect is no refusal, says this reply, and leads from the content c to `next`, which stands for its state.
abbrev pub Achieves : Effect → List ℕ → Content → Content → Type 0
Achieves (Refused refusal) reply c next = ⊥
Achieves (Does m said) reply c next = (said ≡ reply) × StandsForState next m × HaveSamePostings m (at c) (at next)
Achieves (Works m said work) reply c next = (said ≡ reply) × StandsForState next m × WorkPuts work c next

-- computed examples: a refusal leaves all as it is, and of a state without indexes nothing is said
refused_leaves : (c : Content) → Makes (Refused WrongValues) c c
refused_leaves c = refl

no_index : (i : List ℕ) → is_some (get empty_state.indexes i) ≡ true → ⊥
no_index i here = false≢true (sym (ap is_some (get-empty (slice_cmp nat_cmp) i)) ∙ here)

of_no_index : (f g : Key → Option (List ℕ)) → HaveSamePostings empty_state f g
of_no_index f g = record {
  rows = λ k of here. absurd (no_index k.owner here);
  documents = λ k v of here has. absurd (no_index k.owner here);
  places = λ i x here. absurd (no_index i (ap is_some here));
}

-- an index that isn't there isn't optimised: the content is as it was
none_optimised : (c next : Content) → WorkPuts (Optimises empty_state Full (codes "di")) c next → next ≡ c
none_optimised c next worked = subst (λ (o : Option Index). IsOptimisedIn empty_state Full (codes "di") o c next) (get-empty (slice_cmp nat_cmp) (codes "di")) worked

-- a row of postings that comes to an index isn't kept
a_row_comes : (m : StoreState) (f g : Key → Option (List ℕ)) (part v : List ℕ) → is_some (get m.indexes (codes "di")) ≡ true → f (key kind.Postings (codes "di") part) ≡ None
    → g (key kind.Postings (codes "di") part) ≡ Some v → HaveSamePostings m f g → ⊥
a_row_comes m f g part v there none some keeps =
    false≢true (sym (ap is_some (keeps.rows (key kind.Postings (codes "di") part) refl there ∙ none)) ∙ ap is_some some)

-- nor does the number of a document get another row
a_number_stays : (m : StoreState) (f g : Key → Option (List ℕ)) (part u v : List ℕ) → is_some (get m.indexes (codes "di")) ≡ true → f (key kind.DocumentRows (codes "di") part) ≡ Some u
    → g (key kind.DocumentRows (codes "di") part) ≡ Some v → HaveSamePostings m f g → u ≡ v
a_number_stays m f g part u v there was now keeps = same_Some u v (sym was ∙ keeps.documents (key kind.DocumentRows (codes "di") part) v refl there now)
