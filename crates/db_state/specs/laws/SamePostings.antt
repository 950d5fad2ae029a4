-- Which changes leave the rows of postings, the numbers of documents, and the places in which the entries of indexes end.
use Rattle.std.proofs.Common.{◌≡◌, ℕ, Bool, true, false, cond, List, [], ◌∷◌, length, Option, Some, None, refl, ap, subst, sym, ◌∙◌}
use Rattle.std.specs.Prelude.{is_some}
use Rattle.std.proofs.lemmas.Bool.{false≢true}
use Rattle.std.specs.FinMap.{get}
use Rattle.ct_keep.specs.Content.{Content, after}
use Rattle.ct_entry.specs.declared.kinds.Kind.{Kind}
use Rattle.ct_entry.specs.declared.kinds.Kind.TheVariants as kind
use Rattle.ct_entry.specs.Keys.{Key, at, key, same_key}
use Rattle.ct_entry.specs.Changes.{spell, told, view, AllOf, AllPut, Puts}
use Rattle.ct_entry.specs.laws.Changes.{at_view, told_frame}
use Rattle.ct_entry.specs.laws.Keys.{key_from_same}
use Rattle.ix_kinds.specs.Standing.{index_entry, is_of_indexes}
use Rattle.ix_kinds.specs.Drops.{LosesIndexes}
use Rattle.ix_kinds.specs.Statements.{bytes_behind}
use Rattle.ix_indexes.specs.Indexes.{kinds}
use Rattle.db_state.specs.States.{StoreState, StandsForState, is_of_rows}
use Rattle.db_state.specs.Effects.{Effect, Refused, Does, Works, OnlyLooks, state_by, reply_by, is_done}
use Rattle.db_state.specs.Entries.{HaveSamePostings, Becomes, Makes, Achieves, is_of_documents}

-- a content is so to itself
pub same_here : (m : StoreState) (f : Key → Option (List ℕ)) → HaveSamePostings m f f
same_here m f = record { rows = λ k of here. refl; documents = λ k v of here has. has; places = λ i x here. refl }

-- and to one that others lead on to
pub same_on : (m : StoreState) (f g h : Key → Option (List ℕ)) → HaveSamePostings m f g → HaveSamePostings m g h → HaveSamePostings m f h
same_on m f g h first second = record {
  rows = λ k of here. second.rows k of here ∙ first.rows k of here;
  documents = λ k v of here has. first.documents k v of here (second.documents k v of here has);
  places = λ i x here. second.places i x here ∙ first.places i x here;
}

-- what is put is no number of a document
abbrev pub NoDocument : Key → List ℕ → Type 0
NoDocument k v = is_of_documents k.kind ≡ false

-- changes that put none leave the numbers that there were
told_documents : (ws : List (Key × Option (List ℕ))) (k : Key) (old : Option (List ℕ)) (v : List ℕ) → AllPut NoDocument ws → is_of_documents k.kind ≡ true → told ws k old ≡ Some v → old ≡ Some v
told_documents [] k old v put of has = has
told_documents ((j, o) ∷ ws) k old v put of has = one o put.0 (same_key k j) refl (told_documents ws k (cond (same_key k j) o old) v put.1 of has)
  where
    one : (o : Option (List ℕ)) → Puts NoDocument j o → (b : Bool) → same_key k j ≡ b → cond b o old ≡ Some v → old ≡ Some v
    one None put true same is = cc
    one (Some w) put true same is = absurd (false≢true (sym put ∙ ap (λ (q : Key). is_of_documents q.kind) (sym (key_from_same k j same)) ∙ of))
    one o put false same is = is

-- those of other kinds, which put no number of a document
pub same_by_notes : (p : Kind → Bool) (ws : List (Key × Option (List ℕ))) (m : StoreState) (f : Key → Option (List ℕ)) → AllOf p ws
    → ((k : Kind) → is_of_rows k ≡ true → p k ≡ false) → p kind.Indexes ≡ false → AllPut NoDocument ws → HaveSamePostings m f (view ws f)
same_by_notes p ws m f all other no_entry put = record {
  rows = λ k of here. told_frame p ws k (f k) all (other k.kind of);
  documents = λ k v of here has. told_documents ws k (f k) v put of has;
  places = λ i x here. ap (bytes_behind (length (index_entry kinds x []))) (told_frame p ws (key kind.Indexes i []) (f (key kind.Indexes i [])) all no_entry);
}

-- so are those on kinds beside these
pub puts_other : (p : Kind → Bool) (ws : List (Key × Option (List ℕ))) → AllOf p ws → p kind.DocumentRows ≡ false → p kind.RowDocuments ≡ false → AllPut NoDocument ws
puts_other p [] all no_row no_document = tt
puts_other p ((k, o) ∷ ws) all no_row no_document = (one o, puts_other p ws all.1 no_row no_document)
  where
    other : (q : Kind) → p q ≡ true → is_of_documents q ≡ false
    other kind.DocumentRows h = absurd (false≢true (sym no_row ∙ h))
    other kind.RowDocuments h = absurd (false≢true (sym no_document ∙ h))
    other q h = refl

    one : (o : Option (List ℕ)) → Puts NoDocument k o
    one None = tt
    one (Some v) = other k.kind all.0

pub same_beside : (p : Kind → Bool) (ws : List (Key × Option (List ℕ))) (m : StoreState) (f : Key → Option (List ℕ)) → AllOf p ws
    → ((k : Kind) → is_of_rows k ≡ true → p k ≡ false) → p kind.Indexes ≡ false → p kind.DocumentRows ≡ false → p kind.RowDocuments ≡ false → HaveSamePostings m f (view ws f)
same_beside p ws m f all other no_entry no_row no_document = same_by_notes p ws m f all other no_entry (puts_other p ws all no_row no_document)

-- and the loss of whole indexes, which the state doesn't have
pub same_left : (m : StoreState) (gone : List ℕ → Bool) (f g : Key → Option (List ℕ)) → LosesIndexes gone f g → ((i : List ℕ) → is_some (get m.indexes i) ≡ true → gone i ≡ false) → HaveSamePostings m f g
same_left m gone f g loses left = record {
  rows = λ k of here. loses.others k (of_index k.kind of) (left k.owner here);
  documents = λ k v of here has. sym (loses.others k (of_map k.kind of) (left k.owner here)) ∙ has;
  places = λ i x here. ap (bytes_behind (length (index_entry kinds x []))) (loses.others (key kind.Indexes i []) refl (left i (ap is_some here)));
}
  where
    of_index : (k : Kind) → is_of_rows k ≡ true → is_of_indexes k ≡ true
    of_index kind.Postings h = refl
    of_index kind.Spans h = refl
    of_index k h = cc

    of_map : (k : Kind) → is_of_documents k ≡ true → is_of_indexes k ≡ true
    of_map kind.DocumentRows h = refl
    of_map kind.RowDocuments h = refl
    of_map k h = cc

-- a content that comes to one by such changes
pub becomes_by : (m : StoreState) (ws : List (Key × Option (List ℕ))) (c : Content) → StandsForState (after (spell ws) c) m → HaveSamePostings m (at c) (view ws (at c)) → Becomes m c (after (spell ws) c)
becomes_by m ws c stands keeps = record { stands = stands; keeps = subst (HaveSamePostings m (at c)) (sym (at_view ws c)) keeps }

-- ---- of an effect

-- one that only looks leads to no other state, and makes nothing
pub looks_stay : (m : StoreState) (e : Effect) → OnlyLooks m e → state_by m e ≡ m
looks_stay m (Refused refusal) looks = refl
looks_stay m (Does n reply) looks = looks
looks_stay m (Works n reply work) looks = absurd looks

pub looks_make : (m : StoreState) (e : Effect) (c : Content) → OnlyLooks m e → Makes e c c
looks_make m (Refused refusal) c looks = refl
looks_make m (Does n reply) c looks = same_here n (at c)
looks_make m (Works n reply work) c looks = absurd looks

-- what the content that it leads to is
pub leads_stand : (m : StoreState) (e : Effect) (reply : List ℕ) (c next : Content) → Achieves e reply c next → StandsForState next (state_by m e)
leads_stand m (Refused refusal) reply c next leads = absurd leads
leads_stand m (Does n said) reply c next leads = leads.1
leads_stand m (Works n said work) reply c next leads = leads.1

pub leads_make : (e : Effect) (reply : List ℕ) (c next : Content) → Achieves e reply c next → Makes e c next
leads_make (Refused refusal) reply c next leads = absurd leads
leads_make (Does n said) reply c next leads = leads.2
leads_make (Works n said work) reply c next leads = leads.2

pub leads_say : (e : Effect) (reply : List ℕ) (c next : Content) → Achieves e reply c next → reply_by e ≡ reply
leads_say (Refused refusal) reply c next leads = absurd leads
leads_say (Does n said) reply c next leads = leads.0
leads_say (Works n said work) reply c next leads = leads.0

pub leads_done : (e : Effect) (reply : List ℕ) (c next : Content) → Achieves e reply c next → is_done e ≡ true
leads_done (Refused refusal) reply c next leads = absurd leads
leads_done (Does n said) reply c next leads = refl
leads_done (Works n said work) reply c next leads = refl
