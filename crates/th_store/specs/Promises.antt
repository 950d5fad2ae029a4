-- What the functions of `src/laws.rt` promise of all thesauri.
use Rattle.std.specs.Prelude.{ℕ, ◌≡◌, ◌<◌, Bool, true, false, ◌||◌, List, [], ◌∷◌, map, length, Option, Some, None, codes, refl}
use Rattle.std.specs.FinMap.{get, insert, entries}
use Rattle.ct_base.specs.Names.{IsName}
use Rattle.ct_entry.specs.declared.kinds.Kind.{Kind}
use Rattle.ct_entry.specs.declared.kinds.Kind.TheVariants as kind
use Rattle.ct_entry.specs.Keys.{Key, bytes}
use Rattle.ct_entry.specs.Lists.{IsIn}
use Rattle.ct_entry.specs.Changes.{view, AllOf}
use Rattle.q_tree.specs.declared.queries.Relation.{Relation}
use Rattle.q_tree.specs.declared.queries.Relation.TheVariants.{Broader}
use Rattle.th_graph.specs.declared.pairs.TermPair.{TermPair}
use Rattle.th_graph.specs.Pairs.{has_term_pair, stated_pair, same_term_pair}
use Rattle.th_graph.specs.Relating.{is_known, pair_limit}
use Rattle.th_store.specs.Thesauri.{PairSet, Thesauri, pairs_of, with_pair, with_thesaurus}
use Rattle.th_store.specs.Spelling.{ThesauriStand, thesaurus_changes, pair_key, pair_changes, thesaurus_key}
use Rattle.th_store.specs.Rules.{AreThesauri, is_pair, is_term_text, thesaurus_limit}
use Rattle.th_store.specs.Room.{thesaurus_entries}

-- ---- what is stored

-- the kinds of thesauri
abbrev pub is_of_thesauri : Kind → Bool
is_of_thesauri kind.Thesauri = true
is_of_thesauri kind.Relations = true
is_of_thesauri k = false

-- the entries spell one state at most
abbrev pub OneThesauri : Type 0
OneThesauri = (f : Key → Option (List ℕ)) (ts us : Thesauri) → ThesauriStand f ts → ThesauriStand f us → ts ≡ us

-- the entries are well shaped
abbrev pub PairEntriesAreWell : Type 0
PairEntriesAreWell = (f : Key → Option (List ℕ)) (ts : Thesauri) → ThesauriStand f ts → AreThesauri ts → (name : List ℕ) (p : TermPair) (v : List ℕ) → f (pair_key name p) ≡ Some v → (is_pair p ≡ true) × (v ≡ [])

-- and they are those by which the room of a state is counted; those of names have no value
abbrev pub EntriesAreCounted : Type 0
EntriesAreCounted = (f : Key → Option (List ℕ)) (ts : Thesauri) → ThesauriStand f ts → (name : List ℕ) (p : TermPair) (v : List ℕ) → f (pair_key name p) ≡ Some v → IsIn (bytes (pair_key name p), v) (thesaurus_entries ts)

abbrev pub NamesAreCounted : Type 0
NamesAreCounted = (f : Key → Option (List ℕ)) (ts : Thesauri) → ThesauriStand f ts → (name v : List ℕ) → f (thesaurus_key name) ≡ Some v → (v ≡ []) × IsIn (bytes (thesaurus_key name), v) (thesaurus_entries ts)

-- after the changes of a new thesaurus, and of a pair more
abbrev pub CreatedStand : Type 0
CreatedStand = (f : Key → Option (List ℕ)) (ts : Thesauri) (name : List ℕ) → get ts name ≡ None → ThesauriStand f ts → ThesauriStand (view (thesaurus_changes name) f) (with_thesaurus ts name)

abbrev pub RelatedStand : Type 0
RelatedStand = (f : Key → Option (List ℕ)) (ts : Thesauri) (name : List ℕ) (ps : PairSet) (p : TermPair) → get ts name ≡ Some ps → ThesauriStand f ts → ThesauriStand (view (pair_changes name p) f) (with_pair ts name p)

-- changes of entries of other kinds leave them
abbrev pub OthersLeaveThesauri : Type 0
OthersLeaveThesauri = (p : Kind → Bool) (ws : List (Key × Option (List ℕ))) (f : Key → Option (List ℕ)) (ts : Thesauri) → AllOf p ws → ((k : Kind) → is_of_thesauri k ≡ true → p k ≡ false) → ThesauriStand f ts → ThesauriStand (view ws f) ts

-- ---- what the procedures make

-- a pair more is among the pairs, and the others are those that were there
abbrev pub OnePairMore : Type 0
OnePairMore = (ps : PairSet) (p q : TermPair) → has_term_pair q (pairs_of (insert ps p tt)) ≡ (same_term_pair q p || has_term_pair q (pairs_of ps))

-- a new thesaurus, where there is room for one
abbrev pub CreatedStay : Type 0
CreatedStay = (ts : Thesauri) (name : List ℕ) → AreThesauri ts → IsName name → length (entries ts) < thesaurus_limit → AreThesauri (with_thesaurus ts name)

-- a pair of terms that isn't known, where there is room for one
abbrev pub RelatedStay : Type 0
RelatedStay = (ts : Thesauri) (name : List ℕ) (ps : PairSet) (relation : Relation) (a b : List ℕ) → get ts name ≡ Some ps → AreThesauri ts → is_term_text a ≡ true → is_term_text b ≡ true → is_known relation a b (pairs_of ps) ≡ false → length (entries ps) < pair_limit
    → AreThesauri (with_pair ts name (stated_pair relation a b))

-- ---- computed examples

both_kinds : map is_of_thesauri (kind.Thesauri ∷ kind.Relations ∷ kind.Stoplists ∷ []) ≡ true ∷ true ∷ false ∷ []
both_kinds = refl

abbrev dog_below_animal : TermPair
dog_below_animal = stated_pair Broader (codes "dog") (codes "animal")

-- by the law of one pair more, it is there, and one that states the other way round is there only if it was
it_is_there : OnePairMore → (ps : PairSet) → has_term_pair dog_below_animal (pairs_of (insert ps dog_below_animal tt)) ≡ true
it_is_there law ps = law ps dog_below_animal dog_below_animal

not_the_other : OnePairMore → (ps : PairSet) → has_term_pair (stated_pair Broader (codes "animal") (codes "dog")) (pairs_of (insert ps dog_below_animal tt)) ≡ has_term_pair (stated_pair Broader (codes "animal") (codes "dog")) (pairs_of ps)
not_the_other law ps = law ps dog_below_animal (stated_pair Broader (codes "animal") (codes "dog"))
