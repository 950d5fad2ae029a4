-- What the laws of reduction say.
use Rattle.std.specs.Prelude.{None, ℕ, ◌≡◌, Bool, true, false, not, ◌&&◌, is_none, List, [], ◌∷◌, ◌++◌, map, IfSome, codes, refl}
use Rattle.std.specs.List.{list_all, list_any, flat_map}
use lib.ListN.{replicate}
use Rattle.tx_tags.specs.Groups.{is_group}
use Rattle.tx_stop.specs.StopKeys.{is_stop}
use Rattle.q_tree.specs.declared.flats.Slot.{Slot}
use Rattle.q_tree.specs.declared.flats.Slot.TheVariants.{Any}
use Rattle.th_graph.specs.declared.pairs.TermPair.{TermPair}
use Rattle.q_tree.specs.declared.queries.Op.{Op}
use Rattle.q_tree.specs.declared.queries.Word.{Word}
use Rattle.q_tree.specs.declared.queries.Leaf.{Leaf}
use Rattle.q_tree.specs.declared.queries.Leaf.TheVariants.{Phrase, Thes}
use Rattle.q_tree.specs.Limits.{has_wildcard, keeps_limits}
use Rattle.q_tree.specs.Slots.{has_key}
use Rattle.q_tree.specs.Soundness.{slot_keys_rise, takes_some, ends_well, is_sound}
use Rattle.q_tree.specs.Trees.{Tree, Single, Both, Weight, Above, Near, Within, Define}
use Rattle.q_reduce.specs.Naming.{names_in}
use Rattle.q_reduce.specs.Reducing.{Context, word_keys, joined_keys, in_order, thesaurus_named, trimmed, reduced}

-- What a query that keeps the limits is reduced to is sound.
abbrev pub ReducedIsSound : Type 0
ReducedIsSound = (x : Context) (t : Tree) → keeps_limits t ≡ true → is_group x.group ≡ true → IfSome (reduced x t) (λ q. is_sound q ≡ true)

-- the keys of the slot of words that EQUIV joins
abbrev pub slot_keys : Context → List Word → List (List ℕ)
slot_keys x ws = in_order (flat_map (joined_keys x) ws)

-- whether the word has the key and is no wildcard word
abbrev pub has_the_key : Context → List ℕ → Word → Bool
has_the_key x key w = not (has_wildcard w.bits) && has_key (word_keys x w) key

-- The slot has a key exactly where one of the words has it and it is no stopword,
abbrev pub JoinedKeysAreThoseOfWords : Type 0
JoinedKeysAreThoseOfWords = (x : Context) (ws : List Word) (key : List ℕ) → has_key (slot_keys x ws) key ≡ (not (is_stop x.stop key) && list_any (has_the_key x key) ws)

-- and its keys rise, each once.
abbrev pub JoinedKeysRise : Type 0
JoinedKeysRise = (x : Context) (ws : List Word) → slot_keys_rise (slot_keys x ws) ≡ true

-- From slots nothing is dropped but Any, at the front and at the end.
abbrev pub DropsOnlyAny : List Slot → Type 0
DropsOnlyAny slots = (n m : ℕ) × (slots ≡ replicate n Any ++ trimmed slots ++ replicate m Any)

abbrev pub OnlyAnyIsDropped : Type 0
OnlyAnyIsDropped = (slots : List Slot) → DropsOnlyAny slots

-- the first slot isn't Any, nor the last, if there are slots
abbrev pub IsTrimmed : List Slot → Type 0
IsTrimmed [] = Unit {0}
IsTrimmed (slot ∷ slots) = (takes_some slot ≡ true) × (ends_well (slot ∷ slots) ≡ true)

-- What is left neither begins nor ends with Any.
abbrev pub NoAnyAtEnds : Type 0
NoAnyAtEnds = (slots : List Slot) → IsTrimmed (trimmed slots)

-- ---- stopwords

-- the words of a query
abbrev pub leaf_words : Leaf → List Word
leaf_words (Phrase places) = flat_map (λ (words : List Word). words) places
leaf_words (Thes relation words level thesaurus) = words

abbrev pub query_words : Tree → List Word
query_words (Single leaf) = leaf_words leaf
query_words (Both op a b) = query_words a ++ query_words b
query_words (Weight tenths a) = query_words a
query_words (Above n a) = query_words a
query_words (Near operands span ordered) = flat_map (flat_map leaf_words) operands
query_words (Within name a) = query_words a
query_words (Define leaves sum) = flat_map leaf_words leaves

-- whether all tokens of the word are stopwords
abbrev pub has_only_stopwords : Context → Word → Bool
has_only_stopwords x w = not (has_wildcard w.bits) && list_all (is_stop x.stop) (word_keys x w)

-- whether there is no thesaurus of the name
abbrev pub lacks_thesaurus : Context → List ℕ → Bool
lacks_thesaurus x name = is_none (thesaurus_named name x.thesauri)

-- Where none of the thesauri that it names is there, a query of stopwords alone finds nothing.
abbrev pub StopwordsFindNothing : Type 0
StopwordsFindNothing = (x : Context) (t : Tree) → list_all (lacks_thesaurus x) (names_in t) ≡ true → list_all (has_only_stopwords x) (query_words t) ≡ true → reduced x t ≡ None

-- One without operators of thesauri finds nothing, whatever thesauri are there.
abbrev pub PlainStopwordsFindNothing : Type 0
PlainStopwordsFindNothing = (x : Context) (t : Tree) → names_in t ≡ [] → list_all (has_only_stopwords x) (query_words t) ≡ true → reduced x t ≡ None

-- ---- computed examples

-- Any alone is dropped once
any_alone : DropsOnlyAny (Any ∷ [])
any_alone = (1, 0, refl)

not_trimmed : (slot : Slot) → IsTrimmed (Any ∷ slot ∷ []) → false ≡ true
not_trimmed slot is = is.0

words_of_places : (u v w : Word) → leaf_words (Phrase ((u ∷ v ∷ []) ∷ (w ∷ []) ∷ [])) ≡ u ∷ v ∷ w ∷ []
words_of_places u v w = refl

-- a query of two phrases names none, so nothing is asked of the thesauri that are there
two_phrases_name_none : (x : Context) (op : Op) (places more : List (List Word)) → list_all (lacks_thesaurus x) (names_in (Both op (Single (Phrase places)) (Single (Phrase more)))) ≡ true
two_phrases_name_none x op places more = refl

-- where `a` is there, `b` may be named, and `a` not
another_is_there : (x : Context) (ps : List TermPair) → map (lacks_thesaurus (record x { thesauri = (codes "a", ps) ∷ [] })) (codes "a" ∷ codes "b" ∷ []) ≡ false ∷ true ∷ []
another_is_there x ps = refl
