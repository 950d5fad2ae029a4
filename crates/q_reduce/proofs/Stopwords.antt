-- Queries of stopwords alone find nothing.
use Rattle.std.proofs.Common.{◌≡◌, ℕ, Bool, true, false, cond, List, [], ◌∷◌, ◌++◌, map, refl, sym, ap, ◌∙◌}
use Rattle.std.specs.Prelude.{not, filter, ◌&&◌, is_none, Option, Some, None}
use Rattle.std.specs.List.{list_all, flat_map}
use Rattle.std.specs.Option.{option_map}
use Rattle.std.proofs.lemmas.Bool.{and_parts, and_from}
use Rattle.std.proofs.lemmas.List.Folds.{list_all-append}
use Rattle.tx_stop.specs.StopKeys.{is_stop}
use Rattle.q_tree.specs.declared.flats.Place.{Place}
use Rattle.q_tree.specs.declared.flats.Slot.{Slot}
use Rattle.q_tree.specs.declared.flats.Slot.TheVariants.{Any, Takes}
use Rattle.th_graph.specs.declared.pairs.TermPair.{TermPair}
use Rattle.q_tree.specs.declared.queries.Leaf.{Leaf}
use Rattle.q_tree.specs.declared.queries.Leaf.TheVariants.{Phrase, Thes}
use Rattle.q_tree.specs.declared.queries.Relation.{Relation}
use Rattle.q_tree.specs.declared.queries.Word.{Word}
use Rattle.q_tree.specs.Limits.{has_wildcard}
use Rattle.q_tree.specs.Soundness.{takes_some}
use Rattle.q_tree.specs.Trees.{Single, Both, Weight, Above, Near, Within, Define}
use Rattle.q_tree.specs.ReducedQueries.{Weight as ReducedWeight, Above as ReducedAbove}
use Rattle.q_reduce.specs.Naming.{leaf_names, leaves_names, names_in}
use Rattle.q_reduce.specs.Promises.{leaf_words, query_words, has_only_stopwords, lacks_thesaurus, PlainStopwordsFindNothing, StopwordsFindNothing}
use Rattle.q_reduce.specs.Reducing.{Context, word_keys, pattern, key_slot, word_slots, joined_keys, joined_patterns, in_order, slot_of, joined_slot, place_slots, front_dropped, end_dropped, phrases_of_slots, leaf_phrases, operator_phrases, thesaurus_named, operand_phrases, term, both_query, has_phrase, kept_operands, near_query, named_place, within_place, define_query, reduced}

-- ---- lists

-- what is joined of lists that are empty is empty
none_joined : {X Y : Type 0} (f : X → List Y) (p : X → Bool) (xs : List X) → ((x : X) → p x ≡ true → f x ≡ []) → list_all p xs ≡ true → flat_map f xs ≡ []
none_joined f p [] each all = refl
none_joined f p (x ∷ xs) each all =
    let parts = and_parts (p x) (list_all p xs) all in
    ap (λ l. l ++ flat_map f xs) (each x parts.0) ∙ none_joined f p xs each parts.1

all_parts : {X : Type 0} (p : X → Bool) (xs ys : List X) → list_all p (xs ++ ys) ≡ true → (list_all p xs ≡ true) × (list_all p ys ≡ true)
all_parts p xs ys all = and_parts (list_all p xs) (list_all p ys) (sym (list_all-append p xs ys) ∙ all)

-- all of the lists that make up a list
each_list : {X Y : Type 0} (p : Y → Bool) (f : X → List Y) (xs : List X) → list_all p (flat_map f xs) ≡ true → list_all (λ x. list_all p (f x)) xs ≡ true
each_list p f [] all = refl
each_list p f (x ∷ xs) all =
    let parts = all_parts p (f x) (flat_map f xs) all in
    and_from _ _ parts.0 (each_list p f xs parts.1)

all_joined_where : {X Y : Type 0} (q : Y → Bool) (f : X → List Y) (p : X → Bool) (xs : List X) → ((x : X) → p x ≡ true → list_all q (f x) ≡ true) → list_all p xs ≡ true → list_all q (flat_map f xs) ≡ true
all_joined_where q f p [] each all = refl
all_joined_where q f p (x ∷ xs) each all =
    let parts = and_parts (p x) (list_all p xs) all in
    list_all-append q (f x) (flat_map f xs) ∙ and_from _ _ (each x parts.0) (all_joined_where q f p xs each parts.1)

-- ---- slots that take any word

abbrev pub is_any : Slot → Bool
is_any slot = not (takes_some slot)

any_keys : (x : Context) (keys : List (List ℕ)) → list_all (is_stop x.stop) keys ≡ true → list_all is_any (map (key_slot x) keys) ≡ true
any_keys x [] all = refl
any_keys x (key ∷ keys) all =
    let parts = and_parts (is_stop x.stop key) (list_all (is_stop x.stop) keys) all in
    and_from _ _ (ap (λ b. is_any (cond b Any (Takes (key ∷ []) []))) parts.0) (any_keys x keys parts.1)

any_word : (x : Context) (w : Word) → has_only_stopwords x w ≡ true → list_all is_any (word_slots x w) ≡ true
any_word x w stop = go (has_wildcard w.bits) stop
  where
    go : (b : Bool) → (not b && list_all (is_stop x.stop) (word_keys x w)) ≡ true → list_all is_any (cond b (Takes [] (pattern x w ∷ []) ∷ []) (map (key_slot x) (word_keys x w))) ≡ true
    go true stop = absurd (cc)
    go false stop = any_keys x (word_keys x w) stop

none_kept : (x : Context) (keys : List (List ℕ)) → list_all (is_stop x.stop) keys ≡ true → filter (λ key. not (is_stop x.stop key)) keys ≡ []
none_kept x [] all = refl
none_kept x (key ∷ keys) all =
    let parts = and_parts (is_stop x.stop key) (list_all (is_stop x.stop) keys) all in
    ap (λ b. cond (not b) (key ∷ filter (λ k. not (is_stop x.stop k)) keys) (filter (λ k. not (is_stop x.stop k)) keys)) parts.0 ∙ none_kept x keys parts.1

no_keys : (x : Context) (w : Word) → has_only_stopwords x w ≡ true → joined_keys x w ≡ []
no_keys x w stop = go (has_wildcard w.bits) stop
  where
    go : (b : Bool) → (not b && list_all (is_stop x.stop) (word_keys x w)) ≡ true → cond b [] (filter (λ key. not (is_stop x.stop key)) (word_keys x w)) ≡ []
    go true stop = refl
    go false stop = none_kept x (word_keys x w) stop

no_patterns : (x : Context) (w : Word) → has_only_stopwords x w ≡ true → joined_patterns x w ≡ []
no_patterns x w stop = go (has_wildcard w.bits) stop
  where
    go : (b : Bool) → (not b && list_all (is_stop x.stop) (word_keys x w)) ≡ true → cond b (pattern x w ∷ []) [] ≡ []
    go true stop = absurd (cc)
    go false stop = refl

any_joined : (x : Context) (ws : List Word) → list_all (has_only_stopwords x) ws ≡ true → joined_slot x ws ≡ Any
any_joined x ws stop =
    ap (λ keys. slot_of (in_order keys) (flat_map (joined_patterns x) ws)) (none_joined (joined_keys x) (has_only_stopwords x) ws (no_keys x) stop)
    ∙ ap (slot_of []) (none_joined (joined_patterns x) (has_only_stopwords x) ws (no_patterns x) stop)

any_place : (x : Context) (ws : List Word) → list_all (has_only_stopwords x) ws ≡ true → list_all is_any (place_slots x ws) ≡ true
any_place x [] stop = refl
any_place x (w ∷ []) stop = any_word x w (and_parts (has_only_stopwords x w) true stop).0
any_place x (w ∷ v ∷ ws) stop = ap (λ slot. list_all is_any (slot ∷ [])) (any_joined x (w ∷ v ∷ ws) stop)

none_left : (slots : List Slot) → list_all is_any slots ≡ true → front_dropped slots ≡ []
none_left [] all = refl
none_left (Any ∷ slots) all = none_left slots all
none_left (Takes keys patterns ∷ slots) all = absurd (cc)

-- ---- phrases

-- whether none of the thesauri of these names is there
abbrev pub lacks_all : Context → List (List ℕ) → Bool
lacks_all x names = list_all (lacks_thesaurus x) names

of_no_thesaurus : (x : Context) (o : Option (List TermPair)) (relation : Relation) (level : ℕ) (words : List Word) → is_none o ≡ true → operator_phrases x o relation level words ≡ []
of_no_thesaurus x None relation level words none = refl
of_no_thesaurus x (Some ps) relation level words none = absurd (cc)

no_phrase : (x : Context) (leaf : Leaf) → lacks_all x (leaf_names leaf) ≡ true → list_all (has_only_stopwords x) (leaf_words leaf) ≡ true → leaf_phrases x leaf ≡ []
no_phrase x (Phrase places) absent stop =
    let each = each_list (has_only_stopwords x) (λ (words : List Word). words) places stop in
    let any = all_joined_where is_any (place_slots x) (list_all (has_only_stopwords x)) places (any_place x) each in
    ap (λ slots. phrases_of_slots (end_dropped slots)) (none_left (flat_map (place_slots x) places) any)
no_phrase x (Thes relation words level thesaurus) absent stop =
    of_no_thesaurus x (thesaurus_named thesaurus x.thesauri) relation level words (and_parts (lacks_thesaurus x thesaurus) true absent).0

no_phrases : (x : Context) (leaves : List Leaf) → lacks_all x (leaves_names leaves) ≡ true → list_all (has_only_stopwords x) (flat_map leaf_words leaves) ≡ true → operand_phrases x leaves ≡ []
no_phrases x [] absent stop = refl
no_phrases x (leaf ∷ leaves) absent stop =
    let a = all_parts (lacks_thesaurus x) (leaf_names leaf) (leaves_names leaves) absent in
    let s = all_parts (has_only_stopwords x) (leaf_words leaf) (flat_map leaf_words leaves) stop in
    ap (λ ps. ps ++ operand_phrases x leaves) (no_phrase x leaf a.0 s.0) ∙ no_phrases x leaves a.1 s.1

no_operand : (x : Context) (ops : List (List Leaf)) → lacks_all x (flat_map leaves_names ops) ≡ true → list_all (has_only_stopwords x) (flat_map (flat_map leaf_words) ops) ≡ true → kept_operands x ops ≡ []
no_operand x [] absent stop = refl
no_operand x (op ∷ ops) absent stop =
    let a = all_parts (lacks_thesaurus x) (leaves_names op) (flat_map leaves_names ops) absent in
    let s = all_parts (has_only_stopwords x) (flat_map leaf_words op) (flat_map (flat_map leaf_words) ops) stop in
    ap (λ ps. filter has_phrase (ps ∷ map (operand_phrases x) ops)) (no_phrases x op a.0 s.0) ∙ no_operand x ops a.1 s.1

-- ---- queries

within_none : (place : Option Place) → within_place place None ≡ None
within_none None = refl
within_none (Some place) = refl

pub stopwords_find_nothing : StopwordsFindNothing
stopwords_find_nothing x (Single leaf) absent stop = ap term (no_phrase x leaf absent stop)
stopwords_find_nothing x (Both op a b) absent stop =
    let l = all_parts (lacks_thesaurus x) (names_in a) (names_in b) absent in
    let s = all_parts (has_only_stopwords x) (query_words a) (query_words b) stop in
    ap (λ q. both_query op q (reduced x b)) (stopwords_find_nothing x a l.0 s.0) ∙ ap (both_query op None) (stopwords_find_nothing x b l.1 s.1)
stopwords_find_nothing x (Weight tenths a) absent stop = ap (option_map (ReducedWeight tenths)) (stopwords_find_nothing x a absent stop)
stopwords_find_nothing x (Above n a) absent stop = ap (option_map (ReducedAbove n)) (stopwords_find_nothing x a absent stop)
stopwords_find_nothing x (Near ops span ordered) absent stop = ap (near_query span ordered) (no_operand x ops absent stop)
stopwords_find_nothing x (Within name a) absent stop = ap (within_place (named_place x.group name)) (stopwords_find_nothing x a absent stop) ∙ within_none (named_place x.group name)
stopwords_find_nothing x (Define leaves sum) absent stop = ap (define_query sum) (no_phrases x leaves absent stop)

pub plain_stopwords_find_nothing : PlainStopwordsFindNothing
plain_stopwords_find_nothing x t plain stop = stopwords_find_nothing x t (ap (lacks_all x) plain) stop
