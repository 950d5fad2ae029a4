-- What queries are reduced to is sound.
use Rattle.std.proofs.Common.{◌≡◌, ◌≤◌, ℕ, Bool, true, List, [], ◌∷◌, length, map, refl, sym, arith, subst}
use Rattle.std.specs.Prelude.{filter, nat_le, ◌&&◌, Option, Some, None, Result, Ok, Err, IfOk, IfSome}
use Rattle.std.specs.List.{list_all, flat_map}
use Rattle.std.specs.Option.{option_map}
use Rattle.std.proofs.lemmas.Bool.{and_parts, and_from, le-leb, leb-true}
use Rattle.q_tree.specs.declared.flats.Flat.{Flat}
use Rattle.q_tree.specs.declared.flats.Place.{Place}
use Rattle.q_tree.specs.declared.flats.Slot.{Slot}
use Rattle.q_tree.specs.declared.flats.SumStep.{SumStep}
use Rattle.std.specs.Str.{chars}
use Rattle.q_tree.specs.declared.queries.Relation.{Relation}
use Rattle.q_tree.specs.declared.queries.Word.{Word}
use Rattle.th_graph.specs.declared.pairs.TermPair.{TermPair}
use Rattle.q_tree.specs.declared.queries.Leaf.{Leaf}
use Rattle.q_tree.specs.declared.queries.Leaf.TheVariants.{Phrase, Thes}
use Rattle.q_tree.specs.declared.queries.Op.{Op}
use Rattle.q_tree.specs.declared.queries.Op.TheVariants.{And, Or, Not, Minus}
use Rattle.q_tree.specs.Limits.{leaves_keep_limits, keeps_limits}
use Rattle.q_tree.specs.Soundness.{is_between, is_slot, is_phrase, is_term, is_sum, is_sound}
use Rattle.q_tree.specs.Trees.{Single, Both, Weight, Above, Near, Within, Define}
use Rattle.q_tree.specs.ReducedQueries.{Reduced, Weight as ReducedWeight, Above as ReducedAbove, reduced_of}
use Rattle.q_reduce.specs.declared.faults.ReduceFault.{ReduceFault}
use Rattle.q_reduce.specs.Faults.{Fault}
use Rattle.q_reduce.specs.Results.{Reduces}
use Rattle.q_reduce.specs.Promises.{ReducedIsSound, IsTrimmed}
use Rattle.q_reduce.specs.Reducing.{Context, place_slots, trimmed, phrases_of_slots, operator_phrases, operator_terms, term_phrases, slots_of_term, thesaurus_named, leaf_phrases, operand_phrases, term, right_alone, both_query, has_phrase, near_query, named_place, within_place, define_query, reduced}
use Rattle.q_reduce.proofs.SoundSlots.{all_joined, place_slots_sound, token_slots_sound}
use Rattle.q_reduce.proofs.SoundPlaces.{IsSoundPlace, place_sound}
use Rattle.q_reduce.proofs.TrimmedSlots.{all_trimmed, trimmed_ends}

-- the query is sound, if it isn't nothing
abbrev pub IsSound : Option Reduced → Type 0
IsSound q = IfSome q (λ r. is_sound r ≡ true)

-- ---- phrases

phrases_of_sound : (slots : List Slot) → IsTrimmed slots → list_all is_slot slots ≡ true → list_all is_phrase (phrases_of_slots slots) ≡ true
phrases_of_sound [] ends all = refl
phrases_of_sound (slot ∷ slots) ends all = and_from _ _ (and_from _ _ (and_from _ _ ends.0 ends.1) all) refl

-- the keys of a term are keys, as those of a word are
slots_of_term_sound : (x : Context) (term : List ℕ) → list_all is_slot (slots_of_term x term) ≡ true
slots_of_term_sound x term = token_slots_sound x (chars term)

term_phrases_sound : (x : Context) (term : List ℕ) → list_all is_phrase (term_phrases x term) ≡ true
term_phrases_sound x term =
    let slots = slots_of_term x term in
    phrases_of_sound (trimmed slots) (trimmed_ends slots) (all_trimmed is_slot slots (slots_of_term_sound x term))

operator_sound : (x : Context) (o : Option (List TermPair)) (relation : Relation) (level : ℕ) (words : List Word) → list_all is_phrase (operator_phrases x o relation level words) ≡ true
operator_sound x None relation level words = refl
operator_sound x (Some ps) relation level words = all_joined is_phrase (term_phrases x) (operator_terms ps relation level words) (term_phrases_sound x)

leaf_sound : (x : Context) (leaf : Leaf) → list_all is_phrase (leaf_phrases x leaf) ≡ true
leaf_sound x (Phrase places) =
    let slots = flat_map (place_slots x) places in
    phrases_of_sound (trimmed slots) (trimmed_ends slots) (all_trimmed is_slot slots (all_joined is_slot (place_slots x) places (place_slots_sound x)))
leaf_sound x (Thes relation words level thesaurus) = operator_sound x (thesaurus_named thesaurus x.thesauri) relation level words

phrases_sound : (x : Context) (leaves : List Leaf) → list_all is_phrase (operand_phrases x leaves) ≡ true
phrases_sound x leaves = all_joined is_phrase (leaf_phrases x) leaves (leaf_sound x)

-- phrases of which there are some are a term
term_of : (p : List Slot) (ps : List (List Slot)) → list_all is_phrase (p ∷ ps) ≡ true → is_term (p ∷ ps) ≡ true
term_of p ps all = and_from _ _ (le-leb 1 (length (p ∷ ps)) (omega arith)) all

-- ---- operators

term_sound : (ps : List (List Slot)) → list_all is_phrase ps ≡ true → IsSound (term ps)
term_sound [] all = tt
term_sound (p ∷ ps) all = term_of p ps all

right_sound : (op : Op) (b : Reduced) → is_sound b ≡ true → IsSound (right_alone op b)
right_sound And b is = is
right_sound Or b is = is
right_sound Not b is = tt
right_sound Minus b is = tt

both_sound : (op : Op) (a b : Option Reduced) → IsSound a → IsSound b → IsSound (both_query op a b)
both_sound op None None left right = tt
both_sound op None (Some b) left right = right_sound op b right
both_sound op (Some a) None left right = left
both_sound op (Some a) (Some b) left right = and_from _ _ left right

weight_sound : (tenths : ℕ) (a : Option Reduced) → is_between 1 100 tenths ≡ true → IsSound a → IsSound (option_map (ReducedWeight tenths) a)
weight_sound tenths None within is = tt
weight_sound tenths (Some a) within is = and_from _ _ within is

above_sound : (n : ℕ) (a : Option Reduced) → nat_le n 100 ≡ true → IsSound a → IsSound (option_map (ReducedAbove n) a)
above_sound n None within is = tt
above_sound n (Some a) within is = and_from _ _ within is

within_sound : (place : Option Place) (a : Option Reduced) → IsSoundPlace place → IsSound a → IsSound (within_place place a)
within_sound None a known is = tt
within_sound (Some place) None known is = tt
within_sound (Some place) (Some a) known is = and_from _ _ known is

define_sound : (sum : List SumStep) (ps : List (List Slot)) → is_sum sum ≡ true → list_all is_phrase ps ≡ true → IsSound (define_query sum ps)
define_sound sum [] sums all = tt
define_sound sum (p ∷ ps) sums all = and_from _ _ (term_of p ps all) sums

-- ---- nearness

kept_sound : (x : Context) (ops : List (List Leaf)) → list_all is_term (filter has_phrase (map (operand_phrases x) ops)) ≡ true
kept_sound x [] = refl
kept_sound x (op ∷ ops) = go (operand_phrases x op) (phrases_sound x op) (kept_sound x ops)
  where
    go : (ps : List (List Slot)) → list_all is_phrase ps ≡ true → list_all is_term (filter has_phrase (map (operand_phrases x) ops)) ≡ true → list_all is_term (filter has_phrase (ps ∷ map (operand_phrases x) ops)) ≡ true
    go [] all rest = rest
    go (p ∷ ps) all rest = and_from _ _ (term_of p ps all) rest

kept_few : (x : Context) (ops : List (List Leaf)) → length (filter has_phrase (map (operand_phrases x) ops)) ≤ length ops
kept_few x [] = omega arith
kept_few x (op ∷ ops) = go (operand_phrases x op) (kept_few x ops)
  where
    go : (ps : List (List Slot)) → length (filter has_phrase (map (operand_phrases x) ops)) ≤ length ops → length (filter has_phrase (ps ∷ map (operand_phrases x) ops)) ≤ length (op ∷ ops)
    go [] few = omega (arith, few)
    go (p ∷ ps) few = omega (arith, few)

near_query_sound : (span : ℕ) (ordered : Bool) (terms : List (List (List Slot))) → nat_le span 100 ≡ true → list_all is_term terms ≡ true → length terms ≤ 16 → IsSound (near_query span ordered terms)
near_query_sound span ordered [] near all few = tt
near_query_sound span ordered (o ∷ []) near all few = (and_parts (is_term o) true all).0
near_query_sound span ordered (o ∷ p ∷ os) near all few =
    let count = length (o ∷ p ∷ os) in
    and_from _ _ (and_from _ _ (and_from _ _ (le-leb 2 count (omega arith)) (le-leb count 16 few)) all) near

near_sound : (x : Context) (ops : List (List Leaf)) (span : ℕ) (ordered : Bool) → keeps_limits (Near ops span ordered) ≡ true → IsSound (reduced x (Near ops span ordered))
near_sound x ops span ordered limits =
    let parts = and_parts (is_between 2 16 (length ops) && list_all leaves_keep_limits ops) (nat_le span 100) limits in
    let few = leb-true (length ops) 16 (and_parts _ _ (and_parts (is_between 2 16 (length ops)) (list_all leaves_keep_limits ops) parts.0).0).1 in
    near_query_sound span ordered (filter has_phrase (map (operand_phrases x) ops)) parts.1 (kept_sound x ops) (omega (arith, few, kept_few x ops))

-- ---- queries

pub reduced_is_sound : ReducedIsSound
reduced_is_sound x (Single leaf) limits group = term_sound (leaf_phrases x leaf) (leaf_sound x leaf)
reduced_is_sound x (Both op a b) limits group =
    let parts = and_parts (keeps_limits a) (keeps_limits b) limits in
    both_sound op (reduced x a) (reduced x b) (reduced_is_sound x a parts.0 group) (reduced_is_sound x b parts.1 group)
reduced_is_sound x (Weight tenths a) limits group =
    let parts = and_parts (is_between 1 100 tenths) (keeps_limits a) limits in
    weight_sound tenths (reduced x a) parts.0 (reduced_is_sound x a parts.1 group)
reduced_is_sound x (Above n a) limits group =
    let parts = and_parts (nat_le n 100) (keeps_limits a) limits in
    above_sound n (reduced x a) parts.0 (reduced_is_sound x a parts.1 group)
reduced_is_sound x (Near ops span ordered) limits group = near_sound x ops span ordered limits
reduced_is_sound x (Within name a) limits group = within_sound (named_place x.group name) (reduced x a) (place_sound x.group name group) (reduced_is_sound x a limits group)
reduced_is_sound x (Define leaves sum) limits group = define_sound sum (operand_phrases x leaves) (and_parts (leaves_keep_limits leaves) (is_sum sum) limits).1 (phrases_sound x leaves)

-- ---- answers

found_sound : (found : Option Flat) (q : Option Reduced) → option_map reduced_of found ≡ q → IsSound q → IfSome found (λ f. is_sound (reduced_of f) ≡ true)
found_sound None q is known = tt
found_sound (Some f) q is known = subst IsSound (sym is) known

pub answer_sound : (result : Result (Option Flat) ReduceFault) (fs : List Fault) (q : Option Reduced) → Reduces result fs q → IsSound q → IfOk result (λ found. IfSome found (λ f. is_sound (reduced_of f) ≡ true))
answer_sound (Ok found) fs q is known = found_sound found q is.1 known
answer_sound (Err fault) fs q is known = tt
