-- Of the thesauri that are there only those matter which the query names.
use Rattle.std.proofs.Common.{◌≡◌, ℕ, Bool, true, false, List, [], ◌∷◌, ◌++◌, map, refl, ap, ◌∙◌}
use Rattle.std.specs.Prelude.{◌||◌, bytes_eq, filter, Option, Some, None}
use Rattle.std.specs.Bool.{if◌then◌else◌}
use Rattle.std.specs.List.{list_any, flat_map}
use Rattle.std.specs.Option.{option_map}
use Rattle.std.proofs.lemmas.Slice.Eq.{bytes_eq-Decides}
use Rattle.std.proofs.lemmas.List.Folds.{list_any-append}
use Rattle.q_tree.specs.declared.flats.PatternBit.{PatternBit}
use Rattle.q_tree.specs.declared.flats.Slot.{Slot}
use Rattle.q_tree.specs.declared.flats.Slot.TheVariants.{Takes}
use Rattle.q_tree.specs.declared.queries.Leaf.{Leaf}
use Rattle.q_tree.specs.declared.queries.Leaf.TheVariants.{Phrase, Thes}
use Rattle.q_tree.specs.declared.queries.Relation.{Relation}
use Rattle.q_tree.specs.declared.queries.Word.{Word}
use Rattle.q_tree.specs.declared.queries.WordBit.{WordBit}
use Rattle.q_tree.specs.declared.queries.WordBit.TheVariants.{Chars, One, Many}
use Rattle.q_tree.specs.Limits.{has_wildcard}
use Rattle.q_tree.specs.ReducedQueries.{Weight as ReducedWeight, Above as ReducedAbove}
use Rattle.q_tree.specs.Trees.{Tree, Single, Both, Weight, Above, Near, Within, Define}
use Rattle.th_graph.specs.declared.pairs.TermPair.{TermPair}
use Rattle.q_reduce.specs.Faults.{faults, leaf_faults, leaves_faults, operands_faults, operator_faults, place_faults, section_faults, word_faults}
use Rattle.q_reduce.specs.Naming.{leaf_names, leaves_names, names_in}
use Rattle.q_reduce.specs.Reducing.{Context, both_query, define_query, has_phrase, in_order, joined_keys, joined_patterns, kept_operands, key_slot, leaf_phrases, named_place, near_query, operand_phrases, operator_phrases, pattern, pattern_bit, phrases_of_slots, place_slots, reduced, slot_of, term, thesaurus_named, trimmed, within_place, word_keys, word_slots}

abbrev pub NamedThesauri : Type 0
NamedThesauri = List (List ℕ × List TermPair)

-- each of these names finds the same in both lists
abbrev pub FindSame : List (List ℕ) → NamedThesauri → NamedThesauri → Type 0
FindSame names ts us = (n : List ℕ) → list_any (bytes_eq n) names ≡ true → thesaurus_named n ts ≡ thesaurus_named n us

module _ (ts us : NamedThesauri) where
  one_name : (n : List ℕ) → FindSame (n ∷ []) ts us → thesaurus_named n ts ≡ thesaurus_named n us
  one_name n same = same n (ap (λ (b : Bool). b || false) ((bytes_eq-Decides n n).1 refl))

  first_names : (xs ys : List (List ℕ)) → FindSame (xs ++ ys) ts us → FindSame xs ts us
  first_names xs ys same n there = same n (list_any-append (bytes_eq n) xs ys ∙ ap (λ (b : Bool). b || list_any (bytes_eq n) ys) there)

  later_names : (xs ys : List (List ℕ)) → FindSame (xs ++ ys) ts us → FindSame ys ts us
  later_names xs ys same n there = same n (list_any-append (bytes_eq n) xs ys ∙ ap (λ (b : Bool). list_any (bytes_eq n) xs || b) there ∙ or_true (list_any (bytes_eq n) xs))
    where
      or_true : (b : Bool) → (b || true) ≡ true
      or_true true = refl
      or_true false = refl

module _ (x : Context) (us : NamedThesauri) where
  abbrev other : Context
  other = record x { thesauri = us }

  -- ---- words stand for the same, whatever thesauri are there

  same_bit : (bit : WordBit) → pattern_bit x bit ≡ pattern_bit other bit
  same_bit (Chars text) = refl
  same_bit One = refl
  same_bit Many = refl

  same_pattern : (w : Word) → pattern x w ≡ pattern other w
  same_pattern w i = flat_map (λ (bit : WordBit). same_bit bit i) w.bits

  same_slots : (w : Word) → word_slots x w ≡ word_slots other w
  same_slots w i = if has_wildcard w.bits then Takes [] (same_pattern w i ∷ []) ∷ [] else map (key_slot x) (word_keys x w)

  same_patterns : (w : Word) → joined_patterns x w ≡ joined_patterns other w
  same_patterns w i = if has_wildcard w.bits then same_pattern w i ∷ [] else []

  same_place : (ws : List Word) → place_slots x ws ≡ place_slots other ws
  same_place [] = refl
  same_place (w ∷ []) = same_slots w
  same_place (v ∷ w ∷ ws) = λ i. slot_of (in_order (flat_map (joined_keys x) (v ∷ w ∷ ws))) (flat_map (λ (u : Word). same_patterns u i) (v ∷ w ∷ ws)) ∷ []

  same_place_faults : (ws : List Word) → place_faults x ws ≡ place_faults other ws
  same_place_faults [] = refl
  same_place_faults (w ∷ []) = refl
  same_place_faults (v ∷ w ∷ ws) = refl

  -- ---- operators, by what their names find

  same_operator : (o : Option (List TermPair)) (relation : Relation) (level : ℕ) (words : List Word) → operator_phrases x o relation level words ≡ operator_phrases other o relation level words
  same_operator None relation level words = refl
  same_operator (Some ps) relation level words = refl

  same_leaf : (leaf : Leaf) → FindSame (leaf_names leaf) x.thesauri us → leaf_phrases x leaf ≡ leaf_phrases other leaf
  same_leaf (Phrase places) same = λ i. phrases_of_slots (trimmed (flat_map (λ (ws : List Word). same_place ws i) places))
  same_leaf (Thes relation words level thesaurus) same =
      ap (λ (o : Option (List TermPair)). operator_phrases x o relation level words) (one_name x.thesauri us thesaurus same) ∙ same_operator (thesaurus_named thesaurus us) relation level words

  same_leaves : (leaves : List Leaf) → FindSame (leaves_names leaves) x.thesauri us → operand_phrases x leaves ≡ operand_phrases other leaves
  same_leaves [] same = refl
  same_leaves (leaf ∷ leaves) same =
      let first = same_leaf leaf (first_names x.thesauri us (leaf_names leaf) (leaves_names leaves) same) in
      let later = same_leaves leaves (later_names x.thesauri us (leaf_names leaf) (leaves_names leaves) same) in
      λ i. first i ++ later i

  same_operands : (operands : List (List Leaf)) → FindSame (flat_map leaves_names operands) x.thesauri us → map (operand_phrases x) operands ≡ map (operand_phrases other) operands
  same_operands [] same = refl
  same_operands (leaves ∷ operands) same =
      let first = same_leaves leaves (first_names x.thesauri us (leaves_names leaves) (flat_map leaves_names operands) same) in
      let later = same_operands operands (later_names x.thesauri us (leaves_names leaves) (flat_map leaves_names operands) same) in
      λ i. first i ∷ later i

  same_leaf_faults : (leaf : Leaf) → FindSame (leaf_names leaf) x.thesauri us → leaf_faults x leaf ≡ leaf_faults other leaf
  same_leaf_faults (Phrase places) same = λ i. flat_map (λ (ws : List Word). same_place_faults ws i) places
  same_leaf_faults (Thes relation words level thesaurus) same = ap (λ (o : Option (List TermPair)). operator_faults o relation level words thesaurus) (one_name x.thesauri us thesaurus same)

  same_leaves_faults : (leaves : List Leaf) → FindSame (leaves_names leaves) x.thesauri us → leaves_faults x leaves ≡ leaves_faults other leaves
  same_leaves_faults [] same = refl
  same_leaves_faults (leaf ∷ leaves) same =
      let first = same_leaf_faults leaf (first_names x.thesauri us (leaf_names leaf) (leaves_names leaves) same) in
      let later = same_leaves_faults leaves (later_names x.thesauri us (leaf_names leaf) (leaves_names leaves) same) in
      λ i. first i ++ later i

  same_operands_faults : (operands : List (List Leaf)) → FindSame (flat_map leaves_names operands) x.thesauri us → operands_faults x operands ≡ operands_faults other operands
  same_operands_faults [] same = refl
  same_operands_faults (leaves ∷ operands) same =
      let first = same_leaves_faults leaves (first_names x.thesauri us (leaves_names leaves) (flat_map leaves_names operands) same) in
      let later = same_operands_faults operands (later_names x.thesauri us (leaves_names leaves) (flat_map leaves_names operands) same) in
      λ i. first i ++ later i

  -- ---- queries

  -- WHERE EACH NAME OF A QUERY FINDS THE SAME, it is reduced to the same,
  pub same_reduced : (t : Tree) → FindSame (names_in t) x.thesauri us → reduced x t ≡ reduced other t
  same_reduced (Single leaf) same = ap term (same_leaf leaf same)
  same_reduced (Both op a b) same =
      let first = same_reduced a (first_names x.thesauri us (names_in a) (names_in b) same) in
      let later = same_reduced b (later_names x.thesauri us (names_in a) (names_in b) same) in
      λ i. both_query op (first i) (later i)
  same_reduced (Weight tenths a) same = ap (option_map (ReducedWeight tenths)) (same_reduced a same)
  same_reduced (Above n a) same = ap (option_map (ReducedAbove n)) (same_reduced a same)
  same_reduced (Near operands span ordered) same = ap (λ (ps : List (List (List Slot))). near_query span ordered (filter has_phrase ps)) (same_operands operands same)
  same_reduced (Within name a) same = ap (within_place (named_place x.group name)) (same_reduced a same)
  same_reduced (Define leaves sum) same = ap (define_query sum) (same_leaves leaves same)

  -- and it has the same faults.
  pub same_faults : (inside : Bool) (t : Tree) → FindSame (names_in t) x.thesauri us → faults x inside t ≡ faults other inside t
  same_faults inside (Single leaf) same = same_leaf_faults leaf same
  same_faults inside (Both op a b) same =
      let first = same_faults inside a (first_names x.thesauri us (names_in a) (names_in b) same) in
      let later = same_faults inside b (later_names x.thesauri us (names_in a) (names_in b) same) in
      λ i. first i ++ later i
  same_faults inside (Weight tenths a) same = same_faults inside a same
  same_faults inside (Above n a) same = same_faults inside a same
  same_faults inside (Near operands span ordered) same = same_operands_faults operands same
  same_faults inside (Within name a) same = let part = same_faults true a same in λ i. part i ++ section_faults inside name (named_place x.group name)
  same_faults inside (Define leaves sum) same = same_leaves_faults leaves same
