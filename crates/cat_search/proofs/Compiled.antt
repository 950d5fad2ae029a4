-- Walks for the slots, phrases and terms of a query.
use Rattle.std.proofs.Common.{ℕ, ℤ, ◌≡◌, ◌≤◌, ◌<◌, ◌-◌, inl, inr, nat_le, Bool, true, false, not, ◌&&◌, ◌||◌, List, [], ◌∷◌, length, take, drop, get_or, bytes_eq, refl, sym, ap, subst, ◌∙◌, arith}
use Rattle.std.specs.List.{list_any, list_all}
use Rattle.std.specs.Str.{IsUtf8}
use Rattle.std.proofs.lemmas.Bool.{and_parts, or_cases, or_left, or_right}
use Rattle.std.proofs.lemmas.List.{take_all}
use Rattle.std.proofs.lemmas.Slice.Eq.{bytes_eq-Decides}
use Rattle.ct_base.specs.laws.Bools.{same_tests, or_false, and_assoc}
use Rattle.ct_keep.specs.Content.{Content}
use Rattle.ct_entry.specs.Keys.{same_list, counted_bytes, IsRow, IsToken}
use Rattle.ct_entry.specs.Lists.{EachIs}
use Rattle.ct_entry.specs.Each.{is_any_of}
use Rattle.ct_entry.specs.laws.Keys.{list_from_same, list_same}
use Rattle.q_tree.specs.declared.flats.Slot.{Slot}
use Rattle.q_tree.specs.declared.flats.Slot.TheVariants.{Any, Takes}
use Rattle.q_tree.specs.Slots.{takes}
use Rattle.q_tree.specs.declared.flats.Flat.{Flat}
use Rattle.q_tree.specs.declared.queries.Op.{Op}
use Rattle.q_tree.specs.declared.queries.Op.TheVariants.{Or, And, Not}
use Rattle.q_tree.specs.Soundness.{is_slot, takes_some, ends_well, is_phrase, is_term, is_sound}
use Rattle.q_tree.specs.ReducedQueries.{Reduced, Both as QueryBoth, reduced_of}
use Rattle.cat_walk.specs.Places.{has_place, is_listed}
use Rattle.cat_walk.specs.Walks.{AddsStops, Route, Word, Places, Both, StopsAlike, Without, stops_at}
use Rattle.cat_walk.specs.Gathering.{AddsPlaces, ArePlacesOf, HasWordAt}
use Rattle.cat_walk.specs.laws.Listed.{in_listed, listed_in}
use Rattle.cat_search.specs.Queries.{is_boolean}
use Rattle.cat_search.specs.Words.{all_taken, may_take, phrase_may, may_meet}
use Rattle.cat_search.specs.Walking.{GathersRows, StopsWhere, StopsSoFar, JoinsTest, JoinsSlot, IsPlaceOf, IsWalkFor}
use Rattle.cat_search.proofs.Bools.{and_true}

-- ---- slots

-- the one key of a slot
same_as_eq : (key word : List ℕ) → same_list key word ≡ ((bytes_eq key word || false) || false)
same_as_eq key word =
    same_tests (same_list key word) (bytes_eq key word)
    (λ h. (bytes_eq-Decides key word).1 (list_from_same key word h))
    (λ h. subst (λ (w : List ℕ). same_list key w ≡ true) ((bytes_eq-Decides key word).0 h) (list_same key))
    ∙ sym (or_false (bytes_eq key word))
    ∙ sym (or_false (bytes_eq key word || false))

any_key : (key : List ℕ) (words : List (List ℕ)) → is_any_of key words ≡ list_any (takes (Takes (key ∷ []) [])) words
any_key key [] = refl
any_key key (w ∷ ws) = ap (λ (t : Bool). t || is_any_of key ws) (same_as_eq key w) ∙ ap (λ (t : Bool). ((bytes_eq key w || false) || false) || t) (any_key key ws)

-- one word of a list that passes a test
record IsWord (test : List ℕ → Bool) (words : List (List ℕ)) : Type 0 where
  word : List ℕ
  passes : test word ≡ true
  among : is_any_of word words ≡ true
  token : IsToken word
  text : IsUtf8 word

some_word : (test : List ℕ → Bool) (words : List (List ℕ)) → EachIs IsToken words → EachIs IsUtf8 words → list_any test words ≡ true → IsWord test words
some_word test [] are texts h = cc
some_word test (w ∷ ws) are texts h = go (test w) refl h (some_word test ws are.1 texts.1)
  where
    go : (b : Bool) → test w ≡ b → (b || list_any test ws) ≡ true → (list_any test ws ≡ true → IsWord test ws) → IsWord test (w ∷ ws)
    go true is h later = record { word = w; passes = is; among = ap (λ (t : Bool). t || is_any_of w ws) (list_same w); token = are.0; text = texts.0 }
    go false is h later = let rest = later h in record { word = rest.word; passes = rest.passes; among = or_right (same_list rest.word w) (is_any_of rest.word ws) rest.among; token = rest.token; text = rest.text }

among_passes : (test : List ℕ → Bool) (word : List ℕ) (words : List (List ℕ)) → test word ≡ true → is_any_of word words ≡ true → list_any test words ≡ true
among_passes test word [] pass h = h
among_passes test word (w ∷ ws) pass h = elim (or_cases (same_list word w) (is_any_of word ws) h) [
  | inl here ↦ ap (λ (t : Bool). t || list_any test ws) (ap test (sym (list_from_same word w here)) ∙ pass)
  | inr later ↦ or_right (test w) (list_any test ws) (among_passes test word ws pass later)
]

pub word_walk : (m : Content) (stem key : List ℕ) (slot : Slot) (route : Route) → slot ≡ Takes (key ∷ []) [] → route ≡ Word (counted_bytes key) → IsWalkFor m stem (λ words. may_take words slot) route
word_walk m stem key slot route is walk place_of words are =
    subst (λ (s : Slot). StopsWhere (has_place m stem) place_of words (λ ws. may_take ws s) route) (sym is)
    (subst (StopsWhere (has_place m stem) place_of words (λ ws. may_take ws (Takes (key ∷ []) []))) (sym walk) (record {
      rows = λ r row. are.rows r row key ∙ any_key key (words r);
      only = λ place h. are.only key place h;
    }))

pub places_walk : (m : Content) (stem : List ℕ) (slot : Slot) (places : List (List ℕ)) (route : Route) → takes_some slot ≡ true → ArePlacesOf m stem slot places → route ≡ Places places
    → IsWalkFor m stem (λ words. may_take words slot) route
places_walk m stem Any places route some taken walk place_of words are = cc
places_walk m stem (Takes keys patterns) places route some taken walk place_of words are =
    subst (StopsWhere (has_place m stem) place_of words (λ ws. may_take ws slot)) (sym walk) (record {
      rows = λ r row. same_tests (is_listed places (place_of r)) (list_any (takes slot) (words r)) (from r row) (to r row);
      only = λ place h. let w = (taken place).0 h in are.only w.word place w.at;
    })
  where
    slot : Slot
    slot = Takes keys patterns

    from : (r : ℤ) → IsRow r → is_listed places (place_of r) ≡ true → list_any (takes slot) (words r) ≡ true
    from r row h = let w = (taken (place_of r)).0 h in among_passes (takes slot) w.word (words r) w.takes (sym (are.rows r row w.word) ∙ w.at)

    to : (r : ℤ) → IsRow r → list_any (takes slot) (words r) ≡ true → is_listed places (place_of r) ≡ true
    to r row h =
        let w = some_word (takes slot) (words r) (are.tokens r row) (are.texts r row) h in
        (taken (place_of r)).1 (record { some = are.some r; word = w.word; token = w.token; text = w.text; takes = w.passes; at = are.rows r row w.word ∙ w.among })

-- ---- joined walks

module _ (m : Content) (stem : List ℕ) where
  pub any_joins : (route : Route) → JoinsSlot m stem Any route route
  any_joins route place_of words are = record { rows = λ r row. sym (and_true (stops_at (has_place m stem) route (place_of r))); only = λ place h. inl h }

  pub slot_joins : (slot : Slot) (old other new : Route) → IsWalkFor m stem (λ words. may_take words slot) other → new ≡ Both old other → JoinsSlot m stem slot old new
  slot_joins slot old other new walk is place_of words are =
      let w = walk place_of words are in
      subst (JoinsTest (◌&&◌) (has_place m stem) place_of words (λ ws. may_take ws slot) old) (sym is) (record {
        rows = λ r row. ap (λ (t : Bool). stops_at (has_place m stem) old (place_of r) && t) (w.rows r row);
        only = λ place h. inl (and_parts (stops_at (has_place m stem) old place) (stops_at (has_place m stem) other place) h).0;
      })

or_assoc : (a b c : Bool) → (a || (b || c)) ≡ ((a || b) || c)
or_assoc true b c = refl
or_assoc false b c = refl

module _ (join : Bool → Bool → Bool) (assoc : (a b c : Bool) → join a (join b c) ≡ join (join a b) c) (has : List ℕ → List ℕ → Bool) (place_of : ℤ → List ℕ) (words : ℤ → List (List ℕ)) where
  -- the first test of those to be joined
  pub joined_begins : (test more all : List (List ℕ) → Bool) (route : Route) → ((ws : List (List ℕ)) → join (test ws) (more ws) ≡ all ws) → StopsWhere has place_of words test route → StopsSoFar join has place_of words more all route
  joined_begins test more all route parts stops = record {
    rows = λ r row. ap (λ (t : Bool). join t (more (words r))) (stops.rows r row) ∙ parts (words r);
    only = stops.only;
  }

  -- the next one
  pub joined_on : (test more later all : List (List ℕ) → Bool) (old new : Route) → ((ws : List (List ℕ)) → join (test ws) (later ws) ≡ more ws) → StopsSoFar join has place_of words more all old → JoinsTest join has place_of words test old new
      → StopsSoFar join has place_of words later all new
  joined_on test more later all old new parts so_far joins = record {
    rows = λ r row.
        ap (λ (t : Bool). join t (later (words r))) (joins.rows r row)
        ∙ sym (assoc (stops_at has old (place_of r)) (test (words r)) (later (words r)))
        ∙ ap (join (stops_at has old (place_of r))) (parts (words r))
        ∙ so_far.rows r row;
    only = λ place h. elim (joins.only place h) [ inl before ↦ so_far.only place before | inr part ↦ part ];
  }

  -- none is left
  pub joined_ends : (more all : List (List ℕ) → Bool) (route : Route) → ((a : Bool) (ws : List (List ℕ)) → join a (more ws) ≡ a) → StopsSoFar join has place_of words more all route → StopsWhere has place_of words all route
  joined_ends more all route none so_far = record { rows = λ r row. sym (none (stops_at has route (place_of r)) (words r)) ∙ so_far.rows r row; only = so_far.only }

-- ---- the slots of a phrase, and the phrases of a term

-- a phrase is its first slot and those behind it, as a pattern has them
pub with_first : (phrase : List Slot) (first : Slot) → 1 ≤ length phrase → first ≡ get_or phrase 0 first → phrase ≡ first ∷ take (length phrase - 1) (drop 1 phrase)
with_first [] first some is = absurd (omega (arith, some))
with_first (slot ∷ later) first some is =
    let whole : take (length (slot ∷ later) - 1) later ≡ later = take_all (length (slot ∷ later) - 1) later (omega arith) in
    ap (λ (s : Slot). s ∷ later) (sym is) ∙ ap (λ (l : List Slot). first ∷ l) (sym whole)

-- the only one of a list, as a pattern has it
pub only_one : {X : Type 0} (xs : List X) (x : X) → 1 ≤ length xs → length xs ≤ 1 → x ≡ get_or xs 0 x → xs ≡ x ∷ []
only_one [] x some few is = absurd (omega (arith, some))
only_one {X = X} (y ∷ []) x some few is = ap (λ (z : X). z ∷ []) (sym is)
only_one (y ∷ z ∷ xs) x some few is = absurd (omega (arith, few))

pub later_slots : (first : Slot) (later : List Slot) → is_phrase (first ∷ later) ≡ true → list_all is_slot later ≡ true
later_slots first later sound =
    let all = (and_parts (takes_some first && ends_well (first ∷ later)) (list_all is_slot (first ∷ later)) sound).1 in
    (and_parts (is_slot first) (list_all is_slot later) all).1

module _ (has : List ℕ → List ℕ → Bool) (place_of : ℤ → List ℕ) (words : ℤ → List (List ℕ)) where
  pub phrase_begins : (first : Slot) (later rest phrase : List Slot) (route : Route) → phrase ≡ first ∷ later → rest ≡ take 15 later → StopsWhere has place_of words (λ ws. may_take ws first) route
      → StopsSoFar (◌&&◌) has place_of words (λ ws. all_taken ws rest) (λ ws. phrase_may ws phrase) route
  phrase_begins first later rest phrase route is first_are stops =
      subst (λ (l : List Slot). StopsSoFar (◌&&◌) has place_of words (λ ws. all_taken ws rest) (λ ws. phrase_may ws l) route) (sym is)
      (subst (λ (l : List Slot). StopsSoFar (◌&&◌) has place_of words (λ ws. all_taken ws l) (λ ws. phrase_may ws (first ∷ later)) route) (sym first_are)
      (joined_begins (◌&&◌) and_assoc has place_of words (λ ws. may_take ws first) (λ ws. all_taken ws (take 15 later)) (λ ws. phrase_may ws (first ∷ later)) route (λ ws. refl) stops))

  pub phrase_on : (slot : Slot) (rest others phrase : List Slot) (old new : Route) → rest ≡ slot ∷ others → StopsSoFar (◌&&◌) has place_of words (λ ws. all_taken ws rest) (λ ws. phrase_may ws phrase) old
      → JoinsTest (◌&&◌) has place_of words (λ ws. may_take ws slot) old new → StopsSoFar (◌&&◌) has place_of words (λ ws. all_taken ws others) (λ ws. phrase_may ws phrase) new
  phrase_on slot rest others phrase old new is so_far joins =
      joined_on (◌&&◌) and_assoc has place_of words (λ ws. may_take ws slot) (λ ws. all_taken ws rest) (λ ws. all_taken ws others) (λ ws. phrase_may ws phrase) old new (λ ws. sym (ap (all_taken ws) is)) so_far joins

  pub phrase_ends : (rest phrase : List Slot) (route : Route) → rest ≡ [] → StopsSoFar (◌&&◌) has place_of words (λ ws. all_taken ws rest) (λ ws. phrase_may ws phrase) route
      → StopsWhere has place_of words (λ ws. phrase_may ws phrase) route
  phrase_ends rest phrase route none so_far =
      joined_ends (◌&&◌) and_assoc has place_of words (λ ws. all_taken ws rest) (λ ws. phrase_may ws phrase) route (λ a ws. ap (λ (l : List Slot). a && all_taken ws l) none ∙ and_true a) so_far

-- what a sound phrase begins with, and what is behind it
pub record IsPhraseOf (first : Slot) (rest : List Slot) : Type 0 where
  pub some : takes_some first ≡ true
  pub slot : is_slot first ≡ true
  pub slots : list_all is_slot rest ≡ true

pub phrase_parts : (first : Slot) (rest phrase : List Slot) → phrase ≡ first ∷ rest → is_phrase phrase ≡ true → IsPhraseOf first rest
phrase_parts first rest phrase is sound =
    let a = and_parts (takes_some first && ends_well (first ∷ rest)) (list_all is_slot (first ∷ rest)) (sym (ap is_phrase is) ∙ sound) in
    let b = and_parts (takes_some first) (ends_well (first ∷ rest)) a.0 in
    let d = and_parts (is_slot first) (list_all is_slot rest) a.1 in
    record { some = b.0; slot = d.0; slots = d.1 }

pub all_parts : {X : Type 0} (test : X → Bool) (first : X) (rest all : List X) → all ≡ first ∷ rest → list_all test all ≡ true → (test first ≡ true) × (list_all test rest ≡ true)
all_parts test first rest all is pass = and_parts (test first) (list_all test rest) (sym (ap (list_all test) is) ∙ pass)

pub term_parts : (phrases : List (List Slot)) → is_term phrases ≡ true → list_all is_phrase phrases ≡ true
term_parts phrases sound = (and_parts (nat_le 1 (length phrases)) (list_all is_phrase phrases) sound).1

-- ---- places gathered one after another

module _ (m : Content) (stem : List ℕ) where
  pub adds_as : (f g : List (List ℕ) → Bool) (old new : List (List ℕ)) → ((ws : List (List ℕ)) → g ws ≡ f ws) → GathersRows m stem f old new → GathersRows m stem g old new
  adds_as f g old new same adds place_of words are =
      let a = adds place_of words are in
      record { rows = λ r row. a.rows r row ∙ ap (λ (t : Bool). is_listed old (place_of r) || t) (sym (same (words r))); only = a.only }

  pub adds_none : (ps : List (List ℕ)) → GathersRows m stem (λ ws. false) ps ps
  adds_none ps place_of words are = record { rows = λ r row. sym (or_false (is_listed ps (place_of r))); only = λ place h. inl h }

  pub adds_then : (f g : List (List ℕ) → Bool) (old mid new : List (List ℕ)) → GathersRows m stem f old mid → GathersRows m stem g mid new → GathersRows m stem (λ ws. f ws || g ws) old new
  adds_then f g old mid new first second place_of words are =
      let a = first place_of words are in
      let b = second place_of words are in
      record {
        rows = λ r row. b.rows r row ∙ ap (λ (t : Bool). t || g (words r)) (a.rows r row) ∙ sym (or_assoc (is_listed old (place_of r)) (f (words r)) (g (words r)));
        only = λ place h. elim (b.only place h) [ inl before ↦ a.only place before | inr row ↦ inr row ];
      }

  -- of one slot
  pub slot_adds : (slot : Slot) (old new : List (List ℕ)) → takes_some slot ≡ true → AddsPlaces m stem (λ word. takes slot word) old new → GathersRows m stem (λ ws. may_take ws slot) old new
  slot_adds Any old new some adds place_of words are = cc
  slot_adds (Takes keys patterns) old new some adds place_of words are = record {
    rows = λ r row. same_tests (is_listed new (place_of r)) (is_listed old (place_of r) || list_any (takes slot) (words r)) (from r row) (to r row);
    only = λ place h. elim ((adds.each place).0 (in_listed new place h)) [ inl before ↦ inl (listed_in old place before) | inr w ↦ inr (are.only w.word place w.at) ];
  }
    where
      slot : Slot
      slot = Takes keys patterns

      from : (r : ℤ) → IsRow r → is_listed new (place_of r) ≡ true → (is_listed old (place_of r) || list_any (takes slot) (words r)) ≡ true
      from r row h = elim ((adds.each (place_of r)).0 (in_listed new (place_of r) h)) [
        | inl before ↦ or_left (is_listed old (place_of r)) (list_any (takes slot) (words r)) (listed_in old (place_of r) before)
        | inr w ↦
            or_right (is_listed old (place_of r)) (list_any (takes slot) (words r)) (among_passes (takes slot) w.word (words r) w.takes (sym (are.rows r row w.word) ∙ w.at))
      ]

      of_word : (r : ℤ) → IsRow r → list_any (takes slot) (words r) ≡ true → HasWordAt m stem (takes slot) (place_of r)
      of_word r row h =
          let w = some_word (takes slot) (words r) (are.tokens r row) (are.texts r row) h in
          record { some = are.some r; word = w.word; token = w.token; text = w.text; takes = w.passes; at = are.rows r row w.word ∙ w.among }

      to : (r : ℤ) → IsRow r → (is_listed old (place_of r) || list_any (takes slot) (words r)) ≡ true → is_listed new (place_of r) ≡ true
      to r row h = elim (or_cases (is_listed old (place_of r)) (list_any (takes slot) (words r)) h) [
        | inl before ↦ listed_in new (place_of r) ((adds.each (place_of r)).1 (inl (in_listed old (place_of r) before)))
        | inr passes ↦ listed_in new (place_of r) ((adds.each (place_of r)).1 (inr (of_word r row passes)))
      ]

  -- a query is what it is equal to
  pub gathers_as : (q p : Reduced) (old new : List (List ℕ)) → q ≡ p → GathersRows m stem (may_meet p) old new → GathersRows m stem (may_meet q) old new
  gathers_as q p old new is adds = subst (λ (f : Reduced). GathersRows m stem (may_meet f) old new) (sym is) adds

  -- of a phrase that has no other slot
  pub single_adds : (slot : Slot) (phrase : List Slot) (old new : List (List ℕ)) → phrase ≡ slot ∷ [] → is_phrase phrase ≡ true → AddsPlaces m stem (λ word. takes slot word) old new
      → GathersRows m stem (λ ws. phrase_may ws phrase) old new
  single_adds slot phrase old new is sound adds =
      adds_as (λ ws. may_take ws slot) (λ ws. phrase_may ws phrase) old new (λ ws. ap (phrase_may ws) is ∙ and_true (may_take ws slot))
      (slot_adds slot old new (phrase_parts slot [] phrase is sound).some adds)

  -- of a walk
  pub stops_add : (test : List (List ℕ) → Bool) (route : Route) (old new : List (List ℕ)) → IsWalkFor m stem test route → AddsStops (has_place m stem) route old new → GathersRows m stem test old new
  stops_add test route old new walk adds place_of words are =
      let w = walk place_of words are in
      record {
        rows = λ r row. adds.each (place_of r) ∙ ap (λ (t : Bool). is_listed old (place_of r) || t) (w.rows r row);
        only = λ place h. elim (or_cases (is_listed old place) (stops_at (has_place m stem) route place) (sym (adds.each place) ∙ h)) [ inl before ↦ inl before | inr here ↦ inr (w.only place here) ];
      }

  -- of the phrases of a term
  pub phrases_end : (rest : List (List Slot)) (ps : List (List ℕ)) → length rest < 1 → GathersRows m stem (λ ws. list_any (phrase_may ws) rest) ps ps
  phrases_end [] ps few = adds_none ps
  phrases_end (p ∷ rest) ps few = absurd (omega (arith, few))

  pub phrases_on : (phrase : List Slot) (rest others : List (List Slot)) (now mid new : List (List ℕ)) → rest ≡ phrase ∷ others → GathersRows m stem (λ ws. phrase_may ws phrase) now mid
      → GathersRows m stem (λ ws. list_any (phrase_may ws) others) mid new → GathersRows m stem (λ ws. list_any (phrase_may ws) rest) now new
  phrases_on phrase rest others now mid new is first second =
      adds_as (λ ws. phrase_may ws phrase || list_any (phrase_may ws) others) (λ ws. list_any (phrase_may ws) rest) now new (λ ws. ap (list_any (phrase_may ws)) is)
      (adds_then (λ ws. phrase_may ws phrase) (λ ws. list_any (phrase_may ws) others) now mid new first second)

  -- a term of one phrase
  pub single_walk : (phrase : List Slot) (phrases : List (List Slot)) (route : Route) → phrases ≡ phrase ∷ [] → IsWalkFor m stem (λ ws. phrase_may ws phrase) route → IsWalkFor m stem (λ ws. list_any (phrase_may ws) phrases) route
  single_walk phrase phrases route is walk place_of words are =
      let w = walk place_of words are in
      record { rows = λ r row. w.rows r row ∙ sym (ap (list_any (phrase_may (words r))) is ∙ or_false (phrase_may (words r) phrase)); only = w.only }

  -- all that was gathered, as a walk
  pub gathered_walk : (test : List (List ℕ) → Bool) (first gathered : List (List ℕ)) (route : Route) → first ≡ [] → GathersRows m stem test first gathered → StopsAlike (has_place m stem) (Places gathered) route → IsWalkFor m stem test route
  gathered_walk test first gathered route none adds alike place_of words are =
      let a = subst (λ (ps : List (List ℕ)). JoinsTest (◌||◌) (has_place m stem) place_of words test (Places ps) (Places gathered)) none (adds place_of words are) in
      record {
        rows = λ r row. alike.at (place_of r) ∙ a.rows r row;
        only = λ place h. elim (a.only place (sym (alike.at place) ∙ h)) [ inl before ↦ no_way place before | inr row ↦ row ];
      }
    where
      no_way : (place : List ℕ) → false ≡ true → IsPlaceOf place_of place
      no_way place e = cc

-- ---- the arms of a query

pub sound_parts : (op : Op) (q a b : Reduced) → q ≡ QueryBoth op a b → is_sound q ≡ true → (is_sound a ≡ true) × (is_sound b ≡ true)
sound_parts op q a b is sound = and_parts (is_sound a) (is_sound b) (sym (ap is_sound is) ∙ sound)

pub and_boolean : (q a b : Reduced) → q ≡ QueryBoth And a b → is_boolean q ≡ true → (is_boolean a ≡ true) × (is_boolean b ≡ true)
and_boolean q a b is boolean = and_parts (is_boolean a) (is_boolean b) (sym (ap is_boolean is) ∙ boolean)

pub or_boolean : (q a b : Reduced) → q ≡ QueryBoth Or a b → is_boolean q ≡ true → (is_boolean a ≡ true) × (is_boolean b ≡ true)
or_boolean q a b is boolean = and_parts (is_boolean a) (is_boolean b) (sym (ap is_boolean is) ∙ boolean)

pub not_boolean : (q a b : Reduced) → q ≡ QueryBoth Not a b → is_boolean q ≡ true → (is_boolean a ≡ true) × (is_boolean b ≡ true)
not_boolean q a b is boolean = and_parts (is_boolean a) (is_boolean b) (sym (ap is_boolean is) ∙ boolean)

-- the parts as they were read out of their boxes
pub parts_are : (op : Op) (q : Reduced) (a b x y : Flat) → q ≡ QueryBoth op (reduced_of a) (reduced_of b) → x ≡ a → y ≡ b → q ≡ QueryBoth op (reduced_of x) (reduced_of y)
parts_are op q a b x y is first second = is ∙ ap (λ (f : Flat). QueryBoth op (reduced_of f) (reduced_of b)) (sym first) ∙ ap (λ (f : Flat). QueryBoth op (reduced_of x) (reduced_of f)) (sym second)

-- a walk for a query is one for what it is equal to
pub walk_as : (m : Content) (stem : List ℕ) (q p : Reduced) (route : Route) → q ≡ p → IsWalkFor m stem (may_meet p) route → IsWalkFor m stem (may_meet q) route
walk_as m stem q p route is walk = subst (λ (f : Reduced). IsWalkFor m stem (may_meet f) route) (sym is) walk

module _ (m : Content) (stem : List ℕ) (f g : List (List ℕ) → Bool) (a b : Route) (first : IsWalkFor m stem f a) (second : IsWalkFor m stem g b) where
  abbrev has : List ℕ → List ℕ → Bool
  has = has_place m stem

  pub both_walk : (route : Route) → route ≡ Both a b → IsWalkFor m stem (λ ws. f ws && g ws) route
  both_walk route is place_of words are =
      let p = first place_of words are in
      let q = second place_of words are in
      subst (StopsWhere has place_of words (λ ws. f ws && g ws)) (sym is) (record {
        rows = λ r row. ap (λ (t : Bool). t && stops_at has b (place_of r)) (p.rows r row) ∙ ap (λ (t : Bool). f (words r) && t) (q.rows r row);
        only = λ place h. p.only place (and_parts (stops_at has a place) (stops_at has b place) h).0;
      })

  pub without_walk : (exact : Bool) (route : Route) → exact ≡ true → route ≡ Without a b → IsWalkFor m stem (λ ws. f ws && not (exact && g ws)) route
  without_walk exact route told is place_of words are =
      let p = first place_of words are in
      let q = second place_of words are in
      subst (StopsWhere has place_of words (λ ws. f ws && not (exact && g ws))) (sym is) (record {
        rows = λ r row.
            ap (λ (t : Bool). t && not (stops_at has b (place_of r))) (p.rows r row)
            ∙ ap (λ (t : Bool). f (words r) && not t) (q.rows r row)
            ∙ sym (ap (λ (t : Bool). f (words r) && not (t && g (words r))) told);
        only = λ place h. p.only place (and_parts (stops_at has a place) (not (stops_at has b place)) h).0;
      })

-- where it isn't exact, what stands behind NOT takes no row away
pub alone_walk : (m : Content) (stem : List ℕ) (f g : List (List ℕ) → Bool) (exact : Bool) (a : Route) → exact ≡ false → IsWalkFor m stem f a → IsWalkFor m stem (λ ws. f ws && not (exact && g ws)) a
alone_walk m stem f g exact a untold first place_of words are =
    let p = first place_of words are in
    record {
      rows = λ r row. p.rows r row ∙ sym (and_true (f (words r))) ∙ sym (ap (λ (t : Bool). f (words r) && not (t && g (words r))) untold);
      only = p.only;
    }
