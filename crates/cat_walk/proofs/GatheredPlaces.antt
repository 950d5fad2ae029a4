-- The places of words, as scans find them.
use Rattle.std.proofs.Common.{◌≡◌, ◌≤◌, ◌<◌, ◌+◌, ◌-◌, ◌⊎◌, inl, inr, ℕ, zero, suc, Bool, true, false, cond, nat_lt, ◌||◌, List, [], ◌∷◌, ◌++◌, length, take, drop, Option, None, Some, refl, sym, ap, subst, ◌∙◌, arith, append_assoc, length-append}
use Rattle.std.specs.Prelude.{◌&&◌, is_some, nat_le}
use Rattle.std.specs.List.{list_any}
use Rattle.std.specs.Str.{bytes_eq, chars, IsUtf8, is_utf8}
use Rattle.std.specs.FinMap.{get, entries, nat_cmp-IsAntisymmetric, slice_cmp-IsAntisymmetric}
use Rattle.std.proofs.lemmas.Bool.{and_parts, and_from, ltb-true, lt-ltb, leb-true, le-leb, or_cases}
use Rattle.std.proofs.lemmas.Cmp.{nat_list_cmp_total}
use Rattle.std.proofs.lemmas.List.{length-take-le, take-append-drop, take_at, drop_at}
use Rattle.std.proofs.lemmas.Slice.Eq.{bytes_eq-Decides}
use Rattle.std.proofs.lemmas.Str.{IsUtf8-from_is_utf8, is_utf8-from_IsUtf8}
use Rattle.ct_keep.specs.Content.{Content}
use Rattle.ct_keep.specs.Tail.{tail}
use Rattle.ct_keep.specs.laws.Tail.{get-tail, get-tail_nil}
use Rattle.ct_entry.specs.Keys.{IsToken, counted_bytes, same_list}
use Rattle.ct_entry.specs.Lists.{IsIn}
use Rattle.ct_entry.specs.laws.Keys.{list_from_same, list_same}
use Rattle.ct_entry.specs.laws.Lists.{in_either, in_flat_map, in_flat_mapped, in_left, in_right}
use Rattle.ct_entry.specs.laws.MapEntries.{get_in, in_get}
use Rattle.q_tree.specs.declared.flats.PatternBit.{PatternBit}
use Rattle.q_tree.specs.declared.flats.Slot.{Slot}
use Rattle.q_tree.specs.Slots.{is_end, matches, some_end, takes}
use Rattle.q_match.specs.Literals.{leading_literal}
use Rattle.q_match.specs.Promises.{MatchesBeginWithLiteral}
use Rattle.cat_walk.specs.Places.{has_place, is_listed}
use Rattle.cat_walk.specs.laws.Listed.{in_listed, listed_in}
use Rattle.cat_walk.specs.Gathering.{AddsPlaces, ArePlacesOf, HasWordAt}
use Rattle.cat_walk.specs.Scanned.{is_word_of, least_length, length_places, lengths_places, pattern_places, places_in, word_places}

-- ---- entries behind a prefix

module _ (m : Content) (prefix : List ℕ) where
  -- an entry behind it is one of the content, and its rest isn't empty
  has_whole : (rest v : List ℕ) → IsIn (rest, v) (entries (tail prefix m)) → (1 ≤ length rest) × (is_some (get m (prefix ++ rest)) ≡ true)
  has_whole [] v there = let wrong : None ≡ Some v = sym (get-tail_nil prefix m) ∙ in_get nat_list_cmp_total (tail prefix m) ([], v) there in cc
  has_whole (x ∷ rest) v there = (omega arith, ap is_some (sym (get-tail prefix m x rest) ∙ in_get nat_list_cmp_total (tail prefix m) (x ∷ rest, v) there))

  -- and the other way round
  has_rest : (rest : List ℕ) → 1 ≤ length rest → is_some (get m (prefix ++ rest)) ≡ true → (v : List ℕ) × IsIn (rest, v) (entries (tail prefix m))
  has_rest [] some there = absurd (omega (arith, some))
  has_rest (x ∷ rest) some there = go (get m (prefix ++ x ∷ rest)) refl there
    where
      go : (o : Option (List ℕ)) → get m (prefix ++ x ∷ rest) ≡ o → is_some o ≡ true → (v : List ℕ) × IsIn (x ∷ rest, v) (entries (tail prefix m))
      go None is h = cc
      go (Some v) is h = (v, get_in (slice_cmp-IsAntisymmetric nat_cmp-IsAntisymmetric) (tail prefix m) (x ∷ rest) v (get-tail prefix m x rest ∙ is))

-- the key of a word's entry, by what stands before its literal and behind
same_key : (stem literal more place : List ℕ) (size : ℕ) → size ≡ length (literal ++ more) → (stem ++ size ∷ literal) ++ (more ++ place) ≡ (stem ++ counted_bytes (literal ++ more)) ++ place
same_key stem literal more place size long =
    append_assoc stem (size ∷ literal) (more ++ place)
    ∙ ap (λ (l : List ℕ). stem ++ size ∷ l) (sym (append_assoc literal more place))
    ∙ ap (λ (n : ℕ). stem ++ n ∷ ((literal ++ more) ++ place)) long
    ∙ sym (append_assoc stem (counted_bytes (literal ++ more)) place)

-- one of two numbers is the other, or less
same_or_less : (a b : ℕ) → a ≤ b → (a ≡ b) ⊎ (a + 1 ≤ b)
same_or_less zero zero most = inl refl
same_or_less zero (suc b) most = inr (omega arith)
same_or_less (suc a) zero most = absurd (omega (arith, most))
same_or_less (suc a) (suc b) most = elim (same_or_less a b (omega (arith, most))) [ inl e ↦ inl (ap suc e) | inr less ↦ inr (omega (arith, less)) ]

-- any word has the pattern of any characters
pub some_end_is : (cs : List ℕ) → some_end is_end cs ≡ true
some_end_is [] = refl
some_end_is (c ∷ cs) = some_end_is cs

-- ---- what words were gathered

module _ (m : Content) (stem : List ℕ) where
  pub adds_none : (ps : List (List ℕ)) → AddsPlaces m stem (λ word. false) ps ps
  adds_none ps = record { each = λ place. ((λ h. inl h), (λ h. of_old place h)) }
    where
      of_old : (place : List ℕ) → IsIn place ps ⊎ HasWordAt m stem (λ word. false) place → IsIn place ps
      of_old place (inl h) = h
      of_old place (inr is) = let wrong : false ≡ true = is.takes in cc

  -- a word passes another test too
  with_test : (f g : List ℕ → Bool) (place : List ℕ) (is : HasWordAt m stem f place) → g is.word ≡ true → HasWordAt m stem g place
  with_test f g place is passes = record { some = is.some; word = is.word; token = is.token; text = is.text; takes = passes; at = is.at }

  pub adds_as : (f g : List ℕ → Bool) (old new : List (List ℕ)) → ((word : List ℕ) → g word ≡ f word) → AddsPlaces m stem f old new → AddsPlaces m stem g old new
  adds_as f g old new same adds = record { each = λ place. ((λ h. to place ((adds.each place).0 h)), (λ h. (adds.each place).1 (back place h))) }
    where
      to : (place : List ℕ) → IsIn place old ⊎ HasWordAt m stem f place → IsIn place old ⊎ HasWordAt m stem g place
      to place (inl h) = inl h
      to place (inr is) = inr (with_test f g place is (same is.word ∙ is.takes))

      back : (place : List ℕ) → IsIn place old ⊎ HasWordAt m stem g place → IsIn place old ⊎ HasWordAt m stem f place
      back place (inl h) = inl h
      back place (inr is) = inr (with_test g f place is (sym (same is.word) ∙ is.takes))

  module _ (f g : List ℕ → Bool) where
    abbrev either_test : List ℕ → Bool
    either_test word = f word || g word

    or_first : (a b : Bool) → a ≡ true → (a || b) ≡ true
    or_first a b e = ap (λ (t : Bool). t || b) e

    or_second : (a b : Bool) → b ≡ true → (a || b) ≡ true
    or_second true b e = refl
    or_second false b e = e

    pub adds_then : (old mid new : List (List ℕ)) → AddsPlaces m stem f old mid → AddsPlaces m stem g mid new → AddsPlaces m stem (λ word. f word || g word) old new
    adds_then old mid new first second = record { each = λ place. ((λ h. later place ((second.each place).0 h)), (λ h. (second.each place).1 (before place h))) }
      where
        as_first : (place : List ℕ) → IsIn place old ⊎ HasWordAt m stem f place → IsIn place old ⊎ HasWordAt m stem either_test place
        as_first place (inl h) = inl h
        as_first place (inr is) = inr (with_test f either_test place is (or_first (f is.word) (g is.word) is.takes))

        later : (place : List ℕ) → IsIn place mid ⊎ HasWordAt m stem g place → IsIn place old ⊎ HasWordAt m stem either_test place
        later place (inl h) = as_first place ((first.each place).0 h)
        later place (inr is) = inr (with_test g either_test place is (or_second (f is.word) (g is.word) is.takes))

        of_word : (place : List ℕ) (is : HasWordAt m stem either_test place) → (f is.word ≡ true) ⊎ (g is.word ≡ true) → IsIn place mid ⊎ HasWordAt m stem g place
        of_word place is (inl h) = inl ((first.each place).1 (inr (with_test either_test f place is h)))
        of_word place is (inr h) = inr (with_test either_test g place is h)

        before : (place : List ℕ) → IsIn place old ⊎ HasWordAt m stem either_test place → IsIn place mid ⊎ HasWordAt m stem g place
        before place (inl h) = inl ((first.each place).1 (inl h))
        before place (inr is) = of_word place is (or_cases (f is.word) (g is.word) is.takes)

  -- what was added behind others, where it is exactly the places of the words
  adds_behind : (test : List ℕ → Bool) (old these new : List (List ℕ)) → new ≡ old ++ these → ((place : List ℕ) → IsIn place these → HasWordAt m stem test place) → ((place : List ℕ) → HasWordAt m stem test place → IsIn place these) → AddsPlaces m stem test old new
  adds_behind test old these new grown each none_left = record { each = λ place. ((λ h. of_new place (in_either place old these (subst (IsIn place) grown h))), (λ h. subst (IsIn place) (sym grown) (to_new place h))) }
    where
      of_new : (place : List ℕ) → IsIn place old ⊎ IsIn place these → IsIn place old ⊎ HasWordAt m stem test place
      of_new place (inl h) = inl h
      of_new place (inr h) = inr (each place h)

      to_new : (place : List ℕ) → IsIn place old ⊎ HasWordAt m stem test place → IsIn place (old ++ these)
      to_new place (inl h) = in_left place old these h
      to_new place (inr is) = in_right place old these (none_left place is)

  -- ---- one word

  module _ (key : List ℕ) where
    of_key : (place : List ℕ) → IsToken key → IsUtf8 key → IsIn place (word_places m stem key) → HasWordAt m stem (λ word. bytes_eq key word) place
    of_key place token text h = let found = in_flat_map (λ (e : List ℕ × List ℕ). e.0 ∷ []) place (entries (tail (stem ++ counted_bytes key) m)) h in by_place found.0 found.1 found.2
      where
        is_place : (e : List ℕ × List ℕ) → IsIn e (entries (tail (stem ++ counted_bytes key) m)) → place ≡ e.0 → HasWordAt m stem (λ word. bytes_eq key word) place
        is_place e there is =
            let whole = has_whole m (stem ++ counted_bytes key) e.0 e.1 there in
            record {
              some = subst (λ (p : List ℕ). 1 ≤ length p) (sym is) whole.0;
              word = key;
              token = token;
              text = text;
              takes = (bytes_eq-Decides key key).1 refl;
              at = subst (λ (p : List ℕ). is_some (get m ((stem ++ counted_bytes key) ++ p)) ≡ true) (sym is) whole.1;
            }

        by_place : (e : List ℕ × List ℕ) → IsIn e (entries (tail (stem ++ counted_bytes key) m)) → IsIn place (e.0 ∷ []) → HasWordAt m stem (λ word. bytes_eq key word) place
        by_place e there (inl is) = is_place e there is
        by_place e there (inr none) = absurd none

    to_key : (place : List ℕ) → HasWordAt m stem (λ word. bytes_eq key word) place → IsIn place (word_places m stem key)
    to_key place is =
        let same = (bytes_eq-Decides key is.word).0 is.takes in
        let found = has_rest m (stem ++ counted_bytes key) place is.some (subst (λ (w : List ℕ). has_place m stem (counted_bytes w) place ≡ true) (sym same) is.at) in
        in_flat_mapped (λ (e : List ℕ × List ℕ). e.0 ∷ []) (place, found.0) (entries (tail (stem ++ counted_bytes key) m)) place found.1 (inl refl)

    pub key_adds : (old new : List (List ℕ)) → (is_utf8 key && (nat_le 1 (length key) && nat_le (length key) 255)) ≡ true → new ≡ old ++ word_places m stem key → AddsPlaces m stem (λ word. bytes_eq key word) old new
    key_adds old new is grown =
        let a = and_parts (is_utf8 key) (nat_le 1 (length key) && nat_le (length key) 255) is in
        let b = and_parts (nat_le 1 (length key)) (nat_le (length key) 255) a.1 in
        adds_behind (λ word. bytes_eq key word) old (word_places m stem key) new grown
        (λ place h. of_key place (record { some = leb-true 1 (length key) b.0; short = leb-true (length key) 255 b.1 }) (IsUtf8-from_is_utf8 key a.0) h)
        to_key

    pub no_word_adds : (ps : List (List ℕ)) → (is_utf8 key && (nat_le 1 (length key) && nat_le (length key) 255)) ≡ false → AddsPlaces m stem (λ word. bytes_eq key word) ps ps
    no_word_adds ps not = record { each = λ place. ((λ h. inl h), (λ h. of_old place h)) }
      where
        none : (place : List ℕ) → HasWordAt m stem (λ word. bytes_eq key word) place → ⊥
        none place is =
            let same = (bytes_eq-Decides key is.word).0 is.takes in
            let token = subst IsToken (sym same) is.token in
            let some = token.some in
            let short = token.short in
            let whole = and_from (is_utf8 key) (nat_le 1 (length key) && nat_le (length key) 255) (is_utf8-from_IsUtf8 key (subst IsUtf8 (sym same) is.text))
            (and_from (nat_le 1 (length key)) (nat_le (length key) 255) (le-leb 1 (length key) some) (le-leb (length key) 255 short)) in
            let wrong : false ≡ true = sym not ∙ whole in cc

        of_old : (place : List ℕ) → IsIn place ps ⊎ HasWordAt m stem (λ word. bytes_eq key word) place → IsIn place ps
        of_old place (inl h) = h
        of_old place (inr is) = absurd (none place is)

  -- ---- the words of a pattern

  module _ (p : List PatternBit) where
    abbrev literal : List ℕ
    literal = leading_literal p

    abbrev has : List ℕ → Bool
    has word = matches p (chars word)

    abbrev more_of : ℕ → ℕ
    more_of size = size - length literal

    abbrev of_size : ℕ → List (List ℕ × List ℕ)
    of_size size = entries (tail (stem ++ size ∷ literal) m)

    abbrev in_entry : ℕ → List ℕ × List ℕ → List (List ℕ)
    in_entry size e = places_in p literal (size - length literal) e.0

    of_length : (place : List ℕ) (size : ℕ) → 1 ≤ size → size ≤ 255 → length literal ≤ size → IsIn place (length_places m stem p literal size) → HasWordAt m stem has place
    of_length place size some short long h =
        let found = in_flat_map (in_entry size) place (of_size size) h in
        by_test found.0 found.1 (nat_lt (more_of size) (length found.0.0) && is_word_of p (literal ++ take (more_of size) found.0.0)) refl found.2
      where
        is_place : (e : List ℕ × List ℕ) → IsIn e (of_size size) → (nat_lt (more_of size) (length e.0) && is_word_of p (literal ++ take (more_of size) e.0)) ≡ true → place ≡ drop (more_of size) e.0 → HasWordAt m stem has place
        is_place e there t is =
            let a = and_parts (nat_lt (more_of size) (length e.0)) (is_word_of p (literal ++ take (more_of size) e.0)) t in
            let b = and_parts (is_utf8 (literal ++ take (more_of size) e.0)) (has (literal ++ take (more_of size) e.0)) a.1 in
            let less = ltb-true (more_of size) (length e.0) a.0 in
            let taken = length-take-le (more_of size) e.0 (omega (arith, less)) in
            let both = length-append literal (take (more_of size) e.0) in
            let size_is : size ≡ length (literal ++ take (more_of size) e.0) = omega (arith, both, taken, long) in
            let left = ap length (take-append-drop (more_of size) e.0) in
            let parts = length-append (take (more_of size) e.0) (drop (more_of size) e.0) in
            let whole = has_whole m (stem ++ size ∷ literal) e.0 e.1 there in
            let key = ap (λ (l : List ℕ). (stem ++ size ∷ literal) ++ l) (sym (take-append-drop (more_of size) e.0)) ∙ same_key stem literal (take (more_of size) e.0) (drop (more_of size) e.0) size size_is in
            record {
              some = subst (λ (q : List ℕ). 1 ≤ length q) (sym is) (omega (arith, left, parts, taken, less));
              word = literal ++ take (more_of size) e.0;
              token = record { some = omega (arith, size_is, some); short = omega (arith, size_is, short) };
              text = IsUtf8-from_is_utf8 (literal ++ take (more_of size) e.0) b.0;
              takes = b.1;
              at = subst (λ (q : List ℕ). has_place m stem (counted_bytes (literal ++ take (more_of size) e.0)) q ≡ true) (sym is) (subst (λ (k : List ℕ). is_some (get m k) ≡ true) key whole.1);
            }

        by_test : (e : List ℕ × List ℕ) → IsIn e (of_size size) → (t : Bool) → (nat_lt (more_of size) (length e.0) && is_word_of p (literal ++ take (more_of size) e.0)) ≡ t → IsIn place (cond t (drop (more_of size) e.0 ∷ []) []) → HasWordAt m stem has place
        by_test e there true t (inl is) = is_place e there t is
        by_test e there true t (inr none) = absurd none
        by_test e there false t none = absurd none

    to_length : MatchesBeginWithLiteral → IsUtf8 literal → (place : List ℕ) (is : HasWordAt m stem has place) → (length literal ≤ length is.word) × IsIn place (length_places m stem p literal (length is.word))
    to_length begin text place is = let begins = begin p is.word text is.text is.takes in go begins.0 begins.1
      where
        go : (rest : List ℕ) → is.word ≡ literal ++ rest → (length literal ≤ length is.word) × IsIn place (length_places m stem p literal (length is.word))
        go rest as_word =
            let long = ap length as_word ∙ length-append literal rest in
            let key = same_key stem literal rest place (length is.word) (ap length as_word) in
            let there = ap (λ (w : List ℕ). is_some (get m ((stem ++ counted_bytes w) ++ place))) (sym as_word) ∙ is.at in
            let some = is.some in
            let both = length-append rest place in
            let found = has_rest m (stem ++ length is.word ∷ literal) (rest ++ place) (omega (arith, some, both)) (ap (λ (k : List ℕ). is_some (get m k)) key ∙ there) in
            let more : length is.word - length literal ≡ length rest = omega (arith, long) in
            let tested : (nat_lt (length rest) (length (rest ++ place)) && is_word_of p (literal ++ take (length rest) (rest ++ place))) ≡ true =
            and_from _ _ (lt-ltb (length rest) (length (rest ++ place)) (omega (arith, some, both)))
            (ap (λ (w : List ℕ). is_word_of p w) (ap (λ (l : List ℕ). literal ++ l) (take_at rest place (length rest) refl) ∙ sym as_word) ∙ and_from (is_utf8 is.word) (has is.word) (is_utf8-from_IsUtf8 is.word is.text) is.takes) in
            let one : places_in p literal (length is.word - length literal) (rest ++ place) ≡ place ∷ [] =
            ap (λ (n : ℕ). places_in p literal n (rest ++ place)) more ∙ ap (λ (t : Bool). cond t (drop (length rest) (rest ++ place) ∷ []) []) tested ∙ ap (λ (q : List ℕ). q ∷ []) (drop_at rest place (length rest) refl) in
            (omega (arith, long), in_flat_mapped (in_entry (length is.word)) (rest ++ place, found.0) (of_size (length is.word)) place found.1 (subst (IsIn place) (sym one) (inl refl)))

    of_lengths : (place : List ℕ) (n from : ℕ) → 1 ≤ from → from + n ≤ 256 → length literal ≤ from → IsIn place (lengths_places m stem p n from) → HasWordAt m stem has place
    of_lengths place zero from some within long h = absurd h
    of_lengths place (suc n) from some within long h = elim (in_either place (length_places m stem p literal from) (lengths_places m stem p n (from + 1)) h) [
      | inl here ↦ of_length place from some (omega (arith, within)) long here
      | inr later ↦ of_lengths place n (from + 1) (omega (arith, some)) (omega (arith, within)) (omega (arith, long)) later
    ]

    to_lengths : (place : List ℕ) (size n from : ℕ) → from ≤ size → size < from + n → IsIn place (length_places m stem p literal size) → IsIn place (lengths_places m stem p n from)
    to_lengths place size zero from most within h = absurd (omega (arith, most, within))
    to_lengths place size (suc n) from most within h = elim (same_or_less from size most) [
      | inl is ↦ in_left place (length_places m stem p literal from) (lengths_places m stem p n (from + 1)) (subst (λ (k : ℕ). IsIn place (length_places m stem p literal k)) (sym is) h)
      | inr less ↦ in_right place (length_places m stem p literal from) (lengths_places m stem p n (from + 1)) (to_lengths place size n (from + 1) less (omega (arith, within)) h)
    ]

    pub pattern_adds : MatchesBeginWithLiteral → IsUtf8 literal → (old new : List (List ℕ)) → new ≡ old ++ pattern_places m stem p → AddsPlaces m stem (λ word. matches p (chars word)) old new
    pattern_adds begin text old new grown = adds_behind has old (pattern_places m stem p) new grown each none_left
      where
        each : (place : List ℕ) → IsIn place (pattern_places m stem p) → HasWordAt m stem has place
        each place h = go (256 - least_length p) refl h
          where
            go : (n : ℕ) → 256 - least_length p ≡ n → IsIn place (lengths_places m stem p n (least_length p)) → HasWordAt m stem has place
            go zero is h = absurd h
            go (suc n) is h = of_lengths place (suc n) (least_length p) (omega arith) (omega (arith, is)) (omega arith) h

        none_left : (place : List ℕ) → HasWordAt m stem has place → IsIn place (pattern_places m stem p)
        none_left place is =
            let there = to_length begin text place is in
            let some = is.token.some in
            let short = is.token.short in
            let long = there.0 in
            to_lengths place (length is.word) (256 - least_length p) (least_length p) (omega (arith, some, long)) (omega (arith, some, short, long)) there.1

  -- ---- keys or patterns, one after the other

  module _ {X : Type 0} (test : X → List ℕ → Bool) where
    pub any_none : (rest : List X) (ps : List (List ℕ)) → length rest < 1 → AddsPlaces m stem (λ word. list_any (λ x. test x word) rest) ps ps
    any_none [] ps few = adds_none ps
    any_none (x ∷ rest) ps few = absurd (omega (arith, few))

    pub any_next : (rest later : List X) (x : X) (now mid new : List (List ℕ)) → rest ≡ x ∷ later → AddsPlaces m stem (λ word. test x word) now mid → AddsPlaces m stem (λ word. list_any (λ x. test x word) later) mid new
        → AddsPlaces m stem (λ word. list_any (λ x. test x word) rest) now new
    any_next rest later x now mid new is first second =
        subst (λ (xs : List X). AddsPlaces m stem (λ word. list_any (λ x. test x word) xs) now new) (sym is)
        (adds_then (λ word. test x word) (λ word. list_any (λ x. test x word) later) now mid new first second)

-- ---- of all, put in order

pub are_places : (m : Content) (stem : List ℕ) (slot : Slot) (first gathered places : List (List ℕ)) → first ≡ [] → AddsPlaces m stem (λ word. takes slot word) first gathered
    → ((place : List ℕ) → is_listed places place ≡ is_listed gathered place) → ArePlacesOf m stem slot places
are_places m stem slot first gathered places none adds same = λ place. (
  (λ h. of_new place ((adds.each place).0 (in_listed gathered place (sym (same place) ∙ h)))),
  (λ is. same place ∙ listed_in gathered place ((adds.each place).1 (inr is))),
)
  where
    of_new : (place : List ℕ) → IsIn place first ⊎ HasWordAt m stem (λ word. takes slot word) place → HasWordAt m stem (λ word. takes slot word) place
    of_new place (inl h) = absurd (subst (IsIn place) none h)
    of_new place (inr is) = is
