-- The places of a catalogue's entries under a word, in their order.
use Rattle.std.specs.Prelude.{ℕ, ◌≡◌, Bool, true, false, not, ◌&&◌, List, [], ◌∷◌, ◌++◌, length, take, Option, Some, None, is_some, Vec, bytes_eq, codes, refl}
use Rattle.std.specs.Bool.{if◌then◌else◌}
use Rattle.std.specs.List.{list_any}
use Rattle.std.specs.Option.{option_map}
use Rattle.std.specs.FinMap.{get}
use Rattle.std.specs.declared.alloc.Global.{Global}
use Rattle.std.specs.Ordering.{nat_cmp, is_lt}
use Rattle.std.specs.Cmp.Lexicographic.{slice_cmp}
use Rattle.ct_keep.specs.Content.{Content}
use Rattle.ct_entry.specs.Keys.{same_list}

-- All keys of a sub-index begin with its stem. Behind it stands the word, after its length, and then the place: the values by which the sub-index is in
-- order, and the row. This is whether the word, so spelt, has an entry at a place.
abbrev pub has_place : Content → List ℕ → List ℕ → List ℕ → Bool
has_place m stem word place = is_some (get m ((stem ++ word) ++ place))

-- the one place comes before the other, in the order of bytes
abbrev pub comes_before : List ℕ → List ℕ → Bool
comes_before a b = is_lt (slice_cmp nat_cmp a b)

-- The place lies from the one bound to the other: it goes on behind the least one, or a greater one stands at its beginning, and its first bytes, as many as the
-- bounds have, are the greatest at most. Both bounds have the same number of bytes, and a place ends with those of a row, so it has more.
abbrev pub is_between : List ℕ → List ℕ → List ℕ → Bool
is_between low high place = comes_before low place && not (comes_before high (take (length high) place))

-- It is the first place after one at which a test holds.
pub record IsFirstAfter (holds : List ℕ → Bool) (after place : List ℕ) : Type 0 where
  pub behind : comes_before after place ≡ true
  pub at : holds place ≡ true
  pub first : (p : List ℕ) → comes_before after p ≡ true → comes_before p place ≡ true → holds p ≡ false

-- The same where there may be none.
abbrev pub IsNext : (List ℕ → Bool) → List ℕ → Option (List ℕ) → Type 0
IsNext holds after (Some place) = IsFirstAfter holds after place
IsNext holds after None = (p : List ℕ) → comes_before after p ≡ true → holds p ≡ false

-- a place as code holds it
abbrev pub next_of : Option (Vec ℕ Global) → Option (List ℕ)
next_of next = option_map (λ place. place.items) next

-- ---- lists of places

-- a place is one of a list
abbrev pub is_listed : List (List ℕ) → List ℕ → Bool
is_listed places place = list_any (same_list place) places

-- it is the first of them
abbrev pub is_first : List (List ℕ) → List ℕ → Bool
is_first [] place = false
is_first (p ∷ ps) place = bytes_eq p place

-- PLACES RISE: each comes before the next, so each stands once
abbrev pub places_rise : List (List ℕ) → Bool
places_rise [] = true
places_rise (p ∷ []) = true
places_rise (p ∷ q ∷ ps) = comes_before p q && places_rise (q ∷ ps)

-- THE PLACES AT WHICH A TEST HOLDS, as far as they are known: it holds at each of these, and up to one place at no other.
pub record ArePlacesUpTo (holds : List ℕ → Bool) (last : List ℕ) (places : List (List ℕ)) : Type 0 where
  pub from : (place : List ℕ) → is_listed places place ≡ true → holds place ≡ true
  pub to : (place : List ℕ) → comes_before last place ≡ false → holds place ≡ true → is_listed places place ≡ true

-- computed examples: of two places the one that begins with the lesser byte comes before the other, and one comes before what goes on behind it
by_their_bytes : comes_before (1 ∷ 9 ∷ []) (2 ∷ []) ≡ true
by_their_bytes = refl

before_the_longer : comes_before (1 ∷ []) (1 ∷ 0 ∷ []) ≡ true
before_the_longer = refl

not_before_itself : comes_before (codes "a") (codes "a") ≡ false
not_before_itself = refl

-- of the places that go on behind the byte 2 or 3, whatever follows
behind_the_least : is_between (2 ∷ []) (3 ∷ []) (2 ∷ 0 ∷ []) ≡ true
behind_the_least = refl

behind_the_greatest : is_between (2 ∷ []) (3 ∷ []) (3 ∷ 9 ∷ []) ≡ true
behind_the_greatest = refl

above_the_greatest : is_between (2 ∷ []) (3 ∷ []) (4 ∷ 0 ∷ []) ≡ false
above_the_greatest = refl

below_the_least : is_between (2 ∷ []) (3 ∷ []) (1 ∷ 9 ∷ []) ≡ false
below_the_least = refl

not_the_least_itself : is_between (2 ∷ []) (3 ∷ []) (2 ∷ []) ≡ false
not_the_least_itself = refl

none_where_they_are_exchanged : is_between (3 ∷ []) (2 ∷ []) (2 ∷ 9 ∷ []) ≡ false
none_where_they_are_exchanged = refl

by_no_bytes : is_between [] [] (codes "a") ≡ true
by_no_bytes = refl

these_rise : places_rise ((1 ∷ []) ∷ (1 ∷ 5 ∷ []) ∷ (2 ∷ []) ∷ []) ≡ true
these_rise = refl

none_stands_twice : places_rise ((1 ∷ []) ∷ (1 ∷ []) ∷ []) ≡ false
none_stands_twice = refl

the_second_is_listed : is_listed ((1 ∷ []) ∷ (2 ∷ []) ∷ []) (2 ∷ []) ≡ true
the_second_is_listed = refl

and_is_not_the_first : is_first ((1 ∷ []) ∷ (2 ∷ []) ∷ []) (2 ∷ []) ≡ false
and_is_not_the_first = refl

-- where a test holds nowhere, no place is known
none_known : (last : List ℕ) → ArePlacesUpTo (λ place. false) last []
none_known last = record { from = λ place h. h; to = λ place before h. h }
