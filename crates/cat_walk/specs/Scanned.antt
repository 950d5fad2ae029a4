-- What the entries under a stem tell of the places of words that have a pattern.
use Rattle.std.specs.Prelude.{ℕ, ◌≡◌, ◌+◌, ◌-◌, zero, suc, max, nat_lt, Bool, ◌&&◌, List, [], ◌∷◌, ◌++◌, length, take, drop, flat_map, codes, refl}
use Rattle.std.specs.Bool.{if◌then◌else◌}
use Rattle.std.specs.FinMap.{entries}
use Rattle.std.specs.Str.{chars, is_utf8}
use lib.Utf8.{encode}
use Rattle.ct_keep.specs.Content.{Content}
use Rattle.ct_keep.specs.Tail.{tail}
use Rattle.ct_entry.specs.Keys.{counted_bytes}
use Rattle.q_tree.specs.declared.flats.PatternBit.{PatternBit}
use Rattle.q_tree.specs.declared.flats.PatternBit.TheVariants.{Chars, Many}
use Rattle.q_tree.specs.Slots.{matches}
use Rattle.q_match.specs.Literals.{leading_literal}
use Rattle.cat_walk.specs.declared.scanning.Tried.{Tried}

-- a word is a text, and has the pattern
abbrev pub is_word_of : List PatternBit → List ℕ → Bool
is_word_of p word = is_utf8 word && matches p (chars word)

-- It is known of the word that was tried last whether it has the pattern.
abbrev pub IsTried : List PatternBit → List ℕ → Tried → Type 0
IsTried p literal t = t.has ≡ is_word_of p (literal ++ t.more.items)

-- THE PLACE IN A KEY, by what the key has behind the literal: so many bytes more of the word, and the place. None where the word hasn't the pattern, or
-- where the place has no byte.
abbrev pub places_in : List PatternBit → List ℕ → ℕ → List ℕ → List (List ℕ)
places_in p literal more rest = if nat_lt more (length rest) && is_word_of p (literal ++ take more rest) then drop more rest ∷ [] else []

-- those of the words of a length that begin with a literal
abbrev pub length_places : Content → List ℕ → List PatternBit → List ℕ → ℕ → List (List ℕ)
length_places m stem p literal size = flat_map (λ e. places_in p literal (size - length literal) e.0) (entries (tail (stem ++ size ∷ literal) m))

-- of so many lengths, from one on
abbrev pub lengths_places : Content → List ℕ → List PatternBit → ℕ → ℕ → List (List ℕ)
lengths_places m stem p zero from = []
lengths_places m stem p (suc n) from = length_places m stem p (leading_literal p) from ++ lengths_places m stem p n (from + 1)

-- the least length of a word that begins with the leading literal of a pattern
abbrev pub least_length : List PatternBit → ℕ
least_length p = max 1 (length (leading_literal p))

-- THOSE OF ALL WORDS THAT HAVE A PATTERN, of up to 255 bytes
abbrev pub pattern_places : Content → List ℕ → List PatternBit → List (List ℕ)
pattern_places m stem p = lengths_places m stem p (256 - least_length p) (least_length p)

-- those of one word
abbrev pub word_places : Content → List ℕ → List ℕ → List (List ℕ)
word_places m stem word = flat_map (λ e. e.0 ∷ []) (entries (tail (stem ++ counted_bytes word) m))

-- ---- computed examples: `cafe` at the place 7, behind `caf`, and a word that goes on otherwise

cafe_at_7 : places_in (Chars (codes "caf") ∷ Many ∷ []) (codes "caf") 1 (codes "e" ++ 7 ∷ []) ≡ (7 ∷ []) ∷ []
unfolding is_utf8 chars encode
cafe_at_7 = refl

not_without_a_place : places_in (Many ∷ []) [] 4 (codes "cafe") ≡ []
not_without_a_place = refl

not_another_word : places_in (Chars (codes "caf") ∷ Chars (codes "e") ∷ []) (codes "caf") 1 (codes "t" ++ 7 ∷ []) ≡ []
unfolding is_utf8 chars encode
not_another_word = refl

from_three_bytes : least_length (Chars (codes "caf") ∷ Many ∷ []) ≡ 3
from_three_bytes = refl
