-- Which keys a slot of a phrase takes, and which slots are the same.
use Rattle.std.specs.Prelude.{ℕ, ◌≡◌, Bool, true, false, ◌&&◌, ◌||◌, eqb, bytes_eq, List, [], ◌∷◌, ◌++◌, codes, refl}
use Rattle.std.specs.List.{list_any}
use Rattle.std.specs.Cmp.Lexicographic.{pointwise}
use Rattle.std.specs.Str.{chars}
use lib.Utf8.{encode}
use Rattle.q_tree.specs.declared.flats.PatternBit.{PatternBit}
use Rattle.q_tree.specs.declared.flats.PatternBit.TheVariants.{Chars, One, Many}
use Rattle.q_tree.specs.declared.flats.Slot.{Slot}
use Rattle.q_tree.specs.declared.flats.Slot.TheVariants.{Any, Takes}

-- ---- patterns, over the characters of a key

-- the characters begin with the first list, and what follows has a property
abbrev pub begins : (List ℕ → Bool) → List ℕ → List ℕ → Bool
begins rest [] cs = rest cs
begins rest (t ∷ ts) [] = false
begins rest (t ∷ ts) (c ∷ cs) = eqb t c && begins rest ts cs

-- there is a first character, and what follows it has a property
abbrev pub behind_one : (List ℕ → Bool) → List ℕ → Bool
behind_one rest [] = false
behind_one rest (c ∷ cs) = rest cs

-- some end of the characters, which may be all of them or none, has a property
abbrev pub some_end : (List ℕ → Bool) → List ℕ → Bool
some_end rest [] = rest []
some_end rest (c ∷ cs) = rest (c ∷ cs) || some_end rest cs

abbrev pub is_end : List ℕ → Bool
is_end [] = true
is_end (c ∷ cs) = false

-- whether characters have the pattern
abbrev pub matches : List PatternBit → List ℕ → Bool
matches [] cs = is_end cs
matches (Chars t ∷ bits) cs = begins (matches bits) (chars t) cs
matches (One ∷ bits) cs = behind_one (matches bits) cs
matches (Many ∷ bits) cs = some_end (matches bits) cs

-- ---- slots

abbrev pub has_key : List (List ℕ) → List ℕ → Bool
has_key keys key = list_any (λ k. bytes_eq k key) keys

abbrev pub has_pattern : List (List PatternBit) → List ℕ → Bool
has_pattern patterns key = list_any (λ p. matches p (chars key)) patterns

-- WHETHER A SLOT TAKES A KEY. Any takes each; it also takes a word without a key.
abbrev pub takes : Slot → List ℕ → Bool
takes Any key = true
takes (Takes keys patterns) key = has_key keys key || has_pattern patterns key

-- ---- slots that are the same: equal, part by part

abbrev pub same_keys : List (List ℕ) → List (List ℕ) → Bool
same_keys = pointwise bytes_eq

abbrev pub same_bit : PatternBit → PatternBit → Bool
same_bit (Chars x) (Chars y) = bytes_eq x y
same_bit One One = true
same_bit Many Many = true
same_bit _ _ = false

abbrev pub same_pattern : List PatternBit → List PatternBit → Bool
same_pattern = pointwise same_bit

abbrev pub same_patterns : List (List PatternBit) → List (List PatternBit) → Bool
same_patterns = pointwise same_pattern

abbrev pub same_slot : Slot → Slot → Bool
same_slot Any Any = true
same_slot (Takes ks ps) (Takes js qs) = same_keys ks js && same_patterns ps qs
same_slot _ _ = false

-- ---- computed examples

-- `caf%`
abbrev caf_many : Slot
caf_many = Takes [] ((Chars (codes "caf") ∷ Many ∷ []) ∷ [])

cafe : takes caf_many (codes "caf" ++ 0xC3 ∷ 0xA9 ∷ []) ≡ true
unfolding encode chars
cafe = refl

caf_alone : takes caf_many (codes "caf") ≡ true
unfolding encode chars
caf_alone = refl

not_face : takes caf_many (codes "face") ≡ false
unfolding encode chars
not_face = refl

-- `caf_`: the last character has two bytes
one_character : takes (Takes [] ((Chars (codes "caf") ∷ One ∷ []) ∷ [])) (codes "caf" ++ 0xC3 ∷ 0xA9 ∷ []) ≡ true
unfolding encode chars
one_character = refl

-- `h%t`
abbrev h_many_t : Slot
h_many_t = Takes [] ((Chars (codes "h") ∷ Many ∷ Chars (codes "t") ∷ []) ∷ [])

hat : takes h_many_t (codes "hat") ≡ true
unfolding encode chars
hat = refl

not_hats : takes h_many_t (codes "hats") ≡ false
unfolding encode chars
not_hats = refl

-- `shop = web`
either_key : takes (Takes (codes "shop" ∷ codes "web" ∷ []) []) (codes "web") ≡ true
either_key = refl

-- the same keys in another order are another slot
other_order : same_slot (Takes (codes "a" ∷ codes "b" ∷ []) []) (Takes (codes "b" ∷ codes "a" ∷ []) []) ≡ false
other_order = refl
