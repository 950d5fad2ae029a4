-- The places at which words stand that a slot takes.
use Rattle.std.specs.Prelude.{ℕ, ◌≡◌, ◌≤◌, ◌↔◌, ◌⊎◌, Bool, true, List, [], ◌∷◌, length, codes, refl}
use Rattle.std.specs.Str.{chars, IsUtf8}
use Rattle.std.proofs.Common.{arith}
use lib.Utf8.{encode}
use Rattle.ct_keep.specs.Content.{Content}
use Rattle.ct_entry.specs.Keys.{IsToken, counted_bytes}
use Rattle.ct_entry.specs.Lists.{IsIn}
use Rattle.q_tree.specs.declared.flats.PatternBit.TheVariants.{Chars, Many}
use Rattle.q_tree.specs.declared.flats.Slot.{Slot}
use Rattle.q_tree.specs.declared.flats.Slot.TheVariants.{Takes}
use Rattle.q_tree.specs.Slots.{takes}
use Rattle.cat_walk.specs.Places.{has_place, is_listed}

-- A word that passes a test has an entry at a place. The word is a text of 1 to 255 bytes, and the place has at least one byte.
pub record HasWordAt (m : Content) (stem : List ℕ) (test : List ℕ → Bool) (place : List ℕ) : Type 0 where
  pub some : 1 ≤ length place
  pub word : List ℕ
  pub token : IsToken word
  pub text : IsUtf8 word
  pub takes : test word ≡ true
  pub at : has_place m stem (counted_bytes word) place ≡ true

-- A SLOT TAKES A WORD AT A PLACE: one that it takes has an entry there.
abbrev pub IsTakenAt : Content → List ℕ → Slot → List ℕ → Type 0
IsTakenAt m stem slot place = HasWordAt m stem (takes slot) place

-- EXACTLY THE PLACES at which it takes one are listed.
abbrev pub ArePlacesOf : Content → List ℕ → Slot → List (List ℕ) → Type 0
ArePlacesOf m stem slot places = (place : List ℕ) → (is_listed places place ≡ true) ↔ IsTakenAt m stem slot place

-- The places of the words that pass a test, and no other, came to those that were there.
pub record AddsPlaces (m : Content) (stem : List ℕ) (test : List ℕ → Bool) (old new : List (List ℕ)) : Type 0 where
  pub each : (place : List ℕ) → IsIn place new ↔ (IsIn place old ⊎ HasWordAt m stem test place)

-- ---- computed examples

-- `caf%` takes `cafe` at the place 7 of a content that has this entry
abbrev caf_many : Slot
caf_many = Takes [] ((Chars (codes "caf") ∷ Many ∷ []) ∷ [])

cafe_at_7 : (m : Content) (stem : List ℕ) → has_place m stem (4 ∷ codes "cafe") (7 ∷ []) ≡ true → IsTakenAt m stem caf_many (7 ∷ [])
unfolding chars encode
cafe_at_7 m stem at = record { some = omega arith; word = codes "cafe"; token = record { some = omega arith; short = omega arith }; text = (codes "cafe", (refl, refl)); takes = refl; at = at }

-- where none is listed, it takes none anywhere
none_anywhere : (m : Content) (stem : List ℕ) (slot : Slot) (place : List ℕ) → ArePlacesOf m stem slot [] → IsTakenAt m stem slot place → ⊥
none_anywhere m stem slot place are is = let listed : is_listed [] place ≡ true = (are place).1 is in cc
