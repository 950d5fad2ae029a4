-- Which reduced queries are sound.
use Rattle.std.specs.Prelude.{ℕ, ◌≡◌, ◌+◌, nat_le, eqb, zero, suc, Bool, true, false, ◌&&◌, List, [], ◌∷◌, length, Option, Some, None, codes, refl}
use Rattle.std.specs.Bool.{if◌then◌else◌}
use Rattle.std.specs.List.{list_all}
use Rattle.std.specs.Option.{option_and_then}
use Rattle.std.specs.Ordering.{nat_cmp, is_lt}
use Rattle.std.specs.Cmp.Lexicographic.{slice_cmp}
use Rattle.ct_base.specs.Limits.{token_limit, stream_limit}
use Rattle.q_tree.specs.declared.flats.Slot.{Slot}
use Rattle.q_tree.specs.declared.flats.Slot.TheVariants.{Any, Takes}
use Rattle.q_tree.specs.declared.flats.Place.{Place}
use Rattle.q_tree.specs.declared.flats.Place.TheVariants.{Field}
use Rattle.q_tree.specs.declared.flats.SumStep.{SumStep}
use Rattle.q_tree.specs.declared.flats.SumStep.TheVariants.{Number, Occurrence, Plus, Minus as Less, Times}
use Rattle.q_tree.specs.ReducedQueries.{Reduced, Term, Both, Weight, Above, Near, Within, Define}

abbrev pub is_between : ℕ → ℕ → ℕ → Bool
is_between lo hi n = nat_le lo n && nat_le n hi

-- ---- slots

-- 1 to 255 bytes
abbrev pub is_key : List ℕ → Bool
is_key key = is_between 1 token_limit (length key)

-- the keys rise strictly, in the order of bytes
abbrev pub slot_keys_rise : List (List ℕ) → Bool
slot_keys_rise [] = true
slot_keys_rise (k ∷ []) = true
slot_keys_rise (k ∷ l ∷ ks) = is_lt (slice_cmp nat_cmp k l) && slot_keys_rise (l ∷ ks)

-- a slot that isn't Any has a key or a pattern, and its keys rise
abbrev pub is_slot : Slot → Bool
is_slot Any = true
is_slot (Takes keys patterns) = nat_le 1 (length keys + length patterns) && slot_keys_rise keys && list_all is_key keys

abbrev pub takes_some : Slot → Bool
takes_some Any = false
takes_some (Takes keys patterns) = true

-- ---- phrases

-- there is a last slot, and it isn't Any
abbrev pub ends_well : List Slot → Bool
ends_well [] = false
ends_well (s ∷ []) = takes_some s
ends_well (s ∷ t ∷ ss) = ends_well (t ∷ ss)

-- neither the first slot nor the last is Any
abbrev pub is_phrase : List Slot → Bool
is_phrase [] = false
is_phrase (s ∷ ss) = takes_some s && ends_well (s ∷ ss) && list_all is_slot (s ∷ ss)

abbrev pub is_term : List (List Slot) → Bool
is_term phrases = nat_le 1 (length phrases) && list_all is_phrase phrases

-- two to 16 terms, and a span of 0 to 100
abbrev pub is_nearness : List (List (List Slot)) → ℕ → Bool
is_nearness operands span = is_between 2 16 (length operands) && list_all is_term operands && nat_le span 100

-- ---- sums in postfix form

abbrev pub is_operator : SumStep → Bool
is_operator Plus = true
is_operator Less = true
is_operator Times = true
is_operator s = false

abbrev pub operators : List SumStep → ℕ
operators [] = 0
operators (s ∷ ss) = (if is_operator s then 1 else 0) + operators ss

abbrev pub is_step : SumStep → Bool
is_step (Number n) = nat_le n 1000
is_step s = true

-- how many values there are after a step; none where an operator finds fewer than two
abbrev pub values_after : Bool → ℕ → Option ℕ
values_after false n = Some (n + 1)
values_after true zero = None
values_after true (suc zero) = None
values_after true (suc (suc n)) = Some (suc n)

-- how many there are after steps, where `n` were there before
abbrev pub values : List SumStep → ℕ → Option ℕ
values [] n = Some n
values (s ∷ ss) n = option_and_then (values ss) (values_after (is_operator s) n)

abbrev pub is_one : Option ℕ → Bool
is_one None = false
is_one (Some n) = eqb n 1

-- one value is left, of at most eight operators and of numbers up to 1000: the postfix form of one sum, as `Sums.antt` says
abbrev pub is_sum : List SumStep → Bool
is_sum steps = is_one (values steps 0) && nat_le (operators steps) 8 && list_all is_step steps

-- ---- queries

abbrev pub is_place : Place → Bool
is_place (Field stream) = is_between 1 stream_limit stream
is_place p = true

-- WHETHER A REDUCED QUERY IS SOUND
abbrev pub is_sound : Reduced → Bool
is_sound (Term phrases) = is_term phrases
is_sound (Both op a b) = is_sound a && is_sound b
is_sound (Weight w a) = is_between 1 100 w && is_sound a
is_sound (Above n a) = nat_le n 100 && is_sound a
is_sound (Near operands span ordered) = is_nearness operands span
is_sound (Within place a) = is_place place && is_sound a
is_sound (Define phrases sum) = is_term phrases && is_sum sum

-- ---- computed examples

abbrev a_slot : Slot
a_slot = Takes (codes "a" ∷ []) []

begins_with_any : is_sound (Term ((Any ∷ a_slot ∷ []) ∷ [])) ≡ false
begins_with_any = refl

ends_with_any : is_sound (Term ((a_slot ∷ Any ∷ []) ∷ [])) ≡ false
ends_with_any = refl

any_between : is_sound (Term ((a_slot ∷ Any ∷ a_slot ∷ []) ∷ [])) ≡ true
any_between = refl

no_phrase : is_sound (Term []) ≡ false
no_phrase = refl

keys_of_a_slot : is_slot (Takes (codes "shop" ∷ codes "web" ∷ []) []) ≡ true
keys_of_a_slot = refl

a_key_twice : is_slot (Takes (codes "web" ∷ codes "web" ∷ []) []) ≡ false
a_key_twice = refl

takes_nothing : is_slot (Takes [] []) ≡ false
takes_nothing = refl

one_operand : is_sound (Near (((a_slot ∷ []) ∷ []) ∷ []) 5 false) ≡ false
one_operand = refl

weight_of_none : is_sound (Weight 0 (Term ((a_slot ∷ []) ∷ []))) ≡ false
weight_of_none = refl

field_65 : is_sound (Within (Field 65) (Term ((a_slot ∷ []) ∷ []))) ≡ false
field_65 = refl

-- OCCURRENCE * 10 + 5
a_sum : is_sum (Occurrence ∷ Number 10 ∷ Times ∷ Number 5 ∷ Plus ∷ []) ≡ true
a_sum = refl

no_sum : is_sum (Number 10 ∷ Plus ∷ Number 5 ∷ []) ≡ false
no_sum = refl

two_sums : is_sum (Number 10 ∷ Number 5 ∷ []) ≡ false
two_sums = refl

too_great : is_sum (Number 1001 ∷ []) ≡ false
too_great = refl
