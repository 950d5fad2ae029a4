-- The slots at the end of a phrase that take any word.
use Rattle.std.proofs.Common.{◌≡◌, ◌+◌, ◌<◌, ℕ, Bool, true, false, List, [], ◌∷◌, ◌++◌, length, take, get_or, suc, append_assoc, refl, sym, ap, ◌∙◌}
use lib.ListN.{replicate}
use Rattle.std.specs.List.{list_all}
use Rattle.std.proofs.lemmas.Bool.{and_parts, and_from}
use Rattle.std.proofs.lemmas.List.{take_more}
use Rattle.q_tree.specs.declared.flats.Slot.{Slot}
use Rattle.q_tree.specs.declared.flats.Slot.TheVariants.{Any, Takes}
use Rattle.q_tree.specs.Soundness.{takes_some, ends_well}
use Rattle.q_reduce.specs.Reducing.{front_dropped, end_dropped, unless_last_any, trimmed}
use Rattle.q_reduce.specs.Promises.{IsTrimmed, OnlyAnyIsDropped}

-- before a slot that isn't the last, each slot stays
pub stays : (slot : Slot) (slots : List Slot) (s : Slot) → unless_last_any slot (slots ++ s ∷ []) ≡ slot ∷ slots ++ s ∷ []
stays Any [] s = refl
stays Any (t ∷ slots) s = refl
stays (Takes keys patterns) slots s = refl

pub end_kept : (slots : List Slot) (s : Slot) → takes_some s ≡ true → end_dropped (slots ++ s ∷ []) ≡ slots ++ s ∷ []
end_kept [] Any some = absurd (cc)
end_kept [] (Takes keys patterns) some = refl
end_kept (slot ∷ slots) s some = ap (unless_last_any slot) (end_kept slots s some) ∙ stays slot slots s

pub end_passed : (slots : List Slot) (s : Slot) → takes_some s ≡ false → end_dropped (slots ++ s ∷ []) ≡ end_dropped slots
end_passed [] Any none = refl
end_passed [] (Takes keys patterns) none = absurd (cc)
end_passed (slot ∷ slots) s none = ap (unless_last_any slot) (end_passed slots s none)

-- one slot more, which isn't Any
pub end_here : (slots : List Slot) (i end : ℕ) (s : Slot) → i < length slots → s ≡ get_or slots i s → takes_some s ≡ true → end ≡ i + 1 → take end slots ≡ end_dropped (take (i + 1) slots)
end_here slots i end s within is some at =
    let more = take_more slots i s within ∙ ap (λ (t : Slot). take i slots ++ t ∷ []) (sym is) in
    ap (λ n. take n slots) at ∙ more ∙ sym (end_kept (take i slots) s some) ∙ ap end_dropped (sym more)

-- one that is
pub end_before : (slots : List Slot) (i end : ℕ) (s : Slot) → i < length slots → s ≡ get_or slots i s → takes_some s ≡ false → take end slots ≡ end_dropped (take i slots) → take end slots ≡ end_dropped (take (i + 1) slots)
end_before slots i end s within is none before =
    let more = take_more slots i s within ∙ ap (λ (t : Slot). take i slots ++ t ∷ []) (sym is) in
    before ∙ sym (end_passed (take i slots) s none) ∙ ap end_dropped (sym more)

-- ---- what holds of all slots, and of the first and the last that are left

all_front : (p : Slot → Bool) (slots : List Slot) → list_all p slots ≡ true → list_all p (front_dropped slots) ≡ true
all_front p [] all = refl
all_front p (Any ∷ slots) all = all_front p slots (and_parts (p Any) (list_all p slots) all).1
all_front p (Takes keys patterns ∷ slots) all = all

all_unless : (p : Slot → Bool) (slot : Slot) (slots : List Slot) → p slot ≡ true → list_all p slots ≡ true → list_all p (unless_last_any slot slots) ≡ true
all_unless p Any [] here all = refl
all_unless p Any (s ∷ slots) here all = and_from _ _ here all
all_unless p (Takes keys patterns) slots here all = and_from _ _ here all

all_end : (p : Slot → Bool) (slots : List Slot) → list_all p slots ≡ true → list_all p (end_dropped slots) ≡ true
all_end p [] all = refl
all_end p (slot ∷ slots) all =
    let parts = and_parts (p slot) (list_all p slots) all in
    all_unless p slot (end_dropped slots) parts.0 (all_end p slots parts.1)

pub all_trimmed : (p : Slot → Bool) (slots : List Slot) → list_all p slots ≡ true → list_all p (trimmed slots) ≡ true
all_trimmed p slots all = all_end p (front_dropped slots) (all_front p slots all)

-- the last isn't Any, if there is one
abbrev pub EndsWell : List Slot → Type 0
EndsWell [] = Unit {0}
EndsWell (slot ∷ slots) = ends_well (slot ∷ slots) ≡ true

ends_unless : (slot : Slot) (slots : List Slot) → EndsWell slots → EndsWell (unless_last_any slot slots)
ends_unless Any [] ends = tt
ends_unless Any (s ∷ slots) ends = ends
ends_unless (Takes keys patterns) [] ends = refl
ends_unless (Takes keys patterns) (s ∷ slots) ends = ends

ends_end : (slots : List Slot) → EndsWell (end_dropped slots)
ends_end [] = tt
ends_end (slot ∷ slots) = ends_unless slot (end_dropped slots) (ends_end slots)

-- neither is the first
pub trimmed_ends : (slots : List Slot) → IsTrimmed (trimmed slots)
trimmed_ends [] = tt
trimmed_ends (Any ∷ slots) = trimmed_ends slots
trimmed_ends (Takes keys patterns ∷ slots) = (refl, ends_unless (Takes keys patterns) (end_dropped slots) (ends_end slots))

-- ---- what is dropped

front_any : (slots : List Slot) → (n : ℕ) × (slots ≡ replicate n Any ++ front_dropped slots)
front_any [] = (0, refl)
front_any (Any ∷ slots) = let more = front_any slots in (suc more.0, ap (λ (l : List Slot). Any ∷ l) more.1)
front_any (Takes keys patterns ∷ slots) = (0, refl)

end_step : (slot : Slot) (slots kept : List Slot) (m : ℕ) → slots ≡ kept ++ replicate m Any → (n : ℕ) × (slot ∷ slots ≡ unless_last_any slot kept ++ replicate n Any)
end_step Any slots [] m is = (suc m, ap (λ (l : List Slot). Any ∷ l) is)
end_step Any slots (s ∷ kept) m is = (m, ap (λ (l : List Slot). Any ∷ l) is)
end_step (Takes keys patterns) slots kept m is = (m, ap (λ (l : List Slot). Takes keys patterns ∷ l) is)

end_any : (slots : List Slot) → (m : ℕ) × (slots ≡ end_dropped slots ++ replicate m Any)
end_any [] = (0, refl)
end_any (slot ∷ slots) = let more = end_any slots in end_step slot slots (end_dropped slots) more.0 more.1

pub only_any_dropped : OnlyAnyIsDropped
only_any_dropped slots =
    let front = front_any slots in
    let end = end_any (front_dropped slots) in
    (front.0, end.0, front.1 ∙ ap (λ (l : List Slot). replicate front.0 Any ++ l) end.1 ∙ sym (append_assoc (replicate front.0 Any) (trimmed slots) (replicate end.0 Any)))
