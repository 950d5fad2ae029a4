-- The places of strings, and that a directory names as many entries as there are.
use Rattle.std.specs.Prelude.{map}
use Rattle.std.proofs.Common.{◌≡◌, ⊎_elim, ℕ, zero, suc, ◌+◌, ◌-◌, ◌≤◌, List, [], ◌∷◌, ◌++◌, length, length-append, get_or, ap, subst, ◌∙◌, append_assoc, arith}
use Rattle.std.specs.List.{Contains}
use Rattle.std.proofs.lemmas.List.Elements.{Contains-append_cases}
use Rattle.pg_map.specs.Kinds.{Free, strings_of}
use Rattle.pg_directory.specs.declared.entries.Child.{Child}
use Rattle.pg_directory.specs.declared.entries.EntryAt.{EntryAt}
use Rattle.pg_directory.specs.Counting.{slots_on, places_from}
use Rattle.pg_directory.specs.Levels.{HasLevels}
use Rattle.pg_directory.specs.Trees.{StorePage, Plain, kind_of, key_at, strings_at, HasString}
use Rattle.pg_directory.specs.laws.Counting.{few, is_place, length-places, rising_differ}
use Rattle.pg_directory.specs.laws.Listing.{none_in, in_more, each_in}
use Rattle.pg_directory.specs.laws.Opening.{at_front, places_differ}

slot_has : (pages : List StorePage) (page n : ℕ) (e : EntryAt) → 3 ≤ page → n ≤ length (strings_at pages page) → Contains (slots_on page n) e → HasString pages e
slot_has pages page zero e low most has = absurd (none_in e has)
slot_has pages page (suc n) e low most has = ⊎_elim
    (λ before. slot_has pages page n e low (omega (arith, most)) before)
    (λ last. ⊎_elim
    (λ is. subst (HasString pages) is (record { low = low; less = omega (arith, most) }))
    (λ none. absurd (none_in e none)) (in_more (record { page = page; slot = n }) e [] last))
    (Contains-append_cases (slots_on page n) (record { page = page; slot = n } ∷ []) e has)

pub place_has : (front pages : List StorePage) (e : EntryAt) → Contains (places_from (3 + length front) pages) e → HasString (front ++ pages) e
place_has front [] e has = absurd (none_in e has)
place_has front (p ∷ pages) e has =
    let own = strings_of (kind_of p ∷ []) in
    let n : (3 + length front) - 3 ≡ length front = omega arith in
    let here : strings_at (front ++ p ∷ pages) (3 + length front) ≡ own =
    ap (λ (k : ℕ). strings_of (kind_of (get_or (front ++ p ∷ pages) k (Plain Free)) ∷ [])) n ∙ ap (λ (q : StorePage). strings_of (kind_of q ∷ [])) (at_front front pages p) in
    let list : (front ++ p ∷ []) ++ pages ≡ front ++ p ∷ pages = append_assoc front (p ∷ []) pages in
    let long : suc (3 + length front) ≡ 3 + length (front ++ p ∷ []) = omega (arith, length-append front (p ∷ [])) in
    ⊎_elim
    (λ mine. slot_has (front ++ p ∷ pages) (3 + length front) (length own) e (omega arith) (let l = ap (λ (x : List (List ℕ)). length x) here in omega (arith, l)) mine)
    (λ later. subst (λ (l : List StorePage). HasString l e) list (place_has (front ++ p ∷ []) pages e (subst (λ (k : ℕ). Contains (places_from k pages) e) long later)))
    (Contains-append_cases (slots_on (3 + length front) (length own)) (places_from (suc (3 + length front)) pages) e has)

pub as_many_entries : (pages : List StorePage) (top : ℕ) (inner : List ℕ) (leaves : List Child) (es : List EntryAt) → HasLevels pages top inner leaves es → length es ≡ length (strings_of (map kind_of pages))
as_many_entries pages top inner leaves es h =
    let count = length-places 3 pages in
    let most = few es (places_from 3 pages) (rising_differ (key_at pages) es h.order) (λ e has. is_place pages e (each_in (HasString pages) es e h.strings has)) in
    let least = few (places_from 3 pages) es (places_differ 3 pages) (λ e has. h.all e (place_has [] pages e has)) in
    omega (arith, count, most, least)
