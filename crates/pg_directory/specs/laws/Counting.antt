-- Entries whose keys rise are different ones; so where there are as many as strings on pages, they are all.
use Rattle.std.proofs.Common.{◌≡◌, ◌≢◌, ◌⊎◌, inl, inr, ⊎_elim, ℕ, zero, suc, ◌+◌, ◌-◌, ◌≤◌, ◌<◌, List, [], ◌∷◌, ◌++◌, length, length-append, get_or, refl, sym, ap, subst, ◌∙◌, arith}
use Rattle.std.specs.Prelude.{map}
use Rattle.std.specs.List.{Contains}
use Rattle.std.proofs.lemmas.Bool.{cases_lt, false≢true}
use Rattle.std.proofs.lemmas.Cmp.{nat_list_cmp_total}
use Rattle.std.proofs.lemmas.List.Elements.{Contains-append_left, Contains-append_right, Contains-append_cases}
use Rattle.std.specs.Ordering.{nat_cmp, is_lt}
use Rattle.std.specs.Cmp.Lexicographic.{slice_cmp}
use Rattle.ct_base.specs.laws.Orders.{not_back}
use Rattle.pg_map.specs.Kinds.{Each, Free, strings_of}
use Rattle.pg_map.specs.laws.MapReading.{strings-cons}
use Rattle.pg_directory.specs.declared.entries.EntryAt.{EntryAt}
use Rattle.pg_directory.specs.Trees.{StorePage, Plain, kind_of, key_at, HasString, IsBelow, Rise}
use Rattle.pg_directory.specs.Counting.{slots_on, places_from}
use Rattle.pg_directory.specs.laws.Listing.{none_in, in_more, first_in, each_in}

-- ---- different elements, as many as there are

-- No element comes twice.
abbrev pub Differ : {X : Type 0} → List X → Type 0
Differ [] = Unit {0}
Differ (x ∷ xs) = Each (λ y. x ≢ y) xs × Differ xs

record IsAmong {X : Type 0} (x : X) (xs : List X) : Type 0 where
  us : List X
  vs : List X
  is : xs ≡ us ++ x ∷ vs

among : {X : Type 0} (x : X) (xs : List X) → Contains xs x → IsAmong x xs
among x [] has = absurd (none_in x has)
among x (y ∷ ys) has = ⊎_elim
    (λ here. record { us = []; vs = ys; is = ap (λ z. z ∷ ys) here })
    (λ more. let r = among x ys more in record { us = y ∷ r.us; vs = r.vs; is = ap (λ l. y ∷ l) r.is })
    (in_more y x ys has)

-- an element is this one, or one of the others
is_or_other : {X : Type 0} (x y : X) (us vs : List X) → Contains (us ++ x ∷ vs) y → (x ≡ y) ⊎ Contains (us ++ vs) y
is_or_other x y us vs has = ⊎_elim
    (λ left. inr (Contains-append_left us vs y left))
    (λ right. ⊎_elim (λ here. inl here) (λ later. inr (Contains-append_right us vs y later)) (in_more x y vs right))
    (Contains-append_cases us (x ∷ vs) y has)

-- Different elements of a list, as many as it has, are all of them.
pub covers : {X : Type 0} (es ps : List X) → Differ es → ((x : X) → Contains es x → Contains ps x) → length ps ≤ length es → (x : X) → Contains ps x → Contains es x
covers [] [] differ within most x has = has
covers [] (p ∷ ps) differ within most x has = absurd (omega (arith, most))
covers (e ∷ es) ps differ within most x has =
    let a = among e ps (within e (first_in e es)) in
    let long : length ps ≡ suc (length (a.us ++ a.vs)) = ap (λ l. length l) a.is ∙ omega (arith, length-append a.us (e ∷ a.vs), length-append a.us a.vs) in
    let others = covers es (a.us ++ a.vs) differ.1
    (λ y there. ⊎_elim (λ same. absurd (each_in (λ z. e ≢ z) es y differ.0 there same)) (λ other. other)
    (is_or_other e y a.us a.vs (subst (λ l. Contains l y) a.is (within y (Contains-append_right (e ∷ []) es y there)))))
    (omega (arith, most, long)) in
    ⊎_elim
    (λ same. subst (Contains (e ∷ es)) same (first_in e es))
    (λ other. Contains-append_right (e ∷ []) es x (others x other))
    (is_or_other e x a.us a.vs (subst (λ l. Contains l x) a.is has))

-- Different elements of a list are no more than it has.
pub few : {X : Type 0} (es ps : List X) → Differ es → ((x : X) → Contains es x → Contains ps x) → length es ≤ length ps
few [] ps differ within = omega arith
few (e ∷ es) ps differ within =
    let a = among e ps (within e (first_in e es)) in
    let long : length ps ≡ suc (length (a.us ++ a.vs)) = ap (λ l. length l) a.is ∙ omega (arith, length-append a.us (e ∷ a.vs), length-append a.us a.vs) in
    let rest = few es (a.us ++ a.vs) differ.1 (λ y there. ⊎_elim (λ same. absurd (each_in (λ z. e ≢ z) es y differ.0 there same)) (λ other. other)
    (is_or_other e y a.us a.vs (subst (λ l. Contains l y) a.is (within y (Contains-append_right (e ∷ []) es y there))))) in
    omega (arith, rest, long)

-- ---- places

slot_in : (page slot n : ℕ) → slot < n → Contains (slots_on page n) (record { page = page; slot = slot })
slot_in page slot zero less = absurd (omega (arith, less))
slot_in page slot (suc n) less = ⊎_elim
    (λ before. Contains-append_left (slots_on page n) (record { page = page; slot = n } ∷ []) (record { page = page; slot = slot }) (slot_in page slot n before))
    (λ last. let same : slot ≡ n = omega (arith, less, last) in
    subst (λ (k : ℕ). Contains (slots_on page n ++ record { page = page; slot = n } ∷ []) (record { page = page; slot = k })) (sym same)
    (Contains-append_right (slots_on page n) (record { page = page; slot = n } ∷ []) (record { page = page; slot = n }) (first_in (record { page = page; slot = n }) [])))
    (cases_lt slot n)

place_in : (pages : List StorePage) (first k slot : ℕ) → slot < length (strings_of (kind_of (get_or pages k (Plain Free)) ∷ [])) → Contains (places_from first pages) (record { page = first + k; slot = slot })
place_in [] first k slot less = absurd (omega (arith, less))
place_in (p ∷ ps) first zero slot less =
    let e : first ≡ first + 0 = omega arith in
    subst (λ (n : ℕ). Contains (places_from first (p ∷ ps)) (record { page = n; slot = slot })) e
    (Contains-append_left (slots_on first (length (strings_of (kind_of p ∷ [])))) (places_from (suc first) ps) (record { page = first; slot = slot }) (slot_in first slot (length (strings_of (kind_of p ∷ []))) less))
place_in (p ∷ ps) first (suc k) slot less =
    let e : suc first + k ≡ first + suc k = omega arith in
    Contains-append_right (slots_on first (length (strings_of (kind_of p ∷ [])))) (places_from (suc first) ps) (record { page = first + suc k; slot = slot })
    (subst (λ (n : ℕ). Contains (places_from (suc first) ps) (record { page = n; slot = slot })) e (place_in ps (suc first) k slot less))

-- each place of a string is one of them
pub is_place : (pages : List StorePage) (e : EntryAt) → HasString pages e → Contains (places_from 3 pages) e
is_place pages e has =
    let n : 3 + (e.page - 3) ≡ e.page = let low = has.low in omega (arith, low) in
    subst (λ (k : ℕ). Contains (places_from 3 pages) (record { page = k; slot = e.slot })) n (place_in pages 3 (e.page - 3) e.slot has.less)

length-slots : (page n : ℕ) → length (slots_on page n) ≡ n
length-slots page zero = refl
length-slots page (suc n) = omega (arith, length-append (slots_on page n) (record { page = page; slot = n } ∷ []), length-slots page n)

-- there are as many as strings
pub length-places : (first : ℕ) (pages : List StorePage) → length (places_from first pages) ≡ length (strings_of (map kind_of pages))
length-places first [] = refl
length-places first (p ∷ ps) =
    let own = strings_of (kind_of p ∷ []) in
    let a = length-append (slots_on first (length own)) (places_from (suc first) ps) in
    let b = length-slots first (length own) in
    let c = length-places (suc first) ps in
    let d = ap (λ (l : List (List ℕ)). length l) (strings-cons (kind_of p) (map kind_of ps)) ∙ length-append own (strings_of (map kind_of ps)) in
    omega (arith, a, b, c, d)

-- ---- entries whose keys rise

pub not_below_itself : (a : List ℕ) → IsBelow a a → ⊥
not_below_itself a less = false≢true (sym (not_back (slice_cmp nat_cmp a a) (slice_cmp nat_cmp a a) (nat_list_cmp_total.antisymm a a) (ap is_lt less)) ∙ ap is_lt less)

pub rising_differ : (key : EntryAt → List ℕ) (es : List EntryAt) → Rise key es → Differ es
rising_differ key [] rise = tt
rising_differ key (e ∷ es) rise = (each_differ es rise.0, rising_differ key es rise.1)
  where
    each_differ : (fs : List EntryAt) → Each (λ (f : EntryAt). IsBelow (key e) (key f)) fs → Each (λ (f : EntryAt). e ≢ f) fs
    each_differ [] each = tt
    each_differ (f ∷ fs) each = (λ same. not_below_itself (key f) (subst (λ (x : EntryAt). IsBelow (key x) (key f)) same each.0), each_differ fs each.1)

-- Places of strings whose keys rise, as many as there are strings, are the places of all.
pub all_named : (pages : List StorePage) (es : List EntryAt) → Each (HasString pages) es → Rise (key_at pages) es → length (strings_of (map kind_of pages)) ≤ length es → (e : EntryAt) → HasString pages e → Contains es e
all_named pages es strings rise most e has =
    let count = length-places 3 pages in
    covers es (places_from 3 pages) (rising_differ (key_at pages) es rise) (λ f there. is_place pages f (each_in (HasString pages) es f strings there)) (omega (arith, count, most)) e (is_place pages e has)
