-- The starts of a phrase, found by the positions of one of its slots.
use Rattle.std.proofs.Common.{ℕ, zero, suc, ◌⊎◌, inl, inr, ◌≡◌, ◌≤◌, ◌<◌, ◌+◌, ◌-◌, ◌&&◌, ◌||◌, nat_le, eqb, Bool, true, false, cond, List, [], ◌∷◌, Option, Some, None, map, length, get_or, refl, sym, ap, subst, ◌∙◌, arith}
use Rattle.std.specs.List.{filter}
use Rattle.std.proofs.lemmas.Bool.{cases_lt, and_parts, eqb-true, eq-eqb, ne_eqb, leb-true, leb-false, le-leb}
use Rattle.std.proofs.lemmas.Bool.Decides.{nat_tests}
use Rattle.ct_base.specs.laws.Bools.{same_tests}
use Rattle.ix_spans.specs.Occurrences.{has_number, Slots, fits_at, occurs_at, is_start, phrase_starts}
use Rattle.ix_spans.specs.Rising.{Above, Rising, is_between_places, moved_back}
use Rattle.ix_spans.specs.Slots.{SlotRises, SlotsRise, is_shorter, IsShortest, starts_at}
use Rattle.ix_spans.specs.laws.Rising.{above_rises, filter_rises, one_list}
use Rattle.ix_spans.specs.laws.Starts.{has_filter, starts_are, starts_rise}

-- ---- positions moved back

moved_one : (p j n : ℕ) → j ≤ p → eqb (p - j) n ≡ eqb p (n + j)
moved_one p j n le =
    same_tests (eqb (p - j) n) (eqb p (n + j))
    (λ h. let is = eqb-true (p - j) n h in eq-eqb p (n + j) (omega (arith, is, le)))
    (λ h. let is = eqb-true p (n + j) h in eq-eqb (p - j) n (omega (arith, is, le)))

has_moved : (j : ℕ) (ps : List ℕ) (n : ℕ) → has_number (moved_back j ps) n ≡ has_number ps (n + j)
has_moved j [] n = refl
has_moved j (p ∷ ps) n = go (nat_le j p) refl (has_moved j ps n)
  where
    go : (b : Bool) → nat_le j p ≡ b → has_number (moved_back j ps) n ≡ has_number ps (n + j) → has_number (map (λ q. q - j) (cond b (p ∷ filter (λ q. nat_le j q) ps) (filter (λ q. nat_le j q) ps))) n ≡ (eqb p (n + j) || has_number ps (n + j))
    go true is rest = rw (moved_one p j n (leb-true j p is), rest) refl
    go false is rest = let less = leb-false j p is in rw (ne_eqb p (n + j) (λ e. omega (arith, e, less))) rest

moved_above : (j m : ℕ) (ps : List ℕ) → j ≤ m → Above m ps → Above (m - j) (moved_back j ps)
moved_above j m [] le h = tt
moved_above j m (p ∷ ps) le h = let f = h.0 in rw (le-leb j p (omega (arith, le, f))) (omega (arith, le, f), moved_above j p ps (omega (arith, le, f)) h.1)

moved_rises : (j : ℕ) (ps : List ℕ) → Rising ps → Rising (moved_back j ps)
moved_rises j [] h = tt
moved_rises j (p ∷ ps) h = go (moved_rises j ps (above_rises p ps h)) (nat_le j p) refl
  where
    go : Rising (moved_back j ps) → (b : Bool) → nat_le j p ≡ b → Rising (map (λ q. q - j) (cond b (p ∷ filter (λ q. nat_le j q) ps) (filter (λ q. nat_le j q) ps)))
    go rest true is = moved_above j p ps (leb-true j p is) h
    go rest false is = rest

-- ---- a slot among the others

pub rise_at : (ss : Slots) (j : ℕ) (ps : List ℕ) → SlotsRise ss → get_or ss j None ≡ Some ps → Rising ps
rise_at [] j ps h is = cc
rise_at (s ∷ ss) zero ps h is = subst SlotRises is h.0
rise_at (s ∷ ss) (suc j) ps h is = rise_at ss j ps h.1 is

place_within : (ss : Slots) (j : ℕ) (ps : List ℕ) → get_or ss j None ≡ Some ps → j < length ss
place_within [] j ps is = cc
place_within (s ∷ ss) zero ps is = omega arith
place_within (s ∷ ss) (suc j) ps is = let rest = place_within ss j ps is in omega (arith, rest)

fits_by : (ss : Slots) (p j : ℕ) (ps : List ℕ) → occurs_at ss p ≡ true → get_or ss j None ≡ Some ps → has_number ps (p + j) ≡ true
fits_by [] p j ps h is = cc
fits_by (s ∷ ss) p zero ps h is =
    let place : p + 0 ≡ p = omega arith in
    ap (has_number ps) place ∙ ap (λ t. fits_at t p) (sym is) ∙ (and_parts (fits_at s p) (occurs_at ss (p + 1)) h).0
fits_by (s ∷ ss) p (suc j) ps h is =
    let place : p + suc j ≡ p + 1 + j = omega arith in
    ap (has_number ps) place ∙ fits_by ss (p + 1) j ps (and_parts (fits_at s p) (occurs_at ss (p + 1)) h).1 is

both : (a b : Bool) → a ≡ true → b ≡ true → (a && b) ≡ true
both a b h k = rw (h, k) refl

idle : (a b : Bool) → (b ≡ true → a ≡ true) → (a && b) ≡ b
idle true b h = refl
idle false true h = h refl
idle false false h = refl

-- where a phrase starts, each slot takes its place, which lies within lo to hi
slot_fits : (ss : Slots) (lo hi j : ℕ) (ps : List ℕ) (n : ℕ) → get_or ss j None ≡ Some ps → starts_at ss lo hi n ≡ true → (has_number ps (n + j) && is_between_places lo hi (n + j)) ≡ true
slot_fits [] lo hi j ps n is h = cc
slot_fits (None ∷ rest) lo hi j ps n is h = cc
slot_fits (Some qs ∷ rest) lo hi j ps n is h =
    let a = and_parts (has_number qs n) (is_start rest lo hi n) h in
    let b = and_parts (nat_le lo n && nat_le (n + length rest) hi) (occurs_at rest (n + 1)) a.1 in
    let c = and_parts (nat_le lo n) (nat_le (n + length rest) hi) b.0 in
    let low = leb-true lo n c.0 in
    let high = leb-true (n + length rest) hi c.1 in
    let within = place_within (Some qs ∷ rest) j ps is in
    both (has_number ps (n + j)) (is_between_places lo hi (n + j))
    (fits_by (Some qs ∷ rest) n j ps (both (has_number qs n) (occurs_at rest (n + 1)) a.0 b.1) is)
    (both (nat_le lo (n + j)) (nat_le (n + j) hi) (le-leb lo (n + j) (omega (arith, low))) (le-leb (n + j) hi (omega (arith, high, within))))

-- ---- a shortest slot

same_length : (s : Option (List ℕ)) → is_shorter s s ≡ false
same_length None = refl
same_length (Some ps) = grind (arith, nat_tests)

not_shorter : (s t x : Option (List ℕ)) → is_shorter s t ≡ false → is_shorter x t ≡ true → is_shorter s x ≡ false
not_shorter None t x h k = refl
not_shorter (Some ps) None x h k = cc
not_shorter (Some ps) (Some qs) None h k = cc
not_shorter (Some ps) (Some qs) (Some rs) h k = grind (arith, nat_tests, h, k)

-- none of the slots so far is shorter than the one at a place
abbrev pub Least : Slots → ℕ → ℕ → Type 0
Least ss count at = (k : ℕ) → k < count → is_shorter (get_or ss k None) (get_or ss at None) ≡ false

pub least_stays : (ss : Slots) (count at : ℕ) → Least ss count at → is_shorter (get_or ss count None) (get_or ss at None) ≡ false → Least ss (count + 1) at
least_stays ss count at least this k h = go (cases_lt k count)
  where
    go : (k < count) ⊎ (count ≤ k) → is_shorter (get_or ss k None) (get_or ss at None) ≡ false
    go (inl l) = least k l
    go (inr l) = let is : count ≡ k = omega (arith, l, h) in subst (λ n. is_shorter (get_or ss n None) (get_or ss at None) ≡ false) is this

pub least_moves : (ss : Slots) (count at : ℕ) → Least ss count at → is_shorter (get_or ss count None) (get_or ss at None) ≡ true → Least ss (count + 1) count
least_moves ss count at least this k h = go (cases_lt k count)
  where
    go : (k < count) ⊎ (count ≤ k) → is_shorter (get_or ss k None) (get_or ss count None) ≡ false
    go (inl l) = not_shorter (get_or ss k None) (get_or ss at None) (get_or ss count None) (least k l) this
    go (inr l) = let is : count ≡ k = omega (arith, l, h) in subst (λ n. is_shorter (get_or ss n None) (get_or ss count None) ≡ false) is (same_length (get_or ss count None))

-- ---- the starts

has_starts : (ss : Slots) (lo hi n : ℕ) → has_number (phrase_starts ss lo hi) n ≡ starts_at ss lo hi n
has_starts [] lo hi n = refl
has_starts (None ∷ rest) lo hi n = refl
has_starts (Some ps ∷ rest) lo hi n = starts_are ps rest lo hi n

all_rise : (ss : Slots) (lo hi : ℕ) → SlotsRise ss → Rising (phrase_starts ss lo hi)
all_rise [] lo hi h = tt
all_rise (None ∷ rest) lo hi h = tt
all_rise (Some ps ∷ rest) lo hi h = starts_rise ps rest lo hi h.0

-- the positions of any slot that has a list of them give the starts
pub starts_by : (ss : Slots) (lo hi j : ℕ) (ps : List ℕ) → SlotsRise ss → get_or ss j None ≡ Some ps → filter (starts_at ss lo hi) (moved_back j (filter (is_between_places lo hi) ps)) ≡ phrase_starts ss lo hi
starts_by ss lo hi j ps h is =
    one_list (filter (starts_at ss lo hi) (moved_back j (filter (is_between_places lo hi) ps))) (phrase_starts ss lo hi)
    (filter_rises (starts_at ss lo hi) (moved_back j (filter (is_between_places lo hi) ps)) (moved_rises j (filter (is_between_places lo hi) ps) (filter_rises (is_between_places lo hi) ps (rise_at ss j ps h is))))
    (all_rise ss lo hi h)
    (λ n. has_filter (starts_at ss lo hi) (moved_back j (filter (is_between_places lo hi) ps)) n
    ∙ ap (λ t. t && starts_at ss lo hi n) (has_moved j (filter (is_between_places lo hi) ps) n ∙ has_filter (is_between_places lo hi) ps (n + j))
    ∙ idle (has_number ps (n + j) && is_between_places lo hi (n + j)) (starts_at ss lo hi n) (slot_fits ss lo hi j ps n is)
    ∙ sym (has_starts ss lo hi n))

-- where even a shortest slot takes every position, no phrase starts
pub starts_nowhere : (ss : Slots) (lo hi j : ℕ) → IsShortest ss j → get_or ss j None ≡ None → phrase_starts ss lo hi ≡ []
starts_nowhere [] lo hi j h is = refl
starts_nowhere (None ∷ rest) lo hi j h is = refl
starts_nowhere (Some ps ∷ rest) lo hi j h is = let wrong : true ≡ false = sym (ap (is_shorter (Some ps)) is) ∙ h.least 0 (omega arith) in cc
