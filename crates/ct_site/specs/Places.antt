-- The calls of `hear` as a site in memory keeps them: by how much of the script was taken, and how much was said.
use Rattle.std.specs.Prelude.{◌≡◌, ℕ, ◌≤◌, Bool, true, false, List, [], ◌∷◌, ◌++◌, length, map, drop, take, codes, refl}
use Rattle.std.proofs.Common.{ap, ◌∙◌, arith, length-append}
use Rattle.std.proofs.lemmas.List.{take_all, take-append-le, map-append}
use Rattle.ct_site.specs.Histories.{DiskChange, said_in, said_by, said_by-push}
use Rattle.ct_site.specs.Hearings.{Hearing, with_present}
use Rattle.ct_site.specs.declared.places.Place.{Place}

-- The call at a place, over this script, where this has been said.
abbrev pub hearing_at : List ℕ → List ℕ → Place → Hearing
hearing_at script said p = record { left = drop p.taken script; said = take p.said said }

abbrev pub hearings_at : List ℕ → List ℕ → List Place → List Hearing
hearings_at script said places = map (hearing_at script said) places

-- places, and then one more, if that is to be kept
abbrev pub with_kept_place : List Place → Bool → Place → List Place
with_kept_place earlier false p = earlier
with_kept_place earlier true p = earlier ++ p ∷ []

pub hearings_at-with : (script said : List ℕ) (earlier : List Place) (kept : Bool) (p : Place) → p.said ≡ length said
    → hearings_at script said (with_kept_place earlier kept p) ≡ with_present (hearings_at script said earlier) kept (drop p.taken script) said
hearings_at-with script said earlier false p all = refl
hearings_at-with script said earlier true p all =
    map-append (hearing_at script said) earlier (p ∷ [])
    ∙ ap (λ (l : List ℕ). hearings_at script said earlier ++ record { left = drop p.taken script; said = l } ∷ []) (take_all p.said said (omega (arith, all)))

-- at each place no more was said than this
abbrev pub AreUpTo : ℕ → List Place → Type 0
AreUpTo n [] = Unit {0}
AreUpTo n (p ∷ ps) = (p.said ≤ n) × AreUpTo n ps

-- what is said later is nothing to them
pub hearings_at-said : (script said more : List ℕ) (places : List Place) → AreUpTo (length said) places → hearings_at script (said ++ more) places ≡ hearings_at script said places
hearings_at-said script said more [] within = refl
hearings_at-said script said more (p ∷ ps) within = λ i. (record { left = drop p.taken script; said = take-append-le p.said said more within.0 i }) ∷ hearings_at-said script said more ps within.1 i

pub up_to_more : (n m : ℕ) (places : List Place) → n ≤ m → AreUpTo n places → AreUpTo m places
up_to_more n m [] h within = tt
up_to_more n m (p ∷ ps) h within = (omega (arith, within.0, h), up_to_more n m ps h within.1)

up_to_push : (n : ℕ) (places : List Place) (p : Place) → p.said ≤ n → AreUpTo n places → AreUpTo n (places ++ p ∷ [])
up_to_push n [] p h within = (h, tt)
up_to_push n (q ∷ ps) p h within = (within.0, up_to_push n ps p h within.1)

pub up_to_with : (n : ℕ) (places : List Place) (kept : Bool) (p : Place) → p.said ≤ n → AreUpTo n places → AreUpTo n (with_kept_place places kept p)
up_to_with n places false p h within = within
up_to_with n places true p h within = up_to_push n places p h within

-- a call more that is logged changes none of them
pub hearings_at-push : (script : List ℕ) (log : List DiskChange) (c : DiskChange) (places : List Place) → AreUpTo (length (said_by log)) places
    → hearings_at script (said_by (log ++ c ∷ [])) places ≡ hearings_at script (said_by log) places
hearings_at-push script log c places within = ap (λ (l : List ℕ). hearings_at script l places) (said_by-push log c) ∙ hearings_at-said script (said_by log) (said_in c) places within

pub up_to_log : (log : List DiskChange) (c : DiskChange) (places : List Place) → AreUpTo (length (said_by log)) places → AreUpTo (length (said_by (log ++ c ∷ []))) places
up_to_log log c places within = up_to_more (length (said_by log)) (length (said_by (log ++ c ∷ []))) places (omega (arith, ap length (said_by-push log c), length-append (said_by log) (said_in c))) within

-- ---- computed examples
second_line : hearing_at (codes "a;\nb;\n") (codes "ok\nok\n") (record { taken = 3; said = 3 }) ≡ record { left = codes "b;\n"; said = codes "ok\n" }
second_line = refl
