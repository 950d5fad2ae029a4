-- What is still to come of a text that is squeezed character by character.
use Rattle.std.proofs.Common.{◌≡◌, ℕ, Bool, true, false, cond, List, [], ◌∷◌, ◌++◌, refl, sym, ap, ◌∙◌}
use Rattle.std.specs.Char.{is_whitespace}
use Rattle.th_graph.specs.Terms.{joined_runs, onto_first_run, spaced_runs, spaced, squeezed, without_empty_runs}

-- the first part goes on with what was read, and the others are words with a blank before each
abbrev pub going_on : List (List ℕ) → List ℕ
going_on [] = []
going_on (w ∷ ws) = w ++ spaced (without_empty_runs ws)

-- What is still to be put: nothing was read but white space; or something was, and a blank is due, or not.
abbrev pub rest_of : Bool → Bool → List ℕ → List ℕ
rest_of false gap cs = squeezed cs
rest_of true true cs = spaced (without_empty_runs (spaced_runs cs))
rest_of true false cs = going_on (spaced_runs cs)

-- there is a first part
parts_some : (cs : List ℕ) → (w : List ℕ) × ((ws : List (List ℕ)) × (spaced_runs cs ≡ w ∷ ws))
parts_some [] = ([], ([], refl))
parts_some (c ∷ cs) = go (is_whitespace c) (parts_some cs)
  where
    go : (b : Bool) → ((w : List ℕ) × ((ws : List (List ℕ)) × (spaced_runs cs ≡ w ∷ ws))) → (w : List ℕ) × ((ws : List (List ℕ)) × (cond b ([] ∷ spaced_runs cs) (onto_first_run c (spaced_runs cs)) ≡ w ∷ ws))
    go true rest = ([], (spaced_runs cs, refl))
    go false rest = (c ∷ rest.0, (rest.1.0, ap (onto_first_run c) rest.1.1))

-- white space: the word ends, and a blank is due if there was one
pub white : (begun gap : Bool) (c : ℕ) (cs : List ℕ) → is_whitespace c ≡ true → rest_of begun gap (c ∷ cs) ≡ rest_of begun begun cs
white false gap c cs is = ap (λ (b : Bool). joined_runs (without_empty_runs (cond b ([] ∷ spaced_runs cs) (onto_first_run c (spaced_runs cs))))) is
white true true c cs is = ap (λ (b : Bool). spaced (without_empty_runs (cond b ([] ∷ spaced_runs cs) (onto_first_run c (spaced_runs cs))))) is
white true false c cs is = ap (λ (b : Bool). going_on (cond b ([] ∷ spaced_runs cs) (onto_first_run c (spaced_runs cs)))) is

-- another character: it goes on, behind a blank if one is due
pub black : (begun gap : Bool) (c : ℕ) (cs : List ℕ) → is_whitespace c ≡ false → (begun ≡ false → gap ≡ false) → rest_of begun gap (c ∷ cs) ≡ cond gap (32 ∷ []) [] ++ c ∷ rest_of true false cs
black begun gap c cs is none = go begun gap none (parts_some cs)
  where
    begins : (w : List ℕ) (ws : List (List ℕ)) → spaced_runs cs ≡ w ∷ ws → spaced_runs (c ∷ cs) ≡ (c ∷ w) ∷ ws
    begins w ws e = ap (λ (b : Bool). cond b ([] ∷ spaced_runs cs) (onto_first_run c (spaced_runs cs))) is ∙ ap (onto_first_run c) e

    go : (begun gap : Bool) → (begun ≡ false → gap ≡ false) → ((w : List ℕ) × ((ws : List (List ℕ)) × (spaced_runs cs ≡ w ∷ ws))) → rest_of begun gap (c ∷ cs) ≡ cond gap (32 ∷ []) [] ++ c ∷ rest_of true false cs
    go false true none p = let wrong = none refl in cc
    go false false none p = ap (λ (l : List (List ℕ)). joined_runs (without_empty_runs l)) (begins p.0 p.1.0 p.1.1) ∙ sym (ap (λ (l : List (List ℕ)). c ∷ going_on l) p.1.1)
    go true true none p = ap (λ (l : List (List ℕ)). spaced (without_empty_runs l)) (begins p.0 p.1.0 p.1.1) ∙ sym (ap (λ (l : List (List ℕ)). 32 ∷ c ∷ going_on l) p.1.1)
    go true false none p = ap going_on (begins p.0 p.1.0 p.1.1) ∙ sym (ap (λ (l : List (List ℕ)). c ∷ going_on l) p.1.1)

pub none_left : (begun gap : Bool) → rest_of begun gap [] ≡ []
none_left false gap = refl
none_left true true = refl
none_left true false = refl
