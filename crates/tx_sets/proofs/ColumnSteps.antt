-- How the columns of a text are read one after the other.
use Rattle.std.proofs.Common.{◌≡◌, ℕ, ◌+◌, ◌<◌, Bool, true, false, cond, List, [], ◌∷◌, ◌++◌, drop, length, take, Option, Some, None, refl, sym, ap, ◌∙◌, arith}
use denote.Ref.{Bor}
use Rattle.std.specs.Prelude.{suc, ◌==◌, not, MatchOption}
use Rattle.std.specs.Option.{option_map}
use Rattle.std.specs.List.{after_first, before_first, position_or_len}
use Rattle.tx_sets.specs.Columns.{between_commas, onto_first_text}

-- ---- what a comma parts

abbrev is_comma : ℕ → Bool
is_comma b = b == 44

-- the place of the first comma, by whether the first byte is one, and by the bytes behind it
abbrev place : Bool → List ℕ → ℕ
place c bs = cond (not c) (1 + position_or_len is_comma bs) 0

-- without a comma the text is one
pub no_comma : (text : List ℕ) → position_or_len is_comma text ≡ length text → between_commas text ≡ text ∷ []
no_comma [] none = refl
no_comma (b ∷ bs) none = go (is_comma b) none (no_comma bs)
  where
    go : (c : Bool) → place c bs ≡ length (b ∷ bs) → (position_or_len is_comma bs ≡ length bs → between_commas bs ≡ bs ∷ []) → cond c ([] ∷ between_commas bs) (onto_first_text b (between_commas bs)) ≡ (b ∷ bs) ∷ []
    go true none later = absurd (omega (arith, none))
    go false none later = ap (onto_first_text b) (later (omega (arith, none)))

-- else the first comma parts it
pub first_comma : (text : List ℕ) → position_or_len is_comma text < length text → between_commas text ≡ before_first is_comma text ∷ between_commas (after_first is_comma text)
first_comma [] some = absurd (omega (arith, some))
first_comma (b ∷ bs) some = go (is_comma b) some (first_comma bs)
  where
    go : (c : Bool) → place c bs < length (b ∷ bs)
        → (position_or_len is_comma bs < length bs → between_commas bs ≡ before_first is_comma bs ∷ between_commas (after_first is_comma bs))
        → cond c ([] ∷ between_commas bs) (onto_first_text b (between_commas bs)) ≡ take (place c bs) (b ∷ bs) ∷ between_commas (drop (place c bs + 1) (b ∷ bs))
    go true some later = refl
    go false some later =
        let behind = position_or_len is_comma bs in
        let one : 1 + behind ≡ suc behind = omega arith in
        let two : 1 + behind + 1 ≡ suc (behind + 1) = omega arith in
        ap (onto_first_text b) (later (omega (arith, some))) ∙ (λ i. take (sym one i) (b ∷ bs) ∷ between_commas (drop (sym two i) (b ∷ bs)))

-- by what a search for a comma found
pub parted : (text : List ℕ) (found : Option (Bor (List ℕ) × Bor (List ℕ)))
    → MatchOption found (position_or_len is_comma text ≡ length text) (λ x. (position_or_len is_comma text < length text) × (x.0.now ≡ before_first is_comma text) × (x.1.now ≡ after_first is_comma text))
    → MatchOption found (between_commas text ≡ text ∷ []) (λ x. between_commas text ≡ x.0.now ∷ between_commas x.1.now)
parted text None none = no_comma text none
parted text (Some x) is = first_comma text is.0 ∙ (λ i. sym is.1 i ∷ between_commas (sym is.2 i))

-- ---- the names so far, with those of the rest

abbrev pub onto : List (List ℕ) → Option (List (List ℕ)) → Option (List (List ℕ))
onto names rest = option_map (λ ns. names ++ ns) rest
