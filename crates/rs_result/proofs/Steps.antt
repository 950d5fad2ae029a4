-- Steps of reading over lists of characters.
use Rattle.std.proofs.Common.{◌≡◌, ℕ, ◌<◌, ◌≤◌, Bool, true, false, cond, List, [], ◌∷◌, ◌++◌, length, map, refl, sym, ap, ◌∙◌, append_assoc, append-nil, arith, Option, Some, None}
use Rattle.std.specs.Char.{is_ascii_digit, is_ascii_alphabetic, is_whitespace, to_ascii_lowercase}
use Rattle.std.specs.Prelude.{◌+◌, ◌*◌, ◌-◌, zero, suc}
use Rattle.std.proofs.lemmas.Bool.{cases_lt}
use Rattle.std.proofs.Common.{inl, inr}
use Rattle.ct_base.specs.Names.{is_name_byte}
use Rattle.rs_result.specs.declared.lexemes.Lexeme.{Lexeme}
use Rattle.rs_result.specs.Lexemes.{run, after_run, value_after, bounded, capped, ◌>>=◌, lexeme_at, lexemes_in, lexemes}

lower_again : (c : ℕ) → to_ascii_lowercase (to_ascii_lowercase c) ≡ to_ascii_lowercase c
lower_again c = grind arith

-- what is in lower case stays as it is there
pub map-lower : (cs : List ℕ) → map to_ascii_lowercase (map to_ascii_lowercase cs) ≡ map to_ascii_lowercase cs
map-lower [] = refl
map-lower (c ∷ cs) = ap (λ x. x ∷ map to_ascii_lowercase (map to_ascii_lowercase cs)) (lower_again c) ∙ ap (λ x. to_ascii_lowercase c ∷ x) (map-lower cs)

-- what follows a run is no longer
pub after-shorter : (p : ℕ → Bool) (cs : List ℕ) → length (after_run p cs) ≤ length cs
after-shorter p [] = omega arith
after-shorter p (c ∷ cs) =
    let shorter = after-shorter p cs in
    elim (p c) as (λ b. length (cond b (after_run p cs) (c ∷ cs)) ≤ length (c ∷ cs)) [ true ↦ omega arith | false ↦ omega arith ]

pub letter-word : (c : ℕ) → is_ascii_alphabetic c ≡ true → is_name_byte c ≡ true
letter-word c h = grind arith

pub word-shorter : (text cs : List ℕ) (c : ℕ) → text ≡ c ∷ cs → is_ascii_alphabetic c ≡ true → length (after_run is_name_byte text) < length text
word-shorter text cs c split letter = let shorter = after-shorter is_name_byte cs in rw (split, letter-word c letter) (omega arith)

pub digits-shorter : (text cs : List ℕ) (c : ℕ) → text ≡ c ∷ cs → is_ascii_digit c ≡ true → length (after_run is_ascii_digit text) < length text
digits-shorter text cs c split digit = let shorter = after-shorter is_ascii_digit cs in rw (split, digit) (omega arith)

-- ---- numbers

bounded-capped : (n : ℕ) → bounded (capped n) ≡ bounded n
bounded-capped n = grind arith

capped-large : (n : ℕ) → 100000 < n → capped n ≡ 100001
capped-large n large = grind arith

stays_large : (ds : List ℕ) (n : ℕ) → 100000 < n → 100000 < value_after n ds
stays_large [] n large = large
stays_large (d ∷ ds) n large = stays_large ds (n * 10 + (d - 48)) (omega (arith, large))

capped-small : (n : ℕ) → n ≤ 100000 → capped n ≡ n
capped-small n small = grind arith

-- a number that was capped goes on as the number itself does
pub capped_goes_on : (ds : List ℕ) (n : ℕ) → capped (value_after (capped n) ds) ≡ capped (value_after n ds)
capped_goes_on ds n = elim (cases_lt 100000 n) [
  | inl large ↦ ap (λ k. capped (value_after k ds)) (capped-large n large) ∙ capped-large (value_after 100001 ds) (stays_large ds 100001 (omega arith)) ∙ sym (capped-large (value_after n ds) (stays_large ds n large))
  | inr small ↦ ap (λ k. capped (value_after k ds)) (capped-small n small)
]

-- the same text is the same number, capped or not
pub same_number : (n k : ℕ) → capped n ≡ capped k → bounded n ≡ bounded k
same_number n k same = sym (bounded-capped n) ∙ ap bounded same ∙ bounded-capped k

-- a digit more of a number
pub step-digit : (text cs : List ℕ) (c n : ℕ) (all : ℕ) → text ≡ c ∷ cs → is_ascii_digit c ≡ true → capped (value_after n (run is_ascii_digit text)) ≡ all
    → capped (value_after (capped (n * 10 + (c - 48))) (run is_ascii_digit cs)) ≡ all
step-digit text cs c n all split digit so =
    capped_goes_on (run is_ascii_digit cs) (n * 10 + (c - 48)) ∙ sym (ap (λ x. capped (value_after n (run is_ascii_digit x))) split ∙ rw digit refl) ∙ so

-- no digit more
pub end-digits : (text cs : List ℕ) (c n : ℕ) (all : ℕ) → text ≡ c ∷ cs → is_ascii_digit c ≡ false → capped (value_after n (run is_ascii_digit text)) ≡ capped all → bounded n ≡ bounded all
end-digits text cs c n all split other so = same_number n all (sym (ap (λ x. capped (value_after n (run is_ascii_digit x))) split ∙ rw other refl) ∙ so)

pub end-text : (text : List ℕ) (n : ℕ) (all : ℕ) → text ≡ [] → capped (value_after n (run is_ascii_digit text)) ≡ capped all → bounded n ≡ bounded all
end-text text n all nil so = same_number n all (sym (ap (λ x. capped (value_after n (run is_ascii_digit x))) nil) ∙ so)

-- ---- lexemes

-- the lexemes of the whole, where those of a prefix are read
abbrev pub with_read : List Lexeme → Option (List Lexeme) → Option (List Lexeme)
with_read prefix read = read >>= λ ls. Some (prefix ++ ls)

abbrev pub GoesOn : List Lexeme → List ℕ → Option (List Lexeme) → Type 0
GoesOn prefix cs all = (n : ℕ) × (length cs ≤ n) × (with_read prefix (lexemes_in n cs) ≡ all)

pub begins : (prefix : List Lexeme) (cs : List ℕ) → prefix ≡ [] → GoesOn prefix cs (lexemes cs)
begins prefix cs none = rw none (length cs, omega arith, whole (lexemes cs))
  where
    whole : (o : Option (List Lexeme)) → with_read [] o ≡ o
    whole None = refl
    whole (Some ls) = refl

pub step-white : (prefix : List Lexeme) (text cs : List ℕ) (c : ℕ) (all : Option (List Lexeme)) → text ≡ c ∷ cs → is_whitespace c ≡ true
    → GoesOn prefix text all → GoesOn prefix cs all
step-white prefix text cs c all split white (zero, le, so) = absurd (omega (arith, ap length split))
step-white prefix text cs c all split white (suc n, le, so) =
    (n, omega (arith, ap length split), sym (ap (λ x. with_read prefix (lexemes_in (suc n) x)) split ∙ rw white refl) ∙ so)

joined : (prefix : List Lexeme) (l : Lexeme) (o : Option (List Lexeme)) → with_read prefix (o >>= λ ls. Some (l ∷ ls)) ≡ with_read (prefix ++ l ∷ []) o
joined prefix l None = refl
joined prefix l (Some ls) = ap Some (sym (append_assoc prefix (l ∷ []) ls))

pub step-lexeme : (prefix prefix' : List Lexeme) (l : Lexeme) (text cs rest : List ℕ) (c : ℕ) (all : Option (List Lexeme)) → text ≡ c ∷ cs
    → is_whitespace c ≡ false
    → Some (l, rest) ≡ lexeme_at text → length rest < length text → prefix' ≡ prefix ++ l ∷ [] → GoesOn prefix text all → GoesOn prefix' rest all
step-lexeme prefix prefix' l text cs rest c all split dark is shorter more (zero, le, so) = absurd (omega arith)
step-lexeme prefix prefix' l text cs rest c all split dark is shorter more (suc n, le, so) =
    (n, omega arith, ap (λ x. with_read x (lexemes_in n rest)) more ∙ sym (ap (λ x. with_read prefix (lexemes_in (suc n) x)) split ∙ rw (dark, sym (ap lexeme_at split) ∙ sym is) (joined prefix l (lexemes_in n rest))) ∙ so)

pub step-none : (prefix : List Lexeme) (text cs : List ℕ) (c : ℕ) (all : Option (List Lexeme)) → text ≡ c ∷ cs → is_whitespace c ≡ false
    → None ≡ lexeme_at text → GoesOn prefix text all → None ≡ all
step-none prefix text cs c all split dark is (zero, le, so) = absurd (omega (arith, ap length split))
step-none prefix text cs c all split dark is (suc n, le, so) =
    sym (sym so ∙ ap (λ x. with_read prefix (lexemes_in (suc n) x)) split ∙ rw (dark, sym (ap lexeme_at split) ∙ sym is) refl)

pub ends : (prefix : List Lexeme) (text : List ℕ) (all : Option (List Lexeme)) → text ≡ [] → GoesOn prefix text all → Some prefix ≡ all
ends prefix text all nil (zero, le, so) = sym (sym so ∙ ap Some (append-nil prefix))
ends prefix text all nil (suc n, le, so) = sym (sym so ∙ ap (λ x. with_read prefix (lexemes_in (suc n) x)) nil ∙ ap Some (append-nil prefix))
