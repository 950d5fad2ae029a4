-- Steps of reading over lists of characters.
use Rattle.std.proofs.Common.{◌≡◌, ℕ, ◌<◌, ◌≤◌, Bool, true, false, cond, List, [], ◌∷◌, ◌++◌, length, map, refl, sym, ap, ◌∙◌, append_assoc, append-nil, arith, Option, Some, None}
use Rattle.std.specs.Char.{encode_utf8, is_ascii_digit, is_ascii_alphabetic, is_whitespace, to_ascii_lowercase}
use Rattle.std.specs.Prelude.{nat_eq, ◌==◌, zero, suc}
use Rattle.ct_base.specs.Names.{is_name_byte}
use Rattle.st_parse.specs.declared.lexemes.Lexeme.{Lexeme}
use Rattle.st_parse.specs.declared.lexing.LexFault.{LexFault}
use Rattle.st_parse.specs.declared.lexing.LexFault.TheVariants.{NoLexeme, Memory as NoMemory}
use Rattle.st_parse.specs.Lexemes.{is_in_line, run, after_run, text_at, ◌>>=◌, lexeme_at, begins_comment, lexemes_in, lexemes}
use Rattle.st_parse.specs.Reading.{LexFails}

lower_again : (c : ℕ) → to_ascii_lowercase (to_ascii_lowercase c) ≡ to_ascii_lowercase c
lower_again c = grind arith

-- what is in lower case stays as it is there
pub map-lower : (cs : List ℕ) → map to_ascii_lowercase (map to_ascii_lowercase cs) ≡ map to_ascii_lowercase cs
map-lower [] = refl
map-lower (c ∷ cs) = ap (λ x. x ∷ map to_ascii_lowercase (map to_ascii_lowercase cs)) (lower_again c) ∙ ap (λ x. to_ascii_lowercase c ∷ x) (map-lower cs)

-- one more character of an open text
pub text-char : (prefix cs : List ℕ) (c : ℕ) → nat_eq c 39 ≡ false → text_at prefix (c ∷ cs) ≡ text_at (prefix ++ encode_utf8 c) cs
text-char prefix [] c h = rw h refl
text-char prefix (d ∷ cs) c h = rw h refl

pub text-step : (prefix prefix' text cs : List ℕ) (c : ℕ) → text ≡ c ∷ cs → (c == 39) ≡ false → prefix' ≡ prefix ++ encode_utf8 c
    → text_at prefix' cs ≡ text_at prefix text
text-step prefix prefix' text cs c split other more = rw (split, more) (sym (text-char prefix cs c other))

pub text-quote : (prefix prefix' text mid cs : List ℕ) (c : ℕ) → text ≡ c ∷ mid → mid ≡ 39 ∷ cs → c ≡ 39 → prefix' ≡ prefix ++ 39 ∷ []
    → text_at prefix' cs ≡ text_at prefix text
text-quote prefix prefix' text mid cs c split second quote more = rw (split, second, quote, more) refl

-- a run and what follows it are the whole, and what follows is no longer
pub run-joins : (p : ℕ → Bool) (cs : List ℕ) → run p cs ++ after_run p cs ≡ cs
run-joins p [] = refl
run-joins p (c ∷ cs) =
    elim (p c) as (λ b. cond b (c ∷ run p cs) [] ++ cond b (after_run p cs) (c ∷ cs) ≡ c ∷ cs) [ true ↦ ap (λ x. c ∷ x) (run-joins p cs) | false ↦ refl ]

pub after-shorter : (p : ℕ → Bool) (cs : List ℕ) → length (after_run p cs) ≤ length cs
after-shorter p [] = omega arith
after-shorter p (c ∷ cs) =
    let shorter = after-shorter p cs in
    elim (p c) as (λ b. length (cond b (after_run p cs) (c ∷ cs)) ≤ length (c ∷ cs)) [ true ↦ omega arith | false ↦ omega arith ]

pub letter-word : (c : ℕ) → is_ascii_alphabetic c ≡ true → is_name_byte c ≡ true
letter-word c h = grind arith

pub word-shorter : (text cs : List ℕ) (c : ℕ) → text ≡ c ∷ cs → is_ascii_alphabetic c ≡ true → length (after_run is_name_byte text) < length text
word-shorter text cs c split letter = let shorter = after-shorter is_name_byte cs in rw (split, letter-word c letter) (omega arith)

pub digits-shorter : (text cs : List ℕ) (c : ℕ) → text ≡ c ∷ cs → is_ascii_digit c ≡ true → length (after_run is_ascii_digit text) < length text
digits-shorter text cs c split digit = let shorter = after-shorter is_ascii_digit cs in rw (split, digit) (omega arith)

-- the lexemes of the whole, where those of a prefix are read
abbrev pub with_read : List Lexeme → Option (List Lexeme) → Option (List Lexeme)
with_read prefix read = read >>= λ ls. Some (prefix ++ ls)

abbrev pub GoesOn : List Lexeme → List ℕ → Option (List Lexeme) → Type 0
GoesOn prefix cs all = (n : ℕ) × (length cs ≤ n) × (with_read prefix (lexemes_in n cs) ≡ all)

pub begins : (cs : List ℕ) → GoesOn [] cs (lexemes cs)
begins cs = (length cs, omega arith, whole (lexemes cs))
  where
    whole : (o : Option (List Lexeme)) → with_read [] o ≡ o
    whole None = refl
    whole (Some ls) = refl

pub step-white : (prefix : List Lexeme) (text cs : List ℕ) (c : ℕ) (all : Option (List Lexeme)) → text ≡ c ∷ cs → is_whitespace c ≡ true
    → GoesOn prefix text all → GoesOn prefix cs all
step-white prefix text cs c all split white (zero, le, so) = absurd (omega (arith, ap length split))
step-white prefix text cs c all split white (suc n, le, so) =
    (n, omega (arith, ap length split), sym (ap (λ x. with_read prefix (lexemes_in (suc n) x)) split ∙ rw white refl) ∙ so)

pub step-comment : (prefix : List Lexeme) (text cs : List ℕ) (c : ℕ) (all : Option (List Lexeme)) → text ≡ c ∷ cs → is_whitespace c ≡ false
    → begins_comment c cs ≡ true → GoesOn prefix text all → GoesOn prefix (after_run is_in_line cs) all
step-comment prefix text cs c all split dark dashes (zero, le, so) = absurd (omega (arith, ap length split))
step-comment prefix text cs c all split dark dashes (suc n, le, so) =
    (n, omega (arith, ap length split, after-shorter is_in_line cs), sym (ap (λ x. with_read prefix (lexemes_in (suc n) x)) split ∙ rw (dark, dashes) refl) ∙ so)

joined : (prefix : List Lexeme) (l : Lexeme) (o : Option (List Lexeme)) → with_read prefix (o >>= λ ls. Some (l ∷ ls)) ≡ with_read (prefix ++ l ∷ []) o
joined prefix l None = refl
joined prefix l (Some ls) = ap Some (sym (append_assoc prefix (l ∷ []) ls))

pub step-lexeme : (prefix prefix' : List Lexeme) (l : Lexeme) (text cs rest : List ℕ) (c : ℕ) (all : Option (List Lexeme)) → text ≡ c ∷ cs
    → is_whitespace c ≡ false → begins_comment c cs ≡ false
    → lexeme_at text ≡ Some (l, rest) → length rest < length text → prefix' ≡ prefix ++ l ∷ [] → GoesOn prefix text all → GoesOn prefix' rest all
step-lexeme prefix prefix' l text cs rest c all split dark plain is shorter more (zero, le, so) = absurd (omega arith)
step-lexeme prefix prefix' l text cs rest c all split dark plain is shorter more (suc n, le, so) =
    (n, omega arith, ap (λ x. with_read x (lexemes_in n rest)) more ∙ sym (ap (λ x. with_read prefix (lexemes_in (suc n) x)) split ∙ rw (dark, plain, sym (ap lexeme_at split) ∙ is) (joined prefix l (lexemes_in n rest))) ∙ so)

pub step-none : (prefix : List Lexeme) (text cs : List ℕ) (c : ℕ) (all : Option (List Lexeme)) → text ≡ c ∷ cs → is_whitespace c ≡ false
    → begins_comment c cs ≡ false
    → lexeme_at text ≡ None → GoesOn prefix text all → all ≡ None
step-none prefix text cs c all split dark plain is (zero, le, so) = absurd (omega (arith, ap length split))
step-none prefix text cs c all split dark plain is (suc n, le, so) =
    sym so ∙ ap (λ x. with_read prefix (lexemes_in (suc n) x)) split ∙ rw (dark, plain, sym (ap lexeme_at split) ∙ is) refl

pub ends : (prefix : List Lexeme) (text : List ℕ) (all : Option (List Lexeme)) → text ≡ [] → GoesOn prefix text all → all ≡ Some prefix
ends prefix text all nil (zero, le, so) = sym so ∙ ap Some (append-nil prefix)
ends prefix text all nil (suc n, le, so) = sym so ∙ ap (λ x. with_read prefix (lexemes_in (suc n) x)) nil ∙ ap Some (append-nil prefix)

pub step-fault : (prefix : List Lexeme) (text cs : List ℕ) (c : ℕ) (all : Option (List Lexeme)) (fault : LexFault) → text ≡ c ∷ cs
    → is_whitespace c ≡ false → begins_comment c cs ≡ false
    → LexFails fault (lexeme_at text) → GoesOn prefix text all → LexFails fault all
step-fault prefix text cs c all NoLexeme split dark plain is on = step-none prefix text cs c all split dark plain is on
step-fault prefix text cs c all NoMemory split dark plain is on = tt

differ : (o : Option (List Lexeme)) (l : Lexeme) → with_read [] (o >>= λ ls. Some (l ∷ ls)) ≡ Some [] → ⊥
differ None l e = cc
differ (Some ls) l e = cc

-- a place that is neither white space nor a comment
pub other_place : (text cs : List ℕ) (c : ℕ) (all : Option (List Lexeme)) → text ≡ c ∷ cs → is_whitespace c ≡ false → begins_comment c cs ≡ false
    → GoesOn [] text all → all ≡ Some [] → ⊥
other_place text cs c all split dark plain (zero, le, so) none = absurd (omega (arith, ap length split))
other_place text cs c all split dark plain (suc n, le, so) none =
    no (lexeme_at (c ∷ cs)) (sym (ap (λ x. with_read [] (lexemes_in (suc n) x)) split ∙ rw (dark, plain) refl) ∙ so ∙ none)
  where
    no : (o : Option (Lexeme × List ℕ)) → with_read [] (o >>= λ l. lexemes_in n l.1 >>= λ ls. Some (l.0 ∷ ls)) ≡ Some [] → ⊥
    no None e = cc
    no (Some l) e = differ (lexemes_in n l.1) l.0 e
