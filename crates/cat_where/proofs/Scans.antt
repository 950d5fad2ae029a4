-- Steps of reading the lexemes of a whole text.
use Rattle.std.proofs.Common.{◌≡◌, ℕ, ◌<◌, ◌≤◌, zero, suc, Bool, true, false, cond, List, [], ◌∷◌, ◌++◌, length, refl, ap, sym, ◌∙◌, append_assoc, append-nil, arith, Option, Some, None}
use Rattle.std.specs.Char.{is_whitespace}
use Rattle.st_parse.specs.declared.lexemes.Lexeme.{Lexeme}
use Rattle.st_parse.specs.Lexemes.{after_run, begins_comment, is_in_line, lexeme_at}
use Rattle.st_parse.proofs.Steps.{after-shorter}
use Rattle.cat_where.specs.declared.lexing.Placed.{Placed}
use Rattle.cat_where.specs.declared.lexing.Lexed.{Lexed}
use Rattle.cat_where.specs.Lexing.{lexed, lexed_in, nothing_left, place_in, placed, with_lexeme}

abbrev pub found_then : List Placed → Lexed → Lexed
found_then found l = record { lexemes = found ++ l.lexemes; broken = l.broken }

-- The lexemes found so far, and those of the rest, are all.
abbrev pub Scanned : List ℕ → List Placed → List ℕ → Lexed → Type 0
Scanned text found rest all = (n : ℕ) × (length rest ≤ n) × (found_then found (lexed_in text n rest) ≡ all)

pub scan_start : (text : List ℕ) (found : List Placed) → found ≡ [] → Scanned text found text (lexed text)
scan_start text found none = (length text, omega arith, ap (λ (x : List Placed). found_then x (lexed text)) none)

-- what stands at the beginning decides
at_white : (text : List ℕ) (n c : ℕ) (cs : List ℕ) → is_whitespace c ≡ true → lexed_in text (suc n) (c ∷ cs) ≡ lexed_in text n cs
at_white text n c cs white =
    ap (λ (b : Bool). cond b (lexed_in text n cs) (cond (begins_comment c cs) (lexed_in text n (after_run is_in_line cs)) (with_lexeme (λ rest. lexed_in text n rest) (place_in text (c ∷ cs)) (lexeme_at (c ∷ cs))))) white

at_other : (text : List ℕ) (n c : ℕ) (cs : List ℕ) → is_whitespace c ≡ false
    → lexed_in text (suc n) (c ∷ cs) ≡ cond (begins_comment c cs) (lexed_in text n (after_run is_in_line cs)) (with_lexeme (λ rest. lexed_in text n rest) (place_in text (c ∷ cs)) (lexeme_at (c ∷ cs)))
at_other text n c cs dark =
    ap (λ (b : Bool). cond b (lexed_in text n cs) (cond (begins_comment c cs) (lexed_in text n (after_run is_in_line cs)) (with_lexeme (λ rest. lexed_in text n rest) (place_in text (c ∷ cs)) (lexeme_at (c ∷ cs))))) dark

at_comment : (text : List ℕ) (n c : ℕ) (cs : List ℕ) → is_whitespace c ≡ false → begins_comment c cs ≡ true → lexed_in text (suc n) (c ∷ cs) ≡ lexed_in text n (after_run is_in_line cs)
at_comment text n c cs dark dashes =
    at_other text n c cs dark
    ∙ ap (λ (b : Bool). cond b (lexed_in text n (after_run is_in_line cs)) (with_lexeme (λ rest. lexed_in text n rest) (place_in text (c ∷ cs)) (lexeme_at (c ∷ cs)))) dashes

at_lexeme : (text : List ℕ) (n c : ℕ) (cs : List ℕ) (o : Option (Lexeme × List ℕ)) → is_whitespace c ≡ false → begins_comment c cs ≡ false → lexeme_at (c ∷ cs) ≡ o
    → lexed_in text (suc n) (c ∷ cs) ≡ with_lexeme (λ rest. lexed_in text n rest) (place_in text (c ∷ cs)) o
at_lexeme text n c cs o dark plain is =
    at_other text n c cs dark
    ∙ ap (λ (b : Bool). cond b (lexed_in text n (after_run is_in_line cs)) (with_lexeme (λ rest. lexed_in text n rest) (place_in text (c ∷ cs)) (lexeme_at (c ∷ cs)))) plain
    ∙ ap (λ (x : Option (Lexeme × List ℕ)). with_lexeme (λ rest. lexed_in text n rest) (place_in text (c ∷ cs)) x) is

-- ---- one step more

pub scan_white : (text : List ℕ) (found : List Placed) (rest cs : List ℕ) (c : ℕ) (all : Lexed) → rest ≡ c ∷ cs → is_whitespace c ≡ true → Scanned text found rest all → Scanned text found cs all
scan_white text found rest cs c all split white (zero, le, so) = absurd (omega (arith, ap length split))
scan_white text found rest cs c all split white (suc n, le, so) =
    (n, omega (arith, ap length split), ap (found_then found) (sym (ap (lexed_in text (suc n)) split ∙ at_white text n c cs white)) ∙ so)

pub scan_comment : (text : List ℕ) (found : List Placed) (rest cs : List ℕ) (c : ℕ) (all : Lexed) → rest ≡ c ∷ cs → is_whitespace c ≡ false → begins_comment c cs ≡ true
    → Scanned text found rest all → Scanned text found (after_run is_in_line cs) all
scan_comment text found rest cs c all split dark dashes (zero, le, so) = absurd (omega (arith, ap length split))
scan_comment text found rest cs c all split dark dashes (suc n, le, so) =
    (n, omega (arith, ap length split, after-shorter is_in_line cs), ap (found_then found) (sym (ap (lexed_in text (suc n)) split ∙ at_comment text n c cs dark dashes)) ∙ so)

pub scan_lexeme : (text : List ℕ) (found more : List Placed) (rest cs next : List ℕ) (c place : ℕ) (l : Lexeme) (all : Lexed) → rest ≡ c ∷ cs → is_whitespace c ≡ false → begins_comment c cs ≡ false
    → lexeme_at rest ≡ Some (l, next) → length next < length rest → place ≡ place_in text rest → more ≡ found ++ placed place l ∷ [] → Scanned text found rest all → Scanned text more next all
scan_lexeme text found more rest cs next c place l all split dark plain is shorter here added (zero, le, so) = absurd (omega arith)
scan_lexeme text found more rest cs next c place l all split dark plain is shorter here added (suc n, le, so) = (
  n,
  omega arith,
  ap (λ (x : List Placed). found_then x (lexed_in text n next)) (added ∙ ap (λ (p : ℕ). found ++ placed p l ∷ []) (here ∙ ap (place_in text) split))
      ∙ ap (λ (x : List Placed). record { lexemes = x; broken = (lexed_in text n next).broken }) (append_assoc found (placed (place_in text (c ∷ cs)) l ∷ []) (lexed_in text n next).lexemes)
      ∙ ap (found_then found) (sym (ap (lexed_in text (suc n)) split ∙ at_lexeme text n c cs (Some (l, next)) dark plain (sym (ap lexeme_at split) ∙ is)))
      ∙ so,
)

pub scan_broken : (text : List ℕ) (found : List Placed) (rest cs : List ℕ) (c place : ℕ) (all : Lexed) → rest ≡ c ∷ cs → is_whitespace c ≡ false → begins_comment c cs ≡ false
    → lexeme_at rest ≡ None → place ≡ place_in text rest → Scanned text found rest all → ◌≡◌ {A = Lexed} (record { lexemes = found; broken = Some place }) all
scan_broken text found rest cs c place all split dark plain is here (zero, le, so) = absurd (omega (arith, ap length split))
scan_broken text found rest cs c place all split dark plain is here (suc n, le, so) =
    ap (λ (p : ℕ). record { lexemes = found; broken = Some p }) (here ∙ ap (place_in text) split)
    ∙ ap (λ (x : List Placed). record { lexemes = x; broken = Some (place_in text (c ∷ cs)) }) (sym (append-nil found))
    ∙ ap (found_then found) (sym (ap (lexed_in text (suc n)) split ∙ at_lexeme text n c cs None dark plain (sym (ap lexeme_at split) ∙ is)))
    ∙ so

nothing_more : (text : List ℕ) (n : ℕ) → lexed_in text n [] ≡ nothing_left
nothing_more text zero = refl
nothing_more text (suc n) = refl

pub scan_end : (text : List ℕ) (found : List Placed) (rest : List ℕ) (all : Lexed) → rest ≡ [] → Scanned text found rest all → ◌≡◌ {A = Lexed} (record { lexemes = found; broken = None }) all
scan_end text found rest all none (n, le, so) =
    ap (λ (x : List Placed). record { lexemes = x; broken = None }) (sym (append-nil found)) ∙ ap (found_then found) (sym (ap (lexed_in text n) none ∙ nothing_more text n)) ∙ so
