-- Behind a `{` that isn't closed no other is.
use Rattle.std.proofs.Common.{◌≡◌, ℕ, ◌==◌, Bool, true, false, ◌||◌, ◌&&◌, List, [], ◌∷◌, ◌++◌, refl, ap, sym, ◌∙◌, append_assoc, is_some, eqb-true}
use Rattle.ct_base.specs.Characters.{first}
use Rattle.q_lex.specs.Lexing.{is_plain_char, braced, begins_word, IsWordAt}
use Rattle.q_lex.specs.declared.lexemes.Lexeme.{Lexeme}
use Rattle.q_lex.specs.Runs.{NoBraceCloses}
use Rattle.q_lex.proofs.Braces.{braced-other, braced-pair, braced-last, some-front}
use Rattle.q_lex.proofs.Scans.{word-front}

other : (c : ℕ) (cs : List ℕ) → (c == 125) ≡ false → is_some (braced (c ∷ cs)) ≡ false → is_some (braced cs) ≡ false
other c cs differs none = sym (some-front c (braced cs)) ∙ sym (ap is_some (braced-other c cs differs)) ∙ none

pair : (c d : ℕ) (cs : List ℕ) → (c == 125) ≡ true → (d == 125) ≡ true → is_some (braced (c ∷ d ∷ cs)) ≡ false → is_some (braced cs) ≡ false
pair c d cs one two none =
    let same = ap (λ x. is_some (braced (c ∷ x ∷ cs))) (eqb-true d 125 two) in
    sym (some-front 125 (braced cs)) ∙ sym (ap is_some (braced-pair c cs (eqb-true c 125 one))) ∙ sym same ∙ none

last : (c d : ℕ) (cs : List ℕ) → (c == 125) ≡ true → (d == 125) ≡ false → is_some (braced (c ∷ d ∷ cs)) ≡ false → ⊥
last c d cs one two none = let some = ap is_some (braced-last c (d ∷ cs) (eqb-true c 125 one) two) in let no : true ≡ false = sym some ∙ none in cc

later : (front rest : List ℕ) → is_some (braced (front ++ 123 ∷ rest)) ≡ false → is_some (braced rest) ≡ false
later [] rest none = other 123 rest refl none
later (c ∷ []) rest none = one (c == 125) refl
  where
    one : (b : Bool) → (c == 125) ≡ b → is_some (braced rest) ≡ false
    one true e = absurd (last c 123 rest e refl none)
    one false e = other 123 rest refl (other c (123 ∷ rest) e none)
later (c ∷ d ∷ front) rest none = two (c == 125) (d == 125) refl refl (later front rest) (later (d ∷ front) rest)
  where
    two : (a b : Bool) → (c == 125) ≡ a → (d == 125) ≡ b → (is_some (braced (front ++ 123 ∷ rest)) ≡ false → is_some (braced rest) ≡ false)
        → (is_some (braced (d ∷ (front ++ 123 ∷ rest))) ≡ false → is_some (braced rest) ≡ false) → is_some (braced rest) ≡ false
    two true true e f more next = more (pair c d (front ++ 123 ∷ rest) e f none)
    two true false e f more next = absurd (last c d (front ++ 123 ∷ rest) e f none)
    two false b e f more next = next (other c (d ∷ (front ++ 123 ∷ rest)) e none)

pub none-start : (text : List ℕ) → NoBraceCloses false text
none-start text known = let no : false ≡ true = known in cc

pub none-here : (known : Bool) (text cs : List ℕ) (c : ℕ) → NoBraceCloses known text → text ≡ c ∷ cs → c ≡ 123 → known ≡ true → is_some (braced cs) ≡ false
none-here known text cs c none is brace e = none e [] cs (is ∙ ap (λ x. x ∷ cs) brace)

pub none-next : (known : Bool) (text cs : List ℕ) (c : ℕ) → NoBraceCloses known text → text ≡ c ∷ cs → NoBraceCloses known cs
none-next known text cs c none is = λ e front rest at. none e (c ∷ front) rest (is ∙ ap (λ x. c ∷ x) at)

-- where one closes, it isn't known that none does
pub none-closed : (known : Bool) (text cs rest : List ℕ) (c : ℕ) → NoBraceCloses known text → text ≡ c ∷ cs → c ≡ 123 → is_some (braced cs) ≡ true → NoBraceCloses known rest
none-closed known text cs rest c none is brace closed = λ e front more at. (let no : true ≡ false = sym closed ∙ none-here known text cs c none is brace e in cc)

-- behind a sign
sign-none : (a b d s : Bool) → (a || b || (d && s)) ≡ false → d ≡ true → s ≡ false
sign-none true b d s e f = cc
sign-none false true d s e f = cc
sign-none false false true s e f = e
sign-none false false false s e f = cc

pub none-sign : (known next : Bool) (text cs : List ℕ) (c : ℕ) → NoBraceCloses known text → text ≡ c ∷ cs → begins_word text ≡ false → next ≡ (known || (c == 123)) → NoBraceCloses next cs
none-sign known next text cs c none is begins both = λ e. pick known (c == 123) refl refl (sym both ∙ e)
  where
    pick : (a b : Bool) → known ≡ a → (c == 123) ≡ b → (a || b) ≡ true → (front rest : List ℕ) → cs ≡ front ++ 123 ∷ rest → is_some (braced rest) ≡ false
    pick true b e f g = none-next known text cs c none is e
    pick false true e f g = λ front rest at.
        (let here = sign-none (is_plain_char c) ((c == 92) && is_some (first cs)) (c == 123) (is_some (braced cs)) (ap begins_word (sym is) ∙ begins) f in
        later front rest (ap (λ x. is_some (braced x)) (sym at) ∙ here))
    pick false false e f g = cc

-- behind a word
pub none-word : (known : Bool) (place c : ℕ) (text cs : List ℕ) (lexeme : Lexeme) (rest : List ℕ) → NoBraceCloses known text → text ≡ c ∷ cs → IsWordAt place text lexeme rest → begins_word text ≡ true → NoBraceCloses known rest
none-word known place c text cs lexeme rest none is w begins =
    let front = word-front place text c cs lexeme rest is w begins in
    λ e more left at. none e (front.0 ++ more) left (front.1 ∙ ap (λ x. front.0 ++ x) at ∙ sym (append_assoc front.0 more (123 ∷ left)))
