-- What is written as lexemes is read as these.
use Rattle.std.proofs.Common.{◌≡◌, ℕ, ◌<◌, ◌≤◌, Bool, true, false, cond, List, [], ◌∷◌, ◌++◌, length, refl, sym, ap, ◌∙◌, append_assoc, append-nil, length-append, arith, Some}
use Rattle.std.specs.Char.{is_ascii_digit, is_ascii_alphabetic, is_whitespace, encode_utf8}
use Rattle.std.specs.List.{list_all}
use Rattle.std.specs.Prelude.{◌==◌, zero, suc, nat_lt, ◌≢◌, encode_utf8_all}
use Rattle.std.proofs.lemmas.Bool.{eqb-true, and_parts}
use lib.Utf8.{encode}
use Rattle.ct_base.specs.Names.{is_name_byte}
use Rattle.st_parse.specs.declared.lexemes.Symbol.{Symbol}
use Rattle.st_parse.specs.declared.lexemes.Symbol.TheVariants.{Open, Close, Comma, Dot, Star, Equal, Less, AtMost, Greater, AtLeast, Minus}
use Rattle.st_parse.specs.declared.lexemes.Lexeme.{Lexeme}
use Rattle.st_parse.specs.declared.lexemes.Lexeme.TheVariants.{Word, Name, Text, Number, Sign}
use Rattle.st_parse.specs.Lexemes.{is_in_line, run, after_run, text_at, ◌>>=◌, lexeme_at, begins_comment, lexemes_in, lexemes}
use Rattle.st_parse.specs.Writing.{Blank, White, Comment, IsGap, starts, quoted, sign, IsWordOf, IsDigits, IsWritten, joins_sign, joins, IsText}
use Rattle.st_parse.proofs.Steps.{letter-word, text-char}

run-all : (p : ℕ → Bool) (w rest : List ℕ) → list_all p w ≡ true → starts p rest ≡ false → run p (w ++ rest) ≡ w
run-all p [] [] h parted = refl
run-all p [] (c ∷ rest) h parted = rw parted refl
run-all p (c ∷ w) rest h parted = let parts = and_parts (p c) (list_all p w) h in rw (parts.0, run-all p w rest parts.1 parted) refl

after-all : (p : ℕ → Bool) (w rest : List ℕ) → list_all p w ≡ true → starts p rest ≡ false → after_run p (w ++ rest) ≡ rest
after-all p [] [] h parted = refl
after-all p [] (c ∷ rest) h parted = rw parted refl
after-all p (c ∷ w) rest h parted = let parts = and_parts (p c) (list_all p w) h in rw (parts.0, after-all p w rest parts.1 parted) refl

end-of-text : (prefix rest : List ℕ) → starts (λ c. c == 39) rest ≡ false → text_at prefix (39 ∷ rest) ≡ Some (prefix, rest)
end-of-text prefix [] parted = refl
end-of-text prefix (d ∷ rest) parted = rw parted refl

-- a quote's bytes
pub quote-bytes : encode_utf8 39 ≡ 39 ∷ []
unfolding encode
quote-bytes = refl

quoted-step : (b : Bool) (prefix t rest : List ℕ) (c : ℕ) → (c == 39) ≡ b → (b ≡ true → c ≡ 39)
    → ((f : List ℕ) → text_at f (quoted t ++ rest) ≡ Some (f ++ encode_utf8_all t, rest))
    → text_at prefix (cond b (39 ∷ 39 ∷ quoted t) (c ∷ quoted t) ++ rest) ≡ Some (prefix ++ encode_utf8_all (c ∷ t), rest)
quoted-step true prefix t rest c e is more =
    more (prefix ++ 39 ∷ []) ∙ ap (λ x. Some (x, rest)) (append_assoc prefix (39 ∷ []) (encode_utf8_all t) ∙ ap (λ x. prefix ++ (x ++ encode_utf8_all t)) (sym (ap encode_utf8 (is refl) ∙ quote-bytes)))
quoted-step false prefix t rest c e is more =
    text-char prefix (quoted t ++ rest) c e ∙ more (prefix ++ encode_utf8 c) ∙ ap (λ x. Some (x, rest)) (append_assoc prefix (encode_utf8 c) (encode_utf8_all t))

quoted-read : (t rest : List ℕ) → starts (λ c. c == 39) rest ≡ false → (prefix : List ℕ)
    → text_at prefix (quoted t ++ rest) ≡ Some (prefix ++ encode_utf8_all t, rest)
quoted-read [] rest parted prefix = end-of-text prefix rest parted ∙ ap (λ x. Some (x, rest)) (sym (append-nil prefix))
quoted-read (c ∷ t) rest parted prefix = quoted-step (c == 39) prefix t rest c refl (eqb-true c 39) (quoted-read t rest parted)

text-read-back : (t w rest : List ℕ) → IsWritten (Text t) w → starts (joins (Text t)) rest ≡ false → lexeme_at (w ++ rest) ≡ Some (Text t, rest)
text-read-back t w rest (cs, bytes, spelt) parted =
    ap (λ x. lexeme_at (x ++ rest)) spelt ∙ ap (λ o. o >>= λ t. Some (Text t.0, t.1)) (quoted-read cs rest parted []) ∙ ap (λ x. Some (Text x, rest)) (sym bytes)

word-read : (p : Lexeme) (w rest : List ℕ) → IsWordOf p w → starts is_name_byte rest ≡ false → lexeme_at (w ++ rest) ≡ Some (p, rest)
word-read p [] rest (h) parted = absurd h
word-read p (c ∷ w) rest (letter, word, is) parted =
    rw (letter, letter-word c letter, run-all is_name_byte w rest word parted, after-all is_name_byte w rest word parted, is) refl

digit-letter : (c : ℕ) → is_ascii_digit c ≡ true → is_ascii_alphabetic c ≡ false
digit-letter c h = grind arith

digits-read : (w rest : List ℕ) → IsDigits w → starts is_ascii_digit rest ≡ false → lexeme_at (w ++ rest) ≡ Some (Number w, rest)
digits-read [] rest h parted = absurd h
digits-read (c ∷ w) rest h parted =
    let parts = and_parts (is_ascii_digit c) (list_all is_ascii_digit w) h in
    rw (digit-letter c parts.0, parts.0, run-all is_ascii_digit w rest parts.1 parted, after-all is_ascii_digit w rest parts.1 parted) refl

sign-read : (s : Symbol) (rest : List ℕ) → starts (joins_sign s) rest ≡ false → lexeme_at (sign s ++ rest) ≡ Some (Sign s, rest)
sign-read Less [] parted = refl
sign-read Less (d ∷ rest) parted = rw parted refl
sign-read Greater [] parted = refl
sign-read Greater (d ∷ rest) parted = rw parted refl
sign-read Minus rest parted = refl
sign-read Open rest parted = refl
sign-read Close rest parted = refl
sign-read Comma rest parted = refl
sign-read Dot rest parted = refl
sign-read Star rest parted = refl
sign-read Equal rest parted = refl
sign-read AtMost rest parted = refl
sign-read AtLeast rest parted = refl

pub one-read : (p : Lexeme) (w rest : List ℕ) → IsWritten p w → starts (joins p) rest ≡ false → lexeme_at (w ++ rest) ≡ Some (p, rest)
one-read (Word k) w rest is parted = word-read (Word k) w rest is parted
one-read (Name n) w rest is parted = word-read (Name n) w rest is parted
one-read (Text t) w rest is parted = text-read-back t w rest is parted
one-read (Number ds) w rest (same, is) parted = ap (λ x. lexeme_at (x ++ rest)) same ∙ digits-read ds rest is parted
one-read (Sign s) w rest is parted = ap (λ x. lexeme_at (x ++ rest)) is ∙ sign-read s rest parted

-- no white space and no comment begins here
abbrev Begins : List ℕ → Type 0
Begins [] = ⊥
Begins (c ∷ cs) = (is_whitespace c ≡ false) × (begins_comment c cs ≡ false)

is-not : (c d : ℕ) → c ≢ d → (c == d) ≡ false
is-not c d h = grind arith

dark : (c : ℕ) → 32 < c → c < 128 → is_whitespace c ≡ false
dark c above below =
    let a : nat_lt 8 c ≡ true = grind arith in
    let b : nat_lt c 14 ≡ false = grind arith in
    let e : nat_lt 8191 c ≡ false = grind arith in
    rw (a, b, e, is-not c 32 (omega arith), is-not c 133 (omega arith), is-not c 160 (omega arith), is-not c 5760 (omega arith), is-not c 8232 (omega arith), is-not c 8233 (omega arith), is-not c 8239 (omega arith), is-not c 8287 (omega arith), is-not c 12288 (omega arith)) refl

letter-range : (c : ℕ) → is_ascii_alphabetic c ≡ true → (32 < c) × (c < 128)
letter-range c h = (grind arith, grind arith)

digit-range : (c : ℕ) → is_ascii_digit c ≡ true → (32 < c) × (c < 128)
digit-range c h = (grind arith, grind arith)

letter-dark : (c : ℕ) → is_ascii_alphabetic c ≡ true → is_whitespace c ≡ false
letter-dark c h = dark c (letter-range c h).0 (letter-range c h).1

letter-dash : (c : ℕ) → is_ascii_alphabetic c ≡ true → (c == 45) ≡ false
letter-dash c h = grind arith

digit-dark : (c : ℕ) → is_ascii_digit c ≡ true → is_whitespace c ≡ false
digit-dark c h = dark c (digit-range c h).0 (digit-range c h).1

digit-dash : (c : ℕ) → is_ascii_digit c ≡ true → (c == 45) ≡ false
digit-dash c h = grind arith

word-begins : (p : Lexeme) (w rest : List ℕ) → IsWordOf p w → Begins (w ++ rest)
word-begins p [] rest h = absurd h
word-begins p (c ∷ w) rest (letter, word, is) = (letter-dark c letter, rw (letter-dash c letter) refl)

digits-begin : (w rest : List ℕ) → IsDigits w → Begins (w ++ rest)
digits-begin [] rest h = absurd h
digits-begin (c ∷ w) rest h = let digit = (and_parts (is_ascii_digit c) (list_all is_ascii_digit w) h).0 in (digit-dark c digit, rw (digit-dash c digit) refl)

sign-begins : (s : Symbol) (rest : List ℕ) → starts (joins_sign s) rest ≡ false → Begins (sign s ++ rest)
sign-begins Minus [] parted = (refl, refl)
sign-begins Minus (d ∷ rest) parted = (refl, parted)
sign-begins Less rest parted = (refl, refl)
sign-begins Greater rest parted = (refl, refl)
sign-begins Open rest parted = (refl, refl)
sign-begins Close rest parted = (refl, refl)
sign-begins Comma rest parted = (refl, refl)
sign-begins Dot rest parted = (refl, refl)
sign-begins Star rest parted = (refl, refl)
sign-begins Equal rest parted = (refl, refl)
sign-begins AtMost rest parted = (refl, refl)
sign-begins AtLeast rest parted = (refl, refl)

one-begins : (p : Lexeme) (w rest : List ℕ) → IsWritten p w → starts (joins p) rest ≡ false → Begins (w ++ rest)
one-begins (Word k) w rest is parted = word-begins (Word k) w rest is
one-begins (Name n) w rest is parted = word-begins (Name n) w rest is
one-begins (Text t) w rest (cs, bytes, spelt) parted = rw spelt (refl, refl)
one-begins (Number ds) w rest (same, is) parted = rw same (digits-begin ds rest is)
one-begins (Sign s) w rest is parted = rw is (sign-begins s rest parted)

sign-some : (s : Symbol) → 0 < length (sign s)
sign-some Open = omega arith
sign-some Close = omega arith
sign-some Comma = omega arith
sign-some Dot = omega arith
sign-some Star = omega arith
sign-some Equal = omega arith
sign-some Less = omega arith
sign-some AtMost = omega arith
sign-some Greater = omega arith
sign-some AtLeast = omega arith
sign-some Minus = omega arith

pub one-some : (p : Lexeme) (w : List ℕ) → IsWritten p w → 0 < length w
one-some (Word k) [] is = absurd is
one-some (Word k) (c ∷ w) is = omega arith
one-some (Name n) [] is = absurd is
one-some (Name n) (c ∷ w) is = omega arith
one-some (Text t) w (cs, bytes, spelt) = rw spelt (omega arith)
one-some (Number []) w (same, is) = absurd is
one-some (Number (d ∷ ds)) w (same, is) = rw same (omega arith)
one-some (Sign s) w is = rw is (sign-some s)

white-step : (c : ℕ) (cs : List ℕ) (n : ℕ) → is_whitespace c ≡ true → lexemes_in (suc n) (c ∷ cs) ≡ lexemes_in n cs
white-step c cs n white = rw white refl

skip-gap : (bs : List Blank) (text rest : List ℕ) (n : ℕ) → IsGap bs text rest → length text ≤ n
    → (m : ℕ) × (length rest ≤ m) × (lexemes_in n text ≡ lexemes_in m rest)
skip-gap [] text rest n same le = (n, omega (arith, ap length same), ap (λ x. lexemes_in n x) same)
skip-gap (White c ∷ bs) text rest zero (mid, same, white, more) le = absurd (omega (arith, ap length same))
skip-gap (White c ∷ bs) text rest (suc n) (mid, same, white, more) le =
    let next = skip-gap bs mid rest n more (omega (arith, ap length same)) in
    (next.0, next.1, ap (λ x. lexemes_in (suc n) x) same ∙ white-step c mid n white ∙ next.2)
skip-gap (Comment line ∷ bs) text rest zero (mid, same, inside, ends, more) le = absurd (omega (arith, ap length same))
skip-gap (Comment line ∷ bs) text rest (suc n) (mid, same, inside, ends, more) le =
    let next = skip-gap bs mid rest n more (omega (arith, ap length same, length-append line mid)) in
    (next.0, next.1, ap (λ x. lexemes_in (suc n) x) same ∙ ap (λ x. lexemes_in n x) (after-all is_in_line line mid inside ends) ∙ next.2)

read-one : (text rest : List ℕ) (p : Lexeme) (ps : List Lexeme) (n : ℕ) → Begins text → lexeme_at text ≡ Some (p, rest) → length text ≤ n
    → length rest < length text
    → ((m : ℕ) → length rest ≤ m → lexemes_in m rest ≡ Some ps) → lexemes_in n text ≡ Some (p ∷ ps)
read-one [] rest p ps n begins is le shorter more = absurd begins
read-one (c ∷ cs) rest p ps zero begins is le shorter more = absurd (omega arith)
read-one (c ∷ cs) rest p ps (suc n) begins is le shorter more = rw (begins.0, begins.1, is, more n (omega arith)) refl

read-nil : (m : ℕ) → lexemes_in m [] ≡ Some []
read-nil zero = refl
read-nil (suc m) = refl

text-read : (ps : List Lexeme) (text : List ℕ) (n : ℕ) → length text ≤ n → IsText ps text → lexemes_in n text ≡ Some ps
text-read [] text n le (gap, is) =
    let past = skip-gap gap text [] n is le in
    past.2 ∙ read-nil past.0
text-read (p ∷ ps) text n le (gap, (w, rest, gapped, is, parted, more)) =
    let past = skip-gap gap text (w ++ rest) n gapped le in
    let some = one-some p w is in
    let shorter : length rest < length (w ++ rest) = omega (arith, length-append w rest) in
    past.2 ∙ read-one (w ++ rest) rest p ps past.0 (one-begins p w rest is parted) (one-read p w rest is parted) past.1 shorter (λ m enough. text-read ps rest m enough more)

pub written_is_read : (ps : List Lexeme) (text : List ℕ) → IsText ps text → lexemes text ≡ Some ps
written_is_read ps text is = text-read ps text (length text) (omega arith) is
