-- Steps of reading the lexemes of a whole text.
use Rattle.std.proofs.Common.{◌≡◌, ℕ, ◌+◌, ◌-◌, ◌<◌, ◌≤◌, ◌==◌, zero, suc, Bool, true, false, cond, ◌||◌, ◌&&◌, is_some, List, [], ◌∷◌, ◌++◌, length, refl, ap, sym, subst, ◌∙◌, append_assoc, append-nil, length-append, arith, Option, Some, None}
use Rattle.std.specs.Char.{is_whitespace, encode_utf8, len_utf8}
use Rattle.std.specs.Str.{chars, IsUtf8, encode_utf8_all}
use Rattle.std.proofs.lemmas.Str.{encodes-chars, length-encode}
use Rattle.ct_base.specs.Characters.{first}
use Rattle.q_lex.specs.declared.lexemes.Lexeme.{Lexeme}
use Rattle.q_lex.specs.declared.lexemes.Placed.{Placed}
use Rattle.q_lex.specs.Lexing.{is_plain_char, with_front, braced, begins_word, Run, no_run, put_literal, put_literals, put_plain, escaped, in_braces, word_from, IsWordAt, sign_lexeme, word_lexeme, opens, written_at, placed, byte_count, with_word, lexemes_from, query_lexemes}

-- some characters stand in front of the rest
IsEnd : List ℕ → List ℕ → Type 0
IsEnd rest text = (front : List ℕ) × (text ≡ front ++ rest)

end-more : (c : ℕ) (rest text : List ℕ) → IsEnd rest text → IsEnd rest (c ∷ text)
unfolding IsEnd
end-more c rest text e = (c ∷ e.0, ap (λ x. c ∷ x) e.1)

end-all : (text : List ℕ) → IsEnd text text
unfolding IsEnd
end-all text = ([], refl)

end-then : (rest mid text : List ℕ) → IsEnd rest mid → IsEnd mid text → IsEnd rest text
unfolding IsEnd
end-then rest mid text e f = (f.0 ++ e.0, f.1 ∙ ap (λ x. f.0 ++ x) e.1 ∙ sym (append_assoc f.0 e.0 rest))

encoded : (cs : List ℕ) → byte_count cs ≡ length (encode_utf8_all cs)
encoded [] = refl
encoded (c ∷ cs) = omega (arith, encoded cs, length-append (encode_utf8 c) (encode_utf8_all cs), length-encode c)

pub bytes_are : (text : List ℕ) → IsUtf8 text → length text ≡ byte_count (chars text)
bytes_are text utf8 = sym (encoded (chars text) ∙ ap length (encodes-chars text utf8))

pub byte_count-append : (xs ys : List ℕ) → byte_count (xs ++ ys) ≡ byte_count xs + byte_count ys
byte_count-append [] ys = omega arith
byte_count-append (x ∷ xs) ys = omega (arith, byte_count-append xs ys)

end-length : (rest text : List ℕ) → IsEnd rest text → length rest ≤ length text
unfolding IsEnd
end-length rest text e = omega (arith, ap length e.1, length-append e.0 rest)

end-bytes : (rest text : List ℕ) → IsEnd rest text → byte_count rest ≤ byte_count text
unfolding IsEnd
end-bytes rest text e = omega (arith, ap byte_count e.1, byte_count-append e.0 rest)

-- what follows a braced text is the end of what it stands in
front-end : (c : ℕ) (o : Option (List ℕ × List ℕ)) (text : List ℕ) → ((p : List ℕ × List ℕ) → o ≡ Some p → IsEnd p.1 text) → (p : List ℕ × List ℕ) → with_front c o ≡ Some p → IsEnd p.1 text
front-end c None text f p e = cc
front-end c (Some q) text f p e = let same : ◌≡◌ {A = List ℕ × List ℕ} (c ∷ q.0, q.1) p = cc in subst (λ x. IsEnd x.1 text) same (f q refl)

none-end : (text : List ℕ) → IsEnd [] text
unfolding IsEnd
none-end text = (text, sym (append-nil text))

braced-end : (cs : List ℕ) (p : List ℕ × List ℕ) → braced cs ≡ Some p → IsEnd p.1 cs
braced-end [] p e = cc
braced-end (c ∷ []) p e = one (c == 125) e
  where
    one : (b : Bool) → cond b (Some ([], [])) None ≡ Some p → IsEnd p.1 (c ∷ [])
    one true e = let same : ◌≡◌ {A = List ℕ × List ℕ} ([], []) p = cc in subst (λ x. IsEnd x.1 (c ∷ [])) same (none-end (c ∷ []))
    one false e = cc
braced-end (c ∷ d ∷ cs) p e = two (c == 125) (d == 125) (braced-end cs) (braced-end (d ∷ cs)) e
  where
    two : (a b : Bool) → ((q : List ℕ × List ℕ) → braced cs ≡ Some q → IsEnd q.1 cs) → ((q : List ℕ × List ℕ) → braced (d ∷ cs) ≡ Some q → IsEnd q.1 (d ∷ cs))
        → cond a (cond b (with_front 125 (braced cs)) (Some ([], d ∷ cs))) (with_front c (braced (d ∷ cs))) ≡ Some p → IsEnd p.1 (c ∷ d ∷ cs)
    two true true f g e = end-more c p.1 (d ∷ cs) (end-more d p.1 cs (front-end 125 (braced cs) cs f p e))
    two true false f g e = let same : ◌≡◌ {A = List ℕ × List ℕ} ([], d ∷ cs) p = cc in subst (λ x. IsEnd x.1 (c ∷ d ∷ cs)) same (end-more c (d ∷ cs) (d ∷ cs) (end-all (d ∷ cs)))
    two false b f g e = end-more c p.1 (d ∷ cs) (front-end c (braced (d ∷ cs)) (d ∷ cs) g p e)

-- what follows a word is the end of the text
Ends : ℕ → Type 0
Ends n = (r : Run) (cs : List ℕ) → IsEnd (word_from n r cs).1 cs

escaped-end : (n : ℕ) → Ends n → (r : Run) (c : ℕ) (cs : List ℕ) → IsEnd (escaped (λ q ds. word_from n q ds) r c cs).1 (c ∷ cs)
unfolding Ends
escaped-end n ends r c [] = end-all (c ∷ [])
escaped-end n ends r c (d ∷ ds) =
    let rest = (word_from n (put_literal d r) ds).1 in
    end-more c rest (d ∷ ds) (end-more d rest ds (ends (put_literal d r) ds))

braces-end : (n : ℕ) → Ends n → (r : Run) (c : ℕ) (cs : List ℕ) (o : Option (List ℕ × List ℕ)) → ((p : List ℕ × List ℕ) → o ≡ Some p → IsEnd p.1 cs) → IsEnd (in_braces (λ q ds. word_from n q ds) r (c ∷ cs) o).1 (c ∷ cs)
unfolding Ends
braces-end n ends r c cs None f = end-all (c ∷ cs)
braces-end n ends r c cs (Some p) f =
    let rest = (word_from n (put_literals p.0 r) p.1).1 in
    end-more c rest cs (end-then rest p.1 cs (ends (put_literals p.0 r) p.1) (f p refl))

word-end : (n : ℕ) (r : Run) (cs : List ℕ) → IsEnd (word_from n r cs).1 cs
unfolding Ends
word-end zero r cs = end-all cs
word-end (suc n) r [] = end-all []
word-end (suc n) r (c ∷ cs) = pick (is_plain_char c) (c == 92) (c == 123) (λ q ds. word-end n q ds)
  where
    pick : (a b d : Bool) → Ends n
        → IsEnd (cond a (word_from n (put_plain c r) cs) (cond b (escaped (λ q ds. word_from n q ds) r c cs) (cond d (in_braces (λ q ds. word_from n q ds) r (c ∷ cs) (braced cs)) (r, c ∷ cs)))).1 (c ∷ cs)
    pick true b d ends = end-more c (word_from n (put_plain c r) cs).1 cs (ends (put_plain c r) cs)
    pick false true d ends = escaped-end n ends r c cs
    pick false false true ends = braces-end n ends r c cs (braced cs) (braced-end cs)
    pick false false false ends = end-all (c ∷ cs)

-- where a piece of a word stands in front, what follows the word is the end of what follows the first character
escaped-past : (n : ℕ) → Ends n → (r : Run) (c : ℕ) (cs : List ℕ) (d e : Bool) → ((d && is_some (first cs)) || (e && is_some (braced cs))) ≡ true → d ≡ true
    → IsEnd (escaped (λ q ds. word_from n q ds) r c cs).1 cs
unfolding Ends
escaped-past n ends r c [] true true h is = cc
escaped-past n ends r c [] true false h is = cc
escaped-past n ends r c [] false e h is = cc
escaped-past n ends r c (d ∷ ds) b e h is = end-more d (word_from n (put_literal d r) ds).1 ds (ends (put_literal d r) ds)

braces-past : (n : ℕ) → Ends n → (r : Run) (c : ℕ) (cs : List ℕ) (o : Option (List ℕ × List ℕ)) → ((p : List ℕ × List ℕ) → o ≡ Some p → IsEnd p.1 cs) → is_some o ≡ true
    → IsEnd (in_braces (λ q ds. word_from n q ds) r (c ∷ cs) o).1 cs
unfolding Ends
braces-past n ends r c cs None f h = cc
braces-past n ends r c cs (Some p) f h = end-then (word_from n (put_literals p.0 r) p.1).1 p.1 cs (ends (put_literals p.0 r) p.1) (f p refl)

word-past : (n : ℕ) (r : Run) (c : ℕ) (cs : List ℕ) → begins_word (c ∷ cs) ≡ true → IsEnd (word_from (suc n) r (c ∷ cs)).1 cs
unfolding Ends
word-past n r c cs begins = pick (is_plain_char c) (c == 92) (c == 123) begins (λ q ds. word-end n q ds)
  where
    pick : (a b d : Bool) → (a || (b && is_some (first cs)) || (d && is_some (braced cs))) ≡ true → Ends n
        → IsEnd (cond a (word_from n (put_plain c r) cs) (cond b (escaped (λ q ds. word_from n q ds) r c cs) (cond d (in_braces (λ q ds. word_from n q ds) r (c ∷ cs) (braced cs)) (r, c ∷ cs)))).1 cs
    pick true b d h ends = ends (put_plain c r) cs
    pick false true d h ends = escaped-past n ends r c cs true d h refl
    pick false false true h ends = braces-past n ends r c cs (braced cs) (braced-end cs) h
    pick false false false h ends = cc

past-word : (place : ℕ) (c : ℕ) (cs : List ℕ) (lexeme : Lexeme) (rest : List ℕ) → IsWordAt place (c ∷ cs) lexeme rest → begins_word (c ∷ cs) ≡ true → IsEnd rest cs
past-word place c cs lexeme rest w begins =
    let enough : length (c ∷ cs) ≤ suc (length cs) = omega arith in
    subst (λ x. IsEnd x.1 cs) (w.reads (suc (length cs)) enough) (word-past (length cs) no_run c cs begins)

pub word-shorter : (place : ℕ) (text : List ℕ) (c : ℕ) (cs : List ℕ) (lexeme : Lexeme) (rest : List ℕ) → text ≡ c ∷ cs → IsWordAt place text lexeme rest → begins_word text ≡ true
    → (length rest < length text) × (byte_count rest ≤ byte_count text)
word-shorter place text c cs lexeme rest is w begins =
    let past = past-word place c cs lexeme rest (subst (λ x. IsWordAt place x lexeme rest) is w) (ap begins_word (sym is) ∙ begins) in
    (omega (arith, ap length is, end-length rest cs past), omega (arith, ap byte_count is, end-bytes rest cs past))

pub word-front : (place : ℕ) (text : List ℕ) (c : ℕ) (cs : List ℕ) (lexeme : Lexeme) (rest : List ℕ) → text ≡ c ∷ cs → IsWordAt place text lexeme rest → begins_word text ≡ true → (front : List ℕ) × (text ≡ front ++ rest)
unfolding IsEnd
word-front place text c cs lexeme rest is w begins =
    let past = past-word place c cs lexeme rest (subst (λ x. IsWordAt place x lexeme rest) is w) (ap begins_word (sym is) ∙ begins) in
    (c ∷ past.0, is ∙ ap (λ x. c ∷ x) past.1)

-- The lexemes found so far, and those of the rest, which begins at the place, are all.
pub record Scanned (all found : List Placed) (place : ℕ) (rest : List ℕ) : Type 0 where
  pub room : ℕ
  pub enough : length rest ≤ room
  pub is : all ≡ found ++ lexemes_from room place rest

pub scan-start : (text : List ℕ) (found : List Placed) → found ≡ [] → Scanned (query_lexemes text) found (byte_count text - byte_count text + 1) text
scan-start text found none =
    let one : 1 ≡ byte_count text - byte_count text + 1 = omega arith in
    subst (λ p. Scanned (query_lexemes text) found p text) one (subst (λ ps. Scanned (query_lexemes text) ps 1 text) (sym none) (record { room = length text; enough = omega arith; is = refl }))

first-of : (a : Bool) (x y : List Placed) → a ≡ true → cond a x y ≡ x
first-of true x y e = refl
first-of false x y e = cc

second-of : (a b : Bool) (x y z : List Placed) → a ≡ false → b ≡ true → cond a x (cond b y z) ≡ y
second-of false true x y z e f = refl
second-of false false x y z e f = cc
second-of true b x y z e f = cc

third-of : (a b : Bool) (x y z : List Placed) → a ≡ false → b ≡ false → cond a x (cond b y z) ≡ z
third-of false false x y z e f = refl
third-of false true x y z e f = cc
third-of true b x y z e f = cc

blank : ℕ → ℕ → ℕ → List ℕ → List Placed
blank n place c cs = lexemes_from n (place + len_utf8 c) cs

word : ℕ → ℕ → ℕ → List ℕ → List Placed
word n place c cs = with_word (λ at rest. lexemes_from n at rest) place (c ∷ cs) (word_from (suc n) no_run (c ∷ cs))

sign : ℕ → ℕ → ℕ → List ℕ → List Placed
sign n place c cs = placed place (sign_lexeme c) ∷ lexemes_from n (place + len_utf8 c) cs

-- a step of each kind, where this many characters are allowed for
from-blank : (all found : List Placed) (place c : ℕ) (cs : List ℕ) (n : ℕ) → is_whitespace c ≡ true → length (c ∷ cs) ≤ n → all ≡ found ++ lexemes_from n place (c ∷ cs) → Scanned all found (place + len_utf8 c) cs
unfolding blank word sign
from-blank all found place c cs zero space le e = absurd (omega arith)
from-blank all found place c cs (suc n) space le e = record {
  room = n;
  enough = omega arith;
  is = e ∙ ap (λ x. found ++ x) (first-of (is_whitespace c) (blank n place c cs) (cond (begins_word (c ∷ cs)) (word n place c cs) (sign n place c cs)) space);
}

from-sign : (all found : List Placed) (place c : ℕ) (cs : List ℕ) (n : ℕ) → is_whitespace c ≡ false → begins_word (c ∷ cs) ≡ false → length (c ∷ cs) ≤ n → all ≡ found ++ lexemes_from n place (c ∷ cs)
    → Scanned all (found ++ placed place (sign_lexeme c) ∷ []) (place + len_utf8 c) cs
unfolding blank word sign
from-sign all found place c cs zero space begins le e = absurd (omega arith)
from-sign all found place c cs (suc n) space begins le e = record {
  room = n;
  enough = omega arith;
  is = e ∙ ap (λ x. found ++ x) (third-of (is_whitespace c) (begins_word (c ∷ cs)) (blank n place c cs) (word n place c cs) (sign n place c cs) space begins)
      ∙ sym (append_assoc found (placed place (sign_lexeme c) ∷ []) (lexemes_from n (place + len_utf8 c) cs));
}

from-word : (all found : List Placed) (place c : ℕ) (cs : List ℕ) (lexeme : Lexeme) (rest : List ℕ) (n : ℕ) → is_whitespace c ≡ false → begins_word (c ∷ cs) ≡ true → IsWordAt place (c ∷ cs) lexeme rest → length (c ∷ cs) ≤ n → all ≡ found ++ lexemes_from n place (c ∷ cs)
    → Scanned all (found ++ placed place lexeme ∷ []) (place + (byte_count (c ∷ cs) - byte_count rest)) rest
unfolding blank word sign
from-word all found place c cs lexeme rest zero space begins w le e = absurd (omega arith)
from-word all found place c cs lexeme rest (suc n) space begins w le e =
    let next = place + (byte_count (c ∷ cs) - byte_count rest) in
    let reads = ap (λ p. with_word (λ at rest. lexemes_from n at rest) place (c ∷ cs) p) (w.reads (suc n) le) in
    let front = ap (λ l. placed place l ∷ lexemes_from n next rest) (sym w.is) in
    record {
      room = n;
      enough = omega (arith, end-length rest cs (past-word place c cs lexeme rest w begins));
      is = e ∙ ap (λ x. found ++ x) (second-of (is_whitespace c) (begins_word (c ∷ cs)) (blank n place c cs) (word n place c cs) (sign n place c cs) space begins ∙ reads ∙ front)
          ∙ sym (append_assoc found (placed place lexeme ∷ []) (lexemes_from n next rest));
    }

pub scan-blank : (all found : List Placed) (whole c : ℕ) (rest cs : List ℕ) → rest ≡ c ∷ cs → is_whitespace c ≡ true → byte_count rest ≤ whole → Scanned all found (whole - byte_count rest + 1) rest → Scanned all found (whole - byte_count cs + 1) cs
scan-blank all found whole c rest cs is space le s =
    let at : (whole - byte_count rest + 1) + len_utf8 c ≡ whole - byte_count cs + 1 = omega (arith, le, ap byte_count is) in
    subst (λ p. Scanned all found p cs) at
    (from-blank all found (whole - byte_count rest + 1) c cs s.room space (omega (arith, s.enough, ap length is)) (s.is ∙ ap (λ x. found ++ lexemes_from s.room (whole - byte_count rest + 1) x) is))

pub scan-sign : (all found next : List Placed) (whole place c : ℕ) (lexeme : Lexeme) (rest cs : List ℕ) → rest ≡ c ∷ cs → is_whitespace c ≡ false → begins_word rest ≡ false → byte_count rest ≤ whole
    → place ≡ whole - byte_count rest + 1 → lexeme ≡ sign_lexeme c → next ≡ found ++ placed place lexeme ∷ [] → Scanned all found (whole - byte_count rest + 1) rest → Scanned all next (whole - byte_count cs + 1) cs
scan-sign all found next whole place c lexeme rest cs is space begins le at its more s =
    let there : (whole - byte_count rest + 1) + len_utf8 c ≡ whole - byte_count cs + 1 = omega (arith, le, ap byte_count is) in
    let same = more ∙ ap (λ l. found ++ placed place l ∷ []) its ∙ ap (λ p. found ++ placed p (sign_lexeme c) ∷ []) at in
    subst (λ ps. Scanned all ps (whole - byte_count cs + 1) cs) (sym same)
    (subst (λ p. Scanned all (found ++ placed (whole - byte_count rest + 1) (sign_lexeme c) ∷ []) p cs) there
    (from-sign all found (whole - byte_count rest + 1) c cs s.room space (ap begins_word (sym is) ∙ begins) (omega (arith, s.enough, ap length is)) (s.is ∙ ap (λ x. found ++ lexemes_from s.room (whole - byte_count rest + 1) x) is)))

pub scan-word : (all found next : List Placed) (whole place c : ℕ) (lexeme : Lexeme) (text cs rest : List ℕ) → text ≡ c ∷ cs → is_whitespace c ≡ false → begins_word text ≡ true → byte_count text ≤ whole
    → place ≡ whole - byte_count text + 1 → IsWordAt place text lexeme rest → next ≡ found ++ placed place lexeme ∷ [] → Scanned all found (whole - byte_count text + 1) text → Scanned all next (whole - byte_count rest + 1) rest
scan-word all found next whole place c lexeme text cs rest is space begins le at w more s =
    let shorter = word-shorter place text c cs lexeme rest is w begins in
    let there : place + (byte_count (c ∷ cs) - byte_count rest) ≡ whole - byte_count rest + 1 = omega (arith, le, at, shorter.1, ap byte_count is) in
    let here = subst (λ p. Scanned all found p text) (sym at) s in
    subst (λ ps. Scanned all ps (whole - byte_count rest + 1) rest) (sym more)
    (subst (λ p. Scanned all (found ++ placed place lexeme ∷ []) p rest) there
    (from-word all found place c cs lexeme rest here.room space (ap begins_word (sym is) ∙ begins) (subst (λ x. IsWordAt place x lexeme rest) is w) (omega (arith, here.enough, ap length is)) (here.is ∙ ap (λ x. found ++ lexemes_from here.room place x) is)))

pub scan-end : (all found : List Placed) (place : ℕ) (rest : List ℕ) → rest ≡ [] → Scanned all found place rest → found ≡ all
scan-end all found place rest is s = sym (s.is ∙ ap (λ x. found ++ lexemes_from s.room place x) is ∙ ap (λ x. found ++ x) (nothing s.room) ∙ append-nil found)
  where
    nothing : (n : ℕ) → lexemes_from n place [] ≡ []
    nothing zero = refl
    nothing (suc n) = refl

pub scan-over : (all found : List Placed) (place c : ℕ) (rest cs : List ℕ) → rest ≡ c ∷ cs → is_whitespace c ≡ false → Scanned all found place rest → length found < length all
scan-over all found place c rest cs is space s =
    let some = more s.room (omega (arith, s.enough, ap length is)) in
    omega (arith, ap length (s.is ∙ ap (λ x. found ++ lexemes_from s.room place x) is), length-append found (lexemes_from s.room place (c ∷ cs)), some)
  where
    one : (a b : Bool) (x : List Placed) (p q : Placed) (ps qs : List Placed) → a ≡ false → 0 < length (cond a x (cond b (p ∷ ps) (q ∷ qs)))
    one false true x p q ps qs e = omega arith
    one false false x p q ps qs e = omega arith
    one true b x p q ps qs e = cc

    more : (n : ℕ) → length (c ∷ cs) ≤ n → 0 < length (lexemes_from n place (c ∷ cs))
    more zero le = absurd (omega arith)
    more (suc n) le =
        let p = word_from (suc n) no_run (c ∷ cs) in
        one (is_whitespace c) (begins_word (c ∷ cs)) (lexemes_from n (place + len_utf8 c) cs) (placed place (word_lexeme (opens p.1) (written_at place p.0))) (placed place (sign_lexeme c))
        (lexemes_from n (place + (byte_count (c ∷ cs) - byte_count p.1)) p.1) (lexemes_from n (place + len_utf8 c) cs) space
