-- Each query that is read keeps the limits: its words are no longer than the text, and the tests of the grammar give the rest.
use Rattle.std.proofs.Common.{◌≡◌, ℕ, ◌+◌, ◌≤◌, ◌==◌, zero, suc, nat_le, nat_lt, ◌-◌, Bool, true, false, cond, not, ◌||◌, ◌&&◌, List, [], ◌∷◌, ◌++◌, length, refl, sym, ap, ◌∙◌, subst, append_assoc, append-nil, length-append, arith, Option, Some, None, Result, Ok, Err, IfOk, IfSome}
use Rattle.std.specs.Char.{is_whitespace, encode_utf8, len_utf8}
use Rattle.std.specs.List.{list_all, list_any}
use Rattle.std.specs.Prelude.{codes}
use Rattle.std.proofs.lemmas.Bool.{and_parts, and_from, ltb-false, leb-true, le-leb}
use Rattle.std.proofs.lemmas.List.Folds.{list_all-append}
use Rattle.std.proofs.lemmas.Str.{length-encode, len_utf8_bounds}
use Rattle.q_tree.specs.declared.queries.Query.{Query}
use Rattle.q_tree.specs.declared.queries.Leaf.{Leaf}
use Rattle.q_tree.specs.declared.queries.Relation.{Relation}
use Rattle.q_tree.specs.declared.queries.Word.{Word as TreeWord}
use Rattle.q_tree.specs.declared.queries.WordBit.{WordBit}
use Rattle.q_tree.specs.declared.queries.WordBit.TheVariants.{Chars, One, Many}
use Rattle.q_tree.specs.declared.flats.SumStep.{SumStep}
use Rattle.q_tree.specs.declared.flats.SumStep.TheVariants.{Number, Discrete, Occurrence}
use Rattle.q_tree.specs.Limits.{query_limit, word_length, word_keeps_limit, leaf_keeps_limits, leaves_keep_limits, keeps_limits}
use Rattle.q_tree.specs.Soundness.{is_between, is_operator, operators as step_operators, is_step, values, is_one, is_sum}
use Rattle.q_tree.specs.Trees.{Tree, Near as NearTree, tree_of}
use Rattle.q_tree.specs.laws.PostfixSums.{two_less}
use Rattle.q_parse.specs.declared.faults.QueryFault.{QueryFault}
use Rattle.q_lex.specs.declared.lexemes.Lexeme.{Lexeme}
use Rattle.q_lex.specs.declared.lexemes.Lexeme.TheVariants.{Word, Operator, Equiv, Near, Within, Star, Greater, Close, Comma}
use Rattle.q_lex.specs.declared.lexemes.Infix.TheVariants.{Or, And, Not, MinusWord, MinusSign}
use Rattle.q_lex.specs.declared.lexemes.Written.{Written}
use Rattle.q_parse.specs.Faults.{IsVerdict}
use Rattle.q_parse.specs.Grammar.{PhraseText, OneWord, NextSlot, SameSlot, phrase_spelling, put_last, slots_of_phrase, WordsText, FirstWord, MoreWords, words_spelling, words_of, ThesTail, NoTail, NameTail, LevelTail, BothTail, thes_tail_spelling, IsThesTail, tail_level, LeafText, PhraseLeaf, ThesLeaf, leaf_spelling, leaf, IsLeaf, SumText, AtomText, SumGroup, SumBoth, sum_spelling, sign_step, step_tightness, postfix_form, operator_count, SumFits, NearTail, NoSpan, Span, Ordered, near_tail_spelling, near_span, near_ordered, IsNearTail, Text, LeafPart, GroupText, BothText, WeightText, AboveText, WithinText, ChainText, ListText, NearText, DefineText, spelling, phrases, operands, meaning, tightness, Terms, IsNearChain, IsList, QueryFits, IsQuery}
use Rattle.q_lex.specs.Lexing.{is_sign_char, refused_functions, too_deep, is_plain_char, with_front, braced, begins_word, Run, no_run, flushed, flushed_to, put_literal, put_literals, put_wildcard, put_plain, escaped, in_braces, word_from, written_at, sign_lexeme, word_lexeme, function_lexeme, opens, placed, byte_count, with_word, lexemes_from, query_lexemes, bare, too_large}
use Rattle.q_parse.specs.Results.{verdict_of}
use Rattle.q_lex.specs.Words.{strict, in_range, whole, tenths, number_or_zero, plain_is, plain_value, is_name, takes_tenths, takes_whole, takes_level, takes_atom, may_add, may_count, tenths_of, whole_of, atom_of, is_foreign, says}

-- ---- lexemes whose words are short

abbrev ShortLexeme : Lexeme → Type 0
ShortLexeme (Word w) = word_keeps_limit w.word ≡ true
ShortLexeme l = Unit {0}

record IsShort (l : Lexeme) : Type 0 where
  short : ShortLexeme l

abbrev AreShort : List Lexeme → Type 0
AreShort [] = Unit {0}
AreShort (l ∷ ls) = IsShort l × AreShort ls

short-front : (xs ys : List Lexeme) → AreShort (xs ++ ys) → AreShort xs
short-front [] ys h = tt
short-front (x ∷ xs) ys h = (h.0, short-front xs ys h.1)

short-back : (xs ys : List Lexeme) → AreShort (xs ++ ys) → AreShort ys
short-back [] ys h = h
short-back (x ∷ xs) ys h = short-back xs ys h.1

-- ---- a word has no more bytes than what is read to it

-- the bytes of a word so far
abbrev size : Run → ℕ
size r = word_length r.bits + length r.chars

word_length-append : (xs ys : List WordBit) → word_length (xs ++ ys) ≡ word_length xs + word_length ys
word_length-append [] ys = omega arith
word_length-append (Chars t ∷ xs) ys = omega (arith, word_length-append xs ys)
word_length-append (One ∷ xs) ys = word_length-append xs ys
word_length-append (Many ∷ xs) ys = word_length-append xs ys

flushed-size : (bits : List WordBit) (cs : List ℕ) → word_length (flushed_to bits cs) ≡ word_length bits + length cs
flushed-size bits [] = omega arith
flushed-size bits (c ∷ cs) = omega (arith, word_length-append bits (Chars (c ∷ cs) ∷ []))

literal-size : (c : ℕ) (r : Run) → size (put_literal c r) ≡ size r + len_utf8 c
literal-size c r = omega (arith, length-append r.chars (encode_utf8 c), length-encode c)

literals-size : (cs : List ℕ) (r : Run) → size (put_literals cs r) ≡ size r + byte_count cs
literals-size [] r = omega arith
literals-size (c ∷ cs) r = omega (arith, literals-size cs (put_literal c r), literal-size c r)

wildcard-size : (bit : WordBit) (c : ℕ) (r : Run) → word_length (bit ∷ []) ≡ 0 → size (put_wildcard bit c r) ≡ size r
wildcard-size bit c r none = omega (arith, none, word_length-append (flushed r) (bit ∷ []), flushed-size r.bits r.chars)

plain-size : (c : ℕ) (r : Run) → size (put_plain c r) ≤ size r + len_utf8 c
plain-size c r = pick (c == 95) (c == 37)
  where
    pick : (a b : Bool) → size (cond a (put_wildcard One c r) (cond b (put_wildcard Many c r) (record { bits = r.bits; chars = r.chars ++ encode_utf8 c; spelling = r.spelling ++ encode_utf8 c; plain = r.plain }))) ≤ size r + len_utf8 c
    pick true b = omega (arith, wildcard-size One c r refl)
    pick false true = omega (arith, wildcard-size Many c r refl)
    pick false false = omega (arith, length-append r.chars (encode_utf8 c), length-encode c)

-- the bytes of a braced text and of what follows it
abbrev braced_size : Option (List ℕ × List ℕ) → ℕ
braced_size None = 0
braced_size (Some p) = byte_count p.0 + byte_count p.1

front-size : (c : ℕ) (o : Option (List ℕ × List ℕ)) → braced_size (with_front c o) ≤ len_utf8 c + braced_size o
front-size c None = omega arith
front-size c (Some p) = omega arith

braced-shorter : (cs : List ℕ) → braced_size (braced cs) ≤ byte_count cs
braced-shorter [] = omega arith
braced-shorter (c ∷ []) = one (c == 125)
  where
    one : (b : Bool) → braced_size (cond b (Some ([], [])) None) ≤ byte_count (c ∷ [])
    one true = omega arith
    one false = omega arith
braced-shorter (c ∷ d ∷ cs) = two (c == 125) (d == 125) (braced-shorter cs) (braced-shorter (d ∷ cs))
  where
    two : (a b : Bool) → braced_size (braced cs) ≤ byte_count cs → braced_size (braced (d ∷ cs)) ≤ byte_count (d ∷ cs)
        → braced_size (cond a (cond b (with_front 125 (braced cs)) (Some ([], d ∷ cs))) (with_front c (braced (d ∷ cs)))) ≤ byte_count (c ∷ d ∷ cs)
    two true true f g = let brace : len_utf8 125 ≡ 1 = refl in let some = len_utf8_bounds c in omega (arith, f, brace, some.0, front-size 125 (braced cs))
    two true false f g = omega arith
    two false b f g = omega (arith, g, front-size c (braced (d ∷ cs)))

-- the bytes of a word, and of what follows it
abbrev read_size : Run × List ℕ → ℕ
read_size p = size p.0 + byte_count p.1

Shortens : ℕ → Type 0
Shortens n = (r : Run) (cs : List ℕ) → read_size (word_from n r cs) ≤ size r + byte_count cs

escaped-shorter : (n : ℕ) → Shortens n → (r : Run) (c : ℕ) (cs : List ℕ) → read_size (escaped (λ q ds. word_from n q ds) r c cs) ≤ size r + byte_count (c ∷ cs)
unfolding Shortens
escaped-shorter n more r c [] = omega arith
escaped-shorter n more r c (d ∷ ds) = omega (arith, more (put_literal d r) ds, literal-size d r)

braces-shorter : (n : ℕ) → Shortens n → (r : Run) (c : ℕ) (cs : List ℕ) (o : Option (List ℕ × List ℕ)) → braced_size o ≤ byte_count cs → read_size (in_braces (λ q ds. word_from n q ds) r (c ∷ cs) o) ≤ size r + byte_count (c ∷ cs)
unfolding Shortens
braces-shorter n more r c cs None le = omega arith
braces-shorter n more r c cs (Some p) le = omega (arith, le, more (put_literals p.0 r) p.1, literals-size p.0 r)

word-size : (n : ℕ) → Shortens n
unfolding Shortens
word-size zero r cs = omega arith
word-size (suc n) r [] = omega arith
word-size (suc n) r (c ∷ cs) = pick (is_plain_char c) (c == 92) (c == 123) (λ q ds. word-size n q ds)
  where
    pick : (a b d : Bool) → Shortens n
        → read_size (cond a (word_from n (put_plain c r) cs) (cond b (escaped (λ q ds. word_from n q ds) r c cs) (cond d (in_braces (λ q ds. word_from n q ds) r (c ∷ cs) (braced cs)) (r, c ∷ cs)))) ≤ size r + byte_count (c ∷ cs)
    pick true b d more = omega (arith, more (put_plain c r) cs, plain-size c r)
    pick false true d more = escaped-shorter n more r c cs
    pick false false true more = braces-shorter n more r c cs (braced cs) (braced-shorter cs)
    pick false false false more = omega arith

-- ---- the words among the lexemes of a text are short

either : {l m : Lexeme} (b : Bool) → IsShort l → IsShort m → IsShort (cond b l m)
either true h k = h
either false h k = k

sign-short : (c : ℕ) → IsShort (sign_lexeme c)
sign-short c =
    either (c == 38) (record { short = tt })
    (either (c == 124) (record { short = tt })
    (either (c == 126) (record { short = tt })
    (either (c == 45) (record { short = tt })
    (either (c == 61) (record { short = tt })
    (either (c == 42) (record { short = tt })
    (either (c == 62) (record { short = tt })
    (either (c == 59) (record { short = tt })
    (either (c == 40) (record { short = tt })
    (either (c == 41) (record { short = tt })
    (either (c == 44) (record { short = tt })
    (either (is_sign_char c) (record { short = tt }) (record { short = tt }))))))))))))

function-short : (w : Written) → word_keeps_limit w.word ≡ true → IsShort (function_lexeme w)
function-short w h =
    either (says (codes "definescore") w) (record { short = tt })
    (either (says (codes "syn") w) (record { short = tt })
    (either (says (codes "pt") w) (record { short = tt })
    (either (says (codes "bt") w) (record { short = tt })
    (either (says (codes "nt") w) (record { short = tt })
    (either (list_any (λ word. says word w) refused_functions) (record { short = tt }) (record { short = h }))))))

word-short : (b : Bool) (w : Written) → word_keeps_limit w.word ≡ true → IsShort (word_lexeme b w)
word-short b w h =
    either (says (codes "and") w) (record { short = tt })
    (either (says (codes "or") w) (record { short = tt })
    (either (says (codes "not") w) (record { short = tt })
    (either (says (codes "minus") w) (record { short = tt })
    (either (says (codes "equiv") w) (record { short = tt })
    (either (says (codes "near") w) (record { short = tt })
    (either (says (codes "within") w) (record { short = tt })
    (either (says (codes "accum") w) (record { short = tt })
    (either b (function-short w h) (record { short = h })))))))))

-- the word that stands in front of a text of so few bytes, and what follows it
written-short : (n place : ℕ) (text : List ℕ) → byte_count text ≤ query_limit → word_keeps_limit (written_at place (word_from n no_run text).0).word ≡ true
unfolding Shortens
written-short n place text small =
    let p = word_from n no_run text in
    le-leb (word_length (flushed p.0)) query_limit (omega (arith, small, word-size n no_run text, flushed-size p.0.bits p.0.chars))

rest-short : (n : ℕ) (text : List ℕ) → byte_count text ≤ query_limit → byte_count (word_from n no_run text).1 ≤ query_limit
unfolding Shortens
rest-short n text small = omega (arith, small, word-size n no_run text)

query_lexemes-short : (n place : ℕ) (cs : List ℕ) → byte_count cs ≤ query_limit → AreShort (bare (lexemes_from n place cs))
query_lexemes-short zero place cs small = tt
query_lexemes-short (suc n) place [] small = tt
query_lexemes-short (suc n) place (c ∷ cs) small = pick (is_whitespace c) (begins_word (c ∷ cs)) (λ at rest le. query_lexemes-short n at rest le)
  where
    pick : (a b : Bool) → ((at : ℕ) (rest : List ℕ) → byte_count rest ≤ query_limit → AreShort (bare (lexemes_from n at rest)))
        → AreShort (bare (cond a (lexemes_from n (place + len_utf8 c) cs) (cond b (with_word (λ at rest. lexemes_from n at rest) place (c ∷ cs) (word_from (suc n) no_run (c ∷ cs))) (placed place (sign_lexeme c) ∷ lexemes_from n (place + len_utf8 c) cs))))
    pick true b more = more (place + len_utf8 c) cs (omega (arith, small))
    pick false true more =
        let p = word_from (suc n) no_run (c ∷ cs) in
        (word-short (opens p.1) (written_at place p.0) (written-short (suc n) place (c ∷ cs) small), more (place + (byte_count (c ∷ cs) - byte_count p.1)) p.1 (rest-short (suc n) (c ∷ cs) small))
    pick false false more = (sign-short c, more (place + len_utf8 c) cs (omega (arith, small)))

-- ---- tests on lists

all-both : {X : Type 0} (p : X → Bool) (xs ys : List X) → list_all p xs ≡ true → list_all p ys ≡ true → list_all p (xs ++ ys) ≡ true
all-both p xs ys h k = list_all-append p xs ys ∙ and_from (list_all p xs) (list_all p ys) h k

all-one : {X : Type 0} (p : X → Bool) (x : X) → p x ≡ true → list_all p (x ∷ []) ≡ true
all-one p x h = and_from (p x) true h refl

all-more : {X : Type 0} (p : X → Bool) (xs : List X) (x : X) → list_all p xs ≡ true → p x ≡ true → list_all p (xs ++ x ∷ []) ≡ true
all-more p xs x h k = all-both p xs (x ∷ []) h (all-one p x k)

three : (a b c : Bool) → a ≡ true → b ≡ true → c ≡ true → (a && b && c) ≡ true
three a b c h k l = rw (h, k, l) refl

or_false : (b : Bool) → (b || false) ≡ true → b ≡ true
or_false true h = refl
or_false false h = cc

-- ---- numbers

value-between : (lo hi : ℕ) (o : Option ℕ) → (in_range lo hi o || false) ≡ true → is_between lo hi (number_or_zero o) ≡ true
value-between lo hi None h = cc
value-between lo hi (Some n) h = or_false (is_between lo hi n) h

plain-between : (lo hi : ℕ) (number : List ℕ → Option ℕ) (o : Option (List ℕ)) → (plain_is (λ cs. in_range lo hi (number cs)) o || (false && plain_is (λ _. true) o)) ≡ true → is_between lo hi (plain_value number o) ≡ true
plain-between lo hi number None h = cc
plain-between lo hi number (Some cs) h = value-between lo hi (number cs) h

whole-between : (lo hi : ℕ) (w : Written) → takes_whole strict lo hi w ≡ true → is_between lo hi (whole_of w) ≡ true
whole-between lo hi w h = plain-between lo hi whole w.plain h

whole-at_most : (hi : ℕ) (w : Written) → takes_whole strict 0 hi w ≡ true → nat_le (whole_of w) hi ≡ true
whole-at_most hi w h = (and_parts (nat_le 0 (whole_of w)) (nat_le (whole_of w) hi) (whole-between 0 hi w h)).1

tenths-between : (w : Written) → takes_tenths strict w ≡ true → is_between 1 100 (tenths_of w) ≡ true
tenths-between w h = plain-between 1 100 tenths w.plain h

level-between : (w : Written) → takes_level strict w ≡ true → is_between 1 99 (whole_of w) ≡ true
level-between w h = whole-between 1 99 w (and_parts (not (is_name w)) (takes_whole strict 1 99 w) h).1

-- ---- sums

atom-operand : (w : Written) → is_operator (atom_of w) ≡ false
atom-operand w = pick (says (codes "discrete") w) (says (codes "occurrence") w)
  where
    pick : (a b : Bool) → is_operator (cond a Discrete (cond b Occurrence (Number (whole_of w)))) ≡ false
    pick true b = refl
    pick false true = refl
    pick false false = refl

atom-step : (w : Written) → takes_atom strict w ≡ true → is_step (atom_of w) ≡ true
atom-step w h = pick (says (codes "discrete") w) (says (codes "occurrence") w) h
  where
    pick : (a b : Bool) → (a || (b || (takes_whole strict 0 1000 w || (false && is_foreign w)))) ≡ true → is_step (cond a Discrete (cond b Occurrence (Number (whole_of w)))) ≡ true
    pick true b e = refl
    pick false true e = refl
    pick false false e = whole-at_most 1000 w (or_false (takes_whole strict 0 1000 w) e)

sign-operator : (l : Lexeme) → is_operator (sign_step l) ≡ true
sign-operator (Operator Or) = refl
sign-operator (Operator And) = refl
sign-operator (Operator Not) = refl
sign-operator (Operator MinusWord) = refl
sign-operator (Operator MinusSign) = refl
sign-operator Star = refl
sign-operator l = refl

sign-step : (l : Lexeme) → is_step (sign_step l) ≡ true
sign-step (Operator Or) = refl
sign-step (Operator And) = refl
sign-step (Operator Not) = refl
sign-step (Operator MinusWord) = refl
sign-step (Operator MinusSign) = refl
sign-step Star = refl
sign-step l = refl

one-more : (s : SumStep) (rest : List SumStep) (n : ℕ) → is_operator s ≡ false → values (s ∷ rest) n ≡ values rest (n + 1)
one-more s rest n h = rw h refl

one-less : (s : SumStep) (rest : List SumStep) (n : ℕ) → is_operator s ≡ true → values (s ∷ rest) (n + 1 + 1) ≡ values rest (n + 1)
one-less s rest n h = rw (h, two_less n) refl

sum-value : (s : SumText) (rest : List SumStep) (n : ℕ) → values (postfix_form s ++ rest) n ≡ values rest (n + 1)
sum-value (AtomText w) rest n = one-more (atom_of w) rest n (atom-operand w)
sum-value (SumGroup s) rest n = sum-value s rest n
sum-value (SumBoth l s t) rest n =
    ap (λ xs. values xs n) (append_assoc (postfix_form s ++ postfix_form t) (sign_step l ∷ []) rest ∙ append_assoc (postfix_form s) (postfix_form t) (sign_step l ∷ rest))
    ∙ sum-value s (postfix_form t ++ sign_step l ∷ rest) n
    ∙ sum-value t (sign_step l ∷ rest) (n + 1)
    ∙ one-less (sign_step l) rest n (sign-operator l)

operators-append : (xs ys : List SumStep) → step_operators (xs ++ ys) ≡ step_operators xs + step_operators ys
operators-append [] ys = omega arith
operators-append (x ∷ xs) ys = omega (arith, operators-append xs ys)

no-operator : (s : SumStep) → is_operator s ≡ false → step_operators (s ∷ []) ≡ 0
no-operator s h = rw h refl

one-operator : (s : SumStep) → is_operator s ≡ true → step_operators (s ∷ []) ≡ 1
one-operator s h = rw h refl

sum-operators : (s : SumText) → step_operators (postfix_form s) ≡ operator_count s
sum-operators (AtomText w) = no-operator (atom_of w) (atom-operand w)
sum-operators (SumGroup s) = sum-operators s
sum-operators (SumBoth l s t) =
    let outer = operators-append (postfix_form s ++ postfix_form t) (sign_step l ∷ []) in
    let inner = operators-append (postfix_form s) (postfix_form t) in
    omega (arith, outer, inner, sum-operators s, sum-operators t, one-operator (sign_step l) (sign-operator l))

sum-steps : (k : ℕ) (s : SumText) → SumFits strict k s → list_all is_step (postfix_form s) ≡ true
sum-steps k (AtomText w) fits = all-one is_step (atom_of w) (atom-step w fits)
sum-steps k (SumGroup s) fits = sum-steps 1 s fits
sum-steps k (SumBoth l s t) fits =
    all-more is_step (postfix_form s ++ postfix_form t) (sign_step l)
    (all-both is_step (postfix_form s) (postfix_form t) (sum-steps (step_tightness (sign_step l)) s fits.2) (sum-steps (step_tightness (sign_step l) + 1) t fits.3))
    (sign-step l)

sum-keeps : (s : SumText) → SumFits strict 1 s → may_count strict (operator_count s) ≡ true → is_sum (postfix_form s) ≡ true
sum-keeps s fits count =
    let one : values (postfix_form s) 0 ≡ Some 1 = ap (λ xs. values xs 0) (sym (append-nil (postfix_form s))) ∙ sum-value s [] 0 in
    three (is_one (values (postfix_form s) 0)) (nat_le (step_operators (postfix_form s)) 8) (list_all is_step (postfix_form s))
    (ap is_one one)
    (ap (λ n. nat_le n 8) (sum-operators s) ∙ or_false (nat_le (operator_count s) 8) count)
    (sum-steps 1 s fits)

-- ---- leaves

abbrev short_slot : List TreeWord → Bool
short_slot slot = list_all word_keeps_limit slot

put-short : (ss : List (List TreeWord)) (w : TreeWord) → list_all short_slot ss ≡ true → word_keeps_limit w ≡ true → list_all short_slot (put_last ss w) ≡ true
put-short [] w h k = all-one short_slot (w ∷ []) (all-one word_keeps_limit w k)
put-short (s ∷ []) w h k = all-one short_slot (s ++ w ∷ []) (all-more word_keeps_limit s w (and_parts (short_slot s) true h).0 k)
put-short (s ∷ t ∷ ss) w h k =
    let p = and_parts (short_slot s) (list_all short_slot (t ∷ ss)) h in
    and_from (short_slot s) (list_all short_slot (put_last (t ∷ ss) w)) p.0 (put-short (t ∷ ss) w p.1 k)

phrase-keeps : (p : PhraseText) → AreShort (phrase_spelling p) → list_all short_slot (slots_of_phrase p) ≡ true
phrase-keeps (OneWord w) h = all-one short_slot (w.word ∷ []) (all-one word_keeps_limit w.word h.0.short)
phrase-keeps (NextSlot p w) h =
    let last = short-back (phrase_spelling p) (Word w ∷ []) h in
    all-more short_slot (slots_of_phrase p) (w.word ∷ []) (phrase-keeps p (short-front (phrase_spelling p) (Word w ∷ []) h)) (all-one word_keeps_limit w.word last.0.short)
phrase-keeps (SameSlot p w) h =
    let last = short-back (phrase_spelling p) (Equiv ∷ Word w ∷ []) h in
    put-short (slots_of_phrase p) w.word (phrase-keeps p (short-front (phrase_spelling p) (Equiv ∷ Word w ∷ []) h)) last.1.0.short

words-keep : (ws : WordsText) → AreShort (words_spelling ws) → list_all word_keeps_limit (words_of ws) ≡ true
words-keep (FirstWord w) h = all-one word_keeps_limit w.word h.0.short
words-keep (MoreWords ws w) h =
    let last = short-back (words_spelling ws) (Word w ∷ []) h in
    all-more word_keeps_limit (words_of ws) w.word (words-keep ws (short-front (words_spelling ws) (Word w ∷ []) h)) last.0.short

tail-keeps : (relation : Relation) (tail : ThesTail) → IsThesTail strict relation tail → is_between 1 99 (tail_level tail) ≡ true
tail-keeps relation NoTail its = refl
tail-keeps relation (NameTail w) its = refl
tail-keeps relation (LevelTail w) its = level-between w its.1
tail-keeps relation (BothTail w v) its = level-between w its.1

leaf-keeps : (p : LeafText) → IsLeaf strict p → AreShort (leaf_spelling p) → leaf_keeps_limits (leaf p) ≡ true
leaf-keeps (PhraseLeaf p) its h = phrase-keeps p h
leaf-keeps (ThesLeaf relation ws tail) its h =
    and_from (list_all word_keeps_limit (words_of ws)) (is_between 1 99 (tail_level tail))
    (words-keep ws (short-front (words_spelling ws) (thes_tail_spelling tail) h.1.1))
    (tail-keeps relation tail its.1)

-- ---- operands

phrases-keep : (many : Bool) (t : Text) → Terms strict many t → AreShort (spelling t) → leaves_keep_limits (phrases t) ≡ true
phrases-keep many (LeafPart p) terms h = all-one leaf_keeps_limits (leaf p) (leaf-keeps p terms h)
phrases-keep many (GroupText t) terms h = phrases-keep true t terms (short-front (spelling t) (Close ∷ []) h.1)
phrases-keep true (BothText Or s t) terms h =
    all-both leaf_keeps_limits (phrases s) (phrases t)
    (phrases-keep true s terms.0 (short-front (spelling s) (Operator Or ∷ spelling t) h))
    (phrases-keep false t terms.1 (short-back (spelling s) (Operator Or ∷ spelling t) h).1)
phrases-keep many t terms h = absurd terms

chain-keeps : (t : Text) → IsNearChain strict t → AreShort (spelling t) → list_all leaves_keep_limits (operands t) ≡ true
chain-keeps (ChainText s t) chain h =
    all-more leaves_keep_limits (operands s) (phrases t)
    (chain-keeps s chain.0 (short-front (spelling s) (Near ∷ spelling t) h))
    (phrases-keep false t chain.1 (short-back (spelling s) (Near ∷ spelling t) h).1)
chain-keeps (ListText s t) chain h = absurd chain
chain-keeps t chain h = all-one leaves_keep_limits (phrases t) (phrases-keep false t chain h)

list-keeps : (t : Text) → IsList strict t → AreShort (spelling t) → list_all leaves_keep_limits (operands t) ≡ true
list-keeps (ListText s t) list h =
    all-more leaves_keep_limits (operands s) (phrases t)
    (list-keeps s list.0 (short-front (spelling s) (Comma ∷ spelling t) h))
    (phrases-keep true t list.1 (short-back (spelling s) (Comma ∷ spelling t) h).1)
list-keeps (ChainText s t) list h = absurd list
list-keeps t list h = all-one leaves_keep_limits (phrases t) (phrases-keep true t list h)

-- one operand more than some, of which one more may be added
one_operand_more : (ops : List (List Leaf)) (ps : List Leaf) → may_add strict (length ops) ≡ true → length (ops ++ ps ∷ []) ≤ 16
one_operand_more ops ps may = omega (arith, leb-true (length ops) 15 (or_false (nat_le (length ops) 15) may), length-append ops (ps ∷ []))

list-few : (t : Text) → IsList strict t → length (operands t) ≤ 16
list-few (ListText s t) list = one_operand_more (operands s) (phrases t) list.2
list-few (ChainText s t) list = absurd list
list-few t list = omega arith

operands-some : (t : Text) → 1 ≤ length (operands t)
operands-some (ChainText s t) = omega (arith, length-append (operands s) (phrases t ∷ []))
operands-some (ListText s t) = omega (arith, length-append (operands s) (phrases t ∷ []))
operands-some t = omega arith

between-from : (lo hi n : ℕ) → lo ≤ n → n ≤ hi → is_between lo hi n ≡ true
between-from lo hi n h k = and_from (nat_le lo n) (nat_le n hi) (le-leb lo n h) (le-leb n hi k)

nearness-keeps : (ops : List (List Leaf)) (span : ℕ) (ordered : Bool) → 2 ≤ length ops → length ops ≤ 16 → list_all leaves_keep_limits ops ≡ true → nat_le span 100 ≡ true → keeps_limits (NearTree ops span ordered) ≡ true
nearness-keeps ops span ordered lo hi keep le =
    three (is_between 2 16 (length ops)) (list_all leaves_keep_limits ops) (nat_le span 100) (between-from 2 16 (length ops) lo hi) keep le

span-keeps : (tail : NearTail) → IsNearTail strict tail → nat_le (near_span tail) 100 ≡ true
span-keeps NoSpan its = refl
span-keeps (Span w) its = whole-at_most 100 w its
span-keeps (Ordered w v) its = whole-at_most 100 w its.0

-- ---- queries

text-keeps : (k : ℕ) (t : Text) → QueryFits strict k t → AreShort (spelling t) → keeps_limits (meaning t) ≡ true
text-keeps k (LeafPart p) fits h = leaf-keeps p fits h
text-keeps k (GroupText t) fits h = text-keeps 1 t fits (short-front (spelling t) (Close ∷ []) h.1)
text-keeps k (BothText op s t) fits h =
    and_from (keeps_limits (meaning s)) (keeps_limits (meaning t))
    (text-keeps (tightness op) s fits.1 (short-front (spelling s) (Operator op ∷ spelling t) h))
    (text-keeps (tightness op + 1) t fits.2 (short-back (spelling s) (Operator op ∷ spelling t) h).1)
text-keeps k (WeightText t w) fits h =
    and_from (is_between 1 100 (tenths_of w)) (keeps_limits (meaning t))
    (tenths-between w fits.2)
    (text-keeps 6 t fits.1 (short-front (spelling t) (Star ∷ Word w ∷ []) h))
text-keeps k (AboveText t w) fits h =
    and_from (nat_le (whole_of w) 100) (keeps_limits (meaning t))
    (whole-at_most 100 w fits.2)
    (text-keeps 6 t fits.1 (short-front (spelling t) (Greater ∷ Word w ∷ []) h))
text-keeps k (WithinText t w) fits h = text-keeps 3 t fits.1 (short-front (spelling t) (Within ∷ Word w ∷ []) h)
text-keeps k (ChainText s t) fits h =
    let some : 2 ≤ length (operands (ChainText s t)) = omega (arith, operands-some s, length-append (operands s) (phrases t ∷ [])) in
    nearness-keeps (operands (ChainText s t)) 100 false some (one_operand_more (operands s) (phrases t) fits.2) (chain-keeps (ChainText s t) fits h) refl
text-keeps k (ListText s t) fits h = absurd fits
text-keeps k (NearText t tail) fits h =
    let inner = short-front (spelling t) (Close ∷ near_tail_spelling tail) h.1.1.1 in
    nearness-keeps (operands t) (near_span tail) (near_ordered tail) fits.0 (list-few t fits.1) (list-keeps t fits.1 inner) (span-keeps tail fits.2)
text-keeps k (DefineText t s) fits h =
    let inner = short-front (spelling t) (Comma ∷ (sum_spelling s ++ Close ∷ [])) h.1.1 in
    and_from (leaves_keep_limits (phrases t)) (is_sum (postfix_form s)) (phrases-keep true t fits.0 inner) (sum-keeps s fits.1 fits.2)

few_bytes : (a b : Bool) → (a || b) ≡ false → a ≡ false
few_bytes true b h = cc
few_bytes false b h = refl

small-bytes : (text : List ℕ) → too_large text ≡ false → byte_count text ≤ query_limit
small-bytes text small = ltb-false query_limit (byte_count text) (few_bytes (nat_lt 4000 (byte_count text)) (nat_lt 1024 (length (query_lexemes text)) || too_deep 0 (query_lexemes text)) small)

pub query-keeps_limits : (text : List ℕ) (t : Tree) → IsQuery strict (bare (query_lexemes text)) t → too_large text ≡ false → keeps_limits t ≡ true
query-keeps_limits text t q small =
    subst (λ x. keeps_limits x ≡ true) q.means
    (text-keeps 1 q.text q.fits (subst AreShort (sym q.spelt) (query_lexemes-short (length text) 1 text (small-bytes text small))))

-- a query that is the answer to a text keeps them
pub limits-of : (o : Result Query QueryFault) (text : List ℕ) → IfSome (verdict_of o) (λ v. IsVerdict text v) → IfOk o (λ q. keeps_limits (tree_of q) ≡ true)
limits-of (Ok q) text is = query-keeps_limits text (tree_of q) is.1 is.0
limits-of (Err e) text is = tt
