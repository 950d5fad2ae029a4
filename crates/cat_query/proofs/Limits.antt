-- Each query that is read keeps the limits: none of its words is longer than the text.
use Rattle.std.proofs.Common.{◌≡◌, ℕ, ◌+◌, ◌-◌, ◌≤◌, ◌==◌, zero, suc, nat_lt, Bool, true, false, cond, ◌||◌, ◌&&◌, List, [], ◌∷◌, ◌++◌, length, refl, sym, ap, ◌∙◌, length-append, arith, Option, Some, None, Result, Ok, Err, IfOk, IfSome}
use Rattle.std.specs.Char.{is_whitespace, encode_utf8, len_utf8}
use Rattle.std.specs.List.{list_all}
use Rattle.std.proofs.lemmas.Bool.{and_parts, and_from, ltb-false, le-leb}
use Rattle.std.proofs.lemmas.List.Folds.{list_all-append}
use Rattle.std.proofs.lemmas.Str.{length-encode}
use Rattle.q_tree.specs.declared.queries.Query.{Query}
use Rattle.q_tree.specs.declared.queries.WordBit.{WordBit}
use Rattle.q_tree.specs.declared.queries.WordBit.TheVariants.{Many}
use Rattle.q_tree.specs.Limits.{query_limit, word_length, word_keeps_limit, keeps_limits}
use Rattle.q_tree.specs.Trees.{Tree, tree_of}
use Rattle.q_lex.specs.Lexing.{byte_count}
use Rattle.cat_query.specs.declared.faults.CatFault.{CatFault}
use Rattle.cat_query.specs.declared.lexemes.Lexeme.{Lexeme}
use Rattle.cat_query.specs.declared.lexemes.Lexeme.TheVariants.{Item, Minus, Bar, Open, Close, Bad}
use Rattle.cat_query.specs.declared.lexemes.Placed.{Placed}
use Rattle.cat_query.specs.Grammar.{Joint, Adjacent, Without, Either, Text, One, Group, Two, joint_spelling, spelling, meaning, IsQuery}
use Rattle.cat_query.specs.Lexing.{is_word_char, run, after_run, literal, bits_from, ends_word, begins_with_star, is_dash, word, run_lexeme, quoted, quoted_lexeme, sign_lexeme, word_at, lexeme_at, with_lexeme, lexemes_from, query_lexemes, bare, too_deep, too_large}
use Rattle.cat_query.specs.Verdicts.{IsVerdict, verdict_of}

-- ---- a word has no more bytes than what is read to it

literal_size : (bytes : List ℕ) → word_length (literal bytes) ≡ length bytes
literal_size [] = refl
literal_size (b ∷ bs) = omega arith

literal_first : (bytes : List ℕ) (bits : List WordBit) → word_length (literal bytes ++ bits) ≡ length bytes + word_length bits
literal_first [] bits = omega arith
literal_first (b ∷ bs) bits = omega arith

bits_size : (bytes cs : List ℕ) → word_length (bits_from bytes cs) ≤ length bytes + byte_count cs
bits_size bytes [] = omega (arith, literal_size bytes)
bits_size bytes (c ∷ cs) = pick (c == 42) (bits_size [] cs) (bits_size (bytes ++ encode_utf8 c) cs)
  where
    pick : (star : Bool) → word_length (bits_from [] cs) ≤ 0 + byte_count cs → word_length (bits_from (bytes ++ encode_utf8 c) cs) ≤ length (bytes ++ encode_utf8 c) + byte_count cs
        → word_length (cond star (literal bytes ++ Many ∷ bits_from [] cs) (bits_from (bytes ++ encode_utf8 c) cs)) ≤ length bytes + byte_count (c ∷ cs)
    pick true f g = omega (arith, f, literal_first bytes (Many ∷ bits_from [] cs))
    pick false f g = omega (arith, g, length-append bytes (encode_utf8 c), length-encode c)

-- the bytes of a run, and of what follows it
run_size : (cs : List ℕ) → byte_count (run cs) + byte_count (after_run cs) ≡ byte_count cs
run_size [] = refl
run_size (c ∷ cs) = pick (is_word_char c) (run_size cs)
  where
    pick : (b : Bool) → byte_count (run cs) + byte_count (after_run cs) ≡ byte_count cs
        → byte_count (cond b (c ∷ run cs) []) + byte_count (cond b (after_run cs) (c ∷ cs)) ≡ byte_count (c ∷ cs)
    pick true more = omega (arith, more)
    pick false more = omega arith

-- the bytes of a quoted text, and of what follows it
abbrev quoted_size : Option (List ℕ × List ℕ) → ℕ
quoted_size None = 0
quoted_size (Some p) = length p.0 + byte_count p.1

quoted_shorter : (bytes cs : List ℕ) → quoted_size (quoted bytes cs) ≤ length bytes + byte_count cs
quoted_shorter bytes [] = omega arith
quoted_shorter bytes (c ∷ cs) = pick (c == 34) (quoted_shorter (bytes ++ encode_utf8 c) cs)
  where
    pick : (b : Bool) → quoted_size (quoted (bytes ++ encode_utf8 c) cs) ≤ length (bytes ++ encode_utf8 c) + byte_count cs
        → quoted_size (cond b (Some (bytes, cs)) (quoted (bytes ++ encode_utf8 c) cs)) ≤ length bytes + byte_count (c ∷ cs)
    pick true more = omega arith
    pick false more = omega (arith, more, length-append bytes (encode_utf8 c), length-encode c)

-- ---- the words among the lexemes of a text are short

abbrev is_short : Lexeme → Bool
is_short (Item w) = word_keeps_limit w
is_short l = true

item_short : (place n : ℕ) (bits : List WordBit) → word_length bits ≤ n → n ≤ query_limit → is_short (Item (word place bits)) ≡ true
item_short place n bits le few = le-leb (word_length bits) query_limit (omega (arith, le, few))

run_short : (place : ℕ) (alone : Bool) (cs : List ℕ) → byte_count cs ≤ query_limit → is_short (run_lexeme place alone cs) ≡ true
run_short place alone cs few = pick (alone && is_dash cs) (begins_with_star cs)
  where
    pick : (a b : Bool) → is_short (cond a Minus (cond b Bad (Item (word place (bits_from [] cs))))) ≡ true
    pick true b = refl
    pick false true = refl
    pick false false = item_short place (byte_count cs) (bits_from [] cs) (omega (arith, bits_size [] cs)) few

sign_short : (c : ℕ) → is_short (sign_lexeme c) ≡ true
sign_short c = pick (c == 40) (c == 41) (c == 124)
  where
    pick : (a b d : Bool) → is_short (cond a Open (cond b Close (cond d Bar Bad))) ≡ true
    pick true b d = refl
    pick false true d = refl
    pick false false true = refl
    pick false false false = refl

-- what a lexeme of so many bytes is, with what follows it
record IsShortIn (n : ℕ) (found : Lexeme × List ℕ) : Type 0 where
  short : is_short found.0 ≡ true
  rest : byte_count found.1 ≤ n

quoted_short : (place n : ℕ) (cs : List ℕ) (o : Option (List ℕ × List ℕ)) → byte_count cs ≤ n → n ≤ query_limit → quoted_size o ≤ byte_count cs → IsShortIn n (quoted_lexeme place cs o)
quoted_short place n cs None le few size = record { short = refl; rest = le }
quoted_short place n cs (Some p) le few size =
    record {
      short = item_short place (length p.0) (literal p.0) (omega (arith, literal_size p.0)) (omega (arith, le, few, size));
      rest = omega (arith, le, size);
    }

word_short : (place : ℕ) (free : Bool) (c : ℕ) (cs : List ℕ) → byte_count (c ∷ cs) ≤ query_limit → IsShortIn (byte_count (c ∷ cs)) (word_at place free c cs)
word_short place free c cs few =
    record {
      short = run_short place (free && ends_word (after_run (c ∷ cs))) (run (c ∷ cs)) (omega (arith, few, run_size (c ∷ cs)));
      rest = omega (arith, run_size (c ∷ cs));
    }

lexeme_short : (place : ℕ) (free : Bool) (c : ℕ) (cs : List ℕ) → byte_count (c ∷ cs) ≤ query_limit → IsShortIn (byte_count (c ∷ cs)) (lexeme_at place free c cs)
lexeme_short place free c cs few = pick (c == 34) (is_word_char c)
  where
    pick : (a b : Bool) → IsShortIn (byte_count (c ∷ cs)) (cond a (quoted_lexeme place cs (quoted [] cs)) (cond b (word_at place free c cs) (sign_lexeme c, cs)))
    pick true b = quoted_short place (byte_count (c ∷ cs)) cs (quoted [] cs) (omega arith) few (omega (arith, quoted_shorter [] cs))
    pick false true = word_short place free c cs few
    pick false false = record { short = sign_short c; rest = omega arith }

AreShort : List Placed → Type 0
AreShort ps = list_all is_short (bare ps) ≡ true

all_short : (n place : ℕ) (free : Bool) (cs : List ℕ) → byte_count cs ≤ query_limit → AreShort (lexemes_from n place free cs)
unfolding AreShort
all_short zero place free cs few = refl
all_short (suc n) place free [] few = refl
all_short (suc n) place free (c ∷ cs) few =
    pick (is_whitespace c) (lexeme_short place free c cs few) (all_short n (place + len_utf8 c) true cs (omega (arith, few))) (λ at rest le. all_short n at false rest le)
  where
    pick : (b : Bool) → IsShortIn (byte_count (c ∷ cs)) (lexeme_at place free c cs) → AreShort (lexemes_from n (place + len_utf8 c) true cs)
        → ((at : ℕ) (rest : List ℕ) → byte_count rest ≤ query_limit → AreShort (lexemes_from n at false rest))
        → AreShort (cond b (lexemes_from n (place + len_utf8 c) true cs) (with_lexeme (λ at rest. lexemes_from n at false rest) place (c ∷ cs) (lexeme_at place free c cs)))
    pick true found white more = white
    pick false found white more =
        let p = lexeme_at place free c cs in
        let at = place + (byte_count (c ∷ cs) - byte_count p.1) in
        and_from (is_short p.0) (list_all is_short (bare (lexemes_from n at false p.1))) found.short (more at p.1 (omega (arith, found.rest, few)))

-- ---- the words of a query are those of its lexemes

parts_short : (xs ys : List Lexeme) → list_all is_short (xs ++ ys) ≡ true → (list_all is_short xs ≡ true) × (list_all is_short ys ≡ true)
parts_short xs ys h = and_parts (list_all is_short xs) (list_all is_short ys) (sym (list_all-append is_short xs ys) ∙ h)

joined_keep : (j : Joint) (s t : Text) → keeps_limits (meaning s) ≡ true → keeps_limits (meaning t) ≡ true → keeps_limits (meaning (Two j s t)) ≡ true
joined_keep Adjacent s t left right = and_from (keeps_limits (meaning s)) (keeps_limits (meaning t)) left right
joined_keep Without s t left right = and_from (keeps_limits (meaning s)) (keeps_limits (meaning t)) left right
joined_keep Either s t left right = and_from (keeps_limits (meaning s)) (keeps_limits (meaning t)) left right

text_keeps : (t : Text) → list_all is_short (spelling t) ≡ true → keeps_limits (meaning t) ≡ true
text_keeps (One w) h = and_from (word_keeps_limit w && true) true h refl
text_keeps (Group t) h = text_keeps t (parts_short (spelling t) (Close ∷ []) h).0
text_keeps (Two j s t) h =
    let p = parts_short (spelling s) (joint_spelling j ++ spelling t) h in
    joined_keep j s t (text_keeps s p.0) (text_keeps t (parts_short (joint_spelling j) (spelling t) p.1).1)

few_bytes : (text : List ℕ) → too_large text ≡ false → byte_count text ≤ query_limit
few_bytes text small = ltb-false query_limit (byte_count text) (first (nat_lt 4000 (byte_count text)) (nat_lt 1024 (length (query_lexemes text)) || too_deep 0 (query_lexemes text)) small)
  where
    first : (a b : Bool) → (a || b) ≡ false → a ≡ false
    first true b h = cc
    first false b h = refl

pub query_keeps_limits : (text : List ℕ) (t : Tree) → IsQuery (bare (query_lexemes text)) t → too_large text ≡ false → keeps_limits t ≡ true
unfolding AreShort
query_keeps_limits text t q small =
    ap keeps_limits (sym q.means)
    ∙ text_keeps q.text (ap (list_all is_short) q.spelt ∙ all_short (length text) 1 true text (few_bytes text small))

-- a query that is the answer to a text keeps them
pub limits_of : (o : Result Query CatFault) (text : List ℕ) → IfSome (verdict_of o) (λ v. IsVerdict text v) → IfOk o (λ q. keeps_limits (tree_of q) ≡ true)
limits_of (Ok q) text is = query_keeps_limits text (tree_of q) is.1 is.0
limits_of (Err e) text is = tt
