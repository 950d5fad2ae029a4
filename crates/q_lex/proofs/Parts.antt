-- Each text is cut into parts in one way, and the lexemes that are read are those of its parts.
use Rattle.std.proofs.Common.{◌≡◌, ℕ, ◌+◌, ◌-◌, ◌<◌, ◌≤◌, ◌==◌, zero, suc, Bool, true, false, cond, not, ◌||◌, ◌&&◌, is_some, inl, inr, List, [], ◌∷◌, ◌++◌, length, refl, ap, sym, subst, ◌∙◌, append_assoc, append-nil, length-append, arith, Option, Some, None}
use Rattle.std.proofs.lemmas.Bool.{eqb-true, both_ways, not-true, or_cases, or_parts, or_left, and_parts, cases_Bool, false_from_ne_true, false≢true}
use Rattle.std.specs.Char.{is_whitespace, encode_utf8, len_utf8}
use Rattle.std.specs.Str.{encode_utf8_all}
use Rattle.ct_base.specs.Characters.{first, is_first}
use Rattle.ct_base.specs.Told.{with_prefix}
use Rattle.ct_base.specs.laws.Told.{with_prefix-nil, with_prefix_twice}
use Rattle.q_tree.specs.declared.queries.WordBit.{WordBit}
use Rattle.q_tree.specs.declared.queries.WordBit.TheVariants.{Chars, One, Many}
use Rattle.q_lex.specs.declared.lexemes.Written.{Written}
use Rattle.q_lex.specs.declared.lexemes.Placed.{Placed}
use Rattle.q_lex.specs.declared.lexemes.Lexeme.{Lexeme}
use Rattle.q_lex.specs.declared.lexemes.Lexeme.TheVariants.{Bad}
use Rattle.q_lex.specs.Lexing.{is_sign_char, is_plain_char, with_front, braced, begins_word, Run, no_run, flushed, flushed_to, put_literal, put_literals, put_wildcard, put_plain, escaped, in_braces, word_from, written_at, sign_lexeme, opens, word_lexeme, placed, byte_count, with_word, lexemes_from, query_lexemes}
use Rattle.q_lex.specs.Writing.{WordPiece, Plain, Escaped, Braced, doubled, piece_spelling, IsWordPiece, BeginsPiece, pieces_spelling, ArePieces, TextPart, Blank, Sign, WordPart, BadPart, part_spelling, is_mark_char, IsTextPart, parts_spelling, AreParts, with_bytes, bits_of, plain_spelling, written_word, next_opens, parts_lexemes, IsWrittenAs}
use Rattle.q_lex.proofs.Braces.{braced-other}
use Rattle.q_lex.proofs.Scans.{byte_count-append}

-- What holds of each sign, and of each of `{`, `}` and `\`.
record SignFacts (c : ℕ) : Type 0 where
  not_blank : is_whitespace c ≡ false
  no_piece : (cs : List ℕ) → begins_word (c ∷ cs) ≡ false

record MarkFacts (c : ℕ) : Type 0 where
  not_blank : is_whitespace c ≡ false
  not_open : (c == 40) ≡ false
  is_bad : sign_lexeme c ≡ Bad

or_step : {P : Type 0} → (x : Bool) (c k : ℕ) → (x ≡ true → P) → (c ≡ k → P) → (x || (c == k)) ≡ true → P
or_step x c k f g h = elim (or_cases x (c == k) h) [
  | inl e ↦ f e
  | inr e ↦ g (eqb-true c k e)
]

sign_at : (c k : ℕ) → SignFacts k → c ≡ k → SignFacts c
sign_at c k facts e = subst SignFacts (sym e) facts

sign_facts : (c : ℕ) → is_sign_char c ≡ true → SignFacts c
sign_facts c =
    or_step _ c 36 (or_step _ c 33 (or_step _ c 63 (or_step _ c 93 (or_step _ c 91 (or_step _ c 44 (or_step _ c 41 (or_step _ c 40
    (or_step _ c 59 (or_step _ c 62 (or_step _ c 42 (or_step _ c 61 (or_step _ c 45 (or_step _ c 126 (or_step _ c 124
    (λ h. sign_at c 38 (record { not_blank = refl; no_piece = λ cs. refl }) (eqb-true c 38 h))
    (sign_at c 124 (record { not_blank = refl; no_piece = λ cs. refl })))
    (sign_at c 126 (record { not_blank = refl; no_piece = λ cs. refl })))
    (sign_at c 45 (record { not_blank = refl; no_piece = λ cs. refl })))
    (sign_at c 61 (record { not_blank = refl; no_piece = λ cs. refl })))
    (sign_at c 42 (record { not_blank = refl; no_piece = λ cs. refl })))
    (sign_at c 62 (record { not_blank = refl; no_piece = λ cs. refl })))
    (sign_at c 59 (record { not_blank = refl; no_piece = λ cs. refl })))
    (sign_at c 40 (record { not_blank = refl; no_piece = λ cs. refl })))
    (sign_at c 41 (record { not_blank = refl; no_piece = λ cs. refl })))
    (sign_at c 44 (record { not_blank = refl; no_piece = λ cs. refl })))
    (sign_at c 91 (record { not_blank = refl; no_piece = λ cs. refl })))
    (sign_at c 93 (record { not_blank = refl; no_piece = λ cs. refl })))
    (sign_at c 63 (record { not_blank = refl; no_piece = λ cs. refl })))
    (sign_at c 33 (record { not_blank = refl; no_piece = λ cs. refl })))
    (sign_at c 36 (record { not_blank = refl; no_piece = λ cs. refl }))

mark_at : (c k : ℕ) → MarkFacts k → c ≡ k → MarkFacts c
mark_at c k facts e = subst MarkFacts (sym e) facts

mark_facts : (c : ℕ) → is_mark_char c ≡ true → MarkFacts c
mark_facts c =
    or_step _ c 92 (or_step _ c 125
    (λ h. mark_at c 123 (record { not_blank = refl; not_open = refl; is_bad = refl }) (eqb-true c 123 h))
    (mark_at c 125 (record { not_blank = refl; not_open = refl; is_bad = refl })))
    (mark_at c 92 (record { not_blank = refl; not_open = refl; is_bad = refl }))

plain_not_blank : (c : ℕ) → is_plain_char c ≡ true → is_whitespace c ≡ false
plain_not_blank c h = (or_parts (is_whitespace c) _ (or_parts _ _ (or_parts _ _ (or_parts _ _ (not-true _ h)).0).0).0).0

plain_not_open : (c : ℕ) → is_plain_char c ≡ true → (c == 40) ≡ false
plain_not_open c h = false_from_ne_true (c == 40) (λ e. false≢true (ap is_plain_char (sym (eqb-true c 40 e)) ∙ h))

-- where a character is neither white space nor plain nor a sign, it is `{`, `}` or `\`
is_mark : (ws sign a b d : Bool) → not (ws || sign || a || b || d) ≡ false → ws ≡ false → sign ≡ false → (a || b || d) ≡ true
is_mark true sign a b d h w s = cc
is_mark false true a b d h w s = cc
is_mark false false true b d h w s = refl
is_mark false false false true d h w s = refl
is_mark false false false false true h w s = refl
is_mark false false false false false h w s = absurd (false≢true (sym h))

-- A braced text is spelt with each `}` twice, and a `}` that no other follows.
braced_last : (rest : List ℕ) → is_first 125 rest ≡ false → braced (125 ∷ rest) ≡ Some ([], rest)
braced_last [] h = refl
braced_last (d ∷ ds) h = rw h refl

reads_braced : (cs rest : List ℕ) → is_first 125 rest ≡ false → braced (doubled cs ++ 125 ∷ rest) ≡ Some (cs, rest)
reads_braced [] rest h = braced_last rest h
reads_braced (c ∷ cs) rest h = one (c == 125) refl (reads_braced cs rest h)
  where
    one : (b : Bool) → (c == 125) ≡ b → braced (doubled cs ++ 125 ∷ rest) ≡ Some (cs, rest) → braced (cond b (125 ∷ 125 ∷ doubled cs) (c ∷ doubled cs) ++ 125 ∷ rest) ≡ Some (c ∷ cs, rest)
    one true e known = rw (known, eqb-true c 125 e) refl
    one false e known = braced-other c (doubled cs ++ 125 ∷ rest) e ∙ ap (with_front c) known

IsBraced : List ℕ → Option (List ℕ × List ℕ) → Type 0
IsBraced text None = Unit {0}
IsBraced text (Some p) = (text ≡ doubled p.0 ++ 125 ∷ p.1) × (is_first 125 p.1 ≡ false)

front_other : (c : ℕ) (text : List ℕ) (o : Option (List ℕ × List ℕ)) → (c == 125) ≡ false → IsBraced text o → IsBraced (c ∷ text) (with_front c o)
unfolding IsBraced
front_other c text None other h = tt
front_other c text (Some p) other h = (rw other (ap (λ x. c ∷ x) h.0), h.1)

front_pair : (c d : ℕ) (text : List ℕ) (o : Option (List ℕ × List ℕ)) → c ≡ 125 → d ≡ 125 → IsBraced text o → IsBraced (c ∷ d ∷ text) (with_front 125 o)
unfolding IsBraced
front_pair c d text None e f h = tt
front_pair c d text (Some p) e f h = (rw (e, f) (ap (λ x. 125 ∷ 125 ∷ x) h.0), h.1)

is_braced : (text : List ℕ) → IsBraced text (braced text)
unfolding IsBraced
is_braced [] = tt
is_braced (c ∷ []) = one (c == 125) refl
  where
    one : (b : Bool) → (c == 125) ≡ b → IsBraced (c ∷ []) (cond b (Some ([], [])) None)
    one true e = (ap (λ x. x ∷ []) (eqb-true c 125 e), refl)
    one false e = tt
is_braced (c ∷ d ∷ cs) = two (c == 125) (d == 125) refl refl (is_braced cs) (is_braced (d ∷ cs))
  where
    two : (a b : Bool) → (c == 125) ≡ a → (d == 125) ≡ b → IsBraced cs (braced cs) → IsBraced (d ∷ cs) (braced (d ∷ cs))
        → IsBraced (c ∷ d ∷ cs) (cond a (cond b (with_front 125 (braced cs)) (Some ([], d ∷ cs))) (with_front c (braced (d ∷ cs))))
    two true true e f g h = front_pair c d cs (braced cs) (eqb-true c 125 e) (eqb-true d 125 f) g
    two true false e f g h = (ap (λ x. x ∷ d ∷ cs) (eqb-true c 125 e), f)
    two false b e f g h = front_other c (d ∷ cs) (braced (d ∷ cs)) e h

-- That a piece stands in front is what the test says.
begins_slash : (c : ℕ) (cs : List ℕ) → c ≡ 92 → is_some (first cs) ≡ true → BeginsPiece (c ∷ cs)
begins_slash c [] e h = absurd (false≢true h)
begins_slash c (d ∷ ds) e h = record { piece = Escaped d; rest = ds; is_piece = tt; text_is = ap (λ x. x ∷ d ∷ ds) e }

begins_brace : (c : ℕ) (cs : List ℕ) (o : Option (List ℕ × List ℕ)) → c ≡ 123 → is_some o ≡ true → IsBraced cs o → BeginsPiece (c ∷ cs)
unfolding IsBraced
begins_brace c cs None e h known = absurd (false≢true h)
begins_brace c cs (Some p) e h known = record {
  piece = Braced p.0;
  rest = p.1;
  is_piece = known.1;
  text_is = rw e (ap (λ x. 123 ∷ x) (known.0 ∙ sym (append_assoc (doubled p.0) (125 ∷ []) p.1)));
}

begins_from : (text : List ℕ) → begins_word text ≡ true → BeginsPiece text
begins_from [] h = absurd (false≢true h)
begins_from (c ∷ cs) h = elim (or_cases _ _ h) [
  | inl g ↦ elim (or_cases _ _ g) [
    | inl e ↦ record { piece = Plain c; rest = cs; is_piece = e; text_is = refl }
    | inr e ↦ let both = and_parts (c == 92) (is_some (first cs)) e in begins_slash c cs (eqb-true c 92 both.0) both.1
  ]
  | inr e ↦ let both = and_parts (c == 123) (is_some (braced cs)) e in begins_brace c cs (braced cs) (eqb-true c 123 both.0) both.1 (is_braced cs)
]

begins_to : (p : WordPiece) (rest : List ℕ) → IsWordPiece p rest → begins_word (piece_spelling p ++ rest) ≡ true
begins_to (Plain c) rest h = or_left _ _ (or_left _ _ h)
begins_to (Escaped c) rest h = refl
begins_to (Braced cs) rest h = ap is_some (ap braced (append_assoc (doubled cs) (125 ∷ []) rest) ∙ reads_braced cs rest h)

none_begins : (text : List ℕ) → begins_word text ≡ false → BeginsPiece text → ⊥
none_begins text h b = both_ways (begins_word text) h (ap begins_word b.text_is ∙ begins_to b.piece b.rest b.is_piece)

begins_none : (text : List ℕ) → (BeginsPiece text → ⊥) → begins_word text ≡ false
begins_none text never = false_from_ne_true (begins_word text) (λ h. never (begins_from text h))

-- Pieces are read one after the other.
put_pieces : List WordPiece → Run → Run
put_pieces [] r = r
put_pieces (Plain c ∷ ps) r = put_pieces ps (put_plain c r)
put_pieces (Escaped c ∷ ps) r = put_pieces ps (put_literal c r)
put_pieces (Braced cs ∷ ps) r = put_pieces ps (put_literals cs r)

escaped_stops : (more : Run → List ℕ → Run × List ℕ) (r : Run) (c : ℕ) (cs : List ℕ) → is_some (first cs) ≡ false → escaped more r c cs ≡ (r, c ∷ cs)
escaped_stops more r c [] h = refl
escaped_stops more r c (d ∷ ds) h = absurd (false≢true (sym h))

braces_stop : (more : Run → List ℕ → Run × List ℕ) (r : Run) (text : List ℕ) (o : Option (List ℕ × List ℕ)) → is_some o ≡ false → in_braces more r text o ≡ (r, text)
braces_stop more r text None h = refl
braces_stop more r text (Some p) h = absurd (false≢true (sym h))

word_stops : (n : ℕ) (r : Run) (text : List ℕ) → begins_word text ≡ false → word_from n r text ≡ (r, text)
word_stops zero r text h = refl
word_stops (suc n) r [] h = refl
word_stops (suc n) r (c ∷ cs) h =
    let outer = or_parts (is_plain_char c || ((c == 92) && is_some (first cs))) ((c == 123) && is_some (braced cs)) h in
    let inner = or_parts (is_plain_char c) ((c == 92) && is_some (first cs)) outer.0 in
    rw inner.0 (pick (c == 92) (c == 123) inner.1 outer.1)
  where
    pick : (b d : Bool) → (b && is_some (first cs)) ≡ false → (d && is_some (braced cs)) ≡ false
        → cond b (escaped (λ q ds. word_from n q ds) r c cs) (cond d (in_braces (λ q ds. word_from n q ds) r (c ∷ cs) (braced cs)) (r, c ∷ cs)) ≡ (r, c ∷ cs)
    pick true d e f = escaped_stops (λ q ds. word_from n q ds) r c cs e
    pick false true e f = braces_stop (λ q ds. word_from n q ds) r (c ∷ cs) (braced cs) f
    pick false false e f = refl

braced_spelt : (cs more rest : List ℕ) → (((doubled cs ++ 125 ∷ []) ++ more) ++ rest) ≡ doubled cs ++ 125 ∷ (more ++ rest)
braced_spelt cs more rest = ap (λ x. x ++ rest) (append_assoc (doubled cs) (125 ∷ []) more) ∙ append_assoc (doubled cs) (125 ∷ more) rest

braced_here : (cs more rest : List ℕ) → is_first 125 (more ++ rest) ≡ false → braced (((doubled cs ++ 125 ∷ []) ++ more) ++ rest) ≡ Some (cs, more ++ rest)
braced_here cs more rest h = ap braced (braced_spelt cs more rest) ∙ reads_braced cs (more ++ rest) h

braced_longer : (cs more rest : List ℕ) (n : ℕ) → length (123 ∷ (((doubled cs ++ 125 ∷ []) ++ more) ++ rest)) ≤ suc n → length (more ++ rest) ≤ n
braced_longer cs more rest n le = omega (arith, le, ap length (braced_spelt cs more rest), length-append (doubled cs) (125 ∷ (more ++ rest)))

reads_word : (ps : List WordPiece) (rest : List ℕ) (n : ℕ) (r : Run) → ArePieces ps rest → begins_word rest ≡ false → length (pieces_spelling ps ++ rest) ≤ n
    → word_from n r (pieces_spelling ps ++ rest) ≡ (put_pieces ps r, rest)
unfolding put_pieces
reads_word [] rest n r are ends le = word_stops n r rest ends
reads_word (Plain c ∷ ps) rest zero r are ends le = absurd (omega (arith, le))
reads_word (Plain c ∷ ps) rest (suc n) r are ends le = rw are.0 (reads_word ps rest n (put_plain c r) are.1 ends (omega (arith, le)))
reads_word (Escaped c ∷ ps) rest zero r are ends le = absurd (omega (arith, le))
reads_word (Escaped c ∷ ps) rest (suc n) r are ends le = reads_word ps rest n (put_literal c r) are.1 ends (omega (arith, le))
reads_word (Braced cs ∷ ps) rest zero r are ends le = absurd (omega (arith, le))
reads_word (Braced cs ∷ ps) rest (suc n) r are ends le =
    ap (in_braces (λ q ds. word_from n q ds) r (123 ∷ (((doubled cs ++ 125 ∷ []) ++ pieces_spelling ps) ++ rest))) (braced_here cs (pieces_spelling ps) rest are.0)
    ∙ reads_word ps rest n (put_literals cs r) are.1 ends (braced_longer cs (pieces_spelling ps) rest n le)

-- What has been read stands for what the pieces stand for.
bytes_joined : (xs ys : List ℕ) (bits : List WordBit) → with_bytes xs (with_bytes ys bits) ≡ with_bytes (xs ++ ys) bits
bytes_joined [] ys bits = refl
bytes_joined (x ∷ xs) [] bits = ap (λ zs. with_bytes zs bits) (sym (append-nil (x ∷ xs)))
bytes_joined (x ∷ xs) (y ∷ ys) [] = refl
bytes_joined (x ∷ xs) (y ∷ ys) (Chars more ∷ bits) = ap (λ zs. Chars (x ∷ zs) ∷ bits) (sym (append_assoc xs (y ∷ ys) more))
bytes_joined (x ∷ xs) (y ∷ ys) (One ∷ bits) = refl
bytes_joined (x ∷ xs) (y ∷ ys) (Many ∷ bits) = refl

flush_is : (bits : List WordBit) (chars : List ℕ) → flushed_to bits chars ≡ bits ++ with_bytes chars []
flush_is bits [] = sym (append-nil bits)
flush_is bits (b ∷ bs) = refl

before_one : (chars : List ℕ) (bits : List WordBit) → with_bytes chars [] ++ One ∷ bits ≡ with_bytes chars (One ∷ bits)
before_one [] bits = refl
before_one (b ∷ bs) bits = refl

before_many : (chars : List ℕ) (bits : List WordBit) → with_bytes chars [] ++ Many ∷ bits ≡ with_bytes chars (Many ∷ bits)
before_many [] bits = refl
before_many (b ∷ bs) bits = refl

wild_put : (bits : List WordBit) (chars : List ℕ) (bit : WordBit) (more : List WordBit) → with_bytes chars [] ++ bit ∷ more ≡ with_bytes chars (bit ∷ more)
    → (flushed_to bits chars ++ bit ∷ []) ++ more ≡ bits ++ with_bytes chars (bit ∷ more)
wild_put bits chars bit more h =
    append_assoc (flushed_to bits chars) (bit ∷ []) more ∙ ap (λ x. x ++ bit ∷ more) (flush_is bits chars) ∙ append_assoc bits (with_bytes chars []) (bit ∷ more) ∙ ap (λ x. bits ++ x) h

literal_run : Run → List ℕ → Run
literal_run r bs = record { bits = r.bits; chars = r.chars ++ bs; spelling = r.spelling; plain = false }

literals_put : (cs : List ℕ) (r : Run) → put_literals cs r ≡ literal_run r (encode_utf8_all cs)
unfolding literal_run
literals_put [] r = ap (λ x. record { bits = r.bits; chars = x; spelling = r.spelling; plain = false }) (sym (append-nil r.chars))
literals_put (c ∷ cs) r = literals_put cs (put_literal c r) ∙ ap (λ x. record { bits = r.bits; chars = x; spelling = r.spelling; plain = false }) (append_assoc r.chars (encode_utf8 c) (encode_utf8_all cs))

BitsPut : List WordPiece → Type 0
BitsPut ps = (r : Run) → flushed (put_pieces ps r) ≡ r.bits ++ with_bytes r.chars (bits_of ps)

plain_bits : (c : ℕ) (ps : List WordPiece) (r : Run) (a b : Bool) → BitsPut ps
    → flushed (put_pieces ps (cond a (put_wildcard One c r) (cond b (put_wildcard Many c r) (record { bits = r.bits; chars = r.chars ++ encode_utf8 c; spelling = r.spelling ++ encode_utf8 c; plain = r.plain }))))
    ≡ r.bits ++ with_bytes r.chars (cond a (One ∷ bits_of ps) (cond b (Many ∷ bits_of ps) (with_bytes (encode_utf8 c) (bits_of ps))))
unfolding BitsPut
plain_bits c ps r true b put = put (put_wildcard One c r) ∙ wild_put r.bits r.chars One (bits_of ps) (before_one r.chars (bits_of ps))
plain_bits c ps r false true put = put (put_wildcard Many c r) ∙ wild_put r.bits r.chars Many (bits_of ps) (before_many r.chars (bits_of ps))
plain_bits c ps r false false put =
    put (record { bits = r.bits; chars = r.chars ++ encode_utf8 c; spelling = r.spelling ++ encode_utf8 c; plain = r.plain }) ∙ ap (λ x. r.bits ++ x) (sym (bytes_joined r.chars (encode_utf8 c) (bits_of ps)))

bits_put : (ps : List WordPiece) (r : Run) → flushed (put_pieces ps r) ≡ r.bits ++ with_bytes r.chars (bits_of ps)
unfolding put_pieces BitsPut literal_run
bits_put [] r = flush_is r.bits r.chars
bits_put (Plain c ∷ ps) r = plain_bits c ps r (c == 95) (c == 37) (λ q. bits_put ps q)
bits_put (Escaped c ∷ ps) r = bits_put ps (put_literal c r) ∙ ap (λ x. r.bits ++ x) (sym (bytes_joined r.chars (encode_utf8 c) (bits_of ps)))
bits_put (Braced cs ∷ ps) r =
    ap (λ q. flushed (put_pieces ps q)) (literals_put cs r) ∙ bits_put ps (literal_run r (encode_utf8_all cs)) ∙ ap (λ x. r.bits ++ x) (sym (bytes_joined r.chars (encode_utf8_all cs) (bits_of ps)))

plain_of : Run → Option (List ℕ)
plain_of r = cond r.plain (Some r.spelling) None

none_if : (b : Bool) → ◌≡◌ {A = Option (List ℕ)} None (cond b None None)
none_if true = refl
none_if false = refl

PlainPut : List WordPiece → Type 0
PlainPut ps = (r : Run) → plain_of (put_pieces ps r) ≡ cond r.plain (with_prefix r.spelling (plain_spelling ps)) None

plain_plain : (c : ℕ) (ps : List WordPiece) (r : Run) (a b : Bool) → PlainPut ps
    → plain_of (put_pieces ps (cond a (put_wildcard One c r) (cond b (put_wildcard Many c r) (record { bits = r.bits; chars = r.chars ++ encode_utf8 c; spelling = r.spelling ++ encode_utf8 c; plain = r.plain }))))
    ≡ cond r.plain (with_prefix (r.spelling ++ encode_utf8 c) (plain_spelling ps)) None
unfolding PlainPut
plain_plain c ps r true b put = put (put_wildcard One c r)
plain_plain c ps r false true put = put (put_wildcard Many c r)
plain_plain c ps r false false put = put (record { bits = r.bits; chars = r.chars ++ encode_utf8 c; spelling = r.spelling ++ encode_utf8 c; plain = r.plain })

plain_put : (ps : List WordPiece) (r : Run) → plain_of (put_pieces ps r) ≡ cond r.plain (with_prefix r.spelling (plain_spelling ps)) None
unfolding put_pieces plain_of PlainPut literal_run
plain_put [] r = ap (λ x. cond r.plain (Some x) None) (sym (append-nil r.spelling))
plain_put (Plain c ∷ ps) r = plain_plain c ps r (c == 95) (c == 37) (λ q. plain_put ps q) ∙ ap (λ x. cond r.plain x None) (sym (with_prefix_twice r.spelling (encode_utf8 c) (plain_spelling ps)))
plain_put (Escaped c ∷ ps) r = plain_put ps (put_literal c r) ∙ none_if r.plain
plain_put (Braced cs ∷ ps) r = ap (λ q. plain_of (put_pieces ps q)) (literals_put cs r) ∙ plain_put ps (literal_run r (encode_utf8_all cs)) ∙ none_if r.plain

written_with : ℕ → List WordBit → Option (List ℕ) → Written
written_with place bits plain = record { word = record { place = place; bits = bits }; plain = plain }

word_is : (place : ℕ) (ps : List WordPiece) → written_at place (put_pieces ps no_run) ≡ written_word place ps
unfolding written_with plain_of
word_is place ps = ap (λ bits. written_with place bits (plain_of (put_pieces ps no_run))) (bits_put ps no_run) ∙ ap (λ plain. written_with place (bits_of ps) plain) (plain_put ps no_run ∙ with_prefix-nil (plain_spelling ps))

-- Whether a `(` comes next is seen at the parts.
opens_word : (q : WordPiece) (more rest : List ℕ) → IsWordPiece q (more ++ rest) → opens ((piece_spelling q ++ more) ++ rest) ≡ false
opens_word (Plain c) more rest h = rw (plain_not_blank c h, plain_not_open c h) refl
opens_word (Escaped c) more rest h = refl
opens_word (Braced cs) more rest h = refl

opens_parts : (ps : List TextPart) → AreParts ps → opens (parts_spelling ps) ≡ next_opens ps
opens_parts [] are = refl
opens_parts (Blank c ∷ ps) are = rw are.0 (opens_parts ps are.1)
opens_parts (Sign c ∷ ps) are = rw (sign_facts c are.0).not_blank refl
opens_parts (WordPart q qs ∷ ps) are = opens_word q (pieces_spelling qs) (parts_spelling ps) are.0.0.0
opens_parts (BadPart c ∷ ps) are = let facts = mark_facts c are.0.0 in rw (facts.not_blank, facts.not_open) refl

-- The lexemes of parts are read.
word_longer : (q : WordPiece) (more : List ℕ) → 0 < length (piece_spelling q ++ more)
word_longer (Plain c) more = omega arith
word_longer (Escaped c) more = omega arith
word_longer (Braced cs) more = omega arith

begins_not_blank : (c : ℕ) (cs : List ℕ) → begins_word (c ∷ cs) ≡ true → is_whitespace c ≡ false
begins_not_blank c cs h = elim (or_cases _ _ h) [
  | inl g ↦ elim (or_cases _ _ g) [
    | inl e ↦ plain_not_blank c e
    | inr e ↦ ap is_whitespace (eqb-true c 92 (and_parts (c == 92) (is_some (first cs)) e).0)
  ]
  | inr e ↦ ap is_whitespace (eqb-true c 123 (and_parts (c == 123) (is_some (braced cs)) e).0)
]

-- the second and the third of three ways
second_way : {A : Type 0} → (a b : Bool) (x y z : A) → a ≡ false → b ≡ true → cond a x (cond b y z) ≡ y
second_way a b x y z e f = rw (e, f) refl

third_way : {A : Type 0} → (a b : Bool) (x y z : A) → a ≡ false → b ≡ false → cond a x (cond b y z) ≡ z
third_way a b x y z e f = rw (e, f) refl

word_first : (n place : ℕ) (text : List ℕ) → begins_word text ≡ true → lexemes_from (suc n) place text ≡ with_word (λ at rest. lexemes_from n at rest) place text (word_from (suc n) no_run text)
word_first n place [] h = absurd (false≢true h)
word_first n place (c ∷ cs) h =
    second_way (is_whitespace c) (begins_word (c ∷ cs)) (lexemes_from n (place + len_utf8 c) cs) (with_word (λ at rest. lexemes_from n at rest) place (c ∷ cs) (word_from (suc n) no_run (c ∷ cs)))
    (placed place (sign_lexeme c) ∷ lexemes_from n (place + len_utf8 c) cs) (begins_not_blank c cs h) h

ReadsParts : List TextPart → Type 0
ReadsParts ps = (n place : ℕ) → length (parts_spelling ps) ≤ n → lexemes_from n place (parts_spelling ps) ≡ parts_lexemes place ps

blank_read : (c : ℕ) (ps : List TextPart) → is_whitespace c ≡ true → ReadsParts ps → ReadsParts (Blank c ∷ ps)
unfolding ReadsParts
blank_read c ps h more = λ n place le. go n place le
  where
    go : (n place : ℕ) → length (c ∷ parts_spelling ps) ≤ n → lexemes_from n place (c ∷ parts_spelling ps) ≡ parts_lexemes (place + (len_utf8 c + 0)) ps
    go zero place le = absurd (omega (arith, le))
    go (suc n) place le = rw h (more n (place + len_utf8 c) (omega (arith, le)) ∙ ap (λ x. parts_lexemes x ps) (omega arith))

one_read : (c : ℕ) (l : Lexeme) (ps : List TextPart) → is_whitespace c ≡ false → begins_word (c ∷ parts_spelling ps) ≡ false → sign_lexeme c ≡ l → ReadsParts ps
    → (n place : ℕ) → length (c ∷ parts_spelling ps) ≤ n → lexemes_from n place (c ∷ parts_spelling ps) ≡ placed place l ∷ parts_lexemes (place + (len_utf8 c + 0)) ps
unfolding ReadsParts
one_read c l ps blank begins is more zero place le = absurd (omega (arith, le))
one_read c l ps blank begins is more (suc n) place le =
    let same : place + len_utf8 c ≡ place + (len_utf8 c + 0) = omega arith in
    third_way (is_whitespace c) (begins_word (c ∷ parts_spelling ps)) (lexemes_from n (place + len_utf8 c) (parts_spelling ps)) (with_word (λ at rest. lexemes_from n at rest) place (c ∷ parts_spelling ps) (word_from (suc n) no_run (c ∷ parts_spelling ps)))
    (placed place (sign_lexeme c) ∷ lexemes_from n (place + len_utf8 c) (parts_spelling ps)) blank begins
    ∙ ap (λ x. placed place x ∷ lexemes_from n (place + len_utf8 c) (parts_spelling ps)) is
    ∙ ap (λ x. placed place l ∷ x) (more n (place + len_utf8 c) (omega (arith, le)) ∙ ap (λ x. parts_lexemes x ps) same)

word_read : (q : WordPiece) (qs : List WordPiece) (ps : List TextPart) → ArePieces (q ∷ qs) (parts_spelling ps) → (BeginsPiece (parts_spelling ps) → ⊥) → AreParts ps → ReadsParts ps → ReadsParts (WordPart q qs ∷ ps)
unfolding ReadsParts
word_read q qs ps are never parts more = λ n place le. go n place le
  where
    begins : begins_word (pieces_spelling (q ∷ qs) ++ parts_spelling ps) ≡ true
    begins = ap begins_word (append_assoc (piece_spelling q) (pieces_spelling qs) (parts_spelling ps)) ∙ begins_to q (pieces_spelling qs ++ parts_spelling ps) are.0

    size : length (pieces_spelling (q ∷ qs) ++ parts_spelling ps) ≡ length (pieces_spelling (q ∷ qs)) + length (parts_spelling ps)
    size = length-append (pieces_spelling (q ∷ qs)) (parts_spelling ps)

    longer : 0 < length (pieces_spelling (q ∷ qs))
    longer = word_longer q (pieces_spelling qs)

    bytes : (place : ℕ) → place + (byte_count (pieces_spelling (q ∷ qs) ++ parts_spelling ps) - byte_count (parts_spelling ps)) ≡ place + byte_count (pieces_spelling (q ∷ qs))
    bytes place = omega (arith, byte_count-append (pieces_spelling (q ∷ qs)) (parts_spelling ps))

    go : (n place : ℕ) → length (pieces_spelling (q ∷ qs) ++ parts_spelling ps) ≤ n
        → lexemes_from n place (pieces_spelling (q ∷ qs) ++ parts_spelling ps) ≡ placed place (word_lexeme (next_opens ps) (written_word place (q ∷ qs))) ∷ parts_lexemes (place + byte_count (pieces_spelling (q ∷ qs))) ps
    go zero place le = absurd (omega (arith, le, size, longer))
    go (suc n) place le =
        word_first n place (pieces_spelling (q ∷ qs) ++ parts_spelling ps) begins
        ∙ ap (with_word (λ at rest. lexemes_from n at rest) place (pieces_spelling (q ∷ qs) ++ parts_spelling ps)) (reads_word (q ∷ qs) (parts_spelling ps) (suc n) no_run are (begins_none (parts_spelling ps) never) le)
        ∙ ap (λ b. placed place (word_lexeme b (written_at place (put_pieces (q ∷ qs) no_run))) ∷ lexemes_from n (place + (byte_count (pieces_spelling (q ∷ qs) ++ parts_spelling ps) - byte_count (parts_spelling ps))) (parts_spelling ps)) (opens_parts ps parts)
        ∙ ap (λ w. placed place (word_lexeme (next_opens ps) w) ∷ lexemes_from n (place + (byte_count (pieces_spelling (q ∷ qs) ++ parts_spelling ps) - byte_count (parts_spelling ps))) (parts_spelling ps)) (word_is place (q ∷ qs))
        ∙ ap (λ at. placed place (word_lexeme (next_opens ps) (written_word place (q ∷ qs))) ∷ lexemes_from n at (parts_spelling ps)) (bytes place)
        ∙ ap (λ x. placed place (word_lexeme (next_opens ps) (written_word place (q ∷ qs))) ∷ x) (more n (place + byte_count (pieces_spelling (q ∷ qs))) (omega (arith, le, size, longer)))

reads_parts : (ps : List TextPart) → AreParts ps → (n place : ℕ) → length (parts_spelling ps) ≤ n → lexemes_from n place (parts_spelling ps) ≡ parts_lexemes place ps
unfolding ReadsParts
reads_parts [] are zero place le = refl
reads_parts [] are (suc n) place le = refl
reads_parts (Blank c ∷ ps) are n place le = blank_read c ps are.0 (λ m at. reads_parts ps are.1 m at) n place le
reads_parts (Sign c ∷ ps) are n place le =
    let facts = sign_facts c are.0 in
    one_read c (sign_lexeme c) ps facts.not_blank (facts.no_piece (parts_spelling ps)) refl (λ m at. reads_parts ps are.1 m at) n place le
reads_parts (WordPart q qs ∷ ps) are n place le = word_read q qs ps are.0.0 are.0.1 are.1 (λ m at. reads_parts ps are.1 m at) n place le
reads_parts (BadPart c ∷ ps) are n place le =
    let facts = mark_facts c are.0.0 in
    one_read c Bad ps facts.not_blank (begins_none (c ∷ parts_spelling ps) are.0.1) facts.is_bad (λ m at. reads_parts ps are.1 m at) n place le

-- Each text has parts.
record Pieces (text : List ℕ) : Type 0 where
  pieces : List WordPiece
  rest : List ℕ
  text_is : text ≡ pieces_spelling pieces ++ rest
  are_pieces : ArePieces pieces rest
  no_more : begins_word rest ≡ false

piece_longer : (b_text : List ℕ) (b : BeginsPiece b_text) → length b.rest < length b_text
piece_longer text b = omega (arith, ap length b.text_is, length-append (piece_spelling b.piece) b.rest, word_longer b.piece b.rest, own b.piece)
  where
    own : (q : WordPiece) → 0 < length (piece_spelling q)
    own (Plain c) = omega arith
    own (Escaped c) = omega arith
    own (Braced cs) = omega arith

one_more : (text : List ℕ) (b : BeginsPiece text) → Pieces b.rest → Pieces text
one_more text b more = record {
  pieces = b.piece ∷ more.pieces;
  rest = more.rest;
  text_is = b.text_is ∙ ap (λ x. piece_spelling b.piece ++ x) more.text_is ∙ sym (append_assoc (piece_spelling b.piece) (pieces_spelling more.pieces) more.rest);
  are_pieces = (subst (IsWordPiece b.piece) more.text_is b.is_piece, more.are_pieces);
  no_more = more.no_more;
}

pieces_of : (n : ℕ) (text : List ℕ) → length text ≤ n → Pieces text
pieces_of zero text le = elim (cases_Bool (begins_word text)) [
  | inl e ↦ absurd (omega (arith, le, piece_longer text (begins_from text e)))
  | inr e ↦ record { pieces = []; rest = text; text_is = refl; are_pieces = tt; no_more = e }
]
pieces_of (suc n) text le = elim (cases_Bool (begins_word text)) [
  | inl e ↦ let b = begins_from text e in one_more text b (pieces_of n b.rest (omega (arith, le, piece_longer text b)))
  | inr e ↦ record { pieces = []; rest = text; text_is = refl; are_pieces = tt; no_more = e }
]

record Parts (text : List ℕ) : Type 0 where
  parts : List TextPart
  text_is : text ≡ parts_spelling parts
  are_parts : AreParts parts

char_first : (p : TextPart) (c : ℕ) (cs : List ℕ) → part_spelling p ≡ c ∷ [] → IsTextPart p cs → Parts cs → Parts (c ∷ cs)
char_first p c cs is part more = record {
  parts = p ∷ more.parts;
  text_is = ap (λ x. c ∷ x) more.text_is ∙ ap (λ x. x ++ parts_spelling more.parts) (sym is);
  are_parts = (subst (IsTextPart p) more.text_is part, more.are_parts);
}

word_before : (text : List ℕ) (b : BeginsPiece text) (ps : Pieces b.rest) → Parts ps.rest → Parts text
unfolding one_more
word_before text b ps more = record {
  parts = WordPart b.piece ps.pieces ∷ more.parts;
  text_is = (one_more text b ps).text_is ∙ ap (λ x. pieces_spelling (b.piece ∷ ps.pieces) ++ x) more.text_is;
  are_parts = ((subst (ArePieces (b.piece ∷ ps.pieces)) more.text_is (one_more text b ps).are_pieces, subst (λ x. BeginsPiece x → ⊥) more.text_is (none_begins ps.rest ps.no_more)), more.are_parts);
}

rest_shorter : (text : List ℕ) (ps : Pieces text) → length ps.rest ≤ length text
rest_shorter text ps = omega (arith, ap length ps.text_is, length-append (pieces_spelling ps.pieces) ps.rest)

other_first : (c : ℕ) (cs : List ℕ) → is_whitespace c ≡ false → begins_word (c ∷ cs) ≡ false → Parts cs → Parts (c ∷ cs)
other_first c cs blank begins more = elim (cases_Bool (is_sign_char c)) [
  | inl e ↦ char_first (Sign c) c cs refl e more
  | inr e ↦ char_first (BadPart c) c cs refl (is_mark (is_whitespace c) (is_sign_char c) (c == 123) (c == 125) (c == 92) (or_parts (is_plain_char c) ((c == 92) && is_some (first cs)) (or_parts (is_plain_char c || ((c == 92) && is_some (first cs))) ((c == 123) && is_some (braced cs)) begins).0).0 blank e, none_begins (c ∷ cs) begins) more
]

parts_of : (n : ℕ) (text : List ℕ) → length text ≤ n → Parts text
parts_of zero [] le = record { parts = []; text_is = refl; are_parts = tt }
parts_of zero (c ∷ cs) le = absurd (omega (arith, le))
parts_of (suc n) [] le = record { parts = []; text_is = refl; are_parts = tt }
parts_of (suc n) (c ∷ cs) le = elim (cases_Bool (is_whitespace c)) [
  | inl e ↦ char_first (Blank c) c cs refl e (parts_of n cs (omega (arith, le)))
  | inr e ↦ elim (cases_Bool (begins_word (c ∷ cs))) [
    | inl f ↦
        let b = begins_from (c ∷ cs) f in
        let ps = pieces_of n b.rest (omega (arith, le, piece_longer (c ∷ cs) b)) in
        word_before (c ∷ cs) b ps (parts_of n ps.rest (omega (arith, le, piece_longer (c ∷ cs) b, rest_shorter b.rest ps)))
    | inr f ↦ other_first c cs e f (parts_of n cs (omega (arith, le)))
  ]
]

read_as : (ps : List TextPart) → AreParts ps → query_lexemes (parts_spelling ps) ≡ parts_lexemes 1 ps
read_as ps are = reads_parts ps are (length (parts_spelling ps)) 1 (omega arith)

-- The lexemes that are read are those as which the text is written.
pub lexemes_are_written : (text : List ℕ) → IsWrittenAs text (query_lexemes text)
lexemes_are_written text =
    let parts = parts_of (length text) text (omega arith) in
    record { parts = parts.parts; are_parts = parts.are_parts; text_is = parts.text_is; lexemes_are = ap query_lexemes parts.text_is ∙ read_as parts.parts parts.are_parts }

-- The text is written as no others.
pub one_list : (text : List ℕ) (lexemes : List Placed) → IsWrittenAs text lexemes → lexemes ≡ query_lexemes text
one_list text lexemes written = written.lexemes_are ∙ sym (ap query_lexemes written.text_is ∙ read_as written.parts written.are_parts)
