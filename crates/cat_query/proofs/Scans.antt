-- Steps of reading the lexemes of a whole text.
use Rattle.std.proofs.Common.{◌≡◌, ℕ, ◌+◌, ◌-◌, ◌<◌, ◌≤◌, ◌==◌, zero, suc, Bool, true, false, cond, List, [], ◌∷◌, ◌++◌, length, Option, Some, None, refl, ap, sym, subst, ◌∙◌, append_assoc, append-nil, length-append, arith}
use Rattle.std.specs.Prelude.{◌&&◌}
use Rattle.std.specs.Char.{is_whitespace, encode_utf8, len_utf8}
use Rattle.q_lex.specs.Lexing.{byte_count}
use Rattle.cat_query.specs.declared.lexemes.Lexeme.{Lexeme}
use Rattle.cat_query.specs.declared.lexemes.Placed.{Placed}
use Rattle.cat_query.specs.Lexing.{is_word_char, after_run, quoted, quoted_lexeme, run, run_lexeme, sign_lexeme, ends_word, lexeme_at, with_lexeme, lexemes_from, query_lexemes, placed}
use Rattle.cat_query.specs.Reading.{Reads}

-- ---- what follows a lexeme is shorter

pub record IsShorter (rest text : List ℕ) : Type 0 where
  pub chars : length rest ≤ length text
  pub bytes : byte_count rest ≤ byte_count text

same_length : (cs : List ℕ) → IsShorter cs cs
same_length cs = record { chars = omega arith; bytes = omega arith }

one_more : (c : ℕ) (rest cs : List ℕ) → IsShorter rest cs → IsShorter rest (c ∷ cs)
one_more c rest cs is = let l = is.chars in let b = is.bytes in record { chars = omega (arith, l); bytes = omega (arith, b) }

run_shorter : (cs : List ℕ) → IsShorter (after_run cs) cs
run_shorter [] = same_length []
run_shorter (c ∷ cs) = go (is_word_char c) (run_shorter cs)
  where
    go : (b : Bool) → IsShorter (after_run cs) cs → IsShorter (cond b (after_run cs) (c ∷ cs)) (c ∷ cs)
    go true rest = one_more c (after_run cs) cs rest
    go false rest = same_length (c ∷ cs)

quoted_shorter : (bytes cs : List ℕ) (p : List ℕ × List ℕ) → quoted bytes cs ≡ Some p → IsShorter p.1 cs
quoted_shorter bytes [] p e = cc
quoted_shorter bytes (c ∷ cs) p e = go (c == 34) (quoted_shorter (bytes ++ encode_utf8 c) cs p) e
  where
    go : (b : Bool) → (quoted (bytes ++ encode_utf8 c) cs ≡ Some p → IsShorter p.1 cs) → cond b (Some (bytes, cs)) (quoted (bytes ++ encode_utf8 c) cs) ≡ Some p → IsShorter p.1 (c ∷ cs)
    go true rest e = let same : ◌≡◌ {A = List ℕ × List ℕ} (bytes, cs) p = cc in one_more c p.1 cs (subst (λ (x : List ℕ × List ℕ). IsShorter x.1 cs) same (same_length cs))
    go false rest e = one_more c p.1 cs (rest e)

lexeme_shorter : (place : ℕ) (free : Bool) (c : ℕ) (cs : List ℕ) → IsShorter (lexeme_at place free c cs).1 cs
lexeme_shorter place free c cs = go (c == 34) (is_word_char c) refl
  where
    of_quoted : (o : Option (List ℕ × List ℕ)) → quoted [] cs ≡ o → IsShorter (quoted_lexeme place cs o).1 cs
    of_quoted None e = same_length cs
    of_quoted (Some p) e = quoted_shorter [] cs p e

    of_run : is_word_char c ≡ true → IsShorter (after_run (c ∷ cs)) cs
    of_run h = subst (λ (b : Bool). IsShorter (cond b (after_run cs) (c ∷ cs)) cs) (sym h) (run_shorter cs)

    go : (a b : Bool) → is_word_char c ≡ b
        → IsShorter (cond a (quoted_lexeme place cs (quoted [] cs)) (cond b (run_lexeme place (free && ends_word (after_run (c ∷ cs))) (run (c ∷ cs)), after_run (c ∷ cs)) (sign_lexeme c, cs))).1 cs
    go true b h = of_quoted (quoted [] cs) refl
    go false true h = of_run h
    go false false h = same_length cs

-- a lexeme that was read of a text that begins with a character
pub read_shorter : (place : ℕ) (free : Bool) (text : List ℕ) (c : ℕ) (cs : List ℕ) (found : Lexeme × List ℕ) → text ≡ c ∷ cs → Reads text (lexeme_at place free) found → (length found.1 < length text) × (byte_count found.1 ≤ byte_count text)
read_shorter place free text c cs found is reads =
    let at : found ≡ lexeme_at place free c cs = subst (λ (x : List ℕ). Reads x (lexeme_at place free) found) is reads in
    let shorter = lexeme_shorter place free c cs in
    let l = shorter.chars in
    let b = shorter.bytes in
    let e = ap (λ (x : Lexeme × List ℕ). length x.1) at in
    let f = ap (λ (x : Lexeme × List ℕ). byte_count x.1) at in
    (omega (arith, l, e, ap length is), omega (arith, b, f, ap byte_count is))

-- ---- scanning

-- The lexemes found so far, and those of the rest, which begins at the place, are all.
pub record Scanned (all found : List Placed) (place : ℕ) (free : Bool) (rest : List ℕ) : Type 0 where
  pub limit : ℕ
  pub enough : length rest ≤ limit
  pub is : all ≡ found ++ lexemes_from limit place free rest

pub scan_start : (text : List ℕ) (found : List Placed) → found ≡ [] → Scanned (query_lexemes text) found (byte_count text - byte_count text + 1) true text
scan_start text found none =
    let one : 1 ≡ byte_count text - byte_count text + 1 = omega arith in
    subst (λ (p : ℕ). Scanned (query_lexemes text) found p true text) one (subst (λ (ps : List Placed). Scanned (query_lexemes text) ps 1 true text) (sym none) (record { limit = length text; enough = omega arith; is = refl }))

blank_step : (all found : List Placed) (place c : ℕ) (free : Bool) (cs : List ℕ) (n : ℕ) → is_whitespace c ≡ true → length (c ∷ cs) ≤ n → all ≡ found ++ lexemes_from n place free (c ∷ cs) → Scanned all found (place + len_utf8 c) true cs
blank_step all found place c free cs zero space le e = absurd (omega (arith, le))
blank_step all found place c free cs (suc n) space le e = record {
  limit = n;
  enough = omega (arith, le);
  is = e ∙ ap (λ (b : Bool). found ++ cond b (lexemes_from n (place + len_utf8 c) true cs) (with_lexeme (λ at rest. lexemes_from n at false rest) place (c ∷ cs) (lexeme_at place free c cs))) space;
}

lexeme_step : (all found : List Placed) (place c : ℕ) (free : Bool) (cs : List ℕ) (x : Lexeme × List ℕ) (n : ℕ) → is_whitespace c ≡ false → x ≡ lexeme_at place free c cs → length (c ∷ cs) ≤ n → all ≡ found ++ lexemes_from n place free (c ∷ cs)
    → Scanned all (found ++ placed place x.0 ∷ []) (place + (byte_count (c ∷ cs) - byte_count x.1)) false x.1
lexeme_step all found place c free cs x zero space at le e = absurd (omega (arith, le))
lexeme_step all found place c free cs x (suc n) space at le e = record {
  limit = n;
  enough = (let shorter = (lexeme_shorter place free c cs).chars in let same = ap (λ (y : Lexeme × List ℕ). length y.1) at in omega (arith, shorter, same, le));
  is =
      e ∙ ap (λ (b : Bool). found ++ cond b (lexemes_from n (place + len_utf8 c) true cs) (with_lexeme (λ at rest. lexemes_from n at false rest) place (c ∷ cs) (lexeme_at place free c cs))) space
      ∙ ap (λ (y : Lexeme × List ℕ). found ++ with_lexeme (λ at rest. lexemes_from n at false rest) place (c ∷ cs) y) (sym at)
      ∙ sym (append_assoc found (placed place x.0 ∷ []) (lexemes_from n (place + (byte_count (c ∷ cs) - byte_count x.1)) false x.1));
}

pub scan_blank : (all found : List Placed) (whole c : ℕ) (free : Bool) (rest cs : List ℕ) → rest ≡ c ∷ cs → is_whitespace c ≡ true → byte_count rest ≤ whole → Scanned all found (whole - byte_count rest + 1) free rest → Scanned all found (whole - byte_count cs + 1) true cs
scan_blank all found whole c free rest cs is space le s =
    let at : (whole - byte_count rest + 1) + len_utf8 c ≡ whole - byte_count cs + 1 = omega (arith, le, ap byte_count is) in
    subst (λ (p : ℕ). Scanned all found p true cs) at
    (blank_step all found (whole - byte_count rest + 1) c free cs s.limit space (subst (λ (x : List ℕ). length x ≤ s.limit) is s.enough) (s.is ∙ ap (λ (x : List ℕ). found ++ lexemes_from s.limit (whole - byte_count rest + 1) free x) is))

pub scan_lexeme : (all found more : List Placed) (whole place c : ℕ) (free : Bool) (rest cs : List ℕ) (l : Lexeme) (next : List ℕ) → rest ≡ c ∷ cs → is_whitespace c ≡ false → byte_count rest ≤ whole → place ≡ whole - byte_count rest + 1
    → Reads rest (lexeme_at place free) (l, next) → more ≡ found ++ placed place l ∷ [] → Scanned all found (whole - byte_count rest + 1) free rest → Scanned all more (whole - byte_count next + 1) false next
scan_lexeme all found more whole place c free rest cs l next is space le here reads added s =
    let shorter = (read_shorter place free rest c cs (l, next) is reads).1 in
    let at : place + (byte_count (c ∷ cs) - byte_count next) ≡ whole - byte_count next + 1 = omega (arith, le, shorter, here, ap byte_count is) in
    let read : (l, next) ≡ lexeme_at place free c cs = subst (λ (x : List ℕ). Reads x (lexeme_at place free) (l, next)) is reads in
    subst (λ (ps : List Placed). Scanned all ps (whole - byte_count next + 1) false next) (sym added)
    (subst (λ (p : ℕ). Scanned all (found ++ placed place l ∷ []) p false next) at
    (lexeme_step all found place c free cs (l, next) s.limit space read (subst (λ (x : List ℕ). length x ≤ s.limit) is s.enough)
    (s.is ∙ ap (λ (p : ℕ). found ++ lexemes_from s.limit p free rest) (sym here) ∙ ap (λ (x : List ℕ). found ++ lexemes_from s.limit place free x) is)))

pub scan_end : (all found : List Placed) (place : ℕ) (free : Bool) (rest : List ℕ) → rest ≡ [] → Scanned all found place free rest → found ≡ all
scan_end all found place free rest none s = sym (s.is ∙ ap (λ (x : List ℕ). found ++ lexemes_from s.limit place free x) none ∙ nothing s.limit)
  where
    nothing : (n : ℕ) → found ++ lexemes_from n place free [] ≡ found
    nothing zero = append-nil found
    nothing (suc n) = append-nil found

-- a lexeme more than there may be
pub scan_over : (all found : List Placed) (place c : ℕ) (free : Bool) (rest cs : List ℕ) → rest ≡ c ∷ cs → is_whitespace c ≡ false → Scanned all found place free rest → length found < length all
scan_over all found place c free rest cs is space s = go s.limit (subst (λ (x : List ℕ). length x ≤ s.limit) is s.enough) (s.is ∙ ap (λ (x : List ℕ). found ++ lexemes_from s.limit place free x) is)
  where
    go : (n : ℕ) → length (c ∷ cs) ≤ n → all ≡ found ++ lexemes_from n place free (c ∷ cs) → length found < length all
    go n le e =
        let step = lexeme_step all found place c free cs (lexeme_at place free c cs) n space refl le e in
        let whole = ap length step.is in
        let a = length-append (found ++ placed place (lexeme_at place free c cs).0 ∷ []) (lexemes_from step.limit (place + (byte_count (c ∷ cs) - byte_count (lexeme_at place free c cs).1)) false (lexeme_at place free c cs).1) in
        let b = length-append found (placed place (lexeme_at place free c cs).0 ∷ []) in
        omega (arith, whole, a, b)
