-- Which words are keywords.
use Rattle.std.proofs.Common.{◌≡◌, ℕ, true, List, [], ◌∷◌, Some, None, Option, map, refl, sym, ap, ◌∙◌}
use Rattle.std.specs.Prelude.{is_some}
use Rattle.std.specs.Char.{is_ascii_alphabetic, to_ascii_lowercase}
use Rattle.std.specs.List.{list_all}
use Rattle.std.specs.Str.{chars}
use Rattle.std.proofs.lemmas.Bool.{and_parts, cond-true}
use Rattle.ct_base.specs.Names.{IsName, is_name_byte}
use Rattle.st_parse.specs.Keywords.{keyword_of}
use Rattle.st_parse.specs.Lexemes.{after_run, keyword_or_name, lexeme_at, run, word_or, ◌>>=◌}
use Rattle.st_parse.specs.declared.lexemes.Keyword.{Keyword}
use Rattle.st_parse.specs.declared.lexemes.Lexeme.{Lexeme}
use Rattle.st_parse.specs.declared.lexemes.Lexeme.TheVariants.{Word, Name}
use Rattle.csv_table.specs.Steps.{is_word}
use Rattle.csv_table.proofs.Items.{ascii-chars, name-ascii, name_bytes, name_lexeme_is}

run_all : (cs : List ℕ) → list_all is_name_byte cs ≡ true → run is_name_byte cs ≡ cs
run_all [] all = refl
run_all (c ∷ cs) all = let p = and_parts (is_name_byte c) _ all in rw (p.0, run_all cs p.1) refl

after_run_all : (cs : List ℕ) → list_all is_name_byte cs ≡ true → after_run is_name_byte cs ≡ []
after_run_all [] all = refl
after_run_all (c ∷ cs) all = let p = and_parts (is_name_byte c) _ all in rw (p.0, after_run_all cs p.1) refl

-- the lexeme that a word spelt as a name is
abbrev pub lexeme_of_word : Option Keyword → List ℕ → Option (Lexeme × List ℕ)
lexeme_of_word (Some k) word = Some (Word k, [])
lexeme_of_word None word = Some (Name word, [])

words : (word : List ℕ) (k : Option Keyword) → IsName word → (word_or word k >>= λ w. Some (w, [])) ≡ lexeme_of_word k word
words word (Some k) is = refl
words word None is = ap (λ (o : Option Lexeme). o >>= λ w. Some (w, [])) (name_lexeme_is word is)

pub lexeme_at-name : (word : List ℕ) → IsName word → lexeme_at (chars word) ≡ lexeme_of_word (keyword_of word) word
lexeme_at-name [] is = cc (is.spelt)
lexeme_at-name (c ∷ cs) is =
    let word = c ∷ cs in
    let all = name_bytes word is in
    let letter : is_ascii_alphabetic c ≡ true = (and_parts (is_ascii_alphabetic c) _ is.spelt).0 in
    let plain : chars word ≡ word = ascii-chars word (name-ascii word is) in
    ap lexeme_at plain ∙ cond-true (is_ascii_alphabetic c) _ _ letter
    ∙ ap (λ (r : List ℕ). keyword_or_name (map to_ascii_lowercase r) >>= λ w. Some (w, after_run is_name_byte word)) (run_all word all)
    ∙ ap (λ (r : List ℕ). keyword_or_name (map to_ascii_lowercase word) >>= λ w. Some (w, r)) (after_run_all word all)
    ∙ ap (λ (n : List ℕ). keyword_or_name n >>= λ w. Some (w, [])) is.lower
    ∙ words word (keyword_of word) is

-- the lexeme that was read
abbrev lexeme_in : Lexeme → Option (Lexeme × List ℕ) → Lexeme
lexeme_in l None = l
lexeme_in l (Some found) = found.0

-- a word is read as a keyword where it is one
pub word_read : (word : List ℕ) (l : Lexeme) (rest : List ℕ) → IsName word → lexeme_at (chars word) ≡ Some (l, rest) → is_word l ≡ is_some (keyword_of word)
word_read word l rest is read = by_keyword (keyword_of word) (sym (lexeme_at-name word is) ∙ read)
  where
    by_keyword : (o : Option Keyword) → lexeme_of_word o word ≡ Some (l, rest) → is_word l ≡ is_some o
    by_keyword None e = ap is_word (sym (ap (lexeme_in l) e))
    by_keyword (Some k) e = ap is_word (sym (ap (lexeme_in l) e))

-- a word spelt as a name is a lexeme
pub some_read : (word : List ℕ) → IsName word → lexeme_at (chars word) ≡ None → ⊥
some_read word is read = by_keyword (keyword_of word) (sym (lexeme_at-name word is) ∙ read)
  where
    by_keyword : (o : Option Keyword) → lexeme_of_word o word ≡ None → ⊥
    by_keyword None e = cc
    by_keyword (Some x) e = cc
