-- The lexemes of a structured query are those of a statement.
use Rattle.std.proofs.Common.{◌≡◌, ℕ, zero, suc, Bool, true, false, cond, List, [], ◌∷◌, length, refl, ap, ◌∙◌, Option, Some, None}
use Rattle.std.specs.Char.{is_whitespace}
use Rattle.st_parse.specs.declared.lexemes.Lexeme.{Lexeme}
use Rattle.st_parse.specs.Lexemes.{after_run, begins_comment, is_in_line, lexeme_at, lexemes, lexemes_in, ◌>>=◌}
use Rattle.cat_where.specs.declared.lexing.Lexed.{Lexed}
use Rattle.cat_where.specs.Lexing.{bare, lexed, lexed_in, place_in, placed, put_first, whole_from, whole_lexemes, with_lexeme}

put_same : (place : ℕ) (l : Lexeme) (x : Lexed) → whole_lexemes (put_first (placed place l) x) ≡ (whole_lexemes x >>= λ ls. Some (l ∷ ls))
put_same place l x = go x.broken
  where
    go : (o : Option ℕ) → whole_from (l ∷ bare x.lexemes) o ≡ (whole_from (bare x.lexemes) o >>= λ ls. Some (l ∷ ls))
    go None = refl
    go (Some broken) = refl

same_in : (text : List ℕ) (n : ℕ) (cs : List ℕ) → whole_lexemes (lexed_in text n cs) ≡ lexemes_in n cs
same_in text zero cs = refl
same_in text (suc n) [] = refl
same_in text (suc n) (c ∷ cs) = go (is_whitespace c) (begins_comment c cs) (lexeme_at (c ∷ cs)) (λ rest. same_in text n rest)
  where
    go : (white comment : Bool) (o : Option (Lexeme × List ℕ)) → ((rest : List ℕ) → whole_lexemes (lexed_in text n rest) ≡ lexemes_in n rest)
        → whole_lexemes (cond white (lexed_in text n cs) (cond comment (lexed_in text n (after_run is_in_line cs)) (with_lexeme (λ rest. lexed_in text n rest) (place_in text (c ∷ cs)) o)))
        ≡ cond white (lexemes_in n cs) (cond comment (lexemes_in n (after_run is_in_line cs)) (o >>= λ l. lexemes_in n l.1 >>= λ ls. Some (l.0 ∷ ls)))
    go true comment o same = same cs
    go false true o same = same (after_run is_in_line cs)
    go false false None same = refl
    go false false (Some l) same = put_same (place_in text (c ∷ cs)) l.0 (lexed_in text n l.1) ∙ ap (λ (x : Option (List Lexeme)). x >>= λ ls. Some (l.0 ∷ ls)) (same l.1)

pub same_lexemes : (text : List ℕ) → whole_lexemes (lexed text) ≡ lexemes text
same_lexemes text = same_in text (length text) text
