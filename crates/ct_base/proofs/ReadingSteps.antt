-- A text with one more character.
use Rattle.std.proofs.Common.{◌≡◌, ℕ, true, List, [], ◌∷◌, ◌++◌, sym, ap, ◌∙◌, append-nil}
use Rattle.std.specs.Char.{encode_utf8}
use Rattle.std.specs.Str.{chars, IsUtf8, all_scalars}
use Rattle.std.proofs.lemmas.Str.{chars-append, chars-encodes}

pub chars-push : (text : List ℕ) (c : ℕ) → IsUtf8 text → all_scalars (c ∷ []) ≡ true → chars (text ++ encode_utf8 c) ≡ chars text ++ c ∷ []
chars-push text c utf8 scalar =
    let alone : chars (encode_utf8 c) ≡ c ∷ [] = ap chars (sym (append-nil (encode_utf8 c))) ∙ chars-encodes (c ∷ []) scalar in
    chars-append text (encode_utf8 c) utf8 ∙ ap (λ x. chars text ++ x) alone
