-- How long the texts of words are.
use Rattle.std.proofs.Common.{◌≡◌, ◌+◌, List, [], ◌∷◌, length, refl, ap, ◌∙◌, length-append}
use Rattle.q_tree.specs.declared.queries.WordBit.{WordBit}
use Rattle.q_tree.specs.declared.queries.WordBit.TheVariants.{Chars, One, Many}
use Rattle.q_tree.specs.Limits.{word_length}
use Rattle.q_reduce.specs.Reducing.{word_text}

pub text_length : (bits : List WordBit) → length (word_text bits) ≡ word_length bits
text_length [] = refl
text_length (Chars text ∷ bits) = length-append text (word_text bits) ∙ ap (λ n. length text + n) (text_length bits)
text_length (One ∷ bits) = text_length bits
text_length (Many ∷ bits) = text_length bits
