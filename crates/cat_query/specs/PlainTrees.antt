-- The trees that queries of CATSEARCH have.
use Rattle.std.specs.Prelude.{◌≡◌, Bool, true, false, ◌&&◌, [], ◌∷◌, refl}
use Rattle.q_tree.specs.declared.queries.Word.{Word}
use Rattle.q_tree.specs.declared.queries.Leaf.TheVariants.{Phrase}
use Rattle.q_tree.specs.declared.queries.Op.TheVariants.{Or, And, Not, Minus}
use Rattle.q_tree.specs.Trees.{Tree, Single, Both, Above}
use Rattle.cat_query.specs.Grammar.{phrase_of}

-- WHETHER A TREE IS PLAIN: phrases of one word, and AND, OR and NOT between them.
abbrev pub is_plain_tree : Tree → Bool
is_plain_tree (Single (Phrase ((w ∷ []) ∷ []))) = true
is_plain_tree (Both And a b) = is_plain_tree a && is_plain_tree b
is_plain_tree (Both Or a b) = is_plain_tree a && is_plain_tree b
is_plain_tree (Both Not a b) = is_plain_tree a && is_plain_tree b
is_plain_tree tree = false

-- computed examples
red_without_blue : (red blue : Word) → is_plain_tree (Both Not (phrase_of red) (phrase_of blue)) ≡ true
red_without_blue red blue = refl

two_words : (red car : Word) → is_plain_tree (Single (Phrase ((red ∷ []) ∷ (car ∷ []) ∷ []))) ≡ false
two_words red car = refl

minus : (red blue : Word) → is_plain_tree (Both Minus (phrase_of red) (phrase_of blue)) ≡ false
minus red blue = refl

above : (red : Word) → is_plain_tree (Above 5 (phrase_of red)) ≡ false
above red = refl
