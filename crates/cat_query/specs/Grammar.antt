-- The grammar of queries of CATSEARCH: what is written, as it is written, and what it means.
use Rattle.std.specs.Prelude.{ℕ, ◌≡◌, ◌+◌, ◌<◌, ◌≤◌, List, [], ◌∷◌, ◌++◌, length, take, refl}
use Rattle.std.proofs.Common.{arith}
use Rattle.q_tree.specs.declared.queries.Word.{Word}
use Rattle.q_tree.specs.declared.queries.Leaf.TheVariants.{Phrase}
use Rattle.q_tree.specs.declared.queries.Op.TheVariants.{Or, And, Not}
use Rattle.q_tree.specs.Trees.{Tree, Single, Both}
use Rattle.cat_query.specs.declared.lexemes.Lexeme.{Lexeme}
use Rattle.cat_query.specs.declared.lexemes.Lexeme.TheVariants.{Item, Minus, Bar, Open, Close}

-- what joins two queries: standing side by side, a `-`, or a `|`
pub data Joint : Type 0 where
  Adjacent : Joint
  Without : Joint
  Either : Joint

-- A query as it is written, with its parentheses: a word or a quoted text, a group, or two queries.
pub data Text : Type 0 where
  One : Word → Text
  Group : Text → Text
  Two : Joint → Text → Text → Text

abbrev pub joint_spelling : Joint → List Lexeme
joint_spelling Adjacent = []
joint_spelling Without = Minus ∷ []
joint_spelling Either = Bar ∷ []

abbrev pub spelling : Text → List Lexeme
spelling (One w) = Item w ∷ []
spelling (Group t) = Open ∷ (spelling t ++ Close ∷ [])
spelling (Two j s t) = spelling s ++ (joint_spelling j ++ spelling t)

-- the phrase of a word or a quoted text: one slot
abbrev pub phrase_of : Word → Tree
phrase_of w = Single (Phrase ((w ∷ []) ∷ []))

-- The tree of the query. Its parentheses are gone.
abbrev pub meaning : Text → Tree
meaning (One w) = phrase_of w
meaning (Group t) = meaning t
meaning (Two Adjacent s t) = Both And (meaning s) (meaning t)
meaning (Two Without s t) = Both Not (meaning s) (meaning t)
meaning (Two Either s t) = Both Or (meaning s) (meaning t)

-- how tight a joint binds
abbrev pub tightness : Joint → ℕ
tightness Adjacent = 2
tightness Without = 2
tightness Either = 1

-- Its joints outside of parentheses bind at least as tight as k. What stands left of a joint binds at least as tight as it, and what stands right of
-- it binds tighter: so chains group to the left, and a `-` and standing side by side are one chain.
abbrev pub Fits : ℕ → Text → Type 0
Fits k (One w) = Unit {0}
Fits k (Group t) = Fits 1 t
Fits k (Two j s t) = (k ≤ tightness j) × Fits (tightness j) s × Fits (tightness j + 1) t

-- the lexemes are a query
pub record IsQuery (ls : List Lexeme) (tree : Tree) : Type 0 where
  pub text : Text
  pub fits : Fits 1 text
  pub spelt : spelling text ≡ ls
  pub means : meaning text ≡ tree

-- some query begins so
pub record BeginsQuery (ls : List Lexeme) : Type 0 where
  pub rest : List Lexeme
  pub tree : Tree
  pub whole : IsQuery (ls ++ rest) tree

-- The least lexeme, or the end, such that the lexemes up to and with it begin no query: those before it begin one.
pub record IsFirstBad (ls : List Lexeme) (place : ℕ) : Type 0 where
  pub before : BeginsQuery (take place ls)
  pub within : place ≤ length ls
  pub lexeme : place < length ls → BeginsQuery (take (place + 1) ls) → ⊥
  pub no_query : (tree : Tree) → IsQuery ls tree → ⊥

-- computed examples: `a b | c - d` is `a` AND `b`, OR `c` NOT `d`; and the parentheses of `a (b | c)` are needed
abbrev four : (a b c d : Word) → Text
four a b c d = Two Either (Two Adjacent (One a) (One b)) (Two Without (One c) (One d))

four_fit : (a b c d : Word) → Fits 1 (four a b c d)
four_fit a b c d = (omega arith, (omega arith, tt, tt), (omega arith, tt, tt))

four_mean : (a b c d : Word) → meaning (four a b c d) ≡ Both Or (Both And (phrase_of a) (phrase_of b)) (Both Not (phrase_of c) (phrase_of d))
four_mean a b c d = refl

four_spelt : (a b c d : Word) → spelling (four a b c d) ≡ Item a ∷ Item b ∷ Bar ∷ Item c ∷ Minus ∷ Item d ∷ []
four_spelt a b c d = refl

needs_parentheses : (a b c : Word) → Fits 1 (Two Adjacent (One a) (Two Either (One b) (One c))) → ⊥
needs_parentheses a b c fits = omega (arith, fits.2.0)
