-- The positions that the tokens of a tree have in a document.
use Rattle.std.specs.Prelude.{ℕ, ◌≡◌, List, [], ◌∷◌, Option, Some, None, refl}
use Rattle.std.specs.Bool.{if◌then◌else◌}
use Rattle.q_tree.specs.Documents.{put_all}
use Rattle.ix_lists.specs.Documents.{places_at}
use Rattle.ix_cursor.specs.Bounding.{is_behind}
use Rattle.ix_cursor.specs.declared.tokens.Tokens.{Tokens}
use Rattle.ix_cursor.specs.declared.tokens.Tokens.TheVariants.{Nothing, One, Both'}

-- the positions from a document on; those in the documents before it are passed
abbrev pub unless_behind : Option ℕ → ℕ → List ℕ → List ℕ
unless_behind from d ps = if is_behind from d then [] else ps

-- THE POSITIONS of all tokens of a tree in a document
abbrev pub tokens_at : Tokens → ℕ → List ℕ
tokens_at Nothing d = []
tokens_at (One p) d = put_all (places_at p d) []
tokens_at (Both' from p a q b) d = unless_behind from d (put_all (tokens_at a d) (tokens_at b d))

-- ---- computed examples

passed : unless_behind (Some 4) 3 (1 ∷ []) ≡ []
passed = refl

not_passed : unless_behind (Some 4) 4 (1 ∷ []) ≡ 1 ∷ []
not_passed = refl

all_passed : unless_behind None 4 (1 ∷ []) ≡ []
all_passed = refl
