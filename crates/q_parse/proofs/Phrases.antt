-- The phrases of trees that are all terms, one tree after the other.
use Rattle.std.proofs.Common.{◌≡◌, ℕ, ◌+◌, Bool, true, false, cond, ◌&&◌, List, [], ◌∷◌, ◌++◌, refl, sym, ap, append_assoc, Option, Some, None}
use Rattle.q_tree.specs.declared.queries.Leaf.{Leaf}
use Rattle.q_tree.specs.declared.queries.Op.TheVariants.{Or}
use Rattle.q_tree.specs.Trees.{Tree, Both}
use Rattle.q_parse.specs.Machine.{is_terms, phrases_of}

-- these phrases and those of the trees, where each tree is terms
abbrev pub terms_from : List Leaf → List Tree → Option (List Leaf)
terms_from ps [] = Some ps
terms_from ps (t ∷ ts) = cond (is_terms t) (terms_from (ps ++ phrases_of t) ts) None

-- how many operators and leaves the trees have
abbrev pub size : Tree → ℕ
size (Both op s t) = size s + size t + 1
size t = 1

abbrev pub sizes : List Tree → ℕ
sizes [] = 0
sizes (t ∷ ts) = size t + sizes ts

step : (a b : Bool) (ps qs rs : List Leaf) (ts : List Tree) → cond (a && b) (terms_from (ps ++ (qs ++ rs)) ts) None ≡ cond a (cond b (terms_from ((ps ++ qs) ++ rs) ts) None) None
step true true ps qs rs ts = ap (λ x. terms_from x ts) (sym (append_assoc ps qs rs))
step true false ps qs rs ts = refl
step false b ps qs rs ts = refl

pub terms_or : (ps : List Leaf) (s t : Tree) (ts : List Tree) → terms_from ps (Both Or s t ∷ ts) ≡ terms_from ps (s ∷ t ∷ ts)
terms_or ps s t ts = step (is_terms s) (is_terms t) ps (phrases_of s) (phrases_of t) ts
