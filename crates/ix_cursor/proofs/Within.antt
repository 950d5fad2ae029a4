-- The greatest score over the pairs of a section.
use Rattle.std.proofs.Common.{ℕ, ◌≡◌, List, [], ◌∷◌, map, max, Bool, ◌&&◌, refl, ap, ◌∙◌}
use Rattle.ix_lists.specs.Seeking.{has_any}
use Rattle.ct_base.specs.declared.numbers.Pair.{Pair}
use Rattle.q_tree.specs.Scores.{greatest_within}
use Rattle.ix_cursor.specs.Seen.{score_inside, greatest_inside}

greatest_same : (f g : ℕ → ℕ → ℕ) (lo hi : ℕ) (ps : List Pair) → ((l h : ℕ) → f l h ≡ g l h) → greatest_within f lo hi ps ≡ greatest_within g lo hi ps
greatest_same f g lo hi [] same = refl
greatest_same f g lo hi (p ∷ ps) same = rw (same p.first p.last, greatest_same f g lo hi ps same) refl

pub greatest_kept : (f g : ℕ → ℕ → ℕ) (lo hi : ℕ) (ps qs : List Pair) → ps ≡ qs → ((l h : ℕ) → f l h ≡ g l h) → greatest_within f lo hi ps ≡ greatest_within g lo hi qs
greatest_kept f g lo hi ps qs is same = greatest_same f g lo hi ps same ∙ ap (greatest_within g lo hi) is

-- scores that stand beside the pairs are those within the range
inside_is : (f : ℕ → ℕ → ℕ) (lo hi : ℕ) (ps : List Pair) → greatest_inside lo hi ps (map (λ p. f p.first p.last) ps) ≡ greatest_within f lo hi ps
inside_is f lo hi [] = refl
inside_is f lo hi (p ∷ ps) = ap (max (score_inside lo hi p (f p.first p.last))) (inside_is f lo hi ps)

pub inside_kept : (f g : ℕ → ℕ → ℕ) (lo hi : ℕ) (seen ps : List Pair) (scores : List ℕ) → seen ≡ ps → scores ≡ map (λ p. f p.first p.last) seen → ((l h : ℕ) → f l h ≡ g l h) → greatest_inside lo hi seen scores ≡ greatest_within g lo hi ps
inside_kept f g lo hi seen ps scores is beside same = ap (greatest_inside lo hi seen) beside ∙ inside_is f lo hi seen ∙ greatest_kept f g lo hi seen ps is same

pub may_kept : (ps qs : List Pair) (x y : Bool) → ps ≡ qs → x ≡ y → (has_any ps && x) ≡ (has_any qs && y)
may_kept ps qs x y is same = ap (λ zs. has_any zs && x) is ∙ ap (λ t. has_any qs && t) same
