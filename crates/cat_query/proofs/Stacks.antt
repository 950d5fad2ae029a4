-- Lists of levels, of which the last is the innermost.
use Rattle.std.proofs.Common.{◌≡◌, List, [], ◌∷◌, ◌++◌, length, refl, ap, ◌∙◌, arith}
use Rattle.cat_query.specs.declared.levels.Level.{Level as CodeLevel}
use Rattle.cat_query.specs.Machine.{Level}
use Rattle.cat_query.specs.Views.{level_of, levels_of}

levels_of_pushed : (ks : List CodeLevel) (l : CodeLevel) → levels_of (ks ++ l ∷ []) ≡ level_of l ∷ levels_of ks
levels_of_pushed [] l = refl
levels_of_pushed (k ∷ ks) l = ap (λ (x : List Level). x ++ level_of k ∷ []) (levels_of_pushed ks l)

pub levels_of_last : (ls ks : List CodeLevel) (l : CodeLevel) → ls ≡ ks ++ l ∷ [] → levels_of ls ≡ level_of l ∷ levels_of ks
levels_of_last ls ks l is = ap levels_of is ∙ levels_of_pushed ks l

pub no_levels_left : (ls : List CodeLevel) → length ls ≡ 0 → levels_of ls ≡ []
no_levels_left [] none = refl
no_levels_left (l ∷ ls) none = absurd (omega (arith, none))
