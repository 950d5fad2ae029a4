use Rattle.std.proofs.Common.{◌≡◌, ℕ, List, [], ◌∷◌, refl, ap, ◌∙◌}
use Rattle.std.specs.Prelude.{◌&&◌, nat_eq}
use Rattle.std.specs.List.{starts_with}
use Rattle.ct_keep.specs.Content.{begins_with}
use Rattle.ct_keep.proofs.scans.begins.Goals as goal

starts_begins : (key prefix : List ℕ) → starts_with nat_eq key prefix ≡ begins_with prefix key
starts_begins key [] = refl
starts_begins [] (p ∷ ps) = refl
starts_begins (k ∷ key) (p ∷ ps) = ap (λ b. nat_eq p k && b) (starts_begins key ps)

pub returns-clause-value : goal.returns-clause-value
returns-clause-value c = c.starts_with.ensures.value ∙ starts_begins c.args.key.now c.args.prefix.now
