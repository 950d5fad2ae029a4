use Rattle.std.proofs.Common.{◌≡◌, [], ◌∷◌}
use Rattle.q_tree.specs.Trees.{tree_of}
use Rattle.q_parse.specs.Views.{trees_of}
use Rattle.q_parse.proofs.Phrases.{terms_from, sizes}
use Rattle.q_parse.proofs.terms.terms_of.Given as goal

abbrev pub invariant-trees : goal.invariant-trees
invariant-trees l = terms_from l.phrases (trees_of l.queries.items) ≡ terms_from [] (tree_of l.fn.query ∷ [])

abbrev pub decreases-trees : goal.decreases-trees
decreases-trees l = sizes (trees_of l.queries.items)
