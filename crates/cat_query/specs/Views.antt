-- What the reader's values are without where they lie in memory.
use Rattle.std.specs.Prelude.{◌≡◌, List, [], ◌∷◌, ◌++◌, Option, Some, None, Result, Ok, Err, refl}
use Rattle.q_tree.specs.declared.queries.Query.{Query}
use Rattle.q_tree.specs.Trees.{Tree, tree_of}
use Rattle.cat_query.specs.declared.levels.Level.{Level as CodeLevel}
use Rattle.cat_query.specs.declared.levels.State.{State as CodeState}
use Rattle.cat_query.specs.declared.levels.StepError.{StepError}
use Rattle.cat_query.specs.declared.levels.StepError.TheVariants.{Refused, Memory}
use Rattle.cat_query.specs.Machine.{Level, chain_of, State}

abbrev pub tree_in : Option Query → Option Tree
tree_in None = None
tree_in (Some q) = Some (tree_of q)

abbrev pub level_of : CodeLevel → Level
level_of l = record { alternatives = tree_in l.alternatives; chain = tree_in l.chain; without = l.without }

-- the innermost first
abbrev pub levels_of : List CodeLevel → List Level
levels_of [] = []
levels_of (l ∷ ls) = levels_of ls ++ level_of l ∷ []

abbrev pub state_of : CodeState → State
state_of s = record { inner = level_of s.inner; outer = levels_of s.outer.items }

-- the alternatives and the chain of a level, where it has a chain that may end
abbrev pub EndsAs : Level → Option (Option Query × Query) → Type 0
EndsAs l None = chain_of l ≡ None
EndsAs l (Some x) = (chain_of l ≡ Some (tree_of x.1)) × (tree_in x.0 ≡ l.alternatives)

-- The step that a result is, unless memory ran out.
abbrev pub StepsTo : Result CodeState StepError → Option State → Type 0
StepsTo (Ok s) next = next ≡ Some (state_of s)
StepsTo (Err Refused) next = next ≡ None
StepsTo (Err Memory) next = Unit {0}

abbrev pub Finishes : Result Query StepError → Option Tree → Type 0
Finishes (Ok q) t = t ≡ Some (tree_of q)
Finishes (Err Refused) t = t ≡ None
Finishes (Err Memory) t = Unit {0}

-- computed example
nothing_refused : (next : Option State) → StepsTo (Err Memory) next ≡ Unit {0}
nothing_refused next = refl
