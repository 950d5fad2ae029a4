-- What the code keeps of a rule.
use Rattle.std.specs.Prelude.{◌≡◌, true, false, Option, codes, refl}
use Rattle.std.specs.Option.{option_map}
use Rattle.std.specs.Str.{chars, is_utf8}
use lib.Utf8.{encode}
use Rattle.q_tree.specs.ReducedQueries.{Reduced, reduced_of}
use Rattle.q_stored.specs.Storing.{SpellsQuery, fits}
use Rattle.rule_index.specs.declared.outcomes.Kept.{Kept}
use Rattle.rule_index.specs.declared.outcomes.Kept.TheVariants.{Taken as KeptQuery, Faulty as KeptFault}
use Rattle.rule_index.specs.Outcomes.{Outcome, Taken, Faulty, is_stored_fault}

-- This is kept of a rule with this outcome: its query with its bytes, or the text of its fault.
abbrev pub IsKept : Kept → Outcome → Type 0
IsKept (KeptQuery query bytes) o = (o ≡ Taken (option_map reduced_of query)) × SpellsQuery bytes.items (option_map reduced_of query)
IsKept (KeptFault text) o = (o ≡ Faulty text) × (is_stored_fault text ≡ true)

-- What is kept of a query are its bytes, and what is kept of a fault may be stored.
abbrev pub KeepsRules : Kept → Type 0
KeepsRules (KeptQuery query bytes) = SpellsQuery bytes.items (option_map reduced_of query)
KeepsRules (KeptFault text) = is_stored_fault text ≡ true

-- A query that was reduced isn't kept only where it is over the limits.
abbrev pub IsFaultyOverLimits : Kept → Option Reduced → Type 0
IsFaultyOverLimits (KeptQuery query bytes) q = Unit {0}
IsFaultyOverLimits (KeptFault text) q = fits q ≡ false

-- computed example
a_fault : IsKept (KeptFault (codes "E31: limit reached")) (Faulty (codes "E31: limit reached"))
unfolding is_utf8 encode chars
a_fault = (refl, refl)
