-- A query that was reduced can be searched.
use Rattle.std.proofs.Common.{◌≡◌, true, Option, Some, None}
use Rattle.std.specs.Prelude.{IfSome}
use Rattle.q_tree.specs.declared.flats.Flat.{Flat}
use Rattle.q_tree.specs.Soundness.{is_sound}
use Rattle.q_tree.specs.ReducedQueries.{reduced_of}
use Rattle.db_find.specs.Meanings.{CanSearchIt}

pub searchable : (found : Option Flat) → IfSome found (λ f. is_sound (reduced_of f) ≡ true) → CanSearchIt found
searchable None sound = tt
searchable (Some f) sound = record { sound = sound }
