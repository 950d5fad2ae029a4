-- Steps of notes: which changes are well shaped, whatever document was read of the row.
use Rattle.std.proofs.Common.{ℕ, ℤ, List, Option, Some, None}
use Rattle.ct_base.specs.Names.{IsName}
use Rattle.ct_entry.specs.Keys.{IsRow}
use Rattle.ct_entry.specs.Changes.{spell}
use Rattle.ct_entry.specs.Shapes.{AreShaped}
use Rattle.ix_docmap.specs.Changes.{gone_changes, changed_changes}
use Rattle.ix_context.specs.Shapes.{HasContextValue}
use Rattle.ix_context.specs.laws.Shapes.{shaped_note}

-- those of a row that goes put no entry
pub shaped_gone : (i : List ℕ) (r : ℤ) (document : Option ℕ) → AreShaped HasContextValue (spell (gone_changes i r document))
shaped_gone i r None = tt
shaped_gone i r (Some d) = tt

-- those of a row that has another text put at most its note
pub shaped_changed : (i : List ℕ) (r : ℤ) (document : Option ℕ) → IsName i → IsRow r → AreShaped HasContextValue (spell (changed_changes i r document))
shaped_changed i r None name row = tt
shaped_changed i r (Some d) name row = shaped_note i r name row
