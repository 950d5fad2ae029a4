-- A batch of changes within the bounds, and one change more.
use Rattle.std.proofs.Common.{◌≡◌, List, [], ◌∷◌, ◌++◌, Some, None, sym, subst}
use Rattle.ct_keep.specs.Content.{Change}
use Rattle.ct_keep.specs.Changes.{AnyEntry, AreWell}

with_one : (ws : List Change) (w : Change) → AreWell AnyEntry (w ∷ []) → AreWell AnyEntry ws → AreWell AnyEntry (ws ++ w ∷ [])
with_one [] w one are = one
with_one ((key, None) ∷ ws) w one are = with_one ws w one are
with_one ((key, Some value) ∷ ws) w one are = (are.0, are.1, with_one ws w one are.2)

pub one_more : (ws next : List Change) (w : Change) → AreWell AnyEntry (w ∷ []) → AreWell AnyEntry ws → next ≡ ws ++ w ∷ [] → AreWell AnyEntry next
one_more ws next w one are is = subst (AreWell AnyEntry) (sym is) (with_one ws w one are)
