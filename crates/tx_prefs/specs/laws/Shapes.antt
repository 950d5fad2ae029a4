-- The changes of preferences are well shaped, over any content.
use Rattle.std.proofs.Common.{◌≡◌, ℕ, ◌≤◌, true, List, [], ◌∷◌, length, Option, sym, subst}
use Rattle.ct_base.specs.Names.{IsName}
use Rattle.ct_keep.specs.Content.{value_limit}
use Rattle.ct_entry.specs.declared.kinds.Kind.{Kind}
use Rattle.ct_entry.specs.Keys.{key, IsPart}
use Rattle.ct_entry.specs.Changes.{put_value, spell}
use Rattle.ct_entry.specs.Shapes.{AreShaped}
use Rattle.ct_entry.specs.laws.Parts.{has_short_keys}
use Rattle.ct_entry.specs.laws.Shapes.{are_shaped}
use Rattle.tx_prefs.specs.Shapes.{HasPrefValue, IsPrefValue}

-- one entry, whose key has no rest
pub change_shaped : (k : Kind) (name value : List ℕ) (batch : List (List ℕ × Option (List ℕ))) → batch ≡ spell (put_value (key k name []) value ∷ []) → IsName name → has_short_keys k ≡ true → IsPart k [] → length value ≤ value_limit → IsPrefValue k value
    → AreShaped HasPrefValue batch
change_shaped k name value batch is named short bare within has =
    subst (AreShaped HasPrefValue) (sym is)
    (are_shaped HasPrefValue (put_value (key k name []) value ∷ []) (record { owner = named; part = bare }, tt) (short, tt) (record { bounded = within; has = has }, tt))
