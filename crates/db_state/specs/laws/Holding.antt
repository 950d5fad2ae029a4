-- What a content holds that stands for a state.
use Rattle.ct_keep.specs.Content.{Content}
use Rattle.tx_prefs.specs.Sees.{HoldsPreferences}
use Rattle.th_store.specs.Sees.{HoldsThesauri}
use Rattle.db_state.specs.States.{StoreState, StandsForState}

pub holds_preferences : (c : Content) (m : StoreState) → StandsForState c m → HoldsPreferences c m.preferences
holds_preferences c m stands = record { only = stands.only; stand = stands.preferences; rules = stands.state.preferences }

pub holds_thesauri : (c : Content) (m : StoreState) → StandsForState c m → HoldsThesauri c m.thesauri
holds_thesauri c m stands = record { only = stands.only; stand = stands.thesauri; rules = stands.state.thesauri }
