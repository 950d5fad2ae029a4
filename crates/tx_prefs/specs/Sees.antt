-- What calls say of the preferences that a content holds, by the view of the keeper before them.
use Rattle.std.specs.Prelude.{ℕ, ◌≡◌, Bool, true, false, nat_le, is_some, List, length, Result}
use Rattle.std.specs.FinMap.{get, get-empty, entries}
use Rattle.std.specs.Ordering.{nat_cmp}
use Rattle.std.specs.Cmp.Lexicographic.{slice_cmp}
use Rattle.std.proofs.Common.{ap}
use Rattle.ct_keep.specs.Content.{Content}
use Rattle.ct_keep.specs.declared.keepers.KeepFault.{KeepFault}
use Rattle.ct_keep.specs.KeeperViews.{KeeperView, Finds}
use Rattle.ct_entry.specs.Keys.{at, HasKeysOnly}
use Rattle.tx_prefs.specs.declared.kinds.PrefKind.{PrefKind}
use Rattle.tx_prefs.specs.declared.kinds.PrefKind.TheVariants.{Lexer, Stoplist, SectionGroup, IndexSet}
use Rattle.tx_prefs.specs.Preferences.{Preferences, no_preferences}
use Rattle.tx_prefs.specs.Spelling.{PreferencesStand}
use Rattle.tx_prefs.specs.Rules.{ArePreferences, preference_limit}

-- The content spells these preferences, which keep their rules.
pub record HoldsPreferences (m : Content) (ps : Preferences) : Type 0 where
  pub only : HasKeysOnly m
  pub stand : PreferencesStand (at m) ps
  pub rules : ArePreferences ps

-- what a call gave of the preferences that a told content holds, unless it failed
abbrev pub SeesPreferences : {K T : Type 0} → (K → KeeperView) → K → Result T KeepFault → (Preferences → T → Type 0) → Type 0
SeesPreferences view old result gives = Finds view old result (λ m x. (ps : Preferences) → HoldsPreferences m ps → gives ps x)

-- whether there is one of this kind and name
abbrev pub has_named : PrefKind → List ℕ → Preferences → Bool
has_named Lexer name ps = is_some (get ps.lexers name)
has_named Stoplist name ps = is_some (get ps.stoplists name)
has_named SectionGroup name ps = is_some (get ps.groups name)
has_named IndexSet name ps = is_some (get ps.sets name)

-- how many there are of a kind
abbrev pub named_count : PrefKind → Preferences → ℕ
named_count Lexer ps = length (entries ps.lexers)
named_count Stoplist ps = length (entries ps.stoplists)
named_count SectionGroup ps = length (entries ps.groups)
named_count IndexSet ps = length (entries ps.sets)

-- whether there are as many as there may be
abbrev pub is_kind_full : PrefKind → Preferences → Bool
is_kind_full kind ps = nat_le preference_limit (named_count kind ps)

-- computed examples

-- a new store has no stoplist of any name
none_yet : (name : List ℕ) → has_named Stoplist name no_preferences ≡ false
none_yet name = ap is_some (get-empty (slice_cmp nat_cmp) name)

-- with 255 of a kind there may be one more, with 256 there may not
not_yet_full : (ps : Preferences) → named_count Stoplist ps ≡ 255 → is_kind_full Stoplist ps ≡ false
not_yet_full ps count = ap (nat_le preference_limit) count

full : (ps : Preferences) → named_count Stoplist ps ≡ 256 → is_kind_full Stoplist ps ≡ true
full ps count = ap (nat_le preference_limit) count
