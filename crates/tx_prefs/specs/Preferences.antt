-- What is defined for indexes: lexer preferences, stoplists, section groups and index sets, by their names. Together they are called preferences here.
use Rattle.std.specs.Prelude.{ℕ, ◌≡◌, ◌==◌, nat_lt, List, [], ◌∷◌, ◌++◌, Option, Some, None, codes, refl}
use Rattle.std.specs.Bool.{if◌then◌else◌}
use Rattle.std.specs.FinMap.{insert, empty}
use Rattle.ct_entry.specs.Maps.{Names}
use Rattle.tx_tags.specs.Groups.{SectionGroup}
use Rattle.tx_settings.specs.declared.attributes.Attribute.TheVariants.{MixedCase, Numjoin, Skipjoins}
use Rattle.tx_settings.specs.declared.attributes.Setting.{Setting}
use Rattle.tx_settings.specs.Attributes.{setting}
use Rattle.tx_settings.specs.PrefsBytes.{attribute_place}

-- lexer preferences by their settings, stoplists by their words and index sets by the columns of their sub-indexes, each in the order in which they were added, and section groups
pub record Preferences : Type 0 where
  pub lexers : Names (List Setting)
  pub stoplists : Names (List (List ℕ))
  pub groups : Names SectionGroup
  pub sets : Names (List (List (List ℕ)))

-- as a new store has them
abbrev pub no_preferences : Preferences
no_preferences = record { lexers = empty; stoplists = empty; groups = empty; sets = empty }

-- ---- what procedures make of them

abbrev pub with_lexer : Preferences → List ℕ → List Setting → Preferences
with_lexer ps name settings = record ps { lexers = insert ps.lexers name settings }

abbrev pub with_stoplist : Preferences → List ℕ → List (List ℕ) → Preferences
with_stoplist ps name words = record ps { stoplists = insert ps.stoplists name words }

abbrev pub with_group : Preferences → List ℕ → SectionGroup → Preferences
with_group ps name group = record ps { groups = insert ps.groups name group }

abbrev pub with_index_set : Preferences → List ℕ → List (List (List ℕ)) → Preferences
with_index_set ps name set = record ps { sets = insert ps.sets name set }

-- an attribute is set: in the order of attributes, and in place of the value that it had
abbrev pub with_setting : Setting → List Setting → List Setting
with_setting s [] = s ∷ []
with_setting s (t ∷ ts) =
    if nat_lt (attribute_place t.attribute) (attribute_place s.attribute) then t ∷ with_setting s ts
    else (if attribute_place t.attribute == attribute_place s.attribute then s ∷ ts else s ∷ t ∷ ts)

-- the settings with one that waits for its place among them, if one does
abbrev pub with_waiting : Option Setting → List Setting → List Setting
with_waiting None rest = rest
with_waiting (Some s) rest = with_setting s rest

-- One setting was put behind others, and what waits now comes, before any rest, to what waited before with the setting.
abbrev pub PutsNext : List Setting → List Setting → Option Setting → Setting → Option Setting → Type 0
PutsNext before after waiting next left = (rest : List Setting) → after ++ with_waiting left rest ≡ before ++ with_waiting waiting (next ∷ rest)

-- computed examples: an attribute that is set twice has its last value

set_again : with_setting (setting Skipjoins (codes "_")) (setting MixedCase (codes "YES") ∷ setting Skipjoins (codes "-") ∷ []) ≡ setting MixedCase (codes "YES") ∷ setting Skipjoins (codes "_") ∷ []
set_again = refl

in_between : with_setting (setting Numjoin []) (setting MixedCase (codes "YES") ∷ setting Skipjoins (codes "-") ∷ []) ≡ setting MixedCase (codes "YES") ∷ setting Numjoin [] ∷ setting Skipjoins (codes "-") ∷ []
in_between = refl

-- a flag is put, and the set waits on, since its attribute comes later
flag_put : PutsNext [] (setting MixedCase (codes "YES") ∷ []) (Some (setting Skipjoins (codes "-"))) (setting MixedCase (codes "YES")) (Some (setting Skipjoins (codes "-")))
flag_put rest = refl
