-- What the functions of `src/laws.rt` promise of all preferences.
use Rattle.std.specs.Prelude.{ℕ, ◌≡◌, ◌<◌, ◌≤◌, Bool, true, false, ◌||◌, nat_lt, is_some, List, [], ◌∷◌, ◌++◌, length, Option, Some, codes, refl, ◌==◌, None, bytes_eq}
use Rattle.std.specs.Bool.{if◌then◌else◌}
use Rattle.std.specs.Str.{is_utf8}
use Rattle.ct_base.specs.Names.{IsName}
use Rattle.ct_bytes.specs.Varints.{varint}
use Rattle.ct_keep.specs.Content.{value_limit}
use Rattle.ct_entry.specs.declared.kinds.Kind.{Kind}
use Rattle.ct_entry.specs.declared.kinds.Kind.TheVariants as kind
use Rattle.ct_entry.specs.Keys.{Key, key}
use Rattle.ct_entry.specs.Changes.{view, AllOf}
use Rattle.tx_stop.specs.StopKeys.{stop_limit}
use Rattle.tx_tags.specs.declared.groups.SectionKind.{SectionKind}
use Rattle.tx_tags.specs.declared.groups.SectionKind.TheVariants.{Zone, Field}
use Rattle.tx_tags.specs.declared.groups.Section.{Section}
use Rattle.tx_tags.specs.Groups.{SectionGroup, field_count, is_among, is_reserved, is_tag, is_zone, kind_of, section_limit, tag_names, tags_limit, with_tag, zone_count, zones}
use Rattle.tx_settings.specs.declared.attributes.Attribute.{Attribute}
use Rattle.tx_settings.specs.declared.attributes.Setting.{Setting}
use Rattle.tx_settings.specs.Attributes.{setting, takes_value}
use Rattle.tx_settings.specs.PrefsBytes.{are_lexer_settings, are_settings, attribute_place, has_text, is_named_group}
use Rattle.tx_prefs.specs.Preferences.{Preferences, with_group, with_lexer, with_index_set, with_setting, with_stoplist}
use Rattle.tx_prefs.specs.Spelling.{PreferencesStand, group_changes, lexer_changes, set_changes, stoplist_changes}
use Rattle.tx_prefs.specs.Rules.{ArePreferences, are_stopwords, is_stopword}
use Rattle.tx_prefs.specs.Shapes.{HasPrefValue}
use Rattle.tx_prefs.specs.laws.Changes.{is_of_preferences}

-- ---- what is stored

-- the entries spell one state at most
abbrev pub OnePreferences : Type 0
OnePreferences = (f : Key → Option (List ℕ)) (ps qs : Preferences) → PreferencesStand f ps → PreferencesStand f qs → ArePreferences ps → ArePreferences qs → ps ≡ qs

-- after the changes of a preference, of a stoplist, of a section group and of an index set
abbrev pub LexersStand : Type 0
LexersStand = (f : Key → Option (List ℕ)) (ps : Preferences) (name : List ℕ) (settings : List Setting) → PreferencesStand f ps → PreferencesStand (view (lexer_changes name settings) f) (with_lexer ps name settings)

abbrev pub StoplistsStand : Type 0
StoplistsStand = (f : Key → Option (List ℕ)) (ps : Preferences) (name : List ℕ) (words : List (List ℕ)) → PreferencesStand f ps → PreferencesStand (view (stoplist_changes name words) f) (with_stoplist ps name words)

abbrev pub GroupsStand : Type 0
GroupsStand = (f : Key → Option (List ℕ)) (ps : Preferences) (name : List ℕ) (group : SectionGroup) → PreferencesStand f ps → PreferencesStand (view (group_changes name group) f) (with_group ps name group)

abbrev pub SetsStand : Type 0
SetsStand = (f : Key → Option (List ℕ)) (ps : Preferences) (name : List ℕ) (set : List (List (List ℕ))) → PreferencesStand f ps → PreferencesStand (view (set_changes name set) f) (with_index_set ps name set)

-- changes of entries of other kinds leave them
abbrev pub OthersLeaveThem : Type 0
OthersLeaveThem = (p : Kind → Bool) (ws : List (Key × Option (List ℕ))) (f : Key → Option (List ℕ)) (ps : Preferences) → AllOf p ws → ((k : Kind) → is_of_preferences k ≡ true → p k ≡ false) → PreferencesStand f ps → PreferencesStand (view ws f) ps

-- the entries have values of their kinds, within the bound
abbrev pub EntriesAreWell : Kind → Type 0
EntriesAreWell k = (f : Key → Option (List ℕ)) (ps : Preferences) → PreferencesStand f ps → ArePreferences ps → (name v : List ℕ) → f (key k name []) ≡ Some v → HasPrefValue (key k name []) v × (length v ≤ value_limit)

-- ---- what the procedures make

-- settings in the order of their attributes, each once, with texts as values
abbrev pub SettingsStayInOrder : Type 0
SettingsStayInOrder = (s : Setting) (ss : List Setting) → has_text s ≡ true → are_settings ss ≡ true → are_settings (with_setting s ss) ≡ true

-- and values that their attributes take
abbrev pub SettingsStayTaken : Type 0
SettingsStayTaken = (a : Attribute) (value : List ℕ) (ss : List Setting) → is_utf8 value ≡ true → takes_value a value ≡ true → are_lexer_settings ss ≡ true → are_lexer_settings (with_setting (setting a value) ss) ≡ true

-- a word more, that isn't among them, where there is room for one
abbrev pub StopwordsStay : Type 0
StopwordsStay = (word : List ℕ) (words : List (List ℕ)) → are_stopwords words ≡ true → is_stopword word ≡ true → is_among word words ≡ false → length words < stop_limit → are_stopwords (words ++ word ∷ []) ≡ true

-- how many sections there are of the kind: zones, or fields
abbrev pub kind_count : SectionKind → List Section → ℕ
kind_count kind ss = if is_zone kind then zone_count ss else field_count ss

-- whether there is a section of the name, or room for one more of the kind
abbrev pub has_room : List ℕ → SectionKind → List Section → Bool
has_room name kind ss = is_some (kind_of name ss) || nat_lt (kind_count kind ss) section_limit

-- a tag more, that no section has, where there is room for it and for its section
abbrev pub GroupsStay : Type 0
GroupsStay = (g : SectionGroup) (name : List ℕ) (kind : SectionKind) (tag : List ℕ) → is_named_group g ≡ true → g.is_null ≡ false → IsName name → is_reserved name ≡ false → is_tag tag ≡ true → is_among tag (tag_names g.sections) ≡ false
    → length (tag_names g.sections) < tags_limit → has_room name kind g.sections ≡ true → is_named_group (record g { sections = with_tag name kind tag g.sections }) ≡ true

-- sentences and paragraphs as sections
abbrev pub FlagsStay : Type 0
FlagsStay = (g : SectionGroup) (sentence paragraph : Bool) → is_named_group g ≡ true → is_named_group (record g { sentence = sentence; paragraph = paragraph }) ≡ true

-- ---- what becomes of each attribute, and of each section

-- the value that an attribute has among settings
abbrev pub value_of : Attribute → List Setting → Option (List ℕ)
value_of a [] = None
value_of a (s ∷ ss) = if attribute_place s.attribute == attribute_place a then Some s.value else value_of a ss

-- an attribute that is set has the new value, and each other one the value that it had
abbrev pub TheLastValueCounts : Type 0
TheLastValueCounts = (s : Setting) (ss : List Setting) (a : Attribute) → value_of a (with_setting s ss) ≡ (if attribute_place s.attribute == attribute_place a then Some s.value else value_of a ss)

-- the tags of the section of a name; none where there is no such section
abbrev pub tags_of : List ℕ → List Section → List (List ℕ)
tags_of name [] = []
tags_of name (s ∷ ss) = if bytes_eq s.name name then s.tags else tags_of name ss

-- the section has the tag behind those that it had, and each other one has its own
abbrev pub TagsJoinTheirSection : Type 0
TagsJoinTheirSection = (name : List ℕ) (kind : SectionKind) (tag : List ℕ) (ss : List Section) (other : List ℕ) → tags_of other (with_tag name kind tag ss) ≡ (if bytes_eq name other then tags_of other ss ++ tag ∷ [] else tags_of other ss)

-- a section that is there keeps its kind, and a new one has this one
abbrev pub kind_with : List ℕ → SectionKind → List ℕ → Option SectionKind → Option SectionKind
kind_with name kind other (Some k) = Some k
kind_with name kind other None = if bytes_eq name other then Some kind else None

abbrev pub SectionsKeepTheirKind : Type 0
SectionsKeepTheirKind = (name : List ℕ) (kind : SectionKind) (tag : List ℕ) (ss : List Section) (other : List ℕ) → kind_of other (with_tag name kind tag ss) ≡ kind_with name kind other (kind_of other ss)

-- computed examples: the zones are two, and the field is there already
two_zones : kind_count Zone zones.sections ≡ 2
two_zones = refl

the_field : has_room (codes "t") Field zones.sections ≡ true
the_field = refl

its_tags : tags_of (codes "q") (with_tag (codes "q") Zone (codes "h1") zones.sections) ≡ codes "q" ∷ codes "h1" ∷ []
its_tags = refl

its_entry : (f : Key → Option (List ℕ)) → view (stoplist_changes (codes "sl") (codes "is" ∷ [])) f (key kind.Stoplists (codes "sl") []) ≡ Some (1 ∷ 2 ∷ codes "is")
unfolding varint
its_entry f = refl

of_another : (f : Key → Option (List ℕ)) → view (stoplist_changes (codes "sl") (codes "is" ∷ [])) f (key kind.Preferences (codes "sl") []) ≡ f (key kind.Preferences (codes "sl") [])
of_another f = refl
