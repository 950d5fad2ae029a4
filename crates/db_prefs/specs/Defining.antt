-- What the procedures do that define lexer preferences, stoplists, section groups and index sets.
use Rattle.std.specs.Prelude.{ℕ, ◌≡◌, Bool, true, false, not, ◌&&◌, ◌||◌, nat_le, List, [], ◌∷◌, ◌++◌, length, is_some, is_none, Option, Some, None, Result, codes, refl, replicate}
use Rattle.std.specs.Bool.{if◌then◌else◌}
use Rattle.std.specs.Option.{option_and_then}
use Rattle.std.specs.FinMap.{get, get-empty}
use Rattle.std.specs.Ordering.{nat_cmp}
use Rattle.std.specs.Cmp.Lexicographic.{slice_cmp}
use Rattle.std.proofs.Common.{ap}
use Rattle.st_parse.specs.declared.statements.Arg.{Arg}
use Rattle.st_parse.specs.declared.statements.Arg.TheVariants.{Text, Flag}
use Rattle.st_parse.specs.declared.procedures.Definition.{Definition}
use Rattle.st_parse.specs.declared.procedures.Definition.TheVariants.{CreatePreference, SetAttribute, CreateStoplist, AddStopword, CreateSectionGroup, AddZoneSection, AddFieldSection, AddSpecialSection, CreateIndexSet, AddIndex}
use Rattle.ct_entry.specs.Keys.{Key}
use Rattle.tx_stop.specs.StopKeys.{stop_limit}
use Rattle.tx_tags.specs.declared.groups.SectionKind.{SectionKind}
use Rattle.tx_tags.specs.declared.groups.SectionKind.TheVariants.{Zone, Field, VisibleField}
use Rattle.tx_tags.specs.Groups.{SectionGroup as Group, no_sections, is_among, is_reserved, is_tag, tag_names, section_limit, tags_limit, with_tag, kind_of}
use Rattle.tx_settings.specs.declared.attributes.Setting.{Setting}
use Rattle.tx_settings.specs.Attributes.{attribute_named, takes_value, setting}
use Rattle.tx_sets.specs.Sets.{are_sub_indexes, two_sub_indexes}
use Rattle.tx_sets.specs.Columns.{columns_of}
use Rattle.tx_prefs.specs.declared.kinds.PrefKind.{PrefKind}
use Rattle.tx_prefs.specs.declared.kinds.PrefKind.TheVariants.{Lexer, Stoplist, SectionGroup, IndexSet}
use Rattle.tx_prefs.specs.Preferences.{Preferences, with_lexer, with_stoplist, with_group, with_index_set, with_setting, no_preferences}
use Rattle.tx_settings.specs.PrefsPromises.{stopword_limit}
use Rattle.tx_prefs.specs.Promises.{kind_count}
use Rattle.tx_prefs.specs.Spelling.{lexer_changes, stoplist_changes, group_changes, set_changes}
use Rattle.tx_prefs.specs.Sees.{has_named, is_kind_full}
use Rattle.db_cond.specs.Faults.{UnknownName, ExistsAlready, WrongValues, BadValue, LimitReached}
use Rattle.db_call.specs.Arguments.{argument_text, argument_name, are_texts, spells_word}
use Rattle.db_state.specs.States.{StoreState, empty_state}
use Rattle.db_state.specs.Effects.{Effect, Refused, Does, refuse, refuse_by, with_found}
use Rattle.db_state.specs.Lines.{call_done}
use Rattle.db_state.specs.Plans.{PlansWhere}
use Rattle.db_state.specs.declared.plans.Plan.{Plan}
use Rattle.db_call.specs.Checks.{check, get_named, missing_name, of_both, taken_name}
use Rattle.db_prefs.specs.declared.special_sections.Special.{Special}
use Rattle.db_prefs.specs.declared.special_sections.Special.TheVariants.{Sentence, Paragraph}
use Rattle.db_prefs.specs.Arguments.{lower_at, are_texts_and_flag, is_flagged}

-- the preferences are these now
abbrev pub with_preferences : StoreState → Preferences → Effect
with_preferences m ps = Does (record m { preferences = ps }) call_done

-- ---- something new

-- whether the arguments are a name and a type; a stoplist's type may be left out, and an index set has none
abbrev pub are_new_args : PrefKind → List Arg → Bool
are_new_args Lexer args = are_texts 2 args
are_new_args Stoplist args = are_texts 1 args || are_texts 2 args
are_new_args SectionGroup args = are_texts 2 args
are_new_args IndexSet args = are_texts 1 args

abbrev pub is_null_type : Option (List ℕ) → Bool
is_null_type text = spells_word (codes "null_section_group") text

-- whether the type is one that the kind has
abbrev pub is_type : PrefKind → Option (List ℕ) → Bool
is_type Lexer text = spells_word (codes "basic_lexer") text
is_type Stoplist text = is_none text || spells_word (codes "basic_stoplist") text
is_type SectionGroup text = is_null_type text || spells_word (codes "basic_section_group") text
is_type IndexSet text = true

-- with a new one of this name; whether a section group is a null one is told
abbrev pub with_new : PrefKind → Preferences → List ℕ → Bool → Preferences
with_new Lexer ps name is_null = with_lexer ps name []
with_new Stoplist ps name is_null = with_stoplist ps name []
with_new SectionGroup ps name is_null = with_group ps name (record no_sections { is_null = is_null })
with_new IndexSet ps name is_null = with_index_set ps name []

-- whether one of the kind has the name, if there is a name
abbrev pub is_there : PrefKind → Preferences → Option (List ℕ) → Bool
is_there kind ps None = false
is_there kind ps (Some name) = has_named kind name ps

abbrev pub new_made : PrefKind → Bool → StoreState → List ℕ → Effect
new_made kind is_null m name =
    refuse (is_kind_full kind m.preferences) LimitReached
    (with_preferences m (with_new kind m.preferences name is_null))

abbrev pub create : PrefKind → StoreState → Option (List ℕ) → List Arg → Effect
create kind m name args =
    let text = argument_text 1 args in
    check None (taken_name (is_there kind m.preferences name) name) (are_new_args kind args)
    (refuse (not (is_type kind text)) BadValue
    (with_found name BadValue (new_made kind (is_null_type text) m)))

-- ---- an attribute

-- the attribute of this name with this value, if it takes it
abbrev pub setting_of : Option (List ℕ) → Option (List ℕ) → Option Setting
setting_of attribute value = option_and_then (λ text. option_and_then (λ a. option_and_then (λ v. if takes_value a v then Some (setting a v) else None) value) (attribute_named text)) attribute

abbrev pub attribute_set : Setting → StoreState → List ℕ → List Setting → Effect
attribute_set s m name settings = with_preferences m (with_lexer m.preferences name (with_setting s settings))

abbrev pub set_attribute : StoreState → Option (List ℕ) → List Arg → Effect
set_attribute m name args =
    let found = get_named m.preferences.lexers name in
    check (missing_name (is_some found) name) None (are_texts 3 args)
    (with_found (setting_of (argument_text 1 args) (argument_text 2 args)) BadValue (λ (s : Setting).
    of_both name found (attribute_set s m)))

-- ---- a stopword

-- the word, where it is among the words
abbrev pub among : Option (List (List ℕ)) → Option (List ℕ) → Option (List ℕ)
among words word = option_and_then (λ ws. option_and_then (λ w. if is_among w ws then Some w else None) word) words

-- 1 to 64 bytes
abbrev pub has_stopword_length : List ℕ → Bool
has_stopword_length word = nat_le 1 (length word) && nat_le (length word) stopword_limit

abbrev pub stopword_added : List ℕ → StoreState → List ℕ → List (List ℕ) → Effect
stopword_added word m name words =
    refuse (nat_le stop_limit (length words)) LimitReached
    (with_preferences m (with_stoplist m.preferences name (words ++ word ∷ [])))

abbrev pub add_stopword : StoreState → Option (List ℕ) → List Arg → Effect
add_stopword m name args =
    let word = argument_text 1 args in
    let found = get_named m.preferences.stoplists name in
    check (missing_name (is_some found) name) (among found word) (are_texts 2 args)
    (with_found word BadValue (λ (word : List ℕ).
    refuse (not (has_stopword_length word)) BadValue
    (of_both name found (stopword_added word m))))

-- ---- a section

abbrev pub is_same_kind : SectionKind → SectionKind → Bool
is_same_kind Zone Zone = true
is_same_kind Field Field = true
is_same_kind VisibleField VisibleField = true
is_same_kind kind other = false

-- The name, where a section of it is one of another kind. A field that can be seen is of another kind than one that can't.
abbrev pub of_other_kind : Group → SectionKind → Option (List ℕ) → Option (List ℕ)
of_other_kind g kind name = option_and_then (λ name. option_and_then (λ k. if is_same_kind kind k then None else Some name) (kind_of name g.sections)) name

-- the tag, where the group has it
abbrev pub taken_tag : Group → Option (List ℕ) → Option (List ℕ)
taken_tag g tag = option_and_then (λ tag. if is_among tag (tag_names g.sections) then Some tag else None) tag

abbrev pub or_else : Option (List ℕ) → Option (List ℕ) → Option (List ℕ)
or_else None other = other
or_else (Some x) other = Some x

-- what is there already: the section as one of another kind, or else the tag
abbrev pub taken_section : SectionKind → Option (List ℕ) → Option (List ℕ) → Option Group → Option (List ℕ)
taken_section kind name tag found = option_and_then (λ g. or_else (of_other_kind g kind name) (taken_tag g tag)) found

-- a section and a tag that a group may have: in no null group, of no name that is reserved, and a tag that is spelt as one
abbrev pub is_good_section : Group → List ℕ → List ℕ → Bool
is_good_section g name tag = not g.is_null && (not (is_reserved name) && is_tag tag)

-- whether the group has as many tags as there may be, or as many sections of the kind, where this is a new one
abbrev pub is_full_group : Group → SectionKind → List ℕ → Bool
is_full_group g kind name =
    nat_le tags_limit (length (tag_names g.sections))
    || (is_none (kind_of name g.sections) && nat_le section_limit (kind_count kind g.sections))

abbrev pub with_section : Group → List ℕ → SectionKind → List ℕ → Group
with_section g name kind tag = record g { sections = with_tag name kind tag g.sections }

-- the checks of the section and the tag in a group that is there, and the group with them
abbrev pub section_added : SectionKind → List ℕ → Group → StoreState → List ℕ → List ℕ → Effect
section_added kind name g m section tag =
    refuse (not (is_good_section g section tag)) BadValue
    (refuse (is_full_group g kind section) LimitReached
    (with_preferences m (with_group m.preferences name (with_section g section kind tag))))

abbrev pub add_section : SectionKind → Bool → StoreState → Option (List ℕ) → Option (List ℕ) → Option (List ℕ) → Effect
add_section kind shaped m name section tag =
    let found = get_named m.preferences.groups name in
    check (missing_name (is_some found) name) (taken_section kind section tag found) shaped
    (of_both name found (λ name g. of_both section tag (section_added kind name g m)))

abbrev pub field_kind : List Arg → SectionKind
field_kind args = if is_flagged args then VisibleField else Field

-- ---- sentences and paragraphs

abbrev pub special_name : Special → List ℕ
special_name Sentence = codes "sentence"
special_name Paragraph = codes "paragraph"

-- which of the two a word asks for
abbrev pub special_of : Option (List ℕ) → Option Special
special_of text = if spells_word (codes "sentence") text then Some Sentence else (if spells_word (codes "paragraph") text then Some Paragraph else None)

abbrev pub has_special : Group → Special → Bool
has_special g Sentence = g.sentence
has_special g Paragraph = g.paragraph

abbrev pub with_special : Group → Special → Group
with_special g Sentence = record g { sentence = true }
with_special g Paragraph = record g { paragraph = true }

-- its name, where the group has it
abbrev pub taken_special : Option Special → Option Group → Option (List ℕ)
taken_special asked found = option_and_then (λ g. option_and_then (λ s. if has_special g s then Some (special_name s) else None) asked) found

abbrev pub special_added : Special → StoreState → List ℕ → Group → Effect
special_added s m name g = with_preferences m (with_group m.preferences name (with_special g s))

abbrev pub add_special_section : StoreState → Option (List ℕ) → List Arg → Effect
add_special_section m name args =
    let asked = special_of (argument_text 1 args) in
    let found = get_named m.preferences.groups name in
    check (missing_name (is_some found) name) (taken_special asked found) (are_texts 2 args)
    (with_found asked BadValue (λ (s : Special).
    of_both name found (special_added s m)))

-- ---- a sub-index

-- The columns as a sub-index behind the others. A limit is passed where the set with it isn't one: it has sixteen sub-indexes already, or
-- the columns are more than three.
abbrev pub sub_index_added : List (List ℕ) → StoreState → List ℕ → List (List (List ℕ)) → Effect
sub_index_added columns m name set =
    refuse (not (are_sub_indexes (set ++ columns ∷ []))) LimitReached
    (with_preferences m (with_index_set m.preferences name (set ++ columns ∷ [])))

-- the columns that a text tells, if there is a text
abbrev pub columns_told : Option (List ℕ) → Option (List (List ℕ))
columns_told text = option_and_then columns_of text

abbrev pub add_sub_index : StoreState → Option (List ℕ) → List Arg → Effect
add_sub_index m name args =
    let found = get_named m.preferences.sets name in
    check (missing_name (is_some found) name) None (are_texts 2 args)
    (with_found (columns_told (argument_text 1 args)) BadValue (λ (columns : List (List ℕ)).
    of_both name found (sub_index_added columns m)))

-- ---- all of them

-- by what a refusal may show: the names that the first two arguments spell, and the third in lower case
abbrev pub define_by : StoreState → Definition → Option (List ℕ) → Option (List ℕ) → Option (List ℕ) → List Arg → Effect
define_by m CreatePreference name section tag args = create Lexer m name args
define_by m SetAttribute name section tag args = set_attribute m name args
define_by m CreateStoplist name section tag args = create Stoplist m name args
define_by m AddStopword name section tag args = add_stopword m name args
define_by m CreateSectionGroup name section tag args = create SectionGroup m name args
define_by m AddZoneSection name section tag args = add_section Zone (are_texts 3 args) m name section tag
define_by m AddFieldSection name section tag args = add_section (field_kind args) (are_texts 3 args || are_texts_and_flag args) m name section tag
define_by m AddSpecialSection name section tag args = add_special_section m name args
define_by m CreateIndexSet name section tag args = create IndexSet m name args
define_by m AddIndex name section tag args = add_sub_index m name args

abbrev pub define : StoreState → Definition → List Arg → Effect
define m procedure args = define_by m procedure (argument_name 0 args) (argument_name 1 args) (lower_at 2 args) args

-- ---- what its functions give

-- The call gave the plan that adds the word to the stoplist of this name, over each state where it has these words.
abbrev pub PlansStopword : {E : Type 0} → Result Plan E → List ℕ → List (List ℕ) → List ℕ → Type 0
PlansStopword result name words word = PlansWhere result (λ m. get m.preferences.stoplists name ≡ Some words) (λ m. stopword_added word m name words)

-- The call gave the plan that adds the section with the tag to the group of this name, over each state where it is this group.
abbrev pub PlansSection : {E : Type 0} → Result Plan E → SectionKind → List ℕ → Group → List ℕ → List ℕ → Type 0
PlansSection result kind name g section tag = PlansWhere result (λ m. get m.preferences.groups name ≡ Some g) (λ m. section_added kind name g m section tag)

-- what a new one puts into a batch
abbrev pub new_changes : PrefKind → List ℕ → Bool → List (Key × Option (List ℕ))
new_changes Lexer name is_null = lexer_changes name []
new_changes Stoplist name is_null = stoplist_changes name []
new_changes SectionGroup name is_null = group_changes name (record no_sections { is_null = is_null })
new_changes IndexSet name is_null = set_changes name []

-- computed examples: in the empty state
nothing_there : (kind : PrefKind) (name : List ℕ) → has_named kind name no_preferences ≡ false
nothing_there Lexer name = ap is_some (get-empty (slice_cmp nat_cmp) name)
nothing_there Stoplist name = ap is_some (get-empty (slice_cmp nat_cmp) name)
nothing_there SectionGroup name = ap is_some (get-empty (slice_cmp nat_cmp) name)
nothing_there IndexSet name = ap is_some (get-empty (slice_cmp nat_cmp) name)

no_lexer : define empty_state SetAttribute (Text (codes "lx") ∷ []) ≡ Refused (UnknownName (codes "lx"))
no_lexer = ap (λ (b : Bool). refuse_by (missing_name b (Some (codes "lx"))) UnknownName (Refused WrongValues)) (nothing_there Lexer (codes "lx"))

-- a type that isn't there, and a name that isn't spelt as one
another_type : define empty_state CreatePreference (Text (codes "lx") ∷ Text (codes "WORLD_LEXER") ∷ []) ≡ Refused BadValue
another_type = ap (λ (b : Bool). refuse_by (taken_name b (Some (codes "lx"))) ExistsAlready (Refused BadValue)) (nothing_there Lexer (codes "lx"))

not_a_name : define empty_state CreateStoplist (Text (codes "my list") ∷ []) ≡ Refused BadValue
not_a_name = refl

-- sections
abbrev title_zone : Group
title_zone = record no_sections { is_null = false; sections = with_tag (codes "title") Zone (codes "h1") [] }

as_a_field : taken_section Field (Some (codes "title")) (Some (codes "h1")) (Some title_zone) ≡ Some (codes "title")
as_a_field = refl

its_tag : taken_section Zone (Some (codes "head")) (Some (codes "h1")) (Some title_zone) ≡ Some (codes "h1")
its_tag = refl

a_second_tag : taken_section Zone (Some (codes "title")) (Some (codes "h2")) (Some title_zone) ≡ None
a_second_tag = refl

reserved_name : is_good_section title_zone (codes "sentence") (codes "s") ≡ false
reserved_name = refl

none_in_a_null_group : is_good_section no_sections (codes "title") (codes "h1") ≡ false
none_in_a_null_group = refl

that_can_be_seen : field_kind (Text (codes "g") ∷ Text (codes "f") ∷ Text (codes "t") ∷ Flag true ∷ []) ≡ VisibleField
that_can_be_seen = refl

-- stopwords are told by their bytes as they were given
in_another_case : among (Some (codes "the" ∷ [])) (Some (codes "The")) ≡ None
in_another_case = refl

-- a new index set has no type; where there is none of the name, that comes before the number of arguments
with_a_type : define empty_state CreateIndexSet (Text (codes "iset") ∷ Text (codes "BASIC") ∷ []) ≡ Refused WrongValues
with_a_type = ap (λ (b : Bool). refuse_by (taken_name b (Some (codes "iset"))) ExistsAlready (Refused WrongValues)) (nothing_there IndexSet (codes "iset"))

no_set : define empty_state AddIndex (Text (codes "iset") ∷ []) ≡ Refused (UnknownName (codes "iset"))
no_set = ap (λ (b : Bool). refuse_by (missing_name b (Some (codes "iset"))) UnknownName (Refused WrongValues)) (nothing_there IndexSet (codes "iset"))

-- a third sub-index, and one of four columns
a_third : (m : StoreState) → sub_index_added (codes "id" ∷ []) m (codes "iset") two_sub_indexes ≡ with_preferences m (with_index_set m.preferences (codes "iset") (two_sub_indexes ++ (codes "id" ∷ []) ∷ []))
a_third m = refl

of_four : (m : StoreState) → sub_index_added (codes "a" ∷ codes "b" ∷ codes "c" ∷ codes "d" ∷ []) m (codes "iset") two_sub_indexes ≡ Refused LimitReached
of_four m = refl

a_seventeenth : (m : StoreState) → sub_index_added (codes "id" ∷ []) m (codes "iset") (replicate 16 (codes "price" ∷ [])) ≡ Refused LimitReached
a_seventeenth m = refl
