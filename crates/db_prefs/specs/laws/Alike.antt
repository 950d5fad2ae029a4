-- What the procedures that define preferences do is the same in states that are alike: they look at no index.
use Rattle.std.proofs.Common.{◌≡◌, ℕ, Bool, List, length, Option, None}
use Rattle.std.specs.Prelude.{not, nat_le, ◌∷◌, ◌++◌, ◌||◌, [], is_some}
use Rattle.st_parse.specs.declared.statements.Arg.{Arg}
use Rattle.st_parse.specs.declared.procedures.Definition.{Definition}
use Rattle.st_parse.specs.declared.procedures.Definition.TheVariants.{CreatePreference, SetAttribute, CreateStoplist, AddStopword, CreateSectionGroup, AddZoneSection, AddFieldSection, AddSpecialSection, CreateIndexSet, AddIndex}
use Rattle.tx_stop.specs.StopKeys.{stop_limit}
use Rattle.tx_tags.specs.declared.groups.SectionKind.{SectionKind}
use Rattle.tx_tags.specs.declared.groups.SectionKind.TheVariants.{Zone}
use Rattle.tx_tags.specs.Groups.{SectionGroup as Group}
use Rattle.tx_settings.specs.declared.attributes.Setting.{Setting}
use Rattle.tx_sets.specs.Sets.{are_sub_indexes}
use Rattle.tx_prefs.specs.declared.kinds.PrefKind.{PrefKind}
use Rattle.tx_prefs.specs.declared.kinds.PrefKind.TheVariants.{Lexer, Stoplist, SectionGroup, IndexSet}
use Rattle.tx_prefs.specs.Preferences.{Preferences, with_lexer, with_stoplist, with_group, with_index_set, with_setting}
use Rattle.tx_prefs.specs.Sees.{is_kind_full}
use Rattle.db_cond.specs.Faults.{BadValue, LimitReached}
use Rattle.db_call.specs.Arguments.{argument_name, argument_text, are_texts}
use Rattle.db_call.specs.Checks.{get_named, missing_name, of_both, taken_name}
use Rattle.db_call.specs.laws.Alike.{asked_same, check_same, of_both_same}
use Rattle.db_state.specs.States.{StoreState}
use Rattle.db_state.specs.Effects.{Effect, refuse, with_found}
use Rattle.db_state.specs.Lines.{call_done}
use Rattle.db_state.specs.Alike.{DoesSamePlain, plain_state, plain_effect}
use Rattle.db_state.specs.laws.AlikeChecks.{does_plain, refuse_same, with_found_same}
use Rattle.db_prefs.specs.Arguments.{are_texts_and_flag, lower_at}
use Rattle.db_prefs.specs.Defining.{add_section, add_special_section, add_stopword, add_sub_index, among, are_new_args, attribute_set, columns_told, create, define, define_by, field_kind, has_stopword_length, is_full_group, is_good_section, is_null_type, is_there, is_type, new_made, section_added, set_attribute, setting_of, special_added, special_of, stopword_added, sub_index_added, taken_section, taken_special, with_new, with_preferences, with_section, with_special}
use Rattle.db_prefs.specs.declared.special_sections.Special.{Special}

preferences_plain : (m : StoreState) (ps : Preferences) → plain_effect (with_preferences (plain_state m) ps) ≡ plain_effect (with_preferences m ps)
preferences_plain m ps = does_plain (record m { preferences = ps }) call_done

-- ---- something new

new_made_plain : (m : StoreState) (kind : PrefKind) (is_null : Bool) (name : List ℕ)
    → plain_effect (new_made kind is_null (plain_state m) name) ≡ plain_effect (new_made kind is_null m name)
new_made_plain m kind is_null name =
    refuse_same (is_kind_full kind m.preferences) LimitReached (with_preferences (plain_state m) (with_new kind m.preferences name is_null))
    (with_preferences m (with_new kind m.preferences name is_null))
    (preferences_plain m (with_new kind m.preferences name is_null))

create_plain : (m : StoreState) (kind : PrefKind) (name : Option (List ℕ)) (args : List Arg)
    → plain_effect (create kind (plain_state m) name args) ≡ plain_effect (create kind m name args)
create_plain m kind name args =
    check_same None (taken_name (is_there kind m.preferences name) name) (are_new_args kind args) (typed (plain_state m)) (typed m)
    (refuse_same (not (is_type kind (argument_text 1 args))) BadValue (named (plain_state m)) (named m)
    (with_found_same name BadValue (new_made kind is_null (plain_state m)) (new_made kind is_null m) (new_made_plain m kind is_null)))
  where
    is_null : Bool
    is_null = is_null_type (argument_text 1 args)

    named : StoreState → Effect
    named n = with_found name BadValue (new_made kind is_null n)

    typed : StoreState → Effect
    typed n = refuse (not (is_type kind (argument_text 1 args))) BadValue (named n)

-- ---- an attribute

set_attribute_plain : (m : StoreState) (name : Option (List ℕ)) (args : List Arg)
    → plain_effect (set_attribute (plain_state m) name args) ≡ plain_effect (set_attribute m name args)
set_attribute_plain m name args =
    check_same (missing_name (is_some found) name) None (are_texts 3 args) (set (plain_state m)) (set m)
    (asked_same setting name found (λ s. attribute_set s (plain_state m)) (λ s. attribute_set s m)
    (λ s name settings. preferences_plain m (with_lexer m.preferences name (with_setting s settings))))
  where
    found : Option (List Setting)
    found = get_named m.preferences.lexers name

    setting : Option Setting
    setting = setting_of (argument_text 1 args) (argument_text 2 args)

    set : StoreState → Effect
    set n = with_found setting BadValue (λ s. of_both name found (attribute_set s n))

-- ---- a stopword

stopword_added_plain : (m : StoreState) (word name : List ℕ) (words : List (List ℕ))
    → plain_effect (stopword_added word (plain_state m) name words) ≡ plain_effect (stopword_added word m name words)
stopword_added_plain m word name words =
    refuse_same (nat_le stop_limit (length words)) LimitReached
    (with_preferences (plain_state m) (with_stoplist m.preferences name (words ++ word ∷ [])))
    (with_preferences m (with_stoplist m.preferences name (words ++ word ∷ [])))
    (preferences_plain m (with_stoplist m.preferences name (words ++ word ∷ [])))

add_stopword_plain : (m : StoreState) (name : Option (List ℕ)) (args : List Arg)
    → plain_effect (add_stopword (plain_state m) name args) ≡ plain_effect (add_stopword m name args)
add_stopword_plain m name args =
    check_same (missing_name (is_some found) name) (among found (argument_text 1 args)) (are_texts 2 args)
    (with_found (argument_text 1 args) BadValue (add (plain_state m))) (with_found (argument_text 1 args) BadValue (add m))
    (with_found_same (argument_text 1 args) BadValue (add (plain_state m)) (add m)
    (λ word. refuse_same (not (has_stopword_length word)) BadValue (of_both name found (stopword_added word (plain_state m))) (of_both name found (stopword_added word m))
    (of_both_same name found (stopword_added word (plain_state m)) (stopword_added word m) (stopword_added_plain m word))))
  where
    found : Option (List (List ℕ))
    found = get_named m.preferences.stoplists name

    add : StoreState → List ℕ → Effect
    add n word = refuse (not (has_stopword_length word)) BadValue (of_both name found (stopword_added word n))

-- ---- a section

section_added_plain : (m : StoreState) (kind : SectionKind) (name : List ℕ) (g : Group) (section tag : List ℕ)
    → plain_effect (section_added kind name g (plain_state m) section tag) ≡ plain_effect (section_added kind name g m section tag)
section_added_plain m kind name g section tag =
    refuse_same (not (is_good_section g section tag)) BadValue (added (plain_state m)) (added m)
    (refuse_same (is_full_group g kind section) LimitReached (with_preferences (plain_state m) after) (with_preferences m after) (preferences_plain m after))
  where
    after : Preferences
    after = with_group m.preferences name (with_section g section kind tag)

    added : StoreState → Effect
    added n = refuse (is_full_group g kind section) LimitReached (with_preferences n after)

add_section_plain : (m : StoreState) (kind : SectionKind) (shaped : Bool) (name section tag : Option (List ℕ))
    → plain_effect (add_section kind shaped (plain_state m) name section tag) ≡ plain_effect (add_section kind shaped m name section tag)
add_section_plain m kind shaped name section tag =
    check_same (missing_name (is_some found) name) (taken_section kind section tag found) shaped (of_both name found (add (plain_state m)))
    (of_both name found (add m))
    (of_both_same name found (add (plain_state m)) (add m)
    (λ name g. of_both_same section tag (section_added kind name g (plain_state m)) (section_added kind name g m) (section_added_plain m kind name g)))
  where
    found : Option Group
    found = get_named m.preferences.groups name

    add : StoreState → List ℕ → Group → Effect
    add n name g = of_both section tag (section_added kind name g n)

add_special_plain : (m : StoreState) (name : Option (List ℕ)) (args : List Arg)
    → plain_effect (add_special_section (plain_state m) name args) ≡ plain_effect (add_special_section m name args)
add_special_plain m name args =
    check_same (missing_name (is_some found) name) (taken_special asked found) (are_texts 2 args) (add (plain_state m)) (add m)
    (asked_same asked name found (λ s. special_added s (plain_state m)) (λ s. special_added s m)
    (λ s name g. preferences_plain m (with_group m.preferences name (with_special g s))))
  where
    found : Option Group
    found = get_named m.preferences.groups name

    asked : Option Special
    asked = special_of (argument_text 1 args)

    add : StoreState → Effect
    add n = with_found asked BadValue (λ s. of_both name found (special_added s n))

-- ---- a sub-index

sub_index_added_plain : (m : StoreState) (columns : List (List ℕ)) (name : List ℕ) (set : List (List (List ℕ)))
    → plain_effect (sub_index_added columns (plain_state m) name set) ≡ plain_effect (sub_index_added columns m name set)
sub_index_added_plain m columns name set =
    refuse_same (not (are_sub_indexes (set ++ columns ∷ []))) LimitReached
    (with_preferences (plain_state m) (with_index_set m.preferences name (set ++ columns ∷ [])))
    (with_preferences m (with_index_set m.preferences name (set ++ columns ∷ [])))
    (preferences_plain m (with_index_set m.preferences name (set ++ columns ∷ [])))

add_sub_index_plain : (m : StoreState) (name : Option (List ℕ)) (args : List Arg)
    → plain_effect (add_sub_index (plain_state m) name args) ≡ plain_effect (add_sub_index m name args)
add_sub_index_plain m name args =
    check_same (missing_name (is_some found) name) None (are_texts 2 args) (with_found asked BadValue (add (plain_state m))) (with_found asked BadValue (add m))
    (asked_same asked name found (λ columns. sub_index_added columns (plain_state m)) (λ columns. sub_index_added columns m) (sub_index_added_plain m))
  where
    found : Option (List (List (List ℕ)))
    found = get_named m.preferences.sets name

    asked : Option (List (List ℕ))
    asked = columns_told (argument_text 1 args)

    add : StoreState → List (List ℕ) → Effect
    add n columns = of_both name found (sub_index_added columns n)

-- ---- all of them

by_plain : (m : StoreState) (definition : Definition) (name section tag : Option (List ℕ)) (args : List Arg)
    → plain_effect (define_by (plain_state m) definition name section tag args) ≡ plain_effect (define_by m definition name section tag args)
by_plain m CreatePreference name section tag args = create_plain m Lexer name args
by_plain m SetAttribute name section tag args = set_attribute_plain m name args
by_plain m CreateStoplist name section tag args = create_plain m Stoplist name args
by_plain m AddStopword name section tag args = add_stopword_plain m name args
by_plain m CreateSectionGroup name section tag args = create_plain m SectionGroup name args
by_plain m AddZoneSection name section tag args = add_section_plain m Zone (are_texts 3 args) name section tag
by_plain m AddFieldSection name section tag args = add_section_plain m (field_kind args) (are_texts 3 args || are_texts_and_flag args) name section tag
by_plain m AddSpecialSection name section tag args = add_special_plain m name args
by_plain m CreateIndexSet name section tag args = create_plain m IndexSet name args
by_plain m AddIndex name section tag args = add_sub_index_plain m name args

pub define_plain : (definition : Definition) (args : List Arg) → DoesSamePlain (λ m. define m definition args)
define_plain definition args m = by_plain m definition (argument_name 0 args) (argument_name 1 args) (lower_at 2 args) args
