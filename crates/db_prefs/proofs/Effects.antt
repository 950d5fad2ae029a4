-- The effects by what was read, and what they are where the checks let pass.
use Rattle.std.proofs.Common.{◌≡◌, ℕ, Bool, false, List, Vec, Option, Some, None, sym, ap, ◌∙◌}
use Rattle.std.specs.Prelude.{not, is_some}
use Rattle.std.specs.Option.{option_map}
use Rattle.std.specs.declared.alloc.Global.{Global}
use Rattle.st_parse.specs.declared.statements.Arg.{Arg}
use Rattle.tx_tags.specs.declared.groups.SectionKind.{SectionKind}
use Rattle.tx_tags.specs.Groups.{SectionGroup as Group, is_among, tag_names}
use Rattle.tx_settings.specs.declared.attributes.Setting.{Setting}
use Rattle.tx_prefs.specs.declared.kinds.PrefKind.{PrefKind}
use Rattle.db_call.specs.Arguments.{are_texts, argument_text}
use Rattle.db_call.specs.Checks.{check, get_named, of_both, taken_name, missing_name}
use Rattle.db_call.specs.laws.Checks.{not_taken, unknown_by}
use Rattle.db_cond.specs.declared.faults.Fault.{Fault}
use Rattle.db_cond.specs.Faults.{BadValue}
use Rattle.db_state.specs.States.{StoreState}
use Rattle.db_state.specs.Effects.{Effect, Checks, refuse, with_found}
use Rattle.db_state.specs.laws.Chains.{checked}
use Rattle.db_prefs.specs.Defining.{add_section, add_special_section, add_stopword, add_sub_index, among, columns_told, are_new_args, attribute_set, create, has_stopword_length, is_null_type, is_there, is_type, new_made, of_other_kind, or_else, section_added, set_attribute, setting_of, special_added, special_of, stopword_added, sub_index_added, taken_section, taken_special, taken_tag}
use Rattle.db_prefs.specs.declared.special_sections.Special.{Special}

pub stopword_fresh : (taken word : Option (List ℕ)) (w : List ℕ) (found : Option (List (List ℕ))) (ws : List (List ℕ)) → taken ≡ among found word
    → taken ≡ None → found ≡ Some ws → word ≡ Some w → is_among w ws ≡ false
stopword_fresh taken word w found ws is none found_is word_is = not_taken (is_among w ws) w (sym (λ i. among (found_is i) (word_is i)) ∙ sym is ∙ none)

no_other : (o p : Option (List ℕ)) → or_else o p ≡ None → p ≡ None
no_other None p h = h
no_other (Some x) p h = cc

pub section_fresh : (kind : SectionKind) (taken section tag : Option (List ℕ)) (s t : List ℕ) (found : Option Group) (g : Group)
    → taken ≡ taken_section kind section tag found → taken ≡ None → found ≡ Some g → section ≡ Some s → tag ≡ Some t
    → is_among t (tag_names g.sections) ≡ false
section_fresh kind taken section tag s t found g is none found_is section_is tag_is =
    not_taken (is_among t (tag_names g.sections)) t (no_other (of_other_kind g kind (Some s)) (taken_tag g (Some t)) (sym (λ i. taken_section kind (section_is i) (tag_is i) (found_is i)) ∙ sym is ∙ none))

-- ---- each effect

abbrev pub settings_in : Vec Setting Global → List Setting
settings_in v = v.items

abbrev pub sets_in : Vec (List (List ℕ)) Global → List (List (List ℕ))
sets_in v = v.items

abbrev pub columns_in : Vec (List ℕ) Global → List (List ℕ)
columns_in v = v.items

module _ (m : StoreState) (args : List Arg) where
  -- after the first checks
  abbrev pub create_on : PrefKind → Option (List ℕ) → Option (List ℕ) → Effect
  create_on kind name text = refuse (not (is_type kind text)) BadValue (with_found name BadValue (new_made kind (is_null_type text) m))

  pub create_as : (kind : PrefKind) (name taken text : Option (List ℕ)) (there shaped : Bool) → there ≡ is_there kind m.preferences name
      → taken ≡ taken_name there name → shaped ≡ are_new_args kind args → text ≡ argument_text 1 args
      → create kind m name args ≡ check None taken shaped (create_on kind name text)
  create_as kind name taken text there shaped there_is taken_is shaped_is text_is =
      let by_name : taken_name (is_there kind m.preferences name) name ≡ taken = ap (λ (b : Bool). taken_name b name) (sym there_is) ∙ sym taken_is in
      let by_args : are_new_args kind args ≡ shaped = sym shaped_is in
      let by_text : argument_text 1 args ≡ text = sym text_is in
      λ i. check None (by_name i) (by_args i) (create_on kind name (by_text i))

  abbrev pub attribute_on : Option (List ℕ) → Option (List Setting) → Option Setting → Effect
  attribute_on name found set = with_found set BadValue (λ (s : Setting). of_both name found (attribute_set s m))

  attribute_as : (name unknown : Option (List ℕ)) (found : Option (List Setting)) (set : Option Setting) (shaped : Bool)
      → found ≡ get_named m.preferences.lexers name → unknown ≡ missing_name (is_some found) name → shaped ≡ are_texts 3 args
      → set ≡ setting_of (argument_text 1 args) (argument_text 2 args) → set_attribute m name args ≡ check unknown None shaped (attribute_on name found set)
  attribute_as name unknown found set shaped read unknown_is shaped_is set_is =
      let by_found : get_named m.preferences.lexers name ≡ found = sym read in
      let by_name : missing_name (is_some (get_named m.preferences.lexers name)) name ≡ unknown = ap (λ (f : Option (List Setting)). missing_name (is_some f) name) by_found ∙ sym unknown_is in
      let by_args : are_texts 3 args ≡ shaped = sym shaped_is in
      let by_set : setting_of (argument_text 1 args) (argument_text 2 args) ≡ set = sym set_is in
      λ i. check (by_name i) None (by_args i) (attribute_on name (by_found i) (by_set i))

  -- where the first checks found no fault
  pub attribute_passed : (name unknown attribute value : Option (List ℕ)) (read : Option (Vec Setting Global)) (set : Option Setting) (there shaped : Bool) (fault : Option Fault)
      → option_map settings_in read ≡ get_named m.preferences.lexers name → there ≡ is_some read → unknown ≡ missing_name there name → shaped ≡ are_texts 3 args
      → attribute ≡ argument_text 1 args → value ≡ argument_text 2 args → set ≡ setting_of attribute value → fault ≡ None → ((done : Effect) → Checks fault (check unknown None shaped done) done)
      → set_attribute m name args ≡ attribute_on name (option_map settings_in read) set
  attribute_passed name unknown attribute value read set there shaped fault read_is there_is unknown_is shaped_is attribute_is value_is set_is none checks =
      let done = attribute_on name (option_map settings_in read) set in
      attribute_as name unknown (option_map settings_in read) set shaped read_is (unknown_by settings_in read name unknown there there_is unknown_is) shaped_is (set_is ∙ (λ i. setting_of (attribute_is i) (value_is i)))
      ∙ checked fault (check unknown None shaped done) done none (checks done)

  abbrev pub sub_index_on : Option (List ℕ) → Option (List (List (List ℕ))) → Option (List (List ℕ)) → Effect
  sub_index_on name found columns = with_found columns BadValue (λ (columns : List (List ℕ)). of_both name found (sub_index_added columns m))

  sub_index_as : (name unknown : Option (List ℕ)) (found : Option (List (List (List ℕ)))) (columns : Option (List (List ℕ))) (shaped : Bool)
      → found ≡ get_named m.preferences.sets name → unknown ≡ missing_name (is_some found) name → shaped ≡ are_texts 2 args
      → columns ≡ columns_told (argument_text 1 args) → add_sub_index m name args ≡ check unknown None shaped (sub_index_on name found columns)
  sub_index_as name unknown found columns shaped read unknown_is shaped_is columns_is =
      let by_found : get_named m.preferences.sets name ≡ found = sym read in
      let by_name : missing_name (is_some (get_named m.preferences.sets name)) name ≡ unknown = ap (λ (f : Option (List (List (List ℕ)))). missing_name (is_some f) name) by_found ∙ sym unknown_is in
      let by_args : are_texts 2 args ≡ shaped = sym shaped_is in
      let by_columns : columns_told (argument_text 1 args) ≡ columns = sym columns_is in
      λ i. check (by_name i) None (by_args i) (sub_index_on name (by_found i) (by_columns i))

  -- where the first checks found no fault
  pub sub_index_passed : (name unknown text : Option (List ℕ)) (read : Option (Vec (List (List ℕ)) Global)) (columns : Option (Vec (List ℕ) Global)) (there shaped : Bool) (fault : Option Fault)
      → option_map sets_in read ≡ get_named m.preferences.sets name → there ≡ is_some read → unknown ≡ missing_name there name → shaped ≡ are_texts 2 args
      → text ≡ argument_text 1 args → option_map columns_in columns ≡ columns_told text → fault ≡ None → ((done : Effect) → Checks fault (check unknown None shaped done) done)
      → add_sub_index m name args ≡ sub_index_on name (option_map sets_in read) (option_map columns_in columns)
  sub_index_passed name unknown text read columns there shaped fault read_is there_is unknown_is shaped_is text_is columns_is none checks =
      let done = sub_index_on name (option_map sets_in read) (option_map columns_in columns) in
      sub_index_as name unknown (option_map sets_in read) (option_map columns_in columns) shaped read_is (unknown_by sets_in read name unknown there there_is unknown_is) shaped_is (columns_is ∙ ap columns_told text_is)
      ∙ checked fault (check unknown None shaped done) done none (checks done)

  abbrev pub stopword_on : Option (List ℕ) → Option (List (List ℕ)) → Option (List ℕ) → Effect
  stopword_on name found word = with_found word BadValue (λ (word : List ℕ). refuse (not (has_stopword_length word)) BadValue (of_both name found (stopword_added word m)))

  pub stopword_as : (name unknown taken word : Option (List ℕ)) (found : Option (List (List ℕ))) (shaped : Bool)
      → found ≡ get_named m.preferences.stoplists name → unknown ≡ missing_name (is_some found) name → taken ≡ among found word
      → shaped ≡ are_texts 2 args
      → word ≡ argument_text 1 args → add_stopword m name args ≡ check unknown taken shaped (stopword_on name found word)
  stopword_as name unknown taken word found shaped read unknown_is taken_is shaped_is word_is =
      let by_found : get_named m.preferences.stoplists name ≡ found = sym read in
      let by_name : missing_name (is_some (get_named m.preferences.stoplists name)) name ≡ unknown = ap (λ (f : Option (List (List ℕ))). missing_name (is_some f) name) by_found ∙ sym unknown_is in
      let by_word : argument_text 1 args ≡ word = sym word_is in
      let by_list : among (get_named m.preferences.stoplists name) (argument_text 1 args) ≡ taken = (λ i. among (by_found i) (by_word i)) ∙ sym taken_is in
      let by_args : are_texts 2 args ≡ shaped = sym shaped_is in
      λ i. check (by_name i) (by_list i) (by_args i) (stopword_on name (by_found i) (by_word i))

  abbrev pub special_on : Option (List ℕ) → Option Group → Option Special → Effect
  special_on name found asked = with_found asked BadValue (λ (s : Special). of_both name found (special_added s m))

  pub special_as : (name unknown taken : Option (List ℕ)) (found : Option Group) (asked : Option Special) (shaped : Bool)
      → found ≡ get_named m.preferences.groups name → unknown ≡ missing_name (is_some found) name → taken ≡ taken_special asked found
      → shaped ≡ are_texts 2 args
      → asked ≡ special_of (argument_text 1 args) → add_special_section m name args ≡ check unknown taken shaped (special_on name found asked)
  special_as name unknown taken found asked shaped read unknown_is taken_is shaped_is asked_is =
      let by_found : get_named m.preferences.groups name ≡ found = sym read in
      let by_name : missing_name (is_some (get_named m.preferences.groups name)) name ≡ unknown = ap (λ (f : Option Group). missing_name (is_some f) name) by_found ∙ sym unknown_is in
      let by_word : special_of (argument_text 1 args) ≡ asked = sym asked_is in
      let by_group : taken_special (special_of (argument_text 1 args)) (get_named m.preferences.groups name) ≡ taken = (λ i. taken_special (by_word i) (by_found i)) ∙ sym taken_is in
      let by_args : are_texts 2 args ≡ shaped = sym shaped_is in
      λ i. check (by_name i) (by_group i) (by_args i) (special_on name (by_found i) (by_word i))

module _ (m : StoreState) (kind : SectionKind) (section tag : Option (List ℕ)) where
  abbrev pub section_on : Option (List ℕ) → Option Group → Effect
  section_on name found = of_both name found (λ name g. of_both section tag (section_added kind name g m))

  pub section_as : (name unknown taken : Option (List ℕ)) (found : Option Group) (shaped : Bool) → found ≡ get_named m.preferences.groups name
      → unknown ≡ missing_name (is_some found) name → taken ≡ taken_section kind section tag found
      → add_section kind shaped m name section tag ≡ check unknown taken shaped (section_on name found)
  section_as name unknown taken found shaped read unknown_is taken_is =
      let by_found : get_named m.preferences.groups name ≡ found = sym read in
      let by_name : missing_name (is_some (get_named m.preferences.groups name)) name ≡ unknown = ap (λ (f : Option Group). missing_name (is_some f) name) by_found ∙ sym unknown_is in
      let by_group : taken_section kind section tag (get_named m.preferences.groups name) ≡ taken = ap (taken_section kind section tag) by_found ∙ sym taken_is in
      λ i. check (by_name i) (by_group i) shaped (section_on name (by_found i))
