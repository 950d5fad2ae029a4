-- The plans of what is given to a preference, a stoplist, a section group or an index set.
use Rattle.std.proofs.Common.{◌≡◌, ℕ, ◌<◌, ◌≤◌, ◌^◌, Bool, true, false, List, [], ◌∷◌, ◌++◌, length, Option, Some, None, refl, sym, ap, subst, ◌∙◌, arith, inl, inr, length-append}
use Rattle.std.specs.Prelude.{◌&&◌, ◌||◌, not, nat_le, nat_lt, is_none, is_some, MatchOption, IfSome}
use Rattle.std.specs.List.{list_all}
use Rattle.std.specs.FinMap.{get}
use Rattle.std.specs.Str.{is_utf8}
use Rattle.std.proofs.lemmas.Bool.{and_parts, and_from, or_parts, leb-true, leb-false, lt-ltb, not-true}
use Rattle.std.proofs.lemmas.List.Folds.{list_all-append}
use Rattle.ct_base.specs.Names.{IsName, is_kept}
use Rattle.ct_keep.specs.Content.{Content, value_limit}
use Rattle.ct_entry.specs.Changes.{spell}
use Rattle.ct_entry.specs.Shapes.{AreShaped}
use Rattle.ct_entry.specs.laws.Shapes.{are_shaped_weaker}
use Rattle.tx_stop.specs.StopKeys.{stop_limit}
use Rattle.tx_tags.specs.declared.groups.SectionKind.{SectionKind}
use Rattle.tx_tags.specs.declared.groups.Section.{Section}
use Rattle.tx_tags.specs.Groups.{SectionGroup as Group, is_among, is_group, is_reserved, is_tag, kind_of, section_limit, tag_names, tags_limit}
use Rattle.tx_settings.specs.declared.attributes.Setting.{Setting}
use Rattle.tx_settings.specs.PrefsBytes.{are_words, is_named_group, is_short, is_text, settings_bytes, words_bytes, are_lexer_settings}
use Rattle.tx_sets.specs.Sets.{are_sub_indexes}
use Rattle.tx_prefs.specs.declared.kinds.PrefKind.{PrefKind}
use Rattle.tx_prefs.specs.Preferences.{with_setting}
use Rattle.tx_prefs.specs.Promises.{has_room, kind_count}
use Rattle.tx_settings.specs.PrefsPromises.{stopword_limit}
use Rattle.tx_prefs.specs.Rules.{are_stopwords, is_stopword}
use Rattle.tx_prefs.specs.Sees.{is_kind_full}
use Rattle.tx_prefs.specs.Shapes.{HasPrefValue}
use Rattle.tx_prefs.specs.Spelling.{lexer_changes, stoplist_changes, group_changes, set_changes}
use Rattle.tx_prefs.specs.laws.Keeps.{stopwords_kept, groups_kept}
use Rattle.tx_prefs.specs.laws.Lengths.{settings_short, words_short}
use Rattle.db_cond.specs.Faults.{BadValue, LimitReached}
use Rattle.db_state.specs.States.{StoreState, StandsForState}
use Rattle.db_state.specs.Shapes.{AreStoreChanges, HasStoreValue}
use Rattle.db_state.specs.Plans.{IsPlan}
use Rattle.db_state.specs.Lines.{call_done}
use Rattle.db_state.specs.declared.plans.Plan.TheVariants.{Done}
use Rattle.db_state.specs.laws.Chains.{passes}
use Rattle.db_state.specs.laws.Serving.{plan_of}
use Rattle.db_prefs.specs.Defining.{attribute_set, has_stopword_length, is_full_group, is_good_section, new_changes, new_made, section_added, special_added, stopword_added, sub_index_added, with_section, with_special}
use Rattle.db_prefs.specs.declared.special_sections.Special.{Special}
use Rattle.db_prefs.specs.declared.special_sections.Special.TheVariants.{Sentence, Paragraph}
use Rattle.db_prefs.proofs.NewPreferences.{lexer_again, stoplist_again, group_again, set_again, new_becomes}

-- changes of preferences are ones that a store takes
pub of_preferences : (changes : List (List ℕ × Option (List ℕ))) → AreShaped HasPrefValue changes → AreStoreChanges changes
of_preferences changes are = are_shaped_weaker HasPrefValue HasStoreValue (λ k value has. inr (inr (inl has))) changes are

-- a batch that was found
pub found_some : {X : Type 0} (found : Option X) (x : X) (P : X → Type 0) → found ≡ Some x → IfSome found P → P x
found_some None x P is holds = cc
found_some (Some y) x P is holds = subst P (let e : y ≡ x = cc in e) holds

-- of a value that isn't too long a batch was made
pub always_made : {X : Type 0} (found : Option X) (long : ℕ) (x : X) → long ≤ value_limit → MatchOption found (value_limit < long) (λ y. y ≡ x) → found ≡ Some x
always_made None long x short made = absurd (omega (arith, short, made))
always_made (Some y) long x short made = ap Some made

pub new_lexer : (name : List ℕ) (settings : List Setting) (found : Option (List (List ℕ × Option (List ℕ)))) → settings ≡ []
    → MatchOption found (value_limit < length (settings_bytes settings)) (λ batch. batch ≡ spell (lexer_changes name settings))
    → found ≡ Some (spell (lexer_changes name []))
new_lexer name settings found none made =
    let short = settings_short [] refl in
    always_made found (length (settings_bytes [])) (spell (lexer_changes name [])) (omega (arith, short))
    (subst (λ (ss : List Setting). MatchOption found (value_limit < length (settings_bytes ss)) (λ batch. batch ≡ spell (lexer_changes name ss))) none made)

pub new_stoplist : (name : List ℕ) (words : List (List ℕ)) (found : Option (List (List ℕ × Option (List ℕ)))) → words ≡ []
    → MatchOption found (value_limit < length (words_bytes words)) (λ batch. batch ≡ spell (stoplist_changes name words))
    → found ≡ Some (spell (stoplist_changes name []))
new_stoplist name words found none made =
    let short = words_short [] refl in
    always_made found (length (words_bytes [])) (spell (stoplist_changes name [])) (omega (arith, short))
    (subst (λ (ws : List (List ℕ)). MatchOption found (value_limit < length (words_bytes ws)) (λ batch. batch ≡ spell (stoplist_changes name ws))) none made)

-- the batch that was found is the one that was made
pub same_batch : {X : Type 0} (found : Option X) (batch made : X) → found ≡ Some batch → found ≡ Some made → batch ≡ made
same_batch found batch made is has = let e : Some batch ≡ Some made = sym is ∙ has in cc

module _ (c : Content) (m : StoreState) (name : List ℕ) (batch : List (List ℕ × Option (List ℕ))) (stands : StandsForState c m) where
  -- something new
  pub new_planned : (k : PrefKind) (is_null : Bool) → IsName name → is_kind_full k m.preferences ≡ false → batch ≡ spell (new_changes k name is_null)
      → IsPlan (new_made k is_null m name) call_done c (Done batch)
  new_planned k is_null is_name room is =
      plan_of (new_made k is_null m name) c _ (new_changes k name is_null) batch (passes (is_kind_full k m.preferences) LimitReached _ room) is (new_becomes c m name stands k is_null is_name room)

  -- an attribute
  pub attribute_planned : (s : Setting) (old : List Setting) → get m.preferences.lexers name ≡ Some old
      → are_lexer_settings (with_setting s old) ≡ true → batch ≡ spell (lexer_changes name (with_setting s old))
      → IsPlan (attribute_set s m name old) call_done c (Done batch)
  attribute_planned s old there keeps is = plan_of (attribute_set s m name old) c _ (lexer_changes name (with_setting s old)) batch refl is (lexer_again c m name stands old (with_setting s old) there keeps)

  -- a stopword
  pub stopword_planned : (word : List ℕ) (old : List (List ℕ)) → get m.preferences.stoplists name ≡ Some old
      → are_stopwords (old ++ word ∷ []) ≡ true → nat_le stop_limit (length old) ≡ false → batch ≡ spell (stoplist_changes name (old ++ word ∷ []))
      → IsPlan (stopword_added word m name old) call_done c (Done batch)
  stopword_planned word old there keeps room is =
      plan_of (stopword_added word m name old) c _ (stoplist_changes name (old ++ word ∷ [])) batch (passes (nat_le stop_limit (length old)) LimitReached _ room) is (stoplist_again c m name stands old (old ++ word ∷ []) there keeps)

  -- a section
  pub section_planned : (kind : SectionKind) (g : Group) (section tag : List ℕ) → get m.preferences.groups name ≡ Some g
      → is_named_group (with_section g section kind tag) ≡ true → is_good_section g section tag ≡ true → is_full_group g kind section ≡ false
      → batch ≡ spell (group_changes name (with_section g section kind tag)) → IsPlan (section_added kind name g m section tag) call_done c (Done batch)
  section_planned kind g section tag there keeps good room is =
      plan_of (section_added kind name g m section tag) c _ (group_changes name (with_section g section kind tag)) batch
      (passes (not (is_good_section g section tag)) BadValue _ (ap not good) ∙ passes (is_full_group g kind section) LimitReached _ room) is
      (group_again c m name stands g (with_section g section kind tag) there keeps)

  -- sentences or paragraphs
  pub special_planned : (s : Special) (g : Group) → get m.preferences.groups name ≡ Some g → batch ≡ spell (group_changes name (with_special g s))
      → IsPlan (special_added s m name g) call_done c (Done batch)
  special_planned s g there is =
      plan_of (special_added s m name g) c _ (group_changes name (with_special g s)) batch refl is (group_again c m name stands g (with_special g s) there (special_kept s (stands.state.preferences.groups.each name g there)))
    where
      special_kept : (s : Special) → is_named_group g ≡ true → is_named_group (with_special g s) ≡ true
      special_kept Sentence are = are
      special_kept Paragraph are = are

  -- a sub-index
  pub sub_index_planned : (columns : List (List ℕ)) (old : List (List (List ℕ))) → get m.preferences.sets name ≡ Some old
      → are_sub_indexes (old ++ columns ∷ []) ≡ true → list_all (list_all is_kept) (old ++ columns ∷ []) ≡ true → batch ≡ spell (set_changes name (old ++ columns ∷ []))
      → IsPlan (sub_index_added columns m name old) call_done c (Done batch)
  sub_index_planned columns old there are kept is =
      plan_of (sub_index_added columns m name old) c _ (set_changes name (old ++ columns ∷ [])) batch (passes (not (are_sub_indexes (old ++ columns ∷ []))) LimitReached _ (ap not are)) is
      (set_again c m name stands old (old ++ columns ∷ []) there (and_from (are_sub_indexes (old ++ columns ∷ [])) (list_all (list_all is_kept) (old ++ columns ∷ [])) are kept))

-- ---- settings

-- their values aren't too long
pub settings_fit : (ss : List Setting) → are_lexer_settings ss ≡ true → value_limit < length (settings_bytes ss) → ⊥
settings_fit ss are long = let short = settings_short ss are in omega (arith, short, long)

-- ---- stopwords

module _ (word : List ℕ) (length_is : has_stopword_length word ≡ true) (utf8 : is_utf8 word ≡ true) where
  -- a word of 1 to 64 bytes
  word_is : is_stopword word ≡ true
  word_is =
      let p = and_parts (nat_le 1 (length word)) (nat_le (length word) stopword_limit) length_is in
      and_from (nat_le 1 (length word)) (nat_le (length word) stopword_limit && is_utf8 word) p.0 (and_from (nat_le (length word) stopword_limit) (is_utf8 word) p.1 utf8)

  word_is_text : is_text word ≡ true
  word_is_text =
      let p = and_parts (nat_le 1 (length word)) (nat_le (length word) stopword_limit) length_is in
      let few = leb-true (length word) 64 p.1 in
      and_from (is_short word) (is_utf8 word) (lt-ltb (length word) (2 ^ 32) (omega (arith, few))) utf8

  -- with it there are words that an entry may have
  pub words_more : (old : List (List ℕ)) → are_words old ≡ true → length old < stop_limit → are_words (old ++ word ∷ []) ≡ true
  words_more old are few =
      let p = and_parts (nat_lt (length old) (2 ^ 32)) (list_all is_text old) are in
      let long = length-append old (word ∷ []) in
      and_from (nat_lt (length (old ++ word ∷ [])) (2 ^ 32)) (list_all is_text (old ++ word ∷ [])) (lt-ltb (length (old ++ word ∷ [])) (2 ^ 32) (omega (arith, long, few)))
      (list_all-append is_text old (word ∷ []) ∙ and_from (list_all is_text old) (is_text word && true) p.1 (and_from (is_text word) true word_is_text refl))

  -- and a stoplist
  stopwords_more : (old : List (List ℕ)) → are_stopwords old ≡ true → is_among word old ≡ false → length old < stop_limit → are_stopwords (old ++ word ∷ []) ≡ true
  stopwords_more old are fresh few = stopwords_kept word old are word_is fresh few

  -- of which a batch was made
  pub stopword_made : (name : List ℕ) (old given : List (List ℕ)) (found : Option (List (List ℕ × Option (List ℕ)))) → are_stopwords old ≡ true → is_among word old ≡ false → length old < stop_limit → given ≡ old ++ word ∷ []
      → MatchOption found (value_limit < length (words_bytes given)) (λ batch. batch ≡ spell (stoplist_changes name given))
      → (are_stopwords (old ++ word ∷ []) ≡ true) × (found ≡ Some (spell (stoplist_changes name (old ++ word ∷ []))))
  stopword_made name old given found are fresh few is made =
      let kept = stopwords_more old are fresh few in
      let short = words_short (old ++ word ∷ []) kept in (
        kept,
        always_made found (length (words_bytes (old ++ word ∷ []))) (spell (stoplist_changes name (old ++ word ∷ []))) (omega (arith, short))
            (subst (λ (ws : List (List ℕ)). MatchOption found (value_limit < length (words_bytes ws)) (λ batch. batch ≡ spell (stoplist_changes name ws))) is made),
      )

-- ---- sections

module _ (kind : SectionKind) (g : Group) (section tag : List ℕ) where
  -- where the group isn't full, there is room for the section
  room_there : is_full_group g kind section ≡ false → (length (tag_names g.sections) < tags_limit) × (has_room section kind g.sections ≡ true)
  room_there room =
      let p = or_parts (nat_le tags_limit (length (tag_names g.sections))) (is_none (kind_of section g.sections) && nat_le section_limit (kind_count kind g.sections)) room in
      (leb-false tags_limit (length (tag_names g.sections)) p.0, of_kind (kind_of section g.sections) (kind_count kind g.sections) p.1)
    where
      of_kind : (o : Option SectionKind) (count : ℕ) → (is_none o && nat_le section_limit count) ≡ false → (is_some o || nat_lt count section_limit) ≡ true
      of_kind None count h = lt-ltb count section_limit (leb-false section_limit count h)
      of_kind (Some k) count h = refl

  pub section_kept : is_named_group g ≡ true → is_among tag (tag_names g.sections) ≡ false → IsName section → is_good_section g section tag ≡ true
      → is_full_group g kind section ≡ false → is_named_group (with_section g section kind tag) ≡ true
  section_kept are fresh named good room =
      let p = and_parts (not g.is_null) (not (is_reserved section) && is_tag tag) good in
      let q = and_parts (not (is_reserved section)) (is_tag tag) p.1 in
      let r = room_there room in
      groups_kept g section kind tag are (not-true g.is_null p.0) named (not-true (is_reserved section) q.0) q.1 fresh r.0 r.1

  -- so it is a group
  pub section_refused : is_named_group g ≡ true → is_among tag (tag_names g.sections) ≡ false → IsName section → is_good_section g section tag ≡ true
      → is_full_group g kind section ≡ false → is_group (with_section g section kind tag) ≡ false → ⊥
  section_refused are fresh named good room wrong =
      let kept = and_parts (is_group (with_section g section kind tag)) (list_all (λ (s : Section). is_kept s.name) (with_section g section kind tag).sections) (section_kept are fresh named good room) in
      let clash : false ≡ true = sym wrong ∙ kept.0 in absurd cc
