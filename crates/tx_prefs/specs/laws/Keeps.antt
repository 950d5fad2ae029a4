-- What the procedures make of settings, stopwords and section groups keeps their rules.
use Rattle.std.proofs.Common.{◌≡◌, ℕ, ◌+◌, ◌<◌, ◌≤◌, ◌^◌, Bool, true, false, cond, List, [], ◌∷◌, ◌++◌, length, map, refl, sym, ap, subst, ◌∙◌, arith, length-append}
use Rattle.std.specs.Prelude.{◌==◌, ◌&&◌, ◌||◌, not, nat_le, nat_lt, is_some}
use Rattle.std.specs.List.{list_all}
use Rattle.std.specs.Str.{is_utf8}
use Rattle.std.proofs.lemmas.Bool.{and_parts, and_from, ltb-true, ltb-false, leb-true, le-leb, lt-ltb, eqb-true, eqb-false}
use Rattle.std.proofs.lemmas.List.Folds.{list_all-append}
use Rattle.std.proofs.lemmas.Str.{IsUtf8-from_is_utf8}
use Rattle.ct_base.specs.Names.{is_kept}
use Rattle.ct_base.specs.laws.Names.{name_is_kept}
use Rattle.tx_stop.specs.StopKeys.{stop_limit}
use Rattle.tx_tags.specs.declared.groups.SectionKind.{SectionKind}
use Rattle.tx_tags.specs.declared.groups.Section.{Section}
use Rattle.tx_tags.specs.Groups.{are_distinct, are_sections, field_count, is_among, is_empty, is_field, is_group, is_reserved, is_tag, is_zone, kind_of, section_limit, tag_names, tags_limit, with_tag, zone_count}
use Rattle.tx_settings.specs.declared.attributes.Setting.{Setting}
use Rattle.tx_settings.specs.Attributes.{setting, takes_value}
use Rattle.tx_settings.specs.PrefsBytes.{are_settings, attribute_place, has_text, is_short, rise_from}
use Rattle.tx_settings.specs.laws.Lengths.{values_are_short}
use Rattle.tx_prefs.specs.Preferences.{with_setting}
use Rattle.tx_prefs.specs.Rules.{is_stopword}
use Rattle.tx_prefs.specs.Promises.{has_room, SettingsStayInOrder, SettingsStayTaken, StopwordsStay, GroupsStay, FlagsStay}
use Rattle.tx_prefs.specs.laws.TaggedSections.{distinct_put, tag_put, names_distinct, names_keep, kinds_within}

-- ---- settings

module _ (s : Setting) where
  rises_with : (place : ℕ) (ss : List Setting) → place ≤ attribute_place s.attribute → rise_from place ss ≡ true → rise_from place (with_setting s ss) ≡ true
  rises_with place [] low rises = and_from (nat_le place (attribute_place s.attribute)) true (le-leb place (attribute_place s.attribute) low) refl
  rises_with place (t ∷ ts) low rises =
      let r = and_parts (nat_le place (attribute_place t.attribute)) (rise_from (attribute_place t.attribute + 1) ts) rises in
      go (nat_lt (attribute_place t.attribute) (attribute_place s.attribute)) refl (attribute_place t.attribute == attribute_place s.attribute) refl r.0 r.1 (rises_with (attribute_place t.attribute + 1) ts)
    where
      go : (a : Bool) → nat_lt (attribute_place t.attribute) (attribute_place s.attribute) ≡ a → (b : Bool) → (attribute_place t.attribute == attribute_place s.attribute) ≡ b
          → nat_le place (attribute_place t.attribute) ≡ true → rise_from (attribute_place t.attribute + 1) ts ≡ true
          → (attribute_place t.attribute + 1 ≤ attribute_place s.attribute → rise_from (attribute_place t.attribute + 1) ts ≡ true → rise_from (attribute_place t.attribute + 1) (with_setting s ts) ≡ true)
          → rise_from place (cond a (t ∷ with_setting s ts) (cond b (s ∷ ts) (s ∷ t ∷ ts))) ≡ true
      go true less b same first rest onward = and_from (nat_le place (attribute_place t.attribute)) (rise_from (attribute_place t.attribute + 1) (with_setting s ts)) first
          (onward (let l = ltb-true (attribute_place t.attribute) (attribute_place s.attribute) less in omega (arith, l)) rest)
      go false less true same first rest onward =
          and_from (nat_le place (attribute_place s.attribute)) (rise_from (attribute_place s.attribute + 1) ts) (le-leb place (attribute_place s.attribute) low)
          (subst (λ (n : ℕ). rise_from (n + 1) ts ≡ true) (eqb-true (attribute_place t.attribute) (attribute_place s.attribute) same) rest)
      go false less false same first rest onward =
          let l = ltb-false (attribute_place t.attribute) (attribute_place s.attribute) less in
          let apart = eqb-false (attribute_place t.attribute) (attribute_place s.attribute) same in
          and_from (nat_le place (attribute_place s.attribute)) (rise_from (attribute_place s.attribute + 1) (t ∷ ts)) (le-leb place (attribute_place s.attribute) low)
          (and_from (nat_le (attribute_place s.attribute + 1) (attribute_place t.attribute)) (rise_from (attribute_place t.attribute + 1) ts)
          (le-leb (attribute_place s.attribute + 1) (attribute_place t.attribute) (omega (arith, l, apart))) rest)

  all_with : (p : Setting → Bool) (ss : List Setting) → p s ≡ true → list_all p ss ≡ true → list_all p (with_setting s ss) ≡ true
  all_with p [] own all = and_from (p s) true own refl
  all_with p (t ∷ ts) own all =
      let a = and_parts (p t) (list_all p ts) all in
      go (nat_lt (attribute_place t.attribute) (attribute_place s.attribute)) (attribute_place t.attribute == attribute_place s.attribute) a.0 a.1 (all_with p ts own a.1)
    where
      go : (a b : Bool) → p t ≡ true → list_all p ts ≡ true → list_all p (with_setting s ts) ≡ true → list_all p (cond a (t ∷ with_setting s ts) (cond b (s ∷ ts) (s ∷ t ∷ ts))) ≡ true
      go true b first others rest = and_from (p t) (list_all p (with_setting s ts)) first rest
      go false true first others rest = and_from (p s) (list_all p ts) own others
      go false false first others rest = and_from (p s) (list_all p (t ∷ ts)) own (and_from (p t) (list_all p ts) first others)

pub settings_kept : SettingsStayInOrder
settings_kept s ss text are =
    let p = and_parts (rise_from 0 ss) (list_all has_text ss) are in
    and_from (rise_from 0 (with_setting s ss)) (list_all has_text (with_setting s ss)) (rises_with s 0 ss (omega arith) p.0) (all_with s has_text ss text p.1)

pub taken_kept : SettingsStayTaken
taken_kept a value ss utf8 takes are =
    let p = and_parts (are_settings ss) (list_all (λ (s : Setting). takes_value s.attribute s.value) ss) are in
    let long = values_are_short a value (IsUtf8-from_is_utf8 value utf8) takes in
    let text : has_text (setting a value) ≡ true = and_from (is_short value) (is_utf8 value) (lt-ltb (length value) (2 ^ 32) (omega (arith, long))) utf8 in
    and_from (are_settings (with_setting (setting a value) ss)) (list_all (λ (s : Setting). takes_value s.attribute s.value) (with_setting (setting a value) ss))
    (settings_kept (setting a value) ss text p.0) (all_with (setting a value) (λ (s : Setting). takes_value s.attribute s.value) ss takes p.1)

-- ---- stopwords

no_more : (xs : List (List ℕ)) → xs ++ [] ≡ xs
no_more [] = refl
no_more (x ∷ xs) = ap (λ (l : List (List ℕ)). x ∷ l) (no_more xs)

pub stopwords_kept : StopwordsStay
stopwords_kept word ws are is none room =
    let p = and_parts (nat_le (length ws) stop_limit) (are_distinct ws && list_all is_stopword ws) are in
    let q = and_parts (are_distinct ws) (list_all is_stopword ws) p.1 in
    let more = ws ++ word ∷ [] in
    let long = length-append ws (word ∷ []) in
    and_from (nat_le (length more) stop_limit) (are_distinct more && list_all is_stopword more) (le-leb (length more) stop_limit (omega (arith, long, room)))
    (and_from (are_distinct more) (list_all is_stopword more)
    (distinct_put word ws [] (ap are_distinct (no_more ws) ∙ q.0) (ap (is_among word) (no_more ws) ∙ none))
    (list_all-append is_stopword ws (word ∷ []) ∙ and_from (list_all is_stopword ws) (is_stopword word && true) q.1 (and_from (is_stopword word) true is refl)))

-- ---- section groups

both_true : (a b : Bool) → a ≡ false → (not a || b) ≡ true
both_true true b h = cc
both_true false b h = refl

not_from : (a : Bool) → a ≡ false → not a ≡ true
not_from a h = ap not h

-- where there is no section of the name, there is room for one more
zone_room : (there zone : Bool) (zones fields : ℕ) → (there || nat_lt (cond zone zones fields) section_limit) ≡ true → there ≡ false → zone ≡ true → zones < section_limit
zone_room true zone zones fields h none is = cc
zone_room false true zones fields h none is = ltb-true zones section_limit h
zone_room false false zones fields h none is = cc

field_room : (there zone : Bool) (zones fields : ℕ) → (there || nat_lt (cond zone zones fields) section_limit) ≡ true → there ≡ false → not zone ≡ true → fields < section_limit
field_room true zone zones fields h none is = cc
field_room false true zones fields h none is = cc
field_room false false zones fields h none is = ltb-true fields section_limit h

-- the parts of the rules of sections
record Parts (ss : List Section) : Type 0 where
  zones : nat_le (zone_count ss) section_limit ≡ true
  fields : nat_le (field_count ss) section_limit ≡ true
  few : nat_le (length (tag_names ss)) tags_limit ≡ true
  names : are_distinct (map (λ (s : Section). s.name) ss) ≡ true
  tags : are_distinct (tag_names ss) ≡ true
  free : list_all (λ (s : Section). not (is_reserved s.name)) ss ≡ true
  spelt : list_all is_tag (tag_names ss) ≡ true

module _ (ss : List Section) where
  parts_of : are_sections ss ≡ true → Parts ss
  parts_of h =
      let a = and_parts (nat_le (zone_count ss) section_limit) _ h in
      let b = and_parts (nat_le (field_count ss) section_limit) _ a.1 in
      let c = and_parts (nat_le (length (tag_names ss)) tags_limit) _ b.1 in
      let d = and_parts (are_distinct (map (λ (s : Section). s.name) ss)) _ c.1 in
      let e = and_parts (are_distinct (tag_names ss)) _ d.1 in
      let f = and_parts (list_all (λ (s : Section). not (is_reserved s.name)) ss) (list_all is_tag (tag_names ss)) e.1 in
      record { zones = a.0; fields = b.0; few = c.0; names = d.0; tags = e.0; free = f.0; spelt = f.1 }

  from_parts : Parts ss → are_sections ss ≡ true
  from_parts p =
      and_from (nat_le (zone_count ss) section_limit) _ p.zones
      (and_from (nat_le (field_count ss) section_limit) _ p.fields
      (and_from (nat_le (length (tag_names ss)) tags_limit) _ p.few
      (and_from (are_distinct (map (λ (s : Section). s.name) ss)) _ p.names
      (and_from (are_distinct (tag_names ss)) _ p.tags
      (and_from (list_all (λ (s : Section). not (is_reserved s.name)) ss) (list_all is_tag (tag_names ss)) p.free p.spelt)))))

sections_kept : (ss : List Section) (name : List ℕ) (kind : SectionKind) (tag : List ℕ) → are_sections ss ≡ true → is_reserved name ≡ false → is_tag tag ≡ true → is_among tag (tag_names ss) ≡ false → length (tag_names ss) < tags_limit → has_room name kind ss ≡ true
    → are_sections (with_tag name kind tag ss) ≡ true
sections_kept ss name kind tag are free spelt fresh few room =
    let p = parts_of ss are in
    let t = tag_put name kind tag ss in
    let old = ap length t.was ∙ length-append t.before t.after in
    let new = ap length t.is ∙ length-append t.before (tag ∷ t.after) in
    let there = is_some (kind_of name ss) in
    let both = and_parts (list_all is_tag t.before) (list_all is_tag t.after) (sym (list_all-append is_tag t.before t.after) ∙ ap (list_all is_tag) (sym t.was) ∙ p.spelt) in
    from_parts (with_tag name kind tag ss) (record {
      zones = le-leb _ section_limit (kinds_within name kind tag is_zone section_limit ss (leb-true (zone_count ss) section_limit p.zones) (zone_room there (is_zone kind) (zone_count ss) (field_count ss) room));
      fields = le-leb _ section_limit (kinds_within name kind tag is_field section_limit ss (leb-true (field_count ss) section_limit p.fields) (field_room there (is_zone kind) (zone_count ss) (field_count ss) room));
      few = le-leb (length (tag_names (with_tag name kind tag ss))) tags_limit (omega (arith, old, new, few));
      names = names_distinct name kind tag ss p.names;
      tags = ap are_distinct t.is ∙ distinct_put tag t.before t.after (ap are_distinct (sym t.was) ∙ p.tags) (ap (is_among tag) (sym t.was) ∙ fresh);
      free = names_keep name kind tag (λ n. not (is_reserved n)) ss (not_from (is_reserved name) free) p.free;
      spelt = ap (list_all is_tag) t.is ∙ list_all-append is_tag t.before (tag ∷ t.after) ∙ and_from (list_all is_tag t.before) (is_tag tag && list_all is_tag t.after) both.0 (and_from (is_tag tag) (list_all is_tag t.after) spelt both.1);
    })

pub groups_kept : GroupsStay
groups_kept g name kind tag are not_null named free spelt fresh few room =
    let p = and_parts (is_group g) (list_all (λ (s : Section). is_kept s.name) g.sections) are in
    let q = and_parts (not g.is_null || is_empty g.sections) (are_sections g.sections) p.0 in
    let new = with_tag name kind tag g.sections in
    and_from (is_group (record g { sections = new })) (list_all (λ (s : Section). is_kept s.name) new)
    (and_from (not g.is_null || is_empty new) (are_sections new) (both_true g.is_null (is_empty new) not_null) (sections_kept g.sections name kind tag q.1 free spelt fresh few room))
    (names_keep name kind tag is_kept g.sections (name_is_kept name named) p.1)

-- the flags of a group that isn't null are no rule
pub flags_kept : FlagsStay
flags_kept g sentence paragraph are = are
