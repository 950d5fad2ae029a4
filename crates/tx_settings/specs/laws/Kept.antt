-- What is kept as settings, words and groups: it may be written, and is read.
use Rattle.std.specs.Prelude.{ℕ, ◌≡◌, ◌==◌, ◌+◌, ◌*◌, ◌<◌, ◌≤◌, ◌^◌, Bool, true, false, not, ◌&&◌, ◌||◌, nat_le, nat_lt, List, [], ◌∷◌, ◌++◌, length, filter, map, bytes_eq, Option, Some, None, codes, refl}
use Rattle.std.specs.Bool.{if◌then◌else◌}
use Rattle.std.specs.List.{list_all}
use Rattle.std.specs.Char.{is_ascii_lowercase, is_ascii_digit}
use Rattle.std.specs.Str.{IsAscii, all_scalars, chars, encode_utf8_all, is_utf8}
use lib.Utf8.{encode}
use Rattle.std.proofs.Common.{arith, sym, ◌∙◌, length-append, inl, inr}
use Rattle.std.proofs.Math.Utf8.{scalar, scalar_cases}
use Rattle.std.proofs.lemmas.Bool.{and_parts, and_from, or_cases, leb-true, ltb-true, le-leb, lt-ltb, eqb-true}
use Rattle.std.proofs.lemmas.List.Folds.{list_all-append}
use Rattle.std.proofs.lemmas.Str.Ascii.{IsAscii-cons}
use Rattle.std.proofs.lemmas.Str.{length-encode, len_utf8_bounds, is_utf8-from_IsUtf8, IsUtf8-from_ascii}
use Rattle.ct_base.specs.Limits.{token_limit}
use Rattle.ct_base.specs.Names.{is_kept}
use Rattle.tx_lexer.specs.CharSets.{above, rises}
use Rattle.tx_lexer.specs.declared.options.LexerOptions.{LexerOptions}
use Rattle.tx_lexer.specs.Tokens.{default_options}
use Rattle.tx_stop.specs.StopKeys.{are_stop_keys, is_stop_key, keys_rise, stop_limit}
use Rattle.tx_tags.specs.declared.groups.Section.{Section}
use Rattle.tx_tags.specs.Groups.{SectionGroup, are_distinct, are_sections, field_count, is_empty, is_field, is_group, is_reserved, is_tag, is_tag_byte, is_zone, section_limit, tag_limit, tag_names, tags_limit, zone_count}
use Rattle.tx_settings.specs.declared.attributes.Attribute.{Attribute}
use Rattle.tx_settings.specs.declared.attributes.Attribute.TheVariants.{BaseLetter, Endjoins, IndexText, IndexThemes, MixedCase, Numgroup, Numjoin, Printjoins, Punctuations, Skipjoins, Startjoins}
use Rattle.tx_settings.specs.declared.attributes.Setting.{Setting}
use Rattle.tx_settings.specs.Attributes.{char_setting, char_text, flag_setting, set_setting, settings_of}
use Rattle.tx_settings.specs.PrefsBytes.{are_listed, are_options, are_settings, are_short, are_words, attribute_place, has_short_tags, is_named_group, is_section, is_set, is_short, is_text, rise_from}
use Rattle.tx_settings.specs.PrefsPromises.{KeptSettingsMayBeWritten, KeptWordsMayBeWritten, OptionsHaveSettings}
use Rattle.tx_settings.specs.laws.MadeAgain.{parts_of}

-- ---- lists

-- what a weaker test says of each
pub weaker : {X : Type 0} (f g : X → Bool) (xs : List X) → ((x : X) → f x ≡ true → g x ≡ true) → list_all f xs ≡ true → list_all g xs ≡ true
weaker f g [] h all = refl
weaker f g (x ∷ xs) h all =
    let p = and_parts (f x) (list_all f xs) all in
    and_from (g x) (list_all g xs) (h x p.0) (weaker f g xs h p.1)

-- ---- sets

pub chars_length : (cs : List ℕ) → length (encode_utf8_all cs) ≤ 4 * length cs
chars_length [] = omega arith
chars_length (c ∷ cs) =
    let rest = chars_length cs in
    let first = length-encode c in
    let most = (len_utf8_bounds c).1 in
    let whole = length-append (encode c) (encode_utf8_all cs) in
    omega (arith, rest, first, most, whole)

char_below : (c : ℕ) → scalar c ≡ true → c < 0x110000
char_below c h = elim (scalar_cases c h) [
  | inl low ↦ omega (arith, low)
  | inr high ↦ high.1
]

-- characters that rise are fewer than there are characters
few_above : (low : ℕ) (cs : List ℕ) → low < 0x110000 → above low cs ≡ true → all_scalars cs ≡ true → low + length cs < 0x110000
few_above low [] small h all = omega (arith, small)
few_above low (c ∷ cs) small h all =
    let p = and_parts (nat_lt low c) (above c cs) h in
    let q = and_parts (scalar c) (all_scalars cs) all in
    let rest = few_above c cs (char_below c q.0) p.1 q.1 in
    let less = ltb-true low c p.0 in
    omega (arith, rest, less)

pub few : (cs : List ℕ) → rises cs ≡ true → all_scalars cs ≡ true → length cs ≤ 0x110000
few [] h all = omega arith
few (c ∷ cs) h all =
    let q = and_parts (scalar c) (all_scalars cs) all in
    let rest = few_above c cs (char_below c q.0) h q.1 in
    omega (arith, rest)

pub set_is_text : (set : List ℕ) → is_set set ≡ true → is_text (encode_utf8_all set) ≡ true
set_is_text set h =
    let p = and_parts (rises set) (all_scalars set) h in
    let many = few set p.0 p.1 in
    let long = chars_length set in
    let short : length (encode_utf8_all set) < 2 ^ 32 = omega (arith, many, long) in
    and_from (is_short (encode_utf8_all set)) (is_utf8 (encode_utf8_all set)) (lt-ltb (length (encode_utf8_all set)) (2 ^ 32) short) (is_utf8-from_IsUtf8 (encode_utf8_all set) (set, (p.1, refl)))

pub char_is_text : (c : Option ℕ) → all_scalars (char_text c) ≡ true → is_text (encode_utf8_all (char_text c)) ≡ true
char_is_text None h = set_is_text [] refl
char_is_text (Some c) h = set_is_text (c ∷ []) h

-- ---- the settings of options

-- what holds of the values that options have
pub record EachValue (test : List ℕ → Bool) (o : LexerOptions) : Type 0 where
  pub yes : test (codes "YES") ≡ true
  pub printjoins : test (encode_utf8_all o.printjoins) ≡ true
  pub skipjoins : test (encode_utf8_all o.skipjoins) ≡ true
  pub startjoins : test (encode_utf8_all o.startjoins) ≡ true
  pub endjoins : test (encode_utf8_all o.endjoins) ≡ true
  pub punctuations : test (encode_utf8_all o.punctuations) ≡ true
  pub numjoin : test (encode_utf8_all (char_text o.numjoin)) ≡ true
  pub numgroup : test (encode_utf8_all (char_text o.numgroup)) ≡ true

module _ (test : List ℕ → Bool) where
  abbrev AllValues : List Setting → Type 0
  AllValues ss = list_all (λ (s : Setting). test s.value) ss ≡ true

  set_value : (a : Attribute) (default set : List ℕ) → test (encode_utf8_all set) ≡ true → AllValues (set_setting a default set)
  set_value a default set h = go (bytes_eq set default) refl
    where
      go : (t : Bool) → bytes_eq set default ≡ t → AllValues (set_setting a default set)
      go true e = rw e refl
      go false e = rw (e, h) refl

  flag_value : (a : Attribute) (flag : Bool) → test (codes "YES") ≡ true → AllValues (flag_setting a flag)
  flag_value a true h = and_from (test (codes "YES")) true h refl
  flag_value a false h = refl

  both : (ss ts : List Setting) → AllValues ss → AllValues ts → AllValues (ss ++ ts)
  both ss ts f g = list_all-append (λ (s : Setting). test s.value) ss ts ∙ and_from _ _ f g

  pub each_value : (o : LexerOptions) → EachValue test o → AllValues (settings_of o)
  each_value o e =
      let d = default_options in
      both (flag_setting BaseLetter o.base_letter) _ (flag_value BaseLetter o.base_letter e.yes)
      (both (set_setting Endjoins d.endjoins o.endjoins) _ (set_value Endjoins d.endjoins o.endjoins e.endjoins)
      (both (flag_setting MixedCase o.mixed_case) _ (flag_value MixedCase o.mixed_case e.yes)
      (both (char_setting Numgroup d.numgroup o.numgroup) _ (set_value Numgroup (char_text d.numgroup) (char_text o.numgroup) e.numgroup)
      (both (char_setting Numjoin d.numjoin o.numjoin) _ (set_value Numjoin (char_text d.numjoin) (char_text o.numjoin) e.numjoin)
      (both (set_setting Printjoins d.printjoins o.printjoins) _ (set_value Printjoins d.printjoins o.printjoins e.printjoins)
      (both (set_setting Punctuations d.punctuations o.punctuations) _ (set_value Punctuations d.punctuations o.punctuations e.punctuations)
      (both (set_setting Skipjoins d.skipjoins o.skipjoins) _ (set_value Skipjoins d.skipjoins o.skipjoins e.skipjoins)
      (set_value Startjoins d.startjoins o.startjoins e.startjoins))))))))

yes_is_text : is_text (codes "YES") ≡ true
unfolding is_utf8 chars encode
yes_is_text = refl

pub values_are_texts : (o : LexerOptions) → are_options o ≡ true → list_all (λ (s : Setting). is_text s.value) (settings_of o) ≡ true
values_are_texts o h =
    let p = parts_of o h in
    each_value is_text o (record {
      yes = yes_is_text;
      printjoins = set_is_text o.printjoins p.printjoins;
      skipjoins = set_is_text o.skipjoins p.skipjoins;
      startjoins = set_is_text o.startjoins p.startjoins;
      endjoins = set_is_text o.endjoins p.endjoins;
      punctuations = set_is_text o.punctuations p.punctuations;
      numjoin = char_is_text o.numjoin p.numjoin;
      numgroup = char_is_text o.numgroup p.numgroup;
    })

-- ---- in the order of attributes

lower : (p q : ℕ) (ss : List Setting) → p ≤ q → rise_from q ss ≡ true → rise_from p ss ≡ true
lower p q [] less h = refl
lower p q (s ∷ ss) less h =
    let r = and_parts (nat_le q (attribute_place s.attribute)) (rise_from (attribute_place s.attribute + 1) ss) h in
    let least = leb-true q (attribute_place s.attribute) r.0 in
    and_from (nat_le p (attribute_place s.attribute)) (rise_from (attribute_place s.attribute + 1) ss) (le-leb p (attribute_place s.attribute) (omega (arith, less, least))) r.1

set_rises : (a : Attribute) (default set : List ℕ) (ss : List Setting) (p : ℕ) → p ≤ attribute_place a → rise_from (attribute_place a + 1) ss ≡ true → rise_from p (set_setting a default set ++ ss) ≡ true
set_rises a default set ss p less h = go (bytes_eq set default) refl
  where
    go : (t : Bool) → bytes_eq set default ≡ t → rise_from p (set_setting a default set ++ ss) ≡ true
    go true e = rw e (lower p (attribute_place a + 1) ss (omega (arith, less)) h)
    go false e = rw e (and_from (nat_le p (attribute_place a)) (rise_from (attribute_place a + 1) ss) (le-leb p (attribute_place a) less) h)

flag_rises : (a : Attribute) (flag : Bool) (ss : List Setting) (p : ℕ) → p ≤ attribute_place a → rise_from (attribute_place a + 1) ss ≡ true → rise_from p (flag_setting a flag ++ ss) ≡ true
flag_rises a true ss p less h = and_from (nat_le p (attribute_place a)) (rise_from (attribute_place a + 1) ss) (le-leb p (attribute_place a) less) h
flag_rises a false ss p less h = lower p (attribute_place a + 1) ss (omega (arith, less)) h

last_rises : (default set : List ℕ) (p : ℕ) → p ≤ 10 → rise_from p (set_setting Startjoins default set) ≡ true
last_rises default set p less = go (bytes_eq set default) refl
  where
    go : (t : Bool) → bytes_eq set default ≡ t → rise_from p (set_setting Startjoins default set) ≡ true
    go true e = rw e refl
    go false e = rw e (and_from (nat_le p 10) true (le-leb p 10 less) refl)

settings_rise : (o : LexerOptions) → rise_from 0 (settings_of o) ≡ true
settings_rise o =
    let d = default_options in
    flag_rises BaseLetter o.base_letter _ 0 (omega arith)
    (set_rises Endjoins d.endjoins o.endjoins _ 1 (omega arith)
    (flag_rises MixedCase o.mixed_case _ 2 (omega arith)
    (set_rises Numgroup (char_text d.numgroup) (char_text o.numgroup) _ 5 (omega arith)
    (set_rises Numjoin (char_text d.numjoin) (char_text o.numjoin) _ 6 (omega arith)
    (set_rises Printjoins d.printjoins o.printjoins _ 7 (omega arith)
    (set_rises Punctuations d.punctuations o.punctuations _ 8 (omega arith)
    (set_rises Skipjoins d.skipjoins o.skipjoins _ 9 (omega arith)
    (last_rises d.startjoins o.startjoins 10 (omega arith)))))))))

pub settings_are_kept : OptionsHaveSettings
settings_are_kept o h = and_from (rise_from 0 (settings_of o)) (list_all (λ (s : Setting). is_text s.value) (settings_of o)) (settings_rise o) (values_are_texts o h)

place_most : (a : Attribute) → attribute_place a ≤ 10
place_most BaseLetter = omega arith
place_most Endjoins = omega arith
place_most IndexText = omega arith
place_most IndexThemes = omega arith
place_most MixedCase = omega arith
place_most Numgroup = omega arith
place_most Numjoin = omega arith
place_most Printjoins = omega arith
place_most Punctuations = omega arith
place_most Skipjoins = omega arith
place_most Startjoins = omega arith

few_from : (p : ℕ) (ss : List Setting) → p ≤ 11 → rise_from p ss ≡ true → p + length ss ≤ 11
few_from p [] less h = omega (arith, less)
few_from p (s ∷ ss) less h =
    let r = and_parts (nat_le p (attribute_place s.attribute)) (rise_from (attribute_place s.attribute + 1) ss) h in
    let least = leb-true p (attribute_place s.attribute) r.0 in
    let most = place_most s.attribute in
    let rest = few_from (attribute_place s.attribute + 1) ss (omega (arith, most)) r.1 in
    omega (arith, least, rest)

-- settings as they are kept may be written
pub record MayBeWritten (ss : List Setting) : Type 0 where
  pub few : length ss ≤ 11
  pub short : are_short ss ≡ true

pub may_be_written : (ss : List Setting) → are_settings ss ≡ true → MayBeWritten ss
may_be_written ss h =
    let p = and_parts (rise_from 0 ss) (list_all (λ (s : Setting). is_text s.value) ss) h in
    record {
      few = let most = few_from 0 ss (omega arith) p.0 in omega (arith, most);
      short = weaker (λ (s : Setting). is_text s.value) (λ (s : Setting). is_short s.value) ss (λ s h. (and_parts (is_short s.value) (is_utf8 s.value) h).0) p.1;
    }

-- ---- stop keys

pub keys_are_short : (keys : List (List ℕ)) → are_stop_keys keys ≡ true → list_all is_short keys ≡ true
keys_are_short keys h =
    let p = and_parts (nat_le (length keys) stop_limit) _ h in
    let q = and_parts (keys_rise keys) (list_all is_stop_key keys) p.1 in
    weaker is_stop_key is_short keys (λ key h. short key h) q.1
  where
    short : (key : List ℕ) → is_stop_key key ≡ true → is_short key ≡ true
    short key h =
        let p = and_parts (nat_le 1 (length key)) _ h in
        let q = and_parts (nat_le (length key) token_limit) (is_utf8 key) p.1 in
        let most = leb-true (length key) token_limit q.0 in
        lt-ltb (length key) (2 ^ 32) (omega (arith, most))

-- ---- groups

one_more : (b : Bool) (s : Section) (xs ys : List Section) → length (if b then s ∷ xs else xs) + length (if not b then s ∷ ys else ys) ≡ length xs + length ys + 1
one_more true s xs ys = omega arith
one_more false s xs ys = omega arith

all_counted : (ss : List Section) → zone_count ss + field_count ss ≡ length ss
all_counted [] = refl
all_counted (s ∷ ss) =
    let rest = all_counted ss in
    let first = one_more (is_zone s.kind) s (filter (λ (s : Section). is_zone s.kind) ss) (filter (λ (s : Section). is_field s.kind) ss) in
    omega (arith, rest, first)

-- at most so many tags
pub has_tags : ℕ → Section → Bool
has_tags most s = nat_le (length s.tags) most && list_all is_tag s.tags

tags_of : (most : ℕ) (ss : List Section) → length (tag_names ss) ≤ most → list_all is_tag (tag_names ss) ≡ true → list_all (has_tags most) ss ≡ true
unfolding has_tags
tags_of most [] few all = refl
tags_of most (s ∷ ss) few all =
    let whole = length-append s.tags (tag_names ss) in
    let p = and_parts (list_all is_tag s.tags) (list_all is_tag (tag_names ss)) (sym (list_all-append is_tag s.tags (tag_names ss)) ∙ all) in
    and_from (has_tags most s) (list_all (has_tags most) ss)
    (and_from (nat_le (length s.tags) most) (list_all is_tag s.tags) (le-leb (length s.tags) most (omega (arith, few, whole))) p.0)
    (tags_of most ss (omega (arith, few, whole)) p.1)

-- what the rules of groups say of the sections
pub record HaveFewTags (ss : List Section) : Type 0 where
  pub few : length ss ≤ 128
  pub tags : length (tag_names ss) ≤ tags_limit
  pub spelt : list_all is_tag (tag_names ss) ≡ true
  pub each : list_all (has_tags tags_limit) ss ≡ true

pub have_few_tags : (ss : List Section) → are_sections ss ≡ true → HaveFewTags ss
have_few_tags ss h =
    let a = and_parts (nat_le (zone_count ss) section_limit) _ h in
    let b = and_parts (nat_le (field_count ss) section_limit) _ a.1 in
    let c = and_parts (nat_le (length (tag_names ss)) tags_limit) _ b.1 in
    let d = and_parts (are_distinct (map (λ (s : Section). s.name) ss)) _ c.1 in
    let e = and_parts (are_distinct (tag_names ss)) _ d.1 in
    let f = and_parts (list_all (λ (s : Section). not (is_reserved s.name)) ss) (list_all is_tag (tag_names ss)) e.1 in
    let zones = leb-true (zone_count ss) section_limit a.0 in
    let fields = leb-true (field_count ss) section_limit b.0 in
    let all = all_counted ss in
    let tags = leb-true (length (tag_names ss)) tags_limit c.0 in
    record { few = omega (arith, zones, fields, all); tags = tags; spelt = f.1; each = tags_of tags_limit ss tags f.1 }

pub group_sections : (g : SectionGroup) → is_group g ≡ true → are_sections g.sections ≡ true
group_sections g h = (and_parts (not g.is_null || is_empty g.sections) (are_sections g.sections) h).1

pub tag_length : (tag : List ℕ) → is_tag tag ≡ true → length tag ≤ tag_limit
tag_length tag h =
    let p = and_parts (nat_le 1 (length tag)) _ h in
    let q = and_parts (nat_le (length tag) tag_limit) (list_all is_tag_byte tag) p.1 in
    leb-true (length tag) tag_limit q.0

tag_short : (tag : List ℕ) → is_tag tag ≡ true → is_short tag ≡ true
tag_short tag h = let most = tag_length tag h in lt-ltb (length tag) (2 ^ 32) (omega (arith, most))

pub short_tags : (ss : List Section) → HaveFewTags ss → list_all has_short_tags ss ≡ true
unfolding has_tags
short_tags ss have = weaker (has_tags tags_limit) has_short_tags ss one have.each
  where
    one : (s : Section) → has_tags tags_limit s ≡ true → has_short_tags s ≡ true
    one s h =
        let p = and_parts (nat_le (length s.tags) tags_limit) (list_all is_tag s.tags) h in
        let most = leb-true (length s.tags) tags_limit p.0 in
        and_from (nat_lt (length s.tags) (2 ^ 32)) (list_all is_short s.tags) (lt-ltb (length s.tags) (2 ^ 32) (omega (arith, most))) (weaker is_tag is_short s.tags tag_short p.1)

-- ---- tags and stop keys are texts

tag_byte_small : (b : ℕ) → is_tag_byte b ≡ true → b < 128
tag_byte_small b h = elim (or_cases (is_ascii_lowercase b) _ h) [
  | inl letter ↦ let most = leb-true b 122 (and_parts (nat_le 97 b) (nat_le b 122) letter).1 in omega (arith, most)
  | inr other ↦ elim (or_cases (is_ascii_digit b) _ other) [
    | inl digit ↦ let most = leb-true b 57 (and_parts (nat_le 48 b) (nat_le b 57) digit).1 in omega (arith, most)
    | inr sign ↦ elim (or_cases (b == 95) (b == 45) sign) [
      | inl low ↦ let is = eqb-true b 95 low in omega (arith, is)
      | inr dash ↦ let is = eqb-true b 45 dash in omega (arith, is)
    ]
  ]
]

tag_ascii : (bs : List ℕ) → list_all is_tag_byte bs ≡ true → IsAscii bs
tag_ascii [] h = λ i. omega arith
tag_ascii (b ∷ bs) h =
    let p = and_parts (is_tag_byte b) (list_all is_tag_byte bs) h in
    IsAscii-cons b bs (tag_byte_small b p.0) (tag_ascii bs p.1)

pub tag_is_text : (tag : List ℕ) → is_tag tag ≡ true → is_text tag ≡ true
tag_is_text tag h =
    let p = and_parts (nat_le 1 (length tag)) _ h in
    let q = and_parts (nat_le (length tag) tag_limit) (list_all is_tag_byte tag) p.1 in
    and_from (is_short tag) (is_utf8 tag) (tag_short tag h) (is_utf8-from_IsUtf8 tag (IsUtf8-from_ascii tag (tag_ascii tag q.1)))

-- the sections of a group may be read
pub sections_are_read : (g : SectionGroup) → is_named_group g ≡ true → are_listed is_section g.sections ≡ true
unfolding has_tags
sections_are_read g h =
    let p = and_parts (is_group g) (list_all (λ (s : Section). is_kept s.name) g.sections) h in
    let have = have_few_tags g.sections (group_sections g p.0) in
    and_from (nat_lt (length g.sections) (2 ^ 32)) (list_all is_section g.sections) (lt-ltb (length g.sections) (2 ^ 32) (let few = have.few in omega (arith, few))) (each g.sections p.1 have.each)
  where
    one : (s : Section) → is_kept s.name ≡ true → has_tags tags_limit s ≡ true → is_section s ≡ true
    one s kept tags =
        let p = and_parts (nat_le (length s.tags) tags_limit) (list_all is_tag s.tags) tags in
        let most = leb-true (length s.tags) tags_limit p.0 in
        and_from (is_kept s.name) (are_words s.tags) kept
        (and_from (nat_lt (length s.tags) (2 ^ 32)) (list_all is_text s.tags) (lt-ltb (length s.tags) (2 ^ 32) (omega (arith, most))) (weaker is_tag is_text s.tags tag_is_text p.1))

    each : (ss : List Section) → list_all (λ (s : Section). is_kept s.name) ss ≡ true → list_all (has_tags tags_limit) ss ≡ true → list_all is_section ss ≡ true
    each [] kept tags = refl
    each (s ∷ ss) kept tags =
        let p = and_parts (is_kept s.name) (list_all (λ (s : Section). is_kept s.name) ss) kept in
        let q = and_parts (has_tags tags_limit s) (list_all (has_tags tags_limit) ss) tags in
        and_from (is_section s) (list_all is_section ss) (one s p.0 q.0) (each ss p.1 q.1)

pub keys_are_words : (keys : List (List ℕ)) → are_stop_keys keys ≡ true → are_words keys ≡ true
keys_are_words keys h =
    let p = and_parts (nat_le (length keys) stop_limit) _ h in
    let q = and_parts (keys_rise keys) (list_all is_stop_key keys) p.1 in
    let most = leb-true (length keys) stop_limit p.0 in
    and_from (nat_lt (length keys) (2 ^ 32)) (list_all is_text keys) (lt-ltb (length keys) (2 ^ 32) (omega (arith, most))) (weaker is_stop_key is_text keys text q.1)
  where
    text : (key : List ℕ) → is_stop_key key ≡ true → is_text key ≡ true
    text key h =
        let p = and_parts (nat_le 1 (length key)) _ h in
        let q = and_parts (nat_le (length key) token_limit) (is_utf8 key) p.1 in
        let most = leb-true (length key) token_limit q.0 in
        and_from (is_short key) (is_utf8 key) (lt-ltb (length key) (2 ^ 32) (omega (arith, most))) q.1

-- ---- what is kept may be written

pub kept_settings_may_be_written : KeptSettingsMayBeWritten
kept_settings_may_be_written ss h = let may = may_be_written ss h in (let few = may.few in omega (arith, few), may.short)

pub kept_words_may_be_written : KeptWordsMayBeWritten
kept_words_may_be_written ws h =
    let p = and_parts (nat_lt (length ws) (2 ^ 32)) (list_all is_text ws) h in
    (ltb-true (length ws) (2 ^ 32) p.0, weaker is_text is_short ws (λ text h. (and_parts (is_short text) (is_utf8 text) h).0) p.1)
