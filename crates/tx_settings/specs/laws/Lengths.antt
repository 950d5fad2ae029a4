-- How many bytes preferences have at most.
use Rattle.std.specs.Prelude.{ℕ, ◌≡◌, ◌+◌, ◌*◌, ◌≤◌, Bool, true, ◌||◌, nat_le, List, [], ◌∷◌, ◌++◌, length, map, Option, Some, None, codes, refl}
use Rattle.std.specs.List.{flat_map, list_all}
use Rattle.std.specs.Char.{to_ascii_lowercase}
use Rattle.std.specs.Str.{IsUtf8, chars, encode_utf8_all, is_utf8}
use Rattle.std.proofs.Common.{arith, sym, ap, ◌∙◌, length-append, inl, inr}
use Rattle.std.proofs.lemmas.Bool.{and_parts, and_from, or_cases, leb-true, le-leb}
use Rattle.std.proofs.lemmas.List.{length-map}
use Rattle.std.proofs.lemmas.List.Folds.{list_all-append}
use Rattle.std.proofs.lemmas.Str.{encodes-chars}
use Rattle.std.proofs.lemmas.Slice.Eq.{bytes_eq-Decides}
use Rattle.ct_base.specs.Limits.{name_limit, token_limit}
use Rattle.ct_base.specs.Names.{is_kept}
use Rattle.ct_base.specs.laws.Names.{kept_is_name, name_length}
use Rattle.ct_bytes.specs.Varints.{text_bytes, varint}
use Rattle.ct_bytes.specs.laws.Varints.{varint_length}
use Rattle.tx_lexer.specs.declared.options.LexerOptions.{LexerOptions}
use Rattle.tx_stop.specs.StopKeys.{are_stop_keys, is_stop_key, keys_rise, stop_limit}
use Rattle.tx_tags.specs.declared.groups.Section.{Section}
use Rattle.tx_tags.specs.Groups.{is_group, is_tag, tag_limit, tag_names}
use Rattle.tx_settings.specs.declared.attributes.Attribute.{Attribute}
use Rattle.tx_settings.specs.declared.attributes.Attribute.TheVariants.{BaseLetter, Endjoins, IndexText, IndexThemes, MixedCase, Numgroup, Numjoin, Printjoins, Punctuations, Skipjoins, Startjoins}
use Rattle.tx_settings.specs.declared.attributes.Setting.{Setting}
use Rattle.tx_settings.specs.Attributes.{are_signs, attribute_name, can_be_set, char_text, is_no, is_sign, is_sign_set, is_spelt, is_yes, set_limit, settings_of}
use Rattle.tx_settings.specs.PrefsBytes.{group_bytes, kind_byte, listed, section_bytes, setting_bytes, settings_bytes, words_bytes}
use Rattle.tx_settings.specs.PrefsPromises.{GroupsAreShort, PrefsAreShort, SettingsAreShort, ValuesAreShort, WordsAreShort, have_short_values, setting_value_limit, stopword_limit}
use Rattle.tx_settings.specs.laws.Settable.{signed_parts}
use Rattle.tx_settings.specs.laws.Kept.{chars_length, each_value, group_sections, have_few_tags, may_be_written, settings_are_kept, tag_length}

-- ---- lists

-- items of at most so many bytes each
pub each_length : {X : Type 0} (f : X → Bool) (item : X → List ℕ) (most : ℕ) (xs : List X) → ((x : X) → f x ≡ true → length (item x) ≤ most) → list_all f xs ≡ true → length (flat_map item xs) ≤ most * length xs
each_length f item most [] h all = omega arith
each_length f item most (x ∷ xs) h all =
    let p = and_parts (f x) (list_all f xs) all in
    let first = h x p.0 in
    let rest = each_length f item most xs h p.1 in
    let whole = length-append (item x) (flat_map item xs) in
    omega (arith, first, rest, whole)

pub listed_length : {X : Type 0} (f : X → Bool) (item : X → List ℕ) (most : ℕ) (xs : List X) → ((x : X) → f x ≡ true → length (item x) ≤ most) → list_all f xs ≡ true → length (listed item xs) ≤ 5 + most * length xs
listed_length f item most xs h all =
    let count = varint_length (length xs) in
    let each = each_length f item most xs h all in
    let whole = length-append (varint (length xs)) (flat_map item xs) in
    omega (arith, count, each, whole)

pub text_length : (text : List ℕ) (most : ℕ) → length text ≤ most → length (text_bytes text) ≤ 5 + most
text_length text most short =
    let count = varint_length (length text) in
    let whole = length-append (varint (length text)) text in
    omega (arith, count, whole)

-- ---- bounds

pub name_most : (a : Attribute) → length (attribute_name a) ≤ 12
name_most BaseLetter = omega arith
name_most Endjoins = omega arith
name_most IndexText = omega arith
name_most IndexThemes = omega arith
name_most MixedCase = omega arith
name_most Numgroup = omega arith
name_most Numjoin = omega arith
name_most Printjoins = omega arith
name_most Punctuations = omega arith
name_most Skipjoins = omega arith
name_most Startjoins = omega arith

setting_length : (s : Setting) → nat_le (length s.value) setting_value_limit ≡ true → length (setting_bytes s) ≤ 278
setting_length s h =
    let name = text_length (attribute_name s.attribute) 12 (name_most s.attribute) in
    let value = text_length s.value setting_value_limit (leb-true (length s.value) setting_value_limit h) in
    let whole = length-append (text_bytes (attribute_name s.attribute)) (text_bytes s.value) in
    omega (arith, name, value, whole)

pub settings_are_short : SettingsAreShort
settings_are_short ss h values =
    let few = (may_be_written ss h).few in
    let all = listed_length (λ (s : Setting). nat_le (length s.value) setting_value_limit) setting_bytes 278 ss setting_length values in
    omega (arith, few, all)

pub words_are_short : WordsAreShort
words_are_short ws few short =
    let all = listed_length (λ w. nat_le (length w) stopword_limit) text_bytes 69 ws (λ w h. text_length w stopword_limit (leb-true (length w) stopword_limit h)) short in
    omega (arith, few, all)

-- a section, by how many tags it has
section_length : (s : Section) → is_kept s.name ≡ true → list_all is_tag s.tags ≡ true → length (section_bytes s) ≤ 41 + 35 * length s.tags
section_length s kept tags =
    let name = text_length s.name name_limit (name_length s.name (kept_is_name s.name kept)).1 in
    let all = listed_length is_tag text_bytes 35 s.tags (λ tag h. text_length tag tag_limit (tag_length tag h)) tags in
    let whole = length-append (text_bytes s.name) (kind_byte s.kind ∷ listed text_bytes s.tags) in
    omega (arith, name, all, whole)

sections_length : (ss : List Section) → list_all (λ (s : Section). is_kept s.name) ss ≡ true → list_all is_tag (tag_names ss) ≡ true → length (flat_map section_bytes ss) ≤ 41 * length ss + 35 * length (tag_names ss)
sections_length [] kept tags = omega arith
sections_length (s ∷ ss) kept tags =
    let p = and_parts (is_kept s.name) (list_all (λ (s : Section). is_kept s.name) ss) kept in
    let q = and_parts (list_all is_tag s.tags) (list_all is_tag (tag_names ss)) (sym (list_all-append is_tag s.tags (tag_names ss)) ∙ tags) in
    let first = section_length s p.0 q.0 in
    let rest = sections_length ss p.1 q.1 in
    let whole = length-append (section_bytes s) (flat_map section_bytes ss) in
    let names = length-append s.tags (tag_names ss) in
    omega (arith, first, rest, whole, names)

pub groups_are_short : GroupsAreShort
groups_are_short g h =
    let p = and_parts (is_group g) (list_all (λ (s : Section). is_kept s.name) g.sections) h in
    let have = have_few_tags g.sections (group_sections g p.0) in
    let few = have.few in
    let tags = have.tags in
    let all = sections_length g.sections p.1 have.spelt in
    let count = varint_length (length g.sections) in
    let whole = length-append (varint (length g.sections)) (flat_map section_bytes g.sections) in
    omega (arith, few, tags, all, count, whole)

-- ---- preferences

small_value : (set : List ℕ) → is_sign_set set ≡ true → nat_le (length (encode_utf8_all set)) setting_value_limit ≡ true
small_value set h =
    let few = leb-true (length set) set_limit (and_parts (nat_le (length set) set_limit) (list_all is_sign set) h).0 in
    let long = chars_length set in
    le-leb (length (encode_utf8_all set)) setting_value_limit (omega (arith, few, long))

one_value : (c : Option ℕ) → nat_le (length (encode_utf8_all (char_text c))) setting_value_limit ≡ true
one_value None = refl
one_value (Some c) = let long = chars_length (c ∷ []) in le-leb (length (encode_utf8_all (c ∷ []))) setting_value_limit (omega (arith, long))

small_values : (o : LexerOptions) → can_be_set o ≡ true → have_short_values (settings_of o) ≡ true
small_values o h =
    let p = signed_parts o h in
    each_value (λ value. nat_le (length value) setting_value_limit) o (record {
      yes = refl;
      printjoins = small_value o.printjoins p.printjoins;
      skipjoins = small_value o.skipjoins p.skipjoins;
      startjoins = small_value o.startjoins p.startjoins;
      endjoins = small_value o.endjoins p.endjoins;
      punctuations = small_value o.punctuations p.punctuations;
      numjoin = one_value o.numjoin;
      numgroup = one_value o.numgroup;
    })

pub keys_length : (keys : List (List ℕ)) → are_stop_keys keys ≡ true → length (words_bytes keys) ≤ 5 + 260 * stop_limit
keys_length keys h =
    let p = and_parts (nat_le (length keys) stop_limit) _ h in
    let q = and_parts (keys_rise keys) (list_all is_stop_key keys) p.1 in
    let few = leb-true (length keys) stop_limit p.0 in
    let all = listed_length is_stop_key text_bytes 260 keys key_length q.1 in
    omega (arith, few, all)
  where
    key_length : (key : List ℕ) → is_stop_key key ≡ true → length (text_bytes key) ≤ 260
    key_length key h =
        let p = and_parts (nat_le 1 (length key)) _ h in
        let q = and_parts (nat_le (length key) token_limit) (is_utf8 key) p.1 in
        text_length key token_limit (leb-true (length key) token_limit q.0)

pub prefs_are_short : PrefsAreShort
prefs_are_short p is =
    let settings = settings_are_short (settings_of p.lexer) (settings_are_kept p.lexer is.lexer) (small_values p.lexer is.can_be) in
    let words = keys_length p.stop is.stop in
    let group = groups_are_short p.group (and_from (is_group p.group) (list_all (λ (s : Section). is_kept s.name) p.group.sections) is.group is.named) in
    let front = length-append (settings_bytes (settings_of p.lexer)) (words_bytes p.stop ++ group_bytes p.group) in
    let back = length-append (words_bytes p.stop) (group_bytes p.group) in
    omega (arith, settings, words, group, front, back)

-- ---- values that attributes take

spelt_length : (word text : List ℕ) → is_spelt word text ≡ true → length text ≡ length word
spelt_length word text h = sym (length-map text to_ascii_lowercase) ∙ ap length ((bytes_eq-Decides (map to_ascii_lowercase text) word).0 h)

flag_length : (text : List ℕ) → (is_yes text || is_no text) ≡ true → length text ≤ setting_value_limit
flag_length text h = elim (or_cases (is_yes text) (is_no text) h) [
  | inl on ↦ let e = spelt_length (codes "yes") text on in omega (arith, e)
  | inr off ↦ let e = spelt_length (codes "no") text off in omega (arith, e)
]

signs_length : (limit : ℕ) (text : List ℕ) → limit ≤ set_limit → IsUtf8 text → are_signs limit text ≡ true → length text ≤ setting_value_limit
signs_length limit text less utf8 h =
    let few = leb-true (length (chars text)) limit (and_parts (nat_le (length (chars text)) limit) (list_all is_sign (chars text)) h).0 in
    let long = chars_length (chars text) in
    let whole = ap length (encodes-chars text utf8) in
    omega (arith, few, long, whole, less)

pub values_are_short : ValuesAreShort
values_are_short BaseLetter value utf8 h = flag_length value h
values_are_short Endjoins value utf8 h = signs_length set_limit value (omega arith) utf8 h
values_are_short IndexText value utf8 h = let e = spelt_length (codes "yes") value h in omega (arith, e)
values_are_short IndexThemes value utf8 h = let e = spelt_length (codes "no") value h in omega (arith, e)
values_are_short MixedCase value utf8 h = flag_length value h
values_are_short Numgroup value utf8 h = signs_length 1 value (omega arith) utf8 h
values_are_short Numjoin value utf8 h = signs_length 1 value (omega arith) utf8 h
values_are_short Printjoins value utf8 h = signs_length set_limit value (omega arith) utf8 h
values_are_short Punctuations value utf8 h = signs_length set_limit value (omega arith) utf8 h
values_are_short Skipjoins value utf8 h = signs_length set_limit value (omega arith) utf8 h
values_are_short Startjoins value utf8 h = signs_length set_limit value (omega arith) utf8 h
