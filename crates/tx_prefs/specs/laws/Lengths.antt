-- The entries of preferences that keep their rules are short.
use Rattle.std.proofs.Common.{◌≡◌, ℕ, ◌<◌, ◌^◌, true, List, [], ◌∷◌, length, refl, arith, leb-true}
use Rattle.std.specs.Prelude.{nat_le, nat_lt}
use Rattle.std.specs.List.{list_all}
use Rattle.std.specs.Str.{is_utf8}
use Rattle.std.proofs.lemmas.Bool.{and_parts, and_from, le-leb, lt-ltb}
use Rattle.std.proofs.lemmas.Str.{IsUtf8-from_is_utf8}
use Rattle.tx_stop.specs.StopKeys.{stop_limit}
use Rattle.tx_tags.specs.Groups.{SectionGroup, are_distinct}
use Rattle.tx_settings.specs.declared.attributes.Setting.{Setting}
use Rattle.tx_settings.specs.Attributes.{takes_value}
use Rattle.tx_settings.specs.PrefsBytes.{are_lexer_settings, are_settings, are_words, group_bytes, has_text, is_named_group, is_short, is_text, rise_from, settings_bytes, words_bytes}
use Rattle.tx_settings.specs.PrefsPromises.{have_short_values, setting_value_limit, stopword_limit}
use Rattle.tx_settings.specs.laws.Kept.{weaker}
use Rattle.tx_settings.specs.laws.Lengths.{settings_are_short, words_are_short, groups_are_short, values_are_short}
use Rattle.tx_settings.specs.PrefsPromises.{stopword_limit}
use Rattle.tx_prefs.specs.Rules.{are_stopwords, is_stopword}

-- ---- settings

-- of what has a text and takes it, the value is short
short_values : (ss : List Setting) → list_all has_text ss ≡ true → list_all (λ (s : Setting). takes_value s.attribute s.value) ss ≡ true → have_short_values ss ≡ true
short_values [] texts takes = refl
short_values (s ∷ ss) texts takes =
    let t = and_parts (has_text s) (list_all has_text ss) texts in
    let v = and_parts (takes_value s.attribute s.value) (list_all (λ (s : Setting). takes_value s.attribute s.value) ss) takes in
    let utf8 = (and_parts (is_short s.value) (is_utf8 s.value) t.0).1 in
    let short = values_are_short s.attribute s.value (IsUtf8-from_is_utf8 s.value utf8) v.0 in
    and_from (nat_le (length s.value) setting_value_limit) (have_short_values ss) (le-leb (length s.value) setting_value_limit short) (short_values ss t.1 v.1)

pub settings_short : (ss : List Setting) → are_lexer_settings ss ≡ true → length (settings_bytes ss) < 2 ^ 12
settings_short ss h =
    let p = and_parts (are_settings ss) (list_all (λ (s : Setting). takes_value s.attribute s.value) ss) h in
    let q = and_parts (rise_from 0 ss) (list_all has_text ss) p.0 in
    settings_are_short ss p.0 (short_values ss q.1 p.1)

-- ---- words

stopword_parts : (w : List ℕ) → is_stopword w ≡ true → (nat_le (length w) stopword_limit ≡ true) × (is_utf8 w ≡ true)
stopword_parts w h =
    let p = and_parts (nat_le 1 (length w)) _ h in
    and_parts (nat_le (length w) stopword_limit) (is_utf8 w) p.1

pub words_short : (ws : List (List ℕ)) → are_stopwords ws ≡ true → length (words_bytes ws) < 2 ^ 19
words_short ws h =
    let p = and_parts (nat_le (length ws) stop_limit) _ h in
    let q = and_parts (are_distinct ws) (list_all is_stopword ws) p.1 in
    words_are_short ws (leb-true (length ws) stop_limit p.0) (weaker is_stopword (λ w. nat_le (length w) stopword_limit) ws (λ w is. (stopword_parts w is).0) q.1)

-- the words of a stoplist are words that an entry may have
pub stopwords_are_words : (ws : List (List ℕ)) → are_stopwords ws ≡ true → are_words ws ≡ true
stopwords_are_words ws h =
    let p = and_parts (nat_le (length ws) stop_limit) _ h in
    let q = and_parts (are_distinct ws) (list_all is_stopword ws) p.1 in
    let few = leb-true (length ws) stop_limit p.0 in
    and_from (nat_lt (length ws) (2 ^ 32)) (list_all is_text ws) (lt-ltb (length ws) (2 ^ 32) (omega (arith, few))) (weaker is_stopword is_text ws text q.1)
  where
    text : (w : List ℕ) → is_stopword w ≡ true → is_text w ≡ true
    text w is =
        let p = stopword_parts w is in
        let few = leb-true (length w) stopword_limit p.0 in
        and_from (is_short w) (is_utf8 w) (lt-ltb (length w) (2 ^ 32) (omega (arith, few))) p.1

-- ---- groups

pub group_short : (g : SectionGroup) → is_named_group g ≡ true → length (group_bytes g) < 2 ^ 14
group_short g h = groups_are_short g h
