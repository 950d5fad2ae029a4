-- The steps of reading preferences.
use Rattle.std.proofs.Common.{◌≡◌, ℕ, ◌-◌, ◌≤◌, Bool, true, false, List, ◌++◌, length, take, drop, refl, sym, ap, ◌∙◌, subst, length-drop, arith}
use Rattle.std.specs.Prelude.{◌&&◌, bytes_eq}
use Rattle.std.specs.Bool.{MatchBool}
use Rattle.std.proofs.lemmas.Slice.Eq.{bytes_eq-Decides}
use Rattle.std.specs.List.{list_all}
use Rattle.std.proofs.lemmas.Bool.{and_parts, and_from, both_ways}
use Rattle.std.proofs.lemmas.List.{drop-drop, length-take-le, take_at, take-append-drop}
use Rattle.ct_base.specs.Names.{is_kept}
use Rattle.tx_lexer.specs.declared.options.LexerOptions.{LexerOptions}
use Rattle.tx_stop.specs.StopKeys.{are_stop_keys}
use Rattle.tx_tags.specs.declared.groups.Section.{Section}
use Rattle.tx_tags.specs.Groups.{SectionGroup, is_group}
use Rattle.tx_settings.specs.declared.attributes.Setting.{Setting}
use Rattle.tx_settings.specs.declared.preferences.Prefs.{Prefs}
use Rattle.tx_settings.specs.Attributes.{are_taken, can_be_set, options_of, settings_of}
use Rattle.tx_settings.specs.PrefsBytes.{ArePrefsAt, IsPrefs, IsSpeltAt, NoneStands, Stands, are_lexer_settings, are_options, are_settings, are_words, group_bytes, is_named_group, prefs_bytes, settings_bytes, words_bytes}
use Rattle.tx_settings.specs.PrefsPromises.{NoneBegins}
use Rattle.tx_settings.specs.laws.Apart.{group_apart, pair_apart, settings_apart, words_apart}
use Rattle.tx_settings.specs.laws.Kept.{keys_are_words, settings_are_kept}
use Rattle.tx_settings.specs.laws.MadeAgain.{made_again}
use Rattle.tx_settings.specs.laws.Settable.{set_options_are_taken}
use Rattle.tx_settings.specs.laws.Standing.{IsBoth, both_stand, no_first, no_second, parts_are, same_at}

-- ---- stop keys

pub no_keys : (bytes : List ℕ) (at : ℕ) → NoneStands are_words words_bytes bytes at → NoneStands are_stop_keys words_bytes bytes at
no_keys bytes at none keys next stands = none keys next (record { rules = keys_are_words keys stands.rules; spelt = stands.spelt })

pub not_keys : (bytes : List ℕ) (at : ℕ) (words : List (List ℕ)) (next : ℕ) → Stands are_words words_bytes bytes at words next → are_stop_keys words ≡ false → NoneStands are_stop_keys words_bytes bytes at
not_keys bytes at words next there not keys end stands =
    let same = same_at words_bytes words_apart bytes at words next keys end there.spelt stands.spelt in
    both_ways (are_stop_keys words) not (ap are_stop_keys same.0 ∙ stands.rules)

pub keys_stand : (bytes : List ℕ) (at : ℕ) (words : List (List ℕ)) (next : ℕ) (keys : List (List ℕ)) → Stands are_words words_bytes bytes at words next → keys ≡ words → are_stop_keys words ≡ true → Stands are_stop_keys words_bytes bytes at keys next
keys_stand bytes at words next keys there is rules = subst (λ (ks : List (List ℕ)). Stands are_stop_keys words_bytes bytes at ks next) (sym is) (record { rules = rules; spelt = there.spelt })

-- ---- settings

pub none_taken : (bytes : List ℕ) (at : ℕ) → NoneStands are_settings settings_bytes bytes at → NoneStands are_lexer_settings settings_bytes bytes at
none_taken bytes at none ss next stands = none ss next (record { rules = (and_parts (are_settings ss) (are_taken ss) stands.rules).0; spelt = stands.spelt })

pub not_taken : (bytes : List ℕ) (at : ℕ) (ss : List Setting) (next : ℕ) → Stands are_settings settings_bytes bytes at ss next → are_taken ss ≡ false → NoneStands are_lexer_settings settings_bytes bytes at
not_taken bytes at ss next there not ts end stands =
    let same = same_at settings_bytes settings_apart bytes at ss next ts end there.spelt stands.spelt in
    both_ways (are_taken ss) not (ap are_taken same.0 ∙ (and_parts (are_settings ts) (are_taken ts) stands.rules).1)

pub taken_stand : (bytes : List ℕ) (at : ℕ) (ss : List Setting) (next : ℕ) → Stands are_settings settings_bytes bytes at ss next → are_taken ss ≡ true → Stands are_lexer_settings settings_bytes bytes at ss next
taken_stand bytes at ss next there taken = record { rules = and_from (are_settings ss) (are_taken ss) there.rules taken; spelt = there.spelt }

-- the settings that options have
own_settings : (o : LexerOptions) → are_options o ≡ true → can_be_set o ≡ true → are_lexer_settings (settings_of o) ≡ true
own_settings o are can = and_from (are_settings (settings_of o)) (are_taken (settings_of o)) (settings_are_kept o are) (set_options_are_taken o are can)

-- ---- preferences by their parts

is_prefs : Prefs → Bool
is_prefs p = (are_options p.lexer && can_be_set p.lexer) && (are_stop_keys p.stop && is_named_group p.group)

abbrev Behind : Type 0
Behind = List (List ℕ) × SectionGroup

abbrev behind : Prefs → Behind
behind p = (p.stop, p.group)

abbrev behind_rule : Behind → Bool
behind_rule b = are_stop_keys b.0 && is_named_group b.1

abbrev behind_bytes : Behind → List ℕ
behind_bytes b = words_bytes b.0 ++ group_bytes b.1

behind_is_both : IsBoth are_stop_keys words_bytes is_named_group group_bytes behind_rule behind_bytes (λ (b : Behind). b.0) (λ (b : Behind). b.1)
behind_is_both = record {
  bytes = λ b. refl;
  first = λ b h. (and_parts (are_stop_keys b.0) (is_named_group b.1) h).0;
  second = λ b h. (and_parts (are_stop_keys b.0) (is_named_group b.1) h).1;
}

behind_apart : NoneBegins behind_bytes
behind_apart a b r s e =
    let words = words_apart a.0 b.0 (group_bytes a.1 ++ r) (group_bytes b.1 ++ s) (pair_apart (words_bytes a.0) (words_bytes b.0) (group_bytes a.1) (group_bytes b.1) r s e) in
    let group = group_apart a.1 b.1 r s words.1 in
    (λ i. (words.0 i, group.0 i), group.1)

prefs_is_both : IsBoth are_lexer_settings settings_bytes behind_rule behind_bytes is_prefs prefs_bytes (λ (p : Prefs). settings_of p.lexer) behind
unfolding is_prefs
prefs_is_both = record {
  bytes = λ p. refl;
  first = λ p h. let o = and_parts (are_options p.lexer) (can_be_set p.lexer) (and_parts (are_options p.lexer && can_be_set p.lexer) _ h).0 in own_settings p.lexer o.0 o.1;
  second = λ p h. (and_parts (are_options p.lexer && can_be_set p.lexer) _ h).1;
}

stand : (bytes : List ℕ) (at : ℕ) (p : Prefs) (next : ℕ) → ArePrefsAt bytes at p next → Stands is_prefs prefs_bytes bytes at p next
unfolding is_prefs
stand bytes at p next are = record {
  rules = and_from (are_options p.lexer && can_be_set p.lexer) _ (and_from (are_options p.lexer) (can_be_set p.lexer) are.are.lexer are.are.can_be) (and_from (are_stop_keys p.stop) (is_named_group p.group) are.are.stop (and_from (is_group p.group) (list_all (λ (s : Section). is_kept s.name) p.group.sections) are.are.group are.are.named));
  spelt = are.spelt;
}

-- ---- where none stand

abbrev pub NoPrefs : List ℕ → ℕ → Type 0
NoPrefs bytes at = (p : Prefs) (next : ℕ) → ArePrefsAt bytes at p next → ⊥

module _ (bytes : List ℕ) (at : ℕ) where
  pub no_prefs_settings : NoneStands are_lexer_settings settings_bytes bytes at → NoPrefs bytes at
  no_prefs_settings none p next are = no_first are_lexer_settings settings_bytes behind_rule behind_bytes is_prefs prefs_bytes (λ (p : Prefs). settings_of p.lexer) behind prefs_is_both bytes at none p next (stand bytes at p next are)

  pub no_prefs_stop : (ss : List Setting) (mid : ℕ) → Stands are_lexer_settings settings_bytes bytes at ss mid → NoneStands are_stop_keys words_bytes bytes mid → NoPrefs bytes at
  no_prefs_stop ss mid first none p next are =
      no_second are_lexer_settings settings_bytes behind_rule behind_bytes is_prefs prefs_bytes (λ (p : Prefs). settings_of p.lexer) behind prefs_is_both settings_apart bytes at ss mid first
      (no_first are_stop_keys words_bytes is_named_group group_bytes behind_rule behind_bytes (λ (b : Behind). b.0) (λ (b : Behind). b.1) behind_is_both bytes mid none)
      p next (stand bytes at p next are)

  pub no_prefs_group : (ss : List Setting) (mid : ℕ) (keys : List (List ℕ)) (end : ℕ) → Stands are_lexer_settings settings_bytes bytes at ss mid → Stands are_stop_keys words_bytes bytes mid keys end → NoneStands is_named_group group_bytes bytes end → NoPrefs bytes at
  no_prefs_group ss mid keys end first second none p next are =
      no_second are_lexer_settings settings_bytes behind_rule behind_bytes is_prefs prefs_bytes (λ (p : Prefs). settings_of p.lexer) behind prefs_is_both settings_apart bytes at ss mid first
      (no_second are_stop_keys words_bytes is_named_group group_bytes behind_rule behind_bytes (λ (b : Behind). b.0) (λ (b : Behind). b.1) behind_is_both words_apart bytes mid keys end second none)
      p next (stand bytes at p next are)

-- ---- what was read

-- Settings, stop keys and a group were read one after the other.
pub record AreReadAt (bytes : List ℕ) (at next : ℕ) (ss : List Setting) (keys : List (List ℕ)) (g : SectionGroup) : Type 0 where
  pub stop_at : ℕ
  pub group_at : ℕ
  pub settings : Stands are_lexer_settings settings_bytes bytes at ss stop_at
  pub stop : Stands are_stop_keys words_bytes bytes stop_at keys group_at
  pub group : Stands is_named_group group_bytes bytes group_at g next

pub read_within : (bytes : List ℕ) (at next : ℕ) (ss : List Setting) (keys : List (List ℕ)) (g : SectionGroup) → AreReadAt bytes at next ss keys g → (at ≤ next) × (next ≤ length bytes)
read_within bytes at next ss keys g read =
    let a = read.settings.spelt.next_is in
    let b = read.stop.spelt.next_is in
    let c = read.group.spelt.next_is in
    (omega (arith, a, b, c), read.group.spelt.within)

abbrev pub made_of : LexerOptions → List (List ℕ) → SectionGroup → Prefs
made_of lexer keys g = record { lexer = lexer; stop = keys; group = g }

spelt_between : (bytes : List ℕ) (at : ℕ) (s : List ℕ) (next : ℕ) → IsSpeltAt bytes at s next → s ≡ take (next - at) (drop at bytes)
spelt_between bytes at s next is =
    let long : next - at ≡ length s = (let e = is.next_is in omega (arith, e)) in
    sym (ap (λ n. take n (drop at bytes)) long ∙ ap (take (length s)) is.spelt ∙ take_at s (drop next bytes) (length s) refl)

pub no_prefs : (bytes : List ℕ) (at next : ℕ) (ss : List Setting) (lexer : LexerOptions) (keys : List (List ℕ)) (g : SectionGroup) → AreReadAt bytes at next ss keys g → lexer ≡ options_of ss → (prefs_bytes (made_of lexer keys g) ≡ take (next - at) (drop at bytes) → ⊥) → NoPrefs bytes at
no_prefs bytes at next ss lexer keys g read made not p end are =
    let parts = parts_are are_lexer_settings settings_bytes behind_rule behind_bytes is_prefs prefs_bytes (λ (p : Prefs). settings_of p.lexer) behind prefs_is_both settings_apart behind_apart
    bytes at ss read.stop_at (keys, g) next read.settings
    (both_stand are_stop_keys words_bytes is_named_group group_bytes behind_rule behind_bytes (λ (b : Behind). b.0) (λ (b : Behind). b.1) behind_is_both bytes read.stop_at (keys, g) read.group_at next
    (and_from (are_stop_keys keys) (is_named_group g) read.stop.rules read.group.rules) read.stop read.group)
    p end (stand bytes at p end are) in
    let options : lexer ≡ p.lexer = made ∙ ap options_of parts.0 ∙ made_again p.lexer are.are.lexer in
    let same : made_of lexer keys g ≡ p = λ i. record { lexer = options i; stop = (parts.1 i).0; group = (parts.1 i).1 } in
    not (ap prefs_bytes same ∙ spelt_between bytes at (prefs_bytes p) end are.spelt ∙ ap (λ n. take (n - at) (drop at bytes)) (sym parts.2))

pub prefs_stand : (bytes : List ℕ) (at next : ℕ) (p : Prefs) → IsPrefs p → at ≤ next → next ≤ length bytes → prefs_bytes p ≡ take (next - at) (drop at bytes) → ArePrefsAt bytes at p next
prefs_stand bytes at next p rules from within is = record {
  are = rules;
  spelt = record {
    spelt = sym (take-append-drop (next - at) (drop at bytes)) ∙ ap (λ (l : List ℕ). l ++ drop (next - at) (drop at bytes)) (sym is) ∙ ap (λ (l : List ℕ). prefs_bytes p ++ l) (drop-drop (next - at) at bytes ∙ ap (λ n. drop n bytes) (omega (arith, from)));
    next_is =
        let long : length (prefs_bytes p) ≡ next - at = ap length is ∙ length_between in
        omega (arith, long, from);
    within = within;
  };
}
  where
    length_between : length (take (next - at) (drop at bytes)) ≡ next - at
    length_between = let l = length-drop at bytes in length-take-le (next - at) (drop at bytes) (omega (arith, l, from, within))

pub compared : (is : Bool) (bytes : List ℕ) (at next : ℕ) (p : Prefs) (spelling : List ℕ) → IsPrefs p → at ≤ next → next ≤ length bytes → spelling ≡ prefs_bytes p → is ≡ bytes_eq spelling (take (next - at) (drop at bytes))
    → MatchBool is (ArePrefsAt bytes at p next) (prefs_bytes p ≡ take (next - at) (drop at bytes) → ⊥)
compared true bytes at next p spelling rules from within spelt e = prefs_stand bytes at next p rules from within (sym spelt ∙ (bytes_eq-Decides spelling (take (next - at) (drop at bytes))).0 (sym e))
compared false bytes at next p spelling rules from within spelt e = λ h. both_ways (bytes_eq spelling (take (next - at) (drop at bytes))) (sym e) ((bytes_eq-Decides spelling (take (next - at) (drop at bytes))).1 (spelt ∙ h))
