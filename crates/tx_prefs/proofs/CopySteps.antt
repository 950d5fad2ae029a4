-- What is copied, by what was read.
use Rattle.std.proofs.Common.{◌≡◌, ℕ, ◌≤◌, inl, inr, true, false, List, [], length, Option, Some, None, sym, ap, ◌∙◌, arith, leb-true}
use Rattle.std.specs.Prelude.{◌&&◌, nat_le}
use Rattle.std.specs.List.{list_all}
use Rattle.std.specs.Option.{option_and_then, option_map}
use Rattle.std.proofs.lemmas.Bool.{and_parts}
use Rattle.tx_stop.specs.StopKeys.{stop_limit}
use Rattle.tx_tags.specs.Groups.{SectionGroup, are_distinct, no_sections}
use Rattle.tx_settings.specs.declared.attributes.Setting.{Setting}
use Rattle.tx_settings.specs.declared.preferences.Prefs.{Prefs}
use Rattle.tx_settings.specs.Attributes.{are_taken}
use Rattle.tx_settings.specs.PrefsBytes.{are_settings}
use Rattle.tx_prefs.specs.declared.parameters.Parameters.{Parameters}
use Rattle.tx_prefs.specs.Preferences.{Preferences}
use Rattle.tx_prefs.specs.Rules.{ArePreferences, is_stopword}
use Rattle.tx_prefs.specs.Copies.{MakesPrefs, copied, meant, prefs_of}

module _ (ps : Preferences) (p : Parameters) where
  with_settings : (settings : List Setting) → Some settings ≡ meant ps.lexers [] p.lexer → copied ps p ≡ option_and_then (λ words. option_map (prefs_of settings words) (meant ps.groups no_sections p.group)) (meant ps.stoplists [] p.stoplist)
  with_settings settings is = ap (λ (o : Option (List Setting)). option_and_then (λ settings. option_and_then (λ words. option_map (prefs_of settings words) (meant ps.groups no_sections p.group)) (meant ps.stoplists [] p.stoplist)) o) (sym is)

  with_words : (settings : List Setting) (words : List (List ℕ)) → Some settings ≡ meant ps.lexers [] p.lexer → Some words ≡ meant ps.stoplists [] p.stoplist → copied ps p ≡ option_map (prefs_of settings words) (meant ps.groups no_sections p.group)
  with_words settings words is are = with_settings settings is ∙ ap (λ (o : Option (List (List ℕ))). option_and_then (λ words. option_map (prefs_of settings words) (meant ps.groups no_sections p.group)) o) (sym are)

  pub no_words : (settings : List Setting) → Some settings ≡ meant ps.lexers [] p.lexer → None ≡ meant ps.stoplists [] p.stoplist → None ≡ copied ps p
  no_words settings is none = sym (with_settings settings is ∙ ap (λ (o : Option (List (List ℕ))). option_and_then (λ words. option_map (prefs_of settings words) (meant ps.groups no_sections p.group)) o) (sym none))

  pub no_group : (settings : List Setting) (words : List (List ℕ)) → Some settings ≡ meant ps.lexers [] p.lexer → Some words ≡ meant ps.stoplists [] p.stoplist → None ≡ meant ps.groups no_sections p.group → None ≡ copied ps p
  no_group settings words is are none = sym (with_words settings words is are ∙ ap (option_map (prefs_of settings words)) (sym none))

  -- a stoplist has few words
  few_words : ArePreferences ps → (o : Option (List ℕ)) (words : List (List ℕ)) → Some words ≡ meant ps.stoplists [] o → length words ≤ stop_limit
  few_words rules None words is = let e : words ≡ [] = cc in let l : length words ≡ 0 = ap length e in omega (arith, l)
  few_words rules (Some name) words is = leb-true (length words) stop_limit (and_parts (nat_le (length words) stop_limit) (are_distinct words && list_all is_stopword words) (rules.stoplists.each name words (sym is))).0

  -- the attributes of a preference take their values
  all_taken : ArePreferences ps → (o : Option (List ℕ)) (settings : List Setting) → Some settings ≡ meant ps.lexers [] o → are_taken settings ≡ true
  all_taken rules None settings is = let e : settings ≡ [] = cc in ap are_taken e
  all_taken rules (Some name) settings is = (and_parts (are_settings settings) (are_taken settings) (rules.lexers.each name settings (sym is))).1

  pub all_copied : ArePreferences ps → (settings : List Setting) (words : List (List ℕ)) (group : SectionGroup) (found : Option Prefs) → Some settings ≡ meant ps.lexers [] p.lexer → Some words ≡ meant ps.stoplists [] p.stoplist → Some group ≡ meant ps.groups no_sections p.group
      → MakesPrefs settings words group found → found ≡ copied ps p
  all_copied rules settings words group None is are grouped (inl many) = let few = few_words rules p.stoplist words are in absurd (omega (arith, few, many))
  all_copied rules settings words group None is are grouped (inr not) = let wrong : false ≡ true = sym not ∙ all_taken rules p.lexer settings is in cc
  all_copied rules settings words group (Some prefs) is are grouped made = ap Some made ∙ sym (with_words settings words is are ∙ ap (option_map (prefs_of settings words)) (sym grouped))
