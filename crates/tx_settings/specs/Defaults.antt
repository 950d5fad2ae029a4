-- The preferences by which a text is read where nothing else is asked for.
use Rattle.std.specs.Prelude.{◌≡◌, true, [], refl}
use Rattle.tx_lexer.specs.Tokens.{default_options}
use Rattle.tx_tags.specs.Groups.{SectionGroup, no_sections}
use Rattle.tx_settings.specs.declared.preferences.Prefs.{Prefs}

-- the default options and no stopwords, with a section group
abbrev pub plain : SectionGroup → Prefs
plain g = record { lexer = default_options; stop = []; group = g }

-- how an index reads where nothing else is asked for
abbrev pub default_prefs : Prefs
default_prefs = plain no_sections

-- computed example
null_group : default_prefs.group.is_null ≡ true
null_group = refl
