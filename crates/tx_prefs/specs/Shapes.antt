-- Which entries of preferences, stoplists, section groups and index sets are well shaped, each by itself.
use Rattle.std.specs.Prelude.{ℕ, ◌≡◌, true, List, [], ◌∷◌, codes, refl}
use Rattle.std.specs.Str.{chars, is_utf8}
use lib.Utf8.{encode}
use Rattle.ct_bytes.specs.Varints.{varint}
use Rattle.ct_entry.specs.declared.kinds.Kind.{Kind}
use Rattle.ct_entry.specs.declared.kinds.Kind.TheVariants.{Preferences, Stoplists, SectionGroups, IndexSets, Tables}
use Rattle.ct_entry.specs.Keys.{Key, key, IsPart}
use Rattle.tx_tags.specs.Groups.{SectionGroup}
use Rattle.tx_settings.specs.declared.attributes.Setting.{Setting}
use Rattle.tx_settings.specs.PrefsBytes.{settings_bytes, words_bytes, group_bytes, are_settings, are_words, is_named_group}
use Rattle.tx_sets.specs.Sets.{are_lists, set_bytes}

-- the values that keys of a kind have; those of other kinds aren't of preferences
abbrev pub IsPrefValue : Kind → List ℕ → Type 0
IsPrefValue Preferences value = (ss : List Setting) × (are_settings ss ≡ true) × (value ≡ settings_bytes ss)
IsPrefValue Stoplists value = (ws : List (List ℕ)) × (are_words ws ≡ true) × (value ≡ words_bytes ws)
IsPrefValue SectionGroups value = (g : SectionGroup) × (is_named_group g ≡ true) × (value ≡ group_bytes g)
IsPrefValue IndexSets value = (set : List (List (List ℕ))) × (are_lists set ≡ true) × (value ≡ set_bytes set)
IsPrefValue kind value = ⊥

-- the rule of preferences
abbrev pub HasPrefValue : Key → List ℕ → Type 0
HasPrefValue k value = IsPrefValue k.kind value

-- a rest that keys of the kind have, and a value that they have, whatever their owner
pub record IsPrefShape (kind : Kind) (part value : List ℕ) : Type 0 where
  pub rest : IsPart kind part
  pub has : IsPrefValue kind value

-- computed examples: the stoplist of one word, an index set without sub-indexes, and an entry of a table, which is none of these
a_stoplist : HasPrefValue (key Stoplists (codes "sl") []) (1 ∷ 2 ∷ codes "is")
unfolding varint chars is_utf8 encode
a_stoplist = (codes "is" ∷ [], refl, refl)

an_index_set : HasPrefValue (key IndexSets (codes "iset") []) (0 ∷ [])
unfolding varint
an_index_set = ([], refl, refl)

no_table : HasPrefValue (key Tables (codes "t") []) [] → ⊥
no_table is = is
