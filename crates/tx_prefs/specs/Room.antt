-- How much room preferences, stoplists, section groups and index sets take: what their entries weigh.
use Rattle.std.specs.Prelude.{ℕ, ◌≡◌, sum_by, List, [], ◌∷◌, ◌++◌, map, replicate, codes, refl}
use Rattle.std.proofs.Common.{ap, ◌∙◌}
use Rattle.std.specs.Ordering.{nat_cmp}
use Rattle.std.specs.Cmp.Lexicographic.{slice_cmp}
use Rattle.std.specs.FinMap.{entries}
use Rattle.ct_entry.specs.laws.Maps.{entries-none}
use Rattle.tx_tags.specs.Groups.{SectionGroup}
use Rattle.tx_settings.specs.declared.attributes.Setting.{Setting}
use Rattle.ct_bytes.specs.Varints.{varint}
use Rattle.ct_keep.specs.Content.{entry_weight}
use Rattle.ct_entry.specs.declared.kinds.Kind.{Kind}
use Rattle.ct_entry.specs.declared.kinds.Kind.TheVariants as kind
use Rattle.ct_entry.specs.Keys.{key, bytes}
use Rattle.tx_settings.specs.PrefsBytes.{settings_bytes, words_bytes, group_bytes}
use Rattle.tx_sets.specs.Sets.{set_bytes}
use Rattle.tx_prefs.specs.Preferences.{Preferences, no_preferences}

-- an entry by its key and value
abbrev pub PreferenceEntry : Type 0
PreferenceEntry = List ℕ × List ℕ

-- the entry of a name of this kind
abbrev pub named_entry : {X : Type 0} → Kind → (X → List ℕ) → List ℕ × X → PreferenceEntry
named_entry k spelling e = (bytes (key k e.0 []), spelling e.1)

abbrev pub lexer_entries : Preferences → List PreferenceEntry
lexer_entries ps = map (named_entry kind.Preferences settings_bytes) (entries ps.lexers)

abbrev pub stoplist_entries : Preferences → List PreferenceEntry
stoplist_entries ps = map (named_entry kind.Stoplists words_bytes) (entries ps.stoplists)

abbrev pub group_entries : Preferences → List PreferenceEntry
group_entries ps = map (named_entry kind.SectionGroups group_bytes) (entries ps.groups)

abbrev pub set_entries : Preferences → List PreferenceEntry
set_entries ps = map (named_entry kind.IndexSets set_bytes) (entries ps.sets)

-- all entries of preferences
abbrev pub preference_entries : Preferences → List PreferenceEntry
preference_entries ps = lexer_entries ps ++ (stoplist_entries ps ++ (group_entries ps ++ set_entries ps))

abbrev pub preferences_room : Preferences → ℕ
preferences_room ps = sum_by entry_weight (preference_entries ps)

-- computed examples

-- a new store has none
pub no_room : preferences_room no_preferences ≡ 0
no_room =
    ap (λ (es : List (List ℕ × List Setting)). sum_by entry_weight (map (named_entry kind.Preferences settings_bytes) es ++ (stoplist_entries no_preferences ++ (group_entries no_preferences ++ set_entries no_preferences)))) (entries-none (slice_cmp nat_cmp))
    ∙ ap (λ (es : List (List ℕ × List (List ℕ))). sum_by entry_weight (map (named_entry kind.Stoplists words_bytes) es ++ (group_entries no_preferences ++ set_entries no_preferences))) (entries-none (slice_cmp nat_cmp))
    ∙ ap (λ (es : List (List ℕ × SectionGroup)). sum_by entry_weight (map (named_entry kind.SectionGroups group_bytes) es ++ set_entries no_preferences)) (entries-none (slice_cmp nat_cmp))
    ∙ ap (λ (es : List (List ℕ × List (List (List ℕ)))). sum_by entry_weight (map (named_entry kind.IndexSets set_bytes) es)) (entries-none (slice_cmp nat_cmp))

a_short_list : entry_weight (named_entry kind.Stoplists words_bytes (codes "sl", codes "is" ∷ [])) ≡ 64
unfolding varint
a_short_list = refl

-- 1 + 1 + 2 bytes of the key, and 1 + 1 + 64 of the value
one_long_word : entry_weight (named_entry kind.Stoplists words_bytes (codes "sl", replicate 64 0x61 ∷ [])) ≡ 70
unfolding varint
one_long_word = refl
