-- Whether there is one of a name, and how many there are, by the entries.
use Rattle.std.proofs.Common.{◌≡◌, ℕ, Bool, List, [], length, Option, Some, None, refl, sym, ap, ◌∙◌, arith}
use Rattle.std.specs.Prelude.{is_some}
use Rattle.std.specs.Option.{option_map, option_and_then}
use Rattle.std.specs.FinMap.{get, entries, IsAntisymmetric, nat_cmp-IsAntisymmetric, slice_cmp-IsAntisymmetric}
use Rattle.std.proofs.lemmas.Cmp.{nat_list_cmp_total}
use Rattle.std.proofs.lemmas.List.{length-map}
use Rattle.ct_base.specs.laws.Lists.{cons_parts, each_counts}
use Rattle.ct_base.specs.laws.Options.{is_some-option_map}
use Rattle.ct_keep.specs.Content.{Content}
use Rattle.ct_entry.specs.declared.kinds.Kind.{Kind}
use Rattle.ct_entry.specs.declared.kinds.Kind.TheVariants as kind
use Rattle.ct_entry.specs.Keys.{Key, key, at, counted_bytes, HasKeysOnly}
use Rattle.ct_entry.specs.Maps.{Names}
use Rattle.ct_entry.specs.Listings.{owners_under, key_order, in_key_order}
use Rattle.ct_entry.specs.laws.Lists.{sum_by-within}
use Rattle.ct_entry.specs.laws.MapEntries.{get_in, in_get, entries_apart}
use Rattle.ct_entry.specs.laws.Owners.{HasNoPart, key_order_total, get-in_key_order, owners_listed}
use Rattle.ct_entry.specs.laws.Rows.{keys_always}
use Rattle.tx_settings.specs.PrefsBytes.{are_lexer_settings, group_bytes, is_named_group, settings_bytes, words_bytes}
use Rattle.tx_sets.specs.Sets.{is_index_set, set_bytes}
use Rattle.tx_prefs.specs.declared.kinds.PrefKind.{PrefKind}
use Rattle.tx_prefs.specs.declared.kinds.PrefKind.TheVariants.{Lexer, Stoplist, SectionGroup, IndexSet}
use Rattle.tx_prefs.specs.Preferences.{Preferences}
use Rattle.tx_prefs.specs.Spelling.{NamesStand, PreferencesStand, entry_kind}
use Rattle.tx_prefs.specs.Rules.{AreNamed, are_stopwords}
use Rattle.tx_prefs.specs.Sees.{HoldsPreferences, has_named, named_count}

-- ---- whether there is one

pub named_there : (f : Key → Option (List ℕ)) (ps : Preferences) (k : PrefKind) (name : List ℕ) → PreferencesStand f ps → is_some (f (key (entry_kind k) name [])) ≡ has_named k name ps
named_there f ps Lexer name stand = ap is_some (stand.lexers name) ∙ is_some-option_map settings_bytes (get ps.lexers name)
named_there f ps Stoplist name stand = ap is_some (stand.stoplists name) ∙ is_some-option_map words_bytes (get ps.stoplists name)
named_there f ps SectionGroup name stand = ap is_some (stand.groups name) ∙ is_some-option_map group_bytes (get ps.groups name)
named_there f ps IndexSet name stand = ap is_some (stand.sets name) ∙ is_some-option_map set_bytes (get ps.sets name)

-- ---- how many there are

order_antisymm : IsAntisymmetric key_order
order_antisymm = λ a b e. (cons_parts _ _ _ _ (slice_cmp-IsAntisymmetric nat_cmp-IsAntisymmetric (counted_bytes a) (counted_bytes b) e)).1

-- the entries in another order are as many
pub count_in_order : {X : Type 0} (m : Names X) → length (entries (in_key_order m)) ≡ length (entries m)
count_in_order {X} m =
    let there = sum_by-within (λ _. 1) (entries (in_key_order m)) (entries m) (entries_apart key_order_total (in_key_order m))
    (λ e is. get_in (slice_cmp-IsAntisymmetric nat_cmp-IsAntisymmetric) m e.0 e.1 (sym (get-in_key_order m e.0) ∙ in_get key_order_total (in_key_order m) e is)) in
    let back = sum_by-within (λ _. 1) (entries m) (entries (in_key_order m)) (entries_apart nat_list_cmp_total m)
    (λ e is. get_in order_antisymm (in_key_order m) e.0 e.1 (get-in_key_order m e.0 ∙ in_get nat_list_cmp_total m e is)) in
    let a = each_counts (entries (in_key_order m)) in
    let b = each_counts (entries m) in
    omega (arith, there, back, a, b)

owners_count : {X : Type 0} (m : Content) (k : Kind) (spelling : X → List ℕ) (rule : X → Bool) (xs : Names X) → HasKeysOnly m → HasNoPart k → NamesStand (at m) k spelling xs → AreNamed rule xs → length (owners_under k m) ≡ length (entries xs)
owners_count {X} m k spelling rule xs only bare stand are =
    ap length (owners_listed (λ (x : X). Some (spelling x)) m k xs only bare are.names (λ t is. stand t ∙ put (get xs t)) ∙ keys_always spelling (entries (in_key_order xs)))
    ∙ length-map (entries (in_key_order xs)) (λ e. e.0)
    ∙ count_in_order xs
  where
    put : (o : Option X) → option_map spelling o ≡ option_and_then (λ (x : X). Some (spelling x)) o
    put None = refl
    put (Some x) = refl

pub named_owners : (m : Content) (ps : Preferences) (k : PrefKind) → HoldsPreferences m ps → length (owners_under (entry_kind k) m) ≡ named_count k ps
named_owners m ps Lexer holds = owners_count m kind.Preferences settings_bytes are_lexer_settings ps.lexers holds.only (λ p bare. bare) holds.stand.lexers holds.rules.lexers
named_owners m ps Stoplist holds = owners_count m kind.Stoplists words_bytes are_stopwords ps.stoplists holds.only (λ p bare. bare) holds.stand.stoplists holds.rules.stoplists
named_owners m ps SectionGroup holds = owners_count m kind.SectionGroups group_bytes is_named_group ps.groups holds.only (λ p bare. bare) holds.stand.groups holds.rules.groups
named_owners m ps IndexSet holds = owners_count m kind.IndexSets set_bytes is_index_set ps.sets holds.only (λ p bare. bare) holds.stand.sets holds.rules.sets
