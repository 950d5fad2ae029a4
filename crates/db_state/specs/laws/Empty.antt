-- A new store: the empty content stands for the empty state.
use Rattle.std.specs.Prelude.{ℕ, ◌≡◌, Bool, List, [], ◌∷◌, length, filter, IsSome, Option, Some, None, refl}
use Rattle.std.proofs.Common.{sym, ap, ◌∙◌, subst, arith}
use Rattle.std.proofs.lemmas.Bool.{false≢true}
use Rattle.std.specs.Ordering.{nat_cmp}
use Rattle.std.specs.Cmp.Lexicographic.{slice_cmp}
use Rattle.std.specs.FinMap.{get, empty, entries, get-empty, len-entries, len-empty}
use Rattle.ct_keep.specs.Content.{Content}
use Rattle.std.specs.Option.{option_map}
use Rattle.ct_entry.specs.declared.kinds.Kind.{Kind}
use Rattle.ct_entry.specs.declared.kinds.Kind.TheVariants as kind
use Rattle.ct_entry.specs.Keys.{Key, key, bytes, at, same_list, row_part, text_part}
use Rattle.ct_entry.specs.Maps.{Names}
use Rattle.tb_table.specs.Tables.{Table, Tables}
use Rattle.tb_table.specs.Spelling.{TablesStand}
use Rattle.tb_table.specs.Rules.{AreTables}
use Rattle.ix_indexes.specs.Indexes.{Index, StandsUnder, IndexesStand, AreIndexes}
use Rattle.tx_settings.specs.PrefsBytes.{are_lexer_settings, settings_bytes, words_bytes, group_bytes, is_named_group}
use Rattle.tx_sets.specs.Sets.{is_index_set, set_bytes}
use Rattle.tx_prefs.specs.Spelling.{NamesStand}
use Rattle.tx_prefs.specs.Rules.{AreNamed, are_stopwords}
use Rattle.th_store.specs.laws.Changes.{no_thesaurus_stands}
use Rattle.th_store.specs.laws.Rules.{no_thesauri_are}
use Rattle.db_state.specs.States.{empty_state, StandsForState}

abbrev no_content : Content
no_content = empty

abbrev no_tables : Tables
no_tables = empty

abbrev no_indexes : Names Index
no_indexes = empty

module _ {X : Type 0} where
  abbrev none : Names X
  none = empty

  not_there : (name : List ℕ) → get none name ≡ None
  not_there name = get-empty (slice_cmp nat_cmp) name

  not_found : (name : List ℕ) (x : X) → get none name ≡ Some x → ⊥
  not_found name x is = let no : get none name ≡ None = not_there name in cc

  no_entries : entries none ≡ []
  no_entries = nothing (entries none) (sym (len-entries none) ∙ len-empty (slice_cmp nat_cmp) X)
    where
      nothing : (es : List (List ℕ × X)) → length es ≡ 0 → es ≡ []
      nothing [] e = refl
      nothing (e ∷ es) is = absurd (omega arith)

no_key : (k : Key) → at no_content k ≡ None
no_key k = get-empty (slice_cmp nat_cmp) (bytes k)

tables_stand : TablesStand (at no_content) no_tables
tables_stand = record {
  tables = λ t. no_key (key kind.Tables t []) ∙ rw (not_there {X = Table} t) refl;
  numbers = λ t r is. no_key (key kind.RowNumbers t (row_part r)) ∙ rw (not_there {X = Table} t) refl;
  texts = λ t c r below is. no_key (key kind.RowTexts t (text_part c r)) ∙ rw (not_there {X = Table} t) refl;
}

indexes_stand : IndexesStand (at no_content) no_tables no_indexes
indexes_stand i = subst (StandsUnder (at no_content) no_tables i) (sym (not_there {X = Index} i)) (λ k owner of. no_key k)

are_tables : AreTables no_tables
are_tables = record {
  names = λ t x is. absurd (not_found t x is);
  each = λ t x is. absurd (not_found t x is);
  few = let e = ap length (no_entries {X = Table}) in omega (arith, e);
}

are_indexes : AreIndexes no_tables no_indexes
are_indexes = record {
  names = λ i x is. absurd (not_found i x is);
  each = λ i x is. absurd (not_found i x is);
  one = λ i j x y is other table column kind. absurd (not_found i x is);
}

-- nothing is defined
nothing_named : {X : Type 0} (k : Kind) (spelling : X → List ℕ) → NamesStand (at no_content) k spelling empty
nothing_named {X} k spelling name = no_key (key k name []) ∙ ap (option_map spelling) (sym (get-empty (slice_cmp nat_cmp) name))

none_named : {X : Type 0} (rule : X → Bool) → AreNamed rule empty
none_named {X} rule = record {
  names = λ n x is. absurd (not_found n x is);
  each = λ n x is. absurd (not_found n x is);
  few = let e = ap length (no_entries {X = X}) in omega (arith, e);
}

pub empty_stands : StandsForState empty empty_state
empty_stands = record {
  only = λ b some. absurd (false≢true (subst (λ (o : Option (List ℕ)). IsSome o) (not_there b) some));
  tables = tables_stand;
  indexes = indexes_stand;
  preferences = record { lexers = nothing_named kind.Preferences settings_bytes; stoplists = nothing_named kind.Stoplists words_bytes; groups = nothing_named kind.SectionGroups group_bytes; sets = nothing_named kind.IndexSets set_bytes };
  thesauri = no_thesaurus_stands (at no_content) (λ k of. no_key k);
  short_rows = λ k v h has. let wrong : None ≡ Some v = sym (no_key k) ∙ has in absurd cc;
  state = record {
    tables = are_tables;
    indexes = are_indexes;
    views = λ t x is. absurd (not_found t x is);
    few = λ t. let e = ap (λ (es : List (List ℕ × Index)). length (filter (λ e. same_list e.1.table t) es)) (no_entries {X = Index}) in omega (arith, e);
    preferences = record { lexers = none_named are_lexer_settings; stoplists = none_named are_stopwords; groups = none_named is_named_group; sets = none_named is_index_set };
    thesauri = no_thesauri_are;
  };
}
