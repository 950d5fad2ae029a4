-- What the statements so far have made.
use Rattle.std.specs.Prelude.{ℕ, ◌≡◌, ◌≤◌, Bool, true, false, ◌||◌, List, [], ◌∷◌, length, map, filter, Option, Some, Result, IfOk, codes, bytes_eq, refl}
use Rattle.std.specs.Ordering.{nat_cmp}
use Rattle.std.specs.Cmp.Lexicographic.{slice_cmp}
use Rattle.std.proofs.Common.{ap}
use Rattle.std.specs.FinMap.{get, empty, entries, from_sorted, entries-from_sorted}
use Rattle.ct_keep.specs.declared.keepers.KeepFault.{KeepFault}
use Rattle.ct_keep.specs.Content.{Content, value_limit}
use Rattle.ct_keep.specs.KeeperViews.{KeeperView}
use Rattle.ct_entry.specs.declared.kinds.Kind.{Kind}
use Rattle.ct_entry.specs.declared.kinds.Kind.TheVariants as kind
use Rattle.ct_entry.specs.Keys.{Key, HasKeysOnly, at, same_list}
use Rattle.ct_entry.specs.Maps.{Names}
use Rattle.tb_table.specs.Tables.{Table, Tables}
use Rattle.tb_table.specs.Spelling.{TablesStand}
use Rattle.tb_table.specs.Rules.{AreTables}
use Rattle.ix_kinds.specs.Indextypes.{IndexOf}
use Rattle.ix_context.specs.Indexes.{ContextIndex}
use Rattle.ix_indexes.specs.Indexes.{Index, IndexesStand, AreIndexes, as_index, as_rules}
use Rattle.rule_index.specs.Outcomes.{NamedThesauri}
use Rattle.rule_index.specs.RuleIndexes.{RuleIndex}
use Rattle.tx_prefs.specs.Preferences.{Preferences, no_preferences}
use Rattle.tx_prefs.specs.Spelling.{PreferencesStand}
use Rattle.tx_prefs.specs.Rules.{ArePreferences}
use Rattle.th_graph.specs.declared.pairs.TermPair.{TermPair}
use Rattle.th_store.specs.Thesauri.{PairSet, Thesauri, no_thesauri, pairs_of}
use Rattle.th_store.specs.Spelling.{ThesauriStand}
use Rattle.th_store.specs.Rules.{AreThesauri}

-- the tables with their rows, the indexes on them, what has been defined for indexes, and the thesauri
pub record StoreState : Type 0 where
  pub tables : Tables
  pub indexes : Names Index
  pub preferences : Preferences
  pub thesauri : Thesauri

-- as a new store has it
abbrev pub empty_state : StoreState
empty_state = record { tables = empty; indexes = empty; preferences = no_preferences; thesauri = no_thesauri }

-- the thesauri in order of their names, each as the list of its pairs: by these a rule index reads its rules
abbrev pub named_in : Thesauri → NamedThesauri
named_in ts = map (λ (e : List ℕ × PairSet). (e.0, pairs_of e.1)) (entries ts)

abbrev pub named_thesauri : StoreState → NamedThesauri
named_thesauri m = named_in m.thesauri

-- the names that are kept for what is only looked at, and are never those of tables
abbrev pub is_view : List ℕ → Bool
is_view name = bytes_eq name (codes "ctx_user_pending") || bytes_eq name (codes "ctx_user_index_errors")

-- the indexes on a table
abbrev pub indexes_on : Names Index → List ℕ → List (List ℕ × Index)
indexes_on xs t = filter (λ e. same_list e.1.table t) (entries xs)

-- how many indexes a table has at most
abbrev pub index_limit : ℕ
index_limit = 16

-- The rules that hold in every state.
pub record IsState (m : StoreState) : Type 0 where
  pub tables : AreTables m.tables
  pub indexes : AreIndexes m.tables m.indexes
  pub views : (t : List ℕ) (x : Table) → get m.tables t ≡ Some x → is_view t ≡ false
  pub few : (t : List ℕ) → length (indexes_on m.indexes t) ≤ index_limit
  pub preferences : ArePreferences m.preferences
  pub thesauri : AreThesauri m.thesauri

-- the kinds of the rows of postings
abbrev pub is_of_rows : Kind → Bool
is_of_rows kind.Postings = true
is_of_rows kind.Spans = true
is_of_rows k = false

-- no row of postings, also of dead documents, has more bytes than a value may have
abbrev pub HasShortRows : (Key → Option (List ℕ)) → Type 0
HasShortRows f = (k : Key) (v : List ℕ) → is_of_rows k.kind ≡ true → f k ≡ Some v → length v ≤ value_limit

-- The content's entries spell this state, and there is no other entry: each kind of entries is one of its parts'.
pub record StandsForState (c : Content) (m : StoreState) : Type 0 where
  pub only : HasKeysOnly c
  pub tables : TablesStand (at c) m.tables
  pub indexes : IndexesStand (at c) m.tables m.indexes
  pub preferences : PreferencesStand (at c) m.preferences
  pub thesauri : ThesauriStand (at c) m.thesauri
  pub short_rows : HasShortRows (at c)
  pub state : IsState m

-- ---- what calls say of the states that a keeper's content stands for, by the view of the keeper before them

-- This holds over each state that the content stands for, where it is told.
abbrev pub OverStates : {K : Type 0} → (K → KeeperView) → K → (StoreState → Content → Type 0) → Type 0
OverStates view old holds = (m : StoreState) (c : Content) → (view old).content ≡ Some c → StandsForState c m → holds m c

-- This holds of the table of this name, where there is one.
abbrev pub OverNamedTable : {K : Type 0} → (K → KeeperView) → K → List ℕ → (StoreState → Content → Table → Type 0) → Type 0
OverNamedTable view old t holds = (m : StoreState) (c : Content) (x : Table) → (view old).content ≡ Some c → StandsForState c m → get m.tables t ≡ Some x → holds m c x

-- This holds of the index of this name, where there is one.
abbrev pub OverIndex : {K : Type 0} → (K → KeeperView) → K → List ℕ → (StoreState → Index → Type 0) → Type 0
OverIndex view old i holds = (m : StoreState) (c : Content) (x : Index) → (view old).content ≡ Some c → StandsForState c m → get m.indexes i ≡ Some x → holds m x

-- This holds of the CONTEXT index of this name, where there is one.
abbrev pub OverContext : {K : Type 0} → (K → KeeperView) → K → List ℕ → (StoreState → IndexOf ContextIndex → Type 0) → Type 0
OverContext view old i holds = (m : StoreState) (c : Content) (x : IndexOf ContextIndex) → (view old).content ≡ Some c → StandsForState c m → get m.indexes i ≡ Some (as_index x) → holds m x

-- This holds of the rule index of this name, where there is one.
abbrev pub OverRules : {K : Type 0} → (K → KeeperView) → K → List ℕ → (StoreState → RuleIndex → Type 0) → Type 0
OverRules view old i holds = (m : StoreState) (c : Content) (x : RuleIndex) → (view old).content ≡ Some c → StandsForState c m → get m.indexes i ≡ Some (as_rules x) → holds m x

-- What a call gave, unless it failed.
abbrev pub Sees : {K T : Type 0} → (K → KeeperView) → K → Result T KeepFault → (StoreState → T → Type 0) → Type 0
Sees view old result gives = OverStates view old (λ m c. IfOk result (gives m))

-- computed examples: a name that no table has, one that a table may have, and two thesauri without pairs
a_view : is_view (codes "ctx_user_pending") ≡ true
a_view = refl

no_view : is_view (codes "ctx_user") ≡ false
no_view = refl

abbrev two_names : List (List ℕ × PairSet)
two_names = (codes "animals", empty) ∷ (codes "default", empty) ∷ []

by_their_names : map (λ (e : List ℕ × List TermPair). e.0) (named_in (from_sorted two_names)) ≡ codes "animals" ∷ codes "default" ∷ []
by_their_names = ap (λ (es : List (List ℕ × PairSet)). map (λ (e : List ℕ × List TermPair). e.0) (map (λ (e : List ℕ × PairSet). (e.0, pairs_of e.1)) es)) (entries-from_sorted (slice_cmp nat_cmp) two_names tt)
