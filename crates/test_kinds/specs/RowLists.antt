-- A kind of indexes for tests: an index has an entry for each row of its table, and waits for nothing.
use Rattle.std.specs.Prelude.{ℕ, ℤ, pos, ◌≡◌, Bool, true, false, List, [], ◌∷◌, ◌++◌, is_some, Option, Some, None, codes, refl}
use Rattle.std.specs.FinMap.{get}
use Rattle.ct_entry.specs.declared.kinds.Kind.{Kind}
use Rattle.ct_entry.specs.declared.kinds.Kind.TheVariants as kind
use Rattle.ct_entry.specs.Keys.{Key, key, row_part, IsRow}
use Rattle.ct_entry.specs.Changes.{put_value, drop_key}
use Rattle.ct_entry.specs.Each.{each}
use Rattle.tb_table.specs.declared.columns.Target.{Target}
use Rattle.tb_table.specs.Tables.{Table}
use Rattle.tx_settings.specs.declared.preferences.Prefs.{Prefs}
use Rattle.tx_settings.specs.PrefsBytes.{prefs_bytes}
use Rattle.db_names.specs.declared.heads.IndexKind.TheVariants.{Rules}
use Rattle.db_names.specs.Heads.{index_head_bytes}
use Rattle.ix_kinds.specs.Rows.{row_keys_of}
use Rattle.ix_kinds.specs.Indextypes.{IndexOf, Indextype}
use Rattle.ix_kinds.specs.Standing.{no_place}
use Rattle.ix_kinds.specs.IndextypeLaws.{IndextypeLaws}
use Rattle.ix_kinds.specs.Sums.{either}
use Rattle.ix_context.specs.Contexts.{context}
use Rattle.cat_index.specs.Kind.{catalogue}
use Rattle.ix_indexes.specs.Indexes.{Defined}

-- the entries of an index, beside its own
abbrev pub is_list : Kind → Bool
is_list kind.Rules = true
is_list k = false

-- what stands for a row, by whether the table has it
abbrev pub entry_or_none : Bool → Option (List ℕ)
entry_or_none true = Some []
entry_or_none false = None

-- Each row of the table has an entry, and no other row has one.
pub record ListsRows (f : Key → Option (List ℕ)) (i : List ℕ) (t : Table) : Type 0 where
  pub rows : (r : ℤ) → IsRow r → f (key kind.Rules i (row_part r)) ≡ entry_or_none (is_some (get t.rows r))

-- a row has its entry afterwards, or none
abbrev pub list_row : List ℕ → ℤ → Bool → List (Key × Option (List ℕ))
list_row i r there = (key kind.Rules i (row_part r), entry_or_none there) ∷ []

-- by whether the table had it before, and has it now
abbrev pub list_change : List ℕ → ℤ → Bool → Bool → List (Key × Option (List ℕ))
list_change i r false false = []
list_change i r false true = list_row i r true
list_change i r true there = list_row i r there

abbrev pub list_rows : List ℕ → List ℤ → List (Key × Option (List ℕ))
list_rows i rows = each (λ r. list_row i r true) rows

abbrev pub list_entry : IndexOf (Unit {0}) → List ℕ
list_entry x = index_head_bytes Rules x.table x.column ++ (prefs_bytes x.prefs ++ no_place)

abbrev pub new_list : Target → Prefs → IndexOf (Unit {0})
new_list target prefs = record { table = target.table; column = target.column; prefs = prefs; body = tt }

-- An index looks at no column, reads nothing, wastes nothing, and is never synchronised nor optimised.
abbrev pub row_lists : {D : Type 0} → Indextype (Unit {0}) (Unit {0}) D (Unit {0})
row_lists {D} = record {
  kind = λ b. Rules;
  looks = λ x column. false;
  is = λ t x. Unit {0};
  unwasted = λ b. b;
  tidy = λ b. false;
  untidied = λ b. b;
  own = λ b k. is_list k;
  rest = λ x. prefs_bytes x.prefs;
  resumes = λ b place. place ≡ no_place;
  stands = λ f i x t. ListsRows f i t;
  room = λ i x t. 0;
  cost = λ i x vs. 0;
  after_row = λ change cost b. b;
  read = λ f i x r. tt;
  row_changes = λ i x columns change read. list_change i change.row (is_some change.old) (is_some change.new);
  can_sync = λ x. false;
  after_sync = λ d t x. x.body;
  sync_changes = λ d t i x place. [];
  asks = λ t prefs a. Unit {0};
  can_create = λ t a. true;
  new_body = λ a d t target prefs. tt;
  create_changes = λ a d t i target prefs. put_value (key kind.Indexes i []) (list_entry (new_list target prefs)) ∷ list_rows i (row_keys_of t);
}

-- ---- what is promised of them

-- lists of rows give what a kind has to give
abbrev pub RowListsKeepTheLaws : Type 0
RowListsKeepTheLaws = IndextypeLaws (row_lists {D = Defined})

-- so does a store that has lists of rows, with their kind in the heads of indexes, in place of rule indexes
abbrev pub KindsWithRowListsKeepTheLaws : Type 0
KindsWithRowListsKeepTheLaws = IndextypeLaws (either (context {D = Defined}) (either catalogue row_lists))

-- computed examples: the row 7 comes, and goes
it_comes : list_change (codes "li") (pos 7) false true ≡ put_value (key kind.Rules (codes "li") (row_part (pos 7))) [] ∷ []
it_comes = refl

it_goes : list_change (codes "li") (pos 7) true false ≡ drop_key (key kind.Rules (codes "li") (row_part (pos 7))) ∷ []
it_goes = refl
