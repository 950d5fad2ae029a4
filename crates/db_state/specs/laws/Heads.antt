-- What the entries of indexes begin with.
use Rattle.std.proofs.Common.{◌≡◌, ℕ, List, Option, Some, arith}
use Rattle.std.specs.Prelude.{is_some}
use Rattle.std.specs.Option.{option_map}
use Rattle.std.specs.FinMap.{get}
use Rattle.ct_entry.specs.Keys.{Key}
use Rattle.ct_entry.specs.Maps.{Names}
use Rattle.tb_table.specs.Tables.{Tables}
use Rattle.tb_table.specs.Rules.{AreTables}
use Rattle.db_names.specs.declared.heads.IndexHead.{IndexHead}
use Rattle.db_names.specs.Heads.{HeadsStand}
use Rattle.ix_kinds.specs.Statements as statements
use Rattle.ix_kinds.specs.laws.Telling as telling
use Rattle.ix_indexes.specs.Indexes.{Index, kinds, IndexesStand, AreIndexes}
use Rattle.ix_indexes.specs.laws.Indexes.{kinds_laws}
use Rattle.ix_context.specs.laws.Reading.{column_few}

-- what an index is and what it is on
abbrev pub store_head : Index → IndexHead
store_head x = statements.head_of_index kinds x

abbrev pub store_heads : Names Index → Names IndexHead
store_heads xs = statements.heads kinds xs

pub get-heads : (xs : Names Index) (i : List ℕ) → get (store_heads xs) i ≡ option_map store_head (get xs i)
get-heads xs i = telling.get-heads kinds kinds_laws xs i

-- where an index has a head, it is its own
pub head_found : (xs : Names Index) (i : List ℕ) (h : IndexHead) → get (store_heads xs) i ≡ Some h → (x : Index) × (get xs i ≡ Some x) × (store_head x ≡ h)
head_found xs i h is = telling.head_found kinds kinds_laws xs i h is

-- Where entries spell indexes, they begin with the heads of these.
pub heads_stand : (f : Key → Option (List ℕ)) (ts : Tables) (xs : Names Index) → AreTables ts → AreIndexes ts xs → IndexesStand f ts xs → HeadsStand f (store_heads xs)
heads_stand f ts xs tables are stand =
    telling.heads_stand kinds kinds_laws f ts xs tables (λ i x is. let few = column_few ts tables x.table x.column (are.each i x is).target in omega (arith, few)) are stand

pub some_heads : (xs : Names Index) (i : List ℕ) → is_some (option_map store_head (get xs i)) ≡ is_some (get xs i)
some_heads xs i = telling.some_heads kinds kinds_laws xs i
