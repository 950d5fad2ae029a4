-- A CATSEARCH reads no more texts than rows have a word of its query, times one more than the columns of texts that are named.
use Rattle.std.proofs.Common.{ℕ, ◌≡◌, ◌≤◌, ◌+◌, ◌*◌, Bool, true, false, List, length, Option, Some, sym, subst, arith}
use Rattle.std.specs.Bool.{if◌then◌else◌}
use Rattle.std.proofs.Math.Nat.{mul-le-mul_right}
use Rattle.ct_keep.specs.Content.{Content}
use Rattle.st_parse.specs.declared.statements.Cond.{Cond}
use Rattle.tb_table.specs.Tables.{Table}
use Rattle.ix_indexes.specs.Indexes.{Index, as_catalogue}
use Rattle.db_state.specs.Effects.{is_done}
use Rattle.db_state.specs.States.{StoreState}
use Rattle.db_find.specs.WordRows.{CataloguesFindWordRows, slot_rows_of}
use Rattle.db_find.specs.Finding.{found_in}
use Rattle.db_find.specs.Looking.{texts_in_index}
use Rattle.db_find.specs.Searches.{Search, Catsearch}
use Rattle.db_find.specs.Seeking.{named_index}
use Rattle.db_find.specs.laws.Seeking.{named_needs}
use Rattle.db_select.specs.Hits.{found_rows}
use Rattle.db_select.specs.Looking.{allowance_by, refused_allowance, row_texts, searching_allowance, select_texts, table_allowance}
use Rattle.db_select.specs.Predicates.{conds_in}
use Rattle.db_select.specs.Statements.{select_statement}
use Rattle.db_select.specs.Choosing.{Selection}
use Rattle.db_select.specs.Few.{CatsearchMayReadFew, CatsearchReadsFew}

-- n rows of k texts each beside n others are n of one more
product : (a b n k : ℕ) → a ≤ n → b ≤ n → a + b * k ≤ n * (1 + k)
product a b n k first second = let times : b * k ≤ n * k = mul-le-mul_right k second in omega (arith, first, times)

pub catsearch_reads_few : CataloguesFindWordRows → CatsearchReadsFew
catsearch_reads_few find_few c m t x i y want column query structured conds stands there named =
    let s : Search = Catsearch column query structured in
    let needs = named_needs m t x.columns s i (as_catalogue y) named in
    let few = find_few c m i y stands needs.0 query in
    let most = slot_rows_of m.tables y query in
    let texts : texts_in_index m.tables (named_index m t x.columns s) s ≤ most =
    subst (λ (o : Option (List ℕ × Index)). texts_in_index m.tables o s ≤ most) (sym named) (few.texts structured) in
    let rows : length (found_rows m t x (Some s)) ≤ most =
    subst (λ (o : Option Index). length (found_in m.tables m.thesauri o s) ≤ most) (sym needs.1) few.rows in
    product (texts_in_index m.tables (named_index m t x.columns s) s) (length (found_rows m t x (Some s))) most (row_texts want s conds x.columns) texts rows

-- what a statement may read, by whether it is refused, is bounded by what it reads at most
allowed : (done : Bool) (c : Content) (m : StoreState) (want : Selection) (t : List ℕ) (x : Table) (conds : List Cond) (s : Search) (most n : ℕ)
    → select_texts m t x want s conds ≤ most → (if done then table_allowance c m want t conds s (Some x) else refused_allowance s).texts ≡ Some n → n ≤ most
allowed false c m want t x conds s most n within is = let none : 0 ≡ n = cc in omega (arith, none)
allowed true c m want t x conds s most n within is = let texts : select_texts m t x want s conds ≡ n = cc in omega (arith, texts, within)

pub catsearch_may_read_few : CataloguesFindWordRows → CatsearchMayReadFew
catsearch_may_read_few find_few c m t x i y want column query structured preds n stands there search named is =
    let s : Search = Catsearch column query structured in
    let conds = conds_in preds in
    let effect = select_statement m want t preds in
    let searching = subst (λ (o : Option Search). (searching_allowance effect c m want t preds o).texts ≡ Some n) search is in
    let found = subst (λ (o : Option Table). (allowance_by c m want t conds s effect o).texts ≡ Some n) there searching in
    allowed (is_done effect) c m want t x conds s (slot_rows_of m.tables y query * (1 + row_texts want s conds x.columns)) n
    (catsearch_reads_few find_few c m t x i y want column query structured conds stands there named) found
