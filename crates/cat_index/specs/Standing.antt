-- What it means that entries stand for a catalogue.
use Rattle.std.specs.Prelude.{ℕ, ℤ, ◌≡◌, List, Option, None}
use Rattle.std.specs.FinMap.{empty, get-empty}
use Rattle.std.specs.Ordering.{int_cmp}
use Rattle.std.proofs.Common.{ap, sym}
use Rattle.ct_entry.specs.declared.kinds.Kind.TheVariants as kind
use Rattle.ct_entry.specs.Keys.{Key, key, catalogue_part, IsRow}
use Rattle.tb_table.specs.Tables.{Table, docs_columns}
use Rattle.ix_kinds.specs.Indextypes.{IndexOf}
use Rattle.cat_index.specs.Changes.{filed}
use Rattle.cat_index.specs.Filings.{is_filed}
use Rattle.cat_index.specs.Catalogues.{CatalogueBody, filing_in, filing_of, docs_catalogue}

-- In each sub-index each row of the table has an entry under each of its words, with its values in the columns of the sub-index; and there is no other.
pub record CatalogueStands (f : Key → Option (List ℕ)) (i : List ℕ) (x : IndexOf CatalogueBody) (t : Table) : Type 0 where
  pub rows : (r : ℤ) → IsRow r → (sub : ℕ) (word values : List ℕ) → f (key kind.Catalogue i (catalogue_part sub word values r)) ≡ filed (is_filed (filing_in x t r) sub word values)

-- computed example: where the table has no row there is no entry
of_no_rows : (i : List ℕ) → CatalogueStands (λ k. None) i docs_catalogue (record { columns = docs_columns; rows = empty })
of_no_rows i = record { rows = λ r is_row sub word values. sym (ap (λ o. filed (is_filed (filing_of docs_catalogue r o) sub word values)) (get-empty int_cmp r)) }
