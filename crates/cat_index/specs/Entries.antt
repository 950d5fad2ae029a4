-- The entries that the rows of a table have in a catalogue, as one list.
use Rattle.std.specs.Prelude.{ℕ, ℤ, ◌≡◌, ◌+◌, List, [], ◌∷◌, ◌++◌, map, pos, codes, refl}
use Rattle.std.specs.List.{flat_map}
use Rattle.std.specs.FinMap.{empty, entries}
use Rattle.std.specs.Ordering.{int_cmp}
use Rattle.std.proofs.Common.{ap}
use Rattle.ct_base.specs.declared.lists.Value.{Value}
use Rattle.ct_bytes.specs.RowKeys.{row_bytes}
use Rattle.ct_entry.specs.declared.kinds.Kind.TheVariants as kind
use Rattle.ct_entry.specs.Keys.{key, bytes, catalogue_part}
use Rattle.ct_entry.specs.laws.Maps.{entries-none}
use Rattle.tb_table.specs.Tables.{Table, docs_columns}
use Rattle.ix_kinds.specs.Indextypes.{IndexOf}
use Rattle.cat_index.specs.declared.filings.Filing.{Filing}
use Rattle.cat_index.specs.Catalogues.{CatalogueBody, filing, docs_catalogue}

-- that of a row under a word, in the sub-index of this number, with these values
abbrev pub filed_entry : List ℕ → ℤ → ℕ → List ℕ → List ℕ → List ℕ × List ℕ
filed_entry i r sub values word = (bytes (key kind.Catalogue i (catalogue_part sub word values r)), [])

-- those under all words, in sub-indexes of which the first has this number, and each other the next
abbrev pub sub_entries : List ℕ → ℤ → List (List ℕ) → ℕ → List (List ℕ) → List (List ℕ × List ℕ)
sub_entries i r words sub [] = []
sub_entries i r words sub (values ∷ later) = map (filed_entry i r sub values) words ++ sub_entries i r words (sub + 1) later

abbrev pub filing_entries : List ℕ → ℤ → Filing → List (List ℕ × List ℕ)
filing_entries i r w = sub_entries i r w.words 0 w.values

abbrev pub row_entries : List ℕ → IndexOf CatalogueBody → ℤ × List Value → List (List ℕ × List ℕ)
row_entries i x (r, vs) = filing_entries i r (filing x r vs)

-- those of each row of the table
abbrev pub catalogue_entries : List ℕ → IndexOf CatalogueBody → Table → List (List ℕ × List ℕ)
catalogue_entries i x t = flat_map (row_entries i x) (entries t.rows)

-- computed examples: the row 7 of a catalogue `ci`, with the word `red`, in the plain sub-index and in one of a kind of things
in_two : filing_entries (codes "ci") (pos 7) (record { words = codes "red" ∷ []; values = [] ∷ (3 ∷ codes "hat") ∷ [] })
    ≡ (0x28 ∷ 2 ∷ codes "ci" ++ (0 ∷ 3 ∷ codes "red" ++ (0x80 ∷ 0 ∷ 0 ∷ 0 ∷ 0 ∷ 0 ∷ 0 ∷ 7 ∷ [])), [])
    ∷ (0x28 ∷ 2 ∷ codes "ci" ++ (1 ∷ 3 ∷ codes "red" ++ (3 ∷ codes "hat" ++ (0x80 ∷ 0 ∷ 0 ∷ 0 ∷ 0 ∷ 0 ∷ 0 ∷ 7 ∷ []))), []) ∷ []
unfolding row_bytes
in_two = refl

of_no_rows : (i : List ℕ) → catalogue_entries i docs_catalogue (record { columns = docs_columns; rows = empty }) ≡ []
of_no_rows i = ap (flat_map (row_entries i docs_catalogue)) (entries-none int_cmp)
