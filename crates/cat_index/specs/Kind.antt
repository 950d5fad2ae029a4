-- CTXCAT as a kind of indexes.
use Rattle.std.specs.Prelude.{ℕ, ℤ, ◌≡◌, ◌==◌, ◌+◌, ◌||◌, Bool, true, false, List, [], ◌∷◌, sum_by, Option, None, pos, codes, refl}
use Rattle.std.specs.FinMap.{entries}
use Rattle.ct_base.specs.declared.lists.Value.{Value}
use Rattle.ct_bytes.specs.RowKeys.{row_bytes}
use Rattle.ct_entry.specs.declared.kinds.Kind.{Kind}
use Rattle.ct_entry.specs.declared.kinds.Kind.TheVariants as kind
use Rattle.ct_entry.specs.Keys.{Key, key, catalogue_part}
use Rattle.ct_entry.specs.Changes.{put_value}
use Rattle.tb_table.specs.declared.columns.Column.{Column}
use Rattle.tb_table.specs.declared.columns.Target.{Target}
use Rattle.tb_table.specs.Room.{key_weight}
use Rattle.tb_table.specs.Tables.{Table, docs_columns}
use Rattle.tx_settings.specs.declared.preferences.Prefs.{Prefs}
use Rattle.db_names.specs.declared.heads.IndexKind.TheVariants.{Catalogue}
use Rattle.ix_kinds.specs.Rows.{row_keys_of}
use Rattle.ix_kinds.specs.Indextypes.{IndexOf, Indextype}
use Rattle.ix_kinds.specs.Standing.{no_place}
use Rattle.cat_index.specs.declared.catalogues.Catalogue.{Catalogue as NewCatalogue}
use Rattle.cat_index.specs.declared.filings.Filing.{Filing}
use Rattle.cat_index.specs.Catalogues.{CatalogueBody, filing, has_place, places_in, docs_names, docs_catalogue}
use Rattle.cat_index.specs.Spelling.{catalogue_bytes, told_bytes}
use Rattle.cat_index.specs.Rules.{IsAskedFor, IsCatalogue}
use Rattle.cat_index.specs.Changes.{changes_of_row, rows_come}
use Rattle.cat_index.specs.Standing.{CatalogueStands}

-- of the entries of rows
abbrev pub is_row_kind : Kind → Bool
is_row_kind kind.Catalogue = true
is_row_kind k = false

-- the whole entry of an index
abbrev pub catalogue_entry : IndexOf CatalogueBody → List ℕ
catalogue_entry x = catalogue_bytes (record { target = record { table = x.table; column = x.column }; prefs = x.prefs; subs = x.body.names })

-- ---- what entries weigh

-- those of a row under its words, in sub-indexes of which the first has this number
abbrev pub words_weight : List ℕ → ℤ → ℕ → List ℕ → List (List ℕ) → ℕ
words_weight i r sub values words = sum_by (λ word. key_weight (key kind.Catalogue i (catalogue_part sub word values r)) []) words

abbrev pub subs_weight : List ℕ → ℤ → List (List ℕ) → ℕ → List (List ℕ) → ℕ
subs_weight i r words sub [] = 0
subs_weight i r words sub (values ∷ later) = words_weight i r sub values words + subs_weight i r words (sub + 1) later

-- all those of a row
abbrev pub filing_weight : List ℕ → ℤ → Filing → ℕ
filing_weight i r w = subs_weight i r w.words 0 w.values

abbrev pub row_weight : List ℕ → IndexOf CatalogueBody → ℤ × List Value → ℕ
row_weight i x (r, vs) = filing_weight i r (filing x r vs)

-- ---- a new one

-- with these sub-indexes, by the names of their columns, of a table with these columns
abbrev pub new_catalogue : List Column → List (List (List ℕ)) → CatalogueBody
new_catalogue columns names = record { names = names; places = places_in columns names }

-- as its entry has it
abbrev pub as_index : List Column → NewCatalogue → IndexOf CatalogueBody
as_index columns x = record { table = x.target.table; column = x.target.column; prefs = x.prefs; body = new_catalogue columns x.subs }

abbrev pub new_catalogue_on : Table → Target → Prefs → List (List (List ℕ)) → IndexOf CatalogueBody
new_catalogue_on t target prefs names = as_index t.columns (record { target = target; prefs = prefs; subs = names })

-- its entry, and those of each row of its table
abbrev pub create_changes : Table → List ℕ → IndexOf CatalogueBody → List (Key × Option (List ℕ))
create_changes t i x = put_value (key kind.Indexes i []) (catalogue_entry x) ∷ rows_come i x t (row_keys_of t)

-- ---- the kind

-- A catalogue looks at its own column and at those of its sub-indexes. A row that comes, changes or goes changes its entries at once, by its values alone: no entry
-- is read. CREATE INDEX asks for the columns of the sub-indexes, by their names. It is never synchronised nor optimised, and wastes nothing.
abbrev pub catalogue : {D : Type 0} → Indextype CatalogueBody (List (List (List ℕ))) D (Unit {0})
catalogue {D} = record {
  kind = λ b. Catalogue;
  looks = λ x column. (column == x.column) || has_place x.body.places column;
  is = IsCatalogue;
  unwasted = λ b. b;
  tidy = λ b. false;
  untidied = λ b. b;
  own = λ b k. is_row_kind k;
  rest = λ x. told_bytes x.prefs x.body.names;
  resumes = λ b place. place ≡ no_place;
  stands = CatalogueStands;
  room = λ i x t. sum_by (row_weight i x) (entries t.rows);
  cost = λ i x vs. 0;
  after_row = λ change cost b. b;
  read = λ f i x r. tt;
  row_changes = λ i x columns change read. changes_of_row i x change.row change.old change.new;
  can_sync = λ x. false;
  after_sync = λ d t x. x.body;
  sync_changes = λ d t i x place. [];
  asks = IsAskedFor;
  can_create = λ t names. true;
  new_body = λ names d t target prefs. new_catalogue t.columns names;
  create_changes = λ names d t i target prefs. create_changes t i (new_catalogue_on t target prefs names);
}

-- computed examples: it looks at its texts and at the price, but at no column behind
at_its_texts : (catalogue {D = Unit {0}}).looks docs_catalogue 1 ≡ true
at_its_texts = refl

at_the_price : (catalogue {D = Unit {0}}).looks docs_catalogue 2 ≡ true
at_the_price = refl

at_no_other : (catalogue {D = Unit {0}}).looks docs_catalogue 3 ≡ false
at_no_other = refl

a_new_one : new_catalogue docs_columns docs_names ≡ docs_catalogue.body
a_new_one = refl

-- a row that stays as it was has no changes, and one that isn't there has none
no_changes : (r : ℤ) → changes_of_row (codes "ci") docs_catalogue r None None ≡ []
no_changes r = refl

-- the least that an entry weighs: the words `car` and `red` of a row in the plain sub-index
two_words : filing_weight (codes "ci") (pos 7) (record { words = codes "car" ∷ codes "red" ∷ []; values = [] ∷ [] }) ≡ 128
unfolding row_bytes
two_words = refl
