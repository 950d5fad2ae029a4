-- The store that docs/STORE.md shows, the statements that lead to it, and the state that it stands for.
use Rattle.std.specs.Prelude.{ℕ, pos, negsuc, ◌≡◌, true, false, List, [], ◌∷◌, None, codes, refl}
use Rattle.std.proofs.Common.{inl}
use Rattle.std.specs.FinMap.{from_sorted}
use Rattle.ct_base.specs.declared.lists.Value.TheVariants.{Number, Text}
use Rattle.ct_keep.specs.Content.{Content}
use Rattle.tb_table.specs.declared.columns.Sort.TheVariants.{Number as NumberSort, Clob}
use Rattle.tb_table.specs.Tables.{Table}
use Rattle.tx_settings.specs.Defaults.{default_prefs}
use Rattle.ix_rows.specs.Stores.{Untidy}
use Rattle.ix_docmap.specs.Marks.{Pending, Settled}
use Rattle.ix_indexes.specs.Indexes.{Index}
use Rattle.st_parse.specs.declared.statements.Arg.TheVariants.{Text as TextArg}
use Rattle.st_parse.specs.declared.statements.ColumnText.{ColumnText}
use Rattle.st_parse.specs.declared.statements.IndexKind.TheVariants.{Context}
use Rattle.st_parse.specs.declared.statements.Operand.{Operand}
use Rattle.st_parse.specs.declared.statements.Operand.TheVariants.{Number as NumberGiven, Text as TextGiven}
use Rattle.st_parse.specs.declared.statements.SortText.TheVariants.{Number as NumberText, Clob as ClobText}
use Rattle.st_parse.specs.declared.statements.Statement.{Statement}
use Rattle.st_parse.specs.declared.procedures.Procedure.TheVariants.{SyncIndex}
use Rattle.st_parse.specs.declared.statements.Statement.TheVariants.{CreateTable, CreateIndex, Insert, Exec}
use Rattle.st_parse.specs.declared.statements.Whole.TheVariants.{Fits}
use Rattle.tx_prefs.specs.Preferences.{no_preferences}
use Rattle.th_store.specs.Thesauri.{no_thesauri}
use Rattle.db_state.specs.States.{StoreState}
use Rattle.db_state.specs.Effects.{state_by}
use Rattle.db_state.specs.Room.{docs_and_di}
use Rattle.db_engine.specs.Steps.{effect}

-- CREATE TABLE docs (id NUMBER PRIMARY KEY, body CLOB, price NUMBER)
abbrev pub shown_columns : List ColumnText
shown_columns =
    record { name = codes "id"; sort = NumberText; primary = true } ∷ record { name = codes "body"; sort = ClobText; primary = false } ∷ record { name = codes "price"; sort = NumberText; primary = false } ∷ []

abbrev pub table_statement : Statement
table_statement = CreateTable (codes "docs") shown_columns

-- CREATE INDEX di ON docs(body) INDEXTYPE IS CONTEXT
abbrev pub index_statement : Statement
index_statement = CreateIndex (codes "di") (codes "docs") (codes "body") Context None None

-- INSERT INTO docs VALUES (1, 'quick fox quick', 0)
abbrev pub first_values : List Operand
first_values = NumberGiven (Fits (pos 1)) ∷ TextGiven (codes "quick fox quick") ∷ NumberGiven (Fits (pos 0)) ∷ []

-- EXEC CTX_DDL.SYNC_INDEX('di')
abbrev pub sync_statement : Statement
sync_statement = Exec SyncIndex (TextArg (codes "di") ∷ [])

-- INSERT INTO docs VALUES (2, 'slow', -1)
abbrev pub second_values : List Operand
second_values = NumberGiven (Fits (pos 2)) ∷ TextGiven (codes "slow") ∷ NumberGiven (Fits (negsuc 0)) ∷ []

abbrev pub shown_statements : List Statement
shown_statements = table_statement ∷ index_statement ∷ Insert (codes "docs") None first_values ∷ sync_statement ∷ Insert (codes "docs") None second_values ∷ []

-- the state after statements, none of which fails
abbrev pub after_all : StoreState → List Statement → StoreState
after_all m [] = m
after_all m (s ∷ ss) = after_all (state_by m (effect m s)) ss

-- the entries of the store, in the order of their keys
abbrev pub shown_entries : List (List ℕ × List ℕ)
shown_entries =
    -- the table `docs` with the columns `id`, `body` and `price`
    (0x01 ∷ 0x04 ∷ 0x64 ∷ 0x6f ∷ 0x63 ∷ 0x73 ∷ [], 0x03 ∷ 0x02 ∷ 0x69 ∷ 0x64 ∷ 0x01 ∷ 0x00 ∷ 0x00 ∷ 0x04 ∷ 0x62 ∷ 0x6f ∷ 0x64 ∷ 0x79 ∷ 0x03 ∷ 0x00 ∷ 0x00 ∷ 0x05 ∷ 0x70 ∷ 0x72 ∷ 0x69 ∷ 0x63 ∷ 0x65 ∷ 0x01 ∷ 0x00 ∷ 0x00 ∷ [])
    -- the price of row 1: 0
    ∷ (0x02 ∷ 0x04 ∷ 0x64 ∷ 0x6f ∷ 0x63 ∷ 0x73 ∷ 0x80 ∷ 0x00 ∷ 0x00 ∷ 0x00 ∷ 0x00 ∷ 0x00 ∷ 0x00 ∷ 0x01 ∷ [], 0x80 ∷ 0x00 ∷ 0x00 ∷ 0x00 ∷ 0x00 ∷ 0x00 ∷ 0x00 ∷ 0x00 ∷ [])
    -- the price of row 2: -1
    ∷ (0x02 ∷ 0x04 ∷ 0x64 ∷ 0x6f ∷ 0x63 ∷ 0x73 ∷ 0x80 ∷ 0x00 ∷ 0x00 ∷ 0x00 ∷ 0x00 ∷ 0x00 ∷ 0x00 ∷ 0x02 ∷ [], 0x7f ∷ 0xff ∷ 0xff ∷ 0xff ∷ 0xff ∷ 0xff ∷ 0xff ∷ 0xff ∷ [])
    -- the body of row 1
    ∷ (0x03 ∷ 0x04 ∷ 0x64 ∷ 0x6f ∷ 0x63 ∷ 0x73 ∷ 0x01 ∷ 0x80 ∷ 0x00 ∷ 0x00 ∷ 0x00 ∷ 0x00 ∷ 0x00 ∷ 0x00 ∷ 0x01 ∷ [], 0x71 ∷ 0x75 ∷ 0x69 ∷ 0x63 ∷ 0x6b ∷ 0x20 ∷ 0x66 ∷ 0x6f ∷ 0x78 ∷ 0x20 ∷ 0x71 ∷ 0x75 ∷ 0x69 ∷ 0x63 ∷ 0x6b ∷ [])
    -- the body of row 2
    ∷ (0x03 ∷ 0x04 ∷ 0x64 ∷ 0x6f ∷ 0x63 ∷ 0x73 ∷ 0x01 ∷ 0x80 ∷ 0x00 ∷ 0x00 ∷ 0x00 ∷ 0x00 ∷ 0x00 ∷ 0x00 ∷ 0x02 ∷ [], 0x73 ∷ 0x6c ∷ 0x6f ∷ 0x77 ∷ [])
    -- the index `di` on the column 1 of `docs`, which has given one document
    ∷ (0x20 ∷ 0x02 ∷ 0x64 ∷ 0x69 ∷ [], 0x01 ∷ 0x04 ∷ 0x64 ∷ 0x6f ∷ 0x63 ∷ 0x73 ∷ 0x01 ∷ 0x00 ∷ 0x00 ∷ 0x00 ∷ 0x02 ∷ 0x00 ∷ 0x00 ∷ 0x00 ∷ 0x00 ∷ 0x00 ∷ 0x00 ∷ 0x02 ∷ 0x00 ∷ 0x00 ∷ 0x00 ∷ [])
    -- the document 1 is the row 1
    ∷ (0x21 ∷ 0x02 ∷ 0x64 ∷ 0x69 ∷ 0x00 ∷ 0x00 ∷ 0x00 ∷ 0x01 ∷ [], 0x80 ∷ 0x00 ∷ 0x00 ∷ 0x00 ∷ 0x00 ∷ 0x00 ∷ 0x00 ∷ 0x01 ∷ [])
    -- the row 1 is the document 1
    ∷ (0x22 ∷ 0x02 ∷ 0x64 ∷ 0x69 ∷ 0x80 ∷ 0x00 ∷ 0x00 ∷ 0x00 ∷ 0x00 ∷ 0x00 ∷ 0x00 ∷ 0x01 ∷ [], 0x00 ∷ 0x00 ∷ 0x00 ∷ 0x01 ∷ [])
    -- the row 2 waits
    ∷ (0x23 ∷ 0x02 ∷ 0x64 ∷ 0x69 ∷ 0x80 ∷ 0x00 ∷ 0x00 ∷ 0x00 ∷ 0x00 ∷ 0x00 ∷ 0x00 ∷ 0x02 ∷ [], [])
    -- `fox`: one document, which is 1, with one position, which is 2
    ∷ (0x24 ∷ 0x02 ∷ 0x64 ∷ 0x69 ∷ 0x00 ∷ 0x03 ∷ 0x66 ∷ 0x6f ∷ 0x78 ∷ 0x00 ∷ 0x00 ∷ 0x00 ∷ 0x01 ∷ [], 0x01 ∷ 0x01 ∷ 0x01 ∷ 0x02 ∷ [])
    -- `quick`: one document, which is 1, with two positions, 1 and 3
    ∷ (0x24 ∷ 0x02 ∷ 0x64 ∷ 0x69 ∷ 0x00 ∷ 0x05 ∷ 0x71 ∷ 0x75 ∷ 0x69 ∷ 0x63 ∷ 0x6b ∷ 0x00 ∷ 0x00 ∷ 0x00 ∷ 0x01 ∷ [], 0x01 ∷ 0x01 ∷ 0x02 ∷ 0x01 ∷ 0x02 ∷ [])
    ∷ []

abbrev pub shown_store : Content
shown_store = from_sorted shown_entries

-- the table `docs` with two rows, and the index `di` on its column 1, of which the row 1 is settled and the row 2 waits
abbrev shown_table : Table
shown_table = record {
  columns = record { name = codes "id"; sort = NumberSort } ∷ record { name = codes "body"; sort = Clob } ∷ record { name = codes "price"; sort = NumberSort } ∷ [];
  rows = from_sorted ((pos 1, Text (codes "quick fox quick") ∷ Number (pos 0) ∷ []) ∷ (pos 2, Text (codes "slow") ∷ Number (negsuc 0) ∷ []) ∷ []);
}

abbrev shown_index : Index
shown_index = record {
  table = codes "docs";
  column = 1;
  prefs = default_prefs;
  body = inl (record { part = record { given = 1; tidiness = Untidy; waste = 0 }; marks = from_sorted ((pos 1, Settled tt) ∷ (pos 2, Pending) ∷ []) });
}

abbrev pub shown_state : StoreState
shown_state = record { tables = from_sorted ((codes "docs", shown_table) ∷ []); indexes = from_sorted ((codes "di", shown_index) ∷ []); preferences = no_preferences; thesauri = no_thesauri }

-- the state whose room is an example of rooms
shown_before : shown_state ≡ docs_and_di
shown_before = refl
