-- The script of a table is cut into its statements, and read as these.
use Rattle.std.proofs.Common.{◌≡◌, ◌≤◌, ℕ, true, false, List, [], ◌∷◌, ◌++◌, Some, None, length, map, append_assoc, refl, ap, ◌∙◌, inl, inr, arith}
use Rattle.std.specs.Prelude.{◌↔◌, ◌==◌}
use Rattle.std.specs.List.{AllByRecursion, flat_map}
use Rattle.std.proofs.lemmas.Bool.{cases_Bool}
use Rattle.st_cut.specs.Cut.{Cuts, first_statement, line_end}
use Rattle.st_parse.specs.Grammar.{IsStatement, statement_of}
use Rattle.st_parse.specs.Lexemes.{lexemes}
use Rattle.st_parse.specs.Writing.{IsText}
use Rattle.st_parse.specs.declared.lexemes.Lexeme.{Lexeme}
use Rattle.st_parse.specs.declared.statements.Statement.{Statement}
use Rattle.csv_table.specs.declared.tables.Column.{Column}
use Rattle.csv_table.specs.declared.tables.Row.{Row}
use Rattle.csv_table.specs.declared.tables.Table.{Table}
use Rattle.csv_table.specs.Tables.{IsPlainName, IsRow, IsWritable}
use Rattle.csv_table.specs.Scripts.{AreStatementTexts, IsScriptOf, IsShort, inserts, statement_limit, statements}
use Rattle.csv_table.specs.Spelling.{create_text, ended, insert_text, script_text}
use Rattle.csv_table.proofs.Quoting.{uncut_parts}
use Rattle.csv_table.proofs.Statements.{create_is, create_read, insert_is, insert_read}

line_end-end : (bs rest : List ℕ) → line_end false bs ≡ None → line_end true (bs ++ 59 ∷ rest) ≡ None
line_end-end [] rest shut = refl
line_end-end (c ∷ cs) rest shut = grind (arith, line_end-end cs rest)

-- a statement in which none ends is cut at its end
cut_end : (bs rest : List ℕ) → first_statement false bs ≡ None → first_statement true (bs ++ 59 ∷ 10 ∷ rest) ≡ Some (bs, rest)
cut_end [] rest shut = refl
cut_end (c ∷ cs) rest shut =
    let p = uncut_parts c cs shut in
    let later : first_statement true (cs ++ 59 ∷ 10 ∷ rest) ≡ Some (cs, rest) = cut_end cs rest p.1 in
    elim (cases_Bool (c == 59)) [
      | inl ends ↦
          let line : line_end false cs ≡ None = rw ends at p.0 in
          rw (ends, line_end-end cs (10 ∷ rest) line, later) refl
      | inr other ↦ rw (other, later) refl
    ]

ended_cut : (bs script : List ℕ) (ss : List (List ℕ)) → first_statement false bs ≡ None → Cuts true script ss [] → Cuts true (ended bs ++ script) (bs ∷ ss) []
ended_cut bs script ss shut cut = (script, ap (first_statement true) (append_assoc bs (59 ∷ 10 ∷ []) script) ∙ cut_end bs script shut, cut)

module _ (written : (ls : List Lexeme) (text : List ℕ) → IsText ls text ↔ (lexemes text ≡ Some ls)) (known : (ls : List Lexeme) (s : Statement) → IsStatement ls s ↔ (statement_of ls ≡ Some s)) where
  rows_cut : (name : List ℕ) (columns : List Column) (rows : List Row) → IsPlainName name → AllByRecursion (IsRow columns) rows
      → Cuts true (flat_map (λ r. ended (insert_text name columns r)) rows) (map (insert_text name columns) rows) []
  rows_cut name columns [] named all = (refl, refl)
  rows_cut name columns (r ∷ rows) named all =
      ended_cut (insert_text name columns r) _ (map (insert_text name columns) rows) (insert_is name columns r named all.0).uncut (rows_cut name columns rows named all.1)

  rows_read : (name : List ℕ) (columns : List Column) (rows : List Row) → IsPlainName name → AllByRecursion (IsRow columns) rows
      → AllByRecursion (λ r. length (insert_text name columns r) ≤ statement_limit) rows
      → AreStatementTexts (map (insert_text name columns) rows) (map (inserts name columns) rows)
  rows_read name columns [] named all short = tt
  rows_read name columns (r ∷ rows) named all short = (
    record { utf8 = (insert_is name columns r named all.0).utf8; short = short.0; read = insert_read written known name columns r named all.0 },
    rows_read name columns rows named all.1 short.1,
  )

  pub script_read : (t : Table) → IsWritable t → IsShort t → IsScriptOf (script_text t) (statements t)
  script_read t is short = record {
    texts = create_text t ∷ map (insert_text t.name t.columns) t.rows;
    cut = ended_cut (create_text t) _ (map (insert_text t.name t.columns) t.rows) (create_is t is).uncut (rows_cut t.name t.columns t.rows is.name is.rows);
    read = (
      record { utf8 = (create_is t is).utf8; short = short.create; read = create_read written known t is },
      rows_read t.name t.columns t.rows is.name is.rows short.inserts,
    );
  }
