use Rattle.std.proofs.Common.{ℕ, List, sym, arith}
use Rattle.ct_bytes.specs.laws.Varints.{text_at_one}
use Rattle.db_names.specs.Parts.{HasHeadParts}
use Rattle.ct_base.specs.laws.Options.{if_none}
use Rattle.db_names.proofs.ReadSteps.{text_stands, column_stands, parts_made}
use Rattle.db_names.proofs.reading.parts.Goals as goal

pub returns-in_err-table-clause-none : goal.returns-in_err-table-clause-none
returns-in_err-table-clause-none c =
    if_none c.from_residual-in_err-table.result _ (λ (code : ℕ) (table : List ℕ) (column : ℕ) (has : HasHeadParts c.args.value.now code table column). c.in_err-table.ensures.none table _ (text_stands c.args.value.now code table column has))

pub returns-in_err-column-clause-none : goal.returns-in_err-column-clause-none
returns-in_err-column-clause-none c =
    if_none c.from_residual-in_err-column.result _ (λ (code : ℕ) (table : List ℕ) (column : ℕ) (has : HasHeadParts c.args.value.now code table column).
    let same = text_at_one c.args.value.now 1 table _ c.in_ok-table.table.now c.in_ok-table.at (text_stands c.args.value.now code table column has) c.in_ok-table.ensures.some in
    let within = column_stands c.args.value.now code table column has in
    absurd (omega (arith, same.1, within, c.in_err-column.ensures.lookup.3)))

pub returns-clause-some : goal.returns-clause-some
returns-clause-some c =
    let first = c.in_ok-code.ensures.item in
    let last = c.in_ok-column.ensures.lookup in
    parts_made c.args.value.now _ c.in_ok-table.table.now c.in_ok-table.at _ first.3.0 (sym (first.3.1 0)) c.in_ok-table.ensures.some last.3.0 (sym (last.3.1 0))
