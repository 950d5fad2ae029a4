use denote.Ref.{Bor}
use Rattle.std.proofs.Common.{List, ℕ, inl, sym}
use Rattle.std.proofs.lemmas.Result.{err_from_is_err_and}
use Rattle.std.specs.Option.{option_map}
use Rattle.csv.specs.Records.{fields_of}
use Rattle.csv_table.proofs.FaultSteps.{by_none, by_records}
use Rattle.csv_table.proofs.TableSteps.{header_and_rows}
use Rattle.csv_table.proofs.reading.table_of.Goals as goal

pub returns-clause-table : goal.returns-clause-table
returns-clause-table c =
    c.in_ok-table.ensures.table c.args.text.now c.args.name.now
    (header_and_rows fields_of c.args.text.now c.in_ok-records.records.items c.as_slice.result.now c.header-item.result c.as_slice.ensures.value c.in-len1-up.len_at_least
    c.header-item.is c.in_ok-records.ensures)
    (sym c.in_ok-plain.ensures.name)

pub returns-in_err-plain-clause-cause : goal.returns-in_err-plain-clause-cause
returns-in_err-plain-clause-cause c = let p = err_from_is_err_and c.from_residual.result c.from_residual.ensures.1 in rw (p.1, p.2)
    (inl c.in_err-plain.ensures.cause)

pub returns-in_err-records-clause-cause : goal.returns-in_err-records-clause-cause
returns-in_err-records-clause-cause c = let p = err_from_is_err_and c.from_residual-in_err-records.result c.from_residual-in_err-records.ensures.1 in rw (p.1, p.2)
    (inl tt)

pub returns-in_err-table-clause-cause : goal.returns-in_err-table-clause-cause
returns-in_err-table-clause-cause c = let p = err_from_is_err_and c.from_residual-in_err-table.result c.from_residual-in_err-table.ensures.1 in rw (p.1, p.2)
    (by_records fields_of c.args.text.now c.args.name.now (option_map (λ (k : Bor (List ℕ)). k.now) c.args.key) c.in_ok-records.records.items c.as_slice.result.now
    c.header-item.result _ c.as_slice.ensures.value
    c.in-len1-up.len_at_least c.header-item.is c.in_ok-records.ensures c.in_err-table.ensures.cause)

pub returns-in_default-clause-cause : goal.returns-in_default-clause-cause
returns-in_default-clause-cause c =
    by_none fields_of c.args.text.now c.args.name.now (option_map (λ (k : Bor (List ℕ)). k.now) c.args.key) c.in_ok-records.records.items c.as_slice.result.now c.as_slice.ensures.value
    c.in_default.len_below c.in_ok-records.ensures
