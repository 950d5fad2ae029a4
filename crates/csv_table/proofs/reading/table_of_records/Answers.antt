use denote.Ref.{Bor}
use Rattle.std.proofs.Common.{List, ℕ, ◌≡◌, ◌≤◌, ap, arith, inl, length, map, subst, sym, ◌∙◌}
use Rattle.std.proofs.lemmas.Result.{err_from_is_err_and}
use Rattle.std.specs.Option.{option_map}
use Rattle.ct_base.specs.Limits.{row_limit}
use Rattle.csv.specs.Records.{fields_of}
use Rattle.csv_table.specs.Tables.{columns_from}
use Rattle.csv_table.proofs.FaultSteps.{by_count, by_key, by_keys, by_row}
use Rattle.csv_table.proofs.TableSteps.{map_count, removed_count, table_is, writable_is}
use Rattle.csv_table.proofs.reading.table_of_records.Goals as goal

pub returns-clause-table : goal.returns-clause-table
returns-clause-table c = λ text spelt are lower.
    let wide : c.len-width.result ≡ length c.in_ok-names.names.items = omega (arith, c.len-width.ensures) in
    let full = rw wide at c.in_ok-rows.ensures.full in
    let rows = c.in_ok-rows.rows.items in
    let place = rw c.as_slice-all.ensures.value at c.in_ok-place.ensures.place in
    let key = rw c.as_slice-all.ensures.value at c.in_ok-place.ensures.key in
    let apart = rw c.as_slice-each.ensures.value at c.in_ok-check_keys.ensures.apart in
    let columns = rw c.as_slice-each.ensures.value at c.in_ok-columns.ensures in
    rw (c.of-columns.ensures, c.of-rows.ensures)
    (table_is text spelt c.args.name _ (fields_of c.args.header.now) (map fields_of c.args.records.now) c.in_ok-names.names.items c.in_ok-place.place c.split_names-key.result.0
    c.in_ok-columns.columns.items rows
    c.in_ok-names.ensures.names place key (subst (λ (n : ℕ). n ≤ row_limit) (sym (map_count fields_of c.args.records.now)) c.in_ok-check_count.ensures.count)
    c.in_ok-rows.ensures.fields full apart c.split_names-key.ensures.name
    (columns ∙ ap (λ (names : List (List ℕ)). columns_from 0 names rows) c.split_names-key.ensures.others)
    are lower c.requires.no_view)

pub returns-clause-writable : goal.returns-clause-writable
returns-clause-writable c =
    let wide : c.len-width.result ≡ length c.in_ok-names.names.items = omega (arith, c.len-width.ensures) in
    let full = rw wide at c.in_ok-rows.ensures.full in
    let rows = c.in_ok-rows.rows.items in
    let place = rw c.as_slice-all.ensures.value at c.in_ok-place.ensures.place in
    let columns = rw c.as_slice-each.ensures.value at c.in_ok-columns.ensures in
    rw (c.of-columns.ensures, c.of-rows.ensures)
    (writable_is c.args.name c.in_ok-names.names.items c.in_ok-place.place c.split_names-key.result.0 c.in_ok-columns.columns.items rows
    c.requires.plain c.in_ok-names.ensures.names.plain place c.split_names-key.ensures.name full
    (columns ∙ ap (λ (names : List (List ℕ)). columns_from 0 names rows) c.split_names-key.ensures.others))

pub returns-in_err-names-clause-cause : goal.returns-in_err-names-clause-cause
returns-in_err-names-clause-cause c = let p = err_from_is_err_and c.from_residual.result c.from_residual.ensures.1 in rw (p.1, p.2)
    (inl c.in_err-names.ensures.cause)

pub returns-in_err-place-clause-cause : goal.returns-in_err-place-clause-cause
returns-in_err-place-clause-cause c = let p = err_from_is_err_and c.from_residual-in_err-place.result c.from_residual-in_err-place.ensures.1 in rw (p.1, p.2)
    (by_key (option_map (λ (k : Bor (List ℕ)). k.now) c.args.key) (fields_of c.args.header.now) c.in_ok-names.names.items (map fields_of c.args.records.now) _
    c.in_ok-names.ensures.names.lower (rw c.as_slice-all.ensures.value at c.in_err-place.ensures.cause))

pub returns-in_err-check_count-clause-cause : goal.returns-in_err-check_count-clause-cause
returns-in_err-check_count-clause-cause c = let p = err_from_is_err_and c.from_residual-in_err-check_count.result c.from_residual-in_err-check_count.ensures.1 in rw (p.1, p.2)
    (by_count fields_of (option_map (λ (k : Bor (List ℕ)). k.now) c.args.key) (fields_of c.args.header.now) c.args.records.now _ c.in_err-check_count.ensures.cause)

pub returns-in_err-rows-clause-cause : goal.returns-in_err-rows-clause-cause
returns-in_err-rows-clause-cause c = let p = err_from_is_err_and c.from_residual-in_err-rows.result c.from_residual-in_err-rows.ensures.1 in rw (p.1, p.2)
    (let wide : c.len-width.result ≡ length c.in_ok-names.names.items = omega (arith, c.len-width.ensures) in
    by_row fields_of (option_map (λ (k : Bor (List ℕ)). k.now) c.args.key) (fields_of c.args.header.now) c.in_ok-names.names.items c.args.records.now c.in_ok-place.place _
    c.in_ok-names.ensures.names.lower (rw c.as_slice-all.ensures.value at c.in_ok-place.ensures.key) (rw wide at c.in_err-rows.ensures.cause))

pub returns-in_err-check_keys-clause-cause : goal.returns-in_err-check_keys-clause-cause
returns-in_err-check_keys-clause-cause c = let p = err_from_is_err_and c.from_residual-in_err-check_keys.result c.from_residual-in_err-check_keys.ensures.1 in rw (p.1, p.2)
    (let wide : c.len-width.result ≡ length c.in_ok-names.names.items = omega (arith, c.len-width.ensures) in
    let place = rw c.as_slice-all.ensures.value at c.in_ok-place.ensures.place in
    by_keys fields_of (option_map (λ (k : Bor (List ℕ)). k.now) c.args.key) (fields_of c.args.header.now) c.in_ok-names.names.items c.args.records.now c.in_ok-place.place _ c.in_ok-rows.rows.items _
    c.in_ok-names.ensures.names.lower (rw c.as_slice-all.ensures.value at c.in_ok-place.ensures.key) place c.in_ok-rows.ensures.fields (rw wide at c.in_ok-rows.ensures.full)
    (removed_count c.in_ok-names.names.items c.in_ok-place.place place) (rw c.as_slice-each.ensures.value at c.in_err-check_keys.ensures.cause))

pub returns-in_err-columns-clause-cause : goal.returns-in_err-columns-clause-cause
returns-in_err-columns-clause-cause c = let p = err_from_is_err_and c.from_residual-in_err-columns.result c.from_residual-in_err-columns.ensures.1 in rw (p.1, p.2)
    (inl (inl tt))
