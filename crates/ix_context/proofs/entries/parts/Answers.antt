use Rattle.std.proofs.Common.{◌≡◌, ◌≤◌, ◌+◌, ◌-◌, ℕ, List, Some, length, take, drop, sym, ◌∙◌, arith, length-drop}
use Rattle.std.proofs.lemmas.List.{take_all}
use Rattle.ix_context.proofs.EntrySteps.{read_can_be, stands, found, column_read, no_prefs, prefs_read, next_enough, next_read, end_read}
use Rattle.ix_context.proofs.entries.parts.Goals as goal

pub returns-in_default-clause-parts : goal.returns-in_default-clause-parts
returns-in_default-clause-parts c = λ t k p n end small are fits is. absurd (c.in_default.ensures.none t _ (stands c.args.value.now t k p n end small is))

pub returns-in_default-get-clause-parts : goal.returns-in_default-get-clause-parts
returns-in_default-get-clause-parts c = λ t k p n end small are fits is.
    let f = found c.args.value.now t k p n end c.in-Some.table.now c.in-Some.at small is c.in-Some.ensures.some in
    absurd (omega (arith, f.enough, c.in_default-get.ensures.lookup.3))

pub returns-in_default-2-clause-parts : goal.returns-in_default-2-clause-parts
returns-in_default-2-clause-parts c = λ t k p n end small are fits is.
    let f = found c.args.value.now t k p n end c.in-Some.table.now c.in-Some.at small is c.in-Some.ensures.some in
    absurd (no_prefs c.args.value.now p n end (c.in-Some.at + 2) are f.behind f.enough c.in_ok-prefs.field-0 c.in_default-2.is c.in_ok-prefs.ensures)

pub returns-in_default-read_u32-clause-parts : goal.returns-in_default-read_u32-clause-parts
returns-in_default-read_u32-clause-parts c = λ t k p n end small are fits is.
    let f = found c.args.value.now t k p n end c.in-Some.table.now c.in-Some.at small is c.in-Some.ensures.some in
    let read = prefs_read c.args.value.now p n end (c.in-Some.at + 2) c.in-Some-2.prefs c.in-Some-2.next are f.behind c.in_ok-prefs.field-0 c.in-Some-2.is c.in_ok-prefs.ensures in
    let enough : c.in-Some-2.next + 1 + 4 ≤ length c.args.value.now = next_enough c.args.value.now n end c.in-Some-2.next read.1 in
    let e = c.in_default-read_u32.ensures.enough.1 enough in
    cc

pub returns-clause-parts : goal.returns-clause-parts
returns-clause-parts c = λ t k p n end small are fits is.
    let f = found c.args.value.now t k p n end c.in-Some.table.now c.in-Some.at small is c.in-Some.ensures.some in
    let column : c.in-Some-get.column.now ≡ k = c.in-Some-get.ensures.lookup.3.1 0 ∙ column_read c.args.value.now k p n end c.in-Some.at 0 f.rest in
    let read = prefs_read c.args.value.now p n end (c.in-Some.at + 2) c.in-Some-2.prefs c.in-Some-2.next are f.behind c.in_ok-prefs.field-0 c.in-Some-2.is c.in_ok-prefs.ensures in
    let prefs : p ≡ c.in-Some-2.prefs = read.0 in
    let next : n ≡ c.in-Some-read_u32.next_document = next_read c.args.value.now n end c.in-Some-2.next c.in-Some-read_u32.next_document fits (omega arith) read.1 c.in-Some-read_u32.ensures.some in
    let table : t ≡ c.in-Some.table.now = f.same in
    let rest : List ℕ = drop (c.in-Some-2.next + 5) c.args.value.now in
    let long = length-drop (c.in-Some-2.next + 5) c.args.value.now in
    let left : take (length c.args.value.now - (c.in-Some-2.next + 5)) rest ≡ end = take_all (length c.args.value.now - (c.in-Some-2.next + 5)) rest (omega (arith, long)) ∙ sym (end_read c.args.value.now n end c.in-Some-2.next read.1) in
    λ j. Some (sym table j, column j, sym prefs j, sym next j, left j)

pub returns-clause-set : goal.returns-clause-set
returns-clause-set c = read_can_be c.args.value.now (c.in-Some.at + 2) c.in_ok-prefs.field-0 c.in-Some-2.prefs c.in-Some-2.next c.in-Some-2.is c.in_ok-prefs.ensures
