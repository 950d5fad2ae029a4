use Rattle.std.proofs.Common.{◌≡◌, ◌+◌, ◌∙◌, arith}
use Rattle.cat_index.proofs.EntrySteps.{read_can_be, table_there, found, column_read, no_prefs, prefs_read, no_set, set_read}
use Rattle.cat_index.proofs.entries.parts.Goals as goal

pub returns-in_default-clause-parts : goal.returns-in_default-clause-parts
returns-in_default-clause-parts c = λ x are is. absurd (c.in_default.ensures.none x.target.table _ (table_there c.args.value.now x are is))

pub returns-in_default-get-clause-parts : goal.returns-in_default-get-clause-parts
returns-in_default-get-clause-parts c = λ x are is.
    let f = found c.args.value.now x c.in-Some.table.now c.in-Some.at are is c.in-Some.ensures.some in
    absurd (omega (arith, f.enough, c.in_default-get.ensures.lookup.3))

pub returns-in_default-2-clause-parts : goal.returns-in_default-2-clause-parts
returns-in_default-2-clause-parts c = λ x are is.
    let f = found c.args.value.now x c.in-Some.table.now c.in-Some.at are is c.in-Some.ensures.some in
    absurd (no_prefs c.args.value.now x (c.in-Some.at + 2) are.prefs f.behind f.enough c.in_ok-prefs.field-0 c.in_default-2.is c.in_ok-prefs.ensures)

pub returns-in_default-3-clause-parts : goal.returns-in_default-3-clause-parts
returns-in_default-3-clause-parts c = λ x are is.
    let f = found c.args.value.now x c.in-Some.table.now c.in-Some.at are is c.in-Some.ensures.some in
    let read = prefs_read c.args.value.now x (c.in-Some.at + 2) c.in-Some-2.prefs c.in-Some-2.next are.prefs f.behind c.in_ok-prefs.field-0 c.in-Some-2.is c.in_ok-prefs.ensures in
    absurd (no_set c.args.value.now x c.in-Some-2.next are read.rest read.within c.in_ok-subs.field-0 c.in_default-3.is c.in_ok-subs.ensures)

pub returns-clause-parts : goal.returns-clause-parts
returns-clause-parts c = λ x are is.
    let f = found c.args.value.now x c.in-Some.table.now c.in-Some.at are is c.in-Some.ensures.some in
    let column : c.in-Some-get.column.now ≡ x.target.column = c.in-Some-get.ensures.lookup.3.1 0 ∙ column_read c.args.value.now x c.in-Some.at 0 f.rest in
    let read = prefs_read c.args.value.now x (c.in-Some.at + 2) c.in-Some-2.prefs c.in-Some-2.next are.prefs f.behind c.in_ok-prefs.field-0 c.in-Some-2.is c.in_ok-prefs.ensures in
    let prefs : x.prefs ≡ c.in-Some-2.prefs = read.same in
    let subs : x.subs ≡ c.in-Some-3.subs.items = set_read c.args.value.now x c.in-Some-2.next c.in-Some-3.subs c.in-Some-3._end read.rest c.in_ok-subs.field-0 c.in-Some-3.is c.in_ok-subs.ensures in
    let table : x.target.table ≡ c.in-Some.table.now = f.same in
    cc

pub returns-clause-set : goal.returns-clause-set
returns-clause-set c = read_can_be c.args.value.now (c.in-Some.at + 2) c.in_ok-prefs.field-0 c.in-Some-2.prefs c.in-Some-2.next c.in-Some-2.is c.in_ok-prefs.ensures
