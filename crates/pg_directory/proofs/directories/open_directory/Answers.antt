use Rattle.std.proofs.Common.{Some, None, ap, length, List, ℕ, arith}
use Rattle.pg_directory.specs.declared.entries.Child.{Child}
use Rattle.pg_directory.proofs.DirectoryOpens.{no_levels, other_count, not_walked, other_entries, all_read, levels_none, levels_some, walked_given}
use Rattle.pg_directory.proofs.PageReads.{holds_then}
use Rattle.pg_directory.proofs.directories.open_directory.Goals as goal

pub returns-in_default-clause-opened : goal.returns-in_default-clause-opened
returns-in_default-clause-opened g c = λ number pages holds notes.
    no_levels pages holds.are c.args.top c.directory_count-pages.result (c.directory_count-pages.ensures pages notes)
    (levels_none c.in-Ok.levels pages c.args.top c.directory_count-pages.result (c.in-Ok.ensures.levels number pages holds) c.in_default.is)

pub returns-then-not-are_as_many-clause-opened : goal.returns-then-not-are_as_many-clause-opened
returns-then-not-are_as_many-clause-opened g c = λ number pages holds notes.
    other_count pages holds.are c.args.top c.directory_count-pages.result c.in-Some.inner.items c.in-Some.leaves.items (c.directory_count-pages.ensures pages notes)
    (levels_some c.in-Ok.levels c.in-Some.inner c.in-Some.leaves pages c.args.top c.directory_count-pages.result (c.in-Ok.ensures.levels number pages holds) c.in-Some.is)
    (λ same. c.are_as_many.ensures.no c.if-not-are_as_many.true (let a = ap (λ (l : List ℕ). length l) c.deref.ensures.value in let b = ap (λ (l : List Child). length l) c.deref-2.ensures.value in omega (arith, same, a, b)))

pub returns-in_default-walked-clause-opened : goal.returns-in_default-walked-clause-opened
returns-in_default-walked-clause-opened g c = λ number pages holds notes.
    not_walked pages holds.are c.args.top c.directory_count-pages.result c.string_count-strings.result c.in-Some.inner.items c.in-Some.leaves.items (c.string_count-strings.ensures pages notes)
    (levels_some c.in-Ok.levels c.in-Some.inner c.in-Some.leaves pages c.args.top c.directory_count-pages.result (c.in-Ok.ensures.levels number pages holds) c.in-Some.is)
    (walked_given c.in-Ok-walk_leaves.walked None pages c.deref-3.result.now c.in-Some.leaves.items c.string_count-strings.result (c.in-Ok-walk_leaves.ensures.walks number pages (holds_then _ _ _ _ pages c.read_levels.ensures.same holds)) c.in_default-walked.is c.deref-3.ensures.value)

pub returns-then-not-is_same-clause-opened : goal.returns-then-not-is_same-clause-opened
returns-then-not-is_same-clause-opened g c = λ number pages holds notes.
    other_entries pages holds.are c.args.top c.directory_count-pages.result c.string_count-strings.result c.in-Some-walked.count c.in-Some.inner.items c.in-Some.leaves.items (c.string_count-strings.ensures pages notes)
    (levels_some c.in-Ok.levels c.in-Some.inner c.in-Some.leaves pages c.args.top c.directory_count-pages.result (c.in-Ok.ensures.levels number pages holds) c.in-Some.is)
    (walked_given c.in-Ok-walk_leaves.walked (Some c.in-Some-walked.count) pages c.deref-3.result.now c.in-Some.leaves.items c.string_count-strings.result (c.in-Ok-walk_leaves.ensures.walks number pages (holds_then _ _ _ _ pages c.read_levels.ensures.same holds)) c.in-Some-walked.is c.deref-3.ensures.value)
    (c.is_same.ensures.no c.if-not-is_same.true)

pub returns-clause-opened : goal.returns-clause-opened
returns-clause-opened g c = λ number pages holds notes.
    all_read pages holds.are c.args.top c.directory_count-pages.result c.string_count-strings.result c.in-Some-walked.count (record { inner = c.in-Some.inner; leaves = c.in-Some.leaves }) (c.directory_count-pages.ensures pages notes) (c.string_count-strings.ensures pages notes)
    (levels_some c.in-Ok.levels c.in-Some.inner c.in-Some.leaves pages c.args.top c.directory_count-pages.result (c.in-Ok.ensures.levels number pages holds) c.in-Some.is)
    (let same = c.are_as_many.ensures.yes c.if-not-are_as_many.false in let a = ap (λ (l : List ℕ). length l) c.deref.ensures.value in let b = ap (λ (l : List Child). length l) c.deref-2.ensures.value in omega (arith, same, a, b))
    (walked_given c.in-Ok-walk_leaves.walked (Some c.in-Some-walked.count) pages c.deref-3.result.now c.in-Some.leaves.items c.string_count-strings.result (c.in-Ok-walk_leaves.ensures.walks number pages (holds_then _ _ _ _ pages c.read_levels.ensures.same holds)) c.in-Some-walked.is c.deref-3.ensures.value)
    (c.is_same.ensures.yes c.if-not-is_same.false)
