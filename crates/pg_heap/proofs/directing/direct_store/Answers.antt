use Rattle.std.specs.Prelude.{IfSome}
use Rattle.std.proofs.Common.{◌<◌, ◌-◌, ◌^◌, inr, ℕ, List, refl, sym, ap, subst, ◌∙◌, arith}
use Rattle.ct_site.specs.Disks.{Leaves}
use Rattle.ct_site.specs.Lengths.{Lengthens}
use Rattle.pg_journal.specs.Pages.{changed, AreBetween}
use Rattle.pg_journal.specs.Standing.{DiskStands, IsEither, MayCommit, commit_end}
use Rattle.pg_directory.specs.declared.making.NewDirectory.{NewDirectory}
use Rattle.pg_directory.specs.Looking.{store_pages}
use Rattle.pg_directory.specs.Making.{IsNewDirectory}
use Rattle.pg_directory.specs.Numbering.{AreRising}
use Rattle.pg_heap.specs.Directing.{directory_batch, homes_directed}
use Rattle.pg_heap.proofs.DirectStores.{direct_moments, direct_stands, direct_within, fill_keeps, none_keeps, may_direct, between_direct, free_small, free_few}
use Rattle.pg_heap.proofs.directing.direct_store.Goals as goal

pub returns-then-not-are_rising-clause-moments : goal.returns-then-not-are_rising-clause-moments
returns-then-not-are_rising-clause-moments g c = λ s. none_keeps (g.D.Disk.disk c.args.disk.now) c.args.journal.now c.args.places.now c.args.free.now s

pub make_directory-requires-clause-free : goal.make_directory-requires-clause-free
make_directory-requires-clause-free g c =
    free_small (c.homes-homes.result - 3) c.args.free.now (omega (arith, c.homes-homes.ensures.most)) (c.if-not-are_rising.ensures.yes refl)

pub make_directory-requires-clause-within : goal.make_directory-requires-clause-within
make_directory-requires-clause-within g c =
    let few = free_few 0 (c.homes-homes.result - 3) c.args.free.now (c.if-not-are_rising.ensures.yes refl) in
    omega (arith, few)

pub returns-in_default-clause-moments : goal.returns-in_default-clause-moments
returns-in_default-clause-moments g c = λ s. none_keeps (g.D.Disk.disk c.args.disk.now) c.args.journal.now c.args.places.now c.args.free.now s

pub returns-in_default-found-clause-moments : goal.returns-in_default-found-clause-moments
returns-in_default-found-clause-moments g c = λ s.
    fill_keeps (g.D.Disk.disk c.args.disk.now) (g.D.Disk.disk c.fill.new.disk) c.args.journal.now c.args.places.now c.args.free.now s c.fill.ensures.moments

pub returns-in_default-numbers_of-clause-moments : goal.returns-in_default-numbers_of-clause-moments
returns-in_default-numbers_of-clause-moments g c = λ s. none_keeps (g.D.Disk.disk c.args.disk.now) c.args.journal.now c.args.places.now c.args.free.now s

pub returns-in_default-sheets_with-clause-moments : goal.returns-in_default-sheets_with-clause-moments
returns-in_default-sheets_with-clause-moments g c = λ s. none_keeps (g.D.Disk.disk c.args.disk.now) c.args.journal.now c.args.places.now c.args.free.now s

pub commit_directory-requires-clause-between : goal.commit_directory-requires-clause-between
commit_directory-requires-clause-between g c =
    let n = subst (λ o. IfSome o (λ (d : NewDirectory). IsNewDirectory c.homes-homes.result c.args.free.now c.args.places.now d)) c.in-Some.is c.in-Ok.ensures.made in
    subst (λ (h : ℕ). AreBetween 2 (2 ^ 32) (directory_batch h c.in-Some.made)) (sym c.homes_with-after.ensures)
    (between_direct c.homes-homes.result c.args.free.now c.args.places.now c.in-Some.made n c.homes-homes.ensures.least (c.if-not-are_rising.ensures.yes refl))

pub commit_directory-requires-clause-may : goal.commit_directory-requires-clause-may
commit_directory-requires-clause-may g c =
    let n = subst (λ o. IfSome o (λ (d : NewDirectory). IsNewDirectory c.homes-homes.result c.args.free.now c.args.places.now d)) c.in-Some.is c.in-Ok.ensures.made in
    let fits : c.in-Some.made.top.page < 2 ^ 32 = omega (arith, c.top_of-top.ensures.is, c.top_of-top.ensures.small) in
    subst (λ (j : ℕ). MayCommit j (directory_batch c.homes_with-after.result c.in-Some.made)) c.homes-homes.ensures.homes
    (subst (λ (h : ℕ). MayCommit c.homes-homes.result (directory_batch h c.in-Some.made)) (sym c.homes_with-after.ensures)
    (may_direct c.homes-homes.result c.args.free.now c.args.places.now c.in-Some.made n c.homes-homes.ensures.least (c.if-not-are_rising.ensures.yes refl) fits))

pub returns-in-Ok-commit_directory-clause-moments : goal.returns-in-Ok-commit_directory-clause-moments
returns-in-Ok-commit_directory-clause-moments g c = λ s.
    let n = subst (λ o. IfSome o (λ (d : NewDirectory). IsNewDirectory c.homes-homes.result c.args.free.now c.args.places.now d)) c.in-Some.is c.in-Ok.ensures.made in
    let own = subst (λ (h : ℕ). IsNewDirectory h c.args.free.now c.args.places.now c.in-Some.made) c.homes-homes.ensures.homes n in
    let rise = subst (λ (h : ℕ). AreRising 0 (h - 3) c.args.free.now) c.homes-homes.ensures.homes (c.if-not-are_rising.ensures.yes refl) in
    let fits : c.in-Some.made.top.page < 2 ^ 32 = omega (arith, c.top_of-top.ensures.is, c.top_of-top.ensures.small) in
    let after = c.homes_with-after.ensures ∙ ap (λ (h : ℕ). homes_directed h c.args.free.now c.in-Some.made) c.homes-homes.ensures.homes in
    direct_moments (g.D.Disk.disk c.args.disk.now) c.args.journal.now c.args.places.now c.args.free.now c.in-Some.made own rise fits s (g.D.Disk.disk c.commit_directory.new.disk)
    (subst (λ (h : ℕ). (pages : List (List ℕ)) → DiskStands (g.D.Disk.disk c.args.disk.now) c.args.journal.now pages → Leaves (g.D.Disk.disk c.args.disk.now) (g.D.Disk.disk c.commit_directory.new.disk) (IsEither pages (directory_batch h c.in-Some.made))) after
    c.commit_directory.ensures.moments)

pub returns-in-Ok-commit_directory-clause-stands : goal.returns-in-Ok-commit_directory-clause-stands
returns-in-Ok-commit_directory-clause-stands g c = λ s.
    let n = subst (λ o. IfSome o (λ (d : NewDirectory). IsNewDirectory c.homes-homes.result c.args.free.now c.args.places.now d)) c.in-Some.is c.in-Ok.ensures.made in
    let own = subst (λ (h : ℕ). IsNewDirectory h c.args.free.now c.args.places.now c.in-Some.made) c.homes-homes.ensures.homes n in
    let rise = subst (λ (h : ℕ). AreRising 0 (h - 3) c.args.free.now) c.homes-homes.ensures.homes (c.if-not-are_rising.ensures.yes refl) in
    let fits : c.in-Some.made.top.page < 2 ^ 32 = omega (arith, c.top_of-top.ensures.is, c.top_of-top.ensures.small) in
    let after = c.homes_with-after.ensures ∙ ap (λ (h : ℕ). homes_directed h c.args.free.now c.in-Some.made) c.homes-homes.ensures.homes in
    direct_stands (g.D.Disk.disk c.args.disk.now) c.args.journal.now c.args.places.now c.args.free.now c.in-Some.made own rise fits s (g.D.Disk.disk c.commit_directory.new.disk) c.commit_directory.new.journal
    (c.in-Ok-commit_directory.ensures.homes ∙ after)
    (subst (λ (h : ℕ). DiskStands (g.D.Disk.disk c.commit_directory.new.disk) c.commit_directory.new.journal (changed (directory_batch h c.in-Some.made) (store_pages 0 s.pages))) after
    (c.in-Ok-commit_directory.ensures.stands (store_pages 0 s.pages) s.holds.stands))

pub returns-in-Ok-commit_directory-clause-length : goal.returns-in-Ok-commit_directory-clause-length
returns-in-Ok-commit_directory-clause-length g c =
    let n = subst (λ o. IfSome o (λ (d : NewDirectory). IsNewDirectory c.homes-homes.result c.args.free.now c.args.places.now d)) c.in-Some.is c.in-Ok.ensures.made in
    let own = subst (λ (h : ℕ). IsNewDirectory h c.args.free.now c.args.places.now c.in-Some.made) c.homes-homes.ensures.homes n in
    let after = c.homes_with-after.ensures ∙ ap (λ (h : ℕ). homes_directed h c.args.free.now c.in-Some.made) c.homes-homes.ensures.homes in
    inr (direct_within (g.D.Disk.disk c.args.disk.now) (g.D.Disk.disk c.commit_directory.new.disk) c.args.journal.now c.args.places.now c.args.free.now c.in-Some.made own
    (subst (λ (h : ℕ). Lengthens (commit_end c.args.journal.now (directory_batch h c.in-Some.made)) (g.D.Disk.disk c.args.disk.now) (g.D.Disk.disk c.commit_directory.new.disk)) after c.commit_directory.ensures.length))

pub returns-in-Err-clause-moments : goal.returns-in-Err-clause-moments
returns-in-Err-clause-moments g c = λ s.
    let n = subst (λ o. IfSome o (λ (d : NewDirectory). IsNewDirectory c.homes-homes.result c.args.free.now c.args.places.now d)) c.in-Some.is c.in-Ok.ensures.made in
    let own = subst (λ (h : ℕ). IsNewDirectory h c.args.free.now c.args.places.now c.in-Some.made) c.homes-homes.ensures.homes n in
    let rise = subst (λ (h : ℕ). AreRising 0 (h - 3) c.args.free.now) c.homes-homes.ensures.homes (c.if-not-are_rising.ensures.yes refl) in
    let fits : c.in-Some.made.top.page < 2 ^ 32 = omega (arith, c.top_of-top.ensures.is, c.top_of-top.ensures.small) in
    let after = c.homes_with-after.ensures ∙ ap (λ (h : ℕ). homes_directed h c.args.free.now c.in-Some.made) c.homes-homes.ensures.homes in
    direct_moments (g.D.Disk.disk c.args.disk.now) c.args.journal.now c.args.places.now c.args.free.now c.in-Some.made own rise fits s (g.D.Disk.disk c.commit_directory.new.disk)
    (subst (λ (h : ℕ). (pages : List (List ℕ)) → DiskStands (g.D.Disk.disk c.args.disk.now) c.args.journal.now pages → Leaves (g.D.Disk.disk c.args.disk.now) (g.D.Disk.disk c.commit_directory.new.disk) (IsEither pages (directory_batch h c.in-Some.made))) after
    c.commit_directory.ensures.moments)

pub returns-in-Err-clause-length : goal.returns-in-Err-clause-length
returns-in-Err-clause-length g c =
    let n = subst (λ o. IfSome o (λ (d : NewDirectory). IsNewDirectory c.homes-homes.result c.args.free.now c.args.places.now d)) c.in-Some.is c.in-Ok.ensures.made in
    let own = subst (λ (h : ℕ). IsNewDirectory h c.args.free.now c.args.places.now c.in-Some.made) c.homes-homes.ensures.homes n in
    let after = c.homes_with-after.ensures ∙ ap (λ (h : ℕ). homes_directed h c.args.free.now c.in-Some.made) c.homes-homes.ensures.homes in
    inr (direct_within (g.D.Disk.disk c.args.disk.now) (g.D.Disk.disk c.commit_directory.new.disk) c.args.journal.now c.args.places.now c.args.free.now c.in-Some.made own
    (subst (λ (h : ℕ). Lengthens (commit_end c.args.journal.now (directory_batch h c.in-Some.made)) (g.D.Disk.disk c.args.disk.now) (g.D.Disk.disk c.commit_directory.new.disk)) after c.commit_directory.ensures.length))
