use Rattle.std.proofs.Common.{◌≡◌, ◌*◌, ◌≤◌, List, ℕ, length, sym, subst, arith}
use Rattle.ct_site.specs.Disks.{DiskView, leaves_same, leaves_then}
use Rattle.pg_journal.specs.Standing.{IsShut, DiskStands}
use Rattle.pg_journal.proofs.stages.fill.Goals as goal

left_shut : (homes : ℕ) (ps : List (List ℕ)) (old : DiskView) → DiskStands old homes ps → (image : List ℕ) → old.may_leave image → IsShut homes ps image
left_shut homes ps old st image left = subst (IsShut homes ps) (sym (st.settled.only image left)) st.shut

pub returns-in-Ok-clause-moments : goal.returns-in-Ok-clause-moments
returns-in-Ok-clause-moments g c = λ homes ps st.
    let old = g.D.Disk.disk c.args.disk.now in
    let mid = g.D.Disk.disk c.size.new.self in
    let long : c.in-Ok.size ≡ length st.image = c.in-Ok.ensures.size st.image st.settled.told in
    let inside : 4096 * homes ≤ c.in-Ok.size = let s = st.shut in omega (arith, long, s.closed.inside, s.count) in
    leaves_then old mid (g.D.Disk.disk c.fill_from.new.disk) (IsShut homes ps) (leaves_same old mid (IsShut homes ps) c.size.ensures.same c.size.ensures.works.beside (left_shut homes ps old st))
    (c.fill_from.ensures.moments homes ps inside (λ image left. left_shut homes ps old st image (c.size.ensures.same.crash image left)))

pub returns-in-Err-clause-moments : goal.returns-in-Err-clause-moments
returns-in-Err-clause-moments g c = λ homes ps st.
    let old = g.D.Disk.disk c.args.disk.now in
    leaves_same old (g.D.Disk.disk c.size.new.self) (IsShut homes ps) c.size.ensures.same c.size.ensures.works.beside (left_shut homes ps old st)
