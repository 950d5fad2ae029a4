use Rattle.std.proofs.Common.{length, ap, arith}
use Rattle.ct_site.specs.Histories.{said_by}
use Rattle.ct_site.specs.Logs.{LogState, said_is, length-changes_of}
use Rattle.ct_site.proofs.logs.Log.said_count.Goals as goal

pub returns-clause-count : goal.returns-clause-count
returns-clause-count c =
    let all = ap length (said_is c.self.inside c.self.invariant) in
    let view = ap (λ (x : LogState). length (said_by x.changes)) c.self.view_is in
    omega (arith, c.len.ensures, all, view)

pub returns-clause-room : goal.returns-clause-room
returns-clause-room c =
    let l = c.self.inside in
    let count = ap (λ (x : LogState). length x.changes) c.self.view_is in
    let rooms = ap (λ (x : LogState). x.rooms.calls) c.self.view_is in
    omega (arith, count, rooms, length-changes_of l.entries.items l.written.items l.said.items, c.self.invariant.calls_room)
