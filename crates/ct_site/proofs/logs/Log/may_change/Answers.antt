use Rattle.std.proofs.Common.{◌≡◌, length, sym, ap, arith}
use Rattle.ct_site.specs.Logs.{LogState, length-changes_of}
use Rattle.ct_site.proofs.Growing.{below}
use Rattle.ct_site.proofs.logs.Log.may_change.Goals as goal

pub returns : goal.returns
returns c =
    let l = c.self.inside in
    let view = ap (λ (x : LogState). length x.changes) c.self.view_is in
    let n : length c.args.self.now.changes ≡ c.len.result = omega (arith, view, length-changes_of l.entries.items l.written.items l.said.items, c.len.ensures) in
    let r : c.args.self.now.rooms ≡ l.rooms = ap (λ (x : LogState). x.rooms) (sym c.self.view_is) in
    rw (n, r) (below c.len.result l.rooms.calls)
