use Rattle.std.proofs.Common.{◌≡◌, length, sym, ap, arith}
use Rattle.ct_site.specs.Histories.{said_by}
use Rattle.ct_site.specs.Logs.{LogState, said_is}
use Rattle.ct_site.proofs.Growing.{fits_in}
use Rattle.ct_site.proofs.logs.Log.may_say.Goals as goal

pub returns : goal.returns
returns c =
    let l = c.self.inside in
    let view = ap (λ (x : LogState). length (said_by x.changes)) c.self.view_is in
    let n : length (said_by c.args.self.now.changes) ≡ c.len.result = omega (arith, view, ap length (said_is l c.self.invariant), c.len.ensures) in
    let r : c.args.self.now.rooms ≡ l.rooms = ap (λ (x : LogState). x.rooms) (sym c.self.view_is) in
    rw (n, r) (fits_in c.args.count c.len.result l.rooms.said (omega (arith, c.len.ensures, c.self.invariant.said_room)))
