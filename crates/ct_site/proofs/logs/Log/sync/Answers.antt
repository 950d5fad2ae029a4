use Rattle.std.proofs.Common.{◌≡◌, ◌++◌, ◌∷◌, [], List, length, sym, ap, ◌∙◌, arith}
use Rattle.std.specs.Prelude.{vec_len}
use Rattle.ct_site.specs.Histories.{DiskChange, Synced}
use Rattle.ct_site.specs.Logs.{LogState, length-changes_of, all_written-push, all_said-push, all_written, all_said}
use Rattle.ct_site.specs.declared.logs.Entry.TheVariants.{Sync}
use Rattle.ct_site.proofs.Growing.{pushed_sync}
use Rattle.ct_site.proofs.logs.Log.sync.Goals as goal

pub push_reserved-requires : goal.push_reserved-requires
push_reserved-requires c =
    let l = c.self.inside in
    let n : length c.args.self.now.changes ≡ length l.entries.items = ap (λ (x : LogState). length x.changes) (sym c.self.view_is) ∙ length-changes_of l.entries.items l.written.items l.said.items in
    omega (arith, n, ap (λ (x : LogState). x.rooms.calls) c.self.view_is, c.requires, c.self.invariant.calls_memory)

pub invariant_of-self : goal.invariant_of-self
invariant_of-self c =
    let l = c.self.inside in
    let n : length c.args.self.now.changes ≡ length l.entries.items = ap (λ (x : LogState). length x.changes) (sym c.self.view_is) ∙ length-changes_of l.entries.items l.written.items l.said.items in
    let r = ap (λ (x : LogState). x.rooms.calls) c.self.view_is in
    let is = c.push_reserved.ensures.items in
    let before = c.self.invariant in
    record {
      written = omega (arith, ap all_written is, all_written-push l.entries.items Sync, before.written);
      said = omega (arith, ap all_said is, all_said-push l.entries.items Sync, before.said);
      calls_room = omega (arith, n, r, c.requires, c.push_reserved.ensures.len);
      calls_memory = omega (arith, before.calls_memory, c.push_reserved.ensures.capacity);
      written_room = before.written_room;
      written_memory = before.written_memory;
      said_room = before.said_room;
      said_memory = before.said_memory;
    }

pub returns : goal.returns
returns c =
    let l = c.self.inside in
    ap (λ (cs : List DiskChange). record { changes = cs; rooms = l.rooms; written_bytes = vec_len l.written }) (pushed_sync l.entries.items c.push_reserved.new.self.items l.written.items l.said.items c.push_reserved.ensures.items)
    ∙ ap (λ (x : LogState). record { changes = x.changes ++ Synced ∷ []; rooms = x.rooms; written_bytes = x.written_bytes }) c.self.view_is
