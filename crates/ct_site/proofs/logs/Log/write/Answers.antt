use Rattle.std.proofs.Common.{◌≡◌, ℕ, ◌+◌, ◌++◌, ◌∷◌, [], List, length, refl, ap, ◌∙◌, arith, length-append}
use Rattle.std.specs.Prelude.{vec_len}
use Rattle.ct_site.specs.Histories.{DiskChange, Wrote}
use Rattle.ct_site.specs.Logs.{LogState, changes_of, length-changes_of, all_written-push, all_said-push, all_written, all_said}
use Rattle.ct_site.specs.declared.logs.Entry.TheVariants.{Write}
use Rattle.ct_site.proofs.Growing.{pushed_write}
use Rattle.ct_site.proofs.logs.Log.write.Goals as goal

pub append-requires : goal.append-requires
append-requires c =
    let view = ap (λ (x : LogState). x.written_bytes) c.self.view_is in
    let room = ap (λ (x : LogState). x.rooms.written) c.self.view_is in
    omega (arith, view, room, c.requires.written, c.self.invariant.written_memory)

pub push_reserved-requires : goal.push_reserved-requires
push_reserved-requires c =
    let l = c.self.inside in
    let view = ap (λ (x : LogState). length x.changes) c.self.view_is in
    omega (arith, view, length-changes_of l.entries.items l.written.items l.said.items, ap (λ (x : LogState). x.rooms.calls) c.self.view_is, c.requires.calls, c.self.invariant.calls_memory)

pub invariant_of-self : goal.invariant_of-self
invariant_of-self c =
    let l = c.self.inside in
    let view = ap (λ (x : LogState). length x.changes) c.self.view_is in
    let calls = ap (λ (x : LogState). x.rooms.calls) c.self.view_is in
    let bytes = ap (λ (x : LogState). x.written_bytes) c.self.view_is in
    let room = ap (λ (x : LogState). x.rooms.written) c.self.view_is in
    let is = c.push_reserved.ensures.items in
    let more = ap length c.append.ensures.items ∙ length-append l.written.items c.args.bytes.now in
    let before = c.self.invariant in
    record {
      written = omega (arith, ap all_written is, all_written-push l.entries.items (Write c.args.at (length c.args.bytes.now)), before.written, more);
      said = omega (arith, ap all_said is, all_said-push l.entries.items (Write c.args.at (length c.args.bytes.now)), before.said);
      calls_room = omega (arith, view, length-changes_of l.entries.items l.written.items l.said.items, calls, c.requires.calls, c.push_reserved.ensures.len);
      calls_memory = omega (arith, before.calls_memory, c.push_reserved.ensures.capacity);
      written_room = omega (arith, more, bytes, room, c.requires.written);
      written_memory = omega (arith, before.written_memory, c.append.ensures.capacity);
      said_room = before.said_room;
      said_memory = before.said_memory;
    }

pub returns : goal.returns
returns c =
    let l = c.self.inside in
    let n : vec_len c.append.new.list ≡ vec_len l.written + length c.args.bytes.now = omega (arith, ap length c.append.ensures.items, length-append l.written.items c.args.bytes.now) in
    ap (λ (k : ℕ). record { changes = changes_of c.push_reserved.new.self.items c.append.new.list.items l.said.items; rooms = l.rooms; written_bytes = k }) n
    ∙ ap (λ (cs : List DiskChange). record { changes = cs; rooms = l.rooms; written_bytes = vec_len l.written + length c.args.bytes.now })
    (pushed_write l.entries.items c.push_reserved.new.self.items c.args.at (length c.args.bytes.now) l.written.items c.append.new.list.items c.args.bytes.now l.said.items c.push_reserved.ensures.items refl c.append.ensures.items c.self.invariant.written)
    ∙ ap (λ (x : LogState). record { changes = x.changes ++ Wrote c.args.at c.args.bytes.now ∷ []; rooms = x.rooms; written_bytes = x.written_bytes + length c.args.bytes.now }) c.self.view_is
