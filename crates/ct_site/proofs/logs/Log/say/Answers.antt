use Rattle.std.proofs.Common.{◌++◌, ◌∷◌, [], List, length, refl, ap, ◌∙◌, arith, length-append}
use Rattle.std.specs.Prelude.{vec_len}
use Rattle.ct_site.specs.Histories.{DiskChange, Said, said_by}
use Rattle.ct_site.specs.Logs.{LogState, length-changes_of, said_is, all_written-push, all_said-push, all_written, all_said}
use Rattle.ct_site.specs.declared.logs.Entry.TheVariants.{Say}
use Rattle.ct_site.proofs.Growing.{pushed_say}
use Rattle.ct_site.proofs.logs.Log.say.Goals as goal

pub append-requires : goal.append-requires
append-requires c =
    let l = c.self.inside in
    let view = ap (λ (x : LogState). length (said_by x.changes)) c.self.view_is in
    let room = ap (λ (x : LogState). x.rooms.said) c.self.view_is in
    omega (arith, view, ap length (said_is l c.self.invariant), room, c.requires.said, c.self.invariant.said_memory)

pub push_reserved-requires : goal.push_reserved-requires
push_reserved-requires c =
    let l = c.self.inside in
    let view = ap (λ (x : LogState). length x.changes) c.self.view_is in
    omega (arith, view, length-changes_of l.entries.items l.written.items l.said.items, ap (λ (x : LogState). x.rooms.calls) c.self.view_is, c.requires.calls, c.self.invariant.calls_memory)

pub invariant_of-self : goal.invariant_of-self
invariant_of-self c =
    let l = c.self.inside in
    let view = ap (λ (x : LogState). length x.changes) c.self.view_is in
    let calls = ap (λ (x : LogState). x.rooms.calls) c.self.view_is in
    let told = ap (λ (x : LogState). length (said_by x.changes)) c.self.view_is in
    let room = ap (λ (x : LogState). x.rooms.said) c.self.view_is in
    let is = c.push_reserved.ensures.items in
    let more = ap length c.append.ensures.items ∙ length-append l.said.items c.args.bytes.now in
    let before = c.self.invariant in
    record {
      written = omega (arith, ap all_written is, all_written-push l.entries.items (Say (length c.args.bytes.now)), before.written);
      said = omega (arith, ap all_said is, all_said-push l.entries.items (Say (length c.args.bytes.now)), before.said, more);
      calls_room = omega (arith, view, length-changes_of l.entries.items l.written.items l.said.items, calls, c.requires.calls, c.push_reserved.ensures.len);
      calls_memory = omega (arith, before.calls_memory, c.push_reserved.ensures.capacity);
      written_room = before.written_room;
      written_memory = before.written_memory;
      said_room = omega (arith, more, told, ap length (said_is l before), room, c.requires.said);
      said_memory = omega (arith, before.said_memory, c.append.ensures.capacity);
    }

pub returns : goal.returns
returns c =
    let l = c.self.inside in
    ap (λ (cs : List DiskChange). record { changes = cs; rooms = l.rooms; written_bytes = vec_len l.written })
    (pushed_say l.entries.items c.push_reserved.new.self.items (length c.args.bytes.now) l.written.items l.said.items c.append.new.list.items c.args.bytes.now c.push_reserved.ensures.items refl c.append.ensures.items c.self.invariant.said)
    ∙ ap (λ (x : LogState). record { changes = x.changes ++ Said c.args.bytes.now ∷ []; rooms = x.rooms; written_bytes = x.written_bytes }) c.self.view_is
