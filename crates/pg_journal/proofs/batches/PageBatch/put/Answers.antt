use Rattle.std.proofs.Common.{rules, List, ap, subst, ◌∙◌, arith}
use Rattle.std.specs.Result.{is_ok}
use Rattle.pg_journal.specs.BatchStates.{BatchState}
use Rattle.pg_journal.specs.Pages.{Numbered, Has, with_more}
use Rattle.pg_journal.proofs.BatchPages.{seen_place, room_left, place_within, inserted, IsPut, is_put}
use Rattle.pg_journal.proofs.batches.PageBatch.put.Goals as goal
use Rattle.pg_journal.proofs.batches.PageBatch.put.Goals.{After-insert_page}

put : (c : After-insert_page) → IsPut c.self.inside.numbers.items c.self.inside.bytes.items c.args.page c.args.bytes.now c.insert.new.self.items c.insert_page.new.all.items
put c =
    let left = room_left c.self.inside.numbers.items c.self.inside.bytes.items c.self.inside.room _ c.self.view_is c.requires.room in
    is_put c.self.inside.numbers.items c.self.inside.bytes.items c.args.page c.place_of-at.result c.args.bytes.now c.insert.new.self.items c.insert_page.new.all.items
    (seen_place c.self.inside.numbers.items _ c.self.inside.bytes.items c.args.page c.place_of-at.result c.deref.ensures.value c.self.invariant.numbers c.place_of-at.ensures)
    (inserted (is_ok c.insert.result) _ _ _ c.insert.ensures.items (c.insert.ensures.succeeds (omega (arith, left, c.self.invariant.number_room)))) c.insert_page.ensures.items (search rules)
    (omega (arith, c.self.invariant.long)) c.self.invariant.numbers c.requires.least (search rules)
    (λ has. c.requires.new (subst (λ (ws : List Numbered). Has ws c.args.page) (ap (λ (b : BatchState). b.pages) c.self.view_is) has))

pub insert-requires : goal.insert-requires
insert-requires c =
    omega (
      arith,
      place_within c.args.page c.self.inside.numbers.items c.self.inside.bytes.items,
      seen_place c.self.inside.numbers.items _ c.self.inside.bytes.items c.args.page c.place_of-at.result c.deref.ensures.value c.self.invariant.numbers c.place_of-at.ensures,
    )

pub insert_page-requires-clause-within : goal.insert_page-requires-clause-within
insert_page-requires-clause-within c =
    omega (
      arith,
      place_within c.args.page c.self.inside.numbers.items c.self.inside.bytes.items,
      c.self.invariant.long,
      seen_place c.self.inside.numbers.items _ c.self.inside.bytes.items c.args.page c.place_of-at.result c.deref.ensures.value c.self.invariant.numbers c.place_of-at.ensures,
    )

pub insert_page-requires-clause-room : goal.insert_page-requires-clause-room
insert_page-requires-clause-room c =
    let left = room_left c.self.inside.numbers.items c.self.inside.bytes.items c.self.inside.room _ c.self.view_is c.requires.room in
    omega (arith, left, c.self.invariant.long, c.self.invariant.byte_room)

pub invariant_of-self : goal.invariant_of-self
invariant_of-self c =
    let left = room_left c.self.inside.numbers.items c.self.inside.bytes.items c.self.inside.room _ c.self.view_is c.requires.room in
    let p = put c in
    record {
      long = omega (arith, p.long);
      numbers = p.numbers;
      within = omega (arith, left, p.count);
      number_room = omega (arith, c.insert.ensures.capacity, c.self.invariant.number_room);
      byte_room = omega (arith, c.insert_page.ensures.capacity, c.self.invariant.byte_room);
    }

pub returns : goal.returns
returns c =
    let p = put c in
    ap (λ (ws : List Numbered). record { room = c.self.inside.room; pages = ws }) p.pages
    ∙ ap (λ (b : BatchState). record { room = b.room; pages = with_more (c.args.page, c.args.bytes.now) b.pages }) c.self.view_is
