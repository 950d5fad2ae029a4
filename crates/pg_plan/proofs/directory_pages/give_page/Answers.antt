use Rattle.std.proofs.Common.{ap, [], arith}
use Rattle.pg_map.specs.Kinds.{Free}
use Rattle.pg_plan.specs.Drafts.{Drafted}
use Rattle.pg_plan.specs.FreePlaces.{used_pages}
use Rattle.pg_plan.specs.laws.Bare.{bare_given}
use Rattle.pg_plan.specs.laws.Freeing.{given_more, used_over}
use Rattle.pg_plan.proofs.Stepping.{slotted_full, slotted_within, no_new_free}
use Rattle.pg_plan.proofs.DirectoryChanges.{done_given, page_given}
use Rattle.pg_plan.proofs.directory_pages.give_page.Goals as goal

pub set-requires : goal.set-requires
set-requires c = slotted_within c.args.draft.now.now c.args.at [] (c.keep_shape.ensures.sees.kind c.args.at c.requires.away)

pub returns-clause-listed : goal.returns-clause-listed
returns-clause-listed c =
    let kind = c.keep_shape.ensures.sees.kind c.args.at c.requires.away in
    given_more c.args.draft.now.now c.set.new.self.now c.args.hints.now.free.now c.add.new.self.now c.args.at c.requires.listed (slotted_within c.args.draft.now.now c.args.at [] kind) (slotted_full c.args.draft.now.now c.args.at [] kind)
    (ap (λ (d : Drafted). d.now) c.in-Ok-set.ensures.ok) c.in-Ok.ensures.ok

pub returns-clause-given : goal.returns-clause-given
returns-clause-given c =
    page_given c.args.draft.now c.set.new.self c.args.at (ap (λ (d : Drafted). d.now) c.in-Ok-set.ensures.ok) (ap (λ (d : Drafted). d.away) c.in-Ok-set.ensures.ok) (ap (λ (d : Drafted). d.touched) c.in-Ok-set.ensures.ok)

pub returns-clause-done : goal.returns-clause-done
returns-clause-done c = λ m done. done_given c.args.draft.now.now c.set.new.self.now m c.args.at (c.keep_shape.ensures.sees.kind c.args.at c.requires.away) (ap (λ (d : Drafted). d.now) c.in-Ok-set.ensures.ok) done

pub returns-clause-keys : goal.returns-clause-keys
returns-clause-keys c = no_new_free c.args.draft.now.now c.set.new.self.now c.args.at (ap (λ (d : Drafted). d.now) c.in-Ok-set.ensures.ok)

pub returns-clause-used : goal.returns-clause-used
returns-clause-used c =
    let now = ap used_pages (ap (λ (d : Drafted). d.now) c.in-Ok-set.ensures.ok) in
    let less = used_over c.args.draft.now.now c.args.at Free (slotted_full c.args.draft.now.now c.args.at [] (c.keep_shape.ensures.sees.kind c.args.at c.requires.away)) in
    omega (arith, now, less)

pub returns-clause-bare : goal.returns-clause-bare
returns-clause-bare c =
    bare_given c.args.draft.now c.set.new.self c.args.at (c.keep_shape.ensures.sees.kind c.args.at c.requires.away)
    (page_given c.args.draft.now c.set.new.self c.args.at (ap (λ (d : Drafted). d.now) c.in-Ok-set.ensures.ok) (ap (λ (d : Drafted). d.away) c.in-Ok-set.ensures.ok) (ap (λ (d : Drafted). d.touched) c.in-Ok-set.ensures.ok))
