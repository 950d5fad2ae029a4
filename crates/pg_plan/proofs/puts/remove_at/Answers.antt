use Rattle.std.proofs.Common.{rules, ap, None, refl}
use Rattle.ct_keep.specs.Content.{set_to}
use Rattle.std.specs.FinMap.{get}
use Rattle.pg_plan.specs.Drafts.{Drafted}
use Rattle.pg_plan.specs.Planned.{IsTaking}
use Rattle.pg_batch.specs.BatchPages.{entry_pages}
use Rattle.pg_plan.specs.laws.Away.{stays_then}
use Rattle.pg_plan.proofs.Taking.{takes}
use Rattle.pg_plan.proofs.Stepping.{no_new_then, no_new_without, page_put, removal_touches}
use Rattle.pg_plan.proofs.puts.remove_at.Goals as goal

pub returns-clause-gone : goal.returns-clause-gone
returns-clause-gone c = λ m done.
    let put = page_put c.args.draft.now.now c.set.new.self.now c.args.at c.in-Ok.rest.value c.in-Some.rest (ap (λ (d : Drafted). d.now) c.in-Ok-set.ensures.ok) c.in-Ok.ensures.ok in
    let t = takes c.args.draft.now.now c.set.new.self.now m c.args.at c.args.key.now c.in-Some.rest c.in-Some.first c.in-Some.count done (search rules) put in
    c.in_ok-free_long.ensures.freed (set_to c.args.key.now None m) t.value t.chain t.long

pub returns-clause-touches : goal.returns-clause-touches
returns-clause-touches c = λ m done.
    let put = page_put c.args.draft.now.now c.set.new.self.now c.args.at c.in-Ok.rest.value c.in-Some.rest (ap (λ (d : Drafted). d.now) c.in-Ok-set.ensures.ok) c.in-Ok.ensures.ok in
    let t = takes c.args.draft.now.now c.set.new.self.now m c.args.at c.args.key.now c.in-Some.rest c.in-Some.first c.in-Some.count done (search rules) put in
    removal_touches c.args.draft.now c.set.new.self c.free_long.new.draft c.args.at c.in-Some.count (entry_pages c.args.key.now (get m c.args.key.now)) (ap (λ (d : Drafted). d.touched) c.in-Ok-set.ensures.ok) (c.free_long.ensures.touches (set_to c.args.key.now None m) t.value t.chain t.long) t.pages

pub returns-in_err-free_long-clause-touches : goal.returns-in_err-free_long-clause-touches
returns-in_err-free_long-clause-touches c = λ m done.
    let put = page_put c.args.draft.now.now c.set.new.self.now c.args.at c.in-Ok.rest.value c.in-Some.rest (ap (λ (d : Drafted). d.now) c.in-Ok-set.ensures.ok) c.in-Ok.ensures.ok in
    let t = takes c.args.draft.now.now c.set.new.self.now m c.args.at c.args.key.now c.in-Some.rest c.in-Some.first c.in-Some.count done (search rules) put in
    removal_touches c.args.draft.now c.set.new.self c.free_long.new.draft c.args.at c.in-Some.count (entry_pages c.args.key.now (get m c.args.key.now)) (ap (λ (d : Drafted). d.touched) c.in-Ok-set.ensures.ok) (c.free_long.ensures.touches (set_to c.args.key.now None m) t.value t.chain t.long) t.pages

pub returns-clause-keys : goal.returns-clause-keys
returns-clause-keys c =
    let put = page_put c.args.draft.now.now c.set.new.self.now c.args.at c.in-Ok.rest.value c.in-Some.rest (ap (λ (d : Drafted). d.now) c.in-Ok-set.ensures.ok) c.in-Ok.ensures.ok in
    let t : IsTaking c.args.draft.now.now c.args.at c.args.key.now c.in-Some.rest c.in-Some.first c.in-Some.count = search rules in
    no_new_then c.args.draft.now.now c.set.new.self.now c.free_long.new.draft.now (no_new_without c.args.draft.now.now c.set.new.self.now c.args.at t.number t.strings c.in-Some.rest t.kind t.rest_is put) c.free_long.ensures.keys

pub returns-in_err-free_long-clause-keys : goal.returns-in_err-free_long-clause-keys
returns-in_err-free_long-clause-keys c =
    let put = page_put c.args.draft.now.now c.set.new.self.now c.args.at c.in-Ok.rest.value c.in-Some.rest (ap (λ (d : Drafted). d.now) c.in-Ok-set.ensures.ok) c.in-Ok.ensures.ok in
    let t : IsTaking c.args.draft.now.now c.args.at c.args.key.now c.in-Some.rest c.in-Some.first c.in-Some.count = search rules in
    no_new_then c.args.draft.now.now c.set.new.self.now c.free_long.new.draft.now (no_new_without c.args.draft.now.now c.set.new.self.now c.args.at t.number t.strings c.in-Some.rest t.kind t.rest_is put) c.free_long.ensures.keys

pub returns-clause-stays : goal.returns-clause-stays
returns-clause-stays c = stays_then c.args.draft.now c.set.new.self c.free_long.new.draft (c.in-Ok-set.ensures.stays c.in-Some.ensures.here refl) c.in_ok-free_long.ensures.stays
