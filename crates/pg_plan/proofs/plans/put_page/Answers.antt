use Rattle.pg_plan.specs.laws.Away.{here_free, stays_then}
use Rattle.pg_plan.proofs.Planning.{page_laid}
use Rattle.pg_plan.proofs.Stepping.{fills_added, no_new_long, no_new_then}
use Rattle.std.proofs.Common.{refl, ap, ◌∙◌, set, List, ℕ}
use Rattle.pg_map.specs.Kinds.{Long}
use Rattle.pg_plan.proofs.plans.put_page.Goals as goal

pub returns-clause-laid : goal.returns-clause-laid
returns-clause-laid c = λ m value chain.
    page_laid c.args.draft.now.now c.free_page.new.draft.now c.put.new.self.now c.in_ok-at.at c.args.next m c.args.bytes.now value c.in_ok-at.ensures.free
    (c.in-Ok-put.ensures.now ∙ ap (λ (l : List ℕ). set c.free_page.new.draft.now c.in_ok-at.at (Long c.args.next l)) c.in-Ok.ensures.items) c.requires.kind chain

pub returns-clause-takes : goal.returns-clause-takes
returns-clause-takes c =
    fills_added c.args.draft.now c.free_page.new.draft c.put.new.self c.in_ok-at.at (Long c.args.next c.in-Ok.bytes.items) c.free_page.ensures.takes c.in_ok-at.ensures.added c.in-Ok-put.ensures.now c.put.ensures.touches c.put.ensures.last

pub returns-clause-stays : goal.returns-clause-stays
returns-clause-stays c = stays_then c.args.draft.now c.free_page.new.draft c.put.new.self c.in_ok-at.ensures.stays (c.in-Ok-put.ensures.stays (here_free c.free_page.new.draft c.in_ok-at.at c.in_ok-at.ensures.free.free) refl)

pub returns-clause-keys : goal.returns-clause-keys
returns-clause-keys c = no_new_then c.args.draft.now.now c.free_page.new.draft.now c.put.new.self.now c.free_page.ensures.keys (no_new_long c.free_page.new.draft.now c.put.new.self.now c.in_ok-at.at c.args.next c.in-Ok.bytes.items c.in-Ok-put.ensures.now)
