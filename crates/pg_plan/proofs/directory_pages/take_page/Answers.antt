use Rattle.std.proofs.Common.{refl, []}
use Rattle.pg_map.specs.Kinds.{Slotted}
use Rattle.pg_plan.specs.laws.Bare.{bare_taken}
use Rattle.pg_plan.specs.laws.Freeing.{used_up}
use Rattle.pg_plan.specs.laws.Touched.{touches_then}
use Rattle.pg_plan.proofs.Stepping.{fills_added, no_new_then}
use Rattle.pg_plan.proofs.DirectoryChanges.{done_taken, page_taken, no_new_taken}
use Rattle.pg_plan.proofs.directory_pages.take_page.Goals as goal

pub returns-clause-listed : goal.returns-clause-listed
returns-clause-listed c = used_up c.free_page.new.draft.now c.put.new.self.now c.free_page.new.hints.free.now c.in_ok-at.at (Slotted []) c.in_ok-at.ensures.listed refl c.in-Ok.ensures.now

pub returns-clause-taken : goal.returns-clause-taken
returns-clause-taken c = page_taken c.args.draft.now c.free_page.new.draft c.put.new.self c.in_ok-at.at c.free_page.ensures.grows c.keep_shape.ensures.sees c.in_ok-at.ensures.free c.in-Ok.ensures.now c.in-Ok.ensures.away c.in-Ok.ensures.notes

pub returns-clause-done : goal.returns-clause-done
returns-clause-done c = λ m done. done_taken c.args.draft.now.now c.free_page.new.draft.now c.put.new.self.now m c.in_ok-at.at c.in_ok-at.ensures.free c.in-Ok.ensures.now done

pub returns-clause-takes : goal.returns-clause-takes
returns-clause-takes c =
    fills_added c.args.draft.now c.free_page.new.draft c.put.new.self c.in_ok-at.at (Slotted []) c.free_page.ensures.takes c.in_ok-at.ensures.added c.in-Ok.ensures.now c.put.ensures.touches c.put.ensures.last

pub returns-clause-keys : goal.returns-clause-keys
returns-clause-keys c = no_new_then c.args.draft.now.now c.free_page.new.draft.now c.put.new.self.now c.free_page.ensures.keys (no_new_taken c.free_page.new.draft.now c.put.new.self.now c.in_ok-at.at c.in-Ok.ensures.now)

pub returns-clause-bare : goal.returns-clause-bare
returns-clause-bare c =
    bare_taken c.args.draft.now c.put.new.self c.in_ok-at.at (page_taken c.args.draft.now c.free_page.new.draft c.put.new.self c.in_ok-at.at c.free_page.ensures.grows c.keep_shape.ensures.sees c.in_ok-at.ensures.free c.in-Ok.ensures.now c.in-Ok.ensures.away c.in-Ok.ensures.notes)

pub returns-clause-touched : goal.returns-clause-touched
returns-clause-touched c = touches_then c.args.draft.now.touched c.free_page.new.draft.touched c.put.new.self.touched c.in_ok-at.at c.in_ok-at.ensures.added.touched c.in-Ok.ensures.touched
