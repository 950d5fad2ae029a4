use Rattle.std.proofs.Common.{ℕ, List, take, drop, length, get_or, ◌-◌, sym, subst, arith}
use Rattle.ct_site.specs.laws.Calls.{same_then}
use Rattle.pg_change.specs.NotedEdits.{edit_map}
use Rattle.pg_change.specs.Unmoved.{ArePagesNoted}
use Rattle.pg_change.proofs.DiskReads.{holds_still, reads_on, reads_yet, same_yet}
use Rattle.pg_change.proofs.NotedEdits.{first_rest, first_has, none_left, rest_has}
use Rattle.pg_change.proofs.Unmoved.{pages_none, pages_more}
use Rattle.pg_change.proofs.editing.note_pages.Goals as goal

pub overflow_sub-number : goal.overflow_sub-number
overflow_sub-number g c = (c.loop-rest.invariant.within _ (first_has c.loop-rest.rest.now c.in-len1-up.len_at_least)).0

pub sheet-sheet-requires : goal.sheet-sheet-requires
sheet-sheet-requires g c = let w = c.loop-rest.invariant.within _ (first_has c.loop-rest.rest.now c.in-len1-up.len_at_least) in let low = w.0 in let high = w.1 in omega (arith, low, high)

pub loop-rest-init : goal.loop-rest-init
loop-rest-init g c = record {
  within = c.requires.within;
  ordered = λ was. was;
  cache = c.requires.cache;
  same = same_yet _;
  reads = reads_yet _;
  noted = λ top pages holds all noted. noted;
}

pub loop-rest-preserved : goal.loop-rest-preserved
loop-rest-preserved g c =
    let rest = c.loop-rest.rest.now in
    let kinds = c.args.draft.now.now in
    let some = c.in-len1-up.len_at_least in
    let inv = c.loop-rest.invariant in
    record {
      within = λ n has. inv.within n (rest_has rest n some has);
      ordered = λ was. c.note_sheet.ensures.ordered (inv.ordered was);
      cache = c.note_sheet.ensures.cache;
      same = same_then _ _ _ inv.same c.note_sheet.ensures.same;
      reads = reads_on _ _ _ tt _ tt inv.reads c.in-Ok.ensures.reads;
      noted = λ top pages holds all noted.
          inv.noted top pages holds all
          (subst (λ (l : List ℕ). ArePagesNoted pages kinds l (edit_map c.loop-rest.edits.entries) all) (sym (first_rest rest some))
          (pages_more pages kinds (get_or rest 0 0) (take (length rest - 1) (drop 1 rest)) _ (edit_map c.loop-rest.edits.entries) (edit_map c.note_sheet.new.edits.entries) all c.sheet-sheet.ensures.kind
          (c.in-Ok.ensures.noted top pages (holds_still _ _ _ _ pages inv.same holds) (inv.within _ (first_has rest some)).0) noted));
    }

pub returns-clause-noted : goal.returns-clause-noted
returns-clause-noted g c = λ top pages holds.
    c.loop-rest.invariant.noted top pages holds (edit_map c.loop-rest.edits.entries)
    (subst (λ (l : List ℕ). ArePagesNoted pages c.args.draft.now.now l (edit_map c.loop-rest.edits.entries) (edit_map c.loop-rest.edits.entries)) (sym (none_left c.loop-rest.rest.now c.in_default.len_below))
    (pages_none pages c.args.draft.now.now (edit_map c.loop-rest.edits.entries)))
