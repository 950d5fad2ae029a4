use Rattle.std.specs.Prelude.{map, Vec}
use Rattle.std.specs.declared.alloc.Global.{Global}
use Rattle.std.proofs.Common.{◌≡◌, ℕ, List, sym, ap, subst, ◌∙◌}
use Rattle.ct_site.specs.Disks.{Leaves}
use Rattle.ct_keep.specs.Content.{Content, after}
use Rattle.ct_keep.specs.SeenChanges.{change_of}
use Rattle.pg_window.specs.declared.sheets.Sheet.{Sheet}
use Rattle.pg_plan.specs.Drafts.{Drafted}
use Rattle.pg_plan.specs.FreePlaces.{FreePlaces}
use Rattle.pg_change.specs.Resting.{IsResting}
use Rattle.pg_change.specs.laws.Resting.{rests_as_before}
use Rattle.pg_heap.specs.Applying.{IsEitherMap}
use Rattle.pg_heap.specs.BatchLengths.{EndsWithin}
use Rattle.pg_heap.specs.Batching.{first_draft, IsBatchMade}
use Rattle.pg_heap.proofs.Batching.{begun_as, rest_made}
use Rattle.pg_heap.proofs.batches.write_batch.Goals as goal

pub returns-in-Ok-clause-moments : goal.returns-in-Ok-clause-moments
returns-in-Ok-clause-moments g c =
    let began = c.begin-draft.ensures ∙ ap (λ (v : Vec Sheet Global). first_draft v.items) c.replace.ensures.value in
    begun_as (λ (m : Content). Leaves (g.D.Disk.disk c.args.disk.now) (g.D.Disk.disk c.commit_asked.new.disk) (IsEitherMap m (after (map change_of c.args.asked.now.changes.items) m)))
    c.deref.result.now c.args.begun.places.items c.begin-draft.result (first_draft c.args.sheets.now.items) c.deref.ensures.value began c.commit_asked.ensures.moments

pub returns-in-Ok-clause-made : goal.returns-in-Ok-clause-made
returns-in-Ok-clause-made g c =
    let began = c.begin-draft.ensures ∙ ap (λ (v : Vec Sheet Global). first_draft v.items) c.replace.ensures.value in
    let free : c.commit_asked.new.hints.free.now ≡ c.put_before.new.hints.free.now = sym (ap (λ (f : FreePlaces). f.now) (c.put_before.ensures ∙ c.settle.ensures)) in
    begun_as (λ (m : Content). IsBatchMade (g.D.Disk.disk c.commit_asked.new.disk) c.commit_asked.new.journal (after (map change_of c.args.asked.now.changes.items) m) c.put_before.new.hints.free.now c.commit_asked.new.counts c.in-Ok.planned.top c.in-Ok.planned.directory)
    c.deref.result.now c.args.begun.places.items c.begin-draft.result (first_draft c.args.sheets.now.items) c.deref.ensures.value began
    (λ b. subst (λ (f : List ℕ). IsBatchMade (g.D.Disk.disk c.commit_asked.new.disk) c.commit_asked.new.journal (after (map change_of c.args.asked.now.changes.items) b.held) f c.commit_asked.new.counts c.in-Ok.planned.top c.in-Ok.planned.directory) free (c.in-Ok.ensures.made b))

pub returns-in-Ok-clause-rests : goal.returns-in-Ok-clause-rests
returns-in-Ok-clause-rests g c = λ before r l.
    let began = c.begin-draft.ensures ∙ ap (λ (v : Vec Sheet Global). first_draft v.items) c.replace.ensures.value in
    let free : c.commit_asked.new.hints.free.now ≡ c.put_before.new.hints.free.now = sym (ap (λ (f : FreePlaces). f.now) (c.put_before.ensures ∙ c.settle.ensures)) in
    subst (λ (f : List ℕ). IsResting c.rest_all.new.sheets.items c.commit_asked.new.journal f) free
    (rest_made before c.args.sheets.now.items c.finish.result.items c.rest_all.new.sheets.items c.args.journal.now c.commit_asked.new.journal c.args.hints.now.free.now c.commit_asked.new.hints.free.now c.args.begun.loaded.items c.in-Ok.planned.numbers
    c.deref-in-Ok.result.now c.behind_root.result.now c.commit_asked.new.draft r l (c.commit_asked.ensures.before ∙ ap (λ (d : Drafted). d.before) began) c.finish.ensures.kinds c.finish.ensures.away c.in-Ok.ensures.touched c.in-Ok.ensures.listed
    c.deref-in-Ok.ensures.value c.behind_root.ensures c.rest_all.ensures c.in-Ok.ensures.homes)

pub returns-clause-moments : goal.returns-clause-moments
returns-clause-moments g c =
    let began = c.begin-draft.ensures ∙ ap (λ (v : Vec Sheet Global). first_draft v.items) c.replace.ensures.value in
    begun_as (λ (m : Content). Leaves (g.D.Disk.disk c.args.disk.now) (g.D.Disk.disk c.commit_asked.new.disk) (IsEitherMap m (after (map change_of c.args.asked.now.changes.items) m)))
    c.deref.result.now c.args.begun.places.items c.begin-draft.result (first_draft c.args.sheets.now.items) c.deref.ensures.value began c.commit_asked.ensures.moments

pub returns-clause-back : goal.returns-clause-back
returns-clause-back g c = λ before r l.
    let began = c.begin-draft.ensures ∙ ap (λ (v : Vec Sheet Global). first_draft v.items) c.replace.ensures.value in
    c.unload.ensures.sheets ∙ rests_as_before before c.args.sheets.now.items c.args.journal.now c.args.hints.now.free.now c.args.begun.loaded.items c.roll_back.result.items r l (c.roll_back.ensures ∙ c.commit_asked.ensures.before ∙ ap (λ (d : Drafted). d.before) began)

pub returns-in-Ok-clause-ends : goal.returns-in-Ok-clause-ends
returns-in-Ok-clause-ends g c =
    let began = c.begin-draft.ensures ∙ ap (λ (v : Vec Sheet Global). first_draft v.items) c.replace.ensures.value in
    begun_as (λ (m : Content). EndsWithin c.args.journal.now c.args.hints.now.free.now (map change_of c.args.asked.now.changes.items) m (g.D.Disk.disk c.args.disk.now) (g.D.Disk.disk c.commit_asked.new.disk))
    c.deref.result.now c.args.begun.places.items c.begin-draft.result (first_draft c.args.sheets.now.items) c.deref.ensures.value began c.commit_asked.ensures.ends

pub returns-clause-ends : goal.returns-clause-ends
returns-clause-ends g c =
    let began = c.begin-draft.ensures ∙ ap (λ (v : Vec Sheet Global). first_draft v.items) c.replace.ensures.value in
    begun_as (λ (m : Content). EndsWithin c.args.journal.now c.args.hints.now.free.now (map change_of c.args.asked.now.changes.items) m (g.D.Disk.disk c.args.disk.now) (g.D.Disk.disk c.commit_asked.new.disk))
    c.deref.result.now c.args.begun.places.items c.begin-draft.result (first_draft c.args.sheets.now.items) c.deref.ensures.value began c.commit_asked.ensures.ends
