use Rattle.std.specs.Prelude.{map}
use Rattle.std.proofs.Common.{ℕ, length, length-append, [], ◌∷◌, Option, refl, ap, subst, ◌∙◌, ◌≡◌, arith}
use Rattle.ct_site.specs.laws.Calls.{same_then}
use Rattle.pg_directory.specs.declared.noting.PageNote.{PageNote}
use Rattle.pg_directory.specs.FirstPass.{far_of, ReadsFirst, AreStorePages}
use Rattle.pg_directory.proofs.DiskReads.{reads_none, reads_then}
use Rattle.pg_directory.proofs.Firsts.{none_passed, one_passed, none_there}
use Rattle.pg_directory.proofs.PageReads.{same_itself}
use Rattle.pg_directory.proofs.passing.first_pass.Goals as goal

pub loop-i-init : goal.loop-i-init
loop-i-init g c = record { same = same_itself _; count = ap length c.new-notes.ensures.items; reads = reads_none _; passed = λ image told. none_passed image c.new-notes.result.items (map far_of c.new-far.result.items) c.new-notes.ensures.items (ap (map far_of) c.new-far.ensures.items) }

pub returns-in_default-found-clause-pass : goal.returns-in_default-found-clause-pass
returns-in_default-found-clause-pass g c = λ image told.
    none_there image c.in-Ok.bytes c.loop-i.i c.args.count (map far_of c.loop-i.far.items) (map far_of c.read_first.new.far.items) c.loop-i-test.true (c.in-Ok.ensures.bytes image (c.loop-i.invariant.same.image ∙ told))
    (subst (λ (o : Option PageNote). ReadsFirst o c.in-Ok.bytes (map far_of c.loop-i.far.items) (map far_of c.read_first.new.far.items)) c.in_default-found.is c.in-Ok-read_first.ensures)

pub loop-i-preserved : goal.loop-i-preserved
loop-i-preserved g c = record {
  same = same_then _ _ _ c.loop-i.invariant.same c.read_page.ensures.same;
  count = let e = ap length c.in-Ok-push.ensures.items in let l = length-append c.loop-i.notes.items (c.in-Some.note ∷ []) in let was = c.loop-i.invariant.count in omega (arith, e, l, was);
  reads = reads_then _ _ _ tt _ _ refl c.loop-i.invariant.reads c.in-Ok.ensures.reads;
  passed = λ image told.
      one_passed image c.in-Ok.bytes c.loop-i.i c.loop-i.notes.items _ c.in-Some.note (map far_of c.loop-i.far.items) (map far_of c.read_first.new.far.items) (c.loop-i.invariant.passed image told)
      (c.in-Ok.ensures.bytes image (c.loop-i.invariant.same.image ∙ told))
      (subst (λ (o : Option PageNote). ReadsFirst o c.in-Ok.bytes (map far_of c.loop-i.far.items) (map far_of c.read_first.new.far.items)) c.in-Some.is c.in-Ok-read_first.ensures) c.in-Ok-push.ensures.items;
}

pub returns-clause-pass : goal.returns-clause-pass
returns-clause-pass g c = λ image told.
    let p = c.loop-i.invariant.passed image told in
    let all : c.loop-i.i ≡ c.args.count = omega (arith, c.loop-i.auto.i-end, c.loop-i-test.false) in
    (p.pages, p.items, subst (λ (n : ℕ). AreStorePages image n p.pages p.items) all p.are, p.notes_are, p.far_are)
