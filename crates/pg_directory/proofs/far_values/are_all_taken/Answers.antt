use Rattle.std.specs.Prelude.{Bool, false}
use Rattle.std.proofs.Common.{List, length, get_or, ap, refl, subst, arith, ◌∙◌}
use Rattle.std.proofs.lemmas.List.{length-map}
use Rattle.pg_map.specs.Kinds.{Free}
use Rattle.pg_directory.specs.declared.noting.PageNote.{PageNote}
use Rattle.pg_directory.specs.FarValues.{LeftIs}
use Rattle.pg_directory.specs.Noting.{note_of}
use Rattle.pg_directory.specs.Trees.{Plain}
use Rattle.pg_directory.proofs.ValuesTaken.{mark_is, none_left_yet, one_more, all_were_taken, one_is_left}
use Rattle.pg_directory.proofs.far_values.are_all_taken.Goals as goal

pub loop-i-init : goal.loop-i-init
loop-i-init c = λ pages notes. none_left_yet pages c.args.taken.now

pub returns-then-is_left-clause-no : goal.returns-then-is_left-clause-no
returns-then-is_left-clause-no c = λ is pages notes.
    one_is_left pages c.args.taken.now c.loop-i.i (get_or pages c.loop-i.i (Plain Free)) (get_or c.args.taken.now c.loop-i.i false) refl refl
    (subst (λ (b : Bool). LeftIs b (get_or pages c.loop-i.i (Plain Free)) (get_or c.args.taken.now c.loop-i.i false)) c.if-is_left.true
    (mark_is pages c.args.notes.now c.loop-i.i _ (get_or c.args.taken.now c.loop-i.i false) c.is_left.result notes c.loop-i-test.true c.is_left.ensures))

pub loop-i-preserved : goal.loop-i-preserved
loop-i-preserved c = λ pages notes.
    one_more pages c.args.taken.now c.loop-i.i (get_or pages c.loop-i.i (Plain Free)) (get_or c.args.taken.now c.loop-i.i false) refl refl
    (subst (λ (b : Bool). LeftIs b (get_or pages c.loop-i.i (Plain Free)) (get_or c.args.taken.now c.loop-i.i false)) c.if-is_left.false
    (mark_is pages c.args.notes.now c.loop-i.i _ (get_or c.args.taken.now c.loop-i.i false) c.is_left.result notes c.loop-i-test.true c.is_left.ensures)) (c.loop-i.invariant pages notes)

pub returns-clause-yes : goal.returns-clause-yes
returns-clause-yes c = λ is pages notes.
    all_were_taken pages c.args.taken.now c.loop-i.i (let long = ap (λ (l : List PageNote). length l) notes ∙ length-map pages note_of in omega (arith, c.loop-i-test.false, long)) (c.loop-i.invariant pages notes)
