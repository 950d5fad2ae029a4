use Rattle.std.specs.Prelude.{map}
use Rattle.std.proofs.Common.{◌∙◌, arith, rules}
use Rattle.std.proofs.lemmas.List.{length-map}
use Rattle.pg_directory.specs.FirstPass.{far_of}
use Rattle.pg_directory.specs.Trees.{kind_of}
use Rattle.pg_directory.proofs.ValuesTaken.{none_yet, far_taken, far_missing, all_values}
use Rattle.pg_directory.proofs.far_values.take_values.Goals as goal

pub loop-i-init : goal.loop-i-init
loop-i-init c = record {
  long = search rules;
  part = λ pages items are notes far. none_yet (map kind_of pages) items (map far_of c.args.far.now) c.args.taken.now far;
}

pub returns-then-not-take_chain-clause-stand : goal.returns-then-not-take_chain-clause-stand
returns-then-not-take_chain-clause-stand c = λ pages items are notes far.
    far_missing (map kind_of pages) items c.args.far.now c.loop-i.i c.loop-i-test.true c.args.taken.now c.loop-i.taken (c.loop-i.invariant.part pages items are notes far) c.take_chain.new.taken c.take_chain.result c.if-not-take_chain.true
    (c.take_chain.ensures.taken pages are notes)

pub loop-i-preserved : goal.loop-i-preserved
loop-i-preserved c = record {
  long = c.take_chain.ensures.long ∙ c.loop-i.invariant.long;
  part = λ pages items are notes far.
      far_taken (map kind_of pages) items c.args.far.now c.loop-i.i c.loop-i-test.true c.args.taken.now c.loop-i.taken (c.loop-i.invariant.part pages items are notes far) c.take_chain.new.taken c.take_chain.result c.if-not-take_chain.false
      (c.take_chain.ensures.taken pages are notes);
}

pub returns-clause-stand : goal.returns-clause-stand
returns-clause-stand c = λ pages items are notes far.
    all_values (map kind_of pages) items (map far_of c.args.far.now) c.loop-i.i c.args.taken.now c.loop-i.taken (omega (arith, c.loop-i-test.false, length-map c.args.far.now far_of)) (c.loop-i.invariant.part pages items are notes far)
