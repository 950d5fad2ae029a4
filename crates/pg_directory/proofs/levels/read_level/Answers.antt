use Rattle.std.specs.Prelude.{Bool}
use Rattle.std.proofs.Common.{get_or, refl, subst, arith}
use Rattle.ct_site.specs.laws.Calls.{same_then}
use Rattle.pg_directory.specs.Pages.{no_child}
use Rattle.pg_directory.specs.ReadLevels.{TakesChild}
use Rattle.pg_directory.proofs.DiskReads.{reads_none, reads_then}
use Rattle.pg_directory.proofs.LevelReads.{none_taken, one_taken, not_taken, too_many, all_taken}
use Rattle.pg_directory.proofs.PageReads.{holds_then, same_itself}
use Rattle.pg_directory.proofs.levels.read_level.Goals as goal

pub loop-i-init : goal.loop-i-init
loop-i-init g c = record {
  cache = c.requires.cache;
  same = same_itself _;
  reads = reads_none _;
  taken = λ top pages holds. none_taken pages c.args.level c.args.children.now c.new-named.result.items c.new-named.ensures.items;
}

pub returns-then-not-is_taken-clause-level : goal.returns-then-not-is_taken-clause-level
returns-then-not-is_taken-clause-level g c = λ top pages holds.
    let t = c.in-Ok.ensures.takes top pages (holds_then _ _ _ _ pages c.loop-i.invariant.same holds) in
    not_taken pages c.args.level c.args.children.now c.loop-i.i c.loop-i-test.true c.loop-i.named.items (c.loop-i.invariant.taken top pages holds) c.take_child.new.into.items c.args.limit
    (subst (λ (b : Bool). TakesChild b pages c.args.level (get_or c.args.children.now c.loop-i.i no_child) c.loop-i.named.items c.take_child.new.into.items) c.if-not-is_taken.true t)

pub returns-then-is_past-clause-level : goal.returns-then-is_past-clause-level
returns-then-is_past-clause-level g c = λ top pages holds.
    let t = c.in-Ok.ensures.takes top pages (holds_then _ _ _ _ pages c.loop-i.invariant.same holds) in
    let on = one_taken pages c.args.level c.args.children.now c.loop-i.i c.loop-i-test.true c.loop-i.named.items (c.loop-i.invariant.taken top pages holds) c.take_child.new.into.items
    (subst (λ (b : Bool). TakesChild b pages c.args.level (get_or c.args.children.now c.loop-i.i no_child) c.loop-i.named.items c.take_child.new.into.items) c.if-not-is_taken.false t) in
    too_many pages c.args.level c.args.children.now _ c.take_child.new.into.items c.args.limit on (let past = c.is_past.ensures.yes c.if-is_past.true in omega (arith, past, c.len.ensures))

pub loop-i-preserved : goal.loop-i-preserved
loop-i-preserved g c = record {
  cache = c.take_child.ensures.cache;
  same = same_then _ _ _ c.loop-i.invariant.same c.take_child.ensures.same;
  reads = reads_then _ _ _ tt _ _ refl c.loop-i.invariant.reads c.in-Ok.ensures.reads;
  taken = λ top pages holds.
      let t = c.in-Ok.ensures.takes top pages (holds_then _ _ _ _ pages c.loop-i.invariant.same holds) in
      one_taken pages c.args.level c.args.children.now c.loop-i.i c.loop-i-test.true c.loop-i.named.items (c.loop-i.invariant.taken top pages holds) c.take_child.new.into.items
      (subst (λ (b : Bool). TakesChild b pages c.args.level (get_or c.args.children.now c.loop-i.i no_child) c.loop-i.named.items c.take_child.new.into.items) c.if-not-is_taken.false t);
}

pub returns-clause-level : goal.returns-clause-level
returns-clause-level g c = λ top pages holds. all_taken pages c.args.level c.args.children.now c.loop-i.named.items c.loop-i.i c.args.limit (omega (arith, c.loop-i-test.false)) (c.loop-i.invariant.taken top pages holds)
