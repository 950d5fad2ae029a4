use Rattle.std.proofs.Common.{List, ◌-◌, ◌∙◌, ◌++◌, refl, ap, arith}
use Rattle.ct_site.specs.laws.Calls.{same_then}
use Rattle.pg_directory.specs.Levels.{pages_of}
use Rattle.pg_directory.specs.declared.entries.Child.{Child}
use Rattle.pg_directory.proofs.DiskReads.{reads_none, reads_then}
use Rattle.pg_directory.proofs.LevelsRead.{none_read, next_read, no_level, too_many_above, to_leaves, level_none, level_some}
use Rattle.pg_directory.proofs.PageReads.{holds_then, same_itself}
use Rattle.pg_directory.proofs.levels_down.go_down.Goals as goal

pub loop-level-init : goal.loop-level-init
loop-level-init g c = record {
  cache = c.requires;
  same = same_itself _;
  reads = reads_none _;
  read = λ number pages holds. none_read pages c.args.level c.args.here.items c.new-numbers.result.items c.new-numbers.ensures.items;
}

pub returns-then-is_past-clause-levels : goal.returns-then-is_past-clause-levels
returns-then-is_past-clause-levels g c = λ number pages holds.
    let now = c.in-Ok.ensures ∙ ap (λ (l : List Child). c.loop-level.numbers.items ++ pages_of l) c.deref.ensures.value in
    too_many_above pages c.args.level c.args.here.items c.loop-level.level c.loop-level.here.items c.loop-level.numbers.items c.add_numbers.new.numbers.items c.args.limit
    (c.loop-level.invariant.read number pages holds) c.loop-level-test.true now (let past = c.is_past.ensures.yes c.if-is_past.true in omega (arith, past, c.len.ensures))

pub returns-in_default-found-clause-levels : goal.returns-in_default-found-clause-levels
returns-in_default-found-clause-levels g c = λ number pages holds.
    let r = c.in-Ok-read_level.ensures.level number pages (holds_then _ _ _ _ pages c.loop-level.invariant.same holds) in
    no_level pages c.args.level c.args.here.items c.loop-level.level c.loop-level.here.items c.loop-level.numbers.items c.args.limit (c.loop-level.invariant.read number pages holds) c.loop-level-test.true
    (level_none c.in-Ok-read_level.found pages c.loop-level.level c.deref-in-loop-level.result.now c.loop-level.here.items c.args.limit r c.in_default-found.is c.deref-in-loop-level.ensures.value)

pub loop-level-preserved : goal.loop-level-preserved
loop-level-preserved g c = record {
  cache = c.read_level.ensures.cache;
  same = same_then _ _ _ c.loop-level.invariant.same c.read_level.ensures.same;
  reads = reads_then _ _ _ tt _ _ refl c.loop-level.invariant.reads c.in-Ok-read_level.ensures.reads;
  read = λ number pages holds.
      let r = c.in-Ok-read_level.ensures.level number pages (holds_then _ _ _ _ pages c.loop-level.invariant.same holds) in
      let now = c.in-Ok.ensures ∙ ap (λ (l : List Child). c.loop-level.numbers.items ++ pages_of l) c.deref.ensures.value in
      next_read pages c.args.level c.args.here.items c.loop-level.level (c.loop-level.level - 1) c.loop-level.here.items c.in-Some.below.items c.loop-level.numbers.items c.add_numbers.new.numbers.items c.loop-level-test.true refl now
      (c.loop-level.invariant.read number pages holds) (level_some c.in-Ok-read_level.found c.in-Some.below pages c.loop-level.level c.deref-in-loop-level.result.now c.loop-level.here.items c.args.limit r c.in-Some.is c.deref-in-loop-level.ensures.value);
}

pub returns-clause-levels : goal.returns-clause-levels
returns-clause-levels g c = λ number pages holds.
    to_leaves pages c.args.level c.args.here.items c.loop-level.level c.loop-level.here.items c.loop-level.numbers.items c.args.limit (c.loop-level.invariant.read number pages holds) c.loop-level-test.false
