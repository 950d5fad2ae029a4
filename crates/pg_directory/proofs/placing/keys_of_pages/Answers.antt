use Rattle.std.proofs.Common.{◌+◌, refl, ap, arith}
use Rattle.ct_site.specs.laws.Calls.{same_then}
use Rattle.pg_directory.specs.Placing.{keyed_places}
use Rattle.pg_directory.proofs.DirectoryOpens.{note_behind}
use Rattle.pg_directory.proofs.DiskReads.{reads_none, reads_then}
use Rattle.pg_directory.proofs.PageReads.{holds_then, same_itself}
use Rattle.pg_directory.proofs.Placings.{pages_more, all_pages}
use Rattle.pg_directory.proofs.placing.keys_of_pages.Goals as goal

pub loop-i-init : goal.loop-i-init
loop-i-init g c = record {
  cache = c.requires.cache;
  same = same_itself _;
  reads = reads_none _;
  keys = λ top pages holds are. ap keyed_places c.new-keys.ensures.items;
}

pub loop-i-preserved : goal.loop-i-preserved
loop-i-preserved g c = record {
  cache = c.put_noted.ensures.cache;
  same = same_then _ _ _ c.loop-i.invariant.same c.put_noted.ensures.same;
  reads = reads_then _ _ _ tt _ _ refl c.loop-i.invariant.reads c.in-Ok.ensures.reads;
  keys = λ top pages holds are.
      let n = note_behind pages c.args.notes.now c.loop-i.i _ are c.loop-i-test.true in
      pages_more pages c.loop-i.i (3 + c.loop-i.i) (keyed_places c.loop-i.keys.items) (keyed_places c.put_noted.new.into.items) n.0 refl (c.loop-i.invariant.keys top pages holds are)
      (c.in-Ok.ensures.keys top pages (holds_then _ _ _ _ pages c.loop-i.invariant.same holds) n.1 (omega arith) (let l = n.0 in let h = holds.count in omega (arith, l, h)));
}

pub returns-clause-keys : goal.returns-clause-keys
returns-clause-keys g c = λ top pages holds are. all_pages pages c.args.notes.now c.loop-i.i (keyed_places c.loop-i.keys.items) are (omega (arith, c.loop-i-test.false)) (c.loop-i.invariant.keys top pages holds are)
