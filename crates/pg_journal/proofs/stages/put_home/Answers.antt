use Rattle.std.proofs.Common.{refl, ◌∙◌, rules, ◌+◌, ◌*◌, get_or, arith}
use Rattle.std.proofs.lemmas.List.{drop_all}
use Rattle.std.proofs.lemmas.Result.{on_ok_weaker}
use Rattle.ct_site.specs.Disks.{works_then, leaves_then, leaves_more}
use Rattle.ct_site.specs.laws.Lengths.{grows_then, grows_same, within_grown, within_less}
use Rattle.pg_journal.proofs.Homes.{count_kept, has_kept, page_leaves, page_gives, page_grows, homes_begun, settling_now, at_home}
use Rattle.pg_journal.proofs.stages.put_home.Goals as goal

pub loop-i-init : goal.loop-i-init
loop-i-init g c = record {
  leaves = λ place aim image settled s. settling_now place _ aim image _ settled s;
  gives = λ place aim image settled s. homes_begun place _ aim image _ settled s;
  length = grows_same 0 _ _ refl;
  syncs = refl;
  works = search rules;
}

pub write-requires-clause-within : goal.write-requires-clause-within
write-requires-clause-within g c =
    let has = has_kept (g.B.ChangedPages.pages c.args.batch.now) _ _ c.numbers-numbers.ensures.between c.numbers-numbers.ensures.numbers c.loop-i.i c.loop-i-test.true in
    within_less (4096 * get_or c.numbers-numbers.result.now c.loop-i.i 0 + 4096) _ _ (omega arith) (within_grown _ 0 _ _ c.loop-i.invariant.works.untold c.loop-i.invariant.length (c.requires.within _ has))

pub returns-in_err-write-clause-moments : goal.returns-in_err-write-clause-moments
returns-in_err-write-clause-moments g c = λ place aim image settled s.
    page_leaves (g.B.ChangedPages.pages c.args.batch.now) _ _ c.numbers-numbers.ensures.between c.numbers-numbers.ensures.numbers c.loop-i.i c.loop-i-test.true _ c.image.ensures _ _ place aim _ c.write.result c.write.ensures.writes
    (c.loop-i.invariant.leaves place aim image settled s)

pub returns-in_err-write-clause-length : goal.returns-in_err-write-clause-length
returns-in_err-write-clause-length g c =
    grows_then 0 _ _ _ c.write.ensures.works.untold c.loop-i.invariant.length
    (page_grows (g.B.ChangedPages.pages c.args.batch.now) _ _ c.numbers-numbers.ensures.between c.numbers-numbers.ensures.numbers c.loop-i.i c.loop-i-test.true _ c.image.ensures _ _ c.write.result
    (λ k has. within_grown _ 0 _ _ c.loop-i.invariant.works.untold c.loop-i.invariant.length (c.requires.within k has)) c.write.ensures.writes)

pub loop-i-preserved : goal.loop-i-preserved
loop-i-preserved g c = record {
  leaves = λ place aim image settled s.
      page_leaves (g.B.ChangedPages.pages c.args.batch.now) _ _ c.numbers-numbers.ensures.between c.numbers-numbers.ensures.numbers c.loop-i.i c.loop-i-test.true _ c.image.ensures _ _ place aim _ c.write.result c.write.ensures.writes
      (c.loop-i.invariant.leaves place aim image settled s);
  gives = λ place aim image settled s.
      page_gives (g.B.ChangedPages.pages c.args.batch.now) _ _ c.numbers-numbers.ensures.between c.numbers-numbers.ensures.numbers c.loop-i.i c.loop-i-test.true _ c.image.ensures _ _ place aim c.in_ok-write.ensures.writes
      (c.loop-i.invariant.gives place aim image settled s);
  length =
      grows_then 0 _ _ _ c.write.ensures.works.untold c.loop-i.invariant.length
      (page_grows (g.B.ChangedPages.pages c.args.batch.now) _ _ c.numbers-numbers.ensures.between c.numbers-numbers.ensures.numbers c.loop-i.i c.loop-i-test.true _ c.image.ensures _ _ c.write.result
      (λ k has. within_grown _ 0 _ _ c.loop-i.invariant.works.untold c.loop-i.invariant.length (c.requires.within k has)) c.write.ensures.writes);
  syncs = c.in_ok-write.ensures.syncs ∙ c.loop-i.invariant.syncs;
  works = works_then _ _ _ tt _ c.loop-i.invariant.works c.in_ok-write.ensures.works;
}

pub returns-clause-moments : goal.returns-clause-moments
returns-clause-moments g c = λ place aim image settled s.
    let first = c.loop-i.invariant.leaves place aim image settled s in
    leaves_then _ _ _ _ first (leaves_more _ _ _ _ c.sync.ensures.leaves first.now)

pub returns-clause-home : goal.returns-clause-home
returns-clause-home g c = λ place aim image settled s.
    let given = c.loop-i.invariant.gives place aim image settled s in
    let count = count_kept (g.B.ChangedPages.pages c.args.batch.now) _ _ c.numbers-numbers.ensures.between c.numbers-numbers.ensures.numbers in
    on_ok_weaker c.sync.result (at_home place _ _ aim _ _ (drop_all _ (g.B.ChangedPages.pages c.args.batch.now) (omega (arith, c.loop-i-test.false, count))) given c.sync.ensures.image) (c.sync.ensures.durable given.image given.is)

pub returns-clause-length : goal.returns-clause-length
returns-clause-length g c = grows_then 0 _ _ _ c.sync.ensures.works.untold c.loop-i.invariant.length (grows_same 0 _ _ c.sync.ensures.image)
