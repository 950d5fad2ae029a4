use Rattle.std.proofs.Common.{◌≡◌, [], arith}
use Rattle.std.proofs.lemmas.Grind.{common_steps}
use Rattle.ct_keep.specs.laws.Composing.{reads_on, reads_hold}
use Rattle.q_reduce.specs.Results.{named_pairs}
use Rattle.db_index.proofs.LoadSteps.{load_on, load_ends}
use Rattle.db_index.proofs.thesauri.load_each.Goals as goal

pub loop-name-preserved : goal.loop-name-preserved
loop-name-preserved g c = record {
  reads = reads_on _ _ _ _ c.loop-name.invariant.reads c.in_ok-put_thesaurus.ensures.reads;
  each = λ m k holds stands.
      load_on m.thesauri c.args.names.items c.loop-name.name-iterator.rest.items c.next.new.self.rest.items c.in-Some.name (named_pairs c.loop-name.loaded.items) _ (c.loop-name.invariant.each m k holds stands) c.in-Some.ensures.steps.0
      (c.in_ok-put_thesaurus.ensures.more m k (reads_hold _ _ k c.loop-name.invariant.reads holds) stands);
}

pub returns-clause-each : goal.returns-clause-each
returns-clause-each g c = λ m k holds stands.
    let none : c.loop-name.name-iterator.rest.items ≡ [] = grind (arith, common_steps, c.in-None.ensures) in
    load_ends m.thesauri c.args.names.items c.loop-name.name-iterator.rest.items (named_pairs c.loop-name.loaded.items) (c.loop-name.invariant.each m k holds stands) none
