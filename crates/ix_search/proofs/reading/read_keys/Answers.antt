use Rattle.std.proofs.Common.{◌+◌, drop, ap}
use Rattle.ct_keep.specs.laws.Composing.{reads_on, reads_hold}
use Rattle.ix_tokens.specs.Tokens.{HoldsKey}
use Rattle.ct_base.specs.laws.Lists.{drop_next}
use Rattle.ix_search.proofs.ReadSteps.{read_on, read_ends, no_item, tokens_rise}
use Rattle.ix_tokens.specs.Looking.{key_looks}
use Rattle.ix_tokens.specs.laws.Looks.{looks_end}
use Rattle.ix_search.specs.Looking.{keys_looks}
use Rattle.ix_search.proofs.LookSteps.{looks_on}
use Rattle.ix_search.proofs.reading.read_keys.Goals as goal

pub loop-key-preserved : goal.loop-key-preserved
loop-key-preserved g c =
    let k = c.loop-key.key-index in
    let keys = c.args.keys.now in
    record {
      reads = reads_on _ _ _ _ c.loop-key.invariant.reads c.in_ok-rows.ensures.reads;
      looks = λ m told. looks_on (keys_looks m c.args.index.now c.args.stream (drop k keys)) (key_looks m c.args.index.now c.args.stream c.key-item.result) (keys_looks m c.args.index.now c.args.stream (drop (k + 1) keys)) (keys_looks m c.args.index.now c.args.stream keys) _ _ _ (c.loop-key.invariant.looks m told) (ap (keys_looks m c.args.index.now c.args.stream) (drop_next keys k c.key-item.result c.loop-key-test.true c.key-item.is)) (c.in_ok-rows.ensures.at_most m (reads_hold _ _ m c.loop-key.invariant.reads told));
      rise = tokens_rise _ _ c.in_ok-rows.rows c.loop-key.invariant.rise c.in_ok-rows.ensures.rise c.in_ok-put_one.ensures;
      rows = λ m held told each.
          read_on (λ key. HoldsKey m c.args.index.now c.args.stream key (held key)) held keys (drop k keys) (drop (k + 1) keys) c.key-item.result c.loop-key.tokens.items c.put_one.new.tokens.items c.in_ok-rows.rows
          (c.loop-key.invariant.rows m held told each) (drop_next keys k c.key-item.result c.loop-key-test.true c.key-item.is)
          (λ here. c.in_ok-rows.ensures.rows m (reads_hold _ _ m c.loop-key.invariant.reads told) (held c.key-item.result) here) c.in_ok-put_one.ensures;
    }

pub returns-clause-rows : goal.returns-clause-rows
returns-clause-rows g c = λ m told held each.
    read_ends (λ key. HoldsKey m c.args.index.now c.args.stream key (held key)) held c.args.keys.now _ _ (c.loop-key.invariant.rows m held told each) (no_item c.args.keys.now c.loop-key.key-index c.loop-key-test.false)

pub returns-clause-at_most : goal.returns-clause-at_most
returns-clause-at_most g c = λ m told. looks_end _ (keys_looks m c.args.index.now c.args.stream c.args.keys.now) _ _ (c.loop-key.invariant.looks m told)
