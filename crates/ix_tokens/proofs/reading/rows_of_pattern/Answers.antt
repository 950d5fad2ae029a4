use Rattle.std.proofs.Common.{◌≡◌, ◌≤◌, ◌-◌, ◌+◌, ℕ, List, sym, subst, ◌∙◌, arith}
use Rattle.std.specs.Str.{IsUtf8}
use Rattle.ct_keep.specs.KeeperViews.{Counts}
use Rattle.ct_keep.specs.Looks.{RisesBy}
use Rattle.ct_keep.specs.laws.Composing.{reads_on, reads_hold}
use Rattle.q_match.specs.Literals.{leading_literal}
use Rattle.ix_tokens.specs.Looking.{length_looks, lengths_looks, pattern_looks, LooksLeft}
use Rattle.ix_tokens.specs.Rising.{EachRises}
use Rattle.ix_tokens.specs.Scanned.{AreRowsOfLength}
use Rattle.ix_tokens.proofs.Looks.{length_looked, looks_on, one_length_more}
use Rattle.ix_tokens.proofs.Steps.{counts_end, counts_on, rises_both, size_more, sizes_end}
use Rattle.ix_tokens.proofs.reading.rows_of_pattern.Goals as goal

pub returns-in_err-found-clause-at_most : goal.returns-in_err-found-clause-at_most
returns-in_err-found-clause-at_most g c = λ m told.
    length_looked m c.args.index.now c.args.stream c.args.pattern.now c.loop-size.size c.as_bytes.result.now _ _ _ (omega (arith, c.loop-size-test.true)) (c.as_bytes.ensures.value ∙ c.leading_literal-literal.ensures)
    (c.loop-size.invariant.looks m told) (c.in_err-found.ensures.at_most m (reads_hold _ _ m c.loop-size.invariant.reads told))

pub returns-in_err-put_all-clause-at_most : goal.returns-in_err-put_all-clause-at_most
returns-in_err-put_all-clause-at_most g c = λ m told.
    length_looked m c.args.index.now c.args.stream c.args.pattern.now c.loop-size.size c.as_bytes.result.now _ _ _ (omega (arith, c.loop-size-test.true)) (c.as_bytes.ensures.value ∙ c.leading_literal-literal.ensures)
    (c.loop-size.invariant.looks m told) (c.in_ok-found.ensures.at_most m (reads_hold _ _ m c.loop-size.invariant.reads told))

pub loop-size-preserved : goal.loop-size-preserved
loop-size-preserved g c =
    let i = c.args.index.now in
    let s = c.args.stream in
    let p = c.args.pattern.now in
    let n = c.loop-size.size in
    let literal : c.as_bytes.result.now ≡ leading_literal p = c.as_bytes.ensures.value ∙ c.leading_literal-literal.ensures in
    let old = (g.K.Keeper.view c.args.keeper.now).counts in
    let mid = (g.K.Keeper.view c.loop-size.keeper).counts in
    let new = (g.K.Keeper.view c.rows_of_size.new.keeper).counts in
    let low : n ≤ 255 = omega (arith, c.loop-size-test.true) in
    let found = c.in_ok-found.found.items in
    record {
      reads = reads_on _ _ _ _ c.loop-size.invariant.reads c.in_ok-found.ensures.reads;
      looks = λ m told.
          looks_on (length_looks m i s (leading_literal p) n) (lengths_looks m i s (leading_literal p) (256 - (n + 1)) (n + 1)) (pattern_looks m i s p) old mid new
          (subst (λ (x : Counts). LooksLeft x (pattern_looks m i s p) old mid) (one_length_more m i s (leading_literal p) n low) (c.loop-size.invariant.looks m told))
          (subst (λ (l : List ℕ). RisesBy (length_looks m i s l n) mid new) literal (c.in_ok-found.ensures.at_most m (reads_hold _ _ m c.loop-size.invariant.reads told)));
      rise = subst EachRises (sym c.in_ok-put_all.ensures) (rises_both c.loop-size.tokens.items found c.loop-size.invariant.rise c.in_ok-found.ensures.rise);
      counted = λ m told.
          counts_on m i s p n c.loop-size.tokens.items found c.put_all.new.tokens.items low
          (subst (λ (l : List ℕ). AreRowsOfLength m i s p l n found) literal (c.in_ok-found.ensures.rows m (reads_hold _ _ m c.loop-size.invariant.reads told))).count
          c.in_ok-put_all.ensures (c.loop-size.invariant.counted m told);
      some = let some = c.loop-size.invariant.some in omega (arith, some);
      long = let long = c.loop-size.invariant.long in omega (arith, long);
      rows = λ m held told holds.
          size_more m i s p held holds n c.loop-size.invariant.long c.loop-size.invariant.some low c.leading_literal_law.ensures (subst IsUtf8 c.leading_literal-literal.ensures c.leading_literal-literal.utf8) c.loop-size.tokens.items found c.put_all.new.tokens.items
          (c.loop-size.invariant.rows m held told holds)
          (subst (λ (l : List ℕ). AreRowsOfLength m i s p l n found) literal (c.in_ok-found.ensures.rows m (reads_hold _ _ m c.loop-size.invariant.reads told))).taken
          c.in_ok-put_all.ensures;
    }

pub returns-clause-rows : goal.returns-clause-rows
returns-clause-rows g c = λ m told held holds. sizes_end held c.args.stream c.args.pattern.now c.loop-size.size c.loop-size.tokens.items (c.loop-size.invariant.rows m held told holds) (omega (arith, c.loop-size-test.false))

pub returns-clause-count : goal.returns-clause-count
returns-clause-count g c = λ m told. counts_end m c.args.index.now c.args.stream c.args.pattern.now c.loop-size.size c.loop-size.tokens.items (omega (arith, c.loop-size-test.false)) (c.loop-size.invariant.counted m told)
