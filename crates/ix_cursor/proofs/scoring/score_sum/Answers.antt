use Rattle.std.proofs.Common.{ap, ◌∙◌, ◌≡◌, List, length, ℕ}
use Rattle.std.proofs.lemmas.Result.{IfOk-weaker}
use Rattle.ct_base.specs.declared.numbers.Pair.{Pair}
use Rattle.ix_spans.specs.Occurrences.{distinct, term_pairs}
use Rattle.q_tree.specs.Scores.{defined}
use Rattle.ix_cursor.specs.declared.feeds.PhraseFeed.{PhraseFeed}
use Rattle.ix_cursor.specs.Seen.{seen_phrases}
use Rattle.ix_cursor.proofs.Counting.{defined_of_100}
use Rattle.ix_cursor.proofs.scoring.score_sum.Goals as goal

pub returns : goal.returns
returns c =
    let sum = c.args.define.now.sum in
    IfOk-weaker c.score.result (λ s. s ≡ defined c.in_ok-count.count sum) _ (λ s is.
    is
    ∙ ap (λ (k : ℕ). defined k sum) c.in_ok-count.ensures
    ∙ defined_of_100 (length (distinct c.deref-2.result.now)) sum
    ∙ ap (λ (ps : List Pair). defined (length (distinct ps)) sum) (c.deref-2.ensures.value ∙ c.in_ok-pairs.ensures ∙ ap (λ (phrases : List PhraseFeed). term_pairs (seen_phrases phrases) c.args.lo c.args.hi) c.deref.ensures.value)) c.score.ensures
