use Rattle.std.proofs.Common.{ap, ◌∙◌, ◌++◌, ◌/◌}
use Rattle.std.proofs.lemmas.List.{take-append-drop}
use Rattle.ix_cursor.specs.Tokens.{tokens_at}
use Rattle.ix_cursor.specs.declared.tokens.Tokens.{Tokens}
use Rattle.ix_cursor.proofs.Trees.{both_begin}
use Rattle.ix_cursor.proofs.tokens.+tokens_of.Goals as goal

pub returns-then-len-gt1 : goal.returns-then-len-gt1
returns-then-len-gt1 t c d =
    ap (λ (x : Tokens). tokens_at x d) c.in_ok-new.ensures.ok
    ∙ both_begin c.split_off.new.self.items c.in_ok-others.others.items c.args.postings.items d (tokens_at c.in_ok-first.first.value d) (tokens_at c.in_ok-second.second.value d)
    ((λ i. c.in_ok-others.ensures.items i ++ c.in_ok-others.ensures.tail i) ∙ take-append-drop (c.len-middle.result / 2) c.args.postings.items) (c.in_ok-first.ensures d) (c.in_ok-second.ensures d)
