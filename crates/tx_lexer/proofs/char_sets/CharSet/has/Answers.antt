use Rattle.std.proofs.Common.{◌≡◌, true, ap, ◌∙◌}
use Rattle.tx_lexer.specs.CharSets.{has, rises}
use Rattle.tx_lexer.proofs.SearchedSets.{has_searched}
use Rattle.tx_lexer.proofs.char_sets.CharSet.has.Goals as goal

pub returns : goal.returns
returns c =
    let all : rises c.deref.result.now ≡ true = ap rises c.deref.ensures.value ∙ c.self.invariant in
    c.is_ok.ensures.value ∙ has_searched c.deref.result.now c.args.c c.binary_search.result all c.binary_search.ensures.position ∙ ap (λ s. has s c.args.c) (c.deref.ensures.value ∙ c.self.view_is)
