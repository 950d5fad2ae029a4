use Rattle.std.proofs.Common.{ap, ◌∙◌, length, arith}
use Rattle.std.proofs.lemmas.Bool.{leb-true}
use Rattle.q_tree.specs.Limits.{word_length, query_limit}
use Rattle.q_reduce.proofs.WordTexts.{text_length}
use Rattle.q_reduce.proofs.words.word_tokens.Goals as goal

pub tokens_by-requires-2 : goal.tokens_by-requires-2
tokens_by-requires-2 c =
    let same = ap length (c.as_str-2.ensures.value ∙ c.in_ok-text.ensures) ∙ text_length c.as_slice-2.result.now ∙ ap word_length c.as_slice-2.ensures in
    omega (arith, same, leb-true (word_length c.args.word.now.bits) query_limit c.requires)
