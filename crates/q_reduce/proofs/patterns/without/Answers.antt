use Rattle.std.proofs.Common.{rules, ap, ◌∙◌, ◌++◌}
use Rattle.std.specs.Prelude.{filter, not}
use Rattle.std.specs.Str.{chars}
use Rattle.std.proofs.lemmas.Str.{chars-nil}
use Rattle.tx_lexer.specs.CharSets.{has}
use Rattle.q_reduce.proofs.patterns.without.Goals as goal

pub loop-c-init : goal.loop-c-init
loop-c-init c = record {
  is_text = search rules;
  so_far = ap (λ x. x ++ filter (λ d. not (has c.args.set.now d)) (chars c.args.text.now)) (ap chars c.new-kept.ensures.bytes ∙ chars-nil);
}
