use Rattle.std.proofs.Common.{ℕ, List, length, ap, arith}
use Rattle.std.proofs.lemmas.List.{length-map}
use Rattle.ct_base.specs.declared.numbers.Pair.{Pair}
use Rattle.ix_posting.specs.laws.Numbers.{few_rise}
use Rattle.ix_rows.specs.Firsts.{first_positions}
use Rattle.ix_context.proofs.gathering.spell_word.Goals as goal

pub put_word_term-requires : goal.put_word_term-requires
put_word_term-requires c =
    let short = c.requires.token.short in
    let read = ap (λ (l : List ℕ). length l) c.as_slice-token.ensures in
    omega (arith, short, read)

pub put_firsts-requires : goal.put_firsts-requires
put_firsts-requires c =
    let few = few_rise 0 (first_positions c.args.word.now.places) (omega arith) c.requires.rise in
    let count = length-map c.args.word.now.places (λ (p : Pair). p.first) in
    let read = ap (λ (l : List Pair). length l) c.as_slice.ensures in
    omega (arith, few, count, read)
