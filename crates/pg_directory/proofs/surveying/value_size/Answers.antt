use Rattle.pg_directory.proofs.Surveys.{short_size, far_size}
use Rattle.pg_directory.proofs.surveying.value_size.Goals as goal

pub returns-then-is_short : goal.returns-then-is_short
returns-then-is_short c = λ kinds item entry chain good stands is. short_size kinds c.args.string.now c.behind_key.result.now c.is_short.result c.if-is_short.true c.is_short.ensures.far c.behind_key.ensures item entry chain good stands is

pub returns : goal.returns
returns c = λ kinds item entry chain good stands is. far_size kinds c.args.string.now c.is_short.result c.far_in-count.result.0 c.far_in-count.result.1 c.if-is_short.false c.is_short.ensures.short c.far_in-count.ensures item entry chain good stands is
