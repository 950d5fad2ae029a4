use Rattle.ct_bytes.specs.laws.VarintSums.{varints_are_sums, varints_have_top_bits, varints_end_in_no_zero}
use Rattle.ct_bytes.proofs.laws.varints_are_sums.Goals as goal

pub returns-clause-sums : goal.returns-clause-sums
returns-clause-sums c = varints_are_sums

pub returns-clause-top_bits : goal.returns-clause-top_bits
returns-clause-top_bits c = varints_have_top_bits

pub returns-clause-no_zero : goal.returns-clause-no_zero
returns-clause-no_zero c = varints_end_in_no_zero
