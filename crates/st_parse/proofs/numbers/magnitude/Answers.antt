use Rattle.st_parse.proofs.Digits.{too_large}
use Rattle.st_parse.proofs.numbers.magnitude.Goals as goal

pub returns-then-n-gt922337203685477580 : goal.returns-then-n-gt922337203685477580
returns-then-n-gt922337203685477580 c = too_large c.digits.n _ c.digits.rest.now c.in-len1-up.len_at_least c.if-n-gt922337203685477580.true c.digits.invariant
