use Rattle.std.proofs.Common.{◌≡◌, ◌+◌, ◌*◌, ◌-◌, length}
use Rattle.std.specs.List.{fold}
use Rattle.st_parse.specs.Numbers.{value}
use Rattle.st_parse.proofs.numbers.magnitude.Given as goal

abbrev pub invariant-digits : goal.invariant-digits
invariant-digits l = fold (λ n d. n * 10 + (d - 48)) l.n l.rest ≡ value l.digits

abbrev pub decreases-digits : goal.decreases-digits
decreases-digits l = length l.rest
