use Rattle.std.proofs.Common.{◌≡◌, arith}
use Rattle.pg_page.specs.Pages.{number_at}
use Rattle.pg_map.proofs.ItemReads.{no_key, number_here}
use Rattle.pg_map.proofs.item_reading.key_count.Goals as goal

pub returns-then-string-lt3 : goal.returns-then-string-lt3
returns-then-string-lt3 c = no_key c.args.string.now (λ long. absurd (omega (arith, long, c.if-string-lt3.true)))

pub returns-then-count-string : goal.returns-then-count-string
returns-then-count-string c =
    let is : c.from_be_bytes-count.result ≡ number_at c.args.string.now 1 = number_here c.args.string.now _ c.if-string-lt3.false c.from_be_bytes-count.ensures in
    no_key c.args.string.now (λ long. omega (arith, is, c.if-count-string.true, long))

pub returns : goal.returns
returns c = (number_here c.args.string.now _ c.if-string-lt3.false c.from_be_bytes-count.ensures, omega (arith, c.if-count-string.false, c.if-string-lt3.false))
