use Rattle.pg_window.proofs.Reading.{long_kind, long_read}
use Rattle.pg_window.proofs.loading.long_of.Goals as goal

pub returns-in-Some-Long-clause-long : goal.returns-in-Some-Long-clause-long
returns-in-Some-Long-clause-long c = λ next used good is.
    long_read c.in_ok-next.field-0 c.in-Some-Long.field-0 c.args.page.now c.in-Some-Long.next c.in-Some-Long.bytes next used c.in_ok-next.ensures c.in-Some-Long.is c.in-Some-Long.field-0-is good is

pub returns-in-Some-Long-clause-some : goal.returns-in-Some-Long-clause-some
returns-in-Some-Long-clause-some c =
    long_kind c.in_ok-next.field-0 c.in-Some-Long.field-0 c.args.page.now c.in-Some-Long.next c.in-Some-Long.bytes c.in_ok-next.ensures c.in-Some-Long.is c.in-Some-Long.field-0-is
