use Rattle.pg_map.proofs.SheetReads.{next_read, count_read}
use Rattle.pg_map.proofs.sheet_reading.long_parts.Goals as goal

pub returns : goal.returns
returns c = record { parts = λ next used good is. (next_read next used c.args.bytes.now _ good.0 is c.from_be_bytes-next.ensures, count_read next used c.args.bytes.now _ good.2 is c.from_be_bytes-count.ensures) }
