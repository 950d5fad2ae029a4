use Rattle.pg_map.specs.laws.OneMap.{one_map}
use Rattle.pg_map.specs.laws.MapReading.{map_read}
use Rattle.pg_map.proofs.pages_hold_one_map.Goals as goal

pub returns : goal.returns
returns c = record { one = one_map; read = map_read }
