use Rattle.std.proofs.Common.{◌≡◌, ◌++◌, ℕ, List, length}
use Rattle.pg_page.specs.Pages.{Fits, page_bytes}
use Rattle.pg_directory.specs.Counting.{slots_on}
use Rattle.pg_directory.specs.Placing.{key_on, with_keys, keyed_places}
use Rattle.pg_directory.proofs.placing.put_keys.Given as goal

abbrev pub invariant-loop-slot : goal.invariant-loop-slot
invariant-loop-slot l = (ss : List (List ℕ)) → Fits ss → l.page ≡ page_bytes ss → l.strings ≡ length ss → keyed_places l.into.items ≡ keyed_places l.fn.into.items ++ with_keys (key_on ss) (slots_on l.number l.slot)
