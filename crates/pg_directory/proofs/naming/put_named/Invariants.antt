use Rattle.std.proofs.Common.{◌≡◌, ◌++◌, List, take}
use Rattle.pg_directory.specs.Pages.{Leaf, directory_bytes, IsDirectoryPage}
use Rattle.pg_directory.specs.declared.entries.EntryAt.{EntryAt}
use Rattle.pg_directory.proofs.naming.put_named.Given as goal

abbrev pub invariant-loop-i : goal.invariant-loop-i
invariant-loop-i l = (es : List EntryAt) → IsDirectoryPage (Leaf es) → l.page ≡ directory_bytes (Leaf es) → l.into.items ≡ l.fn.into.items ++ take l.i es
