use Rattle.pg_directory.proofs.Firsts.{directory_noted, none_noted}
use Rattle.pg_directory.proofs.noting.directory_note.Goals as goal

pub returns-then-is_directory : goal.returns-then-is_directory
returns-then-is_directory c = directory_noted c.args.bytes.now (c.is_directory.ensures.yes c.if-is_directory.true)

pub returns-else-is_directory : goal.returns-else-is_directory
returns-else-is_directory c = none_noted c.args.bytes.now c.requires (c.is_directory.ensures.no c.if-is_directory.false)
