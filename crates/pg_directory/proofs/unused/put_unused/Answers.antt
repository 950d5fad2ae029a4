use Rattle.std.proofs.Common.{sym, ◌∙◌}
use Rattle.pg_directory.proofs.UnusedPages.{not_unused, is_unused}
use Rattle.pg_directory.proofs.unused.put_unused.Goals as goal

pub returns-in_default : goal.returns-in_default
returns-in_default c = λ p note. not_unused p c.args.note c.args.at c.args.into.now.items note c.in_default.not-Free

pub returns : goal.returns
returns c = λ p note. is_unused p c.args.at c.args.into.now.items c.push.new.self.items (sym c.in-Free.is ∙ note) c.in_ok-push.ensures.items
