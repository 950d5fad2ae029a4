use Rattle.pg_directory.proofs.Walks.{no_strings, so_many_strings}
use Rattle.pg_directory.proofs.walking.has_slot.Goals as goal

pub returns-then-page-ne1 : goal.returns-then-page-ne1
returns-then-page-ne1 c = λ p good is. no_strings p c.args.page.now c.args.slot good is c.if-page-ne1.true

pub returns : goal.returns
returns c = λ p good is. so_many_strings p c.args.page.now c.args.slot c.short_number.result good is c.if-page-ne1.false c.short_number.ensures
