use Rattle.std.specs.Prelude.{true}
use Rattle.std.proofs.Common.{◌-◌, set, refl, sym, ◌∙◌}
use Rattle.pg_directory.proofs.Chains.{noted_taken, not_long}
use Rattle.pg_directory.proofs.noting.take_noted.Goals as goal

pub returns-in_default : goal.returns-in_default
returns-in_default c = λ pages notes next bytes low kind none.
    not_long pages c.args.notes.now notes c.args.taken.now c.args.page (c.args.page - 3) low refl next bytes _ c.if-at-notes.false (sym c.in_default.is ∙ c.long_note.ensures) kind

pub returns : goal.returns
returns c = λ pages notes.
    noted_taken pages c.args.notes.now notes c.args.taken.now c.args.page (c.args.page - 3) c.if-page-lt3.false refl (set c.args.taken.now (c.args.page - 3) true) c.in-Some.next c.in-Some.used _ c.if-at-notes.false c.requires c.if-taken-at.false
    (sym c.in-Some.is ∙ c.long_note.ensures) refl
