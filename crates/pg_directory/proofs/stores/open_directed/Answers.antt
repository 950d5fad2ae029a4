use Rattle.std.proofs.Common.{Option, ◌∙◌, refl, subst}
use Rattle.pg_directory.specs.OpenDirectory.{IsOpenOr}
use Rattle.pg_directory.specs.declared.directories.Directory.{Directory}
use Rattle.pg_directory.proofs.StoreOpens.{no_directory, with_directory}
use Rattle.pg_directory.proofs.stores.open_directed.Goals as goal

pub returns-in_default-clause-opened : goal.returns-in_default-clause-opened
returns-in_default-clause-opened g c = λ pages holds notes have.
    no_directory pages c.args.top c.requires.some (subst (λ (o : Option Directory). IsOpenOr o pages c.args.top) c.in_default.is (c.in-Ok.ensures.opened c.args.top pages holds (c.deref.ensures.value ∙ notes)))

pub returns-clause-opened : goal.returns-clause-opened
returns-clause-opened g c = λ pages holds notes have.
    with_directory pages (record { top = c.args.top; directory = c.in-Some.directory; places = c.new.result; notes = c.args.noted.notes; roomy = c.args.noted.roomy }) c.in-Some.directory c.args.top have refl refl notes
    (subst (λ (o : Option Directory). IsOpenOr o pages c.args.top) c.in-Some.is (c.in-Ok.ensures.opened c.args.top pages holds (c.deref.ensures.value ∙ notes)))
