use Rattle.std.proofs.Common.{◌∙◌, sym}
use Rattle.pg_directory.specs.Placing.{keyed_places}
use Rattle.pg_directory.specs.Trees.{page_at}
use Rattle.pg_directory.proofs.Placings.{no_strings_noted, none_put, page_put}
use Rattle.pg_directory.proofs.Steps.{page_given, page_missing}
use Rattle.pg_directory.proofs.Strings.{page_good}
use Rattle.pg_directory.proofs.placing.put_noted.Goals as goal

pub returns-in_default-clause-keys : goal.returns-in_default-clause-keys
returns-in_default-clause-keys g c = λ top pages holds note low less.
    none_put pages c.args.number (keyed_places c.args.into.now.items) (no_strings_noted (page_at pages c.args.number) c.args.note note (λ n is. c.in_default.not-Slotted n is))

pub returns-in_default-found-clause-keys : goal.returns-in_default-found-clause-keys
returns-in_default-found-clause-keys g c = λ top pages holds note low less. absurd (page_missing c.in-Ok.found _ _ (c.in-Ok.ensures.page top pages holds low less) c.in_default-found.is)

pub returns-clause-keys : goal.returns-clause-keys
returns-clause-keys g c = λ top pages holds note low less.
    page_put pages c.args.number c.in-Slotted.strings c.page.result.now (keyed_places c.args.into.now.items) (keyed_places c.put_keys.new.into.items) (page_good pages c.args.number holds.are) (sym c.in-Slotted.is ∙ note)
    (page_given c.in-Ok.found _ _ _ c.page.result.now (c.in-Ok.ensures.page top pages holds low less) c.in-Some.is c.page.ensures) c.in-Ok-put_keys.ensures
