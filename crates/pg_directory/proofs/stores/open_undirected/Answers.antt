use Rattle.std.proofs.Common.{◌∙◌, refl, sym}
use Rattle.pg_directory.proofs.StoreOpens.{one_there, no_places, with_places, found_none, found_some}
use Rattle.pg_directory.proofs.stores.open_undirected.Goals as goal

pub returns-then-count-ne0-clause-opened : goal.returns-then-count-ne0-clause-opened
returns-then-count-ne0-clause-opened g c = λ pages holds notes have. one_there pages c.directory_count-count.result (c.directory_count-count.ensures pages (c.deref.ensures.value ∙ notes)) c.if-count-ne0.true

pub returns-in_default-clause-opened : goal.returns-in_default-clause-opened
returns-in_default-clause-opened g c = λ pages holds notes have. no_places pages (found_none c.in-Ok.found pages (c.in-Ok.ensures.places 0 pages holds (c.deref-2.ensures.value ∙ notes)) c.in_default.is) 0

pub returns-clause-opened : goal.returns-clause-opened
returns-clause-opened g c = λ pages holds notes have.
    with_places pages (record { top = 0; directory = record { inner = c.new.result; leaves = c.new-2.result }; places = c.in-Some.places; notes = c.args.noted.notes; roomy = c.args.noted.roomy }) have refl notes
    (sym (c.directory_count-count.ensures pages (c.deref.ensures.value ∙ notes)) ∙ c.if-count-ne0.false) (found_some c.in-Ok.found c.in-Some.places pages (c.in-Ok.ensures.places 0 pages holds (c.deref-2.ensures.value ∙ notes)) c.in-Some.is) c.new.ensures.items c.new-2.ensures.items
