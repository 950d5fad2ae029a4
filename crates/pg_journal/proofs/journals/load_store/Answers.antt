use Rattle.std.proofs.Common.{inr, sym, ◌∙◌}
use Rattle.ct_site.specs.laws.Calls.{same_then, settled_same}
use Rattle.ct_site.specs.laws.Lengths.{grows_then, grows_same}
use Rattle.pg_journal.specs.laws.Looking.{nothing_when_same, nothing_then, answers_open, answers_known}
use Rattle.pg_journal.proofs.Loading.{nothing_written, after_same}
use Rattle.pg_journal.proofs.journals.load_store.Goals as goal

pub returns-in_default-clause-moments : goal.returns-in_default-clause-moments
returns-in_default-clause-moments g c = λ image settled. nothing_written _ _ image settled c.read_byte.ensures.same c.read_byte.ensures.works.beside

pub load_open-requires-clause-store : goal.load_open-requires-clause-store
load_open-requires-clause-store g c = λ image told. c.requires.store image (sym c.read_byte.ensures.same.image ∙ told)

pub load_closed-requires-clause-store : goal.load_closed-requires-clause-store
load_closed-requires-clause-store g c = λ image told. c.requires.store image (sym c.read_byte.ensures.same.image ∙ told)

pub returns-then-gate-eq1-clause-moments : goal.returns-then-gate-eq1-clause-moments
returns-then-gate-eq1-clause-moments g c = λ image settled.
    after_same _ _ _ image settled c.read_byte.ensures.same c.read_byte.ensures.works.beside (c.load_open.ensures.moments image (settled_same _ _ image c.read_byte.ensures.same settled))

pub returns-else-gate-eq1-clause-moments : goal.returns-else-gate-eq1-clause-moments
returns-else-gate-eq1-clause-moments g c = λ image settled.
    nothing_written _ _ image settled (same_then _ _ _ c.read_byte.ensures.same c.load_closed.ensures.same) (c.load_closed.ensures.loads.beside ∙ c.read_byte.ensures.works.beside)

pub returns-then-gate-eq1-clause-kept : goal.returns-then-gate-eq1-clause-kept
returns-then-gate-eq1-clause-kept g c = λ image told shut. absurd (shut (sym (c.in-Ok.ensures.is image told) ∙ c.if-gate-eq1.true))

pub returns-then-gate-eq1-clause-same : goal.returns-then-gate-eq1-clause-same
returns-then-gate-eq1-clause-same g c = nothing_then c.load_open.result _ _ _ c.read_byte.ensures.same c.load_open.ensures.same

pub returns-else-gate-eq1-clause-same : goal.returns-else-gate-eq1-clause-same
returns-else-gate-eq1-clause-same g c = nothing_when_same c.load_closed.result _ _ (same_then _ _ _ c.read_byte.ensures.same c.load_closed.ensures.same)

pub returns-then-gate-eq1-clause-answers : goal.returns-then-gate-eq1-clause-answers
returns-then-gate-eq1-clause-answers g c = λ image told.
    answers_open image c.load_open.result (c.requires.store image told) (sym (c.in-Ok.ensures.is image told) ∙ c.if-gate-eq1.true)

pub returns-else-gate-eq1-clause-answers : goal.returns-else-gate-eq1-clause-answers
returns-else-gate-eq1-clause-answers g c = λ image told.
    answers_known image c.load_closed.result (inr (c.requires.store image told)) c.load_closed.ensures.memory

pub returns-in_default-clause-length : goal.returns-in_default-clause-length
returns-in_default-clause-length g c = grows_same 0 _ _ c.read_byte.ensures.same.image

pub returns-then-gate-eq1-clause-length : goal.returns-then-gate-eq1-clause-length
returns-then-gate-eq1-clause-length g c = grows_then 0 _ _ _ c.load_open.ensures.loads.untold (grows_same 0 _ _ c.read_byte.ensures.same.image) c.load_open.ensures.length

pub returns-else-gate-eq1-clause-length : goal.returns-else-gate-eq1-clause-length
returns-else-gate-eq1-clause-length g c = grows_same 0 _ _ (c.load_closed.ensures.same.image ∙ c.read_byte.ensures.same.image)
