use Rattle.std.proofs.Common.{true, false, inl, sym, ◌∙◌, arith}
use Rattle.ct_site.specs.laws.Calls.{same_then, settled_same}
use Rattle.ct_site.specs.laws.Lengths.{grows_then, grows_same, grows_more}
use Rattle.pg_journal.specs.laws.Looking.{nothing_then, answers_known}
use Rattle.pg_journal.proofs.Loading.{nothing_written, unborn_is, born_is, born_within, after_same, marked_is, no_mark, too_short, is_store, as_unborn}
use Rattle.pg_journal.proofs.journals.Journal.load.Goals as goal

pub returns-in_default-clause-moments : goal.returns-in_default-clause-moments
returns-in_default-clause-moments g c = λ image settled. nothing_written _ _ image settled c.size.ensures.same c.size.ensures.works.beside

pub returns-in_default-unborn-clause-moments : goal.returns-in_default-unborn-clause-moments
returns-in_default-unborn-clause-moments g c = λ image settled.
    nothing_written _ _ image settled (same_then _ _ _ c.size.ensures.same c.unborn.ensures.same) (c.unborn.ensures.works.beside ∙ c.size.ensures.works.beside)

pub load_unborn-requires : goal.load_unborn-requires
load_unborn-requires g c = record { within = born_within _ _ c.in-Ok-unborn.found c.in-Some.empty c.in-Ok-unborn.ensures.is c.unborn.ensures.same c.in-Some.is }

pub returns-in-Some-clause-moments : goal.returns-in-Some-clause-moments
returns-in-Some-clause-moments g c = λ image settled.
    let same = same_then _ _ _ c.size.ensures.same c.unborn.ensures.same in
    let unborn = unborn_is c.in-Ok-unborn.found c.in-Some.empty image (c.in-Ok-unborn.ensures.is image (c.size.ensures.same.image ∙ settled.told)) c.in-Some.is in
    after_same _ _ _ image settled same (c.unborn.ensures.works.beside ∙ c.size.ensures.works.beside) (c.load_unborn.ensures.moments image (settled_same _ _ image same settled) unborn)

pub returns-in-Some-clause-loaded : goal.returns-in-Some-clause-loaded
returns-in-Some-clause-loaded g c = λ image settled.
    let same = same_then _ _ _ c.size.ensures.same c.unborn.ensures.same in
    c.load_unborn.ensures.loaded image (settled_same _ _ image same settled) (unborn_is c.in-Ok-unborn.found c.in-Some.empty image (c.in-Ok-unborn.ensures.is image (c.size.ensures.same.image ∙ settled.told)) c.in-Some.is)

pub returns-then-size-lt12288-clause-moments : goal.returns-then-size-lt12288-clause-moments
returns-then-size-lt12288-clause-moments g c = λ image settled.
    nothing_written _ _ image settled (same_then _ _ _ c.size.ensures.same c.unborn.ensures.same) (c.unborn.ensures.works.beside ∙ c.size.ensures.works.beside)

pub returns-then-size-lt12288-clause-no_store : goal.returns-then-size-lt12288-clause-no_store
returns-then-size-lt12288-clause-no_store g c = λ image told is.
    too_short image (born_is c.in-Ok-unborn.found image (c.in-Ok-unborn.ensures.is image (c.size.ensures.same.image ∙ told)) c.in_default-found.is) (omega (arith, c.in-Ok.ensures.size image told, c.if-size-lt12288.true))

pub returns-in_default-has_mark-clause-moments : goal.returns-in_default-has_mark-clause-moments
returns-in_default-has_mark-clause-moments g c = λ image settled.
    nothing_written _ _ image settled (same_then _ _ _ c.size.ensures.same (same_then _ _ _ c.unborn.ensures.same c.has_mark.ensures.same))
    (c.has_mark.ensures.works.beside ∙ c.unborn.ensures.works.beside ∙ c.size.ensures.works.beside)

pub returns-then-not-marked-clause-moments : goal.returns-then-not-marked-clause-moments
returns-then-not-marked-clause-moments g c = λ image settled.
    nothing_written _ _ image settled (same_then _ _ _ c.size.ensures.same (same_then _ _ _ c.unborn.ensures.same c.has_mark.ensures.same))
    (c.has_mark.ensures.works.beside ∙ c.unborn.ensures.works.beside ∙ c.size.ensures.works.beside)

pub returns-then-not-marked-clause-no_store : goal.returns-then-not-marked-clause-no_store
returns-then-not-marked-clause-no_store g c = λ image told is.
    let told1 = c.size.ensures.same.image ∙ told in
    no_mark image (born_is c.in-Ok-unborn.found image (c.in-Ok-unborn.ensures.is image told1) c.in_default-found.is)
    (marked_is c.in-Ok-has_mark.marked false image (c.in-Ok-has_mark.ensures.is image (c.unborn.ensures.same.image ∙ told1)) c.if-not-marked.true)

pub load_store-requires-clause-store : goal.load_store-requires-clause-store
load_store-requires-clause-store g c = λ image told2.
    let told1 = sym c.has_mark.ensures.same.image ∙ told2 in
    let told0 = sym c.unborn.ensures.same.image ∙ told1 in
    let told = sym c.size.ensures.same.image ∙ told0 in
    is_store image (born_is c.in-Ok-unborn.found image (c.in-Ok-unborn.ensures.is image told0) c.in_default-found.is)
    (marked_is c.in-Ok-has_mark.marked true image (c.in-Ok-has_mark.ensures.is image told1) c.if-not-marked.false) (omega (arith, c.in-Ok.ensures.size image told, c.if-size-lt12288.false))

pub returns-clause-moments : goal.returns-clause-moments
returns-clause-moments g c = λ image settled.
    let same = same_then _ _ _ c.size.ensures.same (same_then _ _ _ c.unborn.ensures.same c.has_mark.ensures.same) in
    after_same _ _ _ image settled same (c.has_mark.ensures.works.beside ∙ c.unborn.ensures.works.beside ∙ c.size.ensures.works.beside) (c.load_store.ensures.moments image (settled_same _ _ image same settled))

pub returns-in-Some-clause-kept : goal.returns-in-Some-clause-kept
returns-in-Some-clause-kept g c = λ image told only.
    absurd (only.born (as_unborn c.in-Some.empty image (unborn_is c.in-Ok-unborn.found c.in-Some.empty image (c.in-Ok-unborn.ensures.is image (c.size.ensures.same.image ∙ told)) c.in-Some.is)))

pub returns-clause-kept : goal.returns-clause-kept
returns-clause-kept g c = λ image told only.
    let told0 = c.size.ensures.same.image ∙ told in
    let told1 = c.unborn.ensures.same.image ∙ told0 in
    let store = is_store image (born_is c.in-Ok-unborn.found image (c.in-Ok-unborn.ensures.is image told0) c.in_default-found.is)
    (marked_is c.in-Ok-has_mark.marked true image (c.in-Ok-has_mark.ensures.is image told1) c.if-not-marked.false) (omega (arith, c.in-Ok.ensures.size image told, c.if-size-lt12288.false)) in
    same_then _ _ _ c.size.ensures.same (same_then _ _ _ c.unborn.ensures.same (same_then _ _ _ c.has_mark.ensures.same (c.load_store.ensures.kept image (c.has_mark.ensures.same.image ∙ told1) (only.shut store))))

pub returns-in-Some-clause-length : goal.returns-in-Some-clause-length
returns-in-Some-clause-length g c = grows_then 12288 _ _ _ c.load_unborn.ensures.loads.untold (grows_same 12288 _ _ (c.unborn.ensures.same.image ∙ c.size.ensures.same.image)) c.load_unborn.ensures.length

pub returns-clause-length : goal.returns-clause-length
returns-clause-length g c =
    grows_then 12288 _ _ _ c.load_store.ensures.loads.untold (grows_same 12288 _ _ (c.has_mark.ensures.same.image ∙ c.unborn.ensures.same.image ∙ c.size.ensures.same.image)) (grows_more 0 12288 _ _ (omega arith) c.load_store.ensures.length)

pub returns-in-Some-clause-same : goal.returns-in-Some-clause-same
returns-in-Some-clause-same g c = nothing_then c.load_unborn.result _ _ _ (same_then _ _ _ c.size.ensures.same c.unborn.ensures.same) c.load_unborn.ensures.same

pub returns-clause-same : goal.returns-clause-same
returns-clause-same g c = nothing_then c.load_store.result _ _ _ (same_then _ _ _ c.size.ensures.same (same_then _ _ _ c.unborn.ensures.same c.has_mark.ensures.same)) c.load_store.ensures.same

pub returns-in-Some-clause-answers : goal.returns-in-Some-clause-answers
returns-in-Some-clause-answers g c = λ image told.
    let unborn = unborn_is c.in-Ok-unborn.found c.in-Some.empty image (c.in-Ok-unborn.ensures.is image (c.size.ensures.same.image ∙ told)) c.in-Some.is in
    answers_known image c.load_unborn.result (inl (as_unborn c.in-Some.empty image unborn)) c.load_unborn.ensures.memory

pub returns-in_default-clause-length : goal.returns-in_default-clause-length
returns-in_default-clause-length g c = grows_same 12288 _ _ c.size.ensures.same.image

pub returns-in_default-unborn-clause-length : goal.returns-in_default-unborn-clause-length
returns-in_default-unborn-clause-length g c = grows_same 12288 _ _ (c.unborn.ensures.same.image ∙ c.size.ensures.same.image)

pub returns-then-size-lt12288-clause-length : goal.returns-then-size-lt12288-clause-length
returns-then-size-lt12288-clause-length g c = grows_same 12288 _ _ (c.unborn.ensures.same.image ∙ c.size.ensures.same.image)

pub returns-in_default-has_mark-clause-length : goal.returns-in_default-has_mark-clause-length
returns-in_default-has_mark-clause-length g c = grows_same 12288 _ _ (c.has_mark.ensures.same.image ∙ c.unborn.ensures.same.image ∙ c.size.ensures.same.image)

pub returns-then-not-marked-clause-length : goal.returns-then-not-marked-clause-length
returns-then-not-marked-clause-length g c = grows_same 12288 _ _ (c.has_mark.ensures.same.image ∙ c.unborn.ensures.same.image ∙ c.size.ensures.same.image)
