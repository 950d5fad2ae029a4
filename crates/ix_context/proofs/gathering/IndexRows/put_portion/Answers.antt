use Rattle.std.proofs.Common.{◌≡◌, ◌∙◌, sym, subst, arith}
use Rattle.ct_base.specs.laws.Results.{on_ok}
use Rattle.ix_context.specs.GatheredRows.{AreGathered}
use Rattle.ix_context.specs.GatheringPortions.{with_postings}
use Rattle.ix_context.specs.laws.GatheredPortions.{grown_postings, inversion_comes, inversion_is_of_postings}
use Rattle.ix_context.proofs.gathering.IndexRows.put_portion.Goals as goal

pub put_postings-requires : goal.put_postings-requires
put_postings-requires g c =
    let room = c.requires.room in
    inversion_is_of_postings c.args.prefs.now c.keep_rules.ensures c.args.first c.args.texts.now c.in_ok-postings.postings.items (omega (arith, room)) c.in_ok-postings.ensures

pub returns-clause-gathers : goal.returns-clause-gathers
returns-clause-gathers g c =
    on_ok c.put_postings.result (c.put_postings.new.self ≡ with_postings c.args.self.now c.in_ok-postings.postings.items) _
    (λ puts. puts ∙ inversion_comes c.args.prefs.now c.args.first c.args.texts.now c.in_ok-postings.postings.items c.in_ok-postings.ensures c.args.self.now)
    c.put_postings.ensures

pub returns-clause-grown : goal.returns-clause-grown
returns-clause-grown g c =
    let room = c.requires.room in
    on_ok c.put_postings.result (c.put_postings.new.self ≡ with_postings c.args.self.now c.in_ok-postings.postings.items) _
    (λ puts are.
    subst AreGathered (sym puts)
    (grown_postings c.args.self.now c.in_ok-postings.postings.items
    (inversion_is_of_postings c.args.prefs.now c.keep_rules.ensures c.args.first c.args.texts.now c.in_ok-postings.postings.items (omega (arith, room)) c.in_ok-postings.ensures)
    are))
    c.put_postings.ensures
