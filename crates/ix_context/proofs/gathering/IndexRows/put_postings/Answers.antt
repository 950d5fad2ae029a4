use Rattle.std.proofs.Common.{◌≡◌, List, [], sym, ap, subst, ◌∙◌, arith}
use Rattle.std.specs.Prelude.{All}
use Rattle.std.proofs.lemmas.Grind.{common_steps}
use Rattle.std.proofs.lemmas.List.Elements.{All-head, All-tail}
use Rattle.ct_base.specs.laws.Results.{on_ok}
use Rattle.ix_invert.specs.declared.postings.Posting.{Posting}
use Rattle.ix_context.specs.Gathering.{IndexRowsView}
use Rattle.ix_context.specs.GatheringPortions.{Comes, with_postings, with_term_run}
use Rattle.ix_context.proofs.RunSteps.{none_wait}
use Rattle.ix_context.proofs.gathering.IndexRows.put_postings.Goals as goal

pub put_posting-requires : goal.put_posting-requires
put_posting-requires c =
    let is = c.in-Some.ensures.steps.0 in
    All-head Comes c.in-Some.posting c.next.new.self.rest.items (subst (All Comes) is c.loop-posting.invariant.come)

pub loop-posting-init : goal.loop-posting-init
loop-posting-init c =
    let same : c.into_iter-posting-iterator.result.rest.items ≡ c.args.postings.items = c.into_iter-posting-iterator.ensures.into_iter_gives.0 in
    record {
      gathers =
          ap (λ (g : IndexRowsView). with_postings g c.into_iter-posting-iterator.result.rest.items) (none_wait c.args.self.now c.new-run.result.is_section c.new-run.result.term.items c.new-run.result.documents c.new-run.ensures)
          ∙ ap (with_postings c.args.self.now) same;
      come = subst (All Comes) (sym same) c.requires;
    }

pub loop-posting-preserved : goal.loop-posting-preserved
loop-posting-preserved c =
    let is = c.in-Some.ensures.steps.0 in
    record {
      gathers =
          ap (λ (g : IndexRowsView). with_postings g c.next.new.self.rest.items) c.in_ok-put_posting.ensures
          ∙ ap (λ (l : List Posting). with_postings (with_term_run c.loop-posting.self c.loop-posting.run.is_section c.loop-posting.run.term.items c.loop-posting.run.documents) l) (sym is)
          ∙ c.loop-posting.invariant.gathers;
      come = All-tail Comes c.in-Some.posting c.next.new.self.rest.items (subst (All Comes) is c.loop-posting.invariant.come);
    }

pub returns : goal.returns
returns c =
    let done : c.loop-posting.posting-iterator.rest.items ≡ [] = grind (arith, common_steps) in
    on_ok c.put_run.result _ _ (λ put.
    put
    ∙ ap (with_postings (with_term_run c.loop-posting.self c.loop-posting.run.is_section c.loop-posting.run.term.items c.loop-posting.run.documents)) (sym done)
    ∙ c.loop-posting.invariant.gathers)
    c.put_run.ensures
