use Rattle.std.proofs.Common.{List, sym, ap, subst, ◌∙◌}
use Rattle.std.specs.Prelude.{All}
use Rattle.std.proofs.lemmas.List.Elements.{All-tail}
use Rattle.tx_document.specs.declared.entries.Entry.{Entry}
use Rattle.ix_context.specs.Gathering.{IndexRowsView, with_entries}
use Rattle.ix_context.specs.Postings.{IsPosting}
use Rattle.ix_context.proofs.gathering.IndexRows.put_entries.Goals as goal

pub loop-entry-preserved : goal.loop-entry-preserved
loop-entry-preserved c =
    let is = c.in-Some.ensures.steps.0 in
    record {
      gathers =
          ap (λ (g : IndexRowsView). with_entries g c.args.document c.next.new.self.rest.items) c.in_ok-put_entry.ensures
          ∙ ap (λ (l : List Entry). with_entries c.loop-entry.self c.args.document l) (sym is)
          ∙ c.loop-entry.invariant.gathers;
      fit = All-tail IsPosting c.in-Some.entry c.next.new.self.rest.items (subst (All IsPosting) is c.loop-entry.invariant.fit);
    }
