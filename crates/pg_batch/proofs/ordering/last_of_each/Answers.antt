use Rattle.std.proofs.Common.{◌≡◌, List, [], ◌∷◌, ◌++◌, length, sym, ap, subst, ◌∙◌, append_assoc, append-nil, arith}
use Rattle.std.specs.Prelude.{map}
use Rattle.std.proofs.lemmas.List.{nil_from_length}
use Rattle.std.specs.FinMap.{entries}
use Rattle.ct_keep.specs.Content.{Change}
use Rattle.ct_keep.specs.SeenChanges.{change_of}
use Rattle.pg_batch.specs.ByKey.{SaidMap, SaidEntry, AreByKey, said_map}
use Rattle.pg_batch.specs.laws.ByKey.{by_key_more}
use Rattle.pg_batch.proofs.Gathering.{none_said}
use Rattle.pg_batch.proofs.ordering.last_of_each.Goals as goal

pub loop-change-init : goal.loop-change-init
loop-change-init c = record {
  ordered = c.new-last.ensures.ordered;
  done = [];
  parts = ap (map change_of) c.into_iter-change-iterator.ensures.into_iter_gives.0 ∙ c.into_changes-change-items.ensures;
  by = subst (λ (es : List SaidEntry). AreByKey [] (entries (said_map es))) (sym c.new-last.ensures.empty) none_said;
}

pub loop-change-preserved : goal.loop-change-preserved
loop-change-preserved c = let w = change_of c.in-Some.change in record {
  ordered = c.note.ensures.ordered;
  done = c.loop-change.invariant.done ++ w ∷ [];
  parts =
      append_assoc c.loop-change.invariant.done (w ∷ []) (map change_of c.next.new.self.rest.items)
      ∙ ap (λ l. c.loop-change.invariant.done ++ map change_of l) (sym c.in-Some.ensures.steps.0) ∙ c.loop-change.invariant.parts;
  by = subst (λ (m : SaidMap). AreByKey (c.loop-change.invariant.done ++ w ∷ []) (entries m)) (sym c.in_ok-note.ensures.noted)
      (by_key_more c.loop-change.invariant.done (said_map c.loop-change.last.entries) w.0 w.1 c.loop-change.invariant.by);
}

pub returns-clause-ordered : goal.returns-clause-ordered
returns-clause-ordered c = c.loop-change.invariant.ordered

pub returns-clause-last : goal.returns-clause-last
returns-clause-last c =
    let none : length c.loop-change.change-iterator.rest.items ≡ 0 = omega (arith, c.in-None.ensures.steps) in
    subst (λ (done : List Change). AreByKey done (entries (said_map c.loop-change.last.entries)))
    (sym (ap (λ l. c.loop-change.invariant.done ++ map change_of l) (nil_from_length c.loop-change.change-iterator.rest.items none)
    ∙ append-nil c.loop-change.invariant.done) ∙ c.loop-change.invariant.parts) c.loop-change.invariant.by
