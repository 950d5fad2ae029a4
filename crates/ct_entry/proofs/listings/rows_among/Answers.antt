use Rattle.std.proofs.Common.{ℕ, ℤ, List, [], ◌∷◌, ◌++◌, sym, ap, ◌∙◌}
use Rattle.std.specs.Prelude.{Vec}
use Rattle.std.specs.declared.alloc.Global.{Global}
use Rattle.std.proofs.lemmas.List.{map-append}
use Rattle.ct_entry.specs.Listings.{row_of}
use Rattle.ct_entry.proofs.Among.{among-more, among_none, among_some}
use Rattle.ct_entry.proofs.listings.rows_among.Goals as goal
use Rattle.ct_entry.proofs.listings.rows_among.Goals.{in-Some+in_ok-push, in_default}

pub loop-rest-preserved : goal.loop-rest-preserved
loop-rest-preserved c =
    let more = among-more (λ (e : List ℕ × List ℕ). row_of e.0) (λ (e : Vec ℕ Global × Vec ℕ Global). (e.0.items, e.1.items)) c.args.found.now c.loop-rest.rest-index c.loop-rest-item.result c.loop-rest-test.true c.loop-rest-item.is in
    elim c.match-row_in.branch [
      | in-Some+in_ok-push w ↦
          rw (w.rows-is, w.in_ok-push.ensures.items, map-append)
          (ap (λ (l : List ℤ). l ++ w.in-Some.row.0 ∷ []) c.loop-rest.invariant ∙ among_some _ _ w.in-Some.row.0 (w.in-Some.ensures ∙ ap row_of c.deref.ensures.value) ∙ sym more)
      | in_default w ↦ rw w.rows-is (c.loop-rest.invariant ∙ among_none _ _ (w.in_default.ensures ∙ ap row_of c.deref.ensures.value) ∙ sym more)
    ]
