use Rattle.std.proofs.Common.{ℕ, List, [], ◌∷◌, ◌++◌, sym, ap, ◌∙◌}
use Rattle.std.specs.Prelude.{Vec}
use Rattle.std.specs.declared.alloc.Global.{Global}
use Rattle.ct_entry.specs.Listings.{owner_of}
use Rattle.ct_entry.proofs.Among.{among-more, among_none, among_some}
use Rattle.ct_entry.proofs.listings.owners_among.Goals as goal
use Rattle.ct_entry.proofs.listings.owners_among.Goals.{in-Some+in_ok-push, in_default}

pub loop-rest-preserved : goal.loop-rest-preserved
loop-rest-preserved c =
    let more = among-more (λ (e : List ℕ × List ℕ). owner_of e.0) (λ (e : Vec ℕ Global × Vec ℕ Global). (e.0.items, e.1.items)) c.args.found.now c.loop-rest.rest-index c.loop-rest-item.result c.loop-rest-test.true c.loop-rest-item.is in
    let name = c.in_ok-name.ensures ∙ ap owner_of c.deref.ensures.value in
    elim c.match-branch-2.branch [
      | in-Some+in_ok-push w ↦
          rw (w.names-is, w.in_ok-push.ensures.items)
          (ap (λ (l : List (List ℕ)). l ++ w.in-Some.name ∷ []) c.loop-rest.invariant ∙ among_some _ _ w.in-Some.name (sym w.in-Some.is ∙ name) ∙ sym more)
      | in_default w ↦ rw w.names-is (c.loop-rest.invariant ∙ among_none _ _ (sym w.in_default.is ∙ name) ∙ sym more)
    ]
