use Rattle.std.proofs.Common.{◌≡◌, ℕ, List, [], ◌++◌, sym, ap, subst, ◌∙◌, append-nil}
use Rattle.std.specs.Prelude.{map}
use Rattle.ct_keep.specs.SeenChanges.{change_of}
use Rattle.pg_batch.specs.ByKey.{SaidEntry, AreByKey, value_said, changes_seen}
use Rattle.pg_batch.proofs.Gathering.{said_list, list_more}
use Rattle.pg_batch.proofs.ordering.by_key.Goals as goal

pub loop-key-preserved : goal.loop-key-preserved
loop-key-preserved c =
    list_more c.loop-key.changes.items c.push.new.self.items _ c.loop-key.key-iterator c.next.new.self c.in-Some.key c.in-Some.value
    c.in_ok-push.ensures.items c.in-Some.ensures.steps (ap (λ (k : List ℕ). (k, value_said c.in-Some.value)) c.into_bytes-key.ensures)
    ∙ c.loop-key.invariant

pub returns : goal.returns
returns c =
    let done : c.loop-key.key-iterator ≡ [] = c.in-None.ensures.steps.0 in
    let list =
    sym (append-nil (map change_of c.loop-key.changes.items)) ∙ ap (λ (l : List SaidEntry). map change_of c.loop-key.changes.items ++ changes_seen l) (sym done)
    ∙ c.loop-key.invariant ∙ ap (λ (l : List SaidEntry). changes_seen l) c.into_iter-key-iterator.ensures.into_iter_gives.0
    ∙ sym (said_list c.in_ok-items.items.entries c.in_ok-items.ensures.ordered) in
    subst (AreByKey c.args.batch) (sym list) c.in_ok-items.ensures.last
