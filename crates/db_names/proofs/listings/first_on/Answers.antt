use Rattle.std.proofs.Common.{ℕ, List, None, subst}
use Rattle.std.specs.List.{All}
use Rattle.std.proofs.lemmas.List.{take_all}
use Rattle.std.proofs.lemmas.List.Elements.{All-more, All-map}
use Rattle.db_names.specs.declared.heads.IndexHead.{IndexHead}
use Rattle.db_names.specs.Parts.{IsEntryOf, NameOn}
use Rattle.db_names.proofs.ListSteps.{Pair, as_seen, read_of}
use Rattle.db_names.proofs.listings.first_on.Goals as goal

abbrev NoneIs : IndexHead → Pair → Type 0
NoneIs h e = (i : List ℕ) → IsEntryOf (as_seen e) i h → ⊥

pub loop-rest-preserved : goal.loop-rest-preserved
loop-rest-preserved c =
    let h : IndexHead = record { kind = c.args.kind; target = c.args.target.now } in
    All-more (NoneIs h) c.args.found.now c.loop-rest.rest-index c.loop-rest-item.result c.loop-rest-test.true c.loop-rest.invariant
    (subst (NoneIs h) c.loop-rest-item.is
    (read_of (NameOn h) c.loop-rest-item.result c.deref.result.now c.deref-in-loop-rest.result.now c.in_ok-index.field-0 None c.deref.ensures.value c.deref-in-loop-rest.ensures.value c.in_default.is c.in_ok-index.ensures))

pub returns : goal.returns
returns c =
    let h : IndexHead = record { kind = c.args.kind; target = c.args.target.now } in
    All-map (λ e. (i : List ℕ) → IsEntryOf e i h → ⊥) as_seen c.args.found.now
    (subst (All (NoneIs h)) (take_all c.loop-rest.rest-index c.args.found.now c.loop-rest-test.false) c.loop-rest.invariant)
