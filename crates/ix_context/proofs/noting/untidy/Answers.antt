use Rattle.std.proofs.Common.{Option, subst, sym, ◌∙◌}
use Rattle.std.specs.Prelude.{IfSome}
use Rattle.ct_entry.specs.Keys.{at}
use Rattle.ix_context.specs.declared.entries.IndexEntry.{IndexEntry}
use Rattle.ix_context.specs.Places.{IsPlaceRead}
use Rattle.ix_context.specs.laws.Places.{place_read_is}
use Rattle.ix_context.proofs.SyncSteps.{is_read, read_as}
use Rattle.ix_context.proofs.UntidySteps.{adds_as_long, untidied_none, untidied_some}
use Rattle.ix_context.proofs.noting.untidy.Goals as goal

pub returns-in_default-clause-changes : goal.returns-in_default-clause-changes
returns-in_default-clause-changes g c = λ m ts x holds told.
    absurd (is_read m ts c.args.index.now x told _ (c.in_ok-entry.ensures.value m holds) c.in_default.is)

pub returns-then-not-is_tidy-clause-changes : goal.returns-then-not-is_tidy-clause-changes
returns-then-not-is_tidy-clause-changes g c = λ m ts x holds told.
    let read = read_as m ts c.args.index.now x told _ (c.in_ok-entry.ensures.value m holds) c.in-Some.entry c.in-Some.is in
    untidied_none (at m) c.args.index.now x told.entry c.in-Some.entry read (sym c.is_tidy.ensures ∙ c.if-not-is_tidy.true) c.args.batch.now

pub put_index-requires-clause-place : goal.put_index-requires-clause-place
put_index-requires-clause-place g c = place_read_is c.in-Some.entry.place (subst (λ (o : Option IndexEntry). IfSome o (λ (e : IndexEntry). IsPlaceRead e.place)) c.in-Some.is c.in_ok-entry.ensures.place)

pub returns-clause-changes : goal.returns-clause-changes
returns-clause-changes g c = λ m ts x holds told.
    let read = read_as m ts c.args.index.now x told _ (c.in_ok-entry.ensures.value m holds) c.in-Some.entry c.in-Some.is in
    untidied_some (at m) c.args.index.now x told.entry c.in-Some.entry read (sym c.is_tidy.ensures ∙ c.if-not-is_tidy.false) c.args.batch.now c.put_index.new.batch c.in_ok-put_index.ensures.ok

pub returns-clause-as_long : goal.returns-clause-as_long
returns-clause-as_long g c = λ m holds.
    adds_as_long (at m) c.args.index.now c.in-Some.entry _ c.args.batch.now c.put_index.new.batch c.in-Some.is (c.in_ok-entry.ensures.value m holds) c.in_ok-put_index.ensures.ok
