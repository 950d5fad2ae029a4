use Rattle.std.proofs.Common.{ℕ, List, Option, refl, sym, ap, subst, ◌∙◌}
use Rattle.ct_base.specs.laws.Options.{match_none}
use Rattle.ct_keep.specs.Content.{after}
use Rattle.ct_keep.specs.laws.Composing.{reads_hold}
use Rattle.ix_indexes.specs.Indexes.{Index}
use Rattle.db_cond.specs.Faults.{LimitReached}
use Rattle.db_call.specs.Arguments.{argument_name}
use Rattle.db_index.specs.Syncing.{are_sync_args, is_bad_size, is_other_kind, sync_named, with_synced}
use Rattle.db_state.specs.States.{StandsForState}
use Rattle.db_state.specs.Effects.{Works, Syncs}
use Rattle.db_state.specs.Entries.{IsSynced}
use Rattle.db_state.specs.Lines.{call_done}
use Rattle.db_state.specs.laws.Chains.{fails, passes}
use Rattle.db_index.specs.laws.NewMarks.{synced_stands}
use Rattle.db_index.proofs.Found.{found_some}
use Rattle.db_index.proofs.IndexCallSteps.{checked_call}
use Rattle.db_index.proofs.SyncChecks.{sync_of, synced_as}
use Rattle.db_index.proofs.syncing.sync_plan.Goals as goal

pub returns-in-Some-clause-plan : goal.returns-in-Some-clause-plan
returns-in-Some-clause-plan g c = record {
  made = λ m k holds stands.
      let read =
      checked_call m is_other_kind (argument_name 0 c.args.args.now) c.args.name.now c.in_ok-kind.kind c.is_some.result _ c.is_other_kind.result c.are_sync_args-shaped.result (are_sync_args c.args.args.now) c.is_bad_size-bad.result (is_bad_size c.args.args.now) c.index_call_fault.result
      c.requires.named (c.in_ok-kind.ensures.kind m k holds stands) c.is_some.ensures c.unknown_name-unknown.ensures c.is_other_kind.ensures c.are_sync_args-shaped.ensures c.is_bad_size-bad.ensures c.index_call_fault.ensures in
      read.refuses c.in-Some.fault c.in-Some.is (sync_named m (argument_name 0 c.args.args.now));
}

pub returns-in_default-name-clause-plan : goal.returns-in_default-name-clause-plan
returns-in_default-name-clause-plan g c = record {
  made = λ m k holds stands.
      let read =
      checked_call m is_other_kind (argument_name 0 c.args.args.now) c.args.name.now c.in_ok-kind.kind c.is_some.result _ c.is_other_kind.result c.are_sync_args-shaped.result (are_sync_args c.args.args.now) c.is_bad_size-bad.result (is_bad_size c.args.args.now) c.index_call_fault.result
      c.requires.named (c.in_ok-kind.ensures.kind m k holds stands) c.is_some.ensures c.unknown_name-unknown.ensures c.is_other_kind.ensures c.are_sync_args-shaped.ensures c.is_bad_size-bad.ensures c.index_call_fault.ensures in
      read.does c.in_default.is (sync_named m (argument_name 0 c.args.args.now)) ∙ ap (sync_named m) (sym c.requires.named ∙ c.in_default-name.is);
}

pub returns-in_default-found-clause-plan : goal.returns-in_default-found-clause-plan
returns-in_default-found-clause-plan g c = record {
  made = λ m k holds stands.
      let i = c.in-Some-name.index in
      let named = argument_name 0 c.args.args.now in
      let read =
      checked_call m is_other_kind (argument_name 0 c.args.args.now) c.args.name.now c.in_ok-kind.kind c.is_some.result _ c.is_other_kind.result c.are_sync_args-shaped.result (are_sync_args c.args.args.now) c.is_bad_size-bad.result (is_bad_size c.args.args.now) c.index_call_fault.result
      c.requires.named (c.in_ok-kind.ensures.kind m k holds stands) c.is_some.ensures c.unknown_name-unknown.ensures c.is_other_kind.ensures c.are_sync_args-shaped.ensures c.is_bad_size-bad.ensures c.index_call_fault.ensures in
      let it = read.calls c.in_default.is i c.in-Some-name.is in
      let found = c.in_ok-found.ensures.changes m k it.index (reads_hold _ _ k c.in_ok-kind.ensures.reads holds) stands it.there (synced_as m i c.in_ok-kind.kind c.is_rule_index.result c.is_rule_index.ensures it) in
      read.does c.in_default.is (sync_named m named) ∙ sync_of m i it.index named (sym c.requires.named ∙ c.in-Some-name.is) it.there
      ∙ fails _ LimitReached _ (match_none c.in_ok-found.found _ _ c.in_default-found.is found);
}

pub returns-clause-plan : goal.returns-clause-plan
returns-clause-plan g c = record {
  made = λ m k holds stands.
      let i = c.in-Some-name.index in
      let named = argument_name 0 c.args.args.now in
      let read =
      checked_call m is_other_kind (argument_name 0 c.args.args.now) c.args.name.now c.in_ok-kind.kind c.is_some.result _ c.is_other_kind.result c.are_sync_args-shaped.result (are_sync_args c.args.args.now) c.is_bad_size-bad.result (is_bad_size c.args.args.now) c.index_call_fault.result
      c.requires.named (c.in_ok-kind.ensures.kind m k holds stands) c.is_some.ensures c.unknown_name-unknown.ensures c.is_other_kind.ensures c.are_sync_args-shaped.ensures c.is_bad_size-bad.ensures c.index_call_fault.ensures in
      let it = read.calls c.in_default.is i c.in-Some-name.is in
      let given = c.in_ok-found.ensures.changes m k it.index (reads_hold _ _ k c.in_ok-kind.ensures.reads holds) stands it.there (synced_as m i c.in_ok-kind.kind c.is_rule_index.result c.is_rule_index.ensures it) in
      let found = found_some c.in_ok-found.found c.in-Some-found.batch _ _ c.in-Some-found.is given in (
        Works (with_synced m i) call_done (Syncs m i),
        read.does c.in_default.is (sync_named m named) ∙ sync_of m i it.index named (sym c.requires.named ∙ c.in-Some-name.is) it.there ∙ passes _ LimitReached _ found.0,
        (
          refl,
          subst (λ (b : List (List ℕ × Option (List ℕ))). StandsForState (after b k) (with_synced m i)) (sym found.1) (synced_stands k m i it.index stands it.there found.0),
          subst (λ (o : Option Index). IsSynced m i o k (after c.in-Some-found.batch k)) (sym it.there) (ap (λ (b : List (List ℕ × Option (List ℕ))). after b k) found.1),
        ),
      );
}
