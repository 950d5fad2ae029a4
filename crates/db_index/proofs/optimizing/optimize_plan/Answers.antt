use Rattle.std.proofs.Common.{sym, ap, ◌∙◌}
use Rattle.std.specs.Option.{option_map}
use Rattle.ct_keep.specs.laws.Composing.{reads_hold}
use Rattle.ix_optimize.specs.declared.levels.Level.{Level}
use Rattle.ix_optimize.specs.Optimising.{level_of}
use Rattle.db_call.specs.Arguments.{argument_name}
use Rattle.db_index.specs.Optimizing.{are_optimize_args, is_bad_level, is_no_context, level_asked, optimised, optimize_named}
use Rattle.db_index.proofs.IndexCallSteps.{checked_call}
use Rattle.db_index.proofs.OptimizeChecks.{optimised_as, optimize_none, optimize_of}
use Rattle.db_index.proofs.optimizing.optimize_plan.Goals as goal

pub returns-in-Some-clause-plan : goal.returns-in-Some-clause-plan
returns-in-Some-clause-plan g c = record {
  made = λ m k holds stands.
      let read =
      checked_call m is_no_context (argument_name 0 c.args.args.now) c.args.name.now c.in_ok-kind.kind c.is_some.result _ c.is_no_context.result c.are_optimize_args-shaped.result (are_optimize_args c.args.args.now) c.is_bad_level-bad.result (is_bad_level c.args.args.now) c.index_call_fault.result
      c.requires.named (c.in_ok-kind.ensures.kind m k holds stands) c.is_some.ensures c.unknown_name-unknown.ensures c.is_no_context.ensures c.are_optimize_args-shaped.ensures c.is_bad_level-bad.ensures c.index_call_fault.ensures in
      read.refuses c.in-Some.fault c.in-Some.is (optimize_named m (argument_name 0 c.args.args.now) (level_asked c.args.args.now));
}

pub returns-in_default-name-clause-plan : goal.returns-in_default-name-clause-plan
returns-in_default-name-clause-plan g c = record {
  made = λ m k holds stands.
      let level = level_asked c.args.args.now in
      let read =
      checked_call m is_no_context (argument_name 0 c.args.args.now) c.args.name.now c.in_ok-kind.kind c.is_some.result _ c.is_no_context.result c.are_optimize_args-shaped.result (are_optimize_args c.args.args.now) c.is_bad_level-bad.result (is_bad_level c.args.args.now) c.index_call_fault.result
      c.requires.named (c.in_ok-kind.ensures.kind m k holds stands) c.is_some.ensures c.unknown_name-unknown.ensures c.is_no_context.ensures c.are_optimize_args-shaped.ensures c.is_bad_level-bad.ensures c.index_call_fault.ensures in
      read.does c.in_default.is (optimize_named m (argument_name 0 c.args.args.now) level) ∙ ap (λ name. optimize_named m name level) (sym c.requires.named ∙ c.in_default-name.is);
}

pub returns-in_default-level_asked-clause-plan : goal.returns-in_default-level_asked-clause-plan
returns-in_default-level_asked-clause-plan g c = record {
  made = λ m k holds stands.
      let named = argument_name 0 c.args.args.now in
      let level = level_asked c.args.args.now in
      let read =
      checked_call m is_no_context (argument_name 0 c.args.args.now) c.args.name.now c.in_ok-kind.kind c.is_some.result _ c.is_no_context.result c.are_optimize_args-shaped.result (are_optimize_args c.args.args.now) c.is_bad_level-bad.result (is_bad_level c.args.args.now) c.index_call_fault.result
      c.requires.named (c.in_ok-kind.ensures.kind m k holds stands) c.is_some.ensures c.unknown_name-unknown.ensures c.is_no_context.ensures c.are_optimize_args-shaped.ensures c.is_bad_level-bad.ensures c.index_call_fault.ensures in
      read.does c.in_default.is (optimize_named m named level)
      ∙ optimize_none m c.in-Some-name.index named (sym c.requires.named ∙ c.in-Some-name.is) level (sym c.level_asked.ensures ∙ ap (option_map (λ (l : Level). level_of l)) c.in_default-level_asked.is);
}

pub returns-clause-plan : goal.returns-clause-plan
returns-clause-plan g c = record {
  made = λ m k holds stands.
      let i = c.in-Some-name.index in
      let named = argument_name 0 c.args.args.now in
      let level = level_asked c.args.args.now in
      let asked = level_of c.in-Some-level_asked.level in
      let read =
      checked_call m is_no_context (argument_name 0 c.args.args.now) c.args.name.now c.in_ok-kind.kind c.is_some.result _ c.is_no_context.result c.are_optimize_args-shaped.result (are_optimize_args c.args.args.now) c.is_bad_level-bad.result (is_bad_level c.args.args.now) c.index_call_fault.result
      c.requires.named (c.in_ok-kind.ensures.kind m k holds stands) c.is_some.ensures c.unknown_name-unknown.ensures c.is_no_context.ensures c.are_optimize_args-shaped.ensures c.is_bad_level-bad.ensures c.index_call_fault.ensures in
      let it = read.calls c.in_default.is i c.in-Some-name.is in (
        optimised m asked i,
        read.does c.in_default.is (optimize_named m named level)
            ∙ optimize_of m i named (sym c.requires.named ∙ c.in-Some-name.is) it.index level asked (sym c.level_asked.ensures ∙ ap (option_map (λ (l : Level). level_of l)) c.in-Some-level_asked.is) it.there,
        c.in_ok-batch.ensures.changes m k it.index (reads_hold _ _ k c.in_ok-kind.ensures.reads holds) stands it.there (optimised_as m i c.in_ok-kind.kind it),
      );
}
