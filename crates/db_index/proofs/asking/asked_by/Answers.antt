use Rattle.std.proofs.Common.{[], ap, ◌∙◌}
use Rattle.std.proofs.lemmas.Result.{err_from_is_err_and}
use Rattle.std.specs.Option.{option_or}
use Rattle.ct_keep.specs.laws.Composing.{reads_hold, reads_on}
use Rattle.tx_prefs.specs.Copies.{copied, meant}
use Rattle.db_state.specs.laws.Holding.{holds_preferences}
use Rattle.db_index.specs.Asking.{unknown_column}
use Rattle.db_index.proofs.AskSteps.{can_be, same_wanted}
use Rattle.db_index.proofs.asking.asked_by.Goals as goal

pub returns-in_err-subs-clause-reads : goal.returns-in_err-subs-clause-reads
returns-in_err-subs-clause-reads g c =
    let p = err_from_is_err_and c.from_residual-in_err-subs.result c.from_residual-in_err-subs.ensures.1 in
    rw (p.1, p.2) (reads_on _ _ _ _ (reads_on _ _ _ _ c.in_ok-name.ensures.reads c.in_ok-prefs.ensures.reads) c.in_err-subs.ensures.reads)

pub returns-clause-can : goal.returns-clause-can
returns-clause-can g c = can_be c.in_ok-prefs.prefs c.in_ok-subs.subs c.wanted_of-wanted.result c.wanted_of-wanted.ensures c.in_ok-prefs.ensures.can_be_set c.in_ok-subs.ensures.are

pub returns-clause-asked : goal.returns-clause-asked
returns-clause-asked g c = λ m k holds stands.
    let ps = m.preferences in
    let known = holds_preferences k m stands in
    let first = c.in_ok-name.ensures.reads in
    let unknown = c.in_ok-name.ensures.unknown k holds ps known in
    let prefs = c.in_ok-prefs.ensures.copied k (reads_hold _ _ k first holds) ps known ∙ ap (copied ps) c.in_ok-parameters.ensures in
    let subs = c.in_ok-subs.ensures.set m k (reads_hold _ _ k (reads_on _ _ _ _ first c.in_ok-prefs.ensures.reads) holds) stands ∙ ap (meant ps.sets []) c.in_ok-set.ensures in
    let wanted = c.wanted_of-wanted.ensures ∙ same_wanted _ _ _ _ prefs subs in
    record {
      unknown = c.in_ok-unknown.ensures ∙ λ j. option_or (unknown j) (unknown_column c.args.columns.now (wanted j));
      wanted = wanted;
    }
