use Rattle.std.proofs.lemmas.Result.{IfOk-weaker}
use Rattle.ct_keep.specs.laws.Composing.{reads_hold}
use Rattle.q_reduce.specs.Results.{named_pairs}
use Rattle.db_state.specs.laws.Holding.{holds_thesauri}
use Rattle.db_index.proofs.LoadSteps.{all_loaded}
use Rattle.db_index.proofs.thesauri.all_thesauri.Goals as goal

pub returns-clause-thesauri : goal.returns-clause-thesauri
returns-clause-thesauri g c = λ m k holds stands.
    IfOk-weaker c.load_each.result _ _
    (λ loaded each. all_loaded m.thesauri c.in_ok-names.names.items (named_pairs loaded.items) (c.in_ok-names.ensures.names k holds m.thesauri (holds_thesauri k m stands)) each)
    (c.load_each.ensures.each m k (reads_hold _ _ k c.in_ok-names.ensures.reads holds) stands)
