use Rattle.std.proofs.Common.{subst}
use Rattle.std.specs.Str.{chars}
use Rattle.q_parse.specs.Faults.{Verdict}
use Rattle.q_parse.specs.Verdicts.{verdict}
use Rattle.db_find.specs.Meanings.{Means}
use Rattle.db_find.specs.Querying.{meaning_of_verdict}
use Rattle.std.proofs.lemmas.Result.{IfOk-weaker}
use Rattle.db_find.proofs.querying.meaning_of.Goals as goal

pub returns-in-Ok-clause-meaning : goal.returns-in-Ok-clause-meaning
returns-in-Ok-clause-meaning g c = λ m k holds stands.
    IfOk-weaker c.meaning_of_query.result _ _
    (λ meaning means. subst (λ (v : Verdict). Means meaning (meaning_of_verdict c.args.prefs.now m.thesauri v)) c.in-Ok.ensures.verdict means)
    (c.meaning_of_query.ensures.meaning m k holds stands)

pub returns-in_ok-meaning_of_fault-in-Err-clause-meaning : goal.returns-in_ok-meaning_of_fault-in-Err-clause-meaning
returns-in_ok-meaning_of_fault-in-Err-clause-meaning g c = λ m k holds stands. c.in_ok-meaning_of_fault-in-Err.ensures.meaning (verdict (chars c.args.text.now)) c.args.prefs.now m.thesauri c.in-Err.ensures.verdict
