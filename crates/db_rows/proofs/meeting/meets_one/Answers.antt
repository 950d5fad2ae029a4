use Rattle.std.proofs.Common.{◌≡◌, ℕ, List, ap, ◌∙◌}
use Rattle.std.proofs.lemmas.Result.{err_from_is_err_and}
use Rattle.db_rows.specs.Sources.{source_of}
use Rattle.db_rows.specs.Texts.{reads_among}
use Rattle.db_rows.specs.Checking.{cond_column}
use Rattle.db_rows.proofs.LookSteps.{rises_from}
use Rattle.db_rows.proofs.meeting.meets_one.Goals as goal

pub returns-in_err-value-clause-at_most : goal.returns-in_err-value-clause-at_most
returns-in_err-value-clause-at_most g c =
    let from : c.source_of-source.result ≡ source_of (cond_column c.args.cond.now) c.args.columns.now = c.source_of-source.ensures ∙ ap (λ (name : List ℕ). source_of name c.args.columns.now) c.cond_column.ensures in
    rises_from c.args.read.now _ _ _ _ from c.column_value.ensures.at_most

pub returns-clause-at_most : goal.returns-clause-at_most
returns-clause-at_most g c =
    let from : c.source_of-source.result ≡ source_of (cond_column c.args.cond.now) c.args.columns.now = c.source_of-source.ensures ∙ ap (λ (name : List ℕ). source_of name c.args.columns.now) c.cond_column.ensures in
    rises_from c.args.read.now _ _ _ _ from c.in_ok-value.ensures.at_most

pub returns-in_err-value-clause-once : goal.returns-in_err-value-clause-once
returns-in_err-value-clause-once g c = λ places among.
    let from : c.source_of-source.result ≡ source_of (cond_column c.args.cond.now) c.args.columns.now = c.source_of-source.ensures ∙ ap (λ (name : List ℕ). source_of name c.args.columns.now) c.cond_column.ensures in
    rw (err_from_is_err_and c.from_residual.result c.from_residual.ensures.1).1 (c.in_err-value.ensures.once places (ap (reads_among places) from ∙ among))

pub returns-clause-once : goal.returns-clause-once
returns-clause-once g c = λ places among.
    let from : c.source_of-source.result ≡ source_of (cond_column c.args.cond.now) c.args.columns.now = c.source_of-source.ensures ∙ ap (λ (name : List ℕ). source_of name c.args.columns.now) c.cond_column.ensures in
    c.in_ok-value.ensures.once places (ap (reads_among places) from ∙ among)
