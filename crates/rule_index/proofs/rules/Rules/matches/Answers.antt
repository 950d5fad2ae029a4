use Rattle.std.proofs.Common.{◌≡◌, List, length, map, ap, subst, sym, ◌∙◌}
use Rattle.std.specs.Prelude.{filter}
use Rattle.std.proofs.lemmas.List.{length-map}
use Rattle.std.proofs.lemmas.Result.{IfOk-weaker}
use Rattle.ct_base.specs.declared.numbers.RowKey.{RowKey}
use Rattle.ct_keep.specs.laws.Composing.{reads_hold}
use Rattle.tx_document.specs.declared.entries.Entry.{Entry}
use Rattle.q_tree.specs.Documents.{postings_of_entries}
use Rattle.ix_cursor.specs.Alone.{AreDocumentEntries, doc_entries}
use Rattle.rule_index.specs.Matching.{filed, looked_for, row_holds}
use Rattle.rule_index.specs.laws.Looks.{as_many, no_rule_more, rules_none}
use Rattle.rule_index.specs.laws.Matching.{entry_postings, held_are_matched}
use Rattle.rule_index.proofs.rules.Rules.matches.Goals as goal

pub held_rows-requires-clause-entries : goal.held_rows-requires-clause-entries
held_rows-requires-clause-entries g c = subst AreDocumentEntries (sym (c.as_slice-places.ensures.value ∙ c.in_ok-entries.ensures)) c.requires.document.alone

pub returns-clause-rows : goal.returns-clause-rows
returns-clause-rows g c = λ m ts x holds told.
    let again = reads_hold _ _ m c.in_ok-rows.ensures.reads holds in
    let keys : map (λ (r : RowKey). r.0) c.as_slice-keys.result.now ≡ filed x (looked_for c.args.document.now) =
    ap (λ (l : List RowKey). map (λ (r : RowKey). r.0) l) c.as_slice-keys.ensures.value ∙ c.in_ok-rows.ensures.rows m ts x holds told in
    IfOk-weaker c.held_rows.result _ _
    (λ held e.
    e
    ∙ ap (λ (l : List Entry). filter (row_holds x (postings_of_entries (doc_entries l))) (map (λ (r : RowKey). r.0) c.as_slice-keys.result.now)) (c.as_slice-places.ensures.value ∙ c.in_ok-entries.ensures)
    ∙ ap (filter (row_holds x (entry_postings c.args.document.now c.requires.document))) keys
    ∙ held_are_matched c.args.document.now c.requires.document x told.rules.each)
    (c.held_rows.ensures.rows m ts x again told)

pub returns-in_err-entries-clause-at_most : goal.returns-in_err-entries-clause-at_most
returns-in_err-entries-clause-at_most g c = λ m ts x holds told. rules_none (length (filed x (looked_for c.args.document.now))) _

pub returns-in_err-rows-clause-at_most : goal.returns-in_err-rows-clause-at_most
returns-in_err-rows-clause-at_most g c = λ m ts x holds told. no_rule_more (length (filed x (looked_for c.args.document.now))) _ _ (c.in_err-rows.ensures.at_most m holds)

pub returns-clause-at_most : goal.returns-clause-at_most
returns-clause-at_most g c = λ m ts x holds told.
    let keys : map (λ (r : RowKey). r.0) c.as_slice-keys.result.now ≡ filed x (looked_for c.args.document.now) =
    ap (λ (l : List RowKey). map (λ (r : RowKey). r.0) l) c.as_slice-keys.ensures.value ∙ c.in_ok-rows.ensures.rows m ts x holds told in
    let few : length c.as_slice-keys.result.now ≡ length (filed x (looked_for c.args.document.now)) = sym (length-map c.as_slice-keys.result.now (λ (r : RowKey). r.0)) ∙ ap length keys in
    as_many _ _ few _ _ _ (c.in_ok-rows.ensures.at_most m holds) c.held_rows.ensures.at_most
