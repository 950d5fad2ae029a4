use Rattle.std.proofs.Common.{rules, ◌≡◌, ℕ, List, Option, subst, sym, ap, ◌∙◌, arith}
use Rattle.std.proofs.lemmas.Result.{err_from_is_err_and}
use Rattle.std.specs.Prelude.{◌==◌}
use Rattle.std.specs.Map.{lookup}
use Rattle.ct_entry.specs.Keys.{IsRow}
use Rattle.tb_table.specs.Tables.{text_in_column}
use Rattle.db_rows.specs.Values.{row_values}
use Rattle.db_rows.specs.Reading.{KnowTexts}
use Rattle.db_rows.specs.Texts.{texts_left}
use Rattle.db_rows.specs.laws.Texts.{leaves_still}
use Rattle.db_rows.proofs.LookSteps.{known_now, rises_unknown}
use Rattle.db_rows.proofs.RowReads.{know_more, text_is}
use Rattle.db_rows.proofs.TextSteps.{once_failed, once_read}
use Rattle.db_rows.proofs.reading.text_once.Goals as goal

pub returns-in-Some-clause-text : goal.returns-in-Some-clause-text
returns-in-Some-clause-text g c = λ m k holds stands read.
    read.texts c.args.column c.in-Some.text
    (ap (lookup (λ place. c.args.column == place)) (sym c.deref.ensures.value) ∙ sym c.in_ok-text.ensures ∙ c.in-Some.is)

pub returns-clause-text : goal.returns-clause-text
returns-clause-text g c = λ m k holds stands read.
    let row : IsRow c.args.row.0 = search rules in
    text_is m k stands c.args.table.now c.args.column c.args.row.0 c.ranges.column.fits row c.in_ok-text-2.text (c.in_ok-text-2.ensures.value k holds)

pub returns-clause-read : goal.returns-clause-read
returns-clause-read g c = λ m k holds stands read.
    let row : IsRow c.args.row.0 = search rules in
    let vs = row_values m.tables c.args.table.now c.args.row.0 in
    let is : c.in_ok-text-2.text ≡ text_in_column vs c.args.column = text_is m k stands c.args.table.now c.args.column c.args.row.0 c.ranges.column.fits row c.in_ok-text-2.text (c.in_ok-text-2.ensures.value k holds) in
    record {
      numbers = read.numbers;
      texts = subst (KnowTexts vs) (sym {A = List (ℕ × Option (List ℕ))} c.in_ok-note_text.ensures) (know_more vs c.args.read.now.texts.items c.args.column c.in_ok-text-2.text read.texts is);
    }

pub returns-in-Some-clause-kept : goal.returns-in-Some-clause-kept
returns-in-Some-clause-kept g c = ap (lookup (λ place. c.args.column == place)) (sym c.deref.ensures.value) ∙ sym c.in_ok-text.ensures ∙ c.in-Some.is

pub returns-clause-kept : goal.returns-clause-kept
returns-clause-kept g c =
    let none = ap (lookup (λ place. c.args.column == place)) (sym c.deref.ensures.value) ∙ sym c.in_ok-text.ensures ∙ c.in_default.is in
    ap {A = List (ℕ × Option (List ℕ))} (lookup (λ place. c.args.column == place)) c.in_ok-note_text.ensures ∙ known_now c.args.read.now.texts.items c.args.column c.in_ok-text-2.text none

-- ---- the look-ups

pub returns-in_err-text-2-clause-at_most : goal.returns-in_err-text-2-clause-at_most
returns-in_err-text-2-clause-at_most g c =
    let none = ap (lookup (λ place. c.args.column == place)) (sym c.deref.ensures.value) ∙ sym c.in_ok-text.ensures ∙ c.in_default.is in
    rises_unknown _ _ _ none c.text_of.ensures.at_most

pub returns-in_err-note_text-clause-at_most : goal.returns-in_err-note_text-clause-at_most
returns-in_err-note_text-clause-at_most g c =
    let none = ap (lookup (λ place. c.args.column == place)) (sym c.deref.ensures.value) ∙ sym c.in_ok-text.ensures ∙ c.in_default.is in
    rises_unknown _ _ _ none c.in_ok-text-2.ensures.at_most

pub returns-clause-at_most : goal.returns-clause-at_most
returns-clause-at_most g c =
    let none = ap (lookup (λ place. c.args.column == place)) (sym c.deref.ensures.value) ∙ sym c.in_ok-text.ensures ∙ c.in_default.is in
    rises_unknown _ _ _ none c.in_ok-text-2.ensures.at_most

-- ---- once

pub returns-in_err-text-clause-once : goal.returns-in_err-text-clause-once
returns-in_err-text-clause-once g c = λ places among. rw (err_from_is_err_and c.from_residual.result c.from_residual.ensures.1).1 (leaves_still (texts_left places c.args.read.now) 0 _ (omega arith))

pub returns-in-Some-clause-once : goal.returns-in-Some-clause-once
returns-in-Some-clause-once g c = λ places among. leaves_still (texts_left places c.args.read.now) (texts_left places c.args.read.now) _ (omega arith)

pub returns-in_err-text-2-clause-once : goal.returns-in_err-text-2-clause-once
returns-in_err-text-2-clause-once g c = λ places among.
    let none = ap (lookup (λ place. c.args.column == place)) (sym c.deref.ensures.value) ∙ sym c.in_ok-text.ensures ∙ c.in_default.is in
    rw (err_from_is_err_and c.from_residual-in_err-text-2.result c.from_residual-in_err-text-2.ensures.1).1 (once_failed places c.args.column c.args.read.now.texts.items _ _ among none c.text_of.ensures.at_most)

pub returns-in_err-note_text-clause-once : goal.returns-in_err-note_text-clause-once
returns-in_err-note_text-clause-once g c = λ places among.
    let none = ap (lookup (λ place. c.args.column == place)) (sym c.deref.ensures.value) ∙ sym c.in_ok-text.ensures ∙ c.in_default.is in
    rw (err_from_is_err_and c.from_residual-in_err-note_text.result c.from_residual-in_err-note_text.ensures.1).1 (once_failed places c.args.column c.args.read.now.texts.items _ _ among none c.in_ok-text-2.ensures.at_most)

pub returns-clause-once : goal.returns-clause-once
returns-clause-once g c = λ places among.
    let none = ap (lookup (λ place. c.args.column == place)) (sym c.deref.ensures.value) ∙ sym c.in_ok-text.ensures ∙ c.in_default.is in
    once_read places c.args.column c.in_ok-text-2.text c.args.read.now.texts.items c.note_text.new.texts.items _ _ c.in_ok-note_text.ensures among none c.in_ok-text-2.ensures.at_most
