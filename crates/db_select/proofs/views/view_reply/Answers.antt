use Rattle.std.proofs.Common.{◌≡◌, List, length, ⊎_elim, sym, ap, ◌∙◌, arith}
use Rattle.std.specs.List.{flat_map}
use Rattle.ct_base.specs.declared.lists.Value.{Value}
use Rattle.ct_base.specs.declared.numbers.RowKey.{RowKey}
use Rattle.ct_keep.specs.laws.Composing.{reads_hold}
use Rattle.std.proofs.lemmas.List.{length-map}
use Rattle.st_parse.specs.declared.statements.SelectList.{SelectList}
use Rattle.db_state.specs.Lines.{lines_or_none}
use Rattle.db_select.specs.Views.{view_lines, view_reply}
use Rattle.db_select.specs.ViewRows.{keys_at, text_at, text_or_none}
use Rattle.db_select.proofs.ViewSteps.{all_counted, all_texts, count_said, or_none}
use Rattle.db_select.proofs.views.view_reply.Goals as goal

pub returns-in-CountAll-clause-reply : goal.returns-in-CountAll-clause-reply
returns-in-CountAll-clause-reply g c = λ m k holds stands.
    let view = c.args.view in
    let behind = reads_hold _ _ k c.in_ok-names.ensures.reads holds in
    let keys =
    c.in_ok-keys-in-CountAll.ensures.keys m k behind stands
    ∙ ap (flat_map (keys_at view m.indexes)) (c.deref.ensures.value ∙ c.in_ok-names.ensures.names m k holds stands) in
    let count : length c.in_ok-keys-in-CountAll.keys.items ≡ length (view_lines view m.indexes) = sym (length-map c.in_ok-keys-in-CountAll.keys.items (λ (row : RowKey). row.0)) ∙ ap length keys ∙ all_counted view m.indexes in
    let size : c.len.result ≡ length c.in_ok-keys-in-CountAll.keys.items = omega (arith, c.len.ensures) in
    c.in_ok-count_line-in-CountAll.ensures
    ∙ ap count_said (size ∙ count)
    ∙ sym (ap (λ (list : SelectList). view_reply list (view_lines view m.indexes)) c.in-CountAll.is)

pub returns-clause-reply : goal.returns-clause-reply
returns-clause-reply g c = λ m k holds stands.
    let view = c.args.view in
    let behind = reads_hold _ _ k c.in_ok-names.ensures.reads holds in
    let all : List (List Value) = view_lines view m.indexes in
    let lines =
    c.in_ok-lines-in-Star.ensures.lines m k behind stands
    ∙ ap (flat_map (text_at view m.indexes)) (c.deref-in-Star.ensures.value ∙ c.in_ok-names.ensures.names m k holds stands)
    ∙ all_texts view m.indexes in
    let list : view_reply c.args.list.now all ≡ lines_or_none all =
    ⊎_elim {C = view_reply c.args.list.now all ≡ lines_or_none all} (λ p. ap (λ (l : SelectList). view_reply l all) p) (λ p. ap (λ (l : SelectList). view_reply l all) p.1) c.in-Star.is in
    c.in_ok-or_none-in-Star.ensures ∙ ap text_or_none lines ∙ or_none all ∙ sym list
