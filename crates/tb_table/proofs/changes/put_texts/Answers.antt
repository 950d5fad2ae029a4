use Rattle.std.proofs.Common.{◌≡◌, ℕ, List, [], ◌++◌, sym, ap, subst, arith}
use Rattle.std.specs.List.{All}
use Rattle.std.proofs.lemmas.Grind.{common_steps}
use Rattle.std.proofs.lemmas.List.Elements.{All-nil}
use Rattle.ct_entry.specs.Changes.{spell}
use Rattle.tb_table.specs.Shapes.{IsTextEntry}
use Rattle.tb_table.specs.Spelling.{row_text_changes}
use Rattle.tb_table.proofs.TextChanges.{text_added, text_passed}
use Rattle.tb_table.proofs.changes.put_texts.Goals as goal

pub loop-column-init : goal.loop-column-init
loop-column-init c =
    let whole = c.into_iter-column-iterator.ensures.into_iter_gives.0 in
    record {
      changes = ap (λ (xs : List (ℕ × List ℕ)). c.args.batch.now ++ spell (row_text_changes c.args.table.now c.args.key.0 xs)) whole;
      texts = λ all. subst (All IsTextEntry) whole all;
    }

pub loop-column-preserved : goal.loop-column-preserved
loop-column-preserved c =
    let x : ℕ × List ℕ = (c.in-Some.column, c.in-Some.text) in
    record {
      changes = text_added c.args.table.now c.args.key.0 c.loop-column.batch c.put_text.new.batch _ x _ c.next.new.self.rest.items c.loop-column.invariant.changes c.in-Some.ensures.steps.0 c.in_ok-put_text.ensures;
      texts = text_passed _ _ c.next.new.self.rest.items x c.loop-column.invariant.texts c.in-Some.ensures.steps.0 c.keep_text.ensures;
    }

pub returns-clause-texts : goal.returns-clause-texts
returns-clause-texts c =
    let none : c.loop-column.column-iterator.rest.items ≡ [] = grind (arith, common_steps, c.in-None.ensures) in
    c.loop-column.invariant.texts (subst (All IsTextEntry) (sym none) (All-nil IsTextEntry))
