use Rattle.std.proofs.Common.{◌≡◌, ◌++◌, ℕ, List, [], Option, map, sym, ap, ◌∙◌, append-nil, append_assoc}
use Rattle.ct_entry.specs.Keys.{Key}
use Rattle.ct_entry.specs.Changes.{spell}
use Rattle.ct_entry.specs.Each.{each}
use Rattle.ct_entry.specs.laws.Changes.{spell-append}
use Rattle.ix_rows.specs.Growing.{Growing, grown_rows}
use Rattle.ix_rows.specs.RowMaps.{TermRowsView, HeldRows, row_changes, row_map_changes, seen_row, seen_terms}
use Rattle.ix_rows.proofs.MapSteps.{entries-row_map}
use Rattle.ix_rows.proofs.row_maps.TermRows.into_changes.Goals as goal

pub loop-term-preserved : goal.loop-term-preserved
loop-term-preserved c =
    let changes : List (List ℕ × Growing) → List (Key × Option (List ℕ)) = λ es. each (λ (e : List ℕ × Growing). row_changes c.args.kind c.args.index.now e.0 (grown_rows e.1)) es in
    let batch = c.loop-term.batch in
    let rest = changes (seen_terms c.next.new.self) in
    let its = row_changes c.args.kind c.args.index.now c.in-Some.term (grown_rows c.in-Some.rows) in
    let put : c.put_rows.new.batch ≡ batch ++ spell its =
    c.in_ok-put_rows.ensures
    ∙ ap (λ (t : List ℕ). batch ++ spell (row_changes c.args.kind c.args.index.now t (map seen_row c.in_ok-rows.rows.items))) c.as_slice.ensures
    ∙ ap (λ (rows : List (ℕ × List ℕ)). batch ++ spell (row_changes c.args.kind c.args.index.now c.in-Some.term rows)) c.in_ok-rows.ensures
    in
    ap (λ (ws : List (List ℕ × Option (List ℕ))). ws ++ spell rest) put ∙ append_assoc batch (spell its) (spell rest)
    ∙ ap (λ (ws : List (List ℕ × Option (List ℕ))). batch ++ ws) (sym (spell-append its rest))
    ∙ ap (λ (l : List HeldRows). batch ++ spell (changes (seen_terms l))) (sym c.in-Some.ensures.steps)
    ∙ c.loop-term.invariant

pub returns : goal.returns
returns c =
    let all = c.self.inside.rows.entries in
    let changes : List (List ℕ × Growing) → List (Key × Option (List ℕ)) = λ es. each (λ (e : List ℕ × Growing). row_changes c.args.kind c.args.index.now e.0 (grown_rows e.1)) es in
    let done : c.loop-term.term-iterator ≡ [] = c.in-None.ensures.steps.0 in
    sym (append-nil c.loop-term.batch)
    ∙ ap (λ (l : List HeldRows). c.loop-term.batch ++ spell (changes (seen_terms l))) (sym done)
    ∙ c.loop-term.invariant
    ∙ ap (λ (l : List HeldRows). c.args.batch.now ++ spell (changes (seen_terms l))) c.into_iter-term-iterator.ensures.into_iter_gives.0
    ∙ ap (λ (l : List (List ℕ × Growing)). c.args.batch.now ++ spell (changes l)) (sym (entries-row_map all c.self.invariant))
    ∙ ap (λ (m : TermRowsView). c.args.batch.now ++ spell (row_map_changes c.args.kind c.args.index.now m)) c.self.view_is
