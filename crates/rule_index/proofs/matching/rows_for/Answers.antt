use Rattle.std.proofs.Common.{◌≡◌, true, List, ℕ, ◌∷◌, [], sym, ap, subst, ◌∙◌}
use Rattle.std.specs.List.{list_all}
use Rattle.std.specs.List.Sorted.{IsPermutation}
use Rattle.tx_document.specs.declared.views.WordView.{WordView}
use Rattle.q_tree.specs.Soundness.{is_key}
use Rattle.q_stored.specs.Anchoring.{document_keys}
use Rattle.rule_index.specs.Matching.{AreFiled, doc_words}
use Rattle.rule_index.proofs.MatchSteps.{sorted_filed, sorted_keys}
use Rattle.rule_index.proofs.matching.rows_for.Goals as goal

pub filed_rows-requires-clause-keys : goal.filed_rows-requires-clause-keys
filed_rows-requires-clause-keys g c =
    subst (λ (l : List (List ℕ)). list_all is_key l ≡ true) (sym c.as_slice-sorted.ensures.value) (sorted_keys c.args.document.now c.sort_keys.new.keys.items c.requires.document.rules.keys
    (subst (λ (l : List (List ℕ)). IsPermutation l c.sort_keys.new.keys.items) (c.in_ok-keys.ensures ∙ ap (λ (ws : List WordView). document_keys (doc_words ws)) c.as_slice-words.ensures) c.sort_keys.ensures))

pub returns-clause-rows : goal.returns-clause-rows
returns-clause-rows g c = λ m ts x holds told.
    c.in_ok-rows.ensures
    ∙ sorted_filed m ts c.args.index.now x c.args.document.now c.sort_keys.new.keys.items c.in_ok-found.found told c.requires.document.rules.keys
    (subst (λ (l : List (List ℕ)). IsPermutation l c.sort_keys.new.keys.items) (c.in_ok-keys.ensures ∙ ap (λ (ws : List WordView). document_keys (doc_words ws)) c.as_slice-words.ensures) c.sort_keys.ensures)
    (subst (λ (l : List (List ℕ)). AreFiled c.args.index.now m ([] ∷ l) c.in_ok-found.found) c.as_slice-sorted.ensures.value (c.in_ok-found.ensures.rows m holds))
