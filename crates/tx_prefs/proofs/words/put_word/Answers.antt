use Rattle.std.proofs.Common.{ℕ, List, [], ◌∷◌, ◌++◌, length, map, sym, ap, ◌∙◌, append-nil}
use Rattle.std.specs.String.{string_bytes}
use Rattle.std.proofs.lemmas.Bool.{eqb-true, eqb-false}
use Rattle.std.proofs.lemmas.List.{map-append}
use Rattle.tx_prefs.specs.RequestWords.{read_word}
use Rattle.tx_prefs.proofs.WordSteps.{empty_word, some_word}
use Rattle.tx_prefs.proofs.words.put_word.Goals as goal

pub returns-in_ok-push : goal.returns-in_ok-push
returns-in_ok-push c =
    let word = string_bytes c.args.word in
    let some = eqb-false (length c.as_str.result.now) 0 (sym c.is_empty.ensures ∙ c.if-not-is_empty.true) in
    ap (map read_word) c.in_ok-push.ensures.items
    ∙ map-append read_word c.args.words.now.items (c.owned.result ∷ [])
    ∙ ap (λ (w : List ℕ). map read_word c.args.words.now.items ++ read_word w ∷ []) c.owned.ensures
    ∙ ap (λ (l : List (List ℕ)). map read_word c.args.words.now.items ++ l) (sym (some_word word (rw c.as_str.ensures.value at c.as_str.utf8) (λ none. some (ap length c.as_str.ensures.value ∙ none))))

pub returns-else-not-is_empty : goal.returns-else-not-is_empty
returns-else-not-is_empty c =
    let none = eqb-true (length c.as_str.result.now) 0 (sym c.is_empty.ensures ∙ c.if-not-is_empty.false) in
    sym (append-nil (map read_word c.args.words.now.items))
    ∙ ap (λ (l : List (List ℕ)). map read_word c.args.words.now.items ++ l) (sym (empty_word (string_bytes c.args.word) (ap length (sym c.as_str.ensures.value) ∙ none)))
