use Rattle.std.proofs.Common.{◌≡◌, List, [], ◌∷◌, ◌++◌, ◌∙◌, sym, ap, subst, append_assoc, append-nil}
use Rattle.ix_posting.specs.Rows.{DocumentsRise, WordDocument}
use Rattle.ix_posting.specs.Forms.{number_form}
use Rattle.ix_posting.specs.Lists.{posting_list}
use Rattle.index_tests.proofs.cursors.rows.Goals as goal

list_more : (rows : List (List WordDocument)) (row more : List WordDocument) → posting_list (rows ++ row ∷ []) ++ more ≡ posting_list rows ++ (row ++ more)
list_more [] row more = ap (λ ds. ds ++ more) (append-nil row)
list_more (x ∷ rows) row more =
    append_assoc x (posting_list (rows ++ row ∷ [])) more ∙ ap (λ ds. x ++ ds) (list_more rows row more) ∙ sym (append_assoc x (posting_list rows) (row ++ more))

pub loop-bytes-preserved : goal.loop-bytes-preserved
loop-bytes-preserved c more rise =
    let rows = c.loop-bytes.rows.items in
    let row = c.in_ok-row.row in
    subst (λ (rs : List (List WordDocument)). DocumentsRise number_form 0 (posting_list rs ++ more)) (sym c.in_ok-push.ensures.items)
    (subst (DocumentsRise number_form 0) (sym (list_more rows row more)) (c.loop-bytes.invariant (row ++ more) (c.in_ok-row.ensures more rise)))

pub returns : goal.returns
returns c = subst (λ (rs : List (List WordDocument)). DocumentsRise number_form 0 (posting_list rs)) (sym c.in_ok-of.ensures) (subst (DocumentsRise number_form 0) (append-nil (posting_list c.loop-bytes.rows.items)) (c.loop-bytes.invariant [] tt))
