-- The changes for the texts of a row, of which one more is added.
use Rattle.std.proofs.Common.{◌≡◌, ℕ, ℤ, Option, List, [], ◌∷◌, ◌++◌, sym, ap, subst, ◌∙◌, append_assoc}
use Rattle.std.specs.List.{All}
use Rattle.std.proofs.lemmas.List.Elements.{All-cons}
use Rattle.ct_entry.specs.declared.kinds.Kind.TheVariants as kind
use Rattle.ct_entry.specs.Keys.{key, text_part}
use Rattle.ct_entry.specs.Changes.{KeyChange, spell, put_value}
use Rattle.tb_table.specs.Shapes.{IsTextEntry}
use Rattle.tb_table.specs.Spelling.{row_text_changes}

abbrev pub text_change : List ℕ → ℤ → ℕ × List ℕ → KeyChange
text_change t r x = put_value (key kind.RowTexts t (text_part x.0 r)) x.1

-- with the changes of what is left the batch is the same as before
pub text_added : (t : List ℕ) (r : ℤ) (batch new all : List (List ℕ × Option (List ℕ))) (x : ℕ × List ℕ) (xs rest : List (ℕ × List ℕ))
    → batch ++ spell (row_text_changes t r xs) ≡ all → xs ≡ x ∷ rest → new ≡ batch ++ spell (text_change t r x ∷ []) → new ++ spell (row_text_changes t r rest) ≡ all
text_added t r batch new all x xs rest before is added =
    ap (λ (b : List (List ℕ × Option (List ℕ))). b ++ spell (row_text_changes t r rest)) added
    ∙ append_assoc batch (spell (text_change t r x ∷ [])) (spell (row_text_changes t r rest))
    ∙ ap (λ (l : List (ℕ × List ℕ)). batch ++ spell (row_text_changes t r l)) (sym is) ∙ before

-- each text is one of an entry where each of those that are left is
pub text_passed : (all left rest : List (ℕ × List ℕ)) (x : ℕ × List ℕ) → (All IsTextEntry left → All IsTextEntry all) → left ≡ x ∷ rest → IsTextEntry x → All IsTextEntry rest → All IsTextEntry all
text_passed all left rest x so_far is one more = so_far (subst (All IsTextEntry) (sym is) (All-cons IsTextEntry x rest one more))
