-- Steps of loops that add changes to a batch.
use Rattle.std.proofs.Common.{◌≡◌, ℕ, ℤ, ◌+◌, ◌<◌, List, ◌∷◌, ◌++◌, length, Option, map, drop, get_or, refl, sym, ap, ◌∙◌, append_assoc, add-one, drop-cons}
use Rattle.ct_base.specs.declared.numbers.RowKey.{RowKey}
use Rattle.tx_settings.specs.declared.preferences.Prefs.{Prefs}
use Rattle.ix_context.specs.Gathering.{IndexRowsView, with_text, with_texts}
use Rattle.ct_entry.specs.Keys.{Key}
use Rattle.ct_entry.specs.Changes.{spell}
use Rattle.ct_entry.specs.laws.Changes.{spell-append}
use Rattle.ct_entry.specs.Each.{numbered, each}

-- the changes of the first row of those that are left were added
pub row_added : (changes : ℕ × ℤ → List (Key × Option (List ℕ))) (all batch new : List (List ℕ × Option (List ℕ))) (d : ℕ) (r : ℤ) (left rest : List ℤ)
    → batch ++ spell (each changes (numbered d left)) ≡ all → left ≡ r ∷ rest → new ≡ batch ++ spell (changes (d, r))
    → new ++ spell (each changes (numbered (d + 1) rest)) ≡ all
row_added changes all batch new d r left rest before is added =
    ap (λ b. b ++ spell (each changes (numbered (d + 1) rest))) added
    ∙ append_assoc batch (spell (changes (d, r))) (spell (each changes (numbered (d + 1) rest)))
    ∙ ap (λ l. batch ++ l) (sym (spell-append (changes (d, r)) (each changes (numbered (d + 1) rest))))
    ∙ ap (λ l. batch ++ spell (each changes (numbered d l))) (sym is) ∙ before

-- the text of the first row of those that are left was gathered
pub row_gathered : (p : Prefs) (text : ℤ → Option (List ℕ)) (all g new : IndexRowsView) (d : ℕ) (r : ℤ) (left rest : List ℤ)
    → with_texts p text g (numbered d left) ≡ all → left ≡ r ∷ rest → new ≡ with_text p g d (text r) → with_texts p text new (numbered (d + 1) rest) ≡ all
row_gathered p text all g new d r left rest before is gathers =
    ap (λ (h : IndexRowsView). with_texts p text h (numbered (d + 1) rest)) gathers ∙ ap (λ (l : List ℤ). with_texts p text g (numbered d l)) (sym is) ∙ before

-- the first of the row keys that are left
pub rows_left : (rows : List RowKey) (i : ℕ) (row : RowKey) → i < length rows
    → map (λ (r : RowKey). r.0) (drop i rows) ≡ (get_or rows i row).0 ∷ map (λ (r : RowKey). r.0) (drop (i + 1) rows)
rows_left rows i row less =
    let e : drop i rows ≡ get_or rows i row ∷ drop (i + 1) rows = rw (add-one, drop-cons rows i row) refl in
    ap (λ (l : List RowKey). map (λ (r : RowKey). r.0) l) e
