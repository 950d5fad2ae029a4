-- The steps of taking rows from entries.
use Rattle.std.proofs.Common.{ℕ, ◌≡◌, List, [], ◌∷◌, ◌++◌, Some, None, refl, sym, ap, subst, ◌∙◌, append_assoc, append-nil}
use Rattle.ix_posting.specs.declared.rows.RowDocument.{RowDocument}
use Rattle.ix_posting.specs.Lists.{posting_list}
use Rattle.ix_posting.specs.Forms.{PlaceForm}
use Rattle.ix_posting.specs.Rows.{DocumentsRise}
use Rattle.ix_rows.specs.PlacedRows.{document_number}
use Rattle.ix_rows.specs.Taking.{SpellRows, Hold, AreTaken, IsTaken, last_number}
use Rattle.ix_rows.specs.laws.Posts.{posting_list-append}

module _ {P : Type 0} (form : PlaceForm P) where
  abbrev last : ℕ → List (RowDocument P) → ℕ
  last = last_number document_number

  last-append : (before : ℕ) (xs ys : List (RowDocument P)) → last before (xs ++ ys) ≡ last (last before xs) ys
  last-append before [] ys = refl
  last-append before (x ∷ xs) ys = last-append x.document xs ys

  -- ---- documents that rise can be split, and put together again

  first_rise : (before : ℕ) (xs ys : List (RowDocument P)) → DocumentsRise form before (xs ++ ys) → DocumentsRise form before xs
  first_rise before [] ys rise = tt
  first_rise before (x ∷ xs) ys rise = (rise.0, rise.1, rise.2, rise.3, rise.4, first_rise x.document xs ys rise.5)

  behind_rise : (before : ℕ) (xs ys : List (RowDocument P)) → DocumentsRise form before (xs ++ ys) → DocumentsRise form (last before xs) ys
  behind_rise before [] ys rise = rise
  behind_rise before (x ∷ xs) ys rise = behind_rise x.document xs ys rise.5

  together_rise : (before : ℕ) (xs ys : List (RowDocument P)) → DocumentsRise form before xs → DocumentsRise form (last before xs) ys → DocumentsRise form before (xs ++ ys)
  together_rise before [] ys rise more = more
  together_rise before (x ∷ xs) ys rise more = (rise.0, rise.1, rise.2, rise.3, rise.4, together_rise x.document xs ys rise.5 more)

  -- ---- rows that are taken one after the other

  -- What is left of rows that entries hold, behind those that were taken.
  pub record Left (rest : List (List ℕ × List ℕ)) (rows held : List (List (RowDocument P))) : Type 0 where
    pub more : List (List (RowDocument P))
    pub all : rows ++ more ≡ held
    pub spell : SpellRows form rest more

  -- Rows were taken of entries, of which the rest is left.
  pub record SoFar (es rest : List (List ℕ × List ℕ)) (rows : List (List (RowDocument P))) (end : ℕ) : Type 0 where
    pub rise : DocumentsRise form 0 (posting_list rows)
    pub last_one : end ≡ last 0 (posting_list rows)
    pub left : (held : List (List (RowDocument P))) → Hold form es held → Left rest rows held

  pub begun : (es rest : List (List ℕ × List ℕ)) (rows : List (List (RowDocument P))) → rest ≡ es → rows ≡ [] → SoFar es rest rows 0
  begun es rest rows whole none = record {
    rise = subst (λ (l : List (List (RowDocument P))). DocumentsRise form 0 (posting_list l)) (sym none) tt;
    last_one = sym (ap (λ (l : List (List (RowDocument P))). last 0 (posting_list l)) none);
    left = λ held hold. record { more = held; all = ap (λ (l : List (List (RowDocument P))). l ++ held) none; spell = subst (λ (l : List (List ℕ × List ℕ)). SpellRows form l held) (sym whole) hold.spell };
  }

  -- what is left rises behind what was taken
  left_rises : (rows more held : List (List (RowDocument P))) → rows ++ more ≡ held → DocumentsRise form 0 (posting_list held) → DocumentsRise form (last 0 (posting_list rows)) (posting_list more)
  left_rises rows more held all rise = behind_rise 0 (posting_list rows) (posting_list more) (subst (DocumentsRise form 0) (sym (ap (λ (l : List (List (RowDocument P))). posting_list l) all) ∙ posting_list-append rows more) rise)

  pub taken : (es rest : List (List ℕ × List ℕ)) (e : List ℕ × List ℕ) (rows next : List (List (RowDocument P))) (end : ℕ) (row : List (RowDocument P)) (new at : ℕ)
      → SoFar es (e ∷ rest) rows end → IsTaken form end e.1 (Some (row, new)) → next ≡ rows ++ row ∷ [] → at ≡ new → SoFar es rest next at
  taken es rest e rows next end row new at far is grown moved = subst (λ (n : ℕ). SoFar es rest next n) (sym moved) (subst (λ (l : List (List (RowDocument P))). SoFar es rest l new) (sym grown) (record {
    rise = subst (DocumentsRise form 0) (sym whole) (together_rise 0 (posting_list rows) row far.rise (subst (λ (n : ℕ). DocumentsRise form n row) far.last_one is.0));
    last_one = is.1 ∙ ap (λ (n : ℕ). last n row) far.last_one ∙ sym (last-append 0 (posting_list rows) row) ∙ ap (last 0) (sym whole);
    left = λ held hold. let l = far.left held hold in step held l.more l.all l.spell;
  }))
    where
      whole : posting_list (rows ++ row ∷ []) ≡ posting_list rows ++ row
      whole = posting_list-append rows (row ∷ []) ∙ ap (λ (l : List (RowDocument P)). posting_list rows ++ l) (append-nil row)

      step : (held more : List (List (RowDocument P))) → rows ++ more ≡ held → SpellRows form (e ∷ rest) more → Left rest (rows ++ row ∷ []) held
      step held [] all spell = absurd spell
      step held (r ∷ more) all spell = record {
        more = more;
        all = append_assoc rows (row ∷ []) more ∙ ap (λ (x : List (RowDocument P)). rows ++ x ∷ more) (is.2 r spell.0 spell.1) ∙ all;
        spell = spell.2;
      }

  pub passed : (es rest : List (List ℕ × List ℕ)) (e : List ℕ × List ℕ) (rows next : List (List (RowDocument P))) (end at : ℕ)
      → SoFar es (e ∷ rest) rows end → IsTaken form end e.1 None → next ≡ rows → at ≡ end → SoFar es rest next at
  passed es rest e rows next end at far is same moved = subst (λ (n : ℕ). SoFar es rest next n) (sym moved) (subst (λ (l : List (List (RowDocument P))). SoFar es rest l end) (sym same) (record {
    rise = far.rise;
    last_one = far.last_one;
    left = λ held hold. let l = far.left held hold in step held l.more l.all l.spell hold.rise;
  }))
    where
      step : (held more : List (List (RowDocument P))) → rows ++ more ≡ held → SpellRows form (e ∷ rest) more → DocumentsRise form 0 (posting_list held) → Left rest rows held
      step held [] all spell rise = absurd spell
      step held (r ∷ more) all spell rise =
          let up : DocumentsRise form end r = first_rise end r (posting_list more) (subst (λ (n : ℕ). DocumentsRise form n (r ++ posting_list more)) (sym far.last_one) (left_rises rows (r ∷ more) held all rise)) in
          absurd (is r spell.0 spell.1 up)

  pub ended : (es rest : List (List ℕ × List ℕ)) (rows : List (List (RowDocument P))) (end : ℕ) → SoFar es rest rows end → rest ≡ [] → AreTaken form es rows
  ended es rest rows end far none = record {
    rise = far.rise;
    all = λ held hold. let l = far.left held hold in step held l.more l.all (subst (λ (x : List (List ℕ × List ℕ)). SpellRows form x l.more) none l.spell);
  }
    where
      step : (held more : List (List (RowDocument P))) → rows ++ more ≡ held → SpellRows form [] more → rows ≡ held
      step held [] all spell = sym (append-nil rows) ∙ all
      step held (r ∷ more) all spell = absurd spell
