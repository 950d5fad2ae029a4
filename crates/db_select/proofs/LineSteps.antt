-- The lines of rows, one after the other.
use Rattle.std.proofs.Common.{◌≡◌, ℕ, false, eqb, List, [], ◌∷◌, ◌++◌, length, map, sym, ap, subst, ◌∙◌, append_assoc, append-nil}
use Rattle.std.specs.List.{flat_map}
use Rattle.std.proofs.lemmas.List.{length-map}
use Rattle.ct_base.specs.declared.lists.Value.{Value}
use Rattle.tb_table.specs.Tables.{Tables}
use Rattle.ix_search.specs.declared.hits.Hit.{Hit}
use Rattle.db_cond.specs.Lines.{line}
use Rattle.db_rows.specs.Reading.{IsReadOf}
use Rattle.db_rows.specs.Values.{row_values}
use Rattle.db_select.specs.declared.finds.FoundRow.{FoundRow}
use Rattle.db_select.specs.declared.sources.FieldSource.{FieldSource}
use Rattle.db_state.specs.Lines.{lines_or_none}
use Rattle.db_select.specs.Fields.{hit_fields, line_fields}
use Rattle.db_select.specs.Hits.{HoldOwn, hits_of}
use Rattle.db_state.specs.laws.PrintedLines.{lines_of_some}

module _ (ts : Tables) (t : List ℕ) (sources : List FieldSource) where
  abbrev text_of : Hit → List ℕ
  text_of h = line (hit_fields ts t sources (h.key.0, h.score))

  -- of all rows the lines were written but for those that are left
  pub record AreWritten (all left : List FoundRow) (lines : List ℕ) : Type 0 where
    pub own : HoldOwn ts t left
    pub are : lines ++ flat_map text_of (hits_of left) ≡ flat_map text_of (hits_of all)

  pub none_written : (all left : List FoundRow) (lines : List ℕ) → left ≡ all → lines ≡ [] → HoldOwn ts t all → AreWritten all left lines
  none_written all left lines whole none own = record {
    own = subst (HoldOwn ts t) (sym whole) own;
    are = ap (λ (l : List ℕ). l ++ flat_map text_of (hits_of left)) none ∙ ap (λ (rows : List FoundRow). flat_map text_of (hits_of rows)) whole;
  }

  pub one_written : (all left rest : List FoundRow) (row : FoundRow) (lines more : List ℕ) → AreWritten all left lines → left ≡ row ∷ rest
      → (IsReadOf (row_values ts t row.hit.key.0) row.read → more ≡ lines ++ line (line_fields sources row.hit.key.0 (row_values ts t row.hit.key.0) row.hit.score))
      → AreWritten all rest more
  one_written all left rest row lines more written is pushed =
      let own : HoldOwn ts t (row ∷ rest) = subst (HoldOwn ts t) is written.own in
      record {
        own = own.1;
        are =
            ap (λ (l : List ℕ). l ++ flat_map text_of (hits_of rest)) (pushed own.0)
            ∙ append_assoc lines (text_of row.hit) (flat_map text_of (hits_of rest))
            ∙ ap (λ (rows : List FoundRow). lines ++ flat_map text_of (hits_of rows)) (sym is)
            ∙ written.are;
      }

  pub all_written : (all left : List FoundRow) (lines : List ℕ) → AreWritten all left lines → left ≡ [] → eqb (length all) 0 ≡ false
      → lines ≡ lines_or_none (map (λ h. hit_fields ts t sources (h.key.0, h.score)) (hits_of all))
  all_written all left lines written none some =
      let row : Hit → List Value = λ h. hit_fields ts t sources (h.key.0, h.score) in
      sym (append-nil lines)
      ∙ ap (λ (rows : List FoundRow). lines ++ flat_map text_of (hits_of rows)) (sym none)
      ∙ written.are
      ∙ sym (lines_of_some row (hits_of all) (ap (λ (n : ℕ). eqb n 0) (length-map all (λ row. row.hit)) ∙ some))
