-- The changes of a row that has passed the checks.
use Rattle.std.proofs.Common.{◌≡◌, ℕ, ℤ, ◌≤◌, List, ◌++◌, length, map, Option, Some, sym, ap, subst, ◌∙◌}
use Rattle.std.specs.List.{All}
use Rattle.std.specs.FinMap.{get, entries}
use Rattle.std.proofs.lemmas.Bool.{leb-false}
use Rattle.ct_base.specs.Limits.{row_limit}
use Rattle.st_parse.specs.declared.statements.Operand.{Operand}
use Rattle.ct_keep.specs.Content.{Content, after}
use Rattle.ct_entry.specs.Keys.{at, IsRow}
use Rattle.ct_entry.specs.Changes.{spell}
use Rattle.ct_entry.specs.laws.Changes.{spell-append}
use Rattle.tb_table.specs.Tables.{Table, numbers_of, texts_of}
use Rattle.tb_table.specs.Spelling.{insert_changes}
use Rattle.ix_indexes.specs.Noting.{Noted, all_noted_changes}
use Rattle.db_state.specs.States.{StoreState, StandsForState}
use Rattle.db_state.specs.Entries.{Becomes}
use Rattle.db_change.specs.Noting.{noted_on}
use Rattle.db_change.specs.Inserting.{behind_key, coming, kept_value, others_kept, with_new_row, IsFreeRow, IsNumberKept, IsTextKept}
use Rattle.db_change.proofs.KeptValues.{others_fit, few_others}
use Rattle.db_change.specs.laws.NewRows.{new_row_changes, new_row_becomes}

module _ (c : Content) (m : StoreState) (t : List ℕ) (x : Table) (r : ℤ) (values vs : List Operand) (stands : StandsForState c m) (here : get m.tables t ≡ Some x) (free : IsFreeRow x values r) (row : IsRow r)
    (behind : vs ≡ behind_key values) (numbers : All IsNumberKept vs) (texts : All IsTextKept vs) (es : List (List ℕ × Noted)) (noted : es ≡ noted_on m.indexes t)
    (changes batch : List (List ℕ × Option (List ℕ))) (changes_are : length vs ≤ 255 → changes ≡ spell (insert_changes t r (numbers_of (map kept_value vs)) (texts_of (map kept_value vs))))
    (whole : batch ≡ changes ++ spell (all_noted_changes (at c) (coming r (map kept_value vs)) es)) where
  few : length vs ≤ 255
  few = subst (λ (us : List Operand). length us ≤ 255) (sym behind) (few_others x values r (stands.state.tables.each t x here).columns.few free)

  batch_is : batch ≡ spell (new_row_changes (at c) t r (others_kept values) (noted_on m.indexes t))
  batch_is =
      whole
      ∙ ap (λ (ws : List (List ℕ × Option (List ℕ))). ws ++ spell (all_noted_changes (at c) (coming r (map kept_value vs)) es)) (changes_are few)
      ∙ sym (spell-append (insert_changes t r (numbers_of (map kept_value vs)) (texts_of (map kept_value vs))) (all_noted_changes (at c) (coming r (map kept_value vs)) es))
      ∙ ap (λ (us : List Operand). spell (new_row_changes (at c) t r (map kept_value us) es)) behind
      ∙ ap (λ (ns : List (List ℕ × Noted)). spell (new_row_changes (at c) t r (others_kept values) ns)) noted

  pub batch_becomes : Becomes (with_new_row m t r (others_kept values)) c (after batch c)
  batch_becomes =
      subst (λ (ws : List (List ℕ × Option (List ℕ))). Becomes (with_new_row m t r (others_kept values)) c (after ws c)) (sym batch_is)
      (new_row_becomes c m t x r (others_kept values) stands here free.free row (others_fit x values r free (subst (All IsNumberKept) behind numbers) (subst (All IsTextKept) behind texts)) (leb-false row_limit (length (entries x.rows)) free.few))
