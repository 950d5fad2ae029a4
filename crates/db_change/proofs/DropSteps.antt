-- What DROP TABLE puts into its batch, and what it does where the table is there.
use Rattle.std.proofs.Common.{◌≡◌, ℕ, ◌+◌, ◌<◌, true, List, [], ◌∷◌, ◌++◌, length, map, drop, get_or, Option, refl, sym, ap, ◌∙◌, add-one, drop-cons}
use Rattle.std.specs.Prelude.{Bool, is_some}
use Rattle.std.specs.FinMap.{get}
use Rattle.ct_base.specs.laws.Options.{some_value}
use Rattle.ct_keep.specs.Content.{Content}
use Rattle.ct_entry.specs.Keys.{at}
use Rattle.ct_entry.specs.Changes.{spell}
use Rattle.ct_entry.specs.laws.Changes.{spell-append}
use Rattle.tb_table.specs.Tables.{Table}
use Rattle.tb_table.specs.Spelling.{remove_changes}
use Rattle.db_names.specs.declared.heads.IndexHead.{IndexHead}
use Rattle.db_names.specs.Findings.{AreIndexesOf}
use Rattle.db_names.specs.Promises.{heads_of}
use Rattle.db_names.specs.laws.Heads.{indexes_of_read}
use Rattle.db_cond.specs.Faults.{UnknownName}
use Rattle.db_state.specs.States.{StoreState, StandsForState}
use Rattle.db_state.specs.Effects.{Does, with_found}
use Rattle.db_state.specs.laws.Heads.{store_heads, heads_stand}
use Rattle.db_change.specs.Dropping.{DropsTable, drop_table, table_dropped, with_table_dropped}
use Rattle.db_change.specs.Noting.{names_on}
use Rattle.db_change.specs.laws.NewRows.{names_on_table}
use Rattle.ix_indexes.specs.Removing.{remove_all_changes}

-- the name of the first of the indexes that are left
pub indexes_left : (es : List (List ℕ × IndexHead)) (n : ℕ) (e : List ℕ × IndexHead) → n < length es → e ≡ get_or es n e
    → map (λ (x : List ℕ × IndexHead). x.0) (drop n es) ≡ e.0 ∷ map (λ (x : List ℕ × IndexHead). x.0) (drop (n + 1) es)
indexes_left es n e less is =
    let first : drop n es ≡ get_or es n e ∷ drop (n + 1) es = rw (add-one, drop-cons es n e) refl in
    ap (λ (l : List (List ℕ × IndexHead)). map (λ (x : List ℕ × IndexHead). x.0) l) first ∙ ap (λ (x : List ℕ × IndexHead). x.0 ∷ map (λ (y : List ℕ × IndexHead). y.0) (drop (n + 1) es)) (sym is)

-- the removal of the table, and then that of each index that was found on it
pub drops_table : (c : Content) (m : StoreState) (t : List ℕ) (shown found : List (List ℕ × IndexHead)) (none one new : List (List ℕ × Option (List ℕ)))
    → StandsForState c m → shown ≡ found → AreIndexesOf (at c) t found → none ≡ []
    → one ≡ none ++ spell (remove_changes t c) → new ≡ one ++ spell (remove_all_changes c (map (λ e. e.0) shown)) → DropsTable m c t new
drops_table c m t shown found none one new stands same are empty first second =
    let names : found ≡ heads_of t (store_heads m.indexes) = indexes_of_read (at c) (store_heads m.indexes) (heads_stand (at c) m.tables m.indexes stands.state.tables stands.state.indexes stands.indexes) t found are in
    record {
      names = names_on m.indexes t;
      are = names_on_table m.indexes t;
      is =
          second
          ∙ ap (λ (b : List (List ℕ × Option (List ℕ))). b ++ spell (remove_all_changes c (map (λ e. e.0) shown))) (first ∙ ap (λ (b : List (List ℕ × Option (List ℕ))). b ++ spell (remove_changes t c)) empty)
          ∙ ap (λ (es : List (List ℕ × IndexHead)). spell (remove_changes t c) ++ spell (remove_all_changes c (map (λ e. e.0) es))) (same ∙ names)
          ∙ sym (spell-append (remove_changes t c) (remove_all_changes c (names_on m.indexes t)));
    }

pub known_table : (m : StoreState) (t : List ℕ) (there : Bool) → there ≡ is_some (get m.tables t) → there ≡ true → drop_table m t ≡ Does (with_table_dropped m t) table_dropped
known_table m t there is here = ap (λ (o : Option Table). with_found o (UnknownName t) (λ (x : Table). Does (with_table_dropped m t) table_dropped)) (some_value (get m.tables t) (sym is ∙ here)).1
