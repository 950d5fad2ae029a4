-- The changes of a table that has passed the checks.
use Rattle.std.proofs.Common.{◌≡◌, ℕ, Bool, true, false, List, [], ◌∷◌, length, map, Option, refl, sym, ap, subst, ◌∙◌}
use Rattle.std.specs.Prelude.{◌&&◌, not, nat_le, is_some, All}
use Rattle.std.specs.FinMap.{get, entries}
use Rattle.ct_base.specs.Names.{IsName}
use Rattle.ct_keep.specs.Content.{Content, after}
use Rattle.ct_entry.specs.Changes.{spell}
use Rattle.tb_table.specs.declared.columns.Column.{Column}
use Rattle.tb_table.specs.Spelling.{table_changes}
use Rattle.ct_base.specs.Limits.{table_limit}
use Rattle.st_parse.specs.declared.statements.ColumnText.{ColumnText}
use Rattle.db_state.specs.Effects.{Does}
use Rattle.db_change.specs.Creating.{is_key_first, names_differ, all_sized, column_of, with_new_table, check_table, create_table, table_created}
use Rattle.db_state.specs.States.{StoreState, StandsForState}
use Rattle.db_state.specs.Entries.{Becomes}
use Rattle.db_state.specs.Plans.{IsPlan}
use Rattle.db_state.specs.declared.plans.Plan.TheVariants.{Done}
use Rattle.db_state.specs.laws.Serving.{plan_does}
use Rattle.db_state.specs.laws.Chains.{passed}
use Rattle.std.proofs.lemmas.List.Elements.{All-head, All-tail}
use Rattle.db_change.specs.laws.NewTables.{AllNamed, IsFreeTable, created_table_becomes}

-- the columns of the batch have names
pub all_named : (cs : List ColumnText) → All (λ (k : Column). IsName k.name) (map column_of cs) → AllNamed cs
all_named [] all = tt
all_named (c ∷ cs) all = (All-head (λ (k : Column). IsName k.name) (column_of c) (map column_of cs) all, all_named cs (All-tail (λ (k : Column). IsName k.name) (column_of c) (map column_of cs) all))

-- no check holds of what is done
pub table_free : (m : StoreState) (t : List ℕ) (cs : List ColumnText) (n : StoreState) (reply : List ℕ) → create_table m t cs ≡ Does n reply → IsFreeTable m t cs
table_free m t cs n reply is =
    let p = passed _ _ _ n reply is in
    let q = passed _ _ _ n reply p.1 in
    let r = passed _ _ _ n reply q.1 in
    let s = passed _ _ _ n reply r.1 in
    record { free = p.0; formed = not_false (is_key_first cs && names_differ cs) q.0; sized = not_false (all_sized cs) r.0; few = s.0 }
  where
    not_false : (b : Bool) → not b ≡ false → b ≡ true
    not_false true h = refl
    not_false false h = cc

-- the statement by what was read of the state
pub table_read : (m : StoreState) (t : List ℕ) (cs : List ColumnText) (there many : Bool) → there ≡ is_some (get m.tables t)
    → many ≡ nat_le table_limit (length (entries m.tables))
    → create_table m t cs ≡ check_table there many t cs (Does (with_new_table m t cs) table_created)
table_read m t cs there many is most = ap (λ (b : Bool). check_table b (nat_le table_limit (length (entries m.tables))) t cs (Does (with_new_table m t cs) table_created)) (sym is) ∙ ap (λ (b : Bool). check_table there b t cs (Does (with_new_table m t cs) table_created)) (sym most)

-- the batch of a table that no check refuses
pub table_made : (m : StoreState) (k : Content) (t : List ℕ) (cs : List ColumnText) (batch : List (List ℕ × Option (List ℕ))) → StandsForState k m → IsName t
    → (all_sized cs ≡ true → batch ≡ spell (table_changes t (map column_of cs))) → (all_sized cs ≡ true → All (λ (x : Column). IsName x.name) (map column_of cs)) → create_table m t cs ≡ Does (with_new_table m t cs) table_created
    → IsPlan (create_table m t cs) table_created k (Done batch)
table_made m k t cs batch stands name changes named is =
    let free = table_free m t cs _ _ is in
    let named = all_named cs (named free.sized) in
    plan_does (create_table m t cs) k (with_new_table m t cs) table_created batch is
    (subst (λ (b : List (List ℕ × Option (List ℕ))). Becomes (with_new_table m t cs) k (after b k)) (sym (changes free.sized)) (created_table_becomes k m t cs stands name named free))
