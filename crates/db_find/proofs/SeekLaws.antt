-- The index on the place of a column is the one that a search needs.
use Rattle.std.proofs.Common.{◌≡◌, ℕ, suc, ◌+◌, ◌<◌, ◌≤◌, length, Bool, true, false, cond, List, [], ◌∷◌, Option, Some, None, ap, subst, ◌∙◌, arith}
use Rattle.std.specs.Option.{option_and_then}
use Rattle.tb_table.specs.declared.columns.Column.{Column}
use Rattle.ct_entry.specs.Keys.{same_list}
use Rattle.db_names.specs.declared.heads.IndexKind.{IndexKind}
use Rattle.db_state.specs.States.{StoreState}
use Rattle.db_state.specs.Columns.{place_from, column_place}
use Rattle.db_state.specs.Lookups.{FoundOn, index_on}
use Rattle.db_find.specs.Searches.{Search, search_column, search_kind}
use Rattle.db_find.specs.Seeking.{NeedsIndex}

-- a place that is found is one of the columns
place_below : (k : ℕ) (name : List ℕ) (columns : List Column) (place : ℕ) → place_from k name columns ≡ Some place → place < k + length columns
place_below k name [] place is = cc
place_below k name (c ∷ cs) place is = go (same_list name c.name) is (place_below (suc k) name cs place)
  where
    go : (b : Bool) → cond b (Some k) (place_from (suc k) name cs) ≡ Some place → (place_from (suc k) name cs ≡ Some place → place < suc k + length cs) → place < k + length (c ∷ cs)
    go true is rest = let e : k ≡ place = cc in omega (arith, e)
    go false is rest = let low = rest is in omega (arith, low)

pub place_small : (name : List ℕ) (columns : List Column) (place : ℕ) → column_place name columns ≡ Some place → length columns ≤ 256 → place < 256
place_small name columns place is few = let low = place_below 0 name columns place is in omega (arith, low)

-- the index of its kind on the place of the column is the one that the search needs
needed_on : (m : StoreState) (t : List ℕ) (columns : List Column) (s : Search) (place : ℕ) → column_place (search_column s) columns ≡ Some place → (found : Option (List ℕ)) → FoundOn (search_kind s) m.indexes t place found → NeedsIndex m t columns s found
needed_on m t columns s place is None found = ap (option_and_then (λ (place : ℕ). index_on (search_kind s) m.indexes t place)) is ∙ found
needed_on m t columns s place is (Some i) found = (found.0, (found.1.0, ap (option_and_then (λ (place : ℕ). index_on (search_kind s) m.indexes t place)) is ∙ found.1.1))

pub needed_at : (m : StoreState) (t : List ℕ) (columns : List Column) (s : Search) (kind : IndexKind) (place : ℕ) → kind ≡ search_kind s → column_place (search_column s) columns ≡ Some place → (found : Option (List ℕ)) → FoundOn kind m.indexes t place found → NeedsIndex m t columns s found
needed_at m t columns s kind place answers is found there = needed_on m t columns s place is found (subst (λ (k : IndexKind). FoundOn k m.indexes t place found) answers there)
