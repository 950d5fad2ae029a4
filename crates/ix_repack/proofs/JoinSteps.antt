-- Steps of loops over the rows of a term and their documents.
use Rattle.std.proofs.Common.{◌≡◌, ℕ, ◌+◌, ◌<◌, Bool, List, [], ◌∷◌, ◌++◌, length, map, drop, get_or, Option, All, refl, sym, ap, ◌∙◌, append_assoc, add-one, drop-cons}
use Rattle.std.specs.List.{AllByRecursion}
use Rattle.std.proofs.lemmas.List.Elements.{All-from_recursion}
use Rattle.ct_entry.specs.Keys.{Key}
use Rattle.ct_entry.specs.Changes.{spell}
use Rattle.ct_entry.specs.laws.Changes.{spell-append}
use Rattle.ix_posting.specs.declared.rows.RowDocument.{RowDocument}
use Rattle.ix_posting.specs.Forms.{PlaceForm}
use Rattle.ix_posting.specs.Rows.{DocumentsRise, IsPostingRowOf}
use Rattle.ix_rows.specs.RowMaps.{TermRowsView}
use Rattle.ix_rows.specs.laws.PlacedRows.{HasPlaces}
use Rattle.ix_repack.specs.Repacking.{joins_all}
use Rattle.ix_repack.specs.laws.Joining.{joins-append}

-- the first of the elements that are left
pub left_at : {X : Type 0} (xs : List X) (i : ℕ) (x : X) → i < length xs → drop i xs ≡ get_or xs i x ∷ drop (i + 1) xs
left_at xs i x less = rw (add-one, drop-cons xs i x) refl

-- the change of the first element that is left was added
pub one_added : {E Y : Type 0} (change : Y → Key × Option (List ℕ)) (seen : E → Y) (all batch new : List (List ℕ × Option (List ℕ))) (x : E) (left rest : List E)
    → batch ++ spell (map change (map seen left)) ≡ all → left ≡ x ∷ rest → new ≡ batch ++ spell (change (seen x) ∷ []) → new ++ spell (map change (map seen rest)) ≡ all
one_added change seen all batch new x left rest before is added =
    ap (λ (b : List (List ℕ × Option (List ℕ))). b ++ spell (map change (map seen rest))) added
    ∙ append_assoc batch (spell (change (seen x) ∷ [])) (spell (map change (map seen rest)))
    ∙ ap (λ (l : List (List ℕ × Option (List ℕ))). batch ++ l) (sym (spell-append (change (seen x) ∷ []) (map change (map seen rest))))
    ∙ ap (λ (l : List _). batch ++ spell (map change (map seen l))) (sym is) ∙ before

-- changes were added, and others behind them
pub added_both : (old mid new : List (List ℕ × Option (List ℕ))) (xs ys zs us : List (Key × Option (List ℕ))) → mid ≡ old ++ spell xs → new ≡ mid ++ spell ys → xs ≡ zs → ys ≡ us → new ≡ old ++ spell (zs ++ us)
added_both old mid new xs ys zs us first second same others =
    second ∙ ap (λ (ws : List (List ℕ × Option (List ℕ))). ws ++ spell ys) first ∙ append_assoc old (spell xs) (spell ys)
    ∙ ap (λ (ws : List (List ℕ × Option (List ℕ))). old ++ ws) (sym (spell-append xs ys))
    ∙ ap (λ (ws : List (Key × Option (List ℕ))). old ++ spell (ws ++ ys)) same
    ∙ ap (λ (ws : List (Key × Option (List ℕ))). old ++ spell (zs ++ ws)) others

-- the first documents that are left came to a term
pub joined_more : {P : Type 0} (form : PlaceForm P) (keep : ℕ → Bool) (all out new : TermRowsView) (t : List ℕ) (xs left rest : List (RowDocument P))
    → joins_all form keep out t left ≡ all → left ≡ xs ++ rest → new ≡ joins_all form keep out t xs → joins_all form keep new t rest ≡ all
joined_more form keep all out new t xs left rest before is came =
    ap (λ (m : TermRowsView). joins_all form keep m t rest) came
    ∙ joins-append form keep out t xs rest
    ∙ ap (λ (l : List _). joins_all form keep out t l) (sym is) ∙ before

-- the documents of a row have places
pub row_places : {P : Type 0} (form : PlaceForm P) (row : List (RowDocument P)) → IsPostingRowOf form row → All (HasPlaces form) row
row_places {P} form row is = All-from_recursion (HasPlaces form) row (go 0 row is.rise)
  where
    go : (before : ℕ) (xs : List (RowDocument P)) → DocumentsRise form before xs → AllByRecursion (HasPlaces form) xs
    go before [] rise = tt
    go before (x ∷ xs) rise = ((rise.2, rise.3, rise.4), go x.document xs rise.5)
