-- The changes of rows are on the catalogue's own entries.
use Rattle.std.specs.Prelude.{ℕ, ℤ, ◌≡◌, ◌+◌, Bool, true, false, ◌&&◌, ◌||◌, cond, List, [], ◌∷◌, ◌++◌, Option, Some, None, refl}
use Rattle.ct_base.specs.declared.lists.Value.{Value}
use Rattle.ct_entry.specs.declared.kinds.Kind.{Kind}
use Rattle.ct_entry.specs.declared.kinds.Kind.TheVariants as kind
use Rattle.ct_entry.specs.Keys.{Key, key, same_list}
use Rattle.ct_entry.specs.Changes.{told, AllOf, AllOn}
use Rattle.ct_entry.specs.laws.Changes.{told_frame, all-append, all_on-append}
use Rattle.tb_table.specs.Tables.{Table}
use Rattle.ix_kinds.specs.Indextypes.{IndexOf}
use Rattle.ix_kinds.specs.Standing.{is_of_part, is_entry}
use Rattle.cat_index.specs.declared.filings.Filing.{Filing}
use Rattle.cat_index.specs.Catalogues.{CatalogueBody, filing, filing_in}
use Rattle.cat_index.specs.Kind.{is_row_kind}
use Rattle.cat_index.specs.Changes.{words_change, in_each, filing_changes, same_words, sub_changes, set_from, set_changes, changes_of_row, rows_come}

abbrev pub AllRows : List (Key × Option (List ℕ)) → Type 0
AllRows ws = AllOf is_row_kind ws

-- ---- of rows

-- on one owner's entries of rows
pub record OnRows (i : List ℕ) (ws : List (Key × Option (List ℕ))) : Type 0 where
  pub own : AllOn i ws
  pub rows : AllRows ws

none_on : (i : List ℕ) → OnRows i []
none_on i = record { own = tt; rows = tt }

both_on : (i : List ℕ) (xs ys : List (Key × Option (List ℕ))) → OnRows i xs → OnRows i ys → OnRows i (xs ++ ys)
both_on i xs ys a b = record { own = all_on-append i xs ys a.own b.own; rows = all-append is_row_kind xs ys a.rows b.rows }

words_on : (i : List ℕ) (r : ℤ) (n : ℕ) (words : List (List ℕ)) (there : Bool) (u : List ℕ) → OnRows i (words_change i r n words there u)
words_on i r n [] there u = none_on i
words_on i r n (w ∷ ws) there u = let rest = words_on i r n ws there u in record { own = (refl, rest.own); rows = (refl, rest.rows) }

each_on : (i : List ℕ) (changes : ℕ → List ℕ → List (Key × Option (List ℕ))) → ((n : ℕ) (u : List ℕ) → OnRows i (changes n u)) → (n : ℕ) (us : List (List ℕ)) → OnRows i (in_each changes n us)
each_on i changes one n [] = none_on i
each_on i changes one n (u ∷ us) = both_on i (changes n u) (in_each changes (n + 1) us) (one n u) (each_on i changes one (n + 1) us)

filing_on : (i : List ℕ) (r : ℤ) (w : Filing) (there : Bool) → OnRows i (filing_changes i r w there)
filing_on i r w there = each_on i (λ n u. words_change i r n w.words there u) (λ n u. words_on i r n w.words there u) 0 w.values

sub_on : (i : List ℕ) (r : ℤ) (n : ℕ) (words : List (List ℕ)) (u : List ℕ) (new : List (List ℕ)) (p : List ℕ) → OnRows i (sub_changes i r n words u new p)
sub_on i r n words u new p = go (same_words words new && same_list u p)
  where
    go : (b : Bool) → OnRows i (cond b [] (words_change i r n words false u ++ words_change i r n new true p))
    go true = none_on i
    go false = both_on i (words_change i r n words false u) (words_change i r n new true p) (words_on i r n words false u) (words_on i r n new true p)

set_from_on : (i : List ℕ) (r : ℤ) (n : ℕ) (words new us ps : List (List ℕ)) → OnRows i (set_from i r n words new us ps)
set_from_on i r n words new [] ps = none_on i
set_from_on i r n words new (u ∷ us) [] = none_on i
set_from_on i r n words new (u ∷ us) (p ∷ ps) = both_on i (sub_changes i r n words u new p) (set_from i r (n + 1) words new us ps) (sub_on i r n words u new p) (set_from_on i r (n + 1) words new us ps)

set_on : (i : List ℕ) (r : ℤ) (old new : Filing) → OnRows i (set_changes i r old new)
set_on i r old new = set_from_on i r 0 old.words new.words old.values new.values

pub row_on : (i : List ℕ) (x : IndexOf CatalogueBody) (r : ℤ) (old new : Option (List Value)) → OnRows i (changes_of_row i x r old new)
row_on i x r None None = none_on i
row_on i x r None (Some new) = filing_on i r (filing x r new) true
row_on i x r (Some old) None = filing_on i r (filing x r old) false
row_on i x r (Some old) (Some new) = set_on i r (filing x r old) (filing x r new)

pub rows_on : (i : List ℕ) (x : IndexOf CatalogueBody) (t : Table) (rows : List ℤ) → OnRows i (rows_come i x t rows)
rows_on i x t [] = none_on i
rows_on i x t (r ∷ rs) = both_on i (filing_changes i r (filing_in x t r) true) (rows_come i x t rs) (filing_on i r (filing_in x t r) true) (rows_on i x t rs)

-- ---- which are of an index, beside its own

pub is_part : (k : Kind) → is_row_kind k ≡ true → is_of_part k ≡ true
is_part kind.Catalogue h = refl
is_part k h = cc

is_its : (k : Kind) → is_row_kind k ≡ true → (is_entry k || is_row_kind k) ≡ true
is_its kind.Catalogue h = refl
is_its k h = cc

pub wider : (ws : List (Key × Option (List ℕ))) → AllRows ws → AllOf (λ k. is_entry k || is_row_kind k) ws
wider [] all = tt
wider (w ∷ ws) all = (is_its w.0.kind all.0, wider ws all.1)

-- they leave the index's own entry
pub not_own : (ws : List (Key × Option (List ℕ))) → AllRows ws → (i : List ℕ) (old : Option (List ℕ)) → told ws (key kind.Indexes i []) old ≡ old
not_own ws all i old = told_frame is_row_kind ws (key kind.Indexes i []) old all refl
