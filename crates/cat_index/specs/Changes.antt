-- What calls put into a batch.
use Rattle.std.specs.Prelude.{ℕ, ℤ, ◌+◌, Bool, true, false, ◌&&◌, Result, OnOk, List, [], ◌∷◌, ◌++◌, map, Option, Some, None, pos, ◌≡◌, codes, refl}
use Rattle.std.specs.Bool.{if◌then◌else◌}
use Rattle.ct_base.specs.declared.lists.Value.{Value}
use Rattle.ct_bytes.specs.RowKeys.{row_bytes}
use Rattle.ct_entry.specs.declared.kinds.Kind.TheVariants as kind
use Rattle.ct_entry.specs.Keys.{Key, key, same_list, catalogue_part}
use Rattle.ct_entry.specs.Changes.{spell}
use Rattle.ct_entry.specs.Each.{each}
use Rattle.tb_table.specs.Tables.{Table}
use Rattle.ix_kinds.specs.Indextypes.{IndexOf}
use Rattle.cat_index.specs.declared.filings.Filing.{Filing}
use Rattle.cat_index.specs.Catalogues.{CatalogueBody, filing, filing_in}

-- what an entry of a row has, by whether it is there
abbrev pub filed : Bool → Option (List ℕ)
filed there = if there then Some [] else None

-- the entry of a row in the sub-index of this number, with these values, under a word: it comes, or goes
abbrev pub word_change : List ℕ → ℤ → ℕ → List ℕ → Bool → List ℕ → Key × Option (List ℕ)
word_change i r sub values there word = (key kind.Catalogue i (catalogue_part sub word values r), filed there)

-- those of all words
abbrev pub words_change : List ℕ → ℤ → ℕ → List (List ℕ) → Bool → List ℕ → List (Key × Option (List ℕ))
words_change i r sub words there values = map (word_change i r sub values there) words

-- in sub-indexes, of which the first has this number, and each other the next
abbrev pub in_each : (ℕ → List ℕ → List (Key × Option (List ℕ))) → ℕ → List (List ℕ) → List (Key × Option (List ℕ))
in_each changes sub [] = []
in_each changes sub (v ∷ vs) = changes sub v ++ in_each changes (sub + 1) vs

-- all entries of a row come, or go
abbrev pub filing_changes : List ℕ → ℤ → Filing → Bool → List (Key × Option (List ℕ))
filing_changes i r w there = in_each (λ sub v. words_change i r sub w.words there v) 0 w.values

-- ---- a row that is set

abbrev pub same_words : List (List ℕ) → List (List ℕ) → Bool
same_words [] [] = true
same_words [] (y ∷ ys) = false
same_words (x ∷ xs) [] = false
same_words (x ∷ xs) (y ∷ ys) = same_list x y && same_words xs ys

-- in one sub-index: nothing, where its entries stay
abbrev pub sub_changes : List ℕ → ℤ → ℕ → List (List ℕ) → List ℕ → List (List ℕ) → List ℕ → List (Key × Option (List ℕ))
sub_changes i r sub words values new_words new_values =
    if same_words words new_words && same_list values new_values then [] else words_change i r sub words false values ++ words_change i r sub new_words true new_values

abbrev pub set_from : List ℕ → ℤ → ℕ → List (List ℕ) → List (List ℕ) → List (List ℕ) → List (List ℕ) → List (Key × Option (List ℕ))
set_from i r sub words new_words [] us = []
set_from i r sub words new_words (v ∷ vs) [] = []
set_from i r sub words new_words (v ∷ vs) (u ∷ us) = sub_changes i r sub words v new_words u ++ set_from i r (sub + 1) words new_words vs us

-- from what it had to what it has, in as many sub-indexes
abbrev pub set_changes : List ℕ → ℤ → Filing → Filing → List (Key × Option (List ℕ))
set_changes i r old new = set_from i r 0 old.words new.words old.values new.values

-- ---- a row by what it was and is, and a new catalogue

-- by the values of the row before and after the statement
abbrev pub changes_of_row : List ℕ → IndexOf CatalogueBody → ℤ → Option (List Value) → Option (List Value) → List (Key × Option (List ℕ))
changes_of_row i x r None None = []
changes_of_row i x r None (Some new) = filing_changes i r (filing x r new) true
changes_of_row i x r (Some old) None = filing_changes i r (filing x r old) false
changes_of_row i x r (Some old) (Some new) = set_changes i r (filing x r old) (filing x r new)

-- those of these rows of a table, in a catalogue that has none of them yet
abbrev pub rows_come : List ℕ → IndexOf CatalogueBody → Table → List ℤ → List (Key × Option (List ℕ))
rows_come i x t rows = each (λ r. filing_changes i r (filing_in x t r) true) rows

-- ---- what calls add to a batch

-- Unless the call failed, the batch has these changes more.
abbrev pub Adds : {T E : Type 0} → List (List ℕ × Option (List ℕ)) → List (List ℕ × Option (List ℕ)) → Result T E → List (Key × Option (List ℕ)) → Type 0
Adds old new result changes = OnOk result (new ≡ old ++ spell changes)

-- computed examples: the row 7 of a catalogue `ci`, with the words `car` and `red`, in the plain sub-index and in one of a price
abbrev car_and_red : List (List ℕ)
car_and_red = codes "car" ∷ codes "red" ∷ []

abbrev of_price : List ℕ → Filing
of_price price = record { words = car_and_red; values = [] ∷ price ∷ [] }

four_entries : spell (filing_changes (codes "ci") (pos 7) (of_price (1 ∷ codes "9")) true)
    ≡ (0x28 ∷ 2 ∷ codes "ci" ++ (0 ∷ 3 ∷ codes "car" ++ (0x80 ∷ 0 ∷ 0 ∷ 0 ∷ 0 ∷ 0 ∷ 0 ∷ 7 ∷ [])), Some [])
    ∷ (0x28 ∷ 2 ∷ codes "ci" ++ (0 ∷ 3 ∷ codes "red" ++ (0x80 ∷ 0 ∷ 0 ∷ 0 ∷ 0 ∷ 0 ∷ 0 ∷ 7 ∷ [])), Some [])
    ∷ (0x28 ∷ 2 ∷ codes "ci" ++ (1 ∷ 3 ∷ codes "car" ++ (1 ∷ codes "9" ++ (0x80 ∷ 0 ∷ 0 ∷ 0 ∷ 0 ∷ 0 ∷ 0 ∷ 7 ∷ []))), Some [])
    ∷ (0x28 ∷ 2 ∷ codes "ci" ++ (1 ∷ 3 ∷ codes "red" ++ (1 ∷ codes "9" ++ (0x80 ∷ 0 ∷ 0 ∷ 0 ∷ 0 ∷ 0 ∷ 0 ∷ 7 ∷ []))), Some []) ∷ []
unfolding row_bytes
four_entries = refl

-- where the price alone is set, the entries of the plain sub-index stay
the_price_alone : (r : ℤ) → set_changes (codes "ci") r (of_price (1 ∷ codes "9")) (of_price (1 ∷ codes "8"))
    ≡ words_change (codes "ci") r 1 car_and_red false (1 ∷ codes "9") ++ words_change (codes "ci") r 1 car_and_red true (1 ∷ codes "8")
the_price_alone r = refl

nothing_is_set : (r : ℤ) → set_changes (codes "ci") r (of_price (1 ∷ codes "9")) (of_price (1 ∷ codes "9")) ≡ []
nothing_is_set r = refl
