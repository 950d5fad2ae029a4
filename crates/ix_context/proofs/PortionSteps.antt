-- Steps of gathering rows, portion by portion.
use Rattle.std.proofs.Common.{◌≡◌, ℕ, ℤ, ◌+◌, ◌≤◌, ◌<◌, List, [], ◌∷◌, ◌++◌, length, map, take, drop, get_or, Option, sym, ap, ◌∙◌, arith}
use Rattle.std.proofs.lemmas.List.{take-append-drop, length-take-le, map-append, take_more}
use Rattle.ct_base.specs.declared.numbers.RowKey.{RowKey}
use Rattle.ct_entry.specs.Each.{numbered}
use Rattle.tx_settings.specs.declared.preferences.Prefs.{Prefs}
use Rattle.ix_context.specs.Gathering.{IndexRowsView, with_text, with_texts}
use Rattle.ix_context.specs.GatheringPortions.{GathersPortion, IsSomeOf, text_or_empty, texts_of, with_portion}
use Rattle.ix_context.specs.Postings.{IsShortOrNone}
use Rattle.ix_context.specs.laws.GatheredPortions.{portion_is}

-- rows one behind the other
texts_in_turn : (p : Prefs) (text : ℤ → Option (List ℕ)) (g : IndexRowsView) (d : ℕ) (xs ys : List RowKey)
    → with_texts p text g (numbered d (map (λ (r : RowKey). r.0) (xs ++ ys)))
    ≡ with_texts p text (with_texts p text g (numbered d (map (λ (r : RowKey). r.0) xs))) (numbered (d + length xs) (map (λ (r : RowKey). r.0) ys))
texts_in_turn p text g d [] ys = ap (λ (n : ℕ). with_texts p text g (numbered n (map (λ (r : RowKey). r.0) ys))) (omega arith)
texts_in_turn p text g d (x ∷ xs) ys =
    texts_in_turn p text (with_text p g d (text x.0)) (d + 1) xs ys
    ∙ ap (λ (n : ℕ). with_texts p text (with_texts p text (with_text p g d (text x.0)) (numbered (d + 1) (map (λ (r : RowKey). r.0) xs))) (numbered n (map (λ (r : RowKey). r.0) ys))) (omega arith)

length-first : (rows : List RowKey) (n : ℕ) → n ≤ length rows → length (take n rows) ≡ n
length-first rows n within = length-take-le n rows within

-- the first so many came, and those that are left come next
pub portion_gathered : (p : Prefs) (text : ℤ → Option (List ℕ)) (all g new : IndexRowsView) (d n : ℕ) (rows rest : List RowKey)
    → with_texts p text g (numbered d (map (λ (r : RowKey). r.0) rows)) ≡ all → IsSomeOf rows n → rest ≡ drop n rows → GathersPortion p text d rows n g new
    → with_texts p text new (numbered (d + n) (map (λ (r : RowKey). r.0) rest)) ≡ all
portion_gathered p text all g new d n rows rest before some is gathers =
    let first = take n rows in
    let left = drop n rows in
    ap (λ (h : IndexRowsView). with_texts p text h (numbered (d + n) (map (λ (r : RowKey). r.0) rest))) gathers
    ∙ ap (λ (l : List RowKey). with_texts p text (with_texts p text g (numbered d (map (λ (r : RowKey). r.0) first))) (numbered (d + n) (map (λ (r : RowKey). r.0) l))) is
    ∙ ap (λ (k : ℕ). with_texts p text (with_texts p text g (numbered d (map (λ (r : RowKey). r.0) first))) (numbered (d + k) (map (λ (r : RowKey). r.0) left))) (sym (length-first rows n some.within))
    ∙ sym (texts_in_turn p text g d first left)
    ∙ ap (λ (l : List RowKey). with_texts p text g (numbered d (map (λ (r : RowKey). r.0) l))) (take-append-drop n rows)
    ∙ before

-- the texts of one row more
pub texts_more : (text : ℤ → Option (List ℕ)) (rows : List RowKey) (i : ℕ) (row : RowKey) (texts new : List (List ℕ)) (one : List ℕ) → i < length rows
    → texts ≡ texts_of text (map (λ (r : RowKey). r.0) (take i rows)) → one ≡ text_or_empty (text (get_or rows i row).0) → new ≡ texts ++ one ∷ []
    → new ≡ texts_of text (map (λ (r : RowKey). r.0) (take (i + 1) rows))
texts_more text rows i row texts new one less are is more =
    more
    ∙ ap (λ (l : List (List ℕ)). l ++ one ∷ []) are
    ∙ ap (λ (t : List ℕ). texts_of text (map (λ (r : RowKey). r.0) (take i rows)) ++ t ∷ []) is
    ∙ sym (map-append (λ (r : ℤ). text_or_empty (text r)) (map (λ (r : RowKey). r.0) (take i rows)) ((get_or rows i row).0 ∷ []))
    ∙ ap (map (λ (r : ℤ). text_or_empty (text r))) (sym (map-append (λ (r : RowKey). r.0) (take i rows) (get_or rows i row ∷ [])))
    ∙ ap (λ (l : List RowKey). texts_of text (map (λ (r : RowKey). r.0) l)) (sym (take_more rows i row less))

-- a portion whose texts are those of the first rows
pub portion_of_rows : (p : Prefs) (text : ℤ → Option (List ℕ)) → ((r : ℤ) → IsShortOrNone (text r)) → (g new : IndexRowsView) (d n : ℕ) (rows : List RowKey) (texts : List (List ℕ))
    → texts ≡ texts_of text (map (λ (r : RowKey). r.0) (take (length texts) rows)) → n ≡ length texts → new ≡ with_portion p g d texts → GathersPortion p text d rows n g new
portion_of_rows p text short g new d n rows texts are count gathers =
    gathers
    ∙ ap (with_portion p g d) are
    ∙ portion_is p text short g d (map (λ (r : RowKey). r.0) (take (length texts) rows))
    ∙ ap (λ (k : ℕ). with_texts p text g (numbered d (map (λ (r : RowKey). r.0) (take k rows)))) (sym count)
