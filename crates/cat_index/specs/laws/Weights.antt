-- The entries that rows have in a catalogue are all in one list, which weighs what the rows weigh.
use Rattle.std.specs.Prelude.{ℕ, ℤ, ◌≡◌, ◌+◌, ◌||◌, zero, suc, Bool, true, false, List, [], ◌∷◌, map, sum_by, Option, Some, refl}
use Rattle.std.specs.List.{flat_map}
use Rattle.std.specs.FinMap.{entries, int_cmp-IsAntisymmetric}
use Rattle.std.proofs.Common.{arith, sym, ap, subst, ◌∙◌, inl, inr}
use Rattle.std.proofs.lemmas.Bool.{and_parts}
use Rattle.std.proofs.lemmas.List.Sums.{sum_by-cons, sum_by-append}
use Rattle.ct_base.specs.declared.lists.Value.{Value}
use Rattle.ct_keep.specs.Content.{entry_weight}
use Rattle.ct_entry.specs.declared.kinds.Kind.TheVariants as kind
use Rattle.ct_entry.specs.Keys.{Key, key, bytes, same_list, IsPart}
use Rattle.ct_entry.specs.Each.{is_any_of}
use Rattle.ct_entry.specs.Lists.{IsIn}
use Rattle.ct_entry.specs.laws.Keys.{list_from_same}
use Rattle.ct_entry.specs.laws.Lists.{in_left, in_right, in_mapped, in_flat_mapped}
use Rattle.ct_entry.specs.laws.MapEntries.{get_in}
use Rattle.tb_table.specs.Tables.{Table}
use Rattle.ix_kinds.specs.Indextypes.{IndexOf}
use Rattle.cat_index.specs.Filings.{at_place, is_just}
use Rattle.cat_index.specs.Catalogues.{CatalogueBody, filing}
use Rattle.cat_index.specs.Entries.{filed_entry, sub_entries, row_entries, catalogue_entries}
use Rattle.cat_index.specs.Kind.{words_weight, subs_weight, row_weight}
use Rattle.cat_index.specs.Standing.{CatalogueStands}
use Rattle.cat_index.specs.laws.Filed.{is_of_row}

-- ---- what they weigh

words_weigh : (i : List ℕ) (r : ℤ) (sub : ℕ) (values : List ℕ) (words : List (List ℕ)) → sum_by entry_weight (map (filed_entry i r sub values) words) ≡ words_weight i r sub values words
words_weigh i r sub values [] = refl
words_weigh i r sub values (w ∷ ws) =
    sum_by-cons entry_weight (filed_entry i r sub values w) (map (filed_entry i r sub values) ws)
    ∙ ap (λ (n : ℕ). entry_weight (filed_entry i r sub values w) + n) (words_weigh i r sub values ws)
    ∙ sym (sum_by-cons (λ word. entry_weight (filed_entry i r sub values word)) w ws)

subs_weigh : (i : List ℕ) (r : ℤ) (words : List (List ℕ)) (sub : ℕ) (vs : List (List ℕ)) → sum_by entry_weight (sub_entries i r words sub vs) ≡ subs_weight i r words sub vs
subs_weigh i r words sub [] = refl
subs_weigh i r words sub (v ∷ vs) =
    sum_by-append entry_weight (map (filed_entry i r sub v) words) (sub_entries i r words (sub + 1) vs)
    ∙ λ j. words_weigh i r sub v words j + subs_weigh i r words (sub + 1) vs j

rows_weigh : (i : List ℕ) (x : IndexOf CatalogueBody) (es : List (ℤ × List Value)) → sum_by entry_weight (flat_map (row_entries i x) es) ≡ sum_by (row_weight i x) es
rows_weigh i x [] = refl
rows_weigh i x ((r, vs) ∷ es) =
    sum_by-append entry_weight (row_entries i x (r, vs)) (flat_map (row_entries i x) es)
    ∙ (λ j. subs_weigh i r (filing x r vs).words 0 (filing x r vs).values j + rows_weigh i x es j)
    ∙ sym (sum_by-cons (row_weight i x) (r, vs) es)

pub entries_weigh : (i : List ℕ) (x : IndexOf CatalogueBody) (t : Table) → sum_by entry_weight (catalogue_entries i x t) ≡ sum_by (row_weight i x) (entries t.rows)
entries_weigh i x t = rows_weigh i x (entries t.rows)

-- ---- each is among them

in_words : (word : List ℕ) (words : List (List ℕ)) → is_any_of word words ≡ true → IsIn word words
in_words word [] h = cc
in_words word (w ∷ ws) h = go (same_list word w) refl h (in_words word ws)
  where
    go : (b : Bool) → same_list word w ≡ b → (b || is_any_of word ws) ≡ true → (is_any_of word ws ≡ true → IsIn word ws) → IsIn word (w ∷ ws)
    go true same h rest = inl (list_from_same word w same)
    go false same h rest = inr (rest h)

in_subs : (i : List ℕ) (r : ℤ) (words : List (List ℕ)) (word values : List ℕ) (sub n m : ℕ) (vs : List (List ℕ)) → IsIn word words → sub ≡ n + m → is_just values (at_place m vs) ≡ true
    → IsIn (filed_entry i r sub values word) (sub_entries i r words n vs)
in_subs i r words word values sub n m [] there is h = cc
in_subs i r words word values sub n zero (v ∷ vs) there is h =
    let number : n ≡ sub = omega (arith, is) in
    let same : v ≡ values = sym (list_from_same values v h) in
    in_left (filed_entry i r sub values word) (map (filed_entry i r n v) words) (sub_entries i r words (n + 1) vs)
    (subst (λ (e : List ℕ × List ℕ). IsIn e (map (filed_entry i r n v) words)) (λ j. filed_entry i r (number j) (same j) word) (in_mapped (filed_entry i r n v) word words there))
in_subs i r words word values sub n (suc m) (v ∷ vs) there is h =
    in_right (filed_entry i r sub values word) (map (filed_entry i r n v) words) (sub_entries i r words (n + 1) vs) (in_subs i r words word values sub (n + 1) m vs there (omega (arith, is)) h)

pub entry_listed : (f : Key → Option (List ℕ)) (i : List ℕ) (x : IndexOf CatalogueBody) (t : Table) → CatalogueStands f i x t → (part v : List ℕ) → IsPart kind.Catalogue part → f (key kind.Catalogue i part) ≡ Some v
    → IsIn (bytes (key kind.Catalogue i part), v) (catalogue_entries i x t)
entry_listed f i x t stands part v is_part has =
    let e = is_of_row f i x t stands part v is_part has in
    let w = filing x e.row e.vs in
    let both = and_parts (is_any_of e.word w.words) (is_just e.values (at_place e.sub w.values)) e.has in
    let of_row = in_subs i e.row w.words e.word e.values e.sub 0 e.sub w.values (in_words e.word w.words both.0) (omega arith) both.1 in
    subst (λ (y : List ℕ × List ℕ). IsIn y (catalogue_entries i x t)) (λ j. (bytes (key kind.Catalogue i (sym e.spelt j)), sym e.none j))
    (in_flat_mapped (row_entries i x) (e.row, e.vs) (entries t.rows) (filed_entry i e.row e.sub e.values e.word) (get_in int_cmp-IsAntisymmetric t.rows e.row e.vs e.here) of_row)
