-- What rows of tables have in catalogues may be put, where both keep their rules.
use Rattle.std.specs.Prelude.{ℕ, ℤ, ◌≡◌, ◌==◌, ◌≤◌, ◌+◌, ◌^◌, zero, suc, pos, nat_le, Bool, true, false, cond, List, [], ◌∷◌, ◌++◌, length, map, Option, Some, None, refl}
use Rattle.std.specs.List.{AllByRecursion, cons_option, flat_map}
use Rattle.std.specs.Ordering.{nat_cmp}
use Rattle.std.specs.Cmp.Lexicographic.{slice_cmp}
use Rattle.std.specs.Str.{IsUtf8, chars}
use Rattle.std.specs.FinMap as fin
use Rattle.std.proofs.Common.{arith, sym, ap, subst, ◌∙◌, inl, inr}
use Rattle.std.proofs.lemmas.Bool.{and_parts, leb-true, ne_eqb}
use Rattle.std.proofs.lemmas.Cmp.{nat_list_cmp_total}
use Rattle.std.proofs.lemmas.List.{length-map}
use Rattle.std.proofs.lemmas.List.Elements.{All-map, recursion_from_All}
use Rattle.ct_base.specs.Limits.{sub_index_limit}
use Rattle.ct_base.specs.declared.lists.Value.{Value}
use Rattle.ct_base.specs.declared.lists.Value.TheVariants.{Number as NumberValue, Text as TextValue}
use Rattle.ct_base.specs.declared.numbers.Pair.{Pair}
use Rattle.ct_keep.specs.laws.FoundKeys.{all_entries}
use Rattle.ct_entry.specs.Keys.{IsRow, IsToken, counted_bytes}
use Rattle.ct_entry.specs.Lists.{EachIs}
use Rattle.tx_settings.specs.declared.preferences.Prefs.{Prefs}
use Rattle.tx_settings.specs.PrefsBytes.{IsPrefs}
use Rattle.tx_sets.specs.Sets.{sub_column_limit}
use Rattle.tx_document.specs.declared.entries.Entry.{Entry}
use Rattle.tx_document.specs.Documents.{document}
use Rattle.tx_document.specs.Entries.{entries, entry_of, place_map, places_of, section_stream}
use Rattle.tx_document.specs.Promises.{IsWordEntry, IsSectionEntry}
use Rattle.tx_document.specs.laws.Ordered.{entries_are_ordered}
use Rattle.cat_index.specs.Filings.{filing_by, fit_sub_index, main_words, sub_text_limit, text_words, value_bytes}
use Rattle.cat_index.specs.Shapes.{AreItems, AreSubValues, AreValues, IsFiling, IsItem, joined}

-- ---- words

abbrev Named : Type 0
Named = List ℕ × List Pair

-- an entry in the main stream is one of a word
abbrev IsMainToken : Entry → Type 0
IsMainToken e = (e.stream == 0) ≡ true → IsToken e.token

word_main : (name : List ℕ) (places : List Pair) → IsWordEntry name places → IsMainToken (entry_of (name, places))
word_main name places is = subst (λ (n : Named). IsMainToken (entry_of n)) (λ i. (sym is.named i, places)) (λ h. record { some = is.some; short = is.short })

section_main : (name : List ℕ) (places : List Pair) → IsSectionEntry name places → IsMainToken (entry_of (name, places))
section_main name places is =
    subst (λ (n : Named). IsMainToken (entry_of n)) (λ i. (sym is.named i, places))
    (λ h. absurd (let wrong : true ≡ false = sym h ∙ ne_eqb section_stream 0 (λ e. omega (arith, e)) in cc))

entries_main : (p : Prefs) (text : List ℕ) → IsPrefs p → length text ≤ 2 ^ 24 → AllByRecursion IsMainToken (entries (document p (chars text)))
entries_main p text is short =
    recursion_from_All IsMainToken (entries (document p (chars text)))
    (All-map IsMainToken entry_of (fin.entries (place_map (places_of (document p (chars text)))))
    (all_entries (slice_cmp nat_cmp) nat_list_cmp_total (λ (n : Named). IsMainToken (entry_of n)) (place_map (places_of (document p (chars text)))) (λ name places found.
    elim (entries_are_ordered p text is short name places found) [ inl w ↦ word_main name places w | inr s ↦ section_main name places s ])))

main_tokens : (es : List Entry) → AllByRecursion IsMainToken es → EachIs IsToken (main_words es)
main_tokens [] all = tt
main_tokens (e ∷ es) all = go (e.stream == 0) all.0 (main_tokens es all.1)
  where
    go : (b : Bool) → (b ≡ true → IsToken e.token) → EachIs IsToken (main_words es) → EachIs IsToken (cons_option (cond b (Some e.token) None) (main_words es))
    go true is rest = (is refl, rest)
    go false is rest = rest

pub words_are_tokens : (p : Prefs) (text : List ℕ) → IsPrefs p → length text ≤ 2 ^ 24 → EachIs IsToken (text_words p (Some text))
words_are_tokens p text is short = main_tokens (entries (document p (chars text))) (entries_main p text is short)

-- ---- values

-- the empty text may be cut to
pub no_text_item : IsItem (counted_bytes [])
no_text_item = inr (record { text = []; short = omega arith; utf8 = ([], (refl, refl)); spelt = refl })

pub text_item : (text : List ℕ) → IsUtf8 text → IsItem (value_bytes (Some (TextValue text)))
text_item text utf8 = go (nat_le (length text) sub_text_limit) refl
  where
    go : (b : Bool) → nat_le (length text) sub_text_limit ≡ b → IsItem (counted_bytes (cond b text []))
    go true h = inr (record { text = text; short = leb-true (length text) sub_text_limit h; utf8 = utf8; spelt = refl })
    go false h = no_text_item

pub number_item : (n : ℤ) → IsRow n → IsItem (value_bytes (Some (NumberValue n)))
number_item n fits = inl (n, fits, refl)

pub no_item : IsItem (value_bytes None)
no_item = inl (pos 0, omega arith, refl)

joined_values : (vs : List (Option Value)) → flat_map value_bytes vs ≡ joined (map value_bytes vs)
joined_values [] = refl
joined_values (v ∷ vs) = ap (λ (l : List ℕ). value_bytes v ++ l) (joined_values vs)

pub items_are_at : (value : ℕ → Option Value) (places : List ℕ) → fit_sub_index places ≡ true → EachIs IsItem (map value_bytes (map value places)) → AreItems sub_column_limit (flat_map value_bytes (map value places))
items_are_at value places h each =
    let p = and_parts (nat_le 1 (length places)) (nat_le (length places) sub_column_limit) h in
    let one = length-map places value in
    let long = length-map (map value places) value_bytes in
    let some = leb-true 1 (length places) p.0 in
    let few = leb-true (length places) sub_column_limit p.1 in
    record { items = map value_bytes (map value places); some = omega (arith, one, long, some); few = omega (arith, one, long, few); each = each; spelt = joined_values (map value places) }

-- those of sub-indexes that have columns
pub with_columns : (n : ℕ) (v : List ℕ) → 1 ≤ n → AreItems sub_column_limit v → AreSubValues n v
with_columns zero v some are = absurd (omega (arith, some))
with_columns (suc n) v some are = are

pub values_are : (n : ℕ) (vs : List (List ℕ)) → 1 ≤ n → EachIs (AreItems sub_column_limit) vs → AreValues n vs
values_are n [] some each = tt
values_are n (v ∷ vs) some each = (with_columns n v some each.0, values_are (n + 1) vs (omega arith) each.1)

pub filing_fits : (p : Prefs) (text : Option (List ℕ)) (value : ℕ → Option Value) (places : List (List ℕ)) → EachIs IsToken (text_words p text)
    → AreValues 0 ([] ∷ map (flat_map value_bytes) (map (map value) places)) → length places ≤ sub_index_limit → IsFiling (filing_by p text (map (map value) places))
filing_fits p text value places words are few =
    let one = length-map places (map value) in
    let long = length-map (map (map value) places) (flat_map value_bytes) in
    record { words = words; values = are; few = omega (arith, one, long, few) }
