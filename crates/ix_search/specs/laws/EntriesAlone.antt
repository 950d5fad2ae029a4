-- The entries of a text are those of a document, which can be scored alone.
use Rattle.std.proofs.Common.{ℕ, ◌≡◌, ◌≤◌, ◌<◌, ◌^◌, ◌⊎◌, inl, inr, ◌||◌, Bool, true, false, List, [], ◌∷◌, length, map, Some, refl, sym, ap, subst, ◌∙◌, arith}
use Rattle.std.specs.List.{AllByRecursion}
use Rattle.std.specs.Str.{chars}
use Rattle.std.specs.Ordering.{is_lt}
use Rattle.std.specs.FinMap as fin
use Rattle.std.proofs.lemmas.Bool.{and_parts}
use Rattle.std.proofs.lemmas.Cmp.{nat_list_cmp_total}
use Rattle.std.proofs.lemmas.List.{length-map}
use Rattle.std.proofs.lemmas.List.Elements.{recursion_from_All}
use Rattle.ct_base.specs.declared.numbers.Pair.{Pair}
use Rattle.ct_base.specs.laws.Orders.{no_tie}
use Rattle.ct_keep.specs.laws.RisingKeys.{below, rises, entries_rise}
use Rattle.ct_keep.specs.laws.FoundKeys.{all_entries}
use Rattle.ix_posting.specs.Forms.{PlacesRise, pair_form, no_pair}
use Rattle.tx_document.specs.Documents.{document, pair}
use Rattle.tx_document.specs.Entries.{places_of, places_under, place_map, entry_of, entries}
use Rattle.tx_document.specs.Promises.{PositionsRise, IsWordEntry, IsSectionEntry, if_any, as_pairs}
use Rattle.tx_document.specs.laws.Found.{get-place_map}
use Rattle.tx_document.specs.laws.Ordered.{entries_are_ordered}
use Rattle.tx_document.specs.laws.Few.{places_are_few}
use Rattle.ix_cursor.specs.Alone.{AreDocumentEntries, has_entry}
use Rattle.ix_search.specs.Promises.{EntriesCanBeScored}
use Rattle.ix_context.specs.laws.Postings.{Named, pairs_rise_so}
use Rattle.ix_search.specs.laws.Entries.{named_order, named_so}

-- ---- places rise

words_rise : (before : ℕ) (ps : List ℕ) → PositionsRise before ps → PlacesRise pair_form (pair before before) (as_pairs ps)
words_rise before [] rise = tt
words_rise before (p ∷ ps) rise = let more = rise.0 in (inl more, (omega (arith, more), omega arith, rise.1), words_rise p ps rise.2)

-- ---- each is an entry

-- a name that isn't empty, and its places
record IsNamed (n : Named) : Type 0 where
  named : 1 ≤ length n.0
  some : 1 ≤ length n.1
  few : length n.1 < 2 ^ 32
  rise : PlacesRise pair_form no_pair n.1

is_named : (name : List ℕ) (places : List Pair) → length places < 2 ^ 32 → IsWordEntry name places ⊎ IsSectionEntry name places → IsNamed (name, places)
is_named name places few (inl is) = record {
  named = subst (λ (l : List ℕ). 1 ≤ length l) (sym is.named) (omega arith);
  some = subst (λ (l : List Pair). 1 ≤ length l) (sym is.are) (let long = length-map is.positions (λ (p : ℕ). pair p p) in let some = is.anywhere in omega (arith, long, some));
  few = few;
  rise = subst (PlacesRise pair_form no_pair) (sym is.are) (words_rise 0 is.positions is.rise);
}
is_named name places few (inr is) = record {
  named = subst (λ (l : List ℕ). 1 ≤ length l) (sym is.named) (omega arith);
  some = is.anywhere;
  few = few;
  rise = pairs_rise_so (pair 0 0) places is.rise;
}

-- ---- no two are of one stream and token

apart : (s : ℕ) (t : List ℕ) (ns : List Named) → AllByRecursion IsNamed ns → below named_order (s ∷ t) ns ≡ true → has_entry s t (map entry_of ns) ≡ false
apart s t [] all low = refl
apart s t (([], places) ∷ ns) all low = let none = all.0.named in absurd (omega (arith, none))
apart s t ((stream ∷ token, places) ∷ ns) all low =
    let b = and_parts (is_lt (named_order (s ∷ t) (stream ∷ token))) (below named_order (s ∷ t) ns) low in
    ap (λ (x : Bool). x || has_entry s t (map entry_of ns)) (named_so s t stream token ∙ no_tie (named_order (s ∷ t) (stream ∷ token)) b.0)
    ∙ apart s t ns all.1 b.1

are_entries : (ns : List Named) → AllByRecursion IsNamed ns → rises named_order ns ≡ true → AreDocumentEntries (map entry_of ns)
are_entries [] all up = tt
are_entries (([], places) ∷ ns) all up = let none = all.0.named in absurd (omega (arith, none))
are_entries ((stream ∷ token, places) ∷ ns) all up =
    let b = and_parts (below named_order (stream ∷ token) ns) (rises named_order ns) up in (
      record { some = all.0.some; few = all.0.few; rise = all.0.rise },
      apart stream token ns all.1 b.0,
      are_entries ns all.1 b.1,
    )

-- ---- the law

pub entries_can_be_scored : EntriesCanBeScored
entries_can_be_scored p text is short =
    let places = places_of (document p (chars text)) in
    are_entries (fin.entries (place_map places))
    (recursion_from_All IsNamed (fin.entries (place_map places)) (all_entries named_order nat_list_cmp_total IsNamed (place_map places) (λ name ps found.
    is_named name ps (few name ps (sym (get-place_map places name) ∙ found)) (entries_are_ordered p text is short name ps found))))
    (entries_rise named_order (place_map places))
  where
    of_any : (qs ps : List Pair) → if_any qs ≡ Some ps → qs ≡ ps
    of_any [] ps h = cc
    of_any (q ∷ qs) ps h = cc

    few : (name : List ℕ) (ps : List Pair) → if_any (places_under name (places_of (document p (chars text)))) ≡ Some ps → length ps < 2 ^ 32
    few name ps h =
        let same = of_any (places_under name (places_of (document p (chars text)))) ps h in
        let bound = places_are_few p text name is short in
        let long = ap (λ (l : List Pair). length l) same in
        omega (arith, long, bound, short)
