-- The named places of a map in memory, whose names strictly rise, against the finite map that they are.
use Rattle.std.proofs.Common.{◌≡◌, ℕ, List, [], ◌∷◌, ◌++◌, map, Option, Some, None, Vec, sym, ap, ◌∙◌}
use Rattle.std.specs.Prelude.{is_some}
use Rattle.std.specs.Option.{option_map}
use Rattle.std.specs.declared.alloc.Global.{Global}
use Rattle.std.specs.Ordering.{nat_cmp}
use Rattle.std.specs.Cmp.Lexicographic.{slice_cmp}
use Rattle.std.specs.List.Sorted.{IsStrictlySortedBy}
use Rattle.std.specs.Map.{keys_of, lookup, set_value}
use Rattle.std.specs.BTreeMap.{insert_entry, is_at}
use Rattle.std.specs.FinMap.{get, insert, entries, empty}
use Rattle.std.proofs.lemmas.Cmp.{nat_list_cmp_total}
use Rattle.std.proofs.lemmas.Map.Lookups.{exact_bytes}
use Rattle.ct_base.specs.declared.numbers.Pair.{Pair}
use Rattle.ct_base.specs.laws.SortedMaps.{entries-seen, lookup-seen, seen-insert, seen-none, seen-set_value}
use Rattle.tx_document.specs.Places.{NamedPlaces, PlaceMap, had, map_of, with_place}

abbrev name_of : List ℕ → List ℕ
name_of name = name

abbrev places_in : Vec Pair Global → List Pair
places_in v = v.items

abbrev pub named_places : List NamedPlaces → List (List ℕ × List Pair)
named_places es = map (λ e. (name_of e.0, places_in e.1)) es

pub entries-map_of : (es : List NamedPlaces) → IsStrictlySortedBy (slice_cmp nat_cmp) (keys_of es) → entries (map_of es) ≡ named_places es
entries-map_of es s = entries-seen (slice_cmp nat_cmp) name_of places_in es s

pub map_of-none : map_of [] ≡ empty
map_of-none = seen-none (slice_cmp nat_cmp) name_of places_in

get-lookup : (es : List NamedPlaces) (name : List ℕ) → IsStrictlySortedBy (slice_cmp nat_cmp) (keys_of es)
    → option_map places_in (lookup (is_at (λ x. slice_cmp nat_cmp name x)) es) ≡ get (map_of es) name
get-lookup es name s = lookup-seen (slice_cmp nat_cmp) name_of places_in es name s

-- a further place of a name that has some
pub place_there : (old new : List NamedPlaces) (name : List ℕ) (ps qs : Vec Pair Global) (m : PlaceMap) (p : Pair)
    → IsStrictlySortedBy (slice_cmp nat_cmp) (keys_of old) → IsStrictlySortedBy (slice_cmp nat_cmp) (keys_of new)
    → map_of old ≡ m → lookup (is_at (λ x. slice_cmp nat_cmp name x)) old ≡ Some ps → new ≡ set_value (is_at (λ x. slice_cmp nat_cmp name x)) old qs
    → qs.items ≡ ps.items ++ p ∷ []
    → map_of new ≡ with_place m name p
place_there old new name ps qs m p s t seen found is more =
    let there : get (map_of old) name ≡ Some ps.items = sym (get-lookup old name s) ∙ ap (λ (o : Option (Vec Pair Global)). option_map places_in o) found in
    seen-set_value (slice_cmp nat_cmp) name_of places_in nat_list_cmp_total exact_bytes old new name qs s t (ap (λ (o : Option (List Pair)). is_some o) there) is
    ∙ ap (λ (l : List Pair). insert (map_of old) name l) (more ∙ ap (λ (o : Option (List Pair)). had o ++ p ∷ []) (sym there))
    ∙ ap (λ (k : PlaceMap). with_place k name p) seen

-- the first place of a name that is new
pub place_new : (old new : List NamedPlaces) (key name : List ℕ) (ps : Vec Pair Global) (m : PlaceMap) (p : Pair)
    → IsStrictlySortedBy (slice_cmp nat_cmp) (keys_of old) → IsStrictlySortedBy (slice_cmp nat_cmp) (keys_of new)
    → map_of old ≡ m → lookup (is_at (λ x. slice_cmp nat_cmp name x)) old ≡ None → key ≡ name → new ≡ insert_entry (slice_cmp nat_cmp) old key ps
    → ps.items ≡ p ∷ []
    → map_of new ≡ with_place m name p
place_new old new key name ps m p s t seen found same is one =
    let none : get (map_of old) name ≡ None = sym (get-lookup old name s) ∙ ap (λ (o : Option (Vec Pair Global)). option_map places_in o) found in
    seen-insert (slice_cmp nat_cmp) name_of places_in nat_list_cmp_total old new key ps s t is
    ∙ ap (λ (l : List ℕ). insert (map_of old) l ps.items) same
    ∙ ap (λ (l : List Pair). insert (map_of old) name l) (one ∙ ap (λ (o : Option (List Pair)). had o ++ p ∷ []) (sym none))
    ∙ ap (λ (k : PlaceMap). with_place k name p) seen
