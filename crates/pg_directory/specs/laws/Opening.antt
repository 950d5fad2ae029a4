-- Pages whose strings are entries that stand, with a directory that names each of them in order, hold a map.
use Rattle.std.specs.Prelude.{Bool, true, false, cond, map}
use Rattle.std.proofs.Common.{◌≡◌, ◌≢◌, ⊎_elim, ℕ, zero, suc, ◌+◌, ◌-◌, ◌≤◌, ◌<◌, List, [], ◌∷◌, ◌++◌, length, length-append, take, take-suc, get_or, Option, Some, None, refl, sym, ap, subst, ◌∙◌, append_assoc, arith}
use Rattle.std.specs.List.{Contains}
use Rattle.std.specs.FinMap.{get, get-empty}
use Rattle.std.specs.Ordering.{nat_cmp}
use Rattle.std.specs.Cmp.Lexicographic.{slice_cmp}
use Rattle.std.proofs.lemmas.List.{map-append, take_all}
use Rattle.std.proofs.lemmas.List.Elements.{Contains-append_cases}
use Rattle.ct_keep.specs.Content.{Content, set_to}
use Rattle.ct_keep.specs.laws.Content.{same, same_keys, get-set_to}
use Rattle.pg_map.specs.Kinds.{Each, Kind, Free, strings_of, IsStringItem, Entry}
use Rattle.pg_map.specs.Holding.{Placed, IsLayout, times, one_if_long, kind_of_page, chains_of, bytes_of, entries_of}
use Rattle.pg_map.specs.Loose.{values_under, held, AreValues, Stand}
use Rattle.pg_map.specs.MapReading.{nothing}
use Rattle.pg_map.specs.PageStrings.{string_key}
use Rattle.pg_map.specs.laws.MapReading.{strings-cons}
use Rattle.pg_map.specs.laws.PageStrings.{item_key}
use Rattle.pg_map.specs.laws.Whole.{entries_by_values}
use Rattle.pg_directory.specs.declared.entries.EntryAt.{EntryAt}
use Rattle.pg_directory.specs.Trees.{StorePage, Plain, kind_of, strings_at, string_at, key_at, HasString, IsBelow, Rise}
use Rattle.pg_directory.specs.Counting.{slots_on, places_from}
use Rattle.pg_directory.specs.laws.Counting.{Differ, covers, is_place, length-places, rising_differ, not_below_itself}
use Rattle.pg_directory.specs.laws.Listing.{none_in, in_more, first_in, later_in, each_in, key_stands}

-- ---- the map of some entries

abbrev pub keys_of : List Entry → List (List ℕ)
keys_of es = map (λ (e : Entry). e.0) es

-- No two of the entries have one key.
abbrev pub KeysDiffer : List Entry → Type 0
KeysDiffer es = Differ (keys_of es)

abbrev pub map_of : List Entry → Content
map_of [] = nothing
map_of (e ∷ es) = set_to e.0 (Some e.1) (map_of es)

no_value : (key : List ℕ) (es : List Entry) → Each (λ (k : List ℕ). key ≢ k) (keys_of es) → values_under key es ≡ []
no_value key [] each = refl
no_value key (f ∷ es) each = of (same key f.0) refl (no_value key es each.1)
  where
    of : (b : Bool) → same key f.0 ≡ b → values_under key es ≡ [] → cond (same key f.0) (f.1 ∷ values_under key es) (values_under key es) ≡ []
    of true is rest = absurd (each.0 (same_keys key f.0 is))
    of false is rest = ap (λ (b : Bool). cond b (f.1 ∷ values_under key es) (values_under key es)) is ∙ rest

held_none : (o : Option (List ℕ)) → held o ≡ [] → o ≡ None
held_none None is = refl
held_none (Some v) is = absurd (cc is)

pub values_are : (es : List Entry) → KeysDiffer es → AreValues es (map_of es)
values_are [] differ = record { are = λ key. sym (ap held (get-empty {X = List ℕ} (slice_cmp nat_cmp) key)) }
values_are (e ∷ es) differ = with_rest (values_are es differ.1)
  where
    none : values_under e.0 es ≡ []
    none = no_value e.0 es differ.0

    now : (key : List ℕ) → get (map_of (e ∷ es)) key ≡ cond (same key e.0) (Some e.1) (get (map_of es) key)
    now key = get-set_to e.0 (Some e.1) (map_of es) key

    of : AreValues es (map_of es) → (key : List ℕ) (b : Bool) → same key e.0 ≡ b → values_under key (e ∷ es) ≡ held (get (map_of (e ∷ es)) key)
    of rest key true is =
        ap (λ (b : Bool). cond b (e.1 ∷ values_under key es) (values_under key es)) is
        ∙ ap (λ (l : List (List ℕ)). e.1 ∷ l) (ap (λ (k : List ℕ). values_under k es) (same_keys key e.0 is) ∙ none)
        ∙ ap held (sym (now key ∙ ap (λ (b : Bool). cond b (Some e.1) (get (map_of es) key)) is))
    of rest key false is =
        ap (λ (b : Bool). cond b (e.1 ∷ values_under key es) (values_under key es)) is ∙ rest.are key
        ∙ ap held (sym (now key ∙ ap (λ (b : Bool). cond b (Some e.1) (get (map_of es) key)) is))

    with_rest : AreValues es (map_of es) → AreValues (e ∷ es) (map_of (e ∷ es))
    with_rest rest = record { are = λ key. of rest key (same key e.0) refl }

-- Strings that are entries which stand, no two of one key, and each long page once, are the layout of a map.
pub layout_of : (kinds : List Kind) (placed : List Placed) → strings_of kinds ≡ bytes_of placed → Each (λ (p : Placed). IsStringItem p.item) placed → Stand kinds placed
    → ((i : ℕ) → 3 ≤ i → times i (chains_of placed) ≡ one_if_long (kind_of_page kinds i)) → KeysDiffer (entries_of placed) → IsLayout kinds (map_of (entries_of placed))
layout_of kinds placed strings items stand long differ = record {
  placed = placed;
  strings = strings;
  items = items;
  stand = stand;
  long = long;
  entries = entries_by_values (entries_of placed) (map_of (entries_of placed)) (values_are (entries_of placed) differ);
}

-- ---- the keys of strings, page by page

slot_key : (pages : List StorePage) (page n : ℕ) (ss : List (List ℕ)) → strings_at pages page ≡ ss → n ≤ length ss → map (string_at pages) (slots_on page n) ≡ take n ss
slot_key pages page zero ss is most = refl
slot_key pages page (suc n) ss is most =
    map-append (string_at pages) (slots_on page n) (record { page = page; slot = n } ∷ [])
    ∙ ap (λ (l : List (List ℕ)). l ++ string_at pages (record { page = page; slot = n }) ∷ []) (slot_key pages page n ss is (omega (arith, most)))
    ∙ ap (λ (l : List (List ℕ)). take n ss ++ get_or l n [] ∷ []) is
    ∙ sym (take-suc ss n [] (omega (arith, most)))

pub at_front : (front pages : List StorePage) (p : StorePage) → get_or (front ++ p ∷ pages) (length front) (Plain Free) ≡ p
at_front [] pages p = refl
at_front (q ∷ front) pages p = at_front front pages p

-- the strings at the places of the pages behind some others
strings_there : (front pages : List StorePage) → map (string_at (front ++ pages)) (places_from (3 + length front) pages) ≡ strings_of (map kind_of pages)
strings_there front [] = refl
strings_there front (p ∷ pages) =
    let own = strings_of (kind_of p ∷ []) in
    let n : (3 + length front) - 3 ≡ length front = omega arith in
    let here : strings_at (front ++ p ∷ pages) (3 + length front) ≡ own =
    ap (λ (k : ℕ). strings_of (kind_of (get_or (front ++ p ∷ pages) k (Plain Free)) ∷ [])) n ∙ ap (λ (q : StorePage). strings_of (kind_of q ∷ [])) (at_front front pages p) in
    let list : front ++ p ∷ pages ≡ (front ++ p ∷ []) ++ pages = sym (append_assoc front (p ∷ []) pages) in
    let long : suc (3 + length front) ≡ 3 + length (front ++ p ∷ []) = omega (arith, length-append front (p ∷ [])) in
    map-append (string_at (front ++ p ∷ pages)) (slots_on (3 + length front) (length own)) (places_from (suc (3 + length front)) pages)
    ∙ ap (λ (l : List (List ℕ)). l ++ map (string_at (front ++ p ∷ pages)) (places_from (suc (3 + length front)) pages))
    (slot_key (front ++ p ∷ pages) (3 + length front) (length own) own here (omega arith) ∙ take_all (length own) own (omega arith))
    ∙ ap (λ (l : List (List ℕ)). own ++ l)
    (ap (λ (k : ℕ). map (string_at (front ++ p ∷ pages)) (places_from k pages)) long ∙ ap (λ (l : List StorePage). map (string_at l) (places_from (3 + length (front ++ p ∷ [])) pages)) list ∙ strings_there (front ++ p ∷ []) pages)
    ∙ sym (strings-cons (kind_of p) (map kind_of pages))

pub strings_of_places : (pages : List StorePage) → map (string_at pages) (places_from 3 pages) ≡ strings_of (map kind_of pages)
strings_of_places pages = strings_there [] pages

-- ---- places are different ones, and so are their keys

on_page : (page n : ℕ) (e : EntryAt) → Contains (slots_on page n) e → (e.page ≡ page) × (e.slot < n)
on_page page zero e has = absurd (none_in e has)
on_page page (suc n) e has = ⊎_elim
    (λ before. let r = on_page page n e before in (r.0, let less = r.1 in omega (arith, less)))
    (λ last. ⊎_elim
    (λ is. (sym (ap (λ (x : EntryAt). x.page) is), let s = ap (λ (x : EntryAt). x.slot) is in omega (arith, s)))
    (λ none. absurd (none_in e none)) (in_more (record { page = page; slot = n }) e [] last))
    (Contains-append_cases (slots_on page n) (record { page = page; slot = n } ∷ []) e has)

page_low : (first : ℕ) (pages : List StorePage) (e : EntryAt) → Contains (places_from first pages) e → first ≤ e.page
page_low first [] e has = absurd (none_in e has)
page_low first (p ∷ pages) e has = ⊎_elim
    (λ here. let same = (on_page first (length (strings_of (kind_of p ∷ []))) e here).0 in omega (arith, same))
    (λ later. let l = page_low (suc first) pages e later in omega (arith, l))
    (Contains-append_cases (slots_on first (length (strings_of (kind_of p ∷ [])))) (places_from (suc first) pages) e has)

-- One of the entries in order has a key, and no other.
pub rising_one : (key : EntryAt → List ℕ) (es : List EntryAt) (x y : EntryAt) → Rise key es → Contains es x → Contains es y → key x ≡ key y → x ≡ y
rising_one key [] x y rise a b is = absurd (none_in x a)
rising_one key (e ∷ es) x y rise a b is = ⊎_elim
    (λ first. ⊎_elim
    (λ second. sym first ∙ second)
    (λ later. absurd (not_below_itself (key y) (subst (λ (k : List ℕ). IsBelow k (key y)) (ap key first ∙ is) (each_in (λ (f : EntryAt). IsBelow (key e) (key f)) es y rise.0 later))))
    (in_more e y es b))
    (λ later. ⊎_elim
    (λ second. absurd (not_below_itself (key x) (subst (λ (k : List ℕ). IsBelow k (key x)) (ap key second ∙ sym is) (each_in (λ (f : EntryAt). IsBelow (key e) (key f)) es x rise.0 later))))
    (λ both. rising_one key es x y rise.1 later both is)
    (in_more e y es b))
    (in_more e x es a)

pub differ-append : {X : Type 0} (xs ys : List X) → Differ xs → Differ ys → ((x y : X) → Contains xs x → Contains ys y → x ≢ y) → Differ (xs ++ ys)
differ-append {X = X} [] ys a b apart = b
differ-append {X = X} (x ∷ xs) ys a b apart = (both xs a.0 (λ z there. later_differ z there), differ-append xs ys a.1 b (λ v w first second. apart v w (later_in x v xs first) second))
  where
    others : (zs : List X) → ((z : X) → Contains zs z → x ≢ z) → Each (λ y. x ≢ y) zs
    others [] each = tt
    others (z ∷ zs) each = (each z (first_in z zs), others zs (λ w there. each w (later_in z w zs there)))

    later_differ : (z : X) → Contains ys z → x ≢ z
    later_differ z there = apart x z (first_in x xs) there

    both : (zs : List X) → Each (λ y. x ≢ y) zs → ((z : X) → Contains ys z → x ≢ z) → Each (λ y. x ≢ y) (zs ++ ys)
    both [] each more = others ys more
    both (z ∷ zs) each more = (each.0, both zs each.1 more)

slots_differ : (page n : ℕ) → Differ (slots_on page n)
slots_differ page zero = tt
slots_differ page (suc n) = differ-append (slots_on page n) (record { page = page; slot = n } ∷ []) (slots_differ page n) (tt, tt)
    (λ x y first second is. ⊎_elim
    (λ last. let r = on_page page n x first in let less = r.1 in let s = ap (λ (e : EntryAt). e.slot) (is ∙ sym last) in omega (arith, less, s))
    (λ none. none_in y none) (in_more (record { page = page; slot = n }) y [] second))

pub places_differ : (first : ℕ) (pages : List StorePage) → Differ (places_from first pages)
places_differ first [] = tt
places_differ first (p ∷ pages) =
    let n = length (strings_of (kind_of p ∷ [])) in
    differ-append (slots_on first n) (places_from (suc first) pages) (slots_differ first n) (places_differ (suc first) pages)
    (λ x y here later is. let a = (on_page first n x here).0 in let b = page_low (suc first) pages y later in let s = ap (λ (e : EntryAt). e.page) is in omega (arith, a, b, s))

-- different entries of those in order have different keys
keys_differ : (key : EntryAt → List ℕ) (es ps : List EntryAt) → Rise key es → ((x : EntryAt) → Contains ps x → Contains es x) → Differ ps → Differ (map key ps)
keys_differ key es [] rise within differ = tt
keys_differ key es (p ∷ ps) rise within differ = (each ps differ.0 (λ x there. later_in p x ps there), keys_differ key es ps rise (λ x there. within x (later_in p x ps there)) differ.1)
  where
    each : (qs : List EntryAt) → Each (λ (q : EntryAt). p ≢ q) qs → ((x : EntryAt) → Contains qs x → Contains (p ∷ ps) x) → Each (λ (k : List ℕ). key p ≢ k) (map key qs)
    each [] others there = tt
    each (q ∷ qs) others there = (
      λ is. others.0 (rising_one key es p q rise (within p (first_in p ps)) (within q (there q (first_in q qs))) is),
      each qs others.1 (λ x more. there x (later_in q x qs more)),
    )

item_keys : (kinds : List Kind) (placed : List Placed) → Each (λ (p : Placed). IsStringItem p.item) placed → Stand kinds placed → map string_key (bytes_of placed) ≡ keys_of (entries_of placed)
item_keys kinds [] items stand = refl
item_keys kinds (p ∷ placed) items stand =
    ap (λ (k : List ℕ). k ∷ map string_key (bytes_of placed)) (item_key p.item items.0 ∙ key_stands kinds p.item p.entry p.chain stand.0)
    ∙ ap (λ (l : List (List ℕ)). p.entry.0 ∷ l) (item_keys kinds placed items.1 stand.1)

map_twice : (pages : List StorePage) (ps : List EntryAt) → map (key_at pages) ps ≡ map string_key (map (string_at pages) ps)
map_twice pages [] = refl
map_twice pages (p ∷ ps) = ap (λ (l : List (List ℕ)). key_at pages p ∷ l) (map_twice pages ps)

-- The keys at all places are those of the entries that stand, in the same order.
pub keys_of_places : (pages : List StorePage) (placed : List Placed) → strings_of (map kind_of pages) ≡ bytes_of placed → Each (λ (p : Placed). IsStringItem p.item) placed → Stand (map kind_of pages) placed → map (key_at pages) (places_from 3 pages) ≡ keys_of (entries_of placed)
keys_of_places pages placed strings items stand =
    map_twice pages (places_from 3 pages) ∙ ap (λ (l : List (List ℕ)). map string_key l) (strings_of_places pages ∙ strings) ∙ item_keys (map kind_of pages) placed items stand

-- Pages whose strings are entries that stand, and a list of places that has each of them, in order of their keys: they hold a map.
pub opened : (pages : List StorePage) (es : List EntryAt) (placed : List Placed) → strings_of (map kind_of pages) ≡ bytes_of placed → Each (λ (p : Placed). IsStringItem p.item) placed → Stand (map kind_of pages) placed
    → ((i : ℕ) → 3 ≤ i → times i (chains_of placed) ≡ one_if_long (kind_of_page (map kind_of pages) i)) → Each (HasString pages) es → Rise (key_at pages) es → length (strings_of (map kind_of pages)) ≤ length es
    → IsLayout (map kind_of pages) (map_of (entries_of placed))
opened pages es placed strings items stand long has rise most =
    let within : (x : EntryAt) → Contains (places_from 3 pages) x → Contains es x =
    covers es (places_from 3 pages) (rising_differ (key_at pages) es rise) (λ f there. is_place pages f (each_in (HasString pages) es f has there)) (let count = length-places 3 pages in omega (arith, count, most)) in
    let keys = keys_of_places pages placed strings items stand in
    layout_of (map kind_of pages) placed strings items stand long (subst Differ keys (keys_differ (key_at pages) es (places_from 3 pages) rise within (places_differ 3 pages)))
