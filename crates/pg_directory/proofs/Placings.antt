-- The places of entries, put in order of their keys.
use Rattle.std.specs.Prelude.{map, ◌&&◌}
use Rattle.std.proofs.Common.{◌≡◌, ◌≢◌, ⊎_elim, ℕ, zero, suc, ◌+◌, ◌-◌, ◌≤◌, ◌<◌, Bool, true, false, List, [], ◌∷◌, ◌++◌, length, take, get_or, None, refl, sym, ap, subst, ◌∙◌, append_assoc, append-nil, arith}
use Rattle.std.specs.List.{Contains, IsDistinct}
use Rattle.std.specs.List.Sorted.{IsPermutation, IsSortedByKey}
use Rattle.std.specs.Ordering.{nat_cmp, is_lt, is_eq, eq_by_cmp}
use Rattle.std.specs.declared.cmp.Ordering.{Ordering}
use Rattle.std.specs.declared.cmp.Ordering.TheVariants.{Less, Equal, Greater}
use Rattle.std.specs.Cmp.Lexicographic.{slice_cmp}
use Rattle.std.proofs.lemmas.Bool.{false≢true}
use Rattle.std.proofs.lemmas.Cmp.{nat_list_cmp_total, eq_by_cmp_equiv}
use Rattle.std.proofs.lemmas.List.{map-append, get_or-map, length-map, take_all}
use Rattle.std.proofs.lemmas.List.Sorted.{IsPermutation-map, IsPermutation-sym, Contains-permutation, length_permutation}
use Rattle.std.proofs.lemmas.Map.Keys.{IsDistinct-IsPermutation, IsDistinct-from_apart, apart_from_distinct}
use Rattle.std.proofs.lemmas.Map.Lookups.{exact_bytes}
use Rattle.pg_page.specs.Pages.{Fits, page_bytes}
use Rattle.pg_map.specs.Holding.{entries_of}
use Rattle.pg_map.specs.Kinds.{Each, Free, Slotted, Long, bytes_of_kind, strings_of, Entry}
use Rattle.pg_map.specs.PageStrings.{string_key}
use Rattle.pg_directory.specs.declared.entries.EntryAt.{EntryAt}
use Rattle.pg_directory.specs.declared.noting.PageNote.{PageNote}
use Rattle.pg_directory.specs.declared.noting.PageNote.TheVariants.{Free as FreeNote, Slotted as SlottedNote, Long as LongNote, Directory as DirectoryNote}
use Rattle.pg_directory.specs.declared.placing.KeyPlace.{KeyPlace}
use Rattle.pg_directory.specs.Counting.{places_from, slots_on}
use Rattle.pg_directory.specs.Noting.{note_of}
use Rattle.pg_directory.specs.OpenStore.{ArePlaces, ArePlacesOr}
use Rattle.pg_directory.specs.Placing.{KeyedPlace, key_on, with_keys, keyed_places, keys_kept, places_kept, rise_in_turn}
use Rattle.pg_directory.specs.Trees.{StorePage, Plain, Directory, bytes_of_page, kind_of, IsPage, page_at, key_at, strings_at, HasString, IsBelow, Rise}
use Rattle.pg_directory.specs.laws.Counting.{length-places}
use Rattle.pg_directory.specs.laws.Listing.{none_in, in_more, first_in, later_in, mapped_in}
use Rattle.pg_directory.specs.laws.Places.{place_has}
use Rattle.pg_directory.specs.laws.Opening.{keys_of, keys_of_places}
use Rattle.pg_directory.proofs.Orders.{below_trans, below_from_test}

-- ---- appending

pub key_put : (old new : List KeyPlace) (k : KeyPlace) (key : List ℕ) → new ≡ old ++ k ∷ [] → k.key.items ≡ key → keyed_places new ≡ keyed_places old ++ (key, k.at) ∷ []
key_put old new k key put is =
    ap keyed_places put ∙ map-append {B = List ℕ × EntryAt} (λ (x : KeyPlace). (x.key.items, x.at)) old (k ∷ []) ∙ ap (λ (l : List ℕ). keyed_places old ++ (l, k.at) ∷ []) is

with_keys-append : (key : EntryAt → List ℕ) (xs ys : List EntryAt) → with_keys key (xs ++ ys) ≡ with_keys key xs ++ with_keys key ys
with_keys-append key xs ys = map-append {B = List ℕ × EntryAt} (λ (e : EntryAt). (key e, e)) xs ys

pub slot_more : (key : EntryAt → List ℕ) (number i : ℕ) (e : EntryAt) (old mid new : List KeyedPlace) → e ≡ record { page = number; slot = i } → mid ≡ old ++ with_keys key (slots_on number i) → new ≡ mid ++ (key e, e) ∷ [] → new ≡ old ++ with_keys key (slots_on number (i + 1))
slot_more key number i e old mid new at before put =
    let n : suc i ≡ i + 1 = omega arith in
    put ∙ ap (λ (l : List KeyedPlace). l ++ (key e, e) ∷ []) before ∙ append_assoc old (with_keys key (slots_on number i)) ((key e, e) ∷ [])
    ∙ ap (λ (x : EntryAt). old ++ (with_keys key (slots_on number i) ++ (key x, x) ∷ [])) at
    ∙ ap (λ (l : List KeyedPlace). old ++ l) (sym (with_keys-append key (slots_on number i) (record { page = number; slot = i } ∷ [])))
    ∙ ap (λ (k : ℕ). old ++ with_keys key (slots_on number k)) n

-- ---- a page by its note

-- what is known of a page that has strings
pub record IsSlotted (p : StorePage) (strings : ℕ) : Type 0 where
  pub own : List (List ℕ)
  pub fits : Fits own
  pub is : bytes_of_page p ≡ page_bytes own
  pub strings_are : strings_of (kind_of p ∷ []) ≡ own
  pub count : strings ≡ length own

note_count : PageNote → ℕ
note_count FreeNote = 0
note_count (SlottedNote n) = n
note_count (LongNote next used) = 0
note_count DirectoryNote = 0

is_slotted : PageNote → ℕ
is_slotted FreeNote = 0
is_slotted (SlottedNote n) = 1
is_slotted (LongNote next used) = 0
is_slotted DirectoryNote = 0

pub slotted_page : (p : StorePage) (strings : ℕ) → IsPage p → SlottedNote strings ≡ note_of p → IsSlotted p strings
unfolding bytes_of_kind note_count is_slotted
slotted_page (Plain Free) strings good is = absurd (let e = ap is_slotted is in omega (arith, e))
slotted_page (Plain (Slotted ss)) strings good is = record { own = ss; fits = good; is = refl; strings_are = append-nil ss; count = ap note_count is }
slotted_page (Plain (Long next bytes)) strings good is = absurd (let e = ap is_slotted is in omega (arith, e))
slotted_page (Directory d) strings good is = absurd (let e = ap is_slotted is in omega (arith, e))

pub no_strings_noted : (p : StorePage) (note : PageNote) → note ≡ note_of p → ((n : ℕ) → note ≡ SlottedNote n → ⊥) → length (strings_of (kind_of p ∷ [])) ≡ 0
no_strings_noted (Plain Free) note is other = refl
no_strings_noted (Plain (Slotted ss)) note is other = absurd (other (length ss) is)
no_strings_noted (Plain (Long next bytes)) note is other = refl
no_strings_noted (Directory d) note is other = refl

-- the keys at the slots of a page are those of its strings
pub keys_on_page : (pages : List StorePage) (number n : ℕ) (ss : List (List ℕ)) → strings_at pages number ≡ ss → with_keys (key_on ss) (slots_on number n) ≡ with_keys (key_at pages) (slots_on number n)
keys_on_page pages number zero ss is = refl
keys_on_page pages number (suc n) ss is =
    let e : EntryAt = record { page = number; slot = n } in
    with_keys-append (key_on ss) (slots_on number n) (e ∷ [])
    ∙ ap (λ (l : List KeyedPlace). l ++ (key_on ss e, e) ∷ []) (keys_on_page pages number n ss is)
    ∙ ap (λ (l : List (List ℕ)). with_keys (key_at pages) (slots_on number n) ++ (string_key (get_or l n []), e) ∷ []) (sym is)
    ∙ sym (with_keys-append (key_at pages) (slots_on number n) (e ∷ []))

-- nothing is appended for a page without strings
pub none_put : (pages : List StorePage) (number : ℕ) (old : List KeyedPlace) → length (strings_at pages number) ≡ 0 → old ≡ old ++ with_keys (key_at pages) (slots_on number (length (strings_at pages number)))
none_put pages number old none = sym (ap (λ (n : ℕ). old ++ with_keys (key_at pages) (slots_on number n)) none ∙ append-nil old)

-- the strings of a page were appended
pub page_put : (pages : List StorePage) (number strings : ℕ) (page : List ℕ) (old new : List KeyedPlace) → IsPage (page_at pages number) → SlottedNote strings ≡ note_of (page_at pages number) → page ≡ bytes_of_page (page_at pages number)
    → ((ss : List (List ℕ)) → Fits ss → page ≡ page_bytes ss → strings ≡ length ss → new ≡ old ++ with_keys (key_on ss) (slots_on number strings))
    → new ≡ old ++ with_keys (key_at pages) (slots_on number (length (strings_at pages number)))
page_put pages number strings page old new good note is put =
    let s = slotted_page (page_at pages number) strings good note in
    put s.own s.fits (is ∙ s.is) s.count
    ∙ ap (λ (l : List KeyedPlace). old ++ l) (keys_on_page pages number strings s.own s.strings_are)
    ∙ ap (λ (n : ℕ). old ++ with_keys (key_at pages) (slots_on number n)) (s.count ∙ ap (λ (l : List (List ℕ)). length l) (sym s.strings_are))

-- ---- all pages

places_more : (first : ℕ) (pages : List StorePage) (i : ℕ) → i < length pages → places_from first (take (suc i) pages) ≡ places_from first (take i pages) ++ slots_on (first + i) (length (strings_of (kind_of (get_or pages i (Plain Free)) ∷ [])))
places_more first [] i less = absurd (omega (arith, less))
places_more first (p ∷ pages) zero less =
    let own = length (strings_of (kind_of p ∷ [])) in
    let e : first ≡ first + 0 = omega arith in
    append-nil (slots_on first own) ∙ ap (λ (n : ℕ). slots_on n own) e
places_more first (p ∷ pages) (suc i) less =
    let own = slots_on first (length (strings_of (kind_of p ∷ []))) in
    let more = length (strings_of (kind_of (get_or pages i (Plain Free)) ∷ [])) in
    let e : suc first + i ≡ first + suc i = omega arith in
    ap (λ (l : List EntryAt). own ++ l) (places_more (suc first) pages i (omega (arith, less)) ∙ ap (λ (n : ℕ). places_from (suc first) (take i pages) ++ slots_on n more) e)
    ∙ sym (append_assoc own (places_from (suc first) (take i pages)) (slots_on (first + suc i) more))

pub pages_more : (pages : List StorePage) (i number : ℕ) (mid new : List KeyedPlace) → i < length pages → number ≡ 3 + i → mid ≡ with_keys (key_at pages) (places_from 3 (take i pages)) → new ≡ mid ++ with_keys (key_at pages) (slots_on number (length (strings_at pages number)))
    → new ≡ with_keys (key_at pages) (places_from 3 (take (i + 1) pages))
pages_more pages i number mid new less at before put =
    let n : (3 + i) - 3 ≡ i = omega arith in
    let m : suc i ≡ i + 1 = omega arith in
    put ∙ ap (λ (l : List KeyedPlace). l ++ with_keys (key_at pages) (slots_on number (length (strings_at pages number)))) before
    ∙ ap (λ (k : ℕ). with_keys (key_at pages) (places_from 3 (take i pages)) ++ with_keys (key_at pages) (slots_on k (length (strings_at pages k)))) at
    ∙ ap (λ (k : ℕ). with_keys (key_at pages) (places_from 3 (take i pages)) ++ with_keys (key_at pages) (slots_on (3 + i) (length (strings_of (kind_of (get_or pages k (Plain Free)) ∷ []))))) n
    ∙ sym (with_keys-append (key_at pages) (places_from 3 (take i pages)) (slots_on (3 + i) (length (strings_of (kind_of (get_or pages i (Plain Free)) ∷ [])))))
    ∙ ap (with_keys (key_at pages)) (sym (places_more 3 pages i less) ∙ ap (λ (k : ℕ). places_from 3 (take k pages)) m)

pub all_pages : (pages : List StorePage) (notes : List PageNote) (i : ℕ) (keys : List KeyedPlace) → notes ≡ map note_of pages → length notes ≤ i → keys ≡ with_keys (key_at pages) (places_from 3 (take i pages)) → keys ≡ with_keys (key_at pages) (places_from 3 pages)
all_pages pages notes i keys are all is =
    is ∙ ap (λ (l : List StorePage). with_keys (key_at pages) (places_from 3 l)) (take_all i pages (let long = ap (λ (l : List PageNote). length l) are ∙ length-map pages note_of in omega (arith, all, long)))

-- ---- keys in order

abbrev pub same_key : List ℕ → List ℕ → Bool
same_key = eq_by_cmp (slice_cmp nat_cmp)

-- of two keys that differ, the one that isn't greater is less
less_of : (o back : Ordering) (r : Ordering → Ordering) → is_lt back ≡ false → is_eq o ≡ false → (back ≡ Less → ⊥) → (o ≡ Greater → back ≡ Less) → is_lt o ≡ true
less_of Less back r up apart no_ turned = refl
less_of Equal back r up apart no_ turned = absurd (false≢true (sym apart))
less_of Greater back r up apart no_ turned = absurd (no_ (turned refl))

pub next_below : (a b : List ℕ) → is_lt (slice_cmp nat_cmp b a) ≡ false → same_key a b ≡ false → is_lt (slice_cmp nat_cmp a b) ≡ true
next_below a b up apart =
    less_of (slice_cmp nat_cmp a b) (slice_cmp nat_cmp b a) (λ o. o) up apart (λ less. false≢true (sym up ∙ ap is_lt less)) (λ greater. turned (slice_cmp nat_cmp a b) (slice_cmp nat_cmp b a) greater (nat_list_cmp_total.antisymm b a))
  where
    turned : (o back : Ordering) → o ≡ Greater → back ≡ Rattle.std.specs.Ordering.ordering_reverse o → back ≡ Less
    turned o back greater is = is ∙ ap Rattle.std.specs.Ordering.ordering_reverse greater

-- neighbours that rise
rises_by : (ks : List (List ℕ)) → ((i : ℕ) → suc i < length ks → is_lt (slice_cmp nat_cmp (get_or ks i []) (get_or ks (suc i) [])) ≡ true) → rise_in_turn ks ≡ true
rises_by [] each = refl
rises_by (k ∷ []) each = refl
rises_by (k ∷ l ∷ ks) each = both (is_lt (slice_cmp nat_cmp k l)) (rise_in_turn (l ∷ ks)) (each 0 (omega arith)) (rises_by (l ∷ ks) (λ i less. each (suc i) (omega (arith, less))))
  where
    both : (a b : Bool) → a ≡ true → b ≡ true → (a && b) ≡ true
    both a b is too = ap (λ (x : Bool). x && b) is ∙ too

key_there : (ks : List KeyPlace) (i : ℕ) (d : KeyPlace) → i < length ks → get_or (keys_kept ks) i [] ≡ (get_or ks i d).key.items
key_there ks i d less = get_or-map (λ (k : KeyPlace). k.key.items) ks i d [] less

-- keys in order that differ rise
pub must_rise : (ks : List KeyPlace) → IsSortedByKey (λ (k : KeyPlace). k.key.items) (slice_cmp nat_cmp) ks → IsDistinct same_key (keys_kept ks) → rise_in_turn (keys_kept ks) ≡ true
must_rise [] sorted apart = refl
must_rise (d ∷ rest) sorted apart = rises_by (keys_kept (d ∷ rest)) (λ i less.
    let long = length-map (d ∷ rest) (λ (k : KeyPlace). k.key.items) in
    let n : suc i ≡ i + 1 = omega arith in
    let up : is_lt (slice_cmp nat_cmp (get_or (keys_kept (d ∷ rest)) (suc i) []) (get_or (keys_kept (d ∷ rest)) i [])) ≡ false =
    ap (λ (k : List ℕ). is_lt (slice_cmp nat_cmp k (get_or (keys_kept (d ∷ rest)) i []))) (key_there (d ∷ rest) (suc i) d (omega (arith, less, long)))
    ∙ ap (λ (k : List ℕ). is_lt (slice_cmp nat_cmp (get_or (d ∷ rest) (suc i) d).key.items k)) (key_there (d ∷ rest) i d (omega (arith, less, long)))
    ∙ ap (λ (m : ℕ). is_lt (slice_cmp nat_cmp (get_or (d ∷ rest) m d).key.items (get_or (d ∷ rest) i d).key.items)) n
    ∙ sorted i d (omega arith) (omega (arith, less, long)) in
    next_below (get_or (keys_kept (d ∷ rest)) i []) (get_or (keys_kept (d ∷ rest)) (suc i) []) up (apart_from_distinct same_key (keys_kept (d ∷ rest)) i (suc i) [] apart (omega arith) less))

-- ---- the places in order

-- the place of a key that is listed
from_keyed : (key : EntryAt → List ℕ) (es : List EntryAt) (k : List ℕ) (at : EntryAt) → Contains (with_keys key es) (k, at) → Contains es at × (k ≡ key at)
from_keyed key [] k at has = absurd (none_in (k, at) has)
from_keyed key (e ∷ es) k at has = ⊎_elim
    (λ here.
    let same : e ≡ at = ap (λ (x : KeyedPlace). x.1) here in
    (subst (λ (x : EntryAt). Contains (e ∷ es) x) same (first_in e es), sym (ap (λ (x : KeyedPlace). x.0) here) ∙ ap key same))
    (λ more. let r = from_keyed key es k at more in (later_in e at es r.0, r.1))
    (in_more (key e, e) (k, at) (with_keys key es) has)

first_parts : (key : EntryAt → List ℕ) (es : List EntryAt) → map (λ (x : KeyedPlace). x.0) (with_keys key es) ≡ map key es
first_parts key [] = refl
first_parts key (e ∷ es) = ap (λ (l : List (List ℕ)). key e ∷ l) (first_parts key es)

keys_of_keyed : (ks : List KeyPlace) → map (λ (x : KeyedPlace). x.0) (keyed_places ks) ≡ keys_kept ks
keys_of_keyed [] = refl
keys_of_keyed (k ∷ ks) = ap (λ (l : List (List ℕ)). k.key.items ∷ l) (keys_of_keyed ks)

-- a fact of each element, by those that are contained
each_from : {X : Type 0} (P : X → Type 0) (xs : List X) → ((x : X) → Contains xs x → P x) → Each P xs
each_from P [] has = tt
each_from P (x ∷ xs) has = (has x (first_in x xs), each_from P xs (λ y there. has y (later_in x y xs there)))

-- rising keys, as facts of places
rise_of : (key : EntryAt → List ℕ) (ks : List KeyPlace) → ((k : KeyPlace) → Contains ks k → k.key.items ≡ key k.at) → rise_in_turn (keys_kept ks) ≡ true → Rise key (places_kept ks)
rise_of key [] are up = tt
rise_of key (k ∷ ks) are up = (front ks k (are k (first_in k ks)) (λ x there. are x (later_in k x ks there)) up, rise_of key ks (λ x there. are x (later_in k x ks there)) (behind k ks up))
  where
    second : (a b : Bool) → (a && b) ≡ true → (a ≡ true) × (b ≡ true)
    second true b is = (refl, is)
    second false b is = absurd (false≢true is)

    behind : (k : KeyPlace) (ks : List KeyPlace) → rise_in_turn (keys_kept (k ∷ ks)) ≡ true → rise_in_turn (keys_kept ks) ≡ true
    behind k [] up = refl
    behind k (l ∷ ks) up = (second (is_lt (slice_cmp nat_cmp k.key.items l.key.items)) (rise_in_turn (keys_kept (l ∷ ks))) up).1

    skip : (k l : KeyPlace) (ks : List KeyPlace) → is_lt (slice_cmp nat_cmp k.key.items l.key.items) ≡ true → rise_in_turn (keys_kept (l ∷ ks)) ≡ true → rise_in_turn (keys_kept (k ∷ ks)) ≡ true
    skip k l [] less up = refl
    skip k l (m ∷ ks) less up =
        let s = second (is_lt (slice_cmp nat_cmp l.key.items m.key.items)) (rise_in_turn (keys_kept (m ∷ ks))) up in
        let t : is_lt (slice_cmp nat_cmp k.key.items m.key.items) ≡ true =
        ap is_lt (below_trans k.key.items l.key.items m.key.items (below_from_test k.key.items l.key.items less) (below_from_test l.key.items m.key.items s.0)) in
        ap (λ (b : Bool). b && rise_in_turn (keys_kept (m ∷ ks))) t ∙ s.1

    front : (ks : List KeyPlace) (k : KeyPlace) → k.key.items ≡ key k.at → ((x : KeyPlace) → Contains ks x → x.key.items ≡ key x.at) → rise_in_turn (keys_kept (k ∷ ks)) ≡ true → Each (λ (f : EntryAt). IsBelow (key k.at) (key f)) (places_kept ks)
    front [] k own are up = tt
    front (l ∷ ks) k own are up =
        let s = second (is_lt (slice_cmp nat_cmp k.key.items l.key.items)) (rise_in_turn (keys_kept (l ∷ ks))) up in (
          subst (λ (q : List ℕ). IsBelow (key k.at) q) (are l (first_in l ks)) (subst (λ (q : List ℕ). IsBelow q l.key.items) own (below_from_test k.key.items l.key.items s.0)),
          front ks k own (λ x there. are x (later_in l x ks there)) (skip k l ks s.0 s.1),
        )

module _ (pages : List StorePage) (ks sorted : List KeyPlace) (is : keyed_places ks ≡ with_keys (key_at pages) (places_from 3 pages)) (moved : IsPermutation ks sorted) where
  -- each of them is the place of a string, with its key
  own : (k : KeyPlace) → Contains sorted k → Contains (places_from 3 pages) k.at × (k.key.items ≡ key_at pages k.at)
  own k has =
      let there : Contains (keyed_places ks) (k.key.items, k.at) = mapped_in {Y = List ℕ × EntryAt} (λ (x : KeyPlace). (x.key.items, x.at)) ks k (Contains-permutation sorted ks k (IsPermutation-sym ks sorted moved) has) in
      from_keyed (key_at pages) (places_from 3 pages) k.key.items k.at (subst (λ (l : List KeyedPlace). Contains l (k.key.items, k.at)) is there)

  pub are_in_order : rise_in_turn (keys_kept sorted) ≡ true → ArePlaces pages (places_kept sorted)
  are_in_order up = record {
    strings = strings sorted (λ k has. place_has [] pages k.at (own k has).0);
    order = rise_of (key_at pages) sorted (λ k has. (own k has).1) up;
    all =
        let a = length-places 3 pages in
        let b = ap (λ (l : List KeyedPlace). length l) is in
        let c = length-map {B = List ℕ × EntryAt} ks (λ (x : KeyPlace). (x.key.items, x.at)) in
        let d = length-map {B = List ℕ × EntryAt} (places_from 3 pages) (λ (e : EntryAt). (key_at pages e, e)) in
        let e = length_permutation ks sorted moved in
        let f = length-map sorted (λ (k : KeyPlace). k.at) in
        omega (arith, a, b, c, d, e, f);
  }
    where
      strings : (l : List KeyPlace) → ((k : KeyPlace) → Contains l k → HasString pages k.at) → Each (HasString pages) (places_kept l)
      strings [] has = tt
      strings (k ∷ l) has = (has k (first_in k l), strings l (λ x there. has x (later_in k x l there)))

  -- where two have one key, no map is laid out on the pages
  pub key_twice : IsSortedByKey (λ (k : KeyPlace). k.key.items) (slice_cmp nat_cmp) sorted → rise_in_turn (keys_kept sorted) ≡ false → ArePlacesOr None pages
  key_twice up no_ m layout =
      let keys : keys_kept ks ≡ keys_of (entries_of layout.placed) =
      sym (keys_of_keyed ks) ∙ ap (λ (l : List KeyedPlace). map (λ (x : KeyedPlace). x.0) l) is ∙ first_parts (key_at pages) (places_from 3 pages) ∙ keys_of_places pages layout.placed layout.strings layout.items layout.stand in
      let apart : IsDistinct same_key (keys_kept ks) = subst (IsDistinct same_key) (sym keys) (IsDistinct-from_apart same_key (keys_of (entries_of layout.placed)) (λ i j d less within.
      differ (entries_of layout.placed) i j d less within layout.entries.apart)) in
      let moved_keys = IsDistinct-IsPermutation same_key (eq_by_cmp_equiv nat_list_cmp_total).symm (keys_kept ks) (keys_kept sorted) (IsPermutation-map (λ (k : KeyPlace). k.key.items) ks sorted moved) apart in
      false≢true (sym no_ ∙ must_rise sorted up moved_keys)
    where
      other : (a b : List ℕ) → a ≢ b → same_key a b ≡ false
      other a b apart = of (slice_cmp nat_cmp a b) refl
        where
          of : (o : Ordering) → slice_cmp nat_cmp a b ≡ o → is_eq (slice_cmp nat_cmp a b) ≡ false
          of Less is = ap is_eq is
          of Equal is = absurd (apart (exact_bytes a b is))
          of Greater is = ap is_eq is

      differ : (es : List Entry) (i j : ℕ) (d : List ℕ) → i < j → j < length (keys_of es) → Rattle.std.specs.List.AllPairs (λ (a b : Entry). a.0 ≢ b.0) es → same_key (get_or (keys_of es) i d) (get_or (keys_of es) j d) ≡ false
      differ es i j d less within apart =
          let long = length-map es (λ (e : Entry). e.0) in
          let x = get_or-map (λ (e : Entry). e.0) es i (d, d) d (omega (arith, less, within, long)) in
          let y = get_or-map (λ (e : Entry). e.0) es j (d, d) d (omega (arith, within, long)) in
          other (get_or (keys_of es) i d) (get_or (keys_of es) j d) (λ same. apart i j (d, d) less (omega (arith, within, long)) (sym x ∙ same ∙ y))
