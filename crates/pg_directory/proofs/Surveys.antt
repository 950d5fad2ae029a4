-- All entries of a store, looked at one after the other.
use Rattle.std.specs.Prelude.{map, max, sum_by, IsTrue, ◌↔◌}
use Rattle.std.proofs.Common.{◌≡◌, ℕ, suc, ◌+◌, ◌^◌, ◌≤◌, ◌<◌, Bool, true, false, List, [], ◌∷◌, ◌++◌, length, take, take-suc, get_or, Some, refl, sym, ap, subst, ◌∙◌, arith}
use Rattle.std.specs.FinMap.{get}
use Rattle.std.proofs.lemmas.Bool.{false≢true}
use Rattle.std.proofs.lemmas.List.{map-append, take_all}
use Rattle.std.proofs.lemmas.List.Sums.{sum_by-append}
use Rattle.ct_keep.specs.Content.{Content, entry_weight, weight}
use Rattle.ct_keep.specs.Changes.{HoldsWell, IsWell}
use Rattle.pg_map.specs.Holding.{IsLayout, StandsFor}
use Rattle.pg_map.specs.Kinds.{Each, Entry, Kind, StringItem, Short, Far, item_bytes, IsStringItem, page_of, count_of}
use Rattle.pg_map.specs.PageStrings.{string_key}
use Rattle.pg_map.specs.laws.PageStrings.{item_key}
use Rattle.pg_directory.specs.declared.entries.EntryAt.{EntryAt}
use Rattle.pg_directory.specs.Listing.{entry_at, entries_at}
use Rattle.pg_directory.specs.OpenStore.{ArePlaces}
use Rattle.pg_directory.specs.Pages.{no_entry}
use Rattle.pg_directory.specs.Trees.{StorePage, kind_of, IsPage, HasString}
use Rattle.pg_directory.specs.laws.Counting.{all_named}
use Rattle.pg_directory.specs.laws.Listing.{each_in, has_entry, places_list, somewhere}
use Rattle.pg_directory.proofs.Orders.{each_both}

-- ---- one element more

pub each_next : (P : EntryAt → Type 0) (es : List EntryAt) (i : ℕ) → i < length es → Each P (take i es) → P (get_or es i no_entry) → Each P (take (i + 1) es)
each_next P es i less before here =
    let n : suc i ≡ i + 1 = omega arith in
    subst (Each P) (sym (take-suc es i no_entry less) ∙ ap (λ (k : ℕ). take k es) n) (each_both P (take i es) (get_or es i no_entry ∷ []) before (here, tt))

-- ---- whether all are well shaped

module _ (pages : List StorePage) (m : Content) (are : Each IsPage pages) (layout : IsLayout (map kind_of pages) m) (well : List ℕ → List ℕ → Type 0) where
  abbrev pub WellAt : EntryAt → Type 0
  WellAt e = IsWell well (entry_at pages e).0 (entry_at pages e).1

  -- one isn't
  pub one_ill : (e : EntryAt) (r : Bool) → HasString pages e → (IsTrue r ↔ WellAt e) → r ≡ false → IsTrue false ↔ HoldsWell well m
  one_ill e r has tells no_ =
      let h = has_entry pages m are layout e has in
      let got : get m (entry_at pages e).0 ≡ Some (entry_at pages e).1 = ap (get m) h.key ∙ h.value in
      (λ t. absurd (false≢true t), λ all. absurd (false≢true (sym no_ ∙ tells.1 (all.each (entry_at pages e).0 (entry_at pages e).1 got))))

  -- all are
  pub all_well : (places : List EntryAt) → ArePlaces pages places → Each WellAt places → IsTrue true ↔ HoldsWell well m
  all_well places there each = (λ t. record { each = λ key value got. of key value got }, λ all. refl)
    where
      same_value : (a b : List ℕ) → ◌≡◌ {A = Rattle.std.proofs.Common.Option (List ℕ)} (Some a) (Some b) → a ≡ b
      same_value a b is = cc is

      of : (key value : List ℕ) → get m key ≡ Some value → IsWell well key value
      of key value got =
          let s = somewhere pages m are layout key value got in
          let h = has_entry pages m are layout s.place s.has in
          let named = all_named pages places there.strings there.order there.all s.place s.has in
          let w = each_in WellAt places s.place each named in
          let key_is : (entry_at pages s.place).0 ≡ key = h.key ∙ s.is in
          let value_is : (entry_at pages s.place).1 ≡ value = same_value (entry_at pages s.place).1 value (sym h.value ∙ ap (get m) s.is ∙ got) in
          subst (λ (k : List ℕ). IsWell well k value) key_is (subst (λ (v : List ℕ). IsWell well (entry_at pages s.place).0 v) value_is w)

-- ---- what entries weigh

-- how many bytes the value of a string's entry has
pub short_size : (kinds : List Kind) (string behind : List ℕ) (r : Bool) → r ≡ true → ((key : List ℕ) (count first : ℕ) → string ≡ item_bytes (Far key count first) → r ≡ false)
    → ((key value : List ℕ) → IsStringItem (Short key value) → string ≡ item_bytes (Short key value) → behind ≡ value) → (item : StringItem) (entry : Entry) (chain : List ℕ) → IsStringItem item → StandsFor kinds item entry chain → string ≡ item_bytes item → length behind ≡ length entry.1
short_size kinds string behind r is far short (Short key value) entry chain good stands at = ap (λ (l : List ℕ). length l) (short key value good at ∙ ap (λ (e : Entry). e.1) (sym stands.0))
short_size kinds string behind r is far short (Far key count first) entry chain good stands at = absurd (false≢true (sym (far key count first at) ∙ is))

pub far_size : (kinds : List Kind) (string : List ℕ) (r : Bool) (first count : ℕ) → r ≡ false → ((key value : List ℕ) → string ≡ item_bytes (Short key value) → r ≡ true)
    → ((item : StringItem) → IsStringItem item → string ≡ item_bytes item → (first ≡ page_of item) × (count ≡ count_of item)) → (item : StringItem) (entry : Entry) (chain : List ℕ) → IsStringItem item → StandsFor kinds item entry chain → string ≡ item_bytes item → count ≡ length entry.1
far_size kinds string r first count is short far (Short key value) entry chain good stands at = absurd (false≢true (sym is ∙ short key value at))
far_size kinds string r first count is short far (Far key n f) entry chain good stands at = (far (Far key n f) good at).1 ∙ sym stands.1

-- the lengths of an entry's key and value
pub record AreSizes (entry : Entry) (key value : ℕ) : Type 0 where
  pub key_is : key ≡ length entry.0
  pub value_is : value ≡ length entry.1
  pub key_small : length entry.0 < 2 ^ 16
  pub value_small : length entry.1 < 2 ^ 32

pub sizes_of : (kinds : List Kind) (item : StringItem) (entry : Entry) (chain string : List ℕ) (key value : ℕ) → IsStringItem item → StandsFor kinds item entry chain → string ≡ item_bytes item → key ≡ length (string_key string) → value ≡ length entry.1 → AreSizes entry key value
sizes_of kinds (Short k v) entry chain string key value good stands at key_is value_is =
    let e0 = ap (λ (e : Entry). length e.0) stands.0 in
    let e1 = ap (λ (e : Entry). length e.1) stands.0 in
    let own = ap (λ (l : List ℕ). length (string_key l)) at ∙ ap (λ (l : List ℕ). length l) (item_key (Short k v) good) in
    record { key_is = omega (arith, key_is, own, e0); value_is = value_is; key_small = omega (arith, e0, good.0); value_small = omega (arith, e1, good.1) }
sizes_of kinds (Far k n f) entry chain string key value good stands at key_is value_is =
    let e0 = ap (λ (l : List ℕ). length l) stands.0 in
    let own = ap (λ (l : List ℕ). length (string_key l)) at ∙ ap (λ (l : List ℕ). length l) (item_key (Far k n f) good) in
    record { key_is = omega (arith, key_is, own, e0); value_is = value_is; key_small = omega (arith, e0, good.0); value_small = omega (arith, stands.1, good.1) }

pub weight_of : (entry : Entry) (key value : ℕ) → AreSizes entry key value → max (key + value) 64 ≡ entry_weight entry
weight_of entry key value s = let k = s.key_is in let v = s.value_is in omega (arith, k, v)

-- so many entries weigh so much together
pub one_weighed : (pages : List StorePage) (es : List EntryAt) (i total own now : ℕ) → i < length es → total ≡ sum_by entry_weight (entries_at pages (take i es)) → own ≡ entry_weight (entry_at pages (get_or es i no_entry)) → now ≡ total + own
    → now ≡ sum_by entry_weight (entries_at pages (take (i + 1) es))
one_weighed pages es i total own now less before is sum =
    let n : suc i ≡ i + 1 = omega arith in
    let e = get_or es i no_entry in
    let list : entries_at pages (take (suc i) es) ≡ entries_at pages (take i es) ++ entry_at pages e ∷ [] = ap (entries_at pages) (take-suc es i no_entry less) ∙ map-append (entry_at pages) (take i es) (e ∷ []) in
    let parts = ap (λ (l : List Entry). sum_by entry_weight l) list ∙ sum_by-append entry_weight (entries_at pages (take i es)) (entry_at pages e ∷ []) in
    let all : now ≡ sum_by entry_weight (entries_at pages (take (suc i) es)) = omega (arith, parts, before, is, sum) in
    all ∙ ap (λ (k : ℕ). sum_by entry_weight (entries_at pages (take k es))) n

pub all_weighed : (pages : List StorePage) (m : Content) → Each IsPage pages → IsLayout (map kind_of pages) m → (es : List EntryAt) (i total : ℕ) → ArePlaces pages es → length es ≤ i → total ≡ sum_by entry_weight (entries_at pages (take i es)) → total ≡ weight m
all_weighed pages m are layout es i total there all is =
    is ∙ ap (λ (l : List EntryAt). sum_by entry_weight (entries_at pages l)) (take_all i es all)
    ∙ ap (λ (l : List Entry). sum_by entry_weight l) (sym (places_list pages m are layout es there.strings there.order (all_named pages es there.strings there.order there.all)))
