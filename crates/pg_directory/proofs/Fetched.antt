-- What the calls that fetch entries give, over plain variables.
use Rattle.std.specs.Prelude.{map}
use Rattle.std.specs.Bool.{if◌then◌else◌}
use Rattle.std.specs.Option.{option_map}
use Rattle.std.proofs.Common.{◌≡◌, ◌≢◌, ℕ, Bool, true, false, List, length, Option, Some, None, Vec, Global, refl, sym, ap, subst, ◌∙◌}
use Rattle.std.proofs.lemmas.Bool.{false≢true}
use Rattle.std.specs.FinMap.{get}
use Rattle.ct_keep.specs.Content.{Content}
use Rattle.ct_keep.specs.laws.Rising.{Entry}
use Rattle.pg_map.specs.Kinds.{Each, Kind, StringItem, Short, Far, item_bytes, IsStringItem, page_of, count_of}
use Rattle.pg_map.specs.Holding.{IsChain, StandsFor, IsLayout}
use Rattle.pg_directory.specs.declared.entries.EntryAt.{EntryAt}
use Rattle.pg_directory.specs.declared.searching.Neighbours.{Neighbours}
use Rattle.pg_directory.specs.Trees.{StorePage, IsPage, kind_of, key_at, IsDirectory}
use Rattle.pg_directory.specs.Looking.{AreNeighbours, AreNeighboursOr}
use Rattle.pg_directory.specs.Listing.{entry_at}
use Rattle.pg_directory.specs.laws.Listing.{HasEntryAt, has_entry}
use Rattle.pg_directory.proofs.Finding.{key_missing, last_string}

-- ---- what a call gave

pub one_number : (o : Option ℕ) (a b : ℕ) → o ≡ Some a → o ≡ Some b → a ≡ b
one_number o a b first second = let both : Some a ≡ Some b = sym first ∙ second in cc

pub no_number : (o : Option ℕ) (a : ℕ) → o ≡ Some a → o ≡ None → ⊥
no_number o a is none = cc

pub given_value : (o : Option (Vec ℕ Global)) (v : Vec ℕ Global) (x : List ℕ) → option_map {T = Vec ℕ Global} {U = List ℕ} (λ y. y.items) o ≡ Some x → o ≡ Some v → v.items ≡ x
given_value o v x is given = let both : Some v.items ≡ Some x = ap (option_map {T = Vec ℕ Global} {U = List ℕ} (λ y. y.items)) (sym given) ∙ is in cc

pub missing_value : (o : Option (Vec ℕ Global)) (x : List ℕ) → option_map {T = Vec ℕ Global} {U = List ℕ} (λ y. y.items) o ≡ Some x → o ≡ None → ⊥
missing_value o x is none = let both : ◌≡◌ {A = Option (List ℕ)} None (Some x) = ap (option_map {T = Vec ℕ Global} {U = List ℕ} (λ y. y.items)) (sym none) ∙ is in cc

abbrev pub items_of : Vec ℕ Global × Vec ℕ Global → Entry
items_of e = (e.0.items, e.1.items)

pub given_entry : (o : Option (Vec ℕ Global × Vec ℕ Global)) (a b : Vec ℕ Global) (e : Entry) → option_map {T = Vec ℕ Global × Vec ℕ Global} {U = Entry} items_of o ≡ Some e → o ≡ Some (a, b) → (a.items, b.items) ≡ e
given_entry o a b e is given = one_entry (a.items, b.items) e (ap (option_map {T = Vec ℕ Global × Vec ℕ Global} {U = Entry} items_of) (sym given) ∙ is)
  where
    one_entry : (x y : Entry) → ◌≡◌ {A = Option Entry} (Some x) (Some y) → x ≡ y
    one_entry x y is = cc

pub given_neighbours : (o : Option Neighbours) (found : Neighbours) (pages : List StorePage) (es : List EntryAt) (key : List ℕ) → AreNeighboursOr o pages es key → o ≡ Some found → AreNeighbours pages es key found
given_neighbours o found pages es key are is = subst (λ (x : Option Neighbours). AreNeighboursOr x pages es key) is are

-- ---- a value behind its key

pub value_short : (ks : List Kind) (string value : List ℕ) (short : Bool) → short ≡ true → ((key : List ℕ) (count first : ℕ) → string ≡ item_bytes (Far key count first) → short ≡ false)
    → ((key own : List ℕ) → IsStringItem (Short key own) → string ≡ item_bytes (Short key own) → value ≡ own)
    → (item : StringItem) (entry : Entry) (chain : List ℕ) → IsStringItem item → StandsFor ks item entry chain → string ≡ item_bytes item → value ≡ entry.1
value_short ks string value short is_short far_is short_is (Short key own) entry chain good stands is = short_is key own good is ∙ ap (λ (e : Entry). e.1) (sym stands.0)
value_short ks string value short is_short far_is short_is (Far key count first) entry chain good stands is = absurd (false≢true (sym (far_is key count first is) ∙ is_short))

-- ---- a value on long pages

pub value_far : (P : List ℕ → Type 0) (ks : List Kind) (string : List ℕ) (short : Bool) (first count : ℕ) → short ≡ false → ((key value : List ℕ) → string ≡ item_bytes (Short key value) → short ≡ true)
    → ((item : StringItem) → IsStringItem item → string ≡ item_bytes item → (first ≡ page_of item) × (count ≡ count_of item)) → ((chain value : List ℕ) → IsChain ks first chain value → length value ≡ count → P value)
    → (item : StringItem) (entry : Entry) (chain : List ℕ) → IsStringItem item → StandsFor ks item entry chain → string ≡ item_bytes item → P entry.1
value_far P ks string short first count not_short short_is far_is each (Short key value) entry chain good stands is = absurd (false≢true (sym not_short ∙ short_is key value is))
value_far P ks string short first count not_short short_is far_is each (Far key n f) entry chain good stands is =
    let far = far_is (Far key n f) good is in
    each chain entry.1 (subst (λ (k : ℕ). IsChain ks k chain entry.1) (sym far.0) stands.2) (stands.1 ∙ sym far.1)

-- ---- by the entry next to the key

module _ (pages : List StorePage) (m : Content) (are : Each IsPage pages) (layout : IsLayout (map kind_of pages) m) (top : ℕ) (es : List EntryAt) (dir : IsDirectory pages top es) (key : List ℕ) (found : Neighbours) (n : AreNeighbours pages es key found) where
  -- no entry is at most the key
  pub none_fetched : found.at_most ≡ None → get m key ≡ None
  none_fetched none = key_missing pages m are layout top es dir key found n (λ e last is. let both : ◌≡◌ {A = Option EntryAt} None (Some e) = sym none ∙ last in cc)

  one_place : (a b : EntryAt) → found.at_most ≡ Some a → found.at_most ≡ Some b → a ≡ b
  one_place a b first second = let both : Some a ≡ Some b = sym first ∙ second in cc

  -- the last one has the key, or another
  pub fetched : (at : EntryAt) (own value : Vec ℕ Global) (same : Bool) (r : Option (Vec ℕ Global)) → found.at_most ≡ Some at → (own.items, value.items) ≡ entry_at pages at → (same ≡ true → own.items ≡ key) → (same ≡ false → own.items ≢ key)
      → r ≡ (if same then Some value else None) → option_map {T = Vec ℕ Global} {U = List ℕ} (λ y. y.items) r ≡ get m key
  fetched at own value same r last entry yes_ no_ is = of same yes_ no_ is
    where
      h : HasEntryAt pages m are layout at
      h = has_entry pages m are layout at (last_string pages m are layout top es dir key found n at last)

      own_key : own.items ≡ key_at pages at
      own_key = ap (λ (e : Entry). e.0) entry ∙ h.key

      of : (b : Bool) → (b ≡ true → own.items ≡ key) → (b ≡ false → own.items ≢ key) → r ≡ (if b then Some value else None) → option_map {T = Vec ℕ Global} {U = List ℕ} (λ y. y.items) r ≡ get m key
      of true y no_too is =
          ap (option_map {T = Vec ℕ Global} {U = List ℕ} (λ x. x.items)) is ∙ ap (λ (e : Entry). Some e.1) entry ∙ sym h.value ∙ ap (get m) (sym own_key ∙ y refl)
      of false y no_too is =
          ap (option_map {T = Vec ℕ Global} {U = List ℕ} (λ x. x.items)) is
          ∙ sym (key_missing pages m are layout top es dir key found n (λ e last_too key_is. no_too refl (own_key ∙ ap (key_at pages) (one_place at e last last_too) ∙ key_is)))
