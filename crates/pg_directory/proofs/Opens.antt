-- Whether the entries of pages stand.
use Rattle.std.specs.Prelude.{Bool, true, false, cond, map, replicate, IsTrue, IsFalse, Vec}
use Rattle.std.specs.declared.alloc.Global.{Global}
use Rattle.std.proofs.Common.{◌≡◌, ℕ, zero, suc, ◌-◌, ◌≤◌, List, [], ◌∷◌, get_or, Option, Some, None, refl, sym, ap, subst, ◌∙◌, arith}
use Rattle.ct_keep.specs.Content.{Content}
use Rattle.pg_map.specs.ChainReading.{taken_times}
use Rattle.pg_map.specs.Holding.{kind_of_page, Placed, IsLayout, times, one_if_long, chains_of, bytes_of}
use Rattle.pg_map.specs.Kinds.{Each, Kind, Free, Slotted, Long, StringItem, item_bytes, IsStringItem, strings_of}
use Rattle.pg_map.specs.Readings.{AreAllTaken, IsOneLeft}
use Rattle.pg_map.specs.laws.OneMap.{one_item, one_list}
use Rattle.pg_map.specs.laws.Standing.{placed_long, mark_few}
use Rattle.pg_directory.specs.declared.noting.PageNote.{PageNote}
use Rattle.pg_directory.specs.declared.passing.FirstPass.{FirstPass as Pass}
use Rattle.pg_directory.specs.FarValues.{items_in, StandOr}
use Rattle.pg_directory.specs.FirstPass.{far_of, far_values, items_bytes, AreItems, AreStorePages, IsFirstPassOr}
use Rattle.pg_directory.specs.Noting.{note_of}
use Rattle.pg_directory.specs.Opening.{StandsOr, AreOpenOr}
use Rattle.pg_directory.specs.Trees.{StorePage, bytes_of_page, kind_of, IsPage}
use Rattle.pg_directory.specs.laws.Holding.{one_store_page}
use Rattle.pg_directory.proofs.ValuesTaken.{same_placed}

-- nothing was taken at first
pub none_marked : (taken : List Bool) (n : ℕ) → taken ≡ replicate n false → (i : ℕ) → taken_times taken i ≡ 0
none_marked taken n is i = ap (λ (l : List Bool). taken_times l i) is ∙ ap (λ (b : Bool). cond b 1 0) (of n (i - 3))
  where
    of : (n k : ℕ) → get_or (replicate n false) k false ≡ false
    of zero k = refl
    of (suc n) zero = refl
    of (suc n) (suc k) = of n k

item_of_bytes : (placed : List Placed) → items_bytes (items_in placed) ≡ bytes_of placed
item_of_bytes [] = refl
item_of_bytes (p ∷ placed) = ap (λ (l : List (List ℕ)). item_bytes p.item ∷ l) (item_of_bytes placed)

each_placed : (placed : List Placed) → Each IsStringItem (items_in placed) → Each (λ (p : Placed). IsStringItem p.item) placed
each_placed [] each = tt
each_placed (p ∷ placed) each = (each.0, each_placed placed each.1)

-- strings are the bytes of one list of items
tail_strings : List (List ℕ) → List (List ℕ)
tail_strings [] = []
tail_strings (s ∷ ss) = ss

head_string : List (List ℕ) → List ℕ
head_string [] = []
head_string (s ∷ ss) = s

same_items : (placed : List Placed) (items : List StringItem) → Each (λ (p : Placed). IsStringItem p.item) placed → Each IsStringItem items → bytes_of placed ≡ items_bytes items → items_in placed ≡ items
unfolding tail_strings head_string
same_items [] [] a b is = refl
same_items [] (x ∷ items) a b is = absurd (cc is)
same_items (p ∷ placed) [] a b is = absurd (cc is)
same_items (p ∷ placed) (x ∷ items) a b is =
    ap (λ (y : StringItem). y ∷ items_in placed) (one_item p.item x a.0 b.0 (ap head_string is)) ∙ ap (λ (l : List StringItem). x ∷ l) (same_items placed items a.1 b.1 (ap tail_strings is))

long_at_most : (k : Kind) → one_if_long k ≤ 1
long_at_most Free = omega arith
long_at_most (Slotted ss) = omega arith
long_at_most (Long next bytes) = omega arith

module _ (kinds : List Kind) (items : List StringItem) (are : AreItems (strings_of kinds) items) (before : List Bool) (none : (i : ℕ) → taken_times before i ≡ 0) where
  -- the entries of a layout stand, and may be taken
  layout_items : (m : Content) (l : IsLayout kinds m) → items_in l.placed ≡ items
  layout_items m l = same_items l.placed items l.items are.good (sym l.strings ∙ are.are)

  pub no_layout : (taken : List Bool) → StandOr false kinds items before taken → StandsOr false kinds
  no_layout taken no_ m l = no_ l.placed (layout_items m l) l.stand (record { once = λ i low. let a = l.long i low in let b = none i in let c = long_at_most (kind_of_page kinds i) in omega (arith, a, b, c) })

  -- a long page is left
  pub one_left : (taken : List Bool) → StandOr true kinds items before taken → IsOneLeft kinds taken → StandsOr false kinds
  one_left taken (placed, items_are, stand, takes) left m l =
      let same : placed ≡ l.placed = same_placed kinds placed l.placed (items_are ∙ sym (layout_items m l)) stand l.stand in
      let a = takes.counts left.page left.low in
      let b = none left.page in
      let c = ap (λ (ps : List Placed). times left.page (chains_of ps)) same ∙ l.long left.page left.low in
      omega (arith, a, b, c, left.long, left.left)

  pub all_stand : (taken : List Bool) → StandOr true kinds items before taken → AreAllTaken kinds taken → StandsOr true kinds
  all_stand taken (placed, items_are, stand, takes) all = record {
    placed = placed;
    strings = are.are ∙ ap items_bytes (sym items_are) ∙ item_of_bytes placed;
    items = each_placed placed (subst (Each IsStringItem) (sym items_are) are.good);
    stand = stand;
    long = λ i low. of i low (times i (chains_of placed)) refl;
  }
    where
      of : (i : ℕ) → 3 ≤ i → (n : ℕ) → times i (chains_of placed) ≡ n → times i (chains_of placed) ≡ one_if_long (kind_of_page kinds i)
      of i low zero is =
          let a = takes.counts i low in
          let b = none i in
          let c = all.all i low in
          omega (arith, a, b, c, is)
      of i low (suc n) is =
          let a = takes.counts i low in
          let b = none i in
          let c = mark_few taken i in
          let d = placed_long kinds placed i stand (omega (arith, is)) in
          omega (arith, a, b, c, d, is)

-- whether each long page was taken tells which
pub stands_or : (kinds : List Kind) (items : List StringItem) → AreItems (strings_of kinds) items → (before : List Bool) → ((i : ℕ) → taken_times before i ≡ 0) → (taken : List Bool) (r : Bool) → StandOr true kinds items before taken
    → (IsTrue r → AreAllTaken kinds taken) → (IsFalse r → IsOneLeft kinds taken) → StandsOr r kinds
stands_or kinds items are before none taken true stand yes_ no_ = all_stand kinds items are before none taken stand (yes_ refl)
stands_or kinds items are before none taken false stand yes_ no_ = one_left kinds items are before none taken stand (no_ refl)

-- ---- pages that are opened

pub none_opened : (image : List ℕ) (n : ℕ) → ((pages : List StorePage) (items : List StringItem) → AreStorePages image n pages items → ⊥) → AreOpenOr None image n
none_opened image n no_ pages m at layout =
    no_ pages (items_in layout.placed) (record { are = at.are; is = at.is; strings = record { are = layout.strings ∙ sym (item_of_bytes layout.placed); good = of layout.placed layout.items } })
  where
    of : (placed : List Placed) → Each (λ (p : Placed). IsStringItem p.item) placed → Each IsStringItem (items_in placed)
    of [] each = tt
    of (p ∷ placed) each = (each.0, of placed each.1)

pub pass_given : (found : Option Pass) (pass : Pass) (image : List ℕ) (n : ℕ) → IsFirstPassOr found image n → found ≡ Some pass → IsFirstPassOr (Some pass) image n
pass_given found pass image n is some = subst (λ (o : Option Pass). IsFirstPassOr o image n) some is

pub pass_missing : (found : Option Pass) (image : List ℕ) (n : ℕ) → IsFirstPassOr found image n → found ≡ None → AreOpenOr None image n
pass_missing found image n is none = none_opened image n (subst (λ (o : Option Pass). IsFirstPassOr o image n) none is)

pub pages_opened : (pass : Pass) (notes : Vec PageNote Global) (image : List ℕ) (n : ℕ) → IsFirstPassOr (Some pass) image n → notes ≡ pass.notes
    → ((pages : List StorePage) (items : List StringItem) → Each IsPage pages → pass.notes.items ≡ map note_of pages → map far_of pass.far.items ≡ far_values items → AreItems (strings_of (map kind_of pages)) items → StandsOr true (map kind_of pages))
    → AreOpenOr (Some notes) image n
pages_opened pass notes image n (pages, items, are, notes_are, far_are) same stand = (
  pages,
  record { are = are.are; is = are.is },
  ap (λ (v : Vec PageNote Global). v.items) same ∙ notes_are,
  stand pages items are.are notes_are far_are are.strings,
)

-- pages of the same bytes are the same
pub pages_refused : (pass : Pass) (image : List ℕ) (n : ℕ) → IsFirstPassOr (Some pass) image n
    → ((pages : List StorePage) (items : List StringItem) → Each IsPage pages → pass.notes.items ≡ map note_of pages → map far_of pass.far.items ≡ far_values items → AreItems (strings_of (map kind_of pages)) items → StandsOr false (map kind_of pages))
    → AreOpenOr None image n
pages_refused pass image n (pages, items, are, notes_are, far_are) no_ others m at layout =
    let same : others ≡ pages = one_list bytes_of_page IsPage [] one_store_page others pages at.are are.are (at.is ∙ sym are.is) in
    no_ pages items are.are notes_are far_are are.strings m (subst (λ (l : List StorePage). IsLayout (map kind_of l) m) same layout)
