-- The first pass over pages, string by string and page by page.
use Rattle.std.specs.Prelude.{map}
use Rattle.std.proofs.Common.{◌≡◌, ℕ, zero, suc, ◌+◌, ◌≤◌, ◌<◌, Bool, true, false, List, [], ◌∷◌, ◌++◌, length, take, take-suc, get_or, Option, Some, None, refl, sym, ap, subst, ◌∙◌, append_assoc, append-nil, arith}
use Rattle.std.proofs.lemmas.List.{map-append, take_all}
use Rattle.pg_journal.specs.Pages.{page, pages_from}
use Rattle.pg_map.specs.Kinds.{Each, Kind, Free, Slotted, Long, strings_of, StringItem, item_bytes, IsStringItem, bytes_of_kind}
use Rattle.pg_map.specs.SheetReading.{IsSheetOr}
use Rattle.pg_map.specs.laws.Holding.{strings-append}
use Rattle.pg_map.specs.laws.MapReading.{strings-cons}
use Rattle.pg_map.specs.laws.OneMap.{one_kind}
use Rattle.pg_directory.specs.declared.noting.PageNote.{PageNote}
use Rattle.pg_directory.specs.declared.noting.PageNote.TheVariants.{Directory as DirectoryNote}
use Rattle.pg_directory.specs.Noting.{note_of, IsNoteOr}
use Rattle.pg_directory.specs.FirstPass.{FarPlace, far_in, far_values, items_bytes, TakesString, AreItems, TakesStrings, strings_on, ReadsFirst, AreStorePages}
use Rattle.pg_directory.specs.Pages.{DirectoryPage, Leaf, Inner, directory_bytes, IsDirectoryPage}
use Rattle.pg_directory.specs.Telling.{IsTold}
use Rattle.pg_directory.specs.Trees.{StorePage, Plain, Directory, bytes_of_page, kind_of, IsPage}
use Rattle.pg_directory.proofs.Orders.{each_both}

-- ---- strings

far-append : (xs ys : List StringItem) → far_values (xs ++ ys) ≡ far_values xs ++ far_values ys
far-append [] ys = refl
far-append (x ∷ xs) ys = ap (λ (l : List FarPlace). far_in x ++ l) (far-append xs ys) ∙ sym (append_assoc (far_in x) (far_values xs) (far_values ys))

pub no_strings_taken : (old : List FarPlace) → TakesStrings true [] old old
no_strings_taken old = ([], record { are = refl; good = tt }, sym (append-nil old))

pub items_both : (ss ts : List (List ℕ)) (xs ys : List StringItem) → AreItems ss xs → AreItems ts ys → AreItems (ss ++ ts) (xs ++ ys)
items_both ss ts xs ys a b = record {
  are = ap (λ (l : List (List ℕ)). l ++ ts) a.are ∙ ap (λ (l : List (List ℕ)). items_bytes xs ++ l) b.are ∙ sym (map-append item_bytes xs ys);
  good = each_both IsStringItem xs ys a.good b.good;
}

pub one_string : (ss : List (List ℕ)) (i : ℕ) (s : List ℕ) (old mid new : List FarPlace) → i < length ss → s ≡ get_or ss i [] → TakesStrings true (take i ss) old mid → TakesString true s mid new → TakesStrings true (take (i + 1) ss) old new
one_string ss i s old mid new less is (items, are, far) (item, good, bytes, more) =
    let n : suc i ≡ i + 1 = omega arith in
    let list : take i ss ++ s ∷ [] ≡ take (i + 1) ss = ap (λ (x : List ℕ). take i ss ++ x ∷ []) is ∙ sym (take-suc ss i [] less) ∙ ap (λ (k : ℕ). take k ss) n in (
      items ++ item ∷ [],
      subst (λ (l : List (List ℕ)). AreItems l (items ++ item ∷ [])) list (items_both (take i ss) (s ∷ []) items (item ∷ []) are (record { are = ap (λ (x : List ℕ). x ∷ []) (sym bytes); good = (good, tt) })),
      more ∙ ap (λ (l : List FarPlace). l ++ far_in item) far ∙ append_assoc old (far_values items) (far_in item) ∙ ap (λ (l : List FarPlace). old ++ (far_values items ++ l)) (sym (append-nil (far_in item)))
          ∙ ap (λ (l : List FarPlace). old ++ l) (sym (far-append items (item ∷ []))),
    )

-- the item of a string among others
item_at : (ss : List (List ℕ)) (items : List StringItem) (i : ℕ) → AreItems ss items → i < length ss → (item : StringItem) × IsStringItem item × (item_bytes item ≡ get_or ss i [])
item_at [] items i are less = absurd (omega (arith, less))
item_at (s ∷ ss) [] i are less = absurd (let e = are.are in cc e)
item_at (s ∷ ss) (x ∷ items) zero are less = (x, are.good.0, let e = are.are in cc e)
item_at (s ∷ ss) (x ∷ items) (suc i) are less = item_at ss items i (record { are = let e = are.are in cc e; good = are.good.1 }) (omega (arith, less))

pub no_string : (ss : List (List ℕ)) (i : ℕ) (s : List ℕ) (old new late : List FarPlace) → i < length ss → s ≡ get_or ss i [] → TakesString false s old new → TakesStrings false ss old late
no_string ss i s old new late less is no_ items are = let x = item_at ss items i are less in no_ x.0 x.1 (x.2 ∙ sym is)

pub all_strings : (ss : List (List ℕ)) (i : ℕ) (old new : List FarPlace) → length ss ≤ i → TakesStrings true (take i ss) old new → TakesStrings true ss old new
all_strings ss i old new all (items, are, far) = (items, subst (λ (l : List (List ℕ)). AreItems l items) (take_all i ss all) are, far)

pub of_slotted : (ss : List (List ℕ)) (r : Bool) (old new : List FarPlace) → TakesStrings r ss old new → TakesStrings r (ss ++ []) old new
of_slotted ss r old new takes = subst (λ (l : List (List ℕ)). TakesStrings r l old new) (sym (append-nil ss)) takes

-- ---- a page

first_byte : List ℕ → ℕ
first_byte l = get_or l 0 0

not_three : (p : StorePage) (bytes : List ℕ) → bytes ≡ bytes_of_page p → (first_byte bytes ≡ 3 → ⊥) → (k : Kind) × (p ≡ Plain k)
unfolding bytes_of_kind directory_bytes first_byte
not_three (Plain k) bytes is other = (k, refl)
not_three (Directory (Leaf es)) bytes is other = absurd (other (ap first_byte is))
not_three (Directory (Inner level cs)) bytes is other = absurd (other (ap first_byte is))

is_three : (k : Kind) (bytes : List ℕ) → bytes ≡ bytes_of_kind k → first_byte bytes ≡ 3 → ⊥
unfolding bytes_of_kind first_byte
is_three Free bytes is three = let e = sym (ap first_byte is) ∙ three in omega (arith, e)
is_three (Slotted ss) bytes is three = let e = sym (ap first_byte is) ∙ three in omega (arith, e)
is_three (Long next b) bytes is three = let e = sym (ap first_byte is) ∙ three in omega (arith, e)

pub directory_noted : (bytes : List ℕ) → (d : DirectoryPage) × IsTold bytes d → IsNoteOr (Some DirectoryNote) bytes
directory_noted bytes (d, told) = (Directory d, told.good, told.is, refl)

pub none_noted : (bytes : List ℕ) → get_or bytes 0 0 ≡ 3 → ((d : DirectoryPage) → IsDirectoryPage d → bytes ≡ directory_bytes d → ⊥) → IsNoteOr None bytes
unfolding first_byte
none_noted bytes three no_ (Plain k) good is = is_three k bytes is three
none_noted bytes three no_ (Directory d) good is = no_ d good is

-- the page of a directory has no strings
pub directory_first : (found : Option PageNote) (bytes : List ℕ) (old : List FarPlace) → get_or bytes 0 0 ≡ 3 → IsNoteOr found bytes → ReadsFirst found bytes old old
unfolding first_byte
directory_first None bytes old three no_ = λ p items good is are. no_ p good is
directory_first (Some note) bytes old three (p, good, is, note_is) = (p, good, is, note_is, [], of p is, sym (append-nil old))
  where
    of : (p : StorePage) → bytes ≡ bytes_of_page p → AreItems (strings_on p) []
    of (Plain k) at = absurd (is_three k bytes at three)
    of (Directory d) at = record { are = refl; good = tt }

-- no page
pub none_first : (bytes : List ℕ) (old new : List FarPlace) → (get_or bytes 0 0 ≡ 3 → ⊥) → IsSheetOr None bytes → ReadsFirst None bytes old new
unfolding first_byte
none_first bytes old new other no_ p items good is are =
    let k = not_three p bytes is other in
    no_ k.0 (subst IsPage k.1 good) (sym (is ∙ ap bytes_of_page k.1))

pub strings_first : (bytes : List ℕ) (k : Kind) (old new : List FarPlace) → (get_or bytes 0 0 ≡ 3 → ⊥) → IsSheetOr (Some k) bytes → TakesStrings false (strings_of (k ∷ [])) old new → ReadsFirst None bytes old new
unfolding first_byte
strings_first bytes k old new other sheet no_ p items good is are =
    let q = not_three p bytes is other in
    let same : q.0 ≡ k = one_kind q.0 k (subst IsPage q.1 good) sheet.0 (sym (ap bytes_of_page q.1) ∙ sym is ∙ sym sheet.1) in
    no_ items (subst (λ (l : List (List ℕ)). AreItems l items) (ap strings_on q.1 ∙ ap (λ (x : Kind). strings_of (x ∷ [])) same) are)

pub page_first : (bytes : List ℕ) (k : Kind) (note : PageNote) (old new : List FarPlace) → IsSheetOr (Some k) bytes → note ≡ note_of (Plain k) → TakesStrings true (strings_of (k ∷ [])) old new → ReadsFirst (Some note) bytes old new
page_first bytes k note old new sheet note_is (items, are, far) = (Plain k, sheet.0, sym sheet.1, note_is, items, are, far)

-- ---- pages

from_more : (f : ℕ → List ℕ) (s n : ℕ) → pages_from f s (suc n) ≡ pages_from f s n ++ f (s + n) ∷ []
from_more f s zero = let e : s ≡ s + 0 = omega arith in ap (λ (k : ℕ). f k ∷ []) e
from_more f s (suc n) =
    let e : suc s + n ≡ s + suc n = omega arith in
    ap (λ (l : List (List ℕ)). f s ∷ l) (from_more f (suc s) n) ∙ ap (λ (k : ℕ). f s ∷ (pages_from f (suc s) n ++ f k ∷ [])) e

pub no_pages_yet : (image : List ℕ) → AreStorePages image 0 [] []
no_pages_yet image = record { are = tt; is = refl; strings = record { are = refl; good = tt } }

-- what was kept so far
pub record IsPassed (image : List ℕ) (i : ℕ) (notes : List PageNote) (far : List FarPlace) : Type 0 where
  pub pages : List StorePage
  pub items : List StringItem
  pub are : AreStorePages image i pages items
  pub notes_are : notes ≡ map note_of pages
  pub far_are : far ≡ far_values items

pub none_passed : (image : List ℕ) (notes : List PageNote) (far : List FarPlace) → notes ≡ [] → far ≡ [] → IsPassed image 0 notes far
none_passed image notes far none no_ = record { pages = []; items = []; are = no_pages_yet image; notes_are = none; far_are = no_ }

pub one_passed : (image bytes : List ℕ) (i : ℕ) (notes news : List PageNote) (note : PageNote) (far next : List FarPlace) → IsPassed image i notes far → bytes ≡ page image (3 + i) → ReadsFirst (Some note) bytes far next → news ≡ notes ++ note ∷ [] → IsPassed image (i + 1) news next
one_passed image bytes i notes news note far next p at (q, good, is, note_is, items, strings, more) pushed =
    let n : suc i ≡ i + 1 = omega arith in
    record {
      pages = p.pages ++ q ∷ [];
      items = p.items ++ items;
      are = record {
        are = each_both IsPage p.pages (q ∷ []) p.are.are (good, tt);
        is =
            map-append bytes_of_page p.pages (q ∷ []) ∙ ap (λ (l : List (List ℕ)). l ++ bytes_of_page q ∷ []) p.are.is ∙ ap (λ (b : List ℕ). pages_from (page image) 3 i ++ b ∷ []) (sym is ∙ at)
            ∙ sym (from_more (page image) 3 i) ∙ ap (pages_from (page image) 3) n;
        strings = subst (λ (l : List (List ℕ)). AreItems l (p.items ++ items)) (sym (ap strings_of (map-append kind_of p.pages (q ∷ [])) ∙ strings-append (map kind_of p.pages) (kind_of q ∷ [])))
            (items_both (strings_of (map kind_of p.pages)) (strings_on q) p.items items p.are.strings strings);
      };
      notes_are = pushed ∙ ap (λ (l : List PageNote). l ++ note ∷ []) p.notes_are ∙ ap (λ (x : PageNote). map note_of p.pages ++ x ∷ []) note_is ∙ sym (map-append note_of p.pages (q ∷ []));
      far_are = more ∙ ap (λ (l : List FarPlace). l ++ far_values items) p.far_are ∙ sym (far-append p.items items);
    }

-- the items of a part of some strings
items_part : (ss ts us : List (List ℕ)) (items : List StringItem) → AreItems (ss ++ (ts ++ us)) items → (own : List StringItem) × AreItems ts own
items_part [] [] us items are = ([], record { are = refl; good = tt })
items_part [] (t ∷ ts) us [] are = absurd (let e = are.are in cc e)
items_part [] (t ∷ ts) us (x ∷ items) are =
    let r = items_part [] ts us items (record { are = let e = are.are in cc e; good = are.good.1 }) in
    let first : t ≡ item_bytes x = let e = are.are in cc e in (
      x ∷ r.0,
      record { are = ap (λ (b : List ℕ). b ∷ ts) first ∙ ap (λ (l : List (List ℕ)). item_bytes x ∷ l) r.1.are; good = (are.good.0, r.1.good) },
    )
items_part (s ∷ ss) ts us [] are = absurd (let e = are.are in cc e)
items_part (s ∷ ss) ts us (x ∷ items) are = items_part ss ts us items (record { are = let e = are.are in cc e; good = are.good.1 })

-- the page of a number, with its items
page_items : (image : List ℕ) (f : ℕ → List ℕ) (s n i : ℕ) (before : List (List ℕ)) (pages : List StorePage) (items : List StringItem) → Each IsPage pages → map bytes_of_page pages ≡ pages_from f s n → AreItems (before ++ strings_of (map kind_of pages)) items → i < n
    → (p : StorePage) × (own : List StringItem) × IsPage p × (f (s + i) ≡ bytes_of_page p) × AreItems (strings_on p) own
page_items image f s zero i before pages items are is strings less = absurd (omega (arith, less))
page_items image f s (suc n) i before [] items are is strings less = absurd (cc is)
page_items image f s (suc n) zero before (p ∷ pages) items are is strings less =
    let e : s ≡ s + 0 = omega arith in
    let r = items_part before (strings_on p) (strings_of (map kind_of pages)) items (subst (λ (l : List (List ℕ)). AreItems (before ++ l) items) (strings-cons (kind_of p) (map kind_of pages)) strings) in
    let first : bytes_of_page p ≡ f s = cc is in
    (p, r.0, are.0, sym (ap f e) ∙ sym first, r.1)
page_items image f s (suc n) (suc i) before (p ∷ pages) items are is strings less =
    let e : suc s + i ≡ s + suc i = omega arith in
    let later : map bytes_of_page pages ≡ pages_from f (suc s) n = cc is in
    let list : before ++ strings_of (kind_of p ∷ map kind_of pages) ≡ (before ++ strings_on p) ++ strings_of (map kind_of pages) =
    ap (λ (l : List (List ℕ)). before ++ l) (strings-cons (kind_of p) (map kind_of pages)) ∙ sym (append_assoc before (strings_on p) (strings_of (map kind_of pages))) in
    let r = page_items image f (suc s) n i (before ++ strings_on p) pages items are.1 later (subst (λ (l : List (List ℕ)). AreItems l items) list strings) (omega (arith, less)) in
    (r.0, r.1, r.2, ap f (sym e) ∙ r.3, r.4)

pub none_there : (image bytes : List ℕ) (i n : ℕ) (old new : List FarPlace) → i < n → bytes ≡ page image (3 + i) → ReadsFirst None bytes old new → (pages : List StorePage) (items : List StringItem) → AreStorePages image n pages items → ⊥
none_there image bytes i n old new less at no_ pages items all =
    let r = page_items image (page image) 3 n i [] pages items all.are all.is all.strings less in
    no_ r.0 r.1 r.2 (at ∙ r.3) r.4
