-- A store that is opened.
use Rattle.std.specs.Prelude.{map, IfSome, Vec}
use Rattle.std.specs.Option.{option_map}
use Rattle.std.specs.declared.alloc.Global.{Global}
use Rattle.std.proofs.Common.{◌≡◌, ◌⊎◌, inl, inr, ℕ, suc, ◌+◌, ◌-◌, ◌*◌, ◌^◌, ◌≤◌, ◌<◌, List, [], ◌∷◌, length, Option, Some, None, refl, sym, ap, subst, ◌∙◌, arith}
use Rattle.std.specs.List.{Contains}
use Rattle.std.proofs.lemmas.List.{length-map}
use Rattle.ct_keep.specs.Content.{Content}
use Rattle.ct_site.specs.Disks.{DiskView}
use Rattle.pg_cache.specs.laws.Caches.{length-from}
use Rattle.pg_journal.specs.Pages.{page, pages_from, homes_in, top_in, root_page}
use Rattle.pg_journal.specs.Standing.{DiskStands, IsShut}
use Rattle.pg_journal.specs.laws.PageRuns.{root_top}
use Rattle.pg_map.specs.Kinds.{Each}
use Rattle.pg_map.specs.Holding.{IsLayout, entries_of}
use Rattle.pg_map.specs.laws.OneMap.{one_list}
use Rattle.pg_directory.specs.declared.directories.Directory.{Directory as OpenDirectory}
use Rattle.pg_directory.specs.declared.entries.EntryAt.{EntryAt}
use Rattle.pg_directory.specs.declared.noting.PageNote.{PageNote}
use Rattle.pg_directory.specs.declared.opening.OpenPages.{OpenPages}
use Rattle.pg_directory.specs.declared.stores.OpenStore.{OpenStore}
use Rattle.pg_directory.specs.Counting.{directory_numbers}
use Rattle.pg_directory.specs.Holding.{HoldsMap, HasTop}
use Rattle.pg_directory.specs.Looking.{DiskHolds, store_pages}
use Rattle.pg_directory.specs.Noting.{note_of}
use Rattle.pg_directory.specs.OpenDirectory.{IsOpenOr}
use Rattle.pg_directory.specs.OpenStore.{IsTopOr, ArePlaces, ArePlacesOr, IsDirected, IsOpenOn, IsOpenOnOr, IsStoreOf, IsStoreOr}
use Rattle.pg_directory.specs.Opening.{HaveEntries, ArePagesAt, AreOpenOr}
use Rattle.pg_directory.specs.Trees.{StorePage, Plain, Directory, bytes_of_page, kind_of, IsPage, page_at, one_if_directory, HasNoDirectory}
use Rattle.pg_directory.specs.laws.Holding.{one_store_page}
use Rattle.pg_directory.specs.laws.Listing.{none_in, first_in}
use Rattle.pg_directory.specs.laws.Opening.{map_of, opened}
use Rattle.pg_directory.specs.laws.Visiting.{numbered}
use Rattle.pg_directory.specs.laws.Places.{as_many_entries}
use Rattle.pg_directory.proofs.DirectoryOpens.{number_is, number_low}

-- ---- the root

head_page : List (List ℕ) → List ℕ
head_page [] = []
head_page (p ∷ ps) = p

tail_pages : List (List ℕ) → List (List ℕ)
tail_pages [] = []
tail_pages (p ∷ ps) = ps

module _ (homes : ℕ) (store : List (List ℕ)) (image : List ℕ) (shut : IsShut homes store image) where
  least : 3 ≤ homes
  least = let l = shut.closed.root.least in let c = shut.count in omega (arith, l, c)

  behind : List (List ℕ)
  behind = pages_from (page image) 3 (homes - 3)

  parts : store ≡ page image 2 ∷ pages_from (page image) 3 (homes - 3)
  parts =
      let l = shut.closed.root.least in
      let c = shut.count in
      let n : homes_in (page image 2) - 2 ≡ suc (homes - 3) = omega (arith, l, c) in
      shut.closed.are ∙ ap (pages_from (page image) 2) n

  root_is : page image 2 ≡ root_page homes (top_in (page image 2))
  root_is = shut.closed.root.is ∙ ap (λ (h : ℕ). root_page h (top_in (page image 2))) (sym shut.count)

  pub top_is : (root : List ℕ) (top : ℕ) → root ≡ page image 2 → top ≡ top_in root → top < 2 ^ 32 → IsTopOr (Some top) homes store
  top_is root top at read small = (
    pages_from (page image) 3 (homes - 3),
    parts ∙ ap (λ (p : List ℕ). p ∷ pages_from (page image) 3 (homes - 3)) (root_is ∙ ap (root_page homes) (sym (read ∙ ap top_in at))),
    small,
  )

  pub long_enough : (size : ℕ) → size ≡ length image → size < 4096 * homes → ⊥
  long_enough size is short = let i = shut.closed.inside in let c = shut.count in omega (arith, is, short, i, c)

  -- no pages of the image are those of a store
  pub none_open : (n : ℕ) → n ≡ homes - 3 → AreOpenOr None image n → IsStoreOr None store
  unfolding tail_pages
  none_open n count no_ m h =
      no_ h.pages m (record { are = h.are; is = ap tail_pages (sym h.is ∙ parts) ∙ ap (pages_from (page image) 3) (sym count) }) h.layout

  -- the pages of the image, with the root in front
  module _ (top n : ℕ) (pages : List StorePage) (named : IsTopOr (Some top) homes store) (count : n ≡ homes - 3) (at : ArePagesAt image n pages) where
    pub as_many : homes ≡ 3 + length pages
    as_many =
        let a = length-map pages bytes_of_page in
        let b = ap (λ (l : List (List ℕ)). length l) at.is ∙ length-from (page image) 3 n in
        let c = least in
        omega (arith, a, b, c, count)

    pub with_root : store ≡ store_pages top pages
    unfolding head_page tail_pages
    with_root =
        let first : page image 2 ≡ root_page homes top = ap head_page (sym parts ∙ named.1) in
        parts ∙ ap (λ (p : List ℕ). p ∷ pages_from (page image) 3 (homes - 3)) (first ∙ ap (λ (h : ℕ). root_page h top) as_many)
        ∙ ap (λ (m : ℕ). root_page (3 + length pages) top ∷ pages_from (page image) 3 m) (sym count)
        ∙ ap (λ (l : List (List ℕ)). root_page (3 + length pages) top ∷ l) (sym at.is)

    -- what holds a map holds it on these pages
    pub same_pages : (m : Content) (h : HoldsMap store m) → (h.pages ≡ pages) × (h.top ≡ top)
    unfolding head_page tail_pages
    same_pages m h =
        let both : store_pages h.top h.pages ≡ store_pages top pages = sym h.is ∙ with_root in (
          one_list bytes_of_page IsPage [] one_store_page h.pages pages h.are at.are (ap tail_pages both),
          sym (root_top (3 + length h.pages) h.top h.small) ∙ ap top_in (ap head_page both) ∙ root_top (3 + length pages) top named.2,
        )

    pub store_refused : IsOpenOnOr None pages top → IsStoreOr None store
    store_refused no_ m h =
        let s = same_pages m h in
        no_ m (subst (λ (l : List StorePage). IsLayout (map kind_of l) m) s.0 h.layout)
        (subst (λ (l : List StorePage). HasNoDirectory l top ⊎ HasTop l top) s.0 (subst (λ (t : ℕ). HasNoDirectory h.pages t ⊎ HasTop h.pages t) s.1 h.directory))

    pub store_opened : (o : OpenStore) → IsOpenOn o pages top → IsStoreOf o store
    store_opened o opened_ =
        let t = sym opened_.top_is in
        record {
          behind = pages;
          are = at.are;
          small = subst (λ (k : ℕ). k < 2 ^ 32) t named.2;
          is = with_root ∙ ap (λ (k : ℕ). store_pages k pages) t;
          opened = subst (IsOpenOn o pages) t opened_;
        }

    pub store_found : (found : Option OpenStore) → IsOpenOnOr found pages top → IsStoreOr found store
    store_found None no_ = store_refused no_
    store_found (Some o) is = store_opened o is

-- ---- what the disk holds

pub disk_holds : (disk : DiskView) (homes top : ℕ) (store : List (List ℕ)) (pages : List StorePage) → DiskStands disk homes store → store ≡ store_pages top pages → homes ≡ 3 + length pages → Each IsPage pages → DiskHolds disk homes top pages
disk_holds disk homes top store pages st is count are = record { stands = subst (DiskStands disk homes) is st; are = are; count = count }

-- ---- a store without a directory

module _ (pages : List StorePage) where
  -- no page is one of a directory
  pub without : length (directory_numbers 3 pages) ≡ 0 → HasNoDirectory pages 0
  without none = record { none = refl; no = λ i low. of i low (page_at pages i) refl }
    where
      some : (ns : List ℕ) (k : ℕ) → length ns ≡ 0 → Contains ns k → ⊥
      some [] k no_ has = none_in k has
      some (n ∷ ns) k no_ has = omega (arith, no_)

      of : (i : ℕ) → 3 ≤ i → (p : StorePage) → page_at pages i ≡ p → one_if_directory (page_at pages i) ≡ 0
      of i low (Plain k) is = ap one_if_directory is
      of i low (Directory d) is = absurd (some (directory_numbers 3 pages) (3 + (i - 3)) none (numbered 3 pages (i - 3) d is))

  -- or one is
  pub one_there : (count : ℕ) → count ≡ length (directory_numbers 3 pages) → (count ≡ 0 → ⊥) → IsOpenOnOr None pages 0
  one_there count is some m layout (inl no_) = some (is ∙ of (directory_numbers 3 pages) refl)
    where
      of : (ns : List ℕ) → directory_numbers 3 pages ≡ ns → length (directory_numbers 3 pages) ≡ 0
      of [] same = ap (λ (l : List ℕ). length l) same
      of (n ∷ ns) same =
          let has = subst (λ (l : List ℕ). Contains l n) (sym same) (first_in n ns) in
          let low = number_low 3 pages n has in
          let one = sym (number_is 3 pages n has) ∙ no_.no n low in
          absurd (omega (arith, one))
  one_there count is some m layout (inr top) = let low = top.some in omega (arith, low)

  pub no_places : ArePlacesOr None pages → (top : ℕ) → IsOpenOnOr None pages top
  no_places no_ top m layout directory = no_ m layout

  pub with_places : (o : OpenStore) → HaveEntries (map kind_of pages) → o.top ≡ 0 → o.notes.items ≡ map note_of pages → length (directory_numbers 3 pages) ≡ 0 → ArePlaces pages o.places.items → o.directory.inner.items ≡ [] → o.directory.leaves.items ≡ [] → IsOpenOn o pages 0
  with_places o have top notes none places inner leaves = record {
    held = map_of (entries_of have.placed);
    layout = opened pages o.places.items have.placed have.strings have.items have.stand have.long places.strings places.order places.all;
    top_is = top;
    notes = notes;
    directory = inl (record { none = subst (HasNoDirectory pages) (sym top) (without none); places = places; inner = inner; leaves = leaves });
  }

  -- ---- a store with a directory

  pub no_directory : (top : ℕ) → (top ≡ 0 → ⊥) → IsOpenOr None pages top → IsOpenOnOr None pages top
  no_directory top some no_ m layout (inl none) = some none.none
  no_directory top some no_ m layout (inr has) = no_ has.entries has.is

  pub with_directory : (o : OpenStore) (d : OpenDirectory) (top : ℕ) → HaveEntries (map kind_of pages) → o.top ≡ top → o.directory ≡ d → o.notes.items ≡ map note_of pages → IsOpenOr (Some d) pages top → IsOpenOn o pages top
  with_directory o d top have top_is_ same notes (es, h) = record {
    held = map_of (entries_of have.placed);
    layout = opened pages es have.placed have.strings have.items have.stand have.long h.strings h.order (let e = as_many_entries pages top d.inner.items d.leaves.items es h in omega (arith, e));
    top_is = top_is_;
    notes = notes;
    directory = inr (subst (λ (x : OpenDirectory). IsOpenOr (Some x) pages o.top → IsDirected o pages) same (λ (r : IsOpenOr (Some o.directory) pages o.top). record { entries = r.0; levels = r.1 })
        (subst (λ (t : ℕ). IsOpenOr (Some d) pages t) (sym top_is_) (es, h)));
  }

-- ---- what calls found

pub found_none : (found : Option (Vec EntryAt Global)) (pages : List StorePage) → ArePlacesOr (option_map (λ (v : Vec EntryAt Global). v.items) found) pages → found ≡ None → ArePlacesOr None pages
found_none found pages is none = subst (λ (o : Option (Vec EntryAt Global)). ArePlacesOr (option_map (λ (v : Vec EntryAt Global). v.items) o) pages) none is

pub found_some : (found : Option (Vec EntryAt Global)) (places : Vec EntryAt Global) (pages : List StorePage) → ArePlacesOr (option_map (λ (v : Vec EntryAt Global). v.items) found) pages → found ≡ Some places → ArePlaces pages places.items
found_some found places pages is some = subst (λ (o : Option (Vec EntryAt Global)). ArePlacesOr (option_map (λ (v : Vec EntryAt Global). v.items) o) pages) some is

abbrev notes_of : OpenPages → Vec PageNote Global
notes_of pages = pages.notes

pub no_pages_found : (found : Option OpenPages) (image : List ℕ) (n : ℕ) → AreOpenOr (option_map notes_of found) image n → found ≡ None → AreOpenOr None image n
no_pages_found found image n is none = subst (λ (o : Option OpenPages). AreOpenOr (option_map notes_of o) image n) none is

pub pages_found : (found : Option OpenPages) (pages : OpenPages) (image : List ℕ) (n : ℕ) → AreOpenOr (option_map notes_of found) image n → found ≡ Some pages → AreOpenOr (Some pages.notes) image n
pages_found found pages image n is some = subst (λ (o : Option OpenPages). AreOpenOr (option_map notes_of o) image n) some is

-- a file that is too short is none of a store
pub short_refused : (disk : DiskView) (homes size : ℕ) (store : List (List ℕ)) → (st : DiskStands disk homes store) → size ≡ length st.image → size < 4096 * homes → ⊥
short_refused disk homes size store st is short = long_enough homes store st.image st.shut size is short

pub named_given : (found : Option ℕ) (top homes : ℕ) (store : List (List ℕ)) → IsTopOr found homes store → found ≡ Some top → IsTopOr (Some top) homes store
named_given found top homes store is some = subst (λ (o : Option ℕ). IsTopOr o homes store) some is

pub named_none : (found : Option ℕ) (homes : ℕ) (store : List (List ℕ)) → IsTopOr found homes store → found ≡ None → ⊥
named_none found homes store is none = subst (λ (o : Option ℕ). IsTopOr o homes store) none is

pub count_given : (found : Option OpenPages) (pages : OpenPages) (n : ℕ) → IfSome found (λ (p : OpenPages). length p.notes.items ≡ n) → found ≡ Some pages → length pages.notes.items ≡ n
count_given found pages n is some = subst (λ (o : Option OpenPages). IfSome o (λ (p : OpenPages). length p.notes.items ≡ n)) some is
