-- What an image tells is the map that its pages hold.
use Rattle.std.specs.Prelude.{map}
use Rattle.std.proofs.Common.{◌≡◌, ℕ, ◌+◌, List, [], ◌∷◌, length, Some, refl, sym, ap, ◌∙◌, arith}
use Rattle.std.proofs.lemmas.List.{length-map}
use Rattle.ct_site.specs.Disks.{DiskView}
use Rattle.ct_keep.specs.Content.{Content}
use Rattle.pg_journal.specs.Pages.{page, homes_of, root_page}
use Rattle.pg_map.specs.Kinds.{Free, Slotted, Long, bytes_of_kind}
use Rattle.pg_map.specs.Holding.{IsLayout}
use Rattle.pg_map.specs.MapReading.{map_in, behind_root}
use Rattle.pg_map.specs.laws.MapReading.{map_read}
use Rattle.pg_directory.specs.Pages.{Leaf, Inner, directory_bytes}
use Rattle.pg_directory.specs.Trees.{StorePage, Plain, Directory, bytes_of_page, kind_of}
use Rattle.pg_directory.specs.Looking.{DiskHolds, store_pages}
use Rattle.pg_directory.specs.ToldMap.{without_directory, undirected, told_map}
use Rattle.pg_directory.specs.laws.Holding.{kinds_are}

without : (p : StorePage) → without_directory (bytes_of_page p) ≡ bytes_of_kind (kind_of p)
unfolding without_directory bytes_of_kind directory_bytes
without (Plain Free) = refl
without (Plain (Slotted ss)) = refl
without (Plain (Long next bytes)) = refl
without (Directory (Leaf es)) = refl
without (Directory (Inner level cs)) = refl

all_without : (pages : List StorePage) → map without_directory (map bytes_of_page pages) ≡ map bytes_of_kind (map kind_of pages)
all_without [] = refl
all_without (p ∷ pages) = ap (λ (b : List ℕ). b ∷ map without_directory (map bytes_of_page pages)) (without p) ∙ ap (λ (l : List (List ℕ)). bytes_of_kind (kind_of p) ∷ l) (all_without pages)

undirected_is : (top : ℕ) (pages : List StorePage) → undirected (store_pages top pages) ≡ behind_root (map kind_of pages)
undirected_is top pages =
    let a = length-map pages bytes_of_page in
    let b = length-map pages kind_of in
    let same : 3 + length (map bytes_of_page pages) ≡ 3 + length (map kind_of pages) = omega (arith, a, b) in
    ap (λ (n : ℕ). root_page n 0 ∷ map without_directory (map bytes_of_page pages)) same ∙ ap (λ (l : List (List ℕ)). root_page (3 + length (map kind_of pages)) 0 ∷ l) (all_without pages)

-- The disk tells the map that is laid out on the pages for which it stands.
pub told_is : (disk : DiskView) (homes top : ℕ) (pages : List StorePage) (m : Content) (image : List ℕ) → DiskHolds disk homes top pages → IsLayout (map kind_of pages) m → disk.image ≡ Some image → told_map image ≡ m
told_is disk homes top pages m image holds layout told =
    let st = holds.stands in
    let same : image ≡ st.image = some_is image st.image (sym told ∙ st.settled.told) in
    ap (λ (i : List ℕ). map_in (undirected (homes_of (page i)))) same
    ∙ ap (λ (l : List (List ℕ)). map_in (undirected l)) (sym st.shut.closed.are)
    ∙ ap map_in (undirected_is top pages)
    ∙ map_read (behind_root (map kind_of pages)) m (record { kinds = map kind_of pages; are = kinds_are pages holds.are; is = refl; layout = layout })
  where
    some_is : (a b : List ℕ) → Some a ≡ Some b → a ≡ b
    some_is a b is = cc is
