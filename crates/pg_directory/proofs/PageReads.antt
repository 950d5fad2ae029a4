-- Pages that are read, and what the disk goes on holding.
use Rattle.std.proofs.Common.{◌≡◌, ℕ, suc, ◌+◌, ◌-◌, ◌≤◌, ◌<◌, List, [], length, get_or, Ok, refl, ap, ◌∙◌, arith}
use Rattle.std.proofs.lemmas.List.{get_or-map}
use Rattle.ct_base.specs.laws.Moments.{adds_nothing_itself, grows_itself}
use Rattle.ct_site.specs.Disks.{DiskView, IsSame, Works}
use Rattle.ct_site.specs.laws.Calls.{settled_same}
use Rattle.pg_journal.specs.Pages.{home}
use Rattle.pg_map.specs.Kinds.{Free}
use Rattle.pg_directory.specs.Trees.{StorePage, Plain, bytes_of_page, page_at}
use Rattle.pg_directory.specs.Looking.{DiskHolds, store_pages}

-- where no call was made
pub same_itself : (disk : DiskView) → IsSame disk disk
same_itself disk = record { image = refl; crash = λ image now. now; time = adds_nothing_itself disk.time; syncs = refl }

pub works_itself : {T : Type 0} (disk : DiskView) (x : T) → Works disk disk (Ok x)
works_itself disk x = record { beside = refl; untold = λ none. none; kept = grows_itself disk.time; cause = record { later = omega arith; passed = refl; failed = tt } }

-- the disk goes on holding what it held
pub holds_then : (old new : DiskView) (homes top : ℕ) (pages : List StorePage) → IsSame old new → DiskHolds old homes top pages → DiskHolds new homes top pages
holds_then old new homes top pages same h = record {
  stands = record { image = h.stands.image; settled = settled_same old new h.stands.image same h.stands.settled; shut = h.stands.shut };
  are = h.are;
  count = h.count;
}

-- the page of a number
pub page_is : (top homes number : ℕ) (pages : List StorePage) → homes ≡ 3 + length pages → 3 ≤ number → number < homes → home (store_pages top pages) number ≡ bytes_of_page (page_at pages number)
page_is top homes number pages count least less =
    let e : number - 2 ≡ suc (number - 3) = omega (arith, least) in
    ap (λ (n : ℕ). get_or (store_pages top pages) n []) e ∙ get_or-map bytes_of_page pages (number - 3) (Plain Free) [] (omega (arith, least, less, count))
