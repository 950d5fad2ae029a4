-- A cache keeps pages of the disk over calls that only read it.
use Rattle.std.proofs.Common.{◌≡◌, ℕ, zero, suc, ◌-◌, List, length, Option, Some, refl, sym, ap, subst, ◌∙◌}
use Rattle.ct_site.specs.Disks.{DiskView, IsSame}
use Rattle.ct_site.specs.laws.Calls.{settled_same}
use Rattle.pg_journal.specs.Pages.{Numbered, page, pages_from, homes_in, homes_of}
use Rattle.pg_journal.specs.Standing.{DiskStands}
use Rattle.pg_cache.specs.Caches.{Mirrors, IsCacheOf}

-- ---- the pages that a disk stands for

pub length-from : (f : ℕ → List ℕ) (s n : ℕ) → length (pages_from f s n) ≡ n
length-from f s zero = refl
length-from f s (suc n) = ap suc (length-from f (suc s) n)

pub count_of_pages : (disk : DiskView) (homes : ℕ) (pages : List (List ℕ)) → DiskStands disk homes pages → length pages ≡ homes - 2
count_of_pages disk homes pages st =
    ap (λ (l : List (List ℕ)). length l) st.shut.closed.are ∙ length-from (page st.image) 2 (homes_in (page st.image 2) - 2) ∙ ap (λ (n : ℕ). n - 2) (sym st.shut.count)

pub one_image : (x y : List ℕ) (told : Option (List ℕ)) → told ≡ Some x → told ≡ Some y → x ≡ y
one_image x y told a b = let both : Some x ≡ Some y = sym a ∙ b in cc

pub one_pages : (old new : DiskView) (homes : ℕ) (ps qs : List (List ℕ)) → new.image ≡ old.image → DiskStands old homes ps → DiskStands new homes qs → qs ≡ ps
one_pages old new homes ps qs same a b =
    let one : b.image ≡ a.image = one_image b.image a.image new.image b.settled.told (same ∙ a.settled.told) in
    b.shut.closed.are ∙ ap (λ (x : List ℕ). homes_of (page x)) one ∙ sym a.shut.closed.are

pub stands_same : (old new : DiskView) (homes : ℕ) (pages : List (List ℕ)) → IsSame old new → DiskStands old homes pages → DiskStands new homes pages
stands_same old new homes pages same st = record { image = st.image; settled = settled_same old new st.image same st.settled; shut = st.shut }

pub same_cache : (old new : DiskView) (homes : ℕ) (cache : List Numbered) → IsSame old new → IsCacheOf old homes cache → IsCacheOf new homes cache
same_cache old new homes cache same is = record {
  stands = λ image told. let s = is.stands image (sym same.image ∙ told) in (s.0, stands_same old new homes s.0 same s.1);
  mirrors = λ pages st.
      let s = is.stands st.image (sym same.image ∙ st.settled.told) in
      subst (Mirrors cache) (sym (one_pages old new homes s.0 pages same.image s.1 st)) (is.mirrors s.0 s.1);
}
