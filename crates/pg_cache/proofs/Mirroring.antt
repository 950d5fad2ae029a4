-- A cache keeps pages of the disk: over reads, and over a commit.
use Rattle.std.proofs.Common.{◌≡◌, inl, inr, ⊎_elim, ℕ, zero, suc, ◌+◌, ◌-◌, ◌*◌, ◌≤◌, ◌<◌, ◌==◌, Bool, true, false, cond, List, [], ◌∷◌, length, get_or, set, Option, Some, None, refl, sym, ap, subst, ◌∙◌, arith}
use Rattle.std.specs.List.{Contains}
use Rattle.std.proofs.lemmas.Bool.{eqb-true, eq-eqb}
use Rattle.std.proofs.lemmas.List.{get_or-set_same}
use Rattle.lru.proofs.Splits.{Contains-cons, Contains-nil}
use Rattle.ct_site.specs.Disks.{DiskView, IsSame}
use Rattle.ct_site.specs.Lengths.{IsWithin}
use Rattle.pg_journal.specs.Pages.{Numbered, Has, AreBetween, page, with_page, put_on, pages_from, homes_in, home, changed}
use Rattle.pg_journal.specs.Standing.{DiskStands}
use Rattle.pg_cache.specs.laws.Caches.{count_of_pages, length-from, one_image, one_pages, same_cache, stands_same}
use Rattle.pg_cache.specs.Caches.{bytes_at, Keeps, KeepsNone, HasNoOther, WasKept, RenewsAll, Mirrors, IsCacheOf}
use Rattle.pg_cache.proofs.Keeping.{HasOnlyOf, keeps_emptied, keeps_put, keeps_same}

-- ---- the pages that a disk stands for

at_from : (f : ℕ → List ℕ) (s n k : ℕ) → k < n → get_or (pages_from f s n) k [] ≡ f (s + k)
at_from f s zero k less = absurd (omega (arith, less))
at_from f s (suc n) zero less = let e : s ≡ s + 0 = omega arith in ap f e
at_from f s (suc n) (suc k) less = let e : suc s + k ≡ s + suc k = omega arith in at_from f (suc s) n k (omega (arith, less)) ∙ ap f e

-- the page of a number is that of the image
pub home_read : (disk : DiskView) (homes number : ℕ) (pages : List (List ℕ)) → (st : DiskStands disk homes pages) → 2 ≤ number → number < homes → home pages number ≡ page st.image number
home_read disk homes number pages st least less =
    let count = st.shut.count in
    let e : 2 + (number - 2) ≡ number = omega (arith, least) in
    ap (λ (l : List (List ℕ)). get_or l (number - 2) []) st.shut.closed.are
    ∙ at_from (page st.image) 2 (homes_in (page st.image 2) - 2) (number - 2) (omega (arith, least, less, count)) ∙ ap (page st.image) e

pub within : (disk : DiskView) (homes number : ℕ) (cache : List Numbered) → IsCacheOf disk homes cache → number < homes → IsWithin (4096 * number + 4096) disk
within disk homes number cache is less = record {
  least = λ image told.
      let s = is.stands image told in
      let st = s.1 in
      let one = ap (λ (l : List ℕ). length l) (one_image st.image image disk.image st.settled.told told) in
      let inside = st.shut.closed.inside in
      let count = st.shut.count in
      omega (arith, one, inside, count, less);
}

-- ---- reads

fewer : (old new : List Numbered) (pages : List (List ℕ)) → HasNoOther old new → Mirrors old pages → Mirrors new pages
fewer old new pages less m = record {
  low = λ w has. m.low w (less.each w has);
  high = λ w has. m.high w (less.each w has);
  same = λ w has. m.same w (less.each w has);
}

pub kept_fewer : (disk : DiskView) (homes : ℕ) (old new : List Numbered) → HasNoOther old new → IsCacheOf disk homes old → IsCacheOf disk homes new
kept_fewer disk homes old new less is = record { stands = is.stands; mirrors = λ pages st. fewer old new pages less (is.mirrors pages st) }

-- the page that stands at a place
pub found_page : (disk : DiskView) (homes number at : ℕ) (l : List Numbered) (v : Numbered) (pages : List (List ℕ)) → IsCacheOf disk homes l → at < length l → v ≡ get_or l at v → v.0 ≡ number → 2 ≤ number → DiskStands disk homes pages
    → bytes_at (set l at v) at ≡ home pages number
found_page disk homes number at l v pages is less own named least st =
    ap (λ (w : Numbered). w.1) (get_or-set_same l at v (0, []) less) ∙ (is.mirrors pages st).same v ((at, less, sym own), omega (arith, named, least)) ∙ ap (home pages) named

pub found_cache : (disk : DiskView) (homes at : ℕ) (l : List Numbered) (v : Numbered) → IsCacheOf disk homes l → at < length l → v ≡ get_or l at v → IsCacheOf disk homes (set l at v)
found_cache disk homes at l v is less own = kept_fewer disk homes l (set l at v) (keeps_same l at v less own) is

-- what stands after a place for a page was found
pub placed : (disk : DiskView) (homes : ℕ) (old mid l : List Numbered) → IsCacheOf disk homes old → HasNoOther old mid → l ≡ mid → IsCacheOf disk homes l
placed disk homes old mid l is less same = subst (IsCacheOf disk homes) (sym same) (kept_fewer disk homes old mid less is)

-- the page couldn't be read
pub failed_cache : (old new : DiskView) (homes at : ℕ) (l : List Numbered) (v : Numbered) → IsCacheOf old homes l → IsSame old new → v.0 ≡ 0 → IsCacheOf new homes (set l at v)
failed_cache old new homes at l v is same none = same_cache old new homes (set l at v) same (kept_fewer old homes l (set l at v) (keeps_emptied l at v none) is)

one_more : (number : ℕ) (bytes : List ℕ) (old new : List Numbered) (pages : List (List ℕ)) → HasOnlyOf number bytes old new → 2 ≤ number → number < 2 + length pages → bytes ≡ home pages number → Mirrors old pages → Mirrors new pages
one_more number bytes old new pages more least less is m = record {
  low = λ w has. ⊎_elim (λ was. m.low w was) (λ one. let e = ap (λ (v : Numbered). v.0) one in omega (arith, e, least)) (more.each w has);
  high = λ w has. ⊎_elim (λ was. m.high w was) (λ one. let e = ap (λ (v : Numbered). v.0) one in omega (arith, e, less)) (more.each w has);
  same = λ w has. ⊎_elim (λ was. m.same w was) (λ one. ap (λ (v : Numbered). v.1) one ∙ is ∙ ap (λ (v : Numbered). home pages v.0) (sym one)) (more.each w has);
}

-- the disk was read, and a page of it kept
pub read_more : (old new : DiskView) (homes number : ℕ) (bytes : List ℕ) (before after : List Numbered) → IsCacheOf old homes before → IsSame old new → 2 ≤ number → number < homes
    → ((image : List ℕ) → old.image ≡ Some image → bytes ≡ page image number) → HasOnlyOf number bytes before after → IsCacheOf new homes after
read_more old new homes number bytes before after is same least less read more = record {
  stands = λ image told. let s = is.stands image (sym same.image ∙ told) in (s.0, stands_same old new homes s.0 same s.1);
  mirrors = λ pages st.
      let s = is.stands st.image (sym same.image ∙ st.settled.told) in
      let one : pages ≡ s.0 = one_pages old new homes s.0 pages same.image s.1 st in
      let was : DiskStands old homes pages = subst (DiskStands old homes) (sym one) s.1 in
      let count = count_of_pages old homes pages was in
      one_more number bytes before after pages more least (omega (arith, count, least, less)) (read was.image was.settled.told ∙ sym (home_read old homes number pages was least less)) (is.mirrors pages was);
}

pub read_cache : (old new : DiskView) (homes number at : ℕ) (l : List Numbered) (v : Numbered) → IsCacheOf old homes l → IsSame old new → 2 ≤ number → number < homes → v.0 ≡ number
    → ((image : List ℕ) → old.image ≡ Some image → v.1 ≡ page image number) → IsCacheOf new homes (set l at v)
read_cache old new homes number at l v is same least less named read = read_more old new homes number v.1 l (set l at v) is same least less read (keeps_put l at number v named)

pub page_read : (old : DiskView) (homes number at : ℕ) (l : List Numbered) (v : Numbered) (pages : List (List ℕ)) → at < length l → ((image : List ℕ) → old.image ≡ Some image → v.1 ≡ page image number) → 2 ≤ number → number < homes → DiskStands old homes pages
    → bytes_at (set l at v) at ≡ home pages number
page_read old homes number at l v pages within read least less st =
    ap (λ (w : Numbered). w.1) (get_or-set_same l at v (0, []) within) ∙ read st.image st.settled.told ∙ sym (home_read old homes number pages st least less)

-- ---- a commit

put_on_not : (ws : List Numbered) (f : ℕ → List ℕ) (i : ℕ) → (Has ws i → ⊥) → put_on ws f i ≡ f i
put_on_not [] f i no_ = refl
put_on_not (v ∷ vs) f i no_ = put_on_not vs (with_page v f) i (λ more. no_ (inr more)) ∙ of (v.0 == i) refl
  where
    of : (b : Bool) → (v.0 == i) ≡ b → cond (v.0 == i) v.1 (f i) ≡ f i
    of true is = absurd (no_ (inl (eqb-true v.0 i is)))
    of false is = ap (λ (b : Bool). cond b v.1 (f i)) is

not_above : (low end i : ℕ) (ws : List Numbered) → AreBetween low end ws → i < low → Has ws i → ⊥
not_above low end i [] between less has = has
not_above low end i (w ∷ ws) between less has = ⊎_elim (λ is. omega (arith, is, less, between.0)) (λ more. not_above (suc w.0) end i ws between.3 (omega (arith, less, between.0)) more) has

put_on_has : (low end : ℕ) (ws : List Numbered) (f : ℕ → List ℕ) (w : Numbered) → AreBetween low end ws → Contains ws w → put_on ws f w.0 ≡ w.1
put_on_has low end [] f w between has = absurd (Contains-nil w has)
put_on_has low end (v ∷ vs) f w between has = elim (Contains-cons v vs w has) [
  | inl is ↦ subst (λ (x : Numbered). put_on vs (with_page v f) x.0 ≡ x.1) is
      (put_on_not vs (with_page v f) v.0 (not_above (suc v.0) end v.0 vs between.3 (omega arith)) ∙ ap (λ (b : Bool). cond b v.1 (f v.0)) (eq-eqb v.0 v.0 refl))
  | inr more ↦ put_on_has (suc v.0) end vs (with_page v f) w between.3 more
]

-- what the cache keeps after a commit is of the pages that the batch makes
pub committed : (end homes after : ℕ) (ws before mid now : List Numbered) (pages news : List (List ℕ)) → AreBetween 2 end ws → Mirrors before pages → length pages ≡ homes - 2 → length news ≡ after - 2 → news ≡ changed ws pages
    → RenewsAll ws before mid → HasNoOther mid now → (after < homes → KeepsNone now) → Mirrors now news
committed end homes after ws before mid now pages news between m count count_after is renews less cut = record { low = low; high = high; same = same }
  where
    was : (w : Numbered) → Keeps now w → WasKept before w.0
    was w has = renews.kept w (less.each w has)

    low : (w : Numbered) → Keeps now w → 2 ≤ w.0
    low w has = let k = was w has in m.low (w.0, k.bytes) k.has

    high : (w : Numbered) → Keeps now w → w.0 < 2 + length news
    high w has =
        let k = was w has in
        let up = m.high (w.0, k.bytes) k.has in
        let least = m.low (w.0, k.bytes) k.has in
        elim (Rattle.std.proofs.lemmas.Bool.cases_lt after homes) [
          | inl fell ↦ absurd ((cut fell).none w has)
          | inr stayed ↦ omega (arith, up, count, count_after, stayed, least)
        ]

    f : ℕ → List ℕ
    f = put_on ws (home pages)

    there : (w : Numbered) → Keeps now w → home news w.0 ≡ f w.0
    there w has =
        let up = high w has in
        let least = low w has in
        let long : length news ≡ homes_in (f 2) - 2 = ap (λ (l : List (List ℕ)). length l) is ∙ length-from f 2 (homes_in (f 2) - 2) in
        let e : 2 + (w.0 - 2) ≡ w.0 = omega (arith, least) in
        ap (λ (l : List (List ℕ)). home l w.0) is ∙ at_from f 2 (homes_in (f 2) - 2) (w.0 - 2) (omega (arith, up, least, long)) ∙ ap f e

    same : (w : Numbered) → Keeps now w → w.1 ≡ home news w.0
    same w has = ⊎_elim
        (λ put. sym (put_on_has 2 end ws (home pages) w between put))
        (λ stays. m.same w stays.0 ∙ sym (put_on_not ws (home pages) w.0 stays.1))
        (renews.each w (less.each w has)) ∙ sym (there w has)

was_told : (old new : DiskView) (image : List ℕ) → (old.image ≡ None → new.image ≡ None) → new.image ≡ Some image → (x : List ℕ) × (old.image ≡ Some x)
was_told old new image untold told = of old.image refl
  where
    of : (o : Option (List ℕ)) → old.image ≡ o → (x : List ℕ) × (old.image ≡ Some x)
    of None none = let wrong : None ≡ Some image = sym (untold none) ∙ told in cc
    of (Some x) some = (x, some)

pub cache_committed : (old new : DiskView) (homes after end : ℕ) (ws before mid now : List Numbered) → IsCacheOf old homes before → AreBetween 2 end ws → (old.image ≡ None → new.image ≡ None)
    → ((pages : List (List ℕ)) → DiskStands old homes pages → DiskStands new after (changed ws pages))
    → RenewsAll ws before mid → HasNoOther mid now → (after < homes → KeepsNone now) → IsCacheOf new after now
cache_committed old new homes after end ws before mid now is between untold stands renews less cut = record {
  stands = λ image told.
      let t = was_told old new image untold told in
      let s = is.stands t.0 t.1 in
      (changed ws s.0, stands s.0 s.1);
  mirrors = λ news st.
      let t = was_told old new st.image untold st.settled.told in
      let s = is.stands t.0 t.1 in
      let one : news ≡ changed ws s.0 = one_pages new new after (changed ws s.0) news refl (stands s.0 s.1) st in
      committed end homes after ws before mid now s.0 news between (is.mirrors s.0 s.1) (count_of_pages old homes s.0 s.1) (count_of_pages new after news st) one renews less cut;
}
