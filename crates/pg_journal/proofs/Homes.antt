-- The pages of a batch, one by one: written behind each other, and home.
use Rattle.std.proofs.Common.{◌≡◌, inl, inr, ℕ, zero, suc, ◌+◌, ◌*◌, ◌≤◌, ◌<◌, List, [], ◌∷◌, ◌++◌, length, drop, get_or, Result, Ok, refl, sym, ap, subst, ◌∙◌, arith}
use Rattle.std.proofs.lemmas.List.{drop_more, get_or-map}
use Rattle.ct_site.specs.declared.outside.Failed.{Failed}
use Rattle.ct_site.specs.Images.{written, Torn}
use Rattle.ct_site.specs.Pieces.{torn_written}
use Rattle.ct_site.specs.Disks.{DiskView, IsSettled, Leaves, leaves_then, leaves_none}
use Rattle.ct_site.specs.Lengths.{Lengthens, IsWithin}
use Rattle.ct_site.specs.Writing.{Writes, DiskGives}
use Rattle.ct_site.specs.laws.Writing.{gives_written, writes_keep}
use Rattle.ct_site.specs.laws.Lengths.{grows_inside}
use Rattle.pg_journal.specs.BatchStates.{numbers_in, image_at}
use Rattle.pg_journal.specs.Pages.{page, Numbered, with_page, put_on, Has, AreBetween}
use Rattle.pg_journal.specs.Recovered.{images_bytes}
use Rattle.pg_journal.specs.Staging.{IsSettling, AtHome, IsPartHome}
use Rattle.pg_journal.proofs.BatchPages.{count_of_numbers}
use Rattle.pg_journal.proofs.Pages.{put_on_same, has_between}
use Rattle.pg_journal.proofs.Shut.{settling_torn, settling_within, settling_numbers, page_home}

-- ---- one page of a batch

has_at : (ws : List Numbered) (i : ℕ) → i < length ws → Has ws (get_or ws i (0, [])).0
has_at [] i less = absurd (omega (arith, less))
has_at (w ∷ ws) zero less = inl refl
has_at (w ∷ ws) (suc i) less = inr (has_at ws i (omega (arith, less)))

pub long_at : (low end : ℕ) (ws : List Numbered) (i : ℕ) → AreBetween low end ws → i < length ws → length (image_at i ws) ≡ 4096
long_at low end [] i between less = absurd (omega (arith, less))
long_at low end (w ∷ ws) zero between less = between.2
long_at low end (w ∷ ws) (suc i) between less = long_at (suc w.0) end ws i between.3 (omega (arith, less))

-- the images that are left, that of one page first
pub images_left : (ws : List Numbered) (numbers : List ℕ) (i : ℕ) (image : List ℕ) → numbers ≡ numbers_in ws → i < length numbers → image ≡ image_at i ws → images_bytes (drop i ws) ≡ image ++ images_bytes (drop (i + 1) ws)
images_left ws numbers i image is less same =
    ap images_bytes (drop_more ws i (0, []) (omega (arith, less, ap (λ (l : List ℕ). length l) is, count_of_numbers ws))) ∙ ap (λ (l : List ℕ). l ++ images_bytes (drop (i + 1) ws)) (sym same)

-- one page home
part_step : (place : ℕ) (batch rest : List Numbered) (w : Numbered) (goal : ℕ → List ℕ) (x : List ℕ) → Has batch w.0 → length w.1 ≡ 4096 → IsPartHome place batch (w ∷ rest) goal x → IsPartHome place batch rest goal (written (4096 * w.0) w.1 x)
part_step place batch rest w goal x has long part =
    let between = has_between 2 place batch w.0 (settling_numbers place batch goal x part.settling) has in
    let below : suc w.0 ≤ place = between.1 in
    let within = settling_within place batch goal x part.settling in
    let torn : Torn (4096 * w.0) (4096 * 1) x (written (4096 * w.0) w.1 x) =
    subst (λ (m : ℕ). Torn (4096 * w.0) m x (written (4096 * w.0) w.1 x)) long (torn_written (4096 * w.0) w.1 x (omega (arith, within, below))) in
    record {
      settling = settling_torn place w.0 1 batch goal x (written (4096 * w.0) w.1 x) part.settling (omega arith) (λ i least less. let e : w.0 ≡ i = omega (arith, least, less) in subst (λ (k : ℕ). Has batch k) e has) torn;
      left = λ i two less.
          put_on_same rest (page (written (4096 * w.0) w.1 x)) (with_page w (page x)) i (page_home place i w x within below long two less) ∙ part.left i two less;
    }

-- ---- one page of a batch whose numbers are these

module _ (batch : List Numbered) (end : ℕ) (numbers : List ℕ) (between : AreBetween 2 end batch) (is : numbers ≡ numbers_in batch) where
  pub count_kept : length numbers ≡ length batch
  count_kept = ap (λ (l : List ℕ). length l) is ∙ count_of_numbers batch

  module _ (i : ℕ) (less : i < length numbers) where
    abbrev there : Numbered
    there = get_or batch i (0, [])

    inside : i < length batch
    inside = omega (arith, less, count_kept)

    number_is : get_or numbers i 0 ≡ there.0
    number_is = ap (λ (l : List ℕ). get_or l i 0) is ∙ get_or-map (λ (w : Numbered). w.0) batch i (0, []) 0 inside

    has_there : Has batch there.0
    has_there = has_at batch i inside

    long_there : length there.1 ≡ 4096
    long_there = long_at 2 end batch i between inside

    pub has_kept : Has batch (get_or numbers i 0)
    has_kept = subst (λ (n : ℕ). Has batch n) (sym number_is) has_there

    module _ (image : List ℕ) (same : image ≡ image_at i batch) (mid new : DiskView) where
      writes_there : (result : Result (Unit {0}) Failed) → Writes (4096 * get_or numbers i 0) image mid new result → Writes (4096 * there.0) there.1 mid new result
      writes_there result writes = subst (λ (l : List ℕ). Writes (4096 * there.0) l mid new result) same (subst (λ (n : ℕ). Writes (4096 * n) image mid new result) number_is writes)

      -- it doesn't lengthen a disk that has the pages
      pub page_grows : (result : Result (Unit {0}) Failed) → ((k : ℕ) → Has batch k → IsWithin (4096 * k + 4096) mid) → Writes (4096 * get_or numbers i 0) image mid new result → Lengthens 0 mid new
      page_grows result pages writes =
          grows_inside (4096 * there.0 + length there.1) (4096 * there.0 + 4096) 0 mid new (omega (arith, long_there)) (pages there.0 has_there) (writes_there result writes).grows

      module _ (place : ℕ) (goal : ℕ → List ℕ) where
        pub page_leaves : (old : DiskView) (result : Result (Unit {0}) Failed) → Writes (4096 * get_or numbers i 0) image mid new result → Leaves old mid (IsSettling place batch goal) → Leaves old new (IsSettling place batch goal)
        page_leaves old result writes leaves = leaves_then old mid new _ leaves
            (writes_keep (IsSettling place batch goal) (4096 * there.0) there.1 mid new result (writes_there result writes)
            (λ x y s torn. settling_torn place there.0 1 batch goal x y s (omega arith)
            (λ k least small. let e : there.0 ≡ k = omega (arith, least, small) in subst (λ (n : ℕ). Has batch n) e has_there) (subst (λ (m : ℕ). Torn (4096 * there.0) m x y) long_there torn)) leaves.now)

        pub page_gives : Writes (4096 * get_or numbers i 0) image mid new (Ok tt) → DiskGives (IsPartHome place batch (drop i batch) goal) mid → DiskGives (IsPartHome place batch (drop (i + 1) batch) goal) new
        page_gives writes gives =
            gives_written (IsPartHome place batch (drop i batch) goal) (IsPartHome place batch (drop (i + 1) batch) goal) (4096 * there.0) there.1 mid new gives (writes_there (Ok tt) writes)
            (λ x part. part_step place batch (drop (i + 1) batch) there goal x has_there long_there (subst (λ (l : List Numbered). IsPartHome place batch l goal x) (drop_more batch i (0, []) inside) part))

pub homes_begun : (place : ℕ) (batch : List Numbered) (goal : ℕ → List ℕ) (image : List ℕ) (disk : DiskView) → IsSettled disk image → IsSettling place batch goal image → DiskGives (IsPartHome place batch batch goal) disk
homes_begun place batch goal image disk settled s = record { image = image; is = settled.told; has = record { settling = s; left = s.pages } }

pub settling_now : (place : ℕ) (batch : List Numbered) (goal : ℕ → List ℕ) (image : List ℕ) (disk : DiskView) → IsSettled disk image → IsSettling place batch goal image → Leaves disk disk (IsSettling place batch goal)
settling_now place batch goal image disk settled s = leaves_none disk _ (λ x left. subst (IsSettling place batch goal) (sym (settled.only x left)) s)

pub at_home : (place : ℕ) (batch rest : List Numbered) (goal : ℕ → List ℕ) (d new : DiskView) → rest ≡ [] → (g : DiskGives (IsPartHome place batch rest goal) d) → new.image ≡ d.image → ((left : List ℕ) → new.may_leave left → left ≡ g.image) → AtHome new place batch goal
at_home place batch rest goal d new none g same durable = record {
  image = g.image;
  settled = record { told = same ∙ g.is; only = durable };
  settling = g.has.settling;
  home = λ i two less. sym (ap (λ (l : List Numbered). put_on l (page g.image) i) none) ∙ g.has.left i two less;
}
