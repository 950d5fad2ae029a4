-- The batch of a new directory, and places that rise.
use Rattle.std.specs.Prelude.{map}
use Rattle.std.proofs.Common.{◌≡◌, ℕ, zero, suc, ◌+◌, ◌-◌, ◌*◌, ◌≤◌, ◌<◌, List, [], ◌∷◌, ◌++◌, length, length-append, take, drop, drop-cons, get_or, refl, sym, ap, subst, ◌∙◌, arith}
use Rattle.std.proofs.lemmas.List.{take_all}
use Rattle.ct_base.specs.Zeros.{zeros}
use Rattle.ct_base.specs.laws.Zeros.{length-zeros}
use Rattle.pg_journal.specs.BatchStates.{numbers_in, image_at}
use Rattle.pg_journal.specs.Pages.{Numbered, AreBetween}
use Rattle.pg_directory.specs.declared.building.InnerPage.{InnerPage}
use Rattle.pg_directory.specs.declared.leaves.LeafPage.{LeafPage}
use Rattle.pg_directory.specs.declared.making.NewDirectory.{NewDirectory}
use Rattle.pg_directory.specs.Building.{Above, above_of, numbers_of}
use Rattle.pg_directory.specs.Leaves.{leaf_at, leaf_numbers}
use Rattle.pg_directory.specs.Making.{directory_writes, above_writes}
use Rattle.pg_directory.specs.Numbering.{AreRising}
use Rattle.pg_directory.specs.Pages.{Leaf, Inner, directory_bytes, spelled, entry_bytes, child_bytes}
use Rattle.pg_directory.specs.Written.{PageWrite, write_numbers, images_of}
use Rattle.pg_directory.specs.laws.Making.{numbers_written}
use Rattle.pg_directory.specs.laws.Written.{length-spelled}
use Rattle.pg_heap.specs.Directing.{new_writes, directory_batch, batch_numbers}

-- ---- numbers and images

numbers_of_images : (ws : List PageWrite) → write_numbers ws ≡ numbers_in (images_of ws)
numbers_of_images [] = refl
numbers_of_images (w ∷ ws) = ap (λ (l : List ℕ). w.0 ∷ l) (numbers_of_images ws)

pub numbers_there : (homes : ℕ) (d : NewDirectory) → batch_numbers d ≡ numbers_in (directory_batch homes d)
numbers_there homes d = ap (λ (l : List ℕ). 2 ∷ l) (numbers_of_images (new_writes d))

leaf_image : (ps : List LeafPage) (as_ : List Above) (i : ℕ) (p : LeafPage) → i < length ps → image_at i (images_of (directory_writes (map leaf_at ps) as_)) ≡ directory_bytes (Leaf (get_or ps i p).entries.items)
leaf_image [] as_ i p less = absurd (omega (arith, less))
leaf_image (q ∷ ps) as_ zero p less = refl
leaf_image (q ∷ ps) as_ (suc i) p less = leaf_image ps as_ i p (omega (arith, less))

above_image : (qs : List InnerPage) (i : ℕ) (q : InnerPage) → i < length qs → image_at i (images_of (above_writes (map above_of qs))) ≡ directory_bytes (Inner (get_or qs i q).level (get_or qs i q).children.items)
above_image [] i q less = absurd (omega (arith, less))
above_image (r ∷ qs) zero q less = refl
above_image (r ∷ qs) (suc i) q less = above_image qs i q (omega (arith, less))

behind_leaves : (ps : List LeafPage) (qs : List InnerPage) (i j : ℕ) (q : InnerPage) → i ≡ length ps + j → j < length qs → image_at i (images_of (directory_writes (map leaf_at ps) (map above_of qs))) ≡ directory_bytes (Inner (get_or qs j q).level (get_or qs j q).children.items)
behind_leaves [] qs i j q is less = let e : i ≡ j = omega (arith, is) in ap (λ (k : ℕ). image_at k (images_of (above_writes (map above_of qs)))) e ∙ above_image qs j q less
behind_leaves (p ∷ ps) qs zero j q is less = absurd (omega (arith, is))
behind_leaves (p ∷ ps) qs (suc i) j q is less = behind_leaves ps qs i j q (omega (arith, is)) less

pub image_of_leaf : (homes : ℕ) (d : NewDirectory) (index i : ℕ) (p : LeafPage) → index ≡ suc i → i < length d.leaves.items → image_at index (directory_batch homes d) ≡ directory_bytes (Leaf (get_or d.leaves.items i p).entries.items)
image_of_leaf homes d index i p is less = ap (λ (k : ℕ). image_at k (directory_batch homes d)) is ∙ leaf_image d.leaves.items (map above_of d.upper.items) i p less

pub image_of_above : (homes : ℕ) (d : NewDirectory) (index i : ℕ) (q : InnerPage) → index ≡ suc (length d.leaves.items + i) → i < length d.upper.items
    → image_at index (directory_batch homes d) ≡ directory_bytes (Inner (get_or d.upper.items i q).level (get_or d.upper.items i q).children.items)
image_of_above homes d index i q is less = ap (λ (k : ℕ). image_at k (directory_batch homes d)) is ∙ behind_leaves d.leaves.items d.upper.items (length d.leaves.items + i) i q refl less

count_images : (ps : List LeafPage) (qs : List InnerPage) → length (images_of (directory_writes (map leaf_at ps) (map above_of qs))) ≡ length ps + length qs
count_images [] [] = refl
count_images [] (q ∷ qs) = let r = count_images [] qs in omega (arith, r)
count_images (p ∷ ps) qs = let r = count_images ps qs in omega (arith, r)

pub count_batch : (homes : ℕ) (d : NewDirectory) → length (directory_batch homes d) ≡ 1 + (length d.leaves.items + length d.upper.items)
count_batch homes d = omega (arith, count_images d.leaves.items d.upper.items)

pub all_numbers : (d : NewDirectory) (i : ℕ) → length d.upper.items ≤ i → (2 ∷ leaf_numbers (map leaf_at d.leaves.items)) ++ numbers_of (map above_of (take i d.upper.items)) ≡ batch_numbers d
all_numbers d i past =
    ap (λ (qs : List InnerPage). (2 ∷ leaf_numbers (map leaf_at d.leaves.items)) ++ numbers_of (map above_of qs)) (take_all i d.upper.items past)
    ∙ ap (λ (l : List ℕ). 2 ∷ l) (sym (numbers_written (map leaf_at d.leaves.items) (map above_of d.upper.items)))

-- ---- a page has room for what it names

pub length_at : (low end : ℕ) (ws : List Numbered) (i : ℕ) → AreBetween low end ws → i < length ws → length (image_at i ws) ≡ 4096
length_at low end [] i between less = absurd (omega (arith, less))
length_at low end (w ∷ ws) zero between less = between.2
length_at low end (w ∷ ws) (suc i) between less = length_at (suc w.0) end ws i between.3 (omega (arith, less))

pub leaf_room : (es : List Rattle.pg_directory.specs.declared.entries.EntryAt.EntryAt) → length (directory_bytes (Leaf es)) ≡ 4096 → length es ≤ 681
unfolding directory_bytes
leaf_room es is =
    let a = length-append (spelled entry_bytes es) (zeros (4088 - 6 * length es)) in
    omega (arith, a, is, length-spelled entry_bytes 6 (λ e. refl) es, length-zeros (4088 - 6 * length es))

pub inner_room : (level : ℕ) (cs : List Rattle.pg_directory.specs.declared.entries.Child.Child) → length (directory_bytes (Inner level cs)) ≡ 4096 → length cs ≤ 408
unfolding directory_bytes
inner_room level cs is =
    let a = length-append (spelled child_bytes cs) (zeros (4088 - 10 * length cs)) in
    omega (arith, a, is, length-spelled child_bytes 10 (λ c. refl) cs, length-zeros (4088 - 10 * length cs))

-- ---- places that rise

-- Those from here on rise exactly where all do.
pub record RiseOn (places : List ℕ) (end i low : ℕ) : Type 0 where
  pub onward : AreRising low end (drop i places) → AreRising 0 end places
  pub back : AreRising 0 end places → AreRising low end (drop i places)

pub all_rise : (places : List ℕ) (end : ℕ) → RiseOn places end 0 0
all_rise places end = record { onward = λ r. r; back = λ r. r }

pub rise_next : (places : List ℕ) (end i low x : ℕ) → i < length places → x ≡ get_or places i 0 → low ≤ x → x < end → RiseOn places end i low → RiseOn places end (i + 1) (x + 1)
rise_next places end i low x less is high within r =
    let parts : drop i places ≡ get_or places i 0 ∷ drop (i + 1) places = drop-cons places i 0 less ∙ ap (λ (k : ℕ). get_or places i 0 ∷ drop k places) (let e : suc i ≡ i + 1 = omega arith in e) in
    let s : suc (get_or places i 0) ≡ x + 1 = omega (arith, is) in
    record {
      onward = λ rest. r.onward (subst (AreRising low end) (sym parts) (omega (arith, high, is), omega (arith, within, is), subst (λ (n : ℕ). AreRising n end (drop (i + 1) places)) (sym s) rest));
      back = λ all. let a = subst (AreRising low end) parts (r.back all) in subst (λ (n : ℕ). AreRising n end (drop (i + 1) places)) s a.2;
    }

pub not_rising : (places : List ℕ) (end i low x : ℕ) → i < length places → x ≡ get_or places i 0 → RiseOn places end i low → AreRising 0 end places → (low ≤ x) × (x < end)
not_rising places end i low x less is r all =
    let a = subst (AreRising low end) (drop-cons places i 0 less) (r.back all) in
    (omega (arith, a.0, is), omega (arith, a.1, is))

pub rise_done : (places : List ℕ) (end i low : ℕ) → length places ≤ i → RiseOn places end i low → AreRising 0 end places
rise_done places end i low past r = r.onward (subst (AreRising low end) (sym (none_left places i past)) tt)
  where
    none_left : (xs : List ℕ) (i : ℕ) → length xs ≤ i → drop i xs ≡ []
    none_left [] zero le = refl
    none_left [] (suc i) le = refl
    none_left (x ∷ xs) zero le = absurd (omega (arith, le))
    none_left (x ∷ xs) (suc i) le = none_left xs i (omega (arith, le))
