-- The leaves of a directory, made one by one.
use Rattle.std.specs.Prelude.{map}
use Rattle.std.proofs.Common.{◌≡◌, ℕ, suc, ◌+◌, ◌*◌, ◌≤◌, ◌<◌, List, [], ◌∷◌, ◌++◌, length, length-drop, take, drop, take-suc, get_or, refl, sym, ap, ◌∙◌, append_assoc, append-nil, arith}
use Rattle.std.proofs.lemmas.List.{map-append, take_all, length-take}
use Rattle.pg_directory.specs.declared.entries.Child.{Child}
use Rattle.pg_directory.specs.declared.entries.EntryAt.{EntryAt}
use Rattle.pg_directory.specs.Leaves.{LeafAt, leaf_child, entries_by, leaf_numbers, leaves_for, AreLeafPages, BuildsLeaves}
use Rattle.pg_directory.proofs.Builds.{take_further, some_taken}
use Rattle.pg_directory.proofs.Orders.{each_both}

entries-append : (xs ys : List LeafAt) → entries_by (xs ++ ys) ≡ entries_by xs ++ entries_by ys
entries-append [] ys = refl
entries-append (x ∷ xs) ys = ap (λ (l : List EntryAt). x.entries ++ l) (entries-append xs ys) ∙ sym (append_assoc x.entries (entries_by xs) (entries_by ys))

-- one child more
pub leaf_more : (ls : List LeafAt) (i : ℕ) (a d : LeafAt) (old new : List Child) (c : Child) → i < length ls → a ≡ get_or ls i d → c ≡ leaf_child a → old ≡ map leaf_child (take i ls) → new ≡ old ++ c ∷ [] → new ≡ map leaf_child (take (i + 1) ls)
leaf_more ls i a d old new c less is child before pushed =
    let n : suc i ≡ i + 1 = omega arith in
    pushed ∙ ap (λ (l : List Child). l ++ c ∷ []) before ∙ ap (λ (x : Child). map leaf_child (take i ls) ++ x ∷ []) (child ∙ ap leaf_child is)
    ∙ sym (map-append leaf_child (take i ls) (get_or ls i d ∷ [])) ∙ ap (λ (l : List LeafAt). map leaf_child l) (sym (take-suc ls i d less) ∙ ap (λ (k : ℕ). take k ls) n)

-- So many leaves were made.
pub record ArePartBuilt (places : List EntryAt) (numbers : List ℕ) (i : ℕ) (ls : List LeafAt) : Type 0 where
  pub are : AreLeafPages ls
  pub named : entries_by ls ≡ take (681 * i) places
  pub numbers_are : leaf_numbers ls ≡ take i numbers

pub no_leaf_built : (places : List EntryAt) (numbers : List ℕ) → ArePartBuilt places numbers 0 []
no_leaf_built places numbers = record { are = tt; named = refl; numbers_are = refl }

-- there are more to be named
pub more_entries : (n i : ℕ) → i < leaves_for n → 681 * i < n
more_entries n i less = omega (arith, less)

pub leaf_built : (places : List EntryAt) (numbers : List ℕ) (i : ℕ) (old : List LeafAt) (own : List EntryAt) → i < length numbers → 681 * i < length places → own ≡ take 681 (drop (681 * i) places)
    → ArePartBuilt places numbers i old → ArePartBuilt places numbers (i + 1) (old ++ record { number = get_or numbers i 0; entries = own } ∷ [])
leaf_built places numbers i old own within some is part =
    let leaf : LeafAt = record { number = get_or numbers i 0; entries = own } in
    let long = ap (λ (l : List EntryAt). length l) is in
    let most = length-take 681 (drop (681 * i) places) in
    let left = length-drop (681 * i) places in
    let least : 1 ≤ length (take 681 (drop (681 * i) places)) = some_taken 680 (drop (681 * i) places) (omega (arith, left, some)) in
    let n : 681 * i + 681 ≡ 681 * (i + 1) = omega arith in
    let s : suc i ≡ i + 1 = omega arith in
    record {
      are = each_both (λ (l : LeafAt). (1 ≤ length l.entries) × (length l.entries ≤ 681)) old (leaf ∷ []) part.are ((omega (arith, long, least), omega (arith, long, most)), tt);
      named =
          entries-append old (leaf ∷ []) ∙ ap (λ (l : List EntryAt). l ++ (own ++ [])) part.named ∙ ap (λ (l : List EntryAt). take (681 * i) places ++ l) (append-nil own ∙ is)
          ∙ take_further (681 * i) 681 places ∙ ap (λ (k : ℕ). take k places) n;
      numbers_are = map-append (λ (l : LeafAt). l.number) old (leaf ∷ []) ∙ ap (λ (l : List ℕ). l ++ get_or numbers i 0 ∷ []) part.numbers_are ∙ sym (take-suc numbers i 0 within) ∙ ap (λ (k : ℕ). take k numbers) s;
    }

pub leaves_built : (places : List EntryAt) (numbers : List ℕ) (i : ℕ) (ls : List LeafAt) → i ≡ leaves_for (length places) → ArePartBuilt places numbers i ls → BuildsLeaves places numbers ls
leaves_built places numbers i ls all part = record {
  are = part.are;
  named = part.named ∙ take_all (681 * i) places (omega (arith, all));
  numbers_are = part.numbers_are ∙ ap (λ (k : ℕ). take k numbers) all;
}
