-- A level of a directory, made page by page.
use Rattle.std.specs.Prelude.{map}
use Rattle.std.proofs.Common.{min, ◌≡◌, ℕ, zero, suc, ◌+◌, ◌-◌, ◌*◌, ◌≤◌, ◌<◌, List, [], ◌∷◌, ◌++◌, length, length-drop, take, drop, take-suc, get_or, refl, sym, ap, ◌∙◌, append_assoc, append-nil, arith}
use Rattle.std.proofs.lemmas.List.{map-append, take_min, take_all, length-take}
use Rattle.pg_directory.specs.declared.entries.Child.{Child}
use Rattle.pg_directory.specs.Building.{Above, child_of, named_by, numbers_of, pages_above, AreOfLevel, BuildsLevel}
use Rattle.pg_directory.proofs.Orders.{each_both}

named-append : (xs ys : List Above) → named_by (xs ++ ys) ≡ named_by xs ++ named_by ys
named-append [] ys = refl
named-append (x ∷ xs) ys = ap (λ (l : List Child). x.children ++ l) (named-append xs ys) ∙ sym (append_assoc x.children (named_by xs) (named_by ys))

pub numbers-append : (xs ys : List Above) → numbers_of (xs ++ ys) ≡ numbers_of xs ++ numbers_of ys
numbers-append xs ys = map-append (λ (a : Above). a.number) xs ys

-- a part more: so many elements stand in the parts
pub take_further : {X : Type 0} (n m : ℕ) (xs : List X) → take n xs ++ take m (drop n xs) ≡ take (n + m) xs
take_further zero m xs = let e : m ≡ 0 + m = omega arith in ap (λ (k : ℕ). take k xs) e
take_further {X} (suc n) m [] = none_of m ∙ sym (none_of (suc n + m))
  where
    none_of : (k : ℕ) → ◌≡◌ {A = List X} (take k []) []
    none_of zero = refl
    none_of (suc k) = refl
take_further (suc n) m (x ∷ xs) =
    let e : suc (n + m) ≡ suc n + m = omega arith in
    ap (λ l. x ∷ l) (take_further n m xs) ∙ ap (λ (k : ℕ). take k (x ∷ xs)) e

pub slice_named : {X : Type 0} (room : ℕ) (below own : List X) (start count : ℕ) → count ≡ min room (length below - start) → own ≡ take count (drop start below) → own ≡ take room (drop start below)
slice_named room below own start count is same =
    same ∙ ap (λ (n : ℕ). take n (drop start below)) (is ∙ ap (min room) (sym (length-drop start below))) ∙ take_min room (drop start below)

pub some_taken : {X : Type 0} (n : ℕ) (xs : List X) → 1 ≤ length xs → 1 ≤ length (take (suc n) xs)
some_taken n [] l = absurd (omega (arith, l))
some_taken n (x ∷ xs) l = omega arith

-- one child more
pub child_more : (as_ : List Above) (i : ℕ) (a d : Above) (old new : List Child) (c : Child) → i < length as_ → a ≡ get_or as_ i d → c ≡ child_of a → old ≡ map child_of (take i as_) → new ≡ old ++ c ∷ [] → new ≡ map child_of (take (i + 1) as_)
child_more as_ i a d old new c less is child before pushed =
    let n : suc i ≡ i + 1 = omega arith in
    pushed ∙ ap (λ (l : List Child). l ++ c ∷ []) before ∙ ap (λ (x : Child). map child_of (take i as_) ++ x ∷ []) (child ∙ ap child_of is)
    ∙ sym (map-append child_of (take i as_) (get_or as_ i d ∷ [])) ∙ ap (λ (l : List Above). map child_of l) (sym (take-suc as_ i d less) ∙ ap (λ (k : ℕ). take k as_) n)

-- So many pages of a level were made.
pub record IsPartBuilt (level : ℕ) (below : List Child) (numbers : List ℕ) (i : ℕ) (as_ : List Above) : Type 0 where
  pub of_level : AreOfLevel level as_
  pub named : named_by as_ ≡ take (408 * i) below
  pub numbers_are : numbers_of as_ ≡ take i numbers

pub none_built : (level : ℕ) (below : List Child) (numbers : List ℕ) → IsPartBuilt level below numbers 0 []
none_built level below numbers = record { of_level = tt; named = refl; numbers_are = refl }

-- there are more to be named
pub more_to_name : (n i : ℕ) → i < pages_above n → 408 * i < n
more_to_name n i less = omega (arith, less)

pub one_built : (level : ℕ) (below : List Child) (numbers : List ℕ) (i : ℕ) (old : List Above) (own : List Child) → i < length numbers → 408 * i < length below → own ≡ take 408 (drop (408 * i) below)
    → IsPartBuilt level below numbers i old → IsPartBuilt level below numbers (i + 1) (old ++ record { number = get_or numbers i 0; level = level; children = own } ∷ [])
one_built level below numbers i old own within some is part =
    let page : Above = record { number = get_or numbers i 0; level = level; children = own } in
    let long = ap (λ (l : List Child). length l) is in
    let most = length-take 408 (drop (408 * i) below) in
    let left = length-drop (408 * i) below in
    let least : 1 ≤ length (take 408 (drop (408 * i) below)) = some_taken 407 (drop (408 * i) below) (omega (arith, left, some)) in
    let n : 408 * i + 408 ≡ 408 * (i + 1) = omega arith in
    let s : suc i ≡ i + 1 = omega arith in
    record {
      of_level = each_both (λ (a : Above). (a.level ≡ level) × (1 ≤ length a.children) × (length a.children ≤ 408)) old (page ∷ []) part.of_level ((refl, omega (arith, long, least), omega (arith, long, most)), tt);
      named =
          named-append old (page ∷ []) ∙ ap (λ (l : List Child). l ++ (own ++ [])) part.named ∙ ap (λ (l : List Child). take (408 * i) below ++ l) (append-nil own ∙ is)
          ∙ take_further (408 * i) 408 below ∙ ap (λ (k : ℕ). take k below) n;
      numbers_are = numbers-append old (page ∷ []) ∙ ap (λ (l : List ℕ). l ++ get_or numbers i 0 ∷ []) part.numbers_are ∙ sym (take-suc numbers i 0 within) ∙ ap (λ (k : ℕ). take k numbers) s;
    }

pub all_built : (level : ℕ) (below : List Child) (numbers : List ℕ) (i : ℕ) (as_ : List Above) → i ≡ pages_above (length below) → IsPartBuilt level below numbers i as_ → BuildsLevel level below numbers as_
all_built level below numbers i as_ all part = record {
  of_level = part.of_level;
  named = part.named ∙ take_all (408 * i) below (omega (arith, all));
  numbers_are = part.numbers_are ∙ ap (λ (k : ℕ). take k numbers) all;
}
