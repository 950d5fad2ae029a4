-- The levels of a directory, made one above the other.
use Rattle.std.specs.Prelude.{map}
use Rattle.std.proofs.Common.{◌≡◌, ℕ, zero, suc, ◌+◌, ◌-◌, ◌*◌, ◌^◌, ◌≤◌, ◌<◌, ◌⊎◌, ⊎_elim, inl, inr, All, get_or, List, [], ◌∷◌, ◌++◌, length, length-drop, length-append, take, drop, refl, sym, ap, subst, ◌∙◌, append_assoc, append-nil, arith}
use Rattle.std.proofs.Math.Nat.{pow-succ'}
use Rattle.std.proofs.Math.Pow.{pow_mono}
use Rattle.std.proofs.lemmas.List.{length-map, length-take, take_rest}
use Rattle.std.proofs.lemmas.Bool.{cases_lt}
use Rattle.std.proofs.lemmas.Nat.{mul-le}
use Rattle.pg_directory.specs.declared.entries.Child.{Child}
use Rattle.pg_directory.specs.declared.building.InnerPage.{InnerPage}
use Rattle.pg_directory.specs.Building.{Above, above_of, child_of, named_by, numbers_of, pages_above, AreOfLevel, LeadUp, BuildsLevel}
use Rattle.pg_directory.specs.Layering.{all_pages, BuildsLevels}
use Rattle.pg_directory.specs.laws.Building.{numbers_down}
use Rattle.pg_directory.proofs.Builds.{take_further, numbers-append}

-- one level more
up_more : (level : ℕ) (cs : List Child) (levels : List (List Above)) (last : List Child) (as_ : List Above) → LeadUp level cs levels last → AreOfLevel (suc (level + length levels)) as_ → named_by as_ ≡ last
    → LeadUp level cs (levels ++ as_ ∷ []) (map child_of as_)
up_more level cs [] last as_ up are named = let e : suc (level + 0) ≡ suc level = omega arith in (subst (λ (n : ℕ). AreOfLevel n as_) e are, named ∙ sym up, refl)
up_more level cs (bs ∷ more) last as_ (of_level, names, up) are named =
    let e : suc (level + suc (length more)) ≡ suc (suc level + length more) = omega arith in
    (of_level, names, up_more (suc level) (map child_of bs) more last as_ up (subst (λ (n : ℕ). AreOfLevel n as_) e are) named)

all-append : (levels : List (List Above)) (as_ : List Above) → all_pages (levels ++ as_ ∷ []) ≡ all_pages levels ++ as_
all-append [] as_ = append-nil as_
all-append (bs ∷ more) as_ = ap (λ (l : List Above). bs ++ l) (all-append more as_) ∙ sym (append_assoc bs (all_pages more) as_)

down_more : (levels : List (List Above)) (as_ : List Above) (others : List ℕ) → numbers_down (levels ++ as_ ∷ []) others ≡ numbers_of as_ ++ numbers_down levels others
down_more [] as_ others = refl
down_more (bs ∷ more) as_ others = down_more more as_ (numbers_of bs ++ others)

-- So many levels were made.
pub record AreLayered (leaves : List Child) (numbers : List ℕ) (level : ℕ) (below : List Child) (as_ : List Above) (inner : List ℕ) : Type 0 where
  pub levels : List (List Above)
  pub up : LeadUp 0 leaves levels below
  pub level_is : level ≡ length levels
  pub pages_are : as_ ≡ all_pages levels
  pub inner_are : inner ≡ numbers_down levels []
  pub numbers_are : numbers_of as_ ≡ take (length as_) numbers
  pub some : 1 ≤ length below
  pub fewer : length as_ + length below ≤ length leaves
  pub low : length below * 2 ^ level ≤ 2 ^ 32

pub no_level : (leaves : List Child) (numbers : List ℕ) → 1 ≤ length leaves → length leaves < 2 ^ 32 → AreLayered leaves numbers 0 leaves [] []
no_level leaves numbers some few = record { levels = []; up = refl; level_is = refl; pages_are = refl; inner_are = refl; numbers_are = refl; some = some; fewer = omega arith; low = omega (arith, few) }

-- a level has a number that fits a byte
pub level_fits : (n level : ℕ) → 1 < n → n * 2 ^ level ≤ 2 ^ 32 → level < 32
level_fits n level more low = of (level_or level)
  where
    level_or : (l : ℕ) → (l < 32) ⊎ (32 ≤ l)
    level_or l = cases_lt l 32

    of : (level < 32) ⊎ (32 ≤ level) → level < 32
    of (inl less) = less
    of (inr high) =
        let big : 2 ^ 32 ≤ 2 ^ level = pow_mono high in
        let two : 2 * 2 ^ level ≤ n * 2 ^ level = mul-le 2 (2 ^ level) n (2 ^ level) (omega (arith, more)) (omega arith) in
        absurd (omega (arith, big, two, low))

pow_suc : (level : ℕ) → 2 ^ (level + 1) ≡ 2 * 2 ^ level
pow_suc level = let e : level + 1 ≡ suc level = omega arith in ap (λ (k : ℕ). 2 ^ k) e ∙ pow-succ' 2 level

half : (n : ℕ) → 2 ≤ n → 2 * pages_above n ≤ n
half n more = omega (arith, more)

twice : (k n p : ℕ) → 2 * k ≤ n → k * (2 * p) ≤ n * p
twice k n p le =
    let e : k * (2 * p) ≡ (2 * k) * p = grind arith in
    let m : (2 * k) * p ≤ n * p = mul-le (2 * k) p n p le (omega arith) in
    omega (arith, e, m)

pub level_built : (leaves : List Child) (numbers : List ℕ) (level : ℕ) (below : List Child) (old as_ : List Above) (inner : List ℕ) → 1 < length below → length leaves ≤ length numbers + 1 → AreLayered leaves numbers level below old inner
    → BuildsLevel (level + 1) below (drop (length old) numbers) as_ → AreLayered leaves numbers (level + 1) (map child_of as_) (old ++ as_) (numbers_of as_ ++ inner)
level_built leaves numbers level below old as_ inner more enough p b =
    let high : level + 1 ≡ suc (0 + length p.levels) = omega (arith, p.level_is) in
    let halved = half (length below) (omega (arith, more)) in
    let left = length-drop (length old) numbers in
    let there = length-take (pages_above (length below)) (drop (length old) numbers) in
    let named = ap (λ (l : List ℕ). length l) b.numbers_are in
    let same = length-map as_ (λ (a : Above). a.number) in
    let count : length as_ ≡ pages_above (length below) = omega (arith, halved, left, there, named, same, more, enough, p.fewer) in
    let both = length-append old as_ in
    let of_children = length-map as_ child_of in
    record {
      levels = p.levels ++ as_ ∷ [];
      up = up_more 0 leaves p.levels below as_ p.up (subst (λ (n : ℕ). AreOfLevel n as_) high b.of_level) b.named;
      level_is = omega (arith, p.level_is, length-append p.levels (as_ ∷ []));
      pages_are = ap (λ (l : List Above). l ++ as_) p.pages_are ∙ sym (all-append p.levels as_);
      inner_are = ap (λ (l : List ℕ). numbers_of as_ ++ l) p.inner_are ∙ sym (down_more p.levels as_ []);
      numbers_are =
          numbers-append old as_ ∙ ap (λ (l : List ℕ). l ++ numbers_of as_) p.numbers_are ∙ ap (λ (l : List ℕ). take (length old) numbers ++ l) (b.numbers_are ∙ ap (λ (n : ℕ). take n (drop (length old) numbers)) (sym count))
          ∙ take_further (length old) (length as_) numbers ∙ ap (λ (n : ℕ). take n numbers) (sym both);
      some = omega (arith, of_children, count, more);
      fewer = omega (arith, both, of_children, count, halved, p.fewer);
      low = lower (length as_) (length (map child_of as_)) (omega (arith, count, halved)) of_children;
    }
  where
    lower : (k n : ℕ) → 2 * k ≤ length below → n ≡ k → n * 2 ^ (level + 1) ≤ 2 ^ 32
    lower k n le same =
        let e : 2 ^ (level + 1) ≡ 2 * 2 ^ level = pow_suc level in
        let m = twice k (length below) (2 ^ level) le in
        subst (λ (x : ℕ). x * 2 ^ (level + 1) ≤ 2 ^ 32) (sym same) (subst (λ (x : ℕ). k * x ≤ 2 ^ 32) (sym e) (omega (arith, m, p.low)))

-- there are numbers enough for the level above
pub enough_left : (leaves : List Child) (numbers : List ℕ) (level : ℕ) (below : List Child) (old : List Above) (inner : List ℕ) → 1 < length below → length leaves ≤ length numbers + 1 → AreLayered leaves numbers level below old inner
    → pages_above (length below) ≤ length (drop (length old) numbers)
enough_left leaves numbers level below old inner more enough p = omega (arith, length-drop (length old) numbers, half (length below) (omega (arith, more)), more, enough, p.fewer)

-- each of them names a page
pub some_named : (level : ℕ) (ps : List InnerPage) → AreOfLevel level (map above_of ps) → All (λ (p : InnerPage). 1 ≤ length p.children.items) ps
some_named level ps are = λ k d less. at ps k d are less
  where
    at : (ps : List InnerPage) (k : ℕ) (d : InnerPage) → AreOfLevel level (map above_of ps) → k < length ps → 1 ≤ length (get_or ps k d).children.items
    at [] k d are less = absurd (omega (arith, less))
    at (p ∷ ps) zero d are less = are.0.1
    at (p ∷ ps) (suc k) d are less = at ps k d are.1 (omega (arith, less))

low_level : (n level : ℕ) → 1 ≤ n → n * 2 ^ level ≤ 2 ^ 32 → level ≤ 32
low_level n level some low = ⊎_elim (λ less. omega (arith, less)) (λ high.
    let big : 2 ^ 33 ≤ 2 ^ level = pow_mono high in
    let one : 1 * 2 ^ level ≤ n * 2 ^ level = mul-le 1 (2 ^ level) n (2 ^ level) some (omega arith) in
    absurd (omega (arith, big, one, low))) (cases_lt level 33)

pub levels_built : (leaves : List Child) (numbers : List ℕ) (level : ℕ) (below : List Child) (as_ : List Above) (inner : List ℕ) (top : Child) → below ≡ top ∷ [] → AreLayered leaves numbers level below as_ inner → BuildsLevels leaves numbers as_ inner top
levels_built leaves numbers level below as_ inner top one p = record {
  levels = p.levels;
  are = subst (LeadUp 0 leaves p.levels) one p.up;
  pages_are = p.pages_are;
  inner_are = p.inner_are;
  numbers_are = p.numbers_are;
  fewer = let e = ap (λ (l : List Child). length l) one in omega (arith, e, p.fewer);
  few = omega (arith, low_level (length below) level p.some p.low, p.level_is);
}

-- the only one of a list
pub only_one : (below : List Child) (d : Child) → 1 ≤ length below → length below ≤ 1 → below ≡ get_or below 0 d ∷ []
only_one [] d some few = absurd (omega (arith, some))
only_one (c ∷ []) d some few = refl
only_one (c ∷ e ∷ cs) d some few = absurd (omega (arith, few))

-- a level has fewer pages than the one below it
pub fewer_above : (level : ℕ) (below : List Child) (numbers : List ℕ) (as_ : List Above) (next : List Child) → 1 < length below → BuildsLevel level below numbers as_ → next ≡ map child_of as_ → length next < length below
fewer_above level below numbers as_ next more b is =
    let long = ap (λ (l : List Child). length l) is ∙ length-map as_ child_of in
    let named = ap (λ (l : List ℕ). length l) b.numbers_are in
    let same = length-map as_ (λ (a : Above). a.number) in
    omega (arith, long, named, same, length-take (pages_above (length below)) numbers, half (length below) (omega (arith, more)), more)

pub level_next : (leaves : List Child) (numbers : List ℕ) (level : ℕ) (below under next : List Child) (old new as_ : List Above) (inner down : List ℕ) (l : ℕ) → 1 < length below → length leaves ≤ length numbers + 1 → AreLayered leaves numbers level below old inner
    → under ≡ below → l ≡ length old → BuildsLevel (level + 1) under (take (length numbers - l) (drop l numbers)) as_ → next ≡ map child_of as_ → new ≡ old ++ as_ → down ≡ numbers_of as_ ++ inner → AreLayered leaves numbers (level + 1) next new down
level_next leaves numbers level below under next old new as_ inner down l more enough p same at b is pushed above =
    let rest : take (length numbers - l) (drop l numbers) ≡ drop (length old) numbers = take_rest numbers l ∙ ap (λ (n : ℕ). drop n numbers) at in
    let made = subst (λ (ns : List ℕ). BuildsLevel (level + 1) below ns as_) rest (subst (λ (cs : List Child). BuildsLevel (level + 1) cs (take (length numbers - l) (drop l numbers)) as_) same b) in
    subst (λ (cs : List Child). AreLayered leaves numbers (level + 1) cs new down) (sym is)
    (subst (λ (as' : List Above). AreLayered leaves numbers (level + 1) (map child_of as_) as' down) (sym pushed)
    (subst (AreLayered leaves numbers (level + 1) (map child_of as_) (old ++ as_)) (sym above) (level_built leaves numbers level below old as_ inner more enough p made)))
