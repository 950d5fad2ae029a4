-- Placed strings page by page, of pages of which some are away.
use Rattle.std.specs.Prelude.{Bool, true, false}
use Rattle.std.proofs.Common.{◌≡◌, ℕ, zero, suc, ◌+◌, ◌<◌, ◌≤◌, List, [], ◌∷◌, ◌++◌, length, get_or, refl, sym, ap, ◌∙◌, arith, length-append}
use Rattle.std.specs.Bool.{if◌then◌else◌}
use Rattle.std.proofs.lemmas.Grind.{flat_map-append}
use Rattle.std.proofs.lemmas.List.{map-append}
use Rattle.pg_map.specs.Kinds.{Each, Kind, Free, strings_of, item_bytes}
use Rattle.pg_map.specs.Holding.{Placed, times, chains_of, bytes_of, entries_of}
use Rattle.pg_map.specs.Loose.{values_under}
use Rattle.pg_map.specs.laws.Loose.{times-append, values-append}
use Rattle.pg_map.specs.laws.Holding.{each-append, each-left, each-right, bytes-append}
use Rattle.pg_map.specs.laws.MapReading.{strings-cons}
use Rattle.pg_window.specs.Windows.{merged}

-- what stands on all pages
abbrev pub all_placed : List (List Placed) → List Placed
all_placed [] = []
all_placed (p ∷ ps) = p ++ all_placed ps

-- what stands on the pages that are there
abbrev pub inside : List Bool → List (List Placed) → List Placed
inside [] ps = all_placed ps
inside (b ∷ bs) [] = []
inside (b ∷ bs) (p ∷ ps) = (if b then [] else p) ++ inside bs ps

-- what stands on the pages that are away
abbrev pub outside : List Bool → List (List Placed) → List Placed
outside [] ps = []
outside (b ∷ bs) [] = []
outside (b ∷ bs) (p ∷ ps) = (if b then p else []) ++ outside bs ps

-- The strings of each page are those placed there.
abbrev pub AreParts : List Kind → List (List Placed) → Type 0
AreParts [] [] = Unit {0}
AreParts [] (p ∷ ps) = ⊥
AreParts (k ∷ ks) [] = ⊥
AreParts (k ∷ ks) (p ∷ ps) = (strings_of (k ∷ []) ≡ bytes_of p) × AreParts ks ps

abbrev pub placed_values : List ℕ → List Placed → List (List ℕ)
placed_values key ps = values_under key (entries_of ps)

pub chains-append : (us vs : List Placed) → chains_of (us ++ vs) ≡ chains_of us ++ chains_of vs
chains-append us vs = flat_map-append (λ (p : Placed). p.chain) us vs

pub entries-append : (us vs : List Placed) → entries_of (us ++ vs) ≡ entries_of us ++ entries_of vs
entries-append us vs = map-append (λ (p : Placed). p.entry) us vs

pub placed_values-append : (key : List ℕ) (us vs : List Placed) → placed_values key (us ++ vs) ≡ placed_values key us ++ placed_values key vs
placed_values-append key us vs = ap (values_under key) (entries-append us vs) ∙ values-append key (entries_of us) (entries_of vs)

pub times_chains : (i : ℕ) (us vs : List Placed) → times i (chains_of (us ++ vs)) ≡ times i (chains_of us) + times i (chains_of vs)
times_chains i us vs = ap (times i) (chains-append us vs) ∙ times-append i (chains_of us) (chains_of vs)

-- ---- lists that are empty

pub nil_left : {X : Type 0} (a b : List X) → a ++ b ≡ [] → a ≡ []
nil_left [] b is = refl
nil_left (x ∷ a) b is = absurd (cc is)

pub nil_right : {X : Type 0} (a b : List X) → a ++ b ≡ [] → b ≡ []
nil_right [] b is = is
nil_right (x ∷ a) b is = absurd (cc is)

pub no_bytes : (ps : List Placed) → bytes_of ps ≡ [] → ps ≡ []
no_bytes [] is = refl
no_bytes (p ∷ ps) is = absurd (cc is)

-- ---- merged lists

pub merged_same : {X : Type 0} (bs : List Bool) (xs : List X) → merged bs xs xs ≡ xs
merged_same [] xs = refl
merged_same (b ∷ bs) [] = refl
merged_same (true ∷ bs) (x ∷ xs) = ap (λ (l : List _). x ∷ l) (merged_same bs xs)
merged_same (false ∷ bs) (x ∷ xs) = ap (λ (l : List _). x ∷ l) (merged_same bs xs)

pub length-merged : {X : Type 0} (bs : List Bool) (xs ys : List X) → length (merged bs xs ys) ≡ length ys
length-merged [] xs ys = refl
length-merged (b ∷ bs) [] ys = refl
length-merged (b ∷ bs) (x ∷ xs) [] = refl
length-merged (b ∷ bs) (x ∷ xs) (y ∷ ys) = ap suc (length-merged bs xs ys)

pub merged_old : {X : Type 0} (bs : List Bool) (xs ys : List X) (at : ℕ) (d : X) → length bs ≤ length xs → length xs ≤ length ys → get_or bs at false ≡ true → get_or (merged bs xs ys) at d ≡ get_or xs at d
merged_old [] xs ys at d l1 l2 is = absurd (cc is)
merged_old (b ∷ bs) [] ys at d l1 l2 is = absurd (omega (arith, l1))
merged_old (b ∷ bs) (x ∷ xs) [] at d l1 l2 is = absurd (omega (arith, l2))
merged_old (b ∷ bs) (x ∷ xs) (y ∷ ys) zero d l1 l2 is = ap (λ (c : Bool). if c then x else y) is
merged_old (b ∷ bs) (x ∷ xs) (y ∷ ys) (suc at) d l1 l2 is = merged_old bs xs ys at d (omega (arith, l1)) (omega (arith, l2)) is

pub merged_new : {X : Type 0} (bs : List Bool) (xs ys : List X) (at : ℕ) (d : X) → get_or bs at false ≡ false → get_or (merged bs xs ys) at d ≡ get_or ys at d
merged_new [] xs ys at d is = refl
merged_new (b ∷ bs) [] ys at d is = refl
merged_new (b ∷ bs) (x ∷ xs) [] at d is = refl
merged_new (b ∷ bs) (x ∷ xs) (y ∷ ys) zero d is = ap (λ (c : Bool). if c then x else y) is
merged_new (b ∷ bs) (x ∷ xs) (y ∷ ys) (suc at) d is = merged_new bs xs ys at d is

pub each_merged : {X : Type 0} (P : X → Type 0) (bs : List Bool) (xs ys : List X) → Each P xs → Each P ys → Each P (merged bs xs ys)
each_merged P [] xs ys a b = b
each_merged P (c ∷ bs) [] ys a b = b
each_merged P (c ∷ bs) (x ∷ xs) [] a b = tt
each_merged P (true ∷ bs) (x ∷ xs) (y ∷ ys) a b = (a.0, each_merged P bs xs ys a.1 b.1)
each_merged P (false ∷ bs) (x ∷ xs) (y ∷ ys) a b = (b.0, each_merged P bs xs ys a.1 b.1)

-- ---- what stands on merged pages

abbrev pub PageParts : Type 0
PageParts = List (List Placed)

-- The flags are at most so many as the old pages, and these as the new ones.
pub record Reach (bs : List Bool) (ps qs : PageParts) : Type 0 where
  pub flags : length bs ≤ length ps
  pub old : length ps ≤ length qs

pub each_joined : (P : Placed → Type 0) (bs : List Bool) (ps qs : PageParts) → Reach bs ps qs → Each P (outside bs ps) → Each P (inside bs qs) → Each P (all_placed (merged bs ps qs))
each_joined P [] ps qs r a b = b
each_joined P (c ∷ bs) [] qs r a b = absurd (let l = r.flags in omega (arith, l))
each_joined P (c ∷ bs) (p ∷ ps) [] r a b = absurd (let l = r.old in omega (arith, l))
each_joined P (true ∷ bs) (p ∷ ps) (q ∷ qs) r a b =
    each-append P p (all_placed (merged bs ps qs)) (each-left P p (outside bs ps) a) (each_joined P bs ps qs (let l = r.flags in let k = r.old in record { flags = omega (arith, l); old = omega (arith, k) }) (each-right P p (outside bs ps) a) b)
each_joined P (false ∷ bs) (p ∷ ps) (q ∷ qs) r a b =
    each-append P q (all_placed (merged bs ps qs)) (each-left P q (inside bs qs) b) (each_joined P bs ps qs (let l = r.flags in let k = r.old in record { flags = omega (arith, l); old = omega (arith, k) }) a (each-right P q (inside bs qs) b))

pub each_inside : (P : Placed → Type 0) (bs : List Bool) (ps : PageParts) → Each P (all_placed ps) → Each P (inside bs ps)
each_inside P [] ps a = a
each_inside P (c ∷ bs) [] a = tt
each_inside P (true ∷ bs) (p ∷ ps) a = each_inside P bs ps (each-right P p (all_placed ps) a)
each_inside P (false ∷ bs) (p ∷ ps) a = each-append P p (inside bs ps) (each-left P p (all_placed ps) a) (each_inside P bs ps (each-right P p (all_placed ps) a))

pub each_outside : (P : Placed → Type 0) (bs : List Bool) (ps : PageParts) → Each P (all_placed ps) → Each P (outside bs ps)
each_outside P [] ps a = tt
each_outside P (c ∷ bs) [] a = tt
each_outside P (false ∷ bs) (p ∷ ps) a = each_outside P bs ps (each-right P p (all_placed ps) a)
each_outside P (true ∷ bs) (p ∷ ps) a = each-append P p (outside bs ps) (each-left P p (all_placed ps) a) (each_outside P bs ps (each-right P p (all_placed ps) a))

next_reach : (b : Bool) (bs : List Bool) (p q : List Placed) (ps qs : PageParts) → Reach (b ∷ bs) (p ∷ ps) (q ∷ qs) → Reach bs ps qs
next_reach b bs p q ps qs r = let l = r.flags in let k = r.old in record { flags = omega (arith, l); old = omega (arith, k) }

pub times_joined : (i : ℕ) (bs : List Bool) (ps qs : PageParts) → Reach bs ps qs → times i (chains_of (all_placed (merged bs ps qs))) ≡ times i (chains_of (outside bs ps)) + times i (chains_of (inside bs qs))
times_joined i [] ps qs r = omega arith
times_joined i (c ∷ bs) [] qs r = absurd (let l = r.flags in omega (arith, l))
times_joined i (c ∷ bs) (p ∷ ps) [] r = absurd (let l = r.old in omega (arith, l))
times_joined i (true ∷ bs) (p ∷ ps) (q ∷ qs) r =
    let more = times_joined i bs ps qs (next_reach true bs p q ps qs r) in
    omega (arith, more, times_chains i p (all_placed (merged bs ps qs)), times_chains i p (outside bs ps))
times_joined i (false ∷ bs) (p ∷ ps) (q ∷ qs) r =
    let more = times_joined i bs ps qs (next_reach false bs p q ps qs r) in
    omega (arith, more, times_chains i q (all_placed (merged bs ps qs)), times_chains i q (inside bs qs))

-- how many values of a key stand there
pub count_joined : (key : List ℕ) (bs : List Bool) (ps qs : PageParts) → Reach bs ps qs → length (placed_values key (all_placed (merged bs ps qs))) ≡ length (placed_values key (outside bs ps)) + length (placed_values key (inside bs qs))
count_joined key [] ps qs r = omega arith
count_joined key (c ∷ bs) [] qs r = absurd (let l = r.flags in omega (arith, l))
count_joined key (c ∷ bs) (p ∷ ps) [] r = absurd (let l = r.old in omega (arith, l))
count_joined key (true ∷ bs) (p ∷ ps) (q ∷ qs) r =
    let more = count_joined key bs ps qs (next_reach true bs p q ps qs r) in
    let a = ap (λ (l : List (List ℕ)). length l) (placed_values-append key p (all_placed (merged bs ps qs))) in
    let b = ap (λ (l : List (List ℕ)). length l) (placed_values-append key p (outside bs ps)) in
    omega (arith, more, a, b, length-append (placed_values key p) (placed_values key (all_placed (merged bs ps qs))), length-append (placed_values key p) (placed_values key (outside bs ps)))
count_joined key (false ∷ bs) (p ∷ ps) (q ∷ qs) r =
    let more = count_joined key bs ps qs (next_reach false bs p q ps qs r) in
    let a = ap (λ (l : List (List ℕ)). length l) (placed_values-append key q (all_placed (merged bs ps qs))) in
    let b = ap (λ (l : List (List ℕ)). length l) (placed_values-append key q (inside bs qs)) in
    omega (arith, more, a, b, length-append (placed_values key q) (placed_values key (all_placed (merged bs ps qs))), length-append (placed_values key q) (placed_values key (inside bs qs)))

-- a key that no page away has
pub values_inside : (key : List ℕ) (bs : List Bool) (ps qs : PageParts) → Reach bs ps qs → placed_values key (outside bs ps) ≡ [] → placed_values key (all_placed (merged bs ps qs)) ≡ placed_values key (inside bs qs)
values_inside key [] ps qs r none = refl
values_inside key (c ∷ bs) [] qs r none = absurd (let l = r.flags in omega (arith, l))
values_inside key (c ∷ bs) (p ∷ ps) [] r none = absurd (let l = r.old in omega (arith, l))
values_inside key (true ∷ bs) (p ∷ ps) (q ∷ qs) r none =
    let both = sym (placed_values-append key p (outside bs ps)) ∙ none in
    placed_values-append key p (all_placed (merged bs ps qs)) ∙ ap (λ (l : List (List ℕ)). l ++ placed_values key (all_placed (merged bs ps qs))) (nil_left (placed_values key p) (placed_values key (outside bs ps)) both)
    ∙ values_inside key bs ps qs (next_reach true bs p q ps qs r) (nil_right (placed_values key p) (placed_values key (outside bs ps)) both)
values_inside key (false ∷ bs) (p ∷ ps) (q ∷ qs) r none =
    placed_values-append key q (all_placed (merged bs ps qs)) ∙ ap (λ (l : List (List ℕ)). placed_values key q ++ l) (values_inside key bs ps qs (next_reach false bs p q ps qs r) none) ∙ sym (placed_values-append key q (inside bs qs))

-- a key that no page in memory has
pub values_outside : (key : List ℕ) (bs : List Bool) (ps qs : PageParts) → Reach bs ps qs → placed_values key (inside bs qs) ≡ [] → placed_values key (all_placed (merged bs ps qs)) ≡ placed_values key (outside bs ps)
values_outside key [] ps qs r none = none
values_outside key (c ∷ bs) [] qs r none = absurd (let l = r.flags in omega (arith, l))
values_outside key (c ∷ bs) (p ∷ ps) [] r none = absurd (let l = r.old in omega (arith, l))
values_outside key (true ∷ bs) (p ∷ ps) (q ∷ qs) r none =
    placed_values-append key p (all_placed (merged bs ps qs)) ∙ ap (λ (l : List (List ℕ)). placed_values key p ++ l) (values_outside key bs ps qs (next_reach true bs p q ps qs r) none) ∙ sym (placed_values-append key p (outside bs ps))
values_outside key (false ∷ bs) (p ∷ ps) (q ∷ qs) r none =
    let both = sym (placed_values-append key q (inside bs qs)) ∙ none in
    placed_values-append key q (all_placed (merged bs ps qs)) ∙ ap (λ (l : List (List ℕ)). l ++ placed_values key (all_placed (merged bs ps qs))) (nil_left (placed_values key q) (placed_values key (inside bs qs)) both)
    ∙ values_outside key bs ps qs (next_reach false bs p q ps qs r) (nil_right (placed_values key q) (placed_values key (inside bs qs)) both)

-- ---- page by page

pub length-parts : (ks : List Kind) (ps : PageParts) → AreParts ks ps → length ps ≡ length ks
length-parts [] [] a = refl
length-parts [] (p ∷ ps) a = absurd a
length-parts (k ∷ ks) [] a = absurd a
length-parts (k ∷ ks) (p ∷ ps) a = ap suc (length-parts ks ps a.1)

pub parts_joined : (ks : List Kind) (ps : PageParts) → AreParts ks ps → strings_of ks ≡ bytes_of (all_placed ps)
parts_joined [] [] a = refl
parts_joined [] (p ∷ ps) a = absurd a
parts_joined (k ∷ ks) [] a = absurd a
parts_joined (k ∷ ks) (p ∷ ps) a =
    strings-cons k ks ∙ ap (λ (l : List (List ℕ)). l ++ strings_of ks) a.0 ∙ ap (λ (l : List (List ℕ)). bytes_of p ++ l) (parts_joined ks ps a.1) ∙ sym (bytes-append p (all_placed ps))

pub parts_merged : (bs : List Bool) (ks ls : List Kind) (ps qs : PageParts) → AreParts ks ps → AreParts ls qs → AreParts (merged bs ks ls) (merged bs ps qs)
parts_merged [] ks ls ps qs a b = b
parts_merged (c ∷ bs) [] ls [] qs a b = b
parts_merged (c ∷ bs) [] ls (p ∷ ps) qs a b = absurd a
parts_merged (c ∷ bs) (k ∷ ks) ls [] qs a b = absurd a
parts_merged (c ∷ bs) (k ∷ ks) [] (p ∷ ps) [] a b = tt
parts_merged (c ∷ bs) (k ∷ ks) [] (p ∷ ps) (q ∷ qs) a b = absurd b
parts_merged (c ∷ bs) (k ∷ ks) (l ∷ ls) (p ∷ ps) [] a b = absurd b
parts_merged (true ∷ bs) (k ∷ ks) (l ∷ ls) (p ∷ ps) (q ∷ qs) a b = (a.0, parts_merged bs ks ls ps qs a.1 b.1)
parts_merged (false ∷ bs) (k ∷ ks) (l ∷ ls) (p ∷ ps) (q ∷ qs) a b = (b.0, parts_merged bs ks ls ps qs a.1 b.1)

pub part_at : (ks : List Kind) (ps : PageParts) (at : ℕ) → AreParts ks ps → strings_of (get_or ks at Free ∷ []) ≡ bytes_of (get_or ps at [])
part_at [] [] at a = refl
part_at [] (p ∷ ps) at a = absurd a
part_at (k ∷ ks) [] at a = absurd a
part_at (k ∷ ks) (p ∷ ps) zero a = a.0
part_at (k ∷ ks) (p ∷ ps) (suc at) a = part_at ks ps at a.1

-- placed strings in two parts, as their bytes are
record IsCut (ps : List Placed) (a b : List (List ℕ)) : Type 0 where
  first : List Placed
  more : List Placed
  is : ps ≡ first ++ more
  first_is : a ≡ bytes_of first
  more_is : b ≡ bytes_of more

head_of : List (List ℕ) → List ℕ
head_of [] = []
head_of (s ∷ ss) = s

tail_of : List (List ℕ) → List (List ℕ)
tail_of [] = []
tail_of (s ∷ ss) = ss

cut : (ps : List Placed) (a b : List (List ℕ)) → bytes_of ps ≡ a ++ b → IsCut ps a b
unfolding head_of tail_of
cut ps [] b is = record { first = []; more = ps; is = refl; first_is = refl; more_is = sym is }
cut [] (s ∷ a) b is = absurd (cc is)
cut (p ∷ ps) (s ∷ a) b is =
    let c = cut ps a b (ap tail_of is) in
    record { first = p ∷ c.first; more = c.more; is = ap (λ (l : List Placed). p ∷ l) c.is; first_is = ap (λ (x : List ℕ). x ∷ a) (sym (ap head_of is)) ∙ ap (λ (l : List (List ℕ)). item_bytes p.item ∷ l) c.first_is; more_is = c.more_is }

-- placed strings page by page
pub record HasPageParts (ks : List Kind) (ps : List Placed) : Type 0 where
  pub parts : PageParts
  pub are : AreParts ks parts
  pub is : ps ≡ all_placed parts

pub page_parts : (ks : List Kind) (ps : List Placed) → strings_of ks ≡ bytes_of ps → HasPageParts ks ps
page_parts [] ps is = record { parts = []; are = tt; is = no_bytes ps (sym is) }
page_parts (k ∷ ks) ps is =
    let c = cut ps (strings_of (k ∷ [])) (strings_of ks) (sym is ∙ strings-cons k ks) in
    let more = page_parts ks c.more c.more_is in
    record { parts = c.first ∷ more.parts; are = (c.first_is, more.are); is = c.is ∙ ap (λ (l : List Placed). c.first ++ l) more.is }

-- nothing stands on the pages that are away
pub inside_all : (bs : List Bool) (ps : PageParts) → length bs ≤ length ps → ((at : ℕ) → get_or bs at false ≡ true → get_or ps at [] ≡ []) → inside bs ps ≡ all_placed ps
inside_all [] ps few none = refl
inside_all (b ∷ bs) [] few none = absurd (omega (arith, few))
inside_all (true ∷ bs) (p ∷ ps) few none = ap (λ (l : List Placed). l ++ inside bs ps) (sym (none 0 refl)) ∙ ap (λ (l : List Placed). p ++ l) (inside_all bs ps (omega (arith, few)) (λ at. none (suc at)))
inside_all (false ∷ bs) (p ∷ ps) few none = ap (λ (l : List Placed). p ++ l) (inside_all bs ps (omega (arith, few)) (λ at. none (suc at)))

-- the strings of pages in memory
pub inside_strings : (bs : List Bool) (now ks : List Kind) (ps : PageParts) → AreParts ks ps → length now ≡ length ks → length bs ≤ length ks → ((at : ℕ) → get_or bs at false ≡ true → strings_of (get_or now at Free ∷ []) ≡ [])
    → ((at : ℕ) → at < length ks → get_or bs at false ≡ false → get_or now at Free ≡ get_or ks at Free) → strings_of now ≡ bytes_of (inside bs ps)
inside_strings bs [] [] [] a count few none there = of bs
  where
    of : (bs : List Bool) → [] ≡ bytes_of (inside bs [])
    of [] = refl
    of (b ∷ bs) = refl
inside_strings bs now [] (p ∷ ps) a count few none there = absurd a
inside_strings bs now (k ∷ ks) [] a count few none there = absurd a
inside_strings bs (n ∷ now) [] [] a count few none there = absurd (omega (arith, count))
inside_strings bs [] (k ∷ ks) (p ∷ ps) a count few none there = absurd (omega (arith, count))
inside_strings [] (n ∷ now) (k ∷ ks) (p ∷ ps) a count few none there =
    strings-cons n now ∙ ap (λ (l : List (List ℕ)). l ++ strings_of now) (ap (λ (x : Kind). strings_of (x ∷ [])) (there 0 (omega arith) refl) ∙ a.0)
    ∙ ap (λ (l : List (List ℕ)). bytes_of p ++ l) (inside_strings [] now ks ps a.1 (omega (arith, count)) (omega arith) (λ at. none (suc at)) (λ at less. there (suc at) (omega (arith, less)))) ∙ sym (bytes-append p (inside [] ps))
inside_strings (true ∷ bs) (n ∷ now) (k ∷ ks) (p ∷ ps) a count few none there =
    strings-cons n now ∙ ap (λ (l : List (List ℕ)). l ++ strings_of now) (none 0 refl) ∙ inside_strings bs now ks ps a.1 (omega (arith, count)) (omega (arith, few)) (λ at. none (suc at)) (λ at less. there (suc at) (omega (arith, less)))
inside_strings (false ∷ bs) (n ∷ now) (k ∷ ks) (p ∷ ps) a count few none there =
    strings-cons n now ∙ ap (λ (l : List (List ℕ)). l ++ strings_of now) (ap (λ (x : Kind). strings_of (x ∷ [])) (there 0 (omega arith) refl) ∙ a.0)
    ∙ ap (λ (l : List (List ℕ)). bytes_of p ++ l) (inside_strings bs now ks ps a.1 (omega (arith, count)) (omega (arith, few)) (λ at. none (suc at)) (λ at less. there (suc at) (omega (arith, less)))) ∙ sym (bytes-append p (inside bs ps))

-- ---- the values of a key on some pages

pub none_outside : (key : List ℕ) (bs : List Bool) (ps : PageParts) → ((at : ℕ) → get_or bs at false ≡ true → placed_values key (get_or ps at []) ≡ []) → placed_values key (outside bs ps) ≡ []
none_outside key [] ps none = refl
none_outside key (b ∷ bs) [] none = refl
none_outside key (true ∷ bs) (p ∷ ps) none = placed_values-append key p (outside bs ps) ∙ ap (λ (l : List (List ℕ)). l ++ placed_values key (outside bs ps)) (none 0 refl) ∙ none_outside key bs ps (λ at. none (suc at))
none_outside key (false ∷ bs) (p ∷ ps) none = none_outside key bs ps (λ at. none (suc at))

pub none_joined : (key : List ℕ) (ps : PageParts) → ((at : ℕ) → placed_values key (get_or ps at []) ≡ []) → placed_values key (all_placed ps) ≡ []
none_joined key [] none = refl
none_joined key (p ∷ ps) none = placed_values-append key p (all_placed ps) ∙ ap (λ (l : List (List ℕ)). l ++ placed_values key (all_placed ps)) (none 0) ∙ none_joined key ps (λ at. none (suc at))

pub none_inside : (key : List ℕ) (bs : List Bool) (ps : PageParts) → ((at : ℕ) → get_or bs at false ≡ false → placed_values key (get_or ps at []) ≡ []) → placed_values key (inside bs ps) ≡ []
none_inside key [] ps none = none_joined key ps (λ at. none at refl)
none_inside key (b ∷ bs) [] none = refl
none_inside key (false ∷ bs) (p ∷ ps) none = placed_values-append key p (inside bs ps) ∙ ap (λ (l : List (List ℕ)). l ++ placed_values key (inside bs ps)) (none 0 refl) ∙ none_inside key bs ps (λ at. none (suc at))
none_inside key (true ∷ bs) (p ∷ ps) none = none_inside key bs ps (λ at. none (suc at))

pub none_at : (key : List ℕ) (ps : PageParts) (at : ℕ) → placed_values key (all_placed ps) ≡ [] → placed_values key (get_or ps at []) ≡ []
none_at key [] at none = refl
none_at key (p ∷ ps) zero none = nil_left (placed_values key p) (placed_values key (all_placed ps)) (sym (placed_values-append key p (all_placed ps)) ∙ none)
none_at key (p ∷ ps) (suc at) none = none_at key ps at (nil_right (placed_values key p) (placed_values key (all_placed ps)) (sym (placed_values-append key p (all_placed ps)) ∙ none))

pub none_inside_at : (key : List ℕ) (bs : List Bool) (ps : PageParts) (at : ℕ) → placed_values key (inside bs ps) ≡ [] → get_or bs at false ≡ false → placed_values key (get_or ps at []) ≡ []
none_inside_at key [] ps at none there = none_at key ps at none
none_inside_at key (b ∷ bs) [] at none there = refl
none_inside_at key (true ∷ bs) (p ∷ ps) zero none there = absurd (cc there)
none_inside_at key (true ∷ bs) (p ∷ ps) (suc at) none there = none_inside_at key bs ps at none there
none_inside_at key (false ∷ bs) (p ∷ ps) zero none there = nil_left (placed_values key p) (placed_values key (inside bs ps)) (sym (placed_values-append key p (inside bs ps)) ∙ none)
none_inside_at key (false ∷ bs) (p ∷ ps) (suc at) none there = none_inside_at key bs ps at (nil_right (placed_values key p) (placed_values key (inside bs ps)) (sym (placed_values-append key p (inside bs ps)) ∙ none)) there
