-- What stands in a store after pages of it were written.
use Rattle.std.specs.Prelude.{Bool, true, false, cond, map}
use Rattle.std.proofs.Common.{◌≡◌, ◌≢◌, ◌⊎◌, inl, inr, ⊎_elim, ℕ, zero, suc, ◌+◌, ◌-◌, ◌*◌, ◌^◌, ◌≤◌, ◌<◌, ◌==◌, List, [], ◌∷◌, ◌++◌, length, length-append, get_or, refl, sym, ap, subst, ◌∙◌, append-nil, arith}
use Rattle.std.proofs.Math.Nat.{mul-suc}
use Rattle.std.proofs.lemmas.Bool.{eq-eqb, eqb-true, false≢true, cases_lt}
use Rattle.std.proofs.lemmas.List.{length-map, map-append}
use Rattle.ct_base.specs.Zeros.{zeros}
use Rattle.ct_base.specs.laws.Zeros.{length-zeros}
use Rattle.ct_keep.specs.Content.{Content}
use Rattle.pg_journal.specs.Pages.{Numbered, with_page, put_on, Has, homes_in, root_page, pages_from, home, changed, AreBetween}
use Rattle.pg_journal.specs.Standing.{MayCommit}
use Rattle.pg_journal.specs.laws.PageRuns.{pages_same, root_homes, root_top, length-root}
use Rattle.pg_page.specs.laws.Pages.{length-page}
use Rattle.pg_map.specs.Kinds.{Each, Kind, Free, Slotted, Long, bytes_of_kind, IsKind}
use Rattle.pg_map.specs.Holding.{IsLayout, times, one_if_long}
use Rattle.pg_map.specs.laws.Holding.{strings-append}
use Rattle.pg_map.specs.laws.Loose.{all_same, times_more, times_here, times_other}
use Rattle.pg_directory.specs.declared.entries.EntryAt.{EntryAt}
use Rattle.pg_directory.specs.declared.entries.Child.{Child}
use Rattle.pg_directory.specs.Pages.{DirectoryPage, Leaf, Inner, directory_bytes, IsDirectoryPage, spelled, entry_bytes, child_bytes}
use Rattle.pg_directory.specs.Trees.{StorePage, Plain, Directory, bytes_of_page, kind_of, IsPage, page_at}
use Rattle.pg_directory.specs.Looking.{store_pages}
use Rattle.pg_directory.specs.Written.{PageWrite, write_over, with_writes, with_free, write_numbers, images_of, store_batch, AreWrites}

-- ---- what stands under a number

pub over_here : (w : PageWrite) (ws : List PageWrite) (p : StorePage) → write_over (w ∷ ws) w.0 p ≡ w.1
over_here w ws p = ap (λ (b : Bool). cond b w.1 (write_over ws w.0 p)) (eq-eqb w.0 w.0 refl)

pub over_other : (w : PageWrite) (ws : List PageWrite) (i : ℕ) (p : StorePage) → w.0 ≢ i → write_over (w ∷ ws) i p ≡ write_over ws i p
over_other w ws i p apart = of (w.0 == i) (eqb-true w.0 i)
  where
    of : (b : Bool) → (b ≡ true → w.0 ≡ i) → cond b w.1 (write_over ws i p) ≡ write_over ws i p
    of true is = absurd (apart (is refl))
    of false is = refl

-- where no page of the number was written
pub over_none : (ws : List PageWrite) (i : ℕ) (p : StorePage) → times i (write_numbers ws) ≡ 0 → write_over ws i p ≡ p
over_none [] i p none = refl
over_none (w ∷ ws) i p none =
    over_other w ws i p (λ e. let h = subst (λ (n : ℕ). times i (n ∷ write_numbers ws) ≡ 0) e none in absurd (omega (arith, h, times_here i (write_numbers ws))))
    ∙ over_none ws i p (omega (arith, none, times_more i w.0 (write_numbers ws)))

-- ---- numbers that rise

pub lower : (low less end : ℕ) (ws : List PageWrite) → less ≤ low → AreWrites low end ws → AreWrites less end ws
lower low less end [] le are = tt
lower low less end (w ∷ ws) le are = (omega (arith, le, are.0), are.1, are.2, are.3)

pub each_low : (low end : ℕ) (ws : List PageWrite) → AreWrites low end ws → Each (λ (w : PageWrite). low ≤ w.0) ws
each_low low end [] are = tt
each_low low end (w ∷ ws) are = (are.0, each_low low end ws (lower (suc w.0) low end ws (omega (arith, are.0)) are.3))

none_below : (low end : ℕ) (ws : List PageWrite) (i : ℕ) → AreWrites low end ws → i < low → times i (write_numbers ws) ≡ 0
none_below low end [] i are less = refl
none_below low end (w ∷ ws) i are less =
    times_other i w.0 (write_numbers ws) (λ e. absurd (omega (arith, e, less, are.0))) ∙ none_below (suc w.0) end ws i are.3 (omega (arith, less, are.0))

pub one_at_most : (low end : ℕ) (ws : List PageWrite) (i : ℕ) → AreWrites low end ws → times i (write_numbers ws) ≤ 1
one_at_most low end [] i are = omega arith
one_at_most low end (w ∷ ws) i are = of (w.0 == i) (eqb-true w.0 i) (λ e is. false≢true (sym e ∙ eq-eqb w.0 i is)) (one_at_most (suc w.0) end ws i are.3)
  where
    of : (b : Bool) → (b ≡ true → w.0 ≡ i) → (b ≡ false → w.0 ≢ i) → times i (write_numbers ws) ≤ 1 → times i (write_numbers (w ∷ ws)) ≤ 1
    of true yes_ no_ most =
        let none = none_below (suc w.0) end ws i are.3 (omega (arith, yes_ refl)) in
        let e = subst (λ (n : ℕ). times i (n ∷ write_numbers ws) ≡ 1 + times i (write_numbers ws)) (sym (yes_ refl)) (times_here i (write_numbers ws)) in
        omega (arith, none, e)
    of false yes_ no_ most = omega (arith, times_other i w.0 (write_numbers ws) (no_ refl), most)

-- each page that was written stands under its number
pub each_over : (low end : ℕ) (ws : List PageWrite) (at : ℕ → StorePage) → AreWrites low end ws → Each (λ (w : PageWrite). write_over ws w.0 (at w.0) ≡ w.1) ws
each_over low end [] at are = tt
each_over low end (w ∷ ws) at are = (over_here w ws (at w.0), behind ws (each_low (suc w.0) end ws are.3) (each_over (suc w.0) end ws at are.3))
  where
    behind : (vs : List PageWrite) → Each (λ (v : PageWrite). suc w.0 ≤ v.0) vs → Each (λ (v : PageWrite). write_over ws v.0 (at v.0) ≡ v.1) vs → Each (λ (v : PageWrite). write_over (w ∷ ws) v.0 (at v.0) ≡ v.1) vs
    behind [] high is = tt
    behind (v ∷ vs) high is = (over_other w ws v.0 (at v.0) (λ e. absurd (omega (arith, e, high.0))) ∙ is.0, behind vs high.1 is.1)

-- ---- pages

pub length-writes : (ws : List PageWrite) (i : ℕ) (ps : List StorePage) → length (with_writes ws i ps) ≡ length ps
length-writes ws i [] = refl
length-writes ws i (p ∷ ps) = ap suc (length-writes ws (suc i) ps)

page_there : (ws : List PageWrite) (i : ℕ) (ps : List StorePage) (n : ℕ) (d : StorePage) → n < length ps → get_or (with_writes ws i ps) n d ≡ write_over ws (i + n) (get_or ps n d)
page_there ws i [] n d less = absurd (omega (arith, less))
page_there ws i (p ∷ ps) zero d less = let e : i ≡ i + 0 = omega arith in ap (λ (k : ℕ). write_over ws k p) e
page_there ws i (p ∷ ps) (suc n) d less = let e : suc i + n ≡ i + suc n = omega arith in page_there ws (suc i) ps n d (omega (arith, less)) ∙ ap (λ (k : ℕ). write_over ws k (get_or ps n d)) e

pub page_written : (ws : List PageWrite) (ps : List StorePage) (i : ℕ) → 3 ≤ i → i < 3 + length ps → page_at (with_writes ws 3 ps) i ≡ write_over ws i (page_at ps i)
page_written ws ps i low high =
    let e : 3 + (i - 3) ≡ i = omega (arith, low) in
    page_there ws 3 ps (i - 3) (Plain Free) (omega (arith, low, high)) ∙ ap (λ (k : ℕ). write_over ws k (page_at ps i)) e

past : (ps : List StorePage) (n : ℕ) → length ps ≤ n → get_or ps n (Plain Free) ≡ Plain Free
past [] n less = refl
past (p ∷ ps) zero less = absurd (omega (arith, less))
past (p ∷ ps) (suc n) less = past ps n (omega (arith, less))

pub page_past : (ps : List StorePage) (i : ℕ) → 3 + length ps ≤ i → page_at ps i ≡ Plain Free
page_past ps i less = past ps (i - 3) (omega (arith, less))

-- a page that isn't written stays
pub page_kept : (ws : List PageWrite) (ps : List StorePage) (i : ℕ) → 3 ≤ i → times i (write_numbers ws) ≡ 0 → page_at (with_writes ws 3 ps) i ≡ page_at ps i
page_kept ws ps i low none = ⊎_elim
    (λ less. page_written ws ps i low less ∙ over_none ws i (page_at ps i) none)
    (λ high. page_past (with_writes ws 3 ps) i (omega (arith, high, length-writes ws 3 ps)) ∙ sym (page_past ps i high))
    (cases_lt i (3 + length ps))

-- each page that is written stands there
pub each_stands : (ws : List PageWrite) (ps : List StorePage) → AreWrites 3 (3 + length ps) ws → Each (λ (w : PageWrite). (3 ≤ w.0) × (page_at (with_writes ws 3 ps) w.0 ≡ w.1)) ws
each_stands ws ps are = of ws are (each_low 3 (3 + length ps) ws are) (each_over 3 (3 + length ps) ws (page_at ps) are) 3 are
  where
    of : (vs : List PageWrite) → AreWrites 3 (3 + length ps) ws → Each (λ (w : PageWrite). 3 ≤ w.0) vs → Each (λ (w : PageWrite). write_over ws w.0 (page_at ps w.0) ≡ w.1) vs → (low : ℕ) → AreWrites low (3 + length ps) vs
        → Each (λ (w : PageWrite). (3 ≤ w.0) × (page_at (with_writes ws 3 ps) w.0 ≡ w.1)) vs
    of [] all low over least between = tt
    of (v ∷ vs) all low over least between = ((low.0, page_written ws ps v.0 low.0 (omega (arith, between.1)) ∙ over.0), of vs all low.1 over.1 (suc v.0) between.3)

over_good : (low end : ℕ) (ws : List PageWrite) (i : ℕ) (p : StorePage) → AreWrites low end ws → IsPage p → IsPage (write_over ws i p)
over_good low end [] i p are good = good
over_good low end (w ∷ ws) i p are good = of (w.0 == i) (over_good (suc w.0) end ws i p are.3 good)
  where
    of : (b : Bool) → IsPage (write_over ws i p) → IsPage (cond b w.1 (write_over ws i p))
    of true rest = are.2
    of false rest = rest

pub each_good : (low end : ℕ) (ws : List PageWrite) (i : ℕ) (ps : List StorePage) → AreWrites low end ws → Each IsPage ps → Each IsPage (with_writes ws i ps)
each_good low end ws i [] are good = tt
each_good low end ws i (p ∷ ps) are good = (over_good low end ws i p are good.0, each_good low end ws (suc i) ps are good.1)

-- ---- their kinds

-- Each page that is written is to the map as the one that stood there.
abbrev pub AreAlike : List StorePage → List PageWrite → Type 0
AreAlike ps ws = Each (λ (w : PageWrite). kind_of w.1 ≡ kind_of (page_at ps w.0)) ws

pub over_alike : (ps : List StorePage) (ws : List PageWrite) (i : ℕ) → AreAlike ps ws → kind_of (write_over ws i (page_at ps i)) ≡ kind_of (page_at ps i)
over_alike ps [] i alike = refl
over_alike ps (w ∷ ws) i alike = of (w.0 == i) (eqb-true w.0 i) (over_alike ps ws i alike.1)
  where
    of : (b : Bool) → (b ≡ true → w.0 ≡ i) → kind_of (write_over ws i (page_at ps i)) ≡ kind_of (page_at ps i) → kind_of (cond b w.1 (write_over ws i (page_at ps i))) ≡ kind_of (page_at ps i)
    of true is rest = alike.0 ∙ ap (λ (n : ℕ). kind_of (page_at ps n)) (is refl)
    of false is rest = rest

kinds_from : (ws : List PageWrite) (i : ℕ) (ps : List StorePage) → ((n : ℕ) → n < length ps → kind_of (write_over ws (i + n) (get_or ps n (Plain Free))) ≡ kind_of (get_or ps n (Plain Free))) → map kind_of (with_writes ws i ps) ≡ map kind_of ps
kinds_from ws i [] same = refl
kinds_from ws i (p ∷ ps) same =
    let e : i + 0 ≡ i = omega arith in
    ap (λ (k : Kind). k ∷ map kind_of (with_writes ws (suc i) ps)) (ap (λ (n : ℕ). kind_of (write_over ws n p)) (sym e) ∙ same 0 (omega arith))
    ∙ ap (λ (l : List Kind). kind_of p ∷ l)
    (kinds_from ws (suc i) ps (λ n less. let s : suc i + n ≡ i + suc n = omega arith in ap (λ (k : ℕ). kind_of (write_over ws k (get_or ps n (Plain Free)))) s ∙ same (suc n) (omega (arith, less))))

pub kinds_alike : (ws : List PageWrite) (ps : List StorePage) → AreAlike ps ws → map kind_of (with_writes ws 3 ps) ≡ map kind_of ps
kinds_alike ws ps alike = kinds_from ws 3 ps (λ n less.
    let e : (3 + n) - 3 ≡ n = omega arith in
    subst (λ (k : ℕ). kind_of (write_over ws (3 + n) (get_or ps k (Plain Free))) ≡ kind_of (get_or ps k (Plain Free))) e (over_alike ps ws (3 + n) alike))

-- ---- free pages more

pub length-free : (n : ℕ) (ps : List StorePage) → length (with_free n ps) ≡ length ps + n
length-free zero ps = omega arith
length-free (suc n) ps = omega (arith, length-free n (ps ++ Plain Free ∷ []), length-append ps (Plain Free ∷ []))

at_end : (ps : List StorePage) (n : ℕ) → get_or (ps ++ Plain Free ∷ []) n (Plain Free) ≡ get_or ps n (Plain Free)
at_end [] zero = refl
at_end [] (suc n) = refl
at_end (p ∷ ps) zero = refl
at_end (p ∷ ps) (suc n) = at_end ps n

pub page_as_free : (n : ℕ) (ps : List StorePage) (i : ℕ) → page_at (with_free n ps) i ≡ page_at ps i
page_as_free zero ps i = refl
page_as_free (suc n) ps i = page_as_free n (ps ++ Plain Free ∷ []) i ∙ at_end ps (i - 3)

pub each_free : (n : ℕ) (ps : List StorePage) → Each IsPage ps → Each IsPage (with_free n ps)
each_free zero ps good = good
each_free (suc n) ps good = each_free n (ps ++ Plain Free ∷ []) (more ps good)
  where
    more : (ps : List StorePage) → Each IsPage ps → Each IsPage (ps ++ Plain Free ∷ [])
    more [] good = (tt, tt)
    more (p ∷ ps) good = (good.0, more ps good.1)

kind_end : (ks : List Kind) (n : ℕ) → get_or ks n Free ≡ get_or (ks ++ Free ∷ []) n Free
kind_end [] zero = refl
kind_end [] (suc n) = refl
kind_end (k ∷ ks) zero = refl
kind_end (k ∷ ks) (suc n) = kind_end ks n

layout_end : (ks : List Kind) (m : Content) → IsLayout ks m → IsLayout (ks ++ Free ∷ []) m
layout_end ks m l = record {
  placed = l.placed;
  strings = strings-append ks (Free ∷ []) ∙ append-nil _ ∙ l.strings;
  items = l.items;
  stand = all_same ks (ks ++ Free ∷ []) l.placed (λ i low some. kind_end ks (i - 3)) l.stand;
  long = λ i low. l.long i low ∙ ap one_if_long (kind_end ks (i - 3));
  entries = l.entries;
}

pub layout_free : (n : ℕ) (ps : List StorePage) (m : Content) → IsLayout (map kind_of ps) m → IsLayout (map kind_of (with_free n ps)) m
layout_free zero ps m l = l
layout_free (suc n) ps m l = layout_free n (ps ++ Plain Free ∷ []) m (subst (λ (ks : List Kind). IsLayout ks m) (sym (map-append kind_of ps (Plain Free ∷ []))) (layout_end (map kind_of ps) m l))

-- ---- the store

pub length-spelled : {X : Type 0} (bytes : X → List ℕ) (n : ℕ) → ((x : X) → length (bytes x) ≡ n) → (xs : List X) → length (spelled bytes xs) ≡ n * length xs
length-spelled bytes n long [] = omega arith
length-spelled bytes n long (x ∷ xs) =
    length-append (bytes x) (spelled bytes xs) ∙ ap (λ (k : ℕ). k + length (spelled bytes xs)) (long x) ∙ ap (λ (k : ℕ). n + k) (length-spelled bytes n long xs) ∙ more n (length xs)
  where
    more : (n k : ℕ) → n + n * k ≡ n * suc k
    more n k = omega (arith, mul-suc n k)

pub length-leaf : (es : List EntryAt) → length es ≤ 681 → length (directory_bytes (Leaf es)) ≡ 4096
unfolding directory_bytes
length-leaf es most =
    let a = length-append (spelled entry_bytes es) (zeros (4088 - 6 * length es)) in
    omega (arith, a, length-spelled entry_bytes 6 (λ e. refl) es, length-zeros (4088 - 6 * length es), most)

pub length-inner : (level : ℕ) (cs : List Child) → length cs ≤ 408 → length (directory_bytes (Inner level cs)) ≡ 4096
unfolding directory_bytes
length-inner level cs most =
    let a = length-append (spelled child_bytes cs) (zeros (4088 - 10 * length cs)) in
    omega (arith, a, length-spelled child_bytes 10 (λ c. refl) cs, length-zeros (4088 - 10 * length cs), most)

length-directory : (d : DirectoryPage) → IsDirectoryPage d → length (directory_bytes d) ≡ 4096
length-directory (Leaf es) good = length-leaf es good.1
length-directory (Inner level cs) good = length-inner level cs good.1

length-kind : (k : Kind) → IsKind k → length (bytes_of_kind k) ≡ 4096
unfolding bytes_of_kind
length-kind Free good = length-zeros 4096
length-kind (Slotted ss) good = length-page ss good
length-kind (Long next bytes) good = omega (arith, good.2, length-append bytes (zeros (4088 - length bytes)), length-zeros (4088 - length bytes))

pub length-store_page : (p : StorePage) → IsPage p → length (bytes_of_page p) ≡ 4096
length-store_page (Plain kind) good = length-kind kind good
length-store_page (Directory d) good = length-directory d good

pub between_images : (low end : ℕ) (ws : List PageWrite) → AreWrites low end ws → AreBetween low end (images_of ws)
between_images low end [] are = tt
between_images low end (w ∷ ws) are = (are.0, are.1, length-store_page w.1 are.2, between_images (suc w.0) end ws are.3)

pub has_image : (ws : List PageWrite) (i : ℕ) → 1 ≤ times i (write_numbers ws) → Has (images_of ws) i
has_image [] i some = absurd (omega (arith, some))
has_image (w ∷ ws) i some = of (w.0 == i) (eqb-true w.0 i) (λ e is. false≢true (sym e ∙ eq-eqb w.0 i is)) (has_image ws i)
  where
    of : (b : Bool) → (b ≡ true → w.0 ≡ i) → (b ≡ false → w.0 ≢ i) → (1 ≤ times i (write_numbers ws) → Has (images_of ws) i) → (w.0 ≡ i) ⊎ Has (images_of ws) i
    of true yes_ no_ rest = inl (yes_ refl)
    of false yes_ no_ rest = inr (rest (omega (arith, some, times_other i w.0 (write_numbers ws) (no_ refl))))

bytes_there : (ps : List StorePage) (n : ℕ) → n < length ps → get_or (map bytes_of_page ps) n [] ≡ bytes_of_page (get_or ps n (Plain Free))
bytes_there [] n less = absurd (omega (arith, less))
bytes_there (p ∷ ps) zero less = refl
bytes_there (p ∷ ps) (suc n) less = bytes_there ps n (omega (arith, less))

pub home_there : (top : ℕ) (ps : List StorePage) (i : ℕ) → 3 ≤ i → i < 3 + length ps → home (store_pages top ps) i ≡ bytes_of_page (page_at ps i)
home_there top ps i low high =
    let e : i - 2 ≡ suc (i - 3) = omega (arith, low) in
    ap (λ (n : ℕ). get_or (store_pages top ps) n []) e ∙ bytes_there ps (i - 3) (omega (arith, low, high))

pub put_goal : (ws : List Numbered) (goal pages : ℕ → List ℕ) → Each (λ (w : Numbered). w.1 ≡ goal w.0) ws → (i : ℕ) → Has ws i ⊎ (pages i ≡ goal i) → put_on ws pages i ≡ goal i
put_goal [] goal pages are i r = ⊎_elim (λ no_. absurd no_) (λ is. is) r
put_goal (w ∷ ws) goal pages are i r = put_goal ws goal (with_page w pages) are.1 i (⊎_elim
    (λ has. ⊎_elim (λ here_. inr (at (w.0 == i) (λ no_. absurd (of_false no_ here_)) here_)) (λ more. inl more) has)
    (λ is. inr (other (w.0 == i) (eqb-true w.0 i) is)) r)
  where
    of_false : (w.0 == i) ≡ false → w.0 ≡ i → ⊥
    of_false e is = false≢true (sym e ∙ eq-eqb w.0 i is)

    at : (b : Bool) → (b ≡ false → ⊥) → w.0 ≡ i → cond b w.1 (pages i) ≡ goal i
    at true no_ is = are.0 ∙ ap goal is
    at false no_ is = absurd (no_ refl)

    other : (b : Bool) → (b ≡ true → w.0 ≡ i) → pages i ≡ goal i → cond b w.1 (pages i) ≡ goal i
    other true yes_ is = are.0 ∙ ap goal (yes_ refl)
    other false yes_ is = is

pub listed : (f : ℕ → List ℕ) (i : ℕ) (ps : List (List ℕ)) → ((j : ℕ) → j < length ps → f (i + j) ≡ get_or ps j []) → pages_from f i (length ps) ≡ ps
listed f i [] is = refl
listed f i (p ∷ ps) is =
    let e : i ≡ i + 0 = omega arith in
    ap (λ (x : List ℕ). x ∷ pages_from f (suc i) (length ps)) (ap f e ∙ is 0 (omega arith))
    ∙ ap (λ (l : List (List ℕ)). p ∷ l) (listed f (suc i) ps (λ j less. let e : suc i + j ≡ i + suc j = omega arith in ap f e ∙ is (suc j) (omega (arith, less))))

-- The pages from a root on come of others by a batch that has, of each page that isn't the same, what it is then, and no page else.
pub changed_to : (before rest : List (List ℕ)) (homes top : ℕ) (ws : List Numbered) → homes < 2 ^ 32 → homes ≡ 3 + length rest → Each (λ (w : Numbered). w.1 ≡ home (root_page homes top ∷ rest) w.0) ws
    → ((i : ℕ) → 2 ≤ i → i < 3 + length rest → Has ws i ⊎ (home before i ≡ home (root_page homes top ∷ rest) i)) → changed ws before ≡ root_page homes top ∷ rest
changed_to before rest homes top ws small is are each =
    let now : List (List ℕ) = root_page homes top ∷ rest in
    let f : ℕ → List ℕ = put_on ws (home before) in
    let goal : ℕ → List ℕ = home now in
    let root : f 2 ≡ root_page homes top = put_goal ws goal (home before) are 2 (each 2 (omega arith) (omega arith)) in
    let said : homes_in (f 2) ≡ homes = ap homes_in root ∙ root_homes homes top small in
    let count : homes - 2 ≡ suc (length rest) = omega (arith, is) in
    ap (λ (n : ℕ). pages_from f 2 (n - 2)) said
    ∙ pages_same f goal 2 (homes - 2) (λ j low high. put_goal ws goal (home before) are j (each j low (omega (arith, high, is))))
    ∙ ap (λ (n : ℕ). pages_from goal 2 n) count
    ∙ listed goal 2 now (λ j less. let e : (2 + j) - 2 ≡ j = omega arith in ap (λ (n : ℕ). get_or now n []) e)

-- A batch of a root and of such pages may be committed, which has each page that is new.
pub batch_may : (homes after next : ℕ) (ws : List PageWrite) → 3 ≤ homes → homes ≤ after → after ≤ 2 ^ 31 → next < 2 ^ 32 → AreBetween 3 after (images_of ws)
    → ((i : ℕ) → homes ≤ i → i < after → 1 ≤ times i (write_numbers ws)) → MayCommit homes (store_batch after next ws)
batch_may homes after next ws least more small fits between new =
    let said = root_homes after next (omega (arith, small)) in
    let names = root_top after next fits in
    record {
      some = omega arith;
      root = λ is. record { is = ap (λ (h : ℕ). root_page h next) (sym said) ∙ ap (root_page (homes_in (root_page after next))) (sym names); least = omega (arith, said, least, more); most = omega (arith, said, small) };
      below = subst (λ (k : ℕ). AreBetween 2 k (store_batch after next ws)) (omega (arith, said, more)) (omega arith, omega (arith, least, more), length-root after next, between);
      new = λ i low high. inr (has_image ws i (new i low (omega (arith, high, said))));
    }

module _ (top next n : ℕ) (ps : List StorePage) (ws : List PageWrite) where
  abbrev pub grown : List StorePage
  grown = with_free n ps

  abbrev pub after_writes : List StorePage
  after_writes = with_writes ws 3 grown

  images_stand : AreWrites 3 (3 + length grown) ws → Each (λ (w : Numbered). w.1 ≡ home (store_pages next after_writes) w.0) (images_of ws)
  images_stand are = of ws (each_stands ws grown are) 3 are
    where
      of : (vs : List PageWrite) → Each (λ (w : PageWrite). (3 ≤ w.0) × (page_at after_writes w.0 ≡ w.1)) vs → (low : ℕ) → AreWrites low (3 + length grown) vs → Each (λ (w : Numbered). w.1 ≡ home (store_pages next after_writes) w.0) (images_of vs)
      of [] stand low between = tt
      of (v ∷ vs) stand low between = (
        sym (home_there next after_writes v.0 stand.0.0 (omega (arith, between.1, length-writes ws 3 grown)) ∙ ap bytes_of_page stand.0.1),
        of vs stand.1 (suc v.0) between.3,
      )

  -- Each page that is new is written.
  abbrev pub WritesNew : Type 0
  WritesNew = (i : ℕ) → 3 + length ps ≤ i → i < 3 + length grown → 1 ≤ times i (write_numbers ws)

  kept_or : WritesNew → (i : ℕ) → 3 ≤ i → i < 3 + length grown → Has (images_of ws) i ⊎ (home (store_pages top ps) i ≡ home (store_pages next after_writes) i)
  kept_or new i low high = ⊎_elim
      (λ none. inr (⊎_elim
      (λ there. home_there top ps i low there
      ∙ ap bytes_of_page (sym (page_kept ws grown i low (omega (arith, none)) ∙ page_as_free n ps i))
      ∙ sym (home_there next after_writes i low (omega (arith, high, length-writes ws 3 grown))))
      (λ behind. absurd (let s = new i behind high in omega (arith, s, none))) (cases_lt i (3 + length ps))))
      (λ some. inl (has_image ws i some)) (cases_lt (times i (write_numbers ws)) 1)

  -- the pages of the store after the batch
  pub store_written : AreWrites 3 (3 + length grown) ws → WritesNew → 3 + length grown ≤ 2 ^ 31 → changed (store_batch (3 + length grown) next ws) (store_pages top ps) ≡ store_pages next after_writes
  store_written are new small =
      let long : 3 + length after_writes ≡ 3 + length grown = ap (λ (k : ℕ). 3 + k) (length-writes ws 3 grown) in
      let rest = length-map after_writes bytes_of_page in
      ap (λ (h : ℕ). changed (store_batch h next ws) (store_pages top ps)) (sym long)
      ∙ changed_to (store_pages top ps) (map bytes_of_page after_writes) (3 + length after_writes) next (store_batch (3 + length after_writes) next ws) (omega (arith, small, long)) (omega (arith, rest))
      (refl, images_stand are)
      (λ i low high. two_or i (λ is. inl (inl (sym is))) (λ more. ⊎_elim (λ has. inl (inr has)) (λ same. inr same) (kept_or new i more (omega (arith, high, rest, long)))) low)
    where
      two_or : (i : ℕ) {P : Type 0} → (i ≡ 2 → P) → (3 ≤ i → P) → 2 ≤ i → P
      two_or i at more low = ⊎_elim (λ less. at (omega (arith, less, low))) (λ high. more high) (cases_lt i 3)
