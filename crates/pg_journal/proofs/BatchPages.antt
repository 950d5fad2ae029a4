-- The numbers and the bytes of a batch, and its pages.
use Rattle.std.specs.Prelude.{min}
use Rattle.std.specs.Bool.{if◌then◌else◌}
use Rattle.std.specs.Ordering.{nat_cmp}
use Rattle.std.specs.List.{insert}
use Rattle.std.specs.List.Sorted.{IsBinarySearchResult}
use Rattle.std.specs.Int.{to_be_bytes, w32}
use Rattle.std.proofs.Common.{◌≡◌, ◌≢◌, ◌⊎◌, inl, inr, ⊎_elim, ℕ, zero, suc, ◌+◌, ◌-◌, ◌*◌, ◌^◌, ◌≤◌, ◌<◌, Bool, true, false, List, [], ◌∷◌, ◌++◌, length, take, drop, get_or, None, Some, Result, Ok, Err, refl, sym, ap, subst, ◌∙◌, arith, append_assoc, length-append, length-drop, take-append-drop, append-nil}
use Rattle.std.proofs.Math.Seq.{take-append-add, drop-append-add}
use Rattle.std.proofs.lemmas.List.{take_at, drop_at, drop-drop, length-take-le}
use Rattle.std.proofs.lemmas.List.Sorted.{searched}
use Rattle.std.proofs.lemmas.Bool.{cases_eq, cases_lt, false≢true}
use Rattle.std.proofs.lemmas.Bool.Decides.{nat_tests}
use Rattle.ct_base.specs.Zeros.{zeros}
use Rattle.ct_base.specs.laws.Zeros.{zeros-add, length-zeros}
use Rattle.ct_site.specs.Images.{written}
use Rattle.ct_site.specs.Pieces.{written_piece}
use Rattle.pg_journal.specs.BatchStates.{BatchState, numbers_in, pages_in, place_in, root_in, image_at, spelled}
use Rattle.pg_journal.specs.Pages.{Numbered, Has, AreBetween, with_more, put_on, with_page, homes_in}
use Rattle.pg_journal.specs.Recovered.{numbers_bytes, filling}
use Rattle.pg_journal.specs.Standing.{homes_with}
use Rattle.pg_journal.proofs.Pages.{put_on_below, with_same, with_other}

-- ---- the lists and the pages

pub length-pages : (ns bytes : List ℕ) → length (pages_in ns bytes) ≡ length ns
length-pages [] bytes = refl
length-pages (n ∷ ns) bytes = ap suc (length-pages ns (drop 4096 bytes))

pub numbers_of_pages : (ns bytes : List ℕ) → numbers_in (pages_in ns bytes) ≡ ns
numbers_of_pages [] bytes = refl
numbers_of_pages (n ∷ ns) bytes = ap (λ (l : List ℕ). n ∷ l) (numbers_of_pages ns (drop 4096 bytes))

nothing : (bytes : List ℕ) → length bytes ≡ 0 → bytes ≡ []
nothing [] none = refl
nothing (b ∷ bytes) none = absurd (omega (arith, none))

-- the image of one of them, among the bytes of all
pub image_of_pages : (ns bytes : List ℕ) (i : ℕ) → i < length ns → image_at i (pages_in ns bytes) ≡ take 4096 (drop (4096 * i) bytes)
image_of_pages [] bytes i less = absurd (omega (arith, less))
image_of_pages (n ∷ ns) bytes zero less = refl
image_of_pages (n ∷ ns) bytes (suc i) less =
    let e : 4096 + 4096 * i ≡ 4096 * suc i = omega arith in
    image_of_pages ns (drop 4096 bytes) i (omega (arith, less))
    ∙ ap (λ (l : List ℕ). take 4096 l) (drop-drop (4096 * i) 4096 bytes ∙ ap (λ (k : ℕ). drop k bytes) e)

pub numbers_spelled : (ws : List Numbered) → numbers_bytes ws ≡ spelled (numbers_in ws)
numbers_spelled [] = refl
numbers_spelled (w ∷ ws) = ap (λ (l : List ℕ). to_be_bytes w32 w.0 ++ l) (numbers_spelled ws)

pub count_of_numbers : (ws : List Numbered) → length (numbers_in ws) ≡ length ws
count_of_numbers [] = refl
count_of_numbers (w ∷ ws) = ap suc (count_of_numbers ws)

-- ---- numbers that rise

pub rise : (low end : ℕ) (ns bytes : List ℕ) (i j : ℕ) → AreBetween low end (pages_in ns bytes) → i < j → j < length ns → (low ≤ get_or ns i 0) × (get_or ns i 0 < get_or ns j 0)
rise low end [] bytes i j between less within = absurd (omega (arith, within))
rise low end (n ∷ ns) bytes zero zero between less within = absurd (omega (arith, less))
rise low end (n ∷ ns) bytes zero (suc j) between less within = let least = least_of (suc n) end ns (drop 4096 bytes) j between.3 (omega (arith, within)) in (between.0, omega (arith, least))
  where
    least_of : (low end : ℕ) (ns bytes : List ℕ) (j : ℕ) → AreBetween low end (pages_in ns bytes) → j < length ns → low ≤ get_or ns j 0
    least_of low end [] bytes j between within = absurd (omega (arith, within))
    least_of low end (n ∷ ns) bytes zero between within = between.0
    least_of low end (n ∷ ns) bytes (suc j) between within = let rest = least_of (suc n) end ns (drop 4096 bytes) j between.3 (omega (arith, within)) in omega (arith, rest, between.0)
rise low end (n ∷ ns) bytes (suc i) zero between less within = absurd (omega (arith, less))
rise low end (n ∷ ns) bytes (suc i) (suc j) between less within = let rest = rise (suc n) end ns (drop 4096 bytes) i j between.3 (omega (arith, less)) (omega (arith, within)) in (omega (arith, rest.0, between.0), rest.1)

rise_or_same : (low end : ℕ) (ns bytes : List ℕ) → AreBetween low end (pages_in ns bytes) → (i j : ℕ) → i ≤ j → j < length ns → get_or ns i 0 ≤ get_or ns j 0
rise_or_same low end ns bytes between i j most within = elim (cases_eq i j) [
  | inl is ↦ let same = ap (λ (k : ℕ). get_or ns k 0) is in omega (arith, same)
  | inr other ↦ let r = rise low end ns bytes i j between (omega (arith, most, other)) within in omega (arith, r.1)
]

-- ---- where a number belongs

place_low : (n : ℕ) (w : Numbered) (ws : List Numbered) → w.0 < n → place_in n (w ∷ ws) ≡ suc (place_in n ws)
place_low n w ws less = grind (arith, nat_tests)

place_high : (n : ℕ) (w : Numbered) (ws : List Numbered) → n ≤ w.0 → place_in n (w ∷ ws) ≡ 0
place_high n w ws less = grind (arith, nat_tests)

place_at : (ns bytes : List ℕ) (n i : ℕ) → i ≤ length ns → ((k : ℕ) → k < i → get_or ns k 0 < n) → ((k : ℕ) → i ≤ k → k < length ns → n ≤ get_or ns k 0) → place_in n (pages_in ns bytes) ≡ i
place_at [] bytes n i within below above = omega (arith, within)
place_at (m ∷ ns) bytes n zero within below above = place_high n (m, take 4096 bytes) (pages_in ns (drop 4096 bytes)) (above 0 (omega arith) (omega arith))
place_at (m ∷ ns) bytes n (suc i) within below above =
    place_low n (m, take 4096 bytes) (pages_in ns (drop 4096 bytes)) (below 0 (omega arith))
    ∙ ap suc (place_at ns (drop 4096 bytes) n i (omega (arith, within)) (λ k less. below (suc k) (omega (arith, less))) (λ k least less. above (suc k) (omega (arith, least)) (omega (arith, less))))

module _ (low end : ℕ) (ns bytes : List ℕ) (n : ℕ) (between : AreBetween low end (pages_in ns bytes)) where
  pub place_found : (i : ℕ) (r : Result ℕ ℕ) → IsBinarySearchResult (λ y. nat_cmp y n) ns r → r ≡ Ok i → i ≡ place_in n (pages_in ns bytes)
  place_found i r is ok =
      let f = searched ns n (Ok i) (subst (IsBinarySearchResult (λ y. nat_cmp y n) ns) ok is) (rise_or_same low end ns bytes between) in
      sym (place_at ns bytes n i (omega (arith, f.0)) (λ k less. let up = rise low end ns bytes k i between less f.0 in omega (arith, up.1, f.1))
      (λ k least less. let up = rise_or_same low end ns bytes between i k least less in omega (arith, up, f.1)))

  pub place_missing : (i : ℕ) (r : Result ℕ ℕ) → IsBinarySearchResult (λ y. nat_cmp y n) ns r → r ≡ Err i → i ≡ place_in n (pages_in ns bytes)
  place_missing i r is err =
      let f = searched ns n (Err i) (subst (IsBinarySearchResult (λ y. nat_cmp y n) ns) err is) (rise_or_same low end ns bytes between) in
      sym (place_at ns bytes n i f.0 f.1 (λ k least less. let up = f.2 k least less in omega (arith, up)))

  has_at : (ns bytes : List ℕ) (i : ℕ) → i < length ns → get_or ns i 0 ≡ n → Has (pages_in ns bytes) n
  has_at [] bytes i less is = absurd (omega (arith, less))
  has_at (m ∷ ns) bytes zero less is = inl is
  has_at (m ∷ ns) bytes (suc i) less is = inr (has_at ns (drop 4096 bytes) i (omega (arith, less)) is)

  not_at : (ns bytes : List ℕ) → ((k : ℕ) → k < length ns → get_or ns k 0 ≢ n) → Has (pages_in ns bytes) n → ⊥
  not_at [] bytes other has = has
  not_at (m ∷ ns) bytes other has = ⊎_elim (other 0 (omega arith)) (not_at ns (drop 4096 bytes) (λ k less. other (suc k) (omega (arith, less)))) has

  pub has_found : (r : Result ℕ ℕ) → IsBinarySearchResult (λ y. nat_cmp y n) ns r → Rattle.std.specs.Result.is_ok r ≡ true → Has (pages_in ns bytes) n
  has_found (Ok i) is ok = let f = searched ns n (Ok i) is (rise_or_same low end ns bytes between) in has_at ns bytes i f.0 f.1
  has_found (Err i) is ok = absurd (false≢true ok)

  pub has_missing : (r : Result ℕ ℕ) → IsBinarySearchResult (λ y. nat_cmp y n) ns r → Rattle.std.specs.Result.is_ok r ≡ false → Has (pages_in ns bytes) n → ⊥
  has_missing (Ok i) is err = absurd (false≢true (sym err))
  has_missing (Err i) is err =
      let f = searched ns n (Err i) is (rise_or_same low end ns bytes between) in
      not_at ns bytes (λ k less same. elim (cases_lt k i) [
        | inl before ↦ let b = f.1 k before in omega (arith, b, same)
        | inr after ↦ let a = f.2 k after less in omega (arith, a, same)
      ])

-- ---- one page more

more_low : (v w : Numbered) (vs : List Numbered) → v.0 < w.0 → with_more w (v ∷ vs) ≡ v ∷ with_more w vs
more_low v w vs less = grind (arith, nat_tests)

more_high : (v w : Numbered) (vs : List Numbered) → w.0 ≤ v.0 → with_more w (v ∷ vs) ≡ w ∷ v ∷ vs
more_high v w vs less = grind (arith, nat_tests)

-- the bytes with a page among them, without the first page
peel : (p r b : List ℕ) (m : ℕ) → length p ≡ 4096 → take (4096 * suc m) (p ++ r) ++ (b ++ drop (4096 * suc m) (p ++ r)) ≡ p ++ (take (4096 * m) r ++ (b ++ drop (4096 * m) r))
peel p r b m long =
    let e : 4096 * suc m ≡ length p + 4096 * m = omega (arith, long) in
    ap (λ (n : ℕ). take n (p ++ r) ++ (b ++ drop n (p ++ r))) e
    ∙ ap (λ (l : List ℕ). l ++ (b ++ drop (length p + 4096 * m) (p ++ r))) (take-append-add p r (4096 * m))
    ∙ ap (λ (l : List ℕ). (p ++ take (4096 * m) r) ++ (b ++ l)) (drop-append-add p r (4096 * m))
    ∙ append_assoc p (take (4096 * m) r) (b ++ drop (4096 * m) r)

pub insert_page : (ns bytes : List ℕ) (n : ℕ) (b : List ℕ) (at : ℕ) → at ≡ place_in n (pages_in ns bytes) → length b ≡ 4096 → length bytes ≡ 4096 * length ns
    → pages_in (insert ns at n) (take (4096 * at) bytes ++ (b ++ drop (4096 * at) bytes)) ≡ with_more (n, b) (pages_in ns bytes)
insert_page [] bytes n b at is long whole =
    let none = nothing bytes whole in
    ap (λ (k : ℕ). pages_in (insert [] k n) (take (4096 * k) bytes ++ (b ++ drop (4096 * k) bytes))) is
    ∙ ap (λ (l : List ℕ). (n, l) ∷ []) (take_at b bytes 4096 long)
insert_page (m ∷ ns) bytes n b at is long whole = elim (cases_lt m n) [
  | inl less ↦
      let first = take 4096 bytes in
      let rest = drop 4096 bytes in
      let i = place_in n (pages_in ns rest) in
      let page_long : length first ≡ 4096 = length-take-le 4096 bytes (omega (arith, whole)) in
      let all : take (4096 * suc i) bytes ++ (b ++ drop (4096 * suc i) bytes) ≡ first ++ (take (4096 * i) rest ++ (b ++ drop (4096 * i) rest)) =
      ap (λ (l : List ℕ). take (4096 * suc i) l ++ (b ++ drop (4096 * suc i) l)) (sym (take-append-drop 4096 bytes)) ∙ peel first rest b i page_long in
      ap (λ (k : ℕ). pages_in (insert (m ∷ ns) k n) (take (4096 * k) bytes ++ (b ++ drop (4096 * k) bytes))) (is ∙ place_low n (m, first) (pages_in ns rest) less)
      ∙ ap (λ (l : List ℕ). pages_in (m ∷ insert ns i n) l) all
      ∙ ap (λ (l : List ℕ). (m, l) ∷ pages_in (insert ns i n) (drop 4096 (first ++ (take (4096 * i) rest ++ (b ++ drop (4096 * i) rest))))) (take_at first (take (4096 * i) rest ++ (b ++ drop (4096 * i) rest)) 4096 page_long)
      ∙ ap (λ (l : List ℕ). (m, first) ∷ pages_in (insert ns i n) l) (drop_at first (take (4096 * i) rest ++ (b ++ drop (4096 * i) rest)) 4096 page_long)
      ∙ ap (λ (l : List Numbered). (m, first) ∷ l) (insert_page ns rest n b i refl long (omega (arith, whole, length-drop 4096 bytes)))
      ∙ sym (more_low (m, first) (n, b) (pages_in ns rest) less)
  | inr more ↦
      ap (λ (k : ℕ). pages_in (insert (m ∷ ns) k n) (take (4096 * k) bytes ++ (b ++ drop (4096 * k) bytes))) (is ∙ place_high n (m, take 4096 bytes) (pages_in ns (drop 4096 bytes)) more)
      ∙ ap (λ (l : List ℕ). (n, l) ∷ pages_in (m ∷ ns) (drop 4096 (b ++ bytes))) (take_at b bytes 4096 long)
      ∙ ap (λ (l : List ℕ). (n, b) ∷ pages_in (m ∷ ns) l) (drop_at b bytes 4096 long)
      ∙ sym (more_high (m, take 4096 bytes) (n, b) (pages_in ns (drop 4096 bytes)) more)
]

pub between_put : (low end : ℕ) (ws : List Numbered) (w : Numbered) → AreBetween low end ws → low ≤ w.0 → suc w.0 ≤ end → length w.1 ≡ 4096 → (Has ws w.0 → ⊥) → AreBetween low end (with_more w ws)
between_put low end [] w between least most long new = (least, most, long, tt)
between_put low end (v ∷ vs) w between least most long new = elim (cases_lt v.0 w.0) [
  | inl less ↦ subst (AreBetween low end) (sym (more_low v w vs less))
      (between.0, between.1, between.2, between_put (suc v.0) end vs w between.3 (omega (arith, less)) most long (λ has. new (inr has)))
  | inr more ↦ subst (AreBetween low end) (sym (more_high v w vs more))
      (least, most, long, (higher v w vs between more new, between.1, between.2, between.3))
]
  where
    higher : (v w : Numbered) (vs : List Numbered) → AreBetween low end (v ∷ vs) → w.0 ≤ v.0 → (Has (v ∷ vs) w.0 → ⊥) → suc w.0 ≤ v.0
    higher v w vs between more new = elim (cases_lt w.0 v.0) [ inl less ↦ less | inr same ↦ absurd (new (inl (omega (arith, more, same)))) ]

-- above all others
pub more_last : (low end : ℕ) (ws : List Numbered) (w : Numbered) → AreBetween low end ws → end ≤ w.0 → with_more w ws ≡ ws ++ w ∷ []
more_last low end [] w between above = refl
more_last low end (v ∷ vs) w between above = more_low v w vs (omega (arith, between.1, above)) ∙ ap (λ (l : List Numbered). v ∷ l) (more_last (suc v.0) end vs w between.3 above)

-- ---- the root

root_other : (n : ℕ) (b : List ℕ) (ws : List Numbered) → n ≢ 2 → root_in ((n, b) ∷ ws) ≡ None
root_other n b ws other = grind (arith, nat_tests)

root_same : (n : ℕ) (b : List ℕ) (ws : List Numbered) → n ≡ 2 → root_in ((n, b) ∷ ws) ≡ Some b
root_same n b ws is = grind (arith, nat_tests)

pub no_root : (ns : List ℕ) (ws : List Numbered) → ns ≡ numbers_in ws → ((0 < length ns) → get_or ns 0 0 ≢ 2) → None ≡ root_in ws
no_root ns [] is other = refl
no_root ns (w ∷ ws) is other =
    let some : 0 < length ns = omega (arith, ap (λ (l : List ℕ). length l) is) in
    sym (root_other w.0 w.1 ws (λ two. other some (ap (λ (l : List ℕ). get_or l 0 0) is ∙ two)))

pub a_root : (ns : List ℕ) (ws : List Numbered) (root : List ℕ) → ns ≡ numbers_in ws → 0 < length ns → get_or ns 0 0 ≡ 2 → root ≡ image_at 0 ws → Some root ≡ root_in ws
a_root ns [] root is some two image_is = absurd (omega (arith, some, ap (λ (l : List ℕ). length l) is))
a_root ns (w ∷ ws) root is some two image_is = ap Some image_is ∙ sym (root_same w.0 w.1 ws (ap (λ (l : List ℕ). get_or l 0 0) (sym is) ∙ two))

pub homes_of_root : (homes : ℕ) (ws : List Numbered) (root : List ℕ) → root_in ws ≡ Some root → homes_in root ≡ homes_with homes ws
homes_of_root homes [] root is = absurd (cc is)
homes_of_root homes (w ∷ ws) root is = of (cases_eq w.0 2)
  where
    some_same : {x y : List ℕ} → Some x ≡ Some y → x ≡ y
    some_same e = cc

    of : (w.0 ≡ 2) ⊎ (w.0 ≢ 2) → homes_in root ≡ homes_with homes (w ∷ ws)
    of (inl two) = let same : w.1 ≡ root = some_same (sym (root_same w.0 w.1 ws two) ∙ is) in ap (λ (l : List ℕ). homes_in l) (sym same) ∙ grind (arith, nat_tests)
    of (inr other) = absurd (cc (root_other w.0 w.1 ws other, is))

pub homes_without : (homes : ℕ) (ws : List Numbered) → root_in ws ≡ None → homes ≡ homes_with homes ws
homes_without homes [] none = refl
homes_without homes (w ∷ ws) none = of (cases_eq w.0 2)
  where
    of : (w.0 ≡ 2) ⊎ (w.0 ≢ 2) → homes ≡ homes_with homes (w ∷ ws)
    of (inl two) = absurd (cc (root_same w.0 w.1 ws two, none))
    of (inr other) = grind (arith, nat_tests)

pub root_put_on : (end : ℕ) (ws : List Numbered) (f : ℕ → List ℕ) (root : List ℕ) → AreBetween 2 end ws → root_in ws ≡ Some root → root ≡ put_on ws f 2
root_put_on end [] f root between is = absurd (cc is)
root_put_on end (w ∷ ws) f root between is = of (cases_eq w.0 2)
  where
    some_same : {x y : List ℕ} → Some x ≡ Some y → x ≡ y
    some_same e = cc

    of : (w.0 ≡ 2) ⊎ (w.0 ≢ 2) → root ≡ put_on (w ∷ ws) f 2
    of (inl two) =
        let same : root ≡ w.1 = some_same (sym is ∙ root_same w.0 w.1 ws two) in
        same ∙ sym (put_on_below (suc w.0) end ws (with_page w f) 2 between.3 (omega (arith, between.0)) ∙ with_same w f 2 two)
    of (inr other) = absurd (cc (root_other w.0 w.1 ws other, is))

pub root_left : (end : ℕ) (ws : List Numbered) (f : ℕ → List ℕ) → AreBetween 2 end ws → root_in ws ≡ None → f 2 ≡ put_on ws f 2
root_left end [] f between none = refl
root_left end (w ∷ ws) f between none = of (cases_eq w.0 2)
  where
    of : (w.0 ≡ 2) ⊎ (w.0 ≢ 2) → f 2 ≡ put_on (w ∷ ws) f 2
    of (inl two) = absurd (cc (root_same w.0 w.1 ws two, none))
    of (inr other) = sym (put_on_below (suc w.0) end ws (with_page w f) 2 between.3 (omega (arith, between.0)) ∙ with_other w f 2 other)

-- ---- a page put into a batch

pub place_within : (n : ℕ) (ns bytes : List ℕ) → place_in n (pages_in ns bytes) ≤ length ns
place_within n [] bytes = omega arith
place_within n (m ∷ ns) bytes = elim (cases_lt m n) [
  | inl less ↦ let rest = place_within n ns (drop 4096 bytes) in omega (arith, rest, place_low n (m, take 4096 bytes) (pages_in ns (drop 4096 bytes)) less)
  | inr more ↦ omega (arith, place_high n (m, take 4096 bytes) (pages_in ns (drop 4096 bytes)) more)
]

pub inserted : (r : Bool) (ins old new : List ℕ) → new ≡ (if r then ins else old) → r ≡ true → new ≡ ins
inserted true ins old new is ok = is
inserted false ins old new is ok = absurd (false≢true ok)

pub record IsPut (ns bytes : List ℕ) (n : ℕ) (b new more : List ℕ) : Type 0 where
  pub pages : pages_in new more ≡ with_more (n, b) (pages_in ns bytes)
  pub long : length more ≡ 4096 * length new
  pub count : length new ≡ suc (length ns)
  pub numbers : AreBetween 2 (2 ^ 32) (pages_in new more)

pub is_put : (ns bytes : List ℕ) (n at : ℕ) (b new more : List ℕ) → at ≡ place_in n (pages_in ns bytes) → new ≡ insert ns at n → more ≡ take (4096 * at) bytes ++ (b ++ drop (4096 * at) bytes) → length b ≡ 4096 → length bytes ≡ 4096 * length ns
    → AreBetween 2 (2 ^ 32) (pages_in ns bytes) → 2 ≤ n → n < 2 ^ 32 → (Has (pages_in ns bytes) n → ⊥) → IsPut ns bytes n b new more
is_put ns bytes n at b new more place first second long whole between least small other =
    let pages : pages_in new more ≡ with_more (n, b) (pages_in ns bytes) = ap (λ (l : List ℕ). pages_in l more) first ∙ ap (λ (l : List ℕ). pages_in (insert ns at n) l) second ∙ insert_page ns bytes n b at place long whole in
    let within : at ≤ length ns = omega (arith, place, place_within n ns bytes) in
    let count : length new ≡ suc (length ns) =
    ap (λ (l : List ℕ). length l) first ∙ length-append (take at ns) (n ∷ drop at ns) ∙ omega (arith, length-take-le at ns within, length-drop at ns, within) in
    let size : length more ≡ length bytes + 4096 =
    ap (λ (l : List ℕ). length l) second ∙ length-append (take (4096 * at) bytes) (b ++ drop (4096 * at) bytes)
    ∙ omega (arith, length-append b (drop (4096 * at) bytes), length-take-le (4096 * at) bytes (omega (arith, whole, within)), length-drop (4096 * at) bytes, long, whole, within) in
    record {
      pages = pages;
      long = omega (arith, count, size, whole);
      count = count;
      numbers = subst (AreBetween 2 (2 ^ 32)) (sym pages) (between_put 2 (2 ^ 32) (pages_in ns bytes) (n, b) between least (omega (arith, small)) long other);
    }

pub seen_place : (ns seen bytes : List ℕ) (n at : ℕ) → seen ≡ ns → AreBetween 2 (2 ^ 32) (pages_in ns bytes) → ((bytes : List ℕ) → AreBetween 2 (2 ^ 32) (pages_in seen bytes) → at ≡ place_in n (pages_in seen bytes)) → at ≡ place_in n (pages_in ns bytes)
seen_place ns seen bytes n at is between place = subst (λ (l : List ℕ). at ≡ place_in n (pages_in l bytes)) is (place bytes (subst (λ (l : List ℕ). AreBetween 2 (2 ^ 32) (pages_in l bytes)) (sym is) between))

pub room_left : (ns bytes : List ℕ) (room : ℕ) (state : BatchState) → record { room = room; pages = pages_in ns bytes } ≡ state → length state.pages < state.room → length ns < room
room_left ns bytes room state is less =
    let pages = ap (λ (b : BatchState). length b.pages) is in
    let rooms = ap (λ (b : BatchState). b.room) is in
    omega (arith, less, pages, rooms, length-pages ns bytes)

-- ---- numbers, spelled a page at a time

pub length-spelled : (ns : List ℕ) → length (spelled ns) ≡ 4 * length ns
length-spelled [] = refl
length-spelled (n ∷ ns) = let rest = length-spelled ns in omega (arith, rest, length-append (to_be_bytes w32 n) (spelled ns))

spelled-append : (ms ns : List ℕ) → spelled (ms ++ ns) ≡ spelled ms ++ spelled ns
spelled-append [] ns = refl
spelled-append (m ∷ ms) ns = ap (λ (l : List ℕ). to_be_bytes w32 m ++ l) (spelled-append ms ns) ∙ sym (append_assoc (to_be_bytes w32 m) (spelled ms) (spelled ns))

-- one number more on a page
pub page_step : (ns bytes b : List ℕ) (i at d : ℕ) → i < length ns → i < 1024 → at ≡ 4 * i → bytes ≡ spelled (take i ns) ++ zeros (4096 - 4 * i) → b ≡ to_be_bytes w32 (get_or ns i d) → written at b bytes ≡ spelled (take (i + 1) ns) ++ zeros (4096 - 4 * (i + 1))
page_step ns bytes b i at d less few place is spelling =
    let left = 4096 - 4 * (i + 1) in
    let all : 4096 - 4 * i ≡ 4 + left = omega (arith, few) in
    let prefix : length (spelled (take i ns)) ≡ at = omega (arith, place, length-spelled (take i ns), length-take-le i ns (omega (arith, less))) in
    let four : length b ≡ 4 = ap (λ (l : List ℕ). length l) spelling in
    ap (λ (l : List ℕ). written at b l) (is ∙ ap (λ (k : ℕ). spelled (take i ns) ++ zeros k) all ∙ ap (λ (l : List ℕ). spelled (take i ns) ++ l) (zeros-add 4 left))
    ∙ written_piece (spelled (take i ns)) (zeros 4) b (zeros left) at prefix four
    ∙ sym (append_assoc (spelled (take i ns)) b (zeros left))
    ∙ ap (λ (l : List ℕ). (spelled (take i ns) ++ l) ++ zeros left) (spelling ∙ sym (append-nil (to_be_bytes w32 (get_or ns i d))))
    ∙ ap (λ (l : List ℕ). l ++ zeros left) (sym (spelled-append (take i ns) (get_or ns i d ∷ [])) ∙ ap spelled (sym (take-more ns i d less)))
  where
    take-more : (ns : List ℕ) (i d : ℕ) → i < length ns → take (i + 1) ns ≡ take i ns ++ get_or ns i d ∷ []
    take-more [] i d less = absurd (omega (arith, less))
    take-more (m ∷ ns) zero d less = refl
    take-more (m ∷ ns) (suc i) d less = let e : suc i + 1 ≡ suc (i + 1) = omega arith in ap (λ (k : ℕ). take k (m ∷ ns)) e ∙ ap (λ (l : List ℕ). m ∷ l) (take-more ns i d (omega (arith, less)))

-- the pages of numbers
abbrev pub number_area : List ℕ → List ℕ
number_area ns = spelled ns ++ zeros (filling (length ns))

pub area_step : (ns : List ℕ) (k : ℕ) → 0 < length ns → k ≡ min (length ns) 1024 → number_area ns ≡ (spelled (take k ns) ++ zeros (4096 - 4 * length (take k ns))) ++ number_area (drop k ns)
area_step ns k some is =
    let count : length (take k ns) ≡ k = length-take-le k ns (omega (arith, is)) in
    let left : length (drop k ns) ≡ length ns - k = length-drop k ns in
    let parts : spelled ns ≡ spelled (take k ns) ++ spelled (drop k ns) = ap spelled (sym (take-append-drop k ns)) ∙ spelled-append (take k ns) (drop k ns) in
    elim (cases_lt 1024 (length ns)) [
      | inl more ↦
          let fill : filling (length ns) ≡ filling (length (drop k ns)) = omega (arith, is, left, more) in
          let none : 4096 - 4 * length (take k ns) ≡ 0 = omega (arith, count, is, more) in
          ap (λ (l : List ℕ). l ++ zeros (filling (length ns))) parts
          ∙ append_assoc (spelled (take k ns)) (spelled (drop k ns)) (zeros (filling (length ns)))
          ∙ ap (λ (n : ℕ). spelled (take k ns) ++ (spelled (drop k ns) ++ zeros n)) fill
          ∙ ap (λ (l : List ℕ). l ++ number_area (drop k ns)) (sym (append-nil (spelled (take k ns))))
          ∙ ap (λ (n : ℕ). (spelled (take k ns) ++ zeros n) ++ number_area (drop k ns)) (sym none)
      | inr few ↦
          let none : drop k ns ≡ [] = nothing (drop k ns) (omega (arith, left, is, few)) in
          let fill : filling (length ns) ≡ 4096 - 4 * length (take k ns) = omega (arith, count, is, few, some) in
          ap (λ (l : List ℕ). l ++ zeros (filling (length ns))) (parts ∙ ap (λ (l : List ℕ). spelled (take k ns) ++ spelled l) none ∙ append-nil (spelled (take k ns)))
          ∙ ap (λ (n : ℕ). spelled (take k ns) ++ zeros n) fill
          ∙ sym (append-nil (spelled (take k ns) ++ zeros (4096 - 4 * length (take k ns))))
          ∙ ap (λ (l : List ℕ). (spelled (take k ns) ++ zeros (4096 - 4 * length (take k ns))) ++ number_area l) (sym none)
    ]

-- the numbers that are left, a page of them first
module _ (ns : List ℕ) (done end : ℕ) (bytes : List ℕ) (less : done < length ns) (is : end ≡ min (length ns) (done + 1024)) (page_is : bytes ≡ spelled (take (end - done) (drop done ns)) ++ zeros (4096 - 4 * length (take (end - done) (drop done ns)))) where
  count_there : length (take (end - done) (drop done ns)) ≡ end - done
  count_there = length-take-le (end - done) (drop done ns) (omega (arith, is, length-drop done ns))

  pub area_rest : number_area (drop done ns) ≡ bytes ++ number_area (drop end ns)
  area_rest =
      let e : done + (end - done) ≡ end = omega (arith, is, less) in
      area_step (drop done ns) (end - done) (omega (arith, less, length-drop done ns)) (omega (arith, is, less, length-drop done ns))
      ∙ ap (λ (l : List ℕ). l ++ number_area (drop (end - done) (drop done ns))) (sym page_is)
      ∙ ap (λ (l : List ℕ). bytes ++ number_area l) (drop-drop (end - done) done ns ∙ ap (λ (n : ℕ). drop n ns) e)

  pub length-number_page : length bytes ≡ 4096
  length-number_page =
      ap (λ (l : List ℕ). length l) page_is ∙ length-append (spelled (take (end - done) (drop done ns))) (zeros (4096 - 4 * length (take (end - done) (drop done ns))))
      ∙ omega (arith, length-spelled (take (end - done) (drop done ns)), length-zeros (4096 - 4 * length (take (end - done) (drop done ns))), count_there, is, less)
