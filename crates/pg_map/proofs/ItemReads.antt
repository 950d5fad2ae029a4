-- The entry that a string spells.
use Rattle.std.proofs.Common.{◌≡◌, ◌≢◌, ℕ, zero, suc, ◌+◌, ◌*◌, ◌-◌, ◌^◌, ◌<◌, ◌≤◌, List, [], ◌∷◌, ◌++◌, length, take, drop, get_or, refl, sym, ap, subst, ◌∙◌, arith, length-append, length-drop, take-append-drop, drop-drop}
use Rattle.std.proofs.lemmas.List.{take_all, drop_at, get_or-drop, length-take-le}
use Rattle.std.proofs.lemmas.Nat.{be_bytes_2, be_bytes_4, from_be_bytes-to_be_bytes_4}
use Rattle.std.specs.Int.{to_be_bytes, w16, w32}
use Rattle.pg_page.specs.Pages.{number_at}
use Rattle.pg_journal.specs.Pages.{number_in}
use Rattle.pg_map.specs.Kinds.{StringItem, Short, Far, item_bytes, IsStringItem}
use Rattle.pg_map.specs.laws.MapReading.{key_at}

pub record AreBytes (s : List ℕ) : Type 0 where
  pub are : (i : ℕ) → get_or s i 0 < 256

bytes-drop : (n : ℕ) (s : List ℕ) → AreBytes s → AreBytes (drop n s)
bytes-drop n s b = record { are = λ i. subst (λ (x : ℕ). x < 256) (sym (get_or-drop n s i 0)) (b.are (n + i)) }

bytes-take : (n : ℕ) (s : List ℕ) → AreBytes s → (i : ℕ) → get_or (take n s) i 0 < 256
bytes-take zero s b i = omega arith
bytes-take (suc n) [] b i = omega arith
bytes-take (suc n) (x ∷ s) b zero = b.are 0
bytes-take (suc n) (x ∷ s) b (suc i) = bytes-take n s (record { are = λ j. b.are (suc j) }) i

-- the number of four bytes spells them
number_spells : (n : ℕ) (s : List ℕ) → AreBytes s → 4 ≤ length s → n ≡ number_in s 0 → to_be_bytes w32 n ≡ take 4 s
number_spells n s b long is = be_bytes_4 (take 4 s) n (length-take-le 4 s long) (bytes-take 4 s b) is

pub key_spells : (s : List ℕ) (n : ℕ) → AreBytes s → 3 + n ≤ length s → n ≡ number_at s 1 → get_or s 0 0 ∷ (to_be_bytes w16 n ++ (take n (drop 3 s) ++ drop n (drop 3 s))) ≡ s
key_spells [] n b within is = absurd (omega (arith, within))
key_spells (x ∷ []) n b within is = absurd (omega (arith, within))
key_spells (x ∷ y ∷ []) n b within is = absurd (omega (arith, within))
key_spells (x ∷ y ∷ z ∷ s) n b within is =
    let e : to_be_bytes w16 n ≡ y ∷ z ∷ [] = be_bytes_2 (y ∷ z ∷ []) n refl (bytes-take 2 (y ∷ z ∷ s) (record { are = λ i. b.are (suc i) })) is in
    ap (λ (l : List ℕ). x ∷ (l ++ (take n s ++ drop n s))) e ∙ ap (λ (l : List ℕ). x ∷ y ∷ z ∷ l) (take-append-drop n s)

key_long : (s : List ℕ) (n : ℕ) → 3 + n ≤ length s → length (take n (drop 3 s)) ≡ n
key_long s n within = length-take-le n (drop 3 s) (let e = length-drop 3 s in omega (arith, e, within))

-- ---- an entry whose value stands behind its key

pub short_item : (s key value : List ℕ) (n : ℕ) → AreBytes s → get_or s 0 0 ≡ 0 → n ≡ number_at s 1 → n < 2 ^ 16 → 3 + n ≤ length s → length s ≤ 4084 → key ≡ take n (drop 3 s) → value ≡ drop (3 + n) s
    → IsStringItem (Short key value) × (item_bytes (Short key value) ≡ s)
short_item s key value n b form is small within most key_is value_is =
    let long : length key ≡ n = ap (λ (l : List ℕ). length l) key_is ∙ key_long s n within in
    let rest : value ≡ drop n (drop 3 s) = value_is ∙ sym (drop-drop n 3 s) in
    let count : length value ≡ length s - (3 + n) = ap (λ (l : List ℕ). length l) value_is ∙ length-drop (3 + n) s in (
      (omega (arith, long, small), omega (arith, long, count, within, most)),
      ap (λ (a : ℕ). a ∷ (to_be_bytes w16 (length key) ++ (key ++ value))) (sym form) ∙ ap (λ (a : ℕ). get_or s 0 0 ∷ (to_be_bytes w16 a ++ (key ++ value))) long
          ∙ ap (λ (l : List ℕ). get_or s 0 0 ∷ (to_be_bytes w16 n ++ (l ++ value))) key_is ∙ ap (λ (l : List ℕ). get_or s 0 0 ∷ (to_be_bytes w16 n ++ (take n (drop 3 s) ++ l))) rest
          ∙ key_spells s n b within is,
    )

form_of : List ℕ → ℕ
form_of s = get_or s 0 0

pub short_none : (s : List ℕ) → get_or s 0 0 ≡ 0 → 4084 < length s → (item : StringItem) → IsStringItem item → item_bytes item ≡ s → ⊥
unfolding form_of
short_none s form many (Short key value) good is =
    let e = ap (λ (l : List ℕ). length l) is in
    let most = good.1 in
    omega (arith, e, many, most, length-append key value)
short_none s form many (Far key count first) good is = let e : 1 ≡ form_of s = ap form_of is in omega (arith, e, form)

-- ---- an entry whose value stands on long pages

pub far_item : (s key : List ℕ) (n count first : ℕ) → AreBytes s → get_or s 0 0 ≡ 1 → n ≡ number_at s 1 → n < 2 ^ 16 → length s ≡ 3 + n + 8 → count ≡ number_in s (3 + n) → first ≡ number_in s (7 + n) → count < 2 ^ 32 → first < 2 ^ 32
    → 4084 < 3 + n + count → key ≡ take n (drop 3 s) → IsStringItem (Far key count first) × (item_bytes (Far key count first) ≡ s)
far_item s key n count first b form is small long count_is first_is few less more key_is =
    let within : 3 + n ≤ length s = omega (arith, long) in
    let key_n : length key ≡ n = ap (λ (l : List ℕ). length l) key_is ∙ key_long s n within in
    let q : List ℕ = drop (3 + n) s in
    let eight : length q ≡ 8 = length-drop (3 + n) s ∙ omega (arith, long) in
    let one : to_be_bytes w32 count ≡ take 4 q = number_spells count q (bytes-drop (3 + n) s b) (omega (arith, eight)) count_is in
    let e : 3 + n + 4 ≡ 7 + n = omega arith in
    let behind : drop 4 q ≡ drop (7 + n) s = drop-drop 4 (3 + n) s ∙ ap (λ (k : ℕ). drop k s) e in
    let four : length (drop 4 q) ≡ 4 = length-drop 4 q ∙ omega (arith, eight) in
    let two : to_be_bytes w32 first ≡ drop 4 q =
    number_spells first (drop 4 q) (bytes-drop 4 q (bytes-drop (3 + n) s b)) (omega (arith, four)) (first_is ∙ ap (λ (l : List ℕ). number_in l 0) (sym behind)) ∙ all_four (drop 4 q) four in
    let rest : to_be_bytes w32 count ++ to_be_bytes w32 first ≡ drop n (drop 3 s) =
    ap (λ (l : List ℕ). l ++ to_be_bytes w32 first) one ∙ ap (λ (l : List ℕ). take 4 q ++ l) two ∙ take-append-drop 4 q ∙ sym (drop-drop n 3 s) in (
      (omega (arith, key_n, small), few, less, omega (arith, key_n, more)),
      ap (λ (a : ℕ). a ∷ (to_be_bytes w16 (length key) ++ (key ++ (to_be_bytes w32 count ++ to_be_bytes w32 first)))) (sym form)
          ∙ ap (λ (a : ℕ). get_or s 0 0 ∷ (to_be_bytes w16 a ++ (key ++ (to_be_bytes w32 count ++ to_be_bytes w32 first)))) key_n
          ∙ ap (λ (l : List ℕ). get_or s 0 0 ∷ (to_be_bytes w16 n ++ (l ++ (to_be_bytes w32 count ++ to_be_bytes w32 first)))) key_is
          ∙ ap (λ (l : List ℕ). get_or s 0 0 ∷ (to_be_bytes w16 n ++ (take n (drop 3 s) ++ l))) rest ∙ key_spells s n b within is,
    )
  where
    all_four : (l : List ℕ) → length l ≡ 4 → take 4 l ≡ l
    all_four l four = take_all 4 l (omega (arith, four))

-- what an item of this form has as its parts
far_count : (s key : List ℕ) (n count first : ℕ) → IsStringItem (Far key count first) → item_bytes (Far key count first) ≡ s → n ≡ number_at s 1 → (n ≡ length key) × (length s ≡ 3 + n + 8) × (number_in s (3 + n) ≡ count)
far_count s key n count first good is at =
    let tail = to_be_bytes w32 count ++ to_be_bytes w32 first in
    let key_is : n ≡ length key = at ∙ ap (λ (l : List ℕ). number_at l 1) (sym is) ∙ key_at 1 key tail good.0 in
    let long : length s ≡ 3 + n + 8 = ap (λ (l : List ℕ). length l) (sym is) ∙ (let e = length-append key tail in omega (arith, e, key_is)) in (
      key_is,
      long,
      ap (λ (l : List ℕ). number_in l (3 + n)) (sym is) ∙ ap (λ (k : ℕ). number_in (item_bytes (Far key count first)) (3 + k)) key_is
          ∙ ap (λ (l : List ℕ). number_in l 0) (sym (drop-drop (length key) 3 (item_bytes (Far key count first))) ∙ drop_at key tail (length key) refl) ∙ from_be_bytes-to_be_bytes_4 count good.1,
    )

pub far_none : (s : List ℕ) (n : ℕ) → get_or s 0 0 ≡ 1 → n ≡ number_at s 1 → (length s ≡ 3 + n + 8 → 3 + n + number_in s (3 + n) ≤ 4084) → (item : StringItem) → IsStringItem item → item_bytes item ≡ s → ⊥
unfolding form_of
far_none s n form at few (Short key value) good is = let e : 0 ≡ form_of s = ap form_of is in omega (arith, e, form)
far_none s n form at few (Far key count first) good is =
    let p = far_count s key n count first good is at in
    let a = p.0 in
    let b = p.2 in
    let c = few p.1 in
    let more = good.3 in
    omega (arith, a, b, c, more)

-- ---- neither

pub no_form : (s : List ℕ) → get_or s 0 0 ≢ 0 → get_or s 0 0 ≢ 1 → (item : StringItem) → IsStringItem item → item_bytes item ≡ s → ⊥
unfolding form_of
no_form s a b (Short key value) good is = let e : 0 ≡ form_of s = ap form_of is in a (sym e)
no_form s a b (Far key count first) good is = let e : 1 ≡ form_of s = ap form_of is in b (sym e)

-- the key of an item is inside its string
pub no_key : (s : List ℕ) → (3 ≤ length s → length s < 3 + number_at s 1) → (item : StringItem) → IsStringItem item → item_bytes item ≡ s → ⊥
no_key s few (Short key value) good is =
    let long = ap (λ (l : List ℕ). length l) is in
    let key_is : number_at s 1 ≡ length key = ap (λ (l : List ℕ). number_at l 1) (sym is) ∙ key_at 0 key value good.0 in
    let less = few (omega (arith, long, length-append key value)) in
    omega (arith, long, key_is, less, length-append key value)
no_key s few (Far key count first) good is =
    let tail = to_be_bytes w32 count ++ to_be_bytes w32 first in
    let long = ap (λ (l : List ℕ). length l) is in
    let key_is : number_at s 1 ≡ length key = ap (λ (l : List ℕ). number_at l 1) (sym is) ∙ key_at 1 key tail good.0 in
    let less = few (omega (arith, long, length-append key tail)) in
    omega (arith, long, key_is, less, length-append key tail)

-- the number of the second and the third byte
pub number_here : (s : List ℕ) (n : ℕ) → 3 ≤ length s → n ≡ get_or s 1 0 * 256 + get_or s 2 0 → n ≡ number_at s 1
number_here [] n long is = absurd (omega (arith, long))
number_here (x ∷ []) n long is = absurd (omega (arith, long))
number_here (x ∷ y ∷ []) n long is = absurd (omega (arith, long))
number_here (x ∷ y ∷ z ∷ s) n long is = is

pub number_small : (s : List ℕ) (n : ℕ) → AreBytes s → 3 ≤ length s → n ≡ number_at s 1 → n < 2 ^ 16
number_small [] n b long is = absurd (omega (arith, long))
number_small (x ∷ []) n b long is = absurd (omega (arith, long))
number_small (x ∷ y ∷ []) n b long is = absurd (omega (arith, long))
number_small (x ∷ y ∷ z ∷ s) n b long is = let p = b.are 1 in let q = b.are 2 in let e : n ≡ y * 256 + z = is in omega (arith, e, p, q)

-- ranges of the string, as slices of it
pub key_part : (s key : List ℕ) (n : ℕ) → key ≡ take (3 + n - 3) (drop 3 s) → key ≡ take n (drop 3 s)
key_part s key n is = let e : 3 + n - 3 ≡ n = omega arith in is ∙ ap (λ (k : ℕ). take k (drop 3 s)) e

pub value_part : (s value : List ℕ) (n : ℕ) → value ≡ take (length s - n) (drop n s) → value ≡ drop n s
value_part s value n is = is ∙ take_all (length s - n) (drop n s) (let e = length-drop n s in omega (arith, e))
