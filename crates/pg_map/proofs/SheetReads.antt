-- The page of some bytes.
use Rattle.std.specs.Prelude.{true, not, nat_eq}
use Rattle.std.specs.Cmp.Lexicographic.{pointwise}
use Rattle.std.proofs.Common.{◌≡◌, ◌≢◌, ℕ, ◌+◌, ◌*◌, ◌-◌, ◌^◌, ◌<◌, ◌≤◌, List, length, take, drop, get_or, Option, Some, None, refl, sym, ap, ◌∙◌, arith}
use Rattle.std.proofs.lemmas.List.{take_at}
use Rattle.std.proofs.lemmas.Bool.{false≢true}
use Rattle.std.proofs.lemmas.Nat.{from_be_bytes-to_be_bytes_2, from_be_bytes-to_be_bytes_4}
use Rattle.ct_base.specs.Zeros.{zeros}
use Rattle.pg_page.specs.Pages.{page_bytes}
use Rattle.pg_map.specs.Kinds.{Kind, Free, Slotted, Long, bytes_of_kind, IsKind}
use Rattle.pg_map.specs.SheetReading.{IsSheetOr, IsFreeOr, IsSlottedOr, IsLongOr}
use Rattle.ct_base.specs.laws.Lists.{same_as_itself}

pub free_bytes : bytes_of_kind Free ≡ zeros 4096
unfolding bytes_of_kind
free_bytes = refl

-- ---- the first byte tells which kind it is

tag_of : Kind → ℕ
tag_of Free = 0
tag_of (Slotted ss) = 1
tag_of (Long next used) = 2

tag_first : (k : Kind) → get_or (bytes_of_kind k) 0 0 ≡ tag_of k
unfolding bytes_of_kind tag_of
tag_first Free = refl
tag_first (Slotted ss) = refl
tag_first (Long next used) = refl

tag_is : (k : Kind) (bytes : List ℕ) (n : ℕ) → bytes_of_kind k ≡ bytes → n ≡ get_or bytes 0 0 → n ≡ tag_of k
tag_is k bytes n is first = first ∙ ap (λ (l : List ℕ). get_or l 0 0) (sym is) ∙ tag_first k

pub free_or : (o : Option Kind) (bytes : List ℕ) (n : ℕ) → n ≡ get_or bytes 0 0 → n ≡ 0 → IsFreeOr o bytes → IsSheetOr o bytes
unfolding tag_of
free_or (Some k) bytes n first is found = found
free_or None bytes n first is found = λ kind good same. of kind same (tag_is kind bytes n same first)
  where
    of : (kind : Kind) → bytes_of_kind kind ≡ bytes → n ≡ tag_of kind → ⊥
    of Free same e = found same
    of (Slotted ss) same e = omega (arith, e, is)
    of (Long next used) same e = omega (arith, e, is)

pub slotted_or : (o : Option Kind) (bytes : List ℕ) (n : ℕ) → n ≡ get_or bytes 0 0 → n ≡ 1 → IsSlottedOr o bytes → IsSheetOr o bytes
unfolding tag_of
slotted_or (Some k) bytes n first is found = found
slotted_or None bytes n first is found = λ kind good same. of kind good same (tag_is kind bytes n same first)
  where
    of : (kind : Kind) → IsKind kind → bytes_of_kind kind ≡ bytes → n ≡ tag_of kind → ⊥
    of Free good same e = omega (arith, e, is)
    of (Slotted ss) good same e = found ss good same
    of (Long next used) good same e = omega (arith, e, is)

pub long_or : (o : Option Kind) (bytes : List ℕ) (n : ℕ) → n ≡ get_or bytes 0 0 → n ≡ 2 → IsLongOr o bytes → IsSheetOr o bytes
unfolding tag_of
long_or (Some k) bytes n first is found = found
long_or None bytes n first is found = λ kind good same. of kind good same (tag_is kind bytes n same first)
  where
    of : (kind : Kind) → IsKind kind → bytes_of_kind kind ≡ bytes → n ≡ tag_of kind → ⊥
    of Free good same e = omega (arith, e, is)
    of (Slotted ss) good same e = omega (arith, e, is)
    of (Long next used) good same e = found next used good same

pub other_first : (bytes : List ℕ) (n : ℕ) → n ≡ get_or bytes 0 0 → n ≢ 0 → n ≢ 1 → n ≢ 2 → (kind : Kind) → IsKind kind → bytes_of_kind kind ≡ bytes → ⊥
unfolding tag_of
other_first bytes n first a b c Free good same = a (tag_is Free bytes n same first)
other_first bytes n first a b c (Slotted ss) good same = b (tag_is (Slotted ss) bytes n same first)
other_first bytes n first a b c (Long next used) good same = c (tag_is (Long next used) bytes n same first)

-- ---- a slotted page

pub page_is : (ss : List (List ℕ)) → bytes_of_kind (Slotted ss) ≡ page_bytes ss
unfolding bytes_of_kind
page_is ss = refl

-- ---- a long page

pub next_read : (next : ℕ) (used bytes : List ℕ) (r : ℕ) → next < 2 ^ 32 → bytes_of_kind (Long next used) ≡ bytes
    → r ≡ get_or bytes 1 0 * 16777216 + get_or bytes 2 0 * 65536 + get_or bytes 3 0 * 256 + get_or bytes 4 0 → r ≡ next
unfolding bytes_of_kind
next_read next used bytes r small is read =
    read ∙ ap (λ (l : List ℕ). get_or l 1 0 * 16777216 + get_or l 2 0 * 65536 + get_or l 3 0 * 256 + get_or l 4 0) (sym is) ∙ from_be_bytes-to_be_bytes_4 next small

pub count_read : (next : ℕ) (used bytes : List ℕ) (r : ℕ) → length used ≤ 4088 → bytes_of_kind (Long next used) ≡ bytes → r ≡ get_or bytes 5 0 * 256 + get_or bytes 6 0 → r ≡ length used
unfolding bytes_of_kind
count_read next used bytes r most is read =
    read ∙ ap (λ (l : List ℕ). get_or l 5 0 * 256 + get_or l 6 0) (sym is) ∙ from_be_bytes-to_be_bytes_2 (length used) (omega (arith, most))

pub used_read : (next : ℕ) (used bytes : List ℕ) → bytes_of_kind (Long next used) ≡ bytes → take (length used) (drop 8 bytes) ≡ used
unfolding bytes_of_kind
used_read next used bytes is =
    ap (λ (l : List ℕ). take (length used) (drop 8 l)) (sym is) ∙ take_at used (zeros (4088 - length used)) (length used) refl

-- the bytes of the page that was found are others, so they are those of no long page
pub long_differs : (bytes found : List ℕ) (n count next : ℕ) (used : List ℕ) → true ≡ not (pointwise nat_eq bytes found) → found ≡ bytes_of_kind (Long n (take count (drop 8 bytes))) → n ≡ next → count ≡ length used → bytes_of_kind (Long next used) ≡ bytes → ⊥
long_differs bytes found n count next used other is next_is count_is same =
    let part : take count (drop 8 bytes) ≡ used = ap (λ (k : ℕ). take k (drop 8 bytes)) count_is ∙ used_read next used bytes same in
    let all : found ≡ bytes = is ∙ ap (λ (k : ℕ). bytes_of_kind (Long k (take count (drop 8 bytes)))) next_is ∙ ap (λ (l : List ℕ). bytes_of_kind (Long next l)) part ∙ same in
    false≢true (sym (other ∙ ap (λ (l : List ℕ). not (pointwise nat_eq bytes l)) all ∙ ap not (same_as_itself bytes)))
