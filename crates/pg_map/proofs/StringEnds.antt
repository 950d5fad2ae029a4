-- The numbers at the end of a string whose value stands on long pages.
use Rattle.std.proofs.Common.{◌≡◌, ℕ, ◌+◌, ◌-◌, List, ◌∷◌, ◌++◌, length, get_or, drop, refl, sym, ap, ◌∙◌, append_assoc, length-append, arith}
use Rattle.std.proofs.lemmas.List.{drop_at}
use Rattle.std.proofs.lemmas.Nat.{from_be_bytes-to_be_bytes_4}
use Rattle.std.specs.Int.{to_be_bytes, w16, w32}
use Rattle.pg_journal.specs.Pages.{number_in}
use Rattle.pg_map.specs.Kinds.{StringItem, Short, Far, item_bytes, IsStringItem, page_of, count_of}

pub far_numbers : (s : List ℕ) (item : StringItem) → IsStringItem item → s ≡ item_bytes item → (get_or s 0 0 ≡ 0 → ⊥) → (number_in s (length s - 4) ≡ page_of item) × (number_in s (length s - 8) ≡ count_of item)
far_numbers s (Short key value) good is far = absurd (far (ap (λ (l : List ℕ). get_or l 0 0) is))
far_numbers s (Far key count first) good is far =
    let head : List ℕ = 1 ∷ (to_be_bytes w16 (length key) ++ key) in
    let whole : item_bytes (Far key count first) ≡ head ++ (to_be_bytes w32 count ++ to_be_bytes w32 first) = refl in
    let long : length s ≡ length head + 8 = ap (λ (l : List ℕ). length l) (is ∙ whole) ∙ length-append head (to_be_bytes w32 count ++ to_be_bytes w32 first) in
    let back : drop (length s - 8) s ≡ to_be_bytes w32 count ++ to_be_bytes w32 first =
    ap (λ (n : ℕ). drop n s) (less8 (length s) (length head) long) ∙ ap (drop (length head)) (is ∙ whole) ∙ drop_at head (to_be_bytes w32 count ++ to_be_bytes w32 first) (length head) refl in
    let last : drop (length s - 4) s ≡ to_be_bytes w32 first =
    ap (λ (n : ℕ). drop n s) (less4 (length s) (length head) long) ∙ ap (drop (length head + 4)) (is ∙ whole ∙ sym (append_assoc head (to_be_bytes w32 count) (to_be_bytes w32 first)))
    ∙ drop_at (head ++ to_be_bytes w32 count) (to_be_bytes w32 first) (length head + 4) (length-append head (to_be_bytes w32 count)) in (
      ap (λ (l : List ℕ). number_in l 0) last ∙ from_be_bytes-to_be_bytes_4 first good.2,
      ap (λ (l : List ℕ). number_in l 0) back ∙ from_be_bytes-to_be_bytes_4 count good.1,
    )
  where
    less8 : (n h : ℕ) → n ≡ h + 8 → n - 8 ≡ h
    less8 n h e = omega (arith, e)

    less4 : (n h : ℕ) → n ≡ h + 8 → n - 4 ≡ h + 4
    less4 n h e = omega (arith, e)
