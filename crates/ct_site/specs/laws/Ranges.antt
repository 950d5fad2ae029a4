-- Laws of ranges that are the same in two images.
use Rattle.std.proofs.Common.{◌≡◌, ℕ, ◌+◌, ◌-◌, ◌≤◌, ◌<◌, List, ◌++◌, length, take, drop, get_or, refl, sym, ap, ◌∙◌, arith, length-drop, append_assoc}
use Rattle.std.proofs.lemmas.List.{get_or-take, get_or-drop, length-take-le, take_at, drop_at}
use Rattle.std.proofs.lemmas.Grind.{same_number_lists}
use Rattle.ct_site.specs.Images.{written, Torn}
use Rattle.ct_site.specs.Ranges.{SameIn}

pub range_part : (a b from to : ℕ) (old new : List ℕ) → a ≤ from → to ≤ b → SameIn a b old new → SameIn from to old new
range_part a b from to old new le ge same = record { each = λ i least less. same.each i (omega (arith, le, least)) (omega (arith, less, ge)) }

pub range_then : (from to : ℕ) (old mid new : List ℕ) → SameIn from to old mid → SameIn from to mid new → SameIn from to old new
range_then from to old mid new first second = record { each = λ i least less. second.each i least less ∙ first.each i least less }

pub range_itself : (from to : ℕ) (image : List ℕ) → SameIn from to image image
range_itself from to image = record { each = λ i least less. refl }

pub torn_before : (at n from to : ℕ) (old new : List ℕ) → Torn at n old new → to ≤ at → SameIn from to old new
torn_before at n from to old new torn le = record {
  each = λ i least less.
      let within : i < at = omega (arith, less, le) in
      sym (get_or-take at new i 0 within) ∙ ap (λ (l : List ℕ). get_or l i 0) torn.before ∙ get_or-take at old i 0 within;
}

pub torn_after : (at n from to : ℕ) (old new : List ℕ) → Torn at n old new → at + n ≤ from → SameIn from to old new
torn_after at n from to old new torn le = record {
  each = λ i least less.
      let k = i - (at + n) in
      let e : at + n + k ≡ i = omega (arith, least, le) in
      ap (λ (m : ℕ). get_or new m 0) (sym e) ∙ sym (get_or-drop (at + n) new k 0) ∙ ap (λ (l : List ℕ). get_or l k 0) torn.after ∙ get_or-drop (at + n) old k 0 ∙ ap (λ (m : ℕ). get_or old m 0) e;
}

pub piece_same : (n m : ℕ) (old new : List ℕ) → m + n ≤ length old → m + n ≤ length new → SameIn m (m + n) old new → take n (drop m new) ≡ take n (drop m old)
piece_same n m old new long longer same =
    let one : length (take n (drop m new)) ≡ n = length-take-le n (drop m new) (omega (arith, longer, length-drop m new)) in
    let two : length (take n (drop m old)) ≡ n = length-take-le n (drop m old) (omega (arith, long, length-drop m old)) in
    same_number_lists (take n (drop m new)) (take n (drop m old)) (one ∙ sym two)
    (λ k less.
    let within : k < n = omega (arith, less, one) in
    get_or-take n (drop m new) k 0 within ∙ get_or-drop m new k 0 ∙ same.each (m + k) (omega arith) (omega (arith, within))
    ∙ sym (get_or-drop m old k 0) ∙ sym (get_or-take n (drop m old) k 0 within))

-- what was written is there
pub piece_written : (at : ℕ) (bytes image : List ℕ) → at ≤ length image → take (length bytes) (drop at (written at bytes image)) ≡ bytes
piece_written at bytes image within =
    let prefix = length-take-le at image within in
    ap (λ (l : List ℕ). take (length bytes) (drop at l)) (append_assoc (take at image) bytes (drop (at + length bytes) image))
    ∙ ap (λ (l : List ℕ). take (length bytes) l) (drop_at (take at image) (bytes ++ drop (at + length bytes) image) at prefix)
    ∙ take_at bytes (drop (at + length bytes) image) (length bytes) refl
