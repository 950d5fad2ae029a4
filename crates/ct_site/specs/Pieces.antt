-- A write over a piece of an image, and what a crash makes of it.
use Rattle.std.proofs.Common.{◌≡◌, ℕ, ◌+◌, ◌-◌, ◌≤◌, List, ◌++◌, length, take, drop, refl, sym, ◌∙◌, ap, arith, append_assoc, length-append, take-append-drop, length-drop}
use Rattle.std.proofs.lemmas.List.{take_at, drop_at, drop-drop, length-take-le}
use Rattle.ct_site.specs.Images.{written, Torn}

-- an image that has a piece b between a and r, after a write of other bytes over the piece
pub written_piece : (a b c r : List ℕ) (at : ℕ) → length a ≡ at → length c ≡ length b → written at c (a ++ (b ++ r)) ≡ a ++ (c ++ r)
written_piece a b c r at is same =
    let prefix : take at (a ++ (b ++ r)) ≡ a = take_at a (b ++ r) at is in
    let back : drop (at + length c) (a ++ (b ++ r)) ≡ r =
    sym (drop-drop (length c) at (a ++ (b ++ r))) ∙ ap (λ (l : List ℕ). drop (length c) l) (drop_at a (b ++ r) at is) ∙ drop_at b r (length c) (sym same) in
    rw (prefix, back) (append_assoc a c r)

-- The piece is any bytes of its length.
pub record IsPiece (a b r new : List ℕ) : Type 0 where
  pub piece : List ℕ
  pub sized : length piece ≡ length b
  pub is : new ≡ a ++ (piece ++ r)

-- a write over the piece that was cut short
pub torn_piece : (a b r new : List ℕ) (at n : ℕ) → length a ≡ at → length b ≡ n → Torn at n (a ++ (b ++ r)) new → IsPiece a b r new
torn_piece a b r new at n is same torn =
    let prefix : take at new ≡ a = torn.before ∙ take_at a (b ++ r) at is in
    let back : drop (at + n) new ≡ r = torn.after ∙ sym (drop-drop n at (a ++ (b ++ r))) ∙ ap (λ (l : List ℕ). drop n l) (drop_at a (b ++ r) at is) ∙ drop_at b r n same in
    let long : at + n ≤ length new = omega (arith, torn.no_shorter, length-append a (b ++ r), length-append b r) in
    record {
      piece = take n (drop at new);
      sized = length-take-le n (drop at new) (omega (arith, length-drop at new)) ∙ sym same;
      is =
          sym (take-append-drop at new) ∙ ap (λ (l : List ℕ). l ++ drop at new) prefix
          ∙ ap (λ (l : List ℕ). a ++ l) (sym (take-append-drop n (drop at new)) ∙ ap (λ (l : List ℕ). take n (drop at new) ++ l) (drop-drop n at new ∙ back));
    }

-- how long the image is after a write
pub length-written : (at : ℕ) (bytes image : List ℕ) → at ≤ length image → length (written at bytes image) ≡ at + (length bytes + (length image - (at + length bytes)))
length-written at bytes image within =
    ap length (append_assoc (take at image) bytes (drop (at + length bytes) image))
    ∙ length-append (take at image) (bytes ++ drop (at + length bytes) image) ∙ ap (λ (n : ℕ). n + length (bytes ++ drop (at + length bytes) image)) (length-take-le at image within)
    ∙ ap (λ (n : ℕ). at + n) (length-append bytes (drop (at + length bytes) image) ∙ ap (λ (n : ℕ). length bytes + n) (length-drop (at + length bytes) image))

-- a write that is whole is one of its outcomes
pub torn_written : (at : ℕ) (bytes image : List ℕ) → at ≤ length image → Torn at (length bytes) image (written at bytes image)
torn_written at bytes image within =
    let prefix : length (take at image) ≡ at = length-take-le at image within in
    let whole : written at bytes image ≡ take at image ++ (bytes ++ drop (at + length bytes) image) = append_assoc (take at image) bytes (drop (at + length bytes) image) in
    let long = length-written at bytes image within in
    record {
      before = ap (λ (l : List ℕ). take at l) whole ∙ take_at (take at image) (bytes ++ drop (at + length bytes) image) at prefix;
      after = ap (λ (l : List ℕ). drop (at + length bytes) l) whole ∙ sym (drop-drop (length bytes) at _)
          ∙ ap (λ (l : List ℕ). drop (length bytes) l) (drop_at (take at image) (bytes ++ drop (at + length bytes) image) at prefix) ∙ drop_at bytes (drop (at + length bytes) image) (length bytes) refl;
      no_shorter = omega (arith, long);
      no_longer = omega (arith, long);
    }

-- and so is one of which nothing was done
pub torn_none : (at n : ℕ) (image : List ℕ) → Torn at n image image
torn_none at n image = record { before = refl; after = refl; no_shorter = omega arith; no_longer = omega arith }
