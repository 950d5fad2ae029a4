-- Batches as they stand in an image.
use Rattle.std.proofs.Common.{◌≡◌, ℕ, zero, suc, ◌+◌, ◌*◌, ◌^◌, ◌≤◌, ◌<◌, List, [], ◌∷◌, ◌++◌, length, take, drop, get_or, refl, sym, ap, ◌∙◌, arith, append_assoc, length-append, take-append-drop, drop-drop}
use Rattle.std.proofs.lemmas.List.{take_at, drop_at, length-replicate}
use Rattle.std.proofs.lemmas.Nat.{from_be_bytes-to_be_bytes_4}
use Rattle.std.specs.Int.{to_be_bytes, from_be_bytes, w32}
use Rattle.ct_site.specs.Ranges.{SameIn}
use Rattle.pg_journal.specs.Pages.{page, number_in, Numbered, AreBetween}
use Rattle.ct_base.specs.Zeros.{zeros}
use Rattle.pg_journal.specs.Recovered.{batch_page, batch_count, number_pages, filling, table, numbered_at, batch_in, numbers_bytes, images_bytes, batch_bytes}
use Rattle.ct_site.specs.laws.Ranges.{range_part, piece_same}
use Rattle.pg_journal.proofs.PageRanges.{page_same, number_same}

-- ---- tables

pub table_same : (f g : ℕ → Numbered) (i n : ℕ) → ((k : ℕ) → i ≤ k → k < i + n → f k ≡ g k) → table f i n ≡ table g i n
table_same f g i zero same = refl
table_same f g i (suc n) same =
    ap (λ (w : Numbered). w ∷ table f (suc i) n) (same i (omega arith) (omega arith))
    ∙ ap (λ (l : List Numbered). g i ∷ l) (table_same f g (suc i) n (λ k least less. same k (omega (arith, least)) (omega (arith, less))))

pub table_is : (f : ℕ → Numbered) (i : ℕ) (ws : List Numbered) → ((k : ℕ) → k < length ws → f (i + k) ≡ get_or ws k (0, [])) → table f i (length ws) ≡ ws
table_is f i [] same = refl
table_is f i (w ∷ ws) same =
    let e : i ≡ i + 0 = omega arith in
    let first : f i ≡ w = ap f e ∙ same 0 (omega arith) in
    ap (λ (x : Numbered). x ∷ table f (suc i) (length ws)) first
    ∙ ap (λ (l : List Numbered). w ∷ l) (table_is f (suc i) ws (λ k less. let e : suc i + k ≡ i + suc k = omega arith in ap f e ∙ same (suc k) (omega (arith, less))))

pub fits_pages : (n : ℕ) → 4 * n ≤ 4096 * number_pages n
fits_pages n = omega arith

-- ---- the same batch in another image

pub numbered_by : ℕ → ℕ → List ℕ → ℕ → Numbered
numbered_by place count image k = (number_in image (4096 * place + 4 * k), page image (place + number_pages count + k))

pub record SameBatch (x y : List ℕ) : Type 0 where
  pub at : batch_page y ≡ batch_page x
  pub count : batch_count y ≡ batch_count x
  pub is : batch_in y ≡ batch_in x
  pub filling : take (filling (batch_count x)) (drop (4096 * batch_page x + 4 * batch_count x) y) ≡ take (filling (batch_count x)) (drop (4096 * batch_page x + 4 * batch_count x) x)

pub same_batch : (x y : List ℕ) → 8192 ≤ length x → length x ≤ length y → 4096 * (batch_page x + number_pages (batch_count x) + batch_count x) ≤ length x → SameIn 4097 8192 x y → SameIn (4096 * batch_page x) (length x) x y → SameBatch x y
unfolding numbered_by
same_batch x y whole longer inside head tail =
    let at : batch_page y ≡ batch_page x = number_same 4104 x y (omega (arith, whole)) longer (range_part 4097 8192 4104 (4104 + 4) x y (omega arith) (omega arith) head) in
    let count : batch_count y ≡ batch_count x = number_same 4108 x y (omega (arith, whole)) longer (range_part 4097 8192 4108 (4108 + 4) x y (omega arith) (omega arith) head) in
    let fits = fits_pages (batch_count x) in
    record {
      at = at;
      count = count;
      is =
          ap (λ (n : ℕ). table (numbered_at y) 0 n) count
          ∙ table_same (numbered_at y) (numbered_at x) 0 (batch_count x)
          (λ k least less.
          ap (λ (p : ℕ). numbered_by p (batch_count y) y k) at ∙ ap (λ (c : ℕ). numbered_by (batch_page x) c y k) count
          ∙ ap (λ (n : ℕ). (n, page y (batch_page x + number_pages (batch_count x) + k)))
          (number_same (4096 * batch_page x + 4 * k) x y (omega (arith, inside, fits, less)) longer
          (range_part (4096 * batch_page x) (length x) (4096 * batch_page x + 4 * k) (4096 * batch_page x + 4 * k + 4) x y (omega arith) (omega (arith, inside, fits, less)) tail))
          ∙ ap (λ (l : List ℕ). (number_in x (4096 * batch_page x + 4 * k), l))
          (page_same (batch_page x + number_pages (batch_count x) + k) x y (omega (arith, inside, less)) longer
          (range_part (4096 * batch_page x) (length x) (4096 * (batch_page x + number_pages (batch_count x) + k)) (4096 * (batch_page x + number_pages (batch_count x) + k) + 4096) x y (omega arith) (omega (arith, inside, less)) tail)));
      filling = piece_same (filling (batch_count x)) (4096 * batch_page x + 4 * batch_count x) x y (omega (arith, inside, fits)) (omega (arith, inside, fits, longer))
          (range_part (4096 * batch_page x) (length x) (4096 * batch_page x + 4 * batch_count x) (4096 * batch_page x + 4 * batch_count x + filling (batch_count x)) x y (omega arith) (omega (arith, inside, fits)) tail);
    }

-- ---- a batch that was written

number_there : (low end : ℕ) (ws : List Numbered) (k : ℕ) (r : List ℕ) → AreBetween low end ws → end ≤ 2 ^ 32 → k < length ws → from_be_bytes w32 (take 4 (drop (4 * k) (numbers_bytes ws ++ r))) ≡ (get_or ws k (0, [])).0
number_there low end [] k r between small less = absurd (omega (arith, less))
number_there low end (w ∷ ws) zero r between small less = from_be_bytes-to_be_bytes_4 w.0 (omega (arith, between.1, small))
number_there low end (w ∷ ws) (suc k) r between small less =
    let e : 4 * suc k ≡ 4 + 4 * k = omega arith in
    ap (λ (n : ℕ). from_be_bytes w32 (take 4 (drop n (numbers_bytes (w ∷ ws) ++ r)))) e
    ∙ ap (λ (l : List ℕ). from_be_bytes w32 (take 4 l)) (sym (drop-drop (4 * k) 4 (numbers_bytes (w ∷ ws) ++ r)))
    ∙ number_there (suc w.0) end ws k r between.3 small (omega (arith, less))

image_there : (low end : ℕ) (ws : List Numbered) (k : ℕ) (r : List ℕ) → AreBetween low end ws → k < length ws → take 4096 (drop (4096 * k) (images_bytes ws ++ r)) ≡ (get_or ws k (0, [])).1
image_there low end [] k r between less = absurd (omega (arith, less))
image_there low end (w ∷ ws) zero r between less = ap (λ (l : List ℕ). take 4096 l) (append_assoc w.1 (images_bytes ws) r) ∙ take_at w.1 (images_bytes ws ++ r) 4096 between.2
image_there low end (w ∷ ws) (suc k) r between less =
    let e : 4096 * suc k ≡ 4096 + 4096 * k = omega arith in
    ap (λ (n : ℕ). take 4096 (drop n (images_bytes (w ∷ ws) ++ r))) e
    ∙ ap (λ (l : List ℕ). take 4096 l) (sym (drop-drop (4096 * k) 4096 (images_bytes (w ∷ ws) ++ r)))
    ∙ ap (λ (l : List ℕ). take 4096 (drop (4096 * k) l)) (ap (λ (l : List ℕ). drop 4096 l) (append_assoc w.1 (images_bytes ws) r) ∙ drop_at w.1 (images_bytes ws ++ r) 4096 between.2)
    ∙ image_there (suc w.0) end ws k r between.3 (omega (arith, less))

pub length-numbers : (ws : List Numbered) → length (numbers_bytes ws) ≡ 4 * length ws
length-numbers [] = refl
length-numbers (w ∷ ws) = let rest = length-numbers ws in omega (arith, length-append (to_be_bytes w32 w.0) (numbers_bytes ws), rest)

pub length-images : (low end : ℕ) (ws : List Numbered) → AreBetween low end ws → length (images_bytes ws) ≡ 4096 * length ws
length-images low end [] between = refl
length-images low end (w ∷ ws) between = let rest = length-images (suc w.0) end ws between.3 in omega (arith, between.2, length-append w.1 (images_bytes ws), rest)

pub length-batch : (low end : ℕ) (ws : List Numbered) → AreBetween low end ws → length (batch_bytes ws) ≡ 4096 * (number_pages (length ws) + length ws)
length-batch low end ws between =
    let fits = fits_pages (length ws) in
    let zs = length-replicate {A = ℕ} (filling (length ws)) 0 in
    omega (arith, fits, zs, length-append (numbers_bytes ws) (zeros (filling (length ws)) ++ images_bytes ws), length-append (zeros (filling (length ws))) (images_bytes ws), length-numbers ws, length-images low end ws between)

-- the bytes of a batch stand there
module _ (image : List ℕ) (place low end : ℕ) (ws : List Numbered) (between : AreBetween low end ws) (small : end ≤ 2 ^ 32) (there : take (length (batch_bytes ws)) (drop (4096 * place) image) ≡ batch_bytes ws) where
  abbrev rest : List ℕ
  rest = drop (length (batch_bytes ws)) (drop (4096 * place) image)

  all : drop (4096 * place) image ≡ numbers_bytes ws ++ (zeros (filling (length ws)) ++ (images_bytes ws ++ rest))
  all =
      sym (take-append-drop (length (batch_bytes ws)) (drop (4096 * place) image))
      ∙ ap (λ (l : List ℕ). l ++ rest) there
      ∙ append_assoc (numbers_bytes ws) (zeros (filling (length ws)) ++ images_bytes ws) rest
      ∙ ap (λ (l : List ℕ). numbers_bytes ws ++ l) (append_assoc (zeros (filling (length ws))) (images_bytes ws) rest)

  behind_numbers : drop (4096 * place + 4 * length ws) image ≡ zeros (filling (length ws)) ++ (images_bytes ws ++ rest)
  behind_numbers = sym (drop-drop (4 * length ws) (4096 * place) image) ∙ ap (λ (l : List ℕ). drop (4 * length ws) l) all ∙ drop_at (numbers_bytes ws) _ (4 * length ws) (length-numbers ws)

  pub filling_there : take (filling (length ws)) (drop (4096 * place + 4 * length ws) image) ≡ zeros (filling (length ws))
  filling_there = ap (λ (l : List ℕ). take (filling (length ws)) l) behind_numbers ∙ take_at (zeros (filling (length ws))) (images_bytes ws ++ rest) (filling (length ws)) (length-replicate {A = ℕ} (filling (length ws)) 0)

  behind_zeros : drop (4096 * (place + number_pages (length ws))) image ≡ images_bytes ws ++ rest
  behind_zeros =
      let fits = fits_pages (length ws) in
      let e : 4096 * (place + number_pages (length ws)) ≡ 4096 * place + 4 * length ws + filling (length ws) = omega (arith, fits) in
      ap (λ (n : ℕ). drop n image) e ∙ sym (drop-drop (filling (length ws)) (4096 * place + 4 * length ws) image)
      ∙ ap (λ (l : List ℕ). drop (filling (length ws)) l) behind_numbers ∙ drop_at (zeros (filling (length ws))) (images_bytes ws ++ rest) (filling (length ws)) (length-replicate {A = ℕ} (filling (length ws)) 0)

  item_there : (k : ℕ) → k < length ws → numbered_by place (length ws) image k ≡ get_or ws k (0, [])
  unfolding numbered_by
  item_there k less =
      let e : 4096 * (place + number_pages (length ws) + k) ≡ 4096 * (place + number_pages (length ws)) + 4096 * k = omega arith in
      ap (λ (n : ℕ). (n, page image (place + number_pages (length ws) + k)))
      (ap (λ (l : List ℕ). from_be_bytes w32 (take 4 l)) (sym (drop-drop (4 * k) (4096 * place) image)) ∙ ap (λ (l : List ℕ). from_be_bytes w32 (take 4 (drop (4 * k) l))) all
      ∙ number_there low end ws k (zeros (filling (length ws)) ++ (images_bytes ws ++ rest)) between small less)
      ∙ ap (λ (l : List ℕ). ((get_or ws k (0, [])).0, l))
      (ap (λ (n : ℕ). take 4096 (drop n image)) e ∙ ap (λ (l : List ℕ). take 4096 l) (sym (drop-drop (4096 * k) (4096 * (place + number_pages (length ws))) image))
      ∙ ap (λ (l : List ℕ). take 4096 (drop (4096 * k) l)) behind_zeros ∙ image_there low end ws k rest between less)

  pub batch_there : batch_page image ≡ place → batch_count image ≡ length ws → batch_in image ≡ ws
  unfolding numbered_by
  batch_there at count =
      ap (λ (p : ℕ). table (numbered_by p (batch_count image) image) 0 (batch_count image)) at
      ∙ ap (λ (n : ℕ). table (numbered_by place n image) 0 n) count
      ∙ table_is (numbered_by place (length ws) image) 0 ws (λ k less. let e : 0 + k ≡ k = omega arith in ap (numbered_by place (length ws) image) e ∙ item_there k less)
