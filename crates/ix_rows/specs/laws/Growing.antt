-- The rows that grow while the documents of a posting list come are those of its split.
use Rattle.std.specs.Prelude.{ℕ, zero, suc, ◌≡◌, ◌==◌, ◌||◌, ◌+◌, ◌-◌, ◌/◌, ◌≤◌, ◌<◌, nat_le, Bool, true, false, List, [], ◌∷◌, ◌++◌, length, map, refl}
use Rattle.std.specs.Bool.{if◌then◌else◌}
use Rattle.std.proofs.Common.{sym, ap, subst, ◌∙◌, inl, inr, arith, append_assoc, append-nil}
use Rattle.std.proofs.lemmas.Bool.{lt-leb, ne_eqb, cases_lt}
use Rattle.std.proofs.lemmas.List.{length-append}
use Rattle.ct_bytes.specs.Varints.{varint, varint_in}
use Rattle.ct_bytes.specs.laws.Varints.{varint_last, varint_more}
use Rattle.ix_rows.specs.Posts.{Rises}
use Rattle.ix_rows.specs.Taking.{last_number}
use Rattle.ix_rows.specs.Spelling.{row_bytes_limit, first_document, greedy_from, greedy}
use Rattle.ix_rows.specs.Growing.{Growing, nothing_yet, not_begun, growing_row, grown_rows, row_has_room, with_closed_row, with_room, with_last_document, with_grown_document, grown_all}

-- a greater number takes no fewer bytes
varint_in_grows : (more m n : ℕ) → m ≤ n → length (varint_in more m) ≤ length (varint_in more n)
varint_in_grows zero m n up = omega arith
varint_in_grows (suc more) m n up = elim (cases_lt m 128) [
  | inl m_last ↦ elim (cases_lt n 128) [
    | inl n_last ↦ rw (varint_last (suc more) m m_last, varint_last (suc more) n n_last) (omega arith)
    | inr n_more ↦ rw (varint_last (suc more) m m_last, varint_more more n n_more) (omega arith)
  ]
  | inr m_more ↦ rw (varint_more more m m_more, varint_more more n (omega arith)) (let rest = varint_in_grows more (m / 128) (n / 128) (omega arith) in omega (arith, rest))
]

varint_grows : (m n : ℕ) → m ≤ n → length (varint m) ≤ length (varint n)
unfolding varint
varint_grows m n up = varint_in_grows 4 m n up

module _ {D : Type 0} (number : D → ℕ) (places : D → List ℕ) where
  -- the bytes of documents, each as the step from the one before it and its places
  abbrev pub steps_of : ℕ → List D → List ℕ
  steps_of before [] = []
  steps_of before (x ∷ xs) = (varint (number x - before) ++ places x) ++ steps_of (number x) xs

  steps_of-append : (before : ℕ) (xs ys : List D) → steps_of before (xs ++ ys) ≡ steps_of before xs ++ steps_of (last_number number before xs) ys
  steps_of-append before [] ys = refl
  steps_of-append before (x ∷ xs) ys =
      ap (λ (l : List ℕ). (varint (number x - before) ++ places x) ++ l) (steps_of-append (number x) xs ys)
      ∙ sym (append_assoc (varint (number x - before) ++ places x) (steps_of (number x) xs) (steps_of (last_number number (number x) xs) ys))

  steps_of-one : (before : ℕ) (x : D) → steps_of before (x ∷ []) ≡ varint (number x - before) ++ places x
  steps_of-one before x = append-nil (varint (number x - before) ++ places x)

  last-append : (before : ℕ) (xs : List D) (x : D) → last_number number before (xs ++ x ∷ []) ≡ number x
  last-append before [] x = refl
  last-append before (y ∷ ys) x = last-append (number y) ys x

  module _ (bytes_of : List D → List ℕ) (spelt : (row : List D) → bytes_of row ≡ varint (length row) ++ steps_of 0 row) where
    -- a row as it is put: its first document and its bytes
    abbrev pub spelt_row : List D → ℕ × List ℕ
    spelt_row row = (first_document number row, bytes_of row)

    -- what is kept where these rows are full, and this one grows
    abbrev kept : List (List D) → List D → Growing
    kept rows row = record { full = map spelt_row rows; first = first_document number row; last = last_number number 0 row; count = length row; body = steps_of 0 row }

    not_none : (x : D) (xs : List D) → (length (x ∷ xs) == 0) ≡ false
    not_none x xs = ne_eqb (length (x ∷ xs)) 0 (λ e. omega (arith, e))

    full_so : (rows : List (List D)) (x : D) (xs : List D) → (kept rows (x ∷ xs)).full ++ growing_row (kept rows (x ∷ xs)) ∷ [] ≡ map spelt_row (rows ++ (x ∷ xs) ∷ [])
    full_so rows x xs = ap (λ (b : List ℕ). map spelt_row rows ++ (number x, b) ∷ []) (sym (spelt (x ∷ xs))) ∙ sym (map_append rows ((x ∷ xs) ∷ []))
      where
        map_append : (us vs : List (List D)) → map spelt_row (us ++ vs) ≡ map spelt_row us ++ map spelt_row vs
        map_append [] vs = refl
        map_append (u ∷ us) vs = ap (λ (l : List (ℕ × List ℕ)). spelt_row u ∷ l) (map_append us vs)

    rows_so : (rows : List (List D)) (x : D) (xs : List D) → grown_rows (kept rows (x ∷ xs)) ≡ map spelt_row (rows ++ (x ∷ xs) ∷ [])
    rows_so rows x xs = ap (λ (b : Bool). if b then map spelt_row rows else map spelt_row rows ++ growing_row (kept rows (x ∷ xs)) ∷ []) (not_none x xs) ∙ full_so rows x xs

    room_so : (rows : List (List D)) (row : List D) (x : D) → row_has_room (kept rows row) (number x) (places x) ≡ nat_le (length (bytes_of (row ++ x ∷ []))) row_bytes_limit
    room_so rows row x = ap (λ (n : ℕ). nat_le n row_bytes_limit) (sym same)
      where
        body : steps_of 0 (row ++ x ∷ []) ≡ steps_of 0 row ++ (varint (number x - last_number number 0 row) ++ places x)
        body = steps_of-append 0 row (x ∷ []) ∙ ap (λ (l : List ℕ). steps_of 0 row ++ l) (steps_of-one (last_number number 0 row) x)

        same : length (bytes_of (row ++ x ∷ [])) ≡ length (varint (length row + 1)) + length (steps_of 0 row) + length (varint (number x - last_number number 0 row)) + length (places x)
        same =
            let count : length (row ++ x ∷ []) ≡ length row + 1 = omega (arith, length-append row (x ∷ [])) in
            let whole = ap (λ (l : List ℕ). length l) (spelt (row ++ x ∷ []) ∙ ap (λ (n : ℕ). varint n ++ steps_of 0 (row ++ x ∷ [])) count ∙ ap (λ (l : List ℕ). varint (length row + 1) ++ l) body) in
            let parts = length-append (varint (length row + 1)) (steps_of 0 row ++ (varint (number x - last_number number 0 row) ++ places x)) in
            let inner = length-append (steps_of 0 row) (varint (number x - last_number number 0 row) ++ places x) in
            let one = length-append (varint (number x - last_number number 0 row)) (places x) in
            omega (arith, whole, parts, inner, one)

    taken_so : (rows : List (List D)) (y : D) (ys : List D) (x : D) → with_last_document (kept rows (y ∷ ys)) (number x) (places x) ≡ kept rows ((y ∷ ys) ++ x ∷ [])
    taken_so rows y ys x = ap first_or (not_none y ys) ∙ λ j. record {
      full = map spelt_row rows;
      first = number y;
      last = sym (last-append 0 (y ∷ ys) x) j;
      count = count j;
      body = body j;
    }
      where
        first_or : Bool → Growing
        first_or b = record {
          full = map spelt_row rows;
          first = if b then number x else number y;
          last = number x;
          count = length (y ∷ ys) + 1;
          body = steps_of 0 (y ∷ ys) ++ (varint (number x - last_number number 0 (y ∷ ys)) ++ places x);
        }

        count : length (y ∷ ys) + 1 ≡ length ((y ∷ ys) ++ x ∷ [])
        count = omega (arith, length-append (y ∷ ys) (x ∷ []))

        body : steps_of 0 (y ∷ ys) ++ (varint (number x - last_number number 0 (y ∷ ys)) ++ places x) ≡ steps_of 0 ((y ∷ ys) ++ x ∷ [])
        body = sym (steps_of-append 0 (y ∷ ys) (x ∷ []) ∙ ap (λ (l : List ℕ). steps_of 0 (y ∷ ys) ++ l) (steps_of-one (last_number number 0 (y ∷ ys)) x))

    -- the first document of a row
    begun_so : (rows : List (List D)) (x : D) → with_last_document (not_begun (map spelt_row rows)) (number x) (places x) ≡ kept rows (x ∷ [])
    begun_so rows x = ap (λ (b : List ℕ). record { full = map spelt_row rows; first = number x; last = number x; count = 1; body = b }) (sym (steps_of-one 0 x))

    closed_so : (rows : List (List D)) (y : D) (ys : List D) → with_closed_row (kept rows (y ∷ ys)) ≡ not_begun (map spelt_row (rows ++ (y ∷ ys) ∷ []))
    closed_so rows y ys = ap not_begun (full_so rows y ys)

    -- ONE DOCUMENT MORE: it joins the row that grows, or begins the next one
    grown_so : (rows : List (List D)) (y : D) (ys : List D) (x : D) → last_number number 0 (y ∷ ys) < number x
        → with_grown_document (kept rows (y ∷ ys)) (number x) (places x)
        ≡ (if nat_le (length (bytes_of ((y ∷ ys) ++ x ∷ []))) row_bytes_limit then kept rows ((y ∷ ys) ++ x ∷ []) else kept (rows ++ (y ∷ ys) ∷ []) (x ∷ []))
    grown_so rows y ys x up =
        ap (λ (b : Bool). if b then kept rows (y ∷ ys) else with_last_document (with_room (kept rows (y ∷ ys)) (number x) (places x)) (number x) (places x)) (lt-leb (number x) (last_number number 0 (y ∷ ys)) up)
        ∙ ap (λ (b : Bool). with_last_document (if b || row_has_room (kept rows (y ∷ ys)) (number x) (places x) then kept rows (y ∷ ys) else with_closed_row (kept rows (y ∷ ys))) (number x) (places x)) (not_none y ys)
        ∙ ap (λ (b : Bool). with_last_document (if b then kept rows (y ∷ ys) else with_closed_row (kept rows (y ∷ ys))) (number x) (places x)) (room_so rows (y ∷ ys) x)
        ∙ go (nat_le (length (bytes_of ((y ∷ ys) ++ x ∷ []))) row_bytes_limit)
      where
        go : (b : Bool)
            → with_last_document (if b then kept rows (y ∷ ys) else with_closed_row (kept rows (y ∷ ys))) (number x) (places x) ≡ (if b then kept rows ((y ∷ ys) ++ x ∷ []) else kept (rows ++ (y ∷ ys) ∷ []) (x ∷ []))
        go true = taken_so rows y ys x
        go false = ap (λ (g : Growing). with_last_document g (number x) (places x)) (closed_so rows y ys) ∙ begun_so (rows ++ (y ∷ ys) ∷ []) x

    all_so : (rows : List (List D)) (y : D) (ys xs : List D) → Rises number (last_number number 0 (y ∷ ys)) xs
        → grown_rows (grown_all number places (kept rows (y ∷ ys)) xs) ≡ map spelt_row (rows ++ greedy_from number bytes_of (y ∷ ys) xs)
    all_so rows y ys [] up = rows_so rows y ys
    all_so rows y ys (x ∷ xs) up =
        ap (λ (g : Growing). grown_rows (grown_all number places g xs)) (grown_so rows y ys x up.0)
        ∙ go (nat_le (length (bytes_of ((y ∷ ys) ++ x ∷ []))) row_bytes_limit)
        (all_so rows y (ys ++ x ∷ []) xs (subst (λ (n : ℕ). Rises number n xs) (sym (last-append 0 (y ∷ ys) x)) up.2))
        (all_so (rows ++ (y ∷ ys) ∷ []) x [] xs up.2 ∙ ap (map spelt_row) (append_assoc rows ((y ∷ ys) ∷ []) (greedy_from number bytes_of (x ∷ []) xs)))
      where
        go : (b : Bool) → grown_rows (grown_all number places (kept rows ((y ∷ ys) ++ x ∷ [])) xs) ≡ map spelt_row (rows ++ greedy_from number bytes_of ((y ∷ ys) ++ x ∷ []) xs)
            → grown_rows (grown_all number places (kept (rows ++ (y ∷ ys) ∷ []) (x ∷ [])) xs) ≡ map spelt_row (rows ++ (y ∷ ys) ∷ greedy_from number bytes_of (x ∷ []) xs)
            → grown_rows (grown_all number places (if b then kept rows ((y ∷ ys) ++ x ∷ []) else kept (rows ++ (y ∷ ys) ∷ []) (x ∷ [])) xs)
            ≡ map spelt_row (rows ++ (if b then greedy_from number bytes_of ((y ∷ ys) ++ x ∷ []) xs else (y ∷ ys) ∷ greedy_from number bytes_of (x ∷ []) xs))
        go true more here = more
        go false more here = here

    -- OF ALL DOCUMENTS OF A POSTING LIST the rows are those of its split
    pub grown_is_greedy : (xs : List D) → Rises number 0 xs → grown_rows (grown_all number places nothing_yet xs) ≡ map spelt_row (greedy number bytes_of xs)
    grown_is_greedy [] up = refl
    grown_is_greedy (x ∷ xs) up =
        ap (λ (g : Growing). grown_rows (grown_all number places g xs))
        (ap (λ (b : Bool). if b then nothing_yet else with_last_document nothing_yet (number x) (places x)) (lt-leb (number x) 0 up.0) ∙ begun_so [] x)
        ∙ all_so [] x [] xs up.2

    -- ---- one document more takes bytes

    pub grows : (row : List D) (x : D) → length (bytes_of row) ≤ length (bytes_of (row ++ x ∷ []))
    grows row x =
        let count : length (row ++ x ∷ []) ≡ length row + 1 = omega (arith, length-append row (x ∷ [])) in
        let body = steps_of-append 0 row (x ∷ []) in
        let whole = ap (λ (l : List ℕ). length l) (spelt (row ++ x ∷ []) ∙ ap (λ (n : ℕ). varint n ++ steps_of 0 (row ++ x ∷ [])) count ∙ ap (λ (l : List ℕ). varint (length row + 1) ++ l) body) in
        let parts = length-append (varint (length row + 1)) (steps_of 0 row ++ steps_of (last_number number 0 row) (x ∷ [])) in
        let inner = length-append (steps_of 0 row) (steps_of (last_number number 0 row) (x ∷ [])) in
        let before = ap (λ (l : List ℕ). length l) (spelt row) in
        let first = length-append (varint (length row)) (steps_of 0 row) in
        let more = varint_grows (length row) (length row + 1) (omega arith) in
        omega (arith, whole, parts, inner, before, first, more)
