-- What is gathered document by document is, of each term, the split of its posting list.
use Rattle.std.specs.Prelude.{ℕ, ℤ, ◌≡◌, ◌+◌, ◌||◌, nat_le, Bool, true, false, cond, is_some, List, [], ◌∷◌, ◌++◌, length, map, Option, Some, None, refl}
use Rattle.std.specs.Bool.{if◌then◌else◌}
use Rattle.std.specs.List.{flat_map, cons_option, list_any}
use Rattle.std.specs.Option.{option_map}
use Rattle.std.specs.Ordering.{nat_cmp, is_lt, eq_by_cmp}
use Rattle.std.specs.Cmp.Lexicographic.{slice_cmp}
use Rattle.std.specs.FinMap.{get, entries, keys, find, empty, from_entries, from_sorted, get-empty, get-from_entries, get-from_sorted, entries-from_sorted, is_sorted, same_map, contains_key-keys, slice_cmp-IsAntisymmetric, nat_cmp-IsAntisymmetric}
use Rattle.std.specs.Prelude.{T}
use Rattle.std.proofs.Common.{sym, ap, ◌∙◌, inl, inr, arith}
use Rattle.ct_bytes.specs.Varints.{varint}
use Rattle.std.proofs.lemmas.Bool.{and_parts, and_from, le-leb}
use Rattle.std.proofs.lemmas.Cmp.{nat_list_cmp_total, tied_itself}
use Rattle.ct_base.specs.laws.Bools.{T_from_true}
use Rattle.ct_keep.specs.laws.RisingKeys.{below, rises, entries_rise, sorted_from_rises}
use Rattle.ct_entry.specs.declared.kinds.Kind.{Kind}
use Rattle.ct_entry.specs.Keys.{Key, same_list}
use Rattle.ct_entry.specs.Each.{each, is_any_of, numbered}
use Rattle.ct_entry.specs.Lists.{IsIn, AreApart}
use Rattle.ct_entry.specs.Maps.{Names}
use Rattle.ct_entry.specs.laws.Keys.{list_from_same}
use Rattle.ct_entry.specs.laws.Maps.{names_tie, get_name-insert}
use Rattle.ix_rows.specs.Posts.{Rises}
use Rattle.ix_rows.specs.Spelling.{greedy}
use Rattle.ix_rows.specs.Growing.{Growing, nothing_yet, with_grown_document, grown_all, grown_rows, with_last_document, with_room}
use Rattle.ix_rows.specs.RowMaps.{TermRowsView, or_nothing, growing_at, with_posting, row_changes, row_map_changes}
use Rattle.ix_rows.specs.Gathering.{Having, terms_of, gathered_list, gathered_rows, with_document, with_documents}
use Rattle.ix_rows.specs.laws.Spelling.{put_row, add_changes}
use Rattle.ix_rows.specs.laws.Growing.{steps_of, spelt_row, grown_is_greedy}

-- ---- terms stand once

keys_apart : (Y : Type 0) (es : List (List ℕ × Y)) → rises (slice_cmp nat_cmp) es ≡ true → AreApart (map (λ e. e.0) es)
keys_apart Y [] up = tt
keys_apart Y (e ∷ es) up =
    let b = and_parts (below (slice_cmp nat_cmp) e.0 es) (rises (slice_cmp nat_cmp) es) up in
    (other e.0 es b.0, keys_apart Y es b.1)
  where
    other : (k : List ℕ) (us : List (List ℕ × Y)) → below (slice_cmp nat_cmp) k us ≡ true → IsIn k (map (λ e. e.0) us) → ⊥
    other k [] low h = h
    other k (u ∷ us) low h =
        let b = and_parts (is_lt (slice_cmp nat_cmp k u.0)) (below (slice_cmp nat_cmp) k us) low in
        elim h [
          | inl same ↦
              let here : is_lt (slice_cmp nat_cmp k k) ≡ true = ap (λ (l : List ℕ). is_lt (slice_cmp nat_cmp k l)) same ∙ b.0 in
              let wrong : true ≡ false = sym here ∙ ap is_lt (tied_itself nat_list_cmp_total k) in
              cc
          | inr more ↦ other k us b.1 more
        ]

pub terms_apart : {X : Type 0} (has : Having X) (rows : List ℤ) → AreApart (terms_of has rows)
terms_apart has rows = keys_apart (Unit {0}) (entries (from_entries (map (λ t. (t, tt)) (flat_map (λ r. keys (has r)) rows)))) (entries_rise (slice_cmp nat_cmp) (from_entries (map (λ t. (t, tt)) (flat_map (λ r. keys (has r)) rows))))

-- a document that came doesn't come again
again : (g : Growing) (d : ℕ) (p q : List ℕ) → with_grown_document (with_grown_document g d p) d q ≡ with_grown_document g d p
again g d p q = go (nat_le d g.last) refl
  where
    go : (b : Bool) → nat_le d g.last ≡ b → with_grown_document (if b then g else with_last_document (with_room g d p) d p) d q ≡ (if b then g else with_last_document (with_room g d p) d p)
    go true is = ap (λ (b : Bool). if b then g else with_last_document (with_room g d q) d q) is
    go false is = let made = with_last_document (with_room g d p) d p in ap (λ (b : Bool). if b then made else with_last_document (with_room made d q) d q) (le-leb d d (omega arith))

-- what a term has after a document, by what the document has under it
abbrev after_found : ℕ → Option (List ℕ) → Option Growing → Option Growing
after_found d None o = o
after_found d (Some p) o = Some (with_grown_document (or_nothing o) d p)

abbrev found_in : List ℕ → List (List ℕ × List ℕ) → Option (List ℕ)
found_in t es = find (slice_cmp nat_cmp) t es

pub get-with_document : (t : List ℕ) (d : ℕ) (es : List (List ℕ × List ℕ)) (m : TermRowsView) → get (with_document m d es) t ≡ after_found d (found_in t es) (get m t)
get-with_document t d [] m = refl
get-with_document t d (e ∷ es) m =
    get-with_document t d es (with_posting m e.0 d e.1)
    ∙ ap (after_found d (found_in t es)) (get_name-insert m e.0 (with_grown_document (growing_at m e.0) d e.1) t)
    ∙ go (same_list t e.0) refl
  where
    once : (o : Option (List ℕ)) → after_found d o (Some (with_grown_document (or_nothing (get m t)) d e.1)) ≡ Some (with_grown_document (or_nothing (get m t)) d e.1)
    once None = refl
    once (Some q) = ap Some (again (or_nothing (get m t)) d e.1 q)

    go : (b : Bool) → same_list t e.0 ≡ b
        → after_found d (found_in t es) (cond b (Some (with_grown_document (growing_at m e.0) d e.1)) (get m t)) ≡ after_found d (cond (eq_by_cmp (slice_cmp nat_cmp) t e.0) (Some e.1) (found_in t es)) (get m t)
    go true is =
        let same : e.0 ≡ t = sym (list_from_same t e.0 is) in
        ap (λ (l : List ℕ). after_found d (found_in t es) (Some (with_grown_document (growing_at m l) d e.1))) same
        ∙ once (found_in t es)
        ∙ sym (ap (λ (b : Bool). after_found d (cond b (Some e.1) (found_in t es)) (get m t)) (names_tie t e.0 ∙ is))
    go false is = sym (ap (λ (b : Bool). after_found d (cond b (Some e.1) (found_in t es)) (get m t)) (names_tie t e.0 ∙ is))

module _ {D X : Type 0} (number : D → ℕ) (places : D → List ℕ) (made : ℕ → X → D) (place_bytes : X → List ℕ)
    (made_so : (d : ℕ) (x : X) → number (made d x) ≡ d) (places_so : (d : ℕ) (x : X) → places (made d x) ≡ place_bytes x) where
  -- what a term has after these documents
  abbrev after_all : Option Growing → List D → Option Growing
  after_all o [] = o
  after_all o (x ∷ xs) = after_all (Some (with_grown_document (or_nothing o) (number x) (places x))) xs

  after_some : (g : Growing) (xs : List D) → after_all (Some g) xs ≡ Some (grown_all number places g xs)
  after_some g [] = refl
  after_some g (x ∷ xs) = after_some (with_grown_document g (number x) (places x)) xs

  module _ (bytes_of : List D → List ℕ) (has : Having X) (its : ℤ → List (List ℕ × List ℕ)) (its_so : (r : ℤ) (t : List ℕ) → found_in t (its r) ≡ option_map place_bytes (get (has r) t)) where
    abbrev list_at : List (ℕ × ℤ) → List ℕ → List D
    list_at ps t = gathered_list number bytes_of made has ps t

    get-with_documents : (t : List ℕ) (ps : List (ℕ × ℤ)) (m : TermRowsView) → get (with_documents its m ps) t ≡ after_all (get m t) (list_at ps t)
    get-with_documents t [] m = refl
    get-with_documents t (p ∷ ps) m =
        get-with_documents t ps (with_document m p.0 (its p.1))
        ∙ ap (λ (o : Option Growing). after_all o (list_at ps t)) (get-with_document t p.0 (its p.1) m ∙ ap (λ (o : Option (List ℕ)). after_found p.0 o (get m t)) (its_so p.1 t))
        ∙ go (get (has p.1) t)
      where
        go : (o : Option X) → after_all (after_found p.0 (option_map place_bytes o) (get m t)) (list_at ps t) ≡ after_all (get m t) (cons_option (option_map (made p.0) o) (list_at ps t))
        go None = refl
        go (Some x) = ap (λ (g : Growing). after_all (Some g) (list_at ps t))
            (ap (λ (n : ℕ). with_grown_document (or_nothing (get m t)) n (place_bytes x)) (sym (made_so p.0 x)) ∙ ap (with_grown_document (or_nothing (get m t)) (number (made p.0 x))) (sym (places_so p.0 x)))

    abbrev begun : List D → Option Growing
    begun [] = None
    begun (x ∷ xs) = Some (grown_all number places nothing_yet (x ∷ xs))

    get-gathered : (t : List ℕ) (ps : List (ℕ × ℤ)) → get (with_documents its empty ps) t ≡ begun (list_at ps t)
    get-gathered t ps = get-with_documents t ps empty ∙ ap (λ (o : Option Growing). after_all o (list_at ps t)) (get-empty (slice_cmp nat_cmp) t) ∙ go (list_at ps t)
      where
        go : (xs : List D) → after_all None xs ≡ begun xs
        go [] = refl
        go (x ∷ xs) = after_some (with_grown_document nothing_yet (number x) (places x)) xs

    -- ---- the terms

    abbrev has_any : List ℤ → List ℕ → Bool
    has_any rows t = list_any (λ r. is_some (get (has r) t)) rows

    abbrev unit_of : List ℕ → List ℕ × Unit {0}
    unit_of t = (t, tt)

    find_unit : (t : List ℕ) (ts : List (List ℕ)) → is_some (find (slice_cmp nat_cmp) t (map unit_of ts)) ≡ is_any_of t ts
    find_unit t [] = refl
    find_unit t (u ∷ ts) = ap (λ (b : Bool). is_some (cond b (Some tt) (find (slice_cmp nat_cmp) t (map unit_of ts)))) (names_tie t u) ∙ go (same_list t u) (find_unit t ts)
      where
        go : (b : Bool) → is_some (find (slice_cmp nat_cmp) t (map unit_of ts)) ≡ is_any_of t ts → is_some (cond b (Some tt) (find (slice_cmp nat_cmp) t (map unit_of ts))) ≡ (b || is_any_of t ts)
        go true rest = refl
        go false rest = rest

    any_append : (t : List ℕ) (us vs : List (List ℕ)) → is_any_of t (us ++ vs) ≡ (is_any_of t us || is_any_of t vs)
    any_append t [] vs = refl
    any_append t (u ∷ us) vs = ap (λ (b : Bool). same_list t u || b) (any_append t us vs) ∙ go (same_list t u)
      where
        go : (b : Bool) → (b || (is_any_of t us || is_any_of t vs)) ≡ ((b || is_any_of t us) || is_any_of t vs)
        go true = refl
        go false = refl

    any_key : {Y : Type 0} (t : List ℕ) (m : Names Y) → is_any_of t (keys m) ≡ is_some (get m t)
    any_key t m = ap (λ (test : List ℕ → Bool). list_any test (keys m)) (λ i j. sym (names_tie t j) i) ∙ sym (contains_key-keys m t)

    any_row : (t : List ℕ) (rows : List ℤ) → is_any_of t (flat_map (λ r. keys (has r)) rows) ≡ has_any rows t
    any_row t [] = refl
    any_row t (r ∷ rows) = any_append t (keys (has r)) (flat_map (λ r. keys (has r)) rows) ∙ ap (λ (b : Bool). b || is_any_of t (flat_map (λ r. keys (has r)) rows)) (any_key t (has r)) ∙ ap (λ (b : Bool). is_some (get (has r) t) || b) (any_row t rows)

    pub term_there : (t : List ℕ) (rows : List ℤ) → is_any_of t (terms_of has rows) ≡ has_any rows t
    term_there t rows =
        any_key t (from_entries (map unit_of (flat_map (λ r. keys (has r)) rows)))
        ∙ ap (λ (o : Option (Unit {0})). is_some o) (get-from_entries nat_list_cmp_total (map unit_of (flat_map (λ r. keys (has r)) rows)) t)
        ∙ find_unit t (flat_map (λ r. keys (has r)) rows) ∙ any_row t rows

    -- a term has a posting list exactly where some row has it
    any_list : (t : List ℕ) (d : ℕ) (rows : List ℤ) → is_some (begun (list_at (numbered d rows) t)) ≡ has_any rows t
    any_list t d [] = refl
    any_list t d (r ∷ rows) = go (get (has r) t) (any_list t (d + 1) rows)
      where
        go : (o : Option X) → is_some (begun (list_at (numbered (d + 1) rows) t)) ≡ list_any (λ r. is_some (get (has r) t)) rows
            → is_some (begun (cons_option (option_map (made d) o) (list_at (numbered (d + 1) rows) t))) ≡ (is_some o || list_any (λ r. is_some (get (has r) t)) rows)
        go None rest = rest
        go (Some x) rest = refl

    -- where no row has a term, its posting list is empty
    pub no_list : (t : List ℕ) (d : ℕ) (rows : List ℤ) → is_any_of t (terms_of has rows) ≡ false → list_at (numbered d rows) t ≡ []
    no_list t d rows none = go (list_at (numbered d rows) t) (any_list t d rows ∙ sym (term_there t rows) ∙ none)
      where
        go : (xs : List D) → is_some (begun xs) ≡ false → xs ≡ []
        go [] h = refl
        go (x ∷ xs) h = let wrong : true ≡ false = h in cc

    -- ---- the map as a list

    rises_of : {Y Z : Type 0} (f : List ℕ → Y → Z) (es : List (List ℕ × Y)) → rises (slice_cmp nat_cmp) es ≡ true → rises (slice_cmp nat_cmp) (map {B = List ℕ × Z} (λ e. (e.0, f e.0 e.1)) es) ≡ true
    rises_of f [] up = refl
    rises_of f (e ∷ es) up =
        let b = and_parts (below (slice_cmp nat_cmp) e.0 es) (rises (slice_cmp nat_cmp) es) up in
        and_from _ _ (lower e.0 es b.0) (rises_of f es b.1)
      where
        lower : (k : List ℕ) (us : List (List ℕ × _)) → below (slice_cmp nat_cmp) k us ≡ true → below (slice_cmp nat_cmp) k (map (λ e. (e.0, f e.0 e.1)) us) ≡ true
        lower k [] low = refl
        lower k (u ∷ us) low = let b = and_parts (is_lt (slice_cmp nat_cmp k u.0)) (below (slice_cmp nat_cmp) k us) low in and_from _ _ b.0 (lower k us b.1)

    -- each of some terms with what it has
    abbrev with_each : List (List ℕ) → List (ℕ × ℤ) → List (List ℕ × Growing)
    with_each ts ps = map (λ t. (t, grown_all number places nothing_yet (list_at ps t))) ts

    with_each_rises : (ps : List (ℕ × ℤ)) (m : Names (Unit {0})) → rises (slice_cmp nat_cmp) (with_each (keys m) ps) ≡ true
    with_each_rises ps m = ap (rises (slice_cmp nat_cmp)) (sym (both (entries m))) ∙ rises_of (λ t _. grown_all number places nothing_yet (list_at ps t)) (entries m) (entries_rise (slice_cmp nat_cmp) m)
      where
        both : (es : List (List ℕ × Unit {0})) → map {B = List ℕ × Growing} (λ e. (e.0, grown_all number places nothing_yet (list_at ps e.0))) es ≡ with_each (map (λ e. e.0) es) ps
        both [] = refl
        both (e ∷ es) = ap (λ (l : List (List ℕ × Growing)). (e.0, grown_all number places nothing_yet (list_at ps e.0)) ∷ l) (both es)

    find_each : (t : List ℕ) (ts : List (List ℕ)) (ps : List (ℕ × ℤ))
        → find (slice_cmp nat_cmp) t (with_each ts ps) ≡ cond (is_any_of t ts) (Some (grown_all number places nothing_yet (list_at ps t))) None
    find_each t [] ps = refl
    find_each t (u ∷ ts) ps = ap (λ (b : Bool). cond b (Some (grown_all number places nothing_yet (list_at ps u))) (find (slice_cmp nat_cmp) t (with_each ts ps))) (names_tie t u) ∙ go (same_list t u) refl (find_each t ts ps)
      where
        go : (b : Bool) → same_list t u ≡ b → find (slice_cmp nat_cmp) t (with_each ts ps) ≡ cond (is_any_of t ts) (Some (grown_all number places nothing_yet (list_at ps t))) None
            → cond b (Some (grown_all number places nothing_yet (list_at ps u))) (find (slice_cmp nat_cmp) t (with_each ts ps)) ≡ cond (b || is_any_of t ts) (Some (grown_all number places nothing_yet (list_at ps t))) None
        go true is rest = ap (λ (l : List ℕ). Some (grown_all number places nothing_yet (list_at ps l))) (sym (list_from_same t u is))
        go false is rest = rest

    each_sorted : (d : ℕ) (rows : List ℤ) → T (is_sorted (slice_cmp nat_cmp) (with_each (terms_of has rows) (numbered d rows)))
    each_sorted d rows = T_from_true _ (sorted_from_rises (slice_cmp nat_cmp) (with_each (terms_of has rows) (numbered d rows)) (with_each_rises (numbered d rows) (from_entries (map unit_of (flat_map (λ r. keys (has r)) rows)))))

    gathered_at : (d : ℕ) (rows : List ℤ) (t : List ℕ)
        → get (with_documents its empty (numbered d rows)) t ≡ get (from_sorted {R = slice_cmp nat_cmp} (with_each (terms_of has rows) (numbered d rows))) t
    gathered_at d rows t =
        get-gathered t (numbered d rows)
        ∙ go (list_at (numbered d rows) t) refl (any_list t d rows ∙ sym (term_there t rows))
        ∙ sym (get-from_sorted (slice_cmp nat_cmp) (with_each (terms_of has rows) (numbered d rows)) t (each_sorted d rows) ∙ find_each t (terms_of has rows) (numbered d rows))
      where
        go : (xs : List D) → list_at (numbered d rows) t ≡ xs → is_some (begun xs) ≡ is_any_of t (terms_of has rows)
            → begun xs ≡ cond (is_any_of t (terms_of has rows)) (Some (grown_all number places nothing_yet (list_at (numbered d rows) t))) None
        go [] is there = ap (λ (b : Bool). cond b (Some (grown_all number places nothing_yet (list_at (numbered d rows) t))) None) there
        go (x ∷ xs) is there = ap (λ (l : List D). Some (grown_all number places nothing_yet l)) (sym is) ∙ ap (λ (b : Bool). cond b (Some (grown_all number places nothing_yet (list_at (numbered d rows) t))) None) there

    entries_gathered : (d : ℕ) (rows : List ℤ) → entries (with_documents its empty (numbered d rows)) ≡ with_each (terms_of has rows) (numbered d rows)
    entries_gathered d rows =
        ap entries (same_map nat_list_cmp_total (slice_cmp-IsAntisymmetric nat_cmp-IsAntisymmetric) (with_documents its empty (numbered d rows)) (from_sorted {R = slice_cmp nat_cmp} (with_each (terms_of has rows) (numbered d rows))) (gathered_at d rows))
        ∙ entries-from_sorted (slice_cmp nat_cmp) (with_each (terms_of has rows) (numbered d rows)) (each_sorted d rows)

    -- ---- the changes

    module _ (spelt : (row : List D) → bytes_of row ≡ varint (length row) ++ steps_of number places 0 row) (kind : Kind) (i : List ℕ) where
      put_again : (t : List ℕ) (rows : List (List D)) → row_changes kind i t (map (spelt_row number places bytes_of spelt) rows) ≡ map (put_row number bytes_of kind i t) rows
      put_again t [] = refl
      put_again t (row ∷ rows) = ap (λ (ws : List (Key × Option (List ℕ))). put_row number bytes_of kind i t row ∷ ws) (put_again t rows)

      -- WHAT IS GATHERED document by document is put as the split of each posting list
      pub gathered_changes : (d : ℕ) (rows : List ℤ) → ((t : List ℕ) → Rises number 0 (list_at (numbered d rows) t))
          → row_map_changes kind i (with_documents its empty (numbered d rows)) ≡ add_changes number bytes_of kind i (gathered_rows number bytes_of made has (numbered d rows) (terms_of has rows))
      gathered_changes d rows up = ap (λ (es : List (List ℕ × Growing)). each (λ (e : List ℕ × Growing). row_changes kind i e.0 (grown_rows e.1)) es) (entries_gathered d rows) ∙ go (terms_of has rows)
        where
          go : (ts : List (List ℕ))
              → each (λ (e : List ℕ × Growing). row_changes kind i e.0 (grown_rows e.1)) (with_each ts (numbered d rows)) ≡ add_changes number bytes_of kind i (gathered_rows number bytes_of made has (numbered d rows) ts)
          go [] = refl
          go (t ∷ ts) =
              ap (λ (ws : List (Key × Option (List ℕ))). ws ++ each (λ (e : List ℕ × Growing). row_changes kind i e.0 (grown_rows e.1)) (with_each ts (numbered d rows)))
              (ap (row_changes kind i t) (grown_is_greedy number places bytes_of spelt (list_at (numbered d rows) t) (up t)) ∙ put_again t (greedy number bytes_of (list_at (numbered d rows) t)))
              ∙ ap (λ (ws : List (Key × Option (List ℕ))). map (put_row number bytes_of kind i t) (greedy number bytes_of (list_at (numbered d rows) t)) ++ ws) (go ts)
