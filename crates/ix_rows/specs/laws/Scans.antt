-- A scan under a term finds its rows, in their order.
use Rattle.std.specs.Prelude.{ℕ, ◌≡◌, ◌==◌, ◌≤◌, ◌<◌, Bool, true, false, cond, ◌||◌, List, [], ◌∷◌, ◌++◌, length, map, Option, Some, None, refl}
use Rattle.std.specs.List.{list_any}
use Rattle.std.specs.Option.{option_and_then}
use Rattle.std.specs.Ordering.{nat_cmp, is_lt, is_eq, eq_by_cmp}
use Rattle.std.specs.FinMap.{entries, find, from_sorted, get-from_sorted, entries-from_sorted, nat_cmp-IsAntisymmetric}
use Rattle.std.proofs.Common.{sym, ap, subst, ◌∙◌, inl, arith, append_assoc}
use Rattle.ct_keep.specs.Content.{Content}
use Rattle.ct_keep.specs.Tail.{tail}
use Rattle.ct_keep.specs.laws.RisingKeys.{below, rises, sorted_from_rises}
use Rattle.ct_base.specs.laws.Bools.{T_from_true, same_tests}
use Rattle.std.proofs.lemmas.Bool.{and_from, eqb-true, eq-eqb, ne_eqb}
use Rattle.ct_entry.specs.declared.kinds.Kind.{Kind}
use Rattle.ct_entry.specs.Keys.{at, prefix_of, document_part, IsDocument, IsPart, HasKeysOnly}
use Rattle.ct_entry.specs.Each.{latest}
use Rattle.ct_entry.specs.laws.Documents.{document_spells}
use Rattle.ct_entry.specs.laws.Listings.{prefix_listed}
use Rattle.ct_entry.specs.Listings.{entries_where}
use Rattle.ct_bytes.specs.laws.ByteOrder.{nat_cmp_less, nat_cmp_equal}
use Rattle.ct_base.specs.laws.Orders.{equal_from_test}
use Rattle.ct_entry.specs.laws.Lists.{in_right}
use Rattle.ix_posting.specs.Lists.{posting_list}
use Rattle.ix_rows.specs.Posts.{Rises}
use Rattle.ix_rows.specs.laws.Posts.{above}
use Rattle.ix_rows.specs.Spelling.{row_value, first_document, RowsSpelled}
use Rattle.ct_entry.specs.Lists.{EachIs}
use Rattle.ix_rows.specs.laws.Spelling.{HasFirst}
use Rattle.ct_entry.specs.laws.Each.{latest_miss}

module _ {D : Type 0} (number : D → ℕ) (bytes_of : List D → List ℕ) where
  abbrev IsSome_ : List D → Type 0
  IsSome_ row = 1 ≤ length row

  -- rows by their first documents
  abbrev by_first : List (List D) → List (ℕ × List D)
  by_first rows = map (λ row. (first_document number row, row)) rows

  -- each row begins above a number
  abbrev FirstsAbove : ℕ → List (List D) → Type 0
  FirstsAbove b [] = Unit {0}
  FirstsAbove b (row ∷ rows) = (b < first_document number row) × FirstsAbove b rows

  -- the rows behind one begin above its first document
  firsts_behind : (b : ℕ) (xs : List D) (rows : List (List D)) → EachIs IsSome_ rows → Rises number b (xs ++ posting_list rows) → FirstsAbove b rows
  firsts_behind b xs [] some r = tt
  firsts_behind b xs ([] ∷ rows) some r = let none = some.0 in absurd (omega (arith, none))
  firsts_behind b xs ((y ∷ ys) ∷ rows) some r = (
    above number b y (xs ++ ((y ∷ ys) ++ posting_list rows)) r (in_right y xs ((y ∷ ys) ++ posting_list rows) (inl refl)),
    firsts_behind b (xs ++ (y ∷ ys)) rows some.1 (subst (Rises number b) (sym (append_assoc xs (y ∷ ys) (posting_list rows))) r),
  )

  below_firsts : (b : ℕ) (rows : List (List D)) → FirstsAbove b rows → below nat_cmp b (by_first rows) ≡ true
  below_firsts b [] h = refl
  below_firsts b (row ∷ rows) h = and_from _ _ (ap is_lt (nat_cmp_less b (first_document number row) h.0)) (below_firsts b rows h.1)

  tail_of : (b : ℕ) (xs ys : List D) → Rises number b (xs ++ ys) → (c : ℕ) × Rises number c ys
  tail_of b [] ys r = (b, r)
  tail_of b (x ∷ xs) ys r = tail_of (number x) xs ys r.2

  firsts_rise : (rows : List (List D)) (b : ℕ) → EachIs IsSome_ rows → Rises number b (posting_list rows) → rises nat_cmp (by_first rows) ≡ true
  firsts_rise [] b some r = refl
  firsts_rise ([] ∷ rows) b some r = let none = some.0 in absurd (omega (arith, none))
  firsts_rise ((x ∷ xs) ∷ rows) b some r =
      let t = tail_of b (x ∷ xs) (posting_list rows) r in
      and_from _ _ (below_firsts (number x) rows (firsts_behind (number x) xs rows some.1 r.2)) (firsts_rise rows t.0 some.1 t.1)

  tie : (a b : ℕ) → eq_by_cmp nat_cmp a b ≡ (a == b)
  tie a b = same_tests (eq_by_cmp nat_cmp a b) (a == b) (λ h. eq-eqb a b (nat_cmp-IsAntisymmetric a b (equal_from_test _ h))) (λ h. ap is_eq (nat_cmp_equal a b (eqb-true a b h)))

  none_hit : (d b : ℕ) (rows : List (List D)) → d ≤ b → FirstsAbove b rows → list_any (λ row. d == first_document number row) rows ≡ false
  none_hit d b [] low h = refl
  none_hit d b (row ∷ rows) low h = ap (λ (t : Bool). t || list_any (λ row. d == first_document number row) rows) (ne_eqb d (first_document number row) (λ e. omega (arith, e, low, h.0))) ∙ none_hit d b rows low h.1

  abbrev value : List D → Option (List ℕ)
  value row = Some (bytes_of row)

  found_first : (rows : List (List D)) (b d : ℕ) → EachIs IsSome_ rows → Rises number b (posting_list rows) → option_and_then value (find nat_cmp d (by_first rows)) ≡ row_value number bytes_of rows d
  found_first [] b d some r = refl
  found_first ([] ∷ rows) b d some r = let none = some.0 in absurd (omega (arith, none))
  found_first ((x ∷ xs) ∷ rows) b d some r =
      let t = tail_of b (x ∷ xs) (posting_list rows) r in
      ap (λ (h : Bool). option_and_then value (cond h (Some (x ∷ xs)) (find nat_cmp d (by_first rows)))) (tie d (number x))
      ∙ go (d == number x) refl (firsts_behind (number x) xs rows some.1 r.2) (found_first rows t.0 d some.1 t.1)
    where
      go : (h : Bool) → (d == number x) ≡ h → FirstsAbove (number x) rows → option_and_then value (find nat_cmp d (by_first rows)) ≡ row_value number bytes_of rows d
          → option_and_then value (cond h (Some (x ∷ xs)) (find nat_cmp d (by_first rows))) ≡ latest (λ row. d == first_document number row) value rows (cond h (value (x ∷ xs)) None)
      go true e up rest = let low = eqb-true d (number x) e in sym (latest_miss (λ row. d == first_document number row) value rows (value (x ∷ xs)) (none_hit d (number x) rows (omega (arith, low)) up))
      go false e up rest = rest

  all_listed : (rows : List (List D)) → entries_where document_part value (by_first rows) ≡ map (λ row. (document_part (first_document number row), bytes_of row)) rows
  all_listed [] = refl
  all_listed (row ∷ rows) = ap (λ (l : List (List ℕ × List ℕ)). (document_part (first_document number row), bytes_of row) ∷ l) (all_listed rows)

  documents_first : (rows : List (List D)) → EachIs (HasFirst number) rows → (d : ℕ) (row : List D) → find nat_cmp d (by_first rows) ≡ Some row → IsDocument d
  documents_first [] all d row h = cc
  documents_first (r ∷ rows) all d row h = go (eq_by_cmp nat_cmp d (first_document number r)) refl h (documents_first rows all.1 d row)
    where
      go : (b : Bool) → eq_by_cmp nat_cmp d (first_document number r) ≡ b → cond b (Some r) (find nat_cmp d (by_first rows)) ≡ Some row
          → (find nat_cmp d (by_first rows) ≡ Some row → IsDocument d) → IsDocument d
      go true e is rest = subst IsDocument (sym (nat_cmp-IsAntisymmetric d (first_document number r) (equal_from_test _ e))) all.0
      go false e is rest = rest is

  -- THE SCAN: what stands under a term is its rows, each once, in order
  pub rows_scanned : (IsTerm : List ℕ → Type 0) (c : Content) (kind : Kind) (i term : List ℕ) (rows : List ℕ → List (List D)) → HasKeysOnly c → IsTerm term
      → ((q : List ℕ) → IsPart kind (term ++ q) → (d : ℕ) × IsDocument d × (q ≡ document_part d))
      → EachIs IsSome_ (rows term) → EachIs (HasFirst number) (rows term) → Rises number 0 (posting_list (rows term)) → RowsSpelled number bytes_of IsTerm (at c) kind i rows
      → entries (tail (prefix_of kind i ++ term) c) ≡ map (λ row. (document_part (first_document number row), bytes_of row)) (rows term)
  rows_scanned IsTerm c kind i term rows only is parts some firsts rise spelled =
      let es = by_first (rows term) in
      let sorted = T_from_true _ (sorted_from_rises nat_cmp es (firsts_rise (rows term) 0 some rise)) in
      prefix_listed nat_cmp document_part IsDocument document_spells value c kind i term (from_sorted es) only parts
      (λ d row h. documents_first (rows term) firsts d row (sym (get-from_sorted nat_cmp es d sorted) ∙ h))
      (λ d doc. spelled.spelled term d is doc ∙ sym (found_first (rows term) 0 d some rise) ∙ ap (option_and_then value) (sym (get-from_sorted nat_cmp es d sorted)))
      ∙ ap (entries_where document_part value) (entries-from_sorted nat_cmp es sorted) ∙ all_listed (rows term)
