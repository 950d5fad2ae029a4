use Rattle.std.proofs.Common.{ℕ, ◌≡◌, ◌+◌, ◌≤◌, min, zero, suc, true, false, eqb, List, [], ◌∷◌, ◌++◌, Option, Some, None, take, length, inl, inr, refl, sym, ap, ◌∙◌, subst, arith, length-append, take-take}
use Rattle.std.proofs.lemmas.Bool.{cases_Bool}
use Rattle.ct_base.specs.laws.Options.{same_value}
use Rattle.st_cut.specs.Cut.{is_blank_byte, first_statement}
use Rattle.st_cut.specs.Seen.{Seen, clip, end_count, next_stop, StandsOpen}
use Rattle.st_cut.proofs.Cuts.{open_other, open_newline, open_newline_none, open_blank, open_byte, open_semicolon, first_prefix}

pub take_again : (n : ℕ) (xs : List ℕ) (b : ℕ) → take n (take n xs ++ b ∷ []) ≡ take n (xs ++ b ∷ [])
take_again zero xs b = refl
take_again (suc n) [] b = refl
take_again (suc n) (x ∷ xs) b = ap (λ ys. x ∷ ys) (take_again n xs b)

pub stop_none : (limit : ℕ) (o : Option (List ℕ × List ℕ)) → end_count limit o ≡ None → o ≡ None
stop_none limit None h = refl
stop_none limit (Some x) h = cc

eq_of : (a b : ℕ) → eqb a b ≡ true → a ≡ b
eq_of a b h = grind arith

-- each byte moves the end as the whole would
pub stop_push : (limit : ℕ) (held : List ℕ) (b : ℕ) → first_statement false held ≡ None → (b ≡ 10 → end_count limit (first_statement true held) ≡ None)
    → end_count limit (first_statement true (held ++ b ∷ [])) ≡ next_stop (end_count limit (first_statement true held)) (clip limit (length held)) b
stop_push limit held b h k = elim (cases_Bool (eqb b 59)) [
  | inl e ↦ rw (eq_of b 59 e) (rw (open_semicolon held h) refl)
  | inr e ↦ elim (cases_Bool (is_blank_byte b)) [
    | inl f ↦ rw (open_blank held b h f) (rw (e, f) refl)
    | inr f ↦ elim (cases_Bool (eqb b 10)) [
      | inl n ↦ rw (eq_of b 10 n) (rw (open_newline_none held h (stop_none limit _ (k (eq_of b 10 n)))) refl)
      | inr n ↦ rw (open_byte held b h f n e) (rw (e, f) refl)
    ]
  ]
]

pub opened_push : (limit : ℕ) (held : List ℕ) (b : ℕ) → first_statement false held ≡ None → (b ≡ 10 → end_count limit (first_statement true held) ≡ None)
    → first_statement false (held ++ b ∷ []) ≡ None
opened_push limit held b h k = elim (cases_Bool (eqb b 10)) [
  | inl n ↦ rw (eq_of b 10 n) (open_newline held h ∙ stop_none limit _ (k (eq_of b 10 n)))
  | inr n ↦ open_other held b h n
]

-- one more byte
pub stands_push : (limit : ℕ) (now new : Seen) (held : List ℕ) (b : ℕ) → StandsOpen limit now held → (b ≡ 10 → now.stop ≡ None)
    → new.limit ≡ now.limit → new.kept ≡ take now.limit (now.kept ++ b ∷ []) → new.count ≡ min (now.count + 1) (now.limit + 1)
    → new.stop ≡ next_stop now.stop now.count b
    → StandsOpen limit new (held ++ b ∷ [])
stands_push limit now new held b s k l e c t = record {
  opened = opened_push limit held b s.opened (λ x. sym s.stop ∙ k x);
  limited = l ∙ s.limited;
  kept = e ∙ rw (s.limited, s.kept) (take_again limit held b);
  count = c ∙ rw (s.limited, s.count) (grind (arith, length-append held (b ∷ [])));
  stop = t ∙ rw (s.stop, s.count) (sym (stop_push limit held b s.opened (λ x. sym s.stop ∙ k x)));
}

-- the same, from the fields that make up what is seen
pub stands_push_inside : (limit : ℕ) (inside now new : Seen) (held : List ℕ) (b : ℕ) → inside ≡ now → StandsOpen limit now held → (b ≡ 10 → now.stop ≡ None)
    → new.limit ≡ inside.limit → new.kept ≡ take inside.limit (inside.kept ++ b ∷ []) → new.count ≡ min (inside.count + 1) (inside.limit + 1)
    → new.stop ≡ next_stop inside.stop inside.count b
    → StandsOpen limit new (held ++ b ∷ [])
stands_push_inside limit inside now new held b v s k =
    stands_push limit inside new held b (subst (λ (x : Seen). StandsOpen limit x held) (sym v) s) (λ n. ap (λ (x : Seen). x.stop) v ∙ k n)

-- the statement that ends now, from what is seen
pub stands_statement : (limit stop : ℕ) (now : Seen) (held statement : List ℕ) → StandsOpen limit now held
    → first_statement true held ≡ Some (statement, []) → now.stop ≡ Some stop
    → stop ≡ clip limit (length statement)
stands_statement limit stop now held statement s h e =
    let p : Some stop ≡ end_count limit (first_statement true held) = sym e ∙ s.stop in same_value _ _ (rw h at p)

pub statement_kept : (limit stop : ℕ) (now : Seen) (held statement : List ℕ) → StandsOpen limit now held
    → first_statement true held ≡ Some (statement, []) → now.stop ≡ Some stop
    → stop ≤ limit → (take stop now.kept ≡ statement) × (length statement ≤ limit)
statement_kept limit stop now held statement s h e w =
    let p : stop ≡ clip limit (length statement) = stands_statement limit stop now held statement s h e in
    let q : stop ≡ length statement = omega arith in
    let f : take (length statement) held ≡ statement = first_prefix true held (statement, []) h in
    (rw (s.kept, q) (take-take (length statement) limit held (omega arith) ∙ f), omega arith)
