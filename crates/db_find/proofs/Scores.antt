-- What is found above a score, of all that is found.
use Rattle.std.proofs.Common.{◌≡◌, ℕ, ℤ, ◌≤◌, arith, ltb-true, ltb-false, Bool, true, false, cond, List, [], ◌∷◌, Option, Some, None, refl, sym, ap, ◌∙◌}
use Rattle.std.specs.Prelude.{nat_lt, filter}
use Rattle.std.specs.List.{filter_map, cons_option}
use Rattle.std.specs.FinMap.{entries}
use Rattle.std.proofs.lemmas.Map.Entries.{option_filter}
use Rattle.tb_table.specs.Tables.{Table}
use Rattle.ix_docmap.specs.Marks.{Mark, Pending, Settled}
use Rattle.ix_context.specs.Indexes.{ContextIndex, texts_in}
use Rattle.ix_search.specs.Finding.{query_score, scored_above, scored, found_at, found}
use Rattle.q_tree.specs.ReducedQueries.{Reduced}
use Rattle.tx_settings.specs.declared.preferences.Prefs.{Prefs}
use Rattle.ix_kinds.specs.Indextypes.{IndexOf}

none_above : (n score : ℕ) → nat_lt 0 score ≡ false → nat_lt n score ≡ false
none_above n score h = let l = ltb-false 0 score h in not_below (nat_lt n score) refl l
  where
    not_below : (b : Bool) → nat_lt n score ≡ b → score ≤ 0 → b ≡ false
    not_below true e l = let m = ltb-true n score e in absurd (omega (arith, m, l))
    not_below false e l = refl

above_of_all : (n : ℕ) (r : ℤ) (score : ℕ) → option_filter (λ (h : ℤ × ℕ). nat_lt n h.1) (scored_above 0 r score) ≡ scored_above n r score
above_of_all n r score = go (nat_lt 0 score) refl
  where
    go : (b : Bool) → nat_lt 0 score ≡ b → option_filter (λ (h : ℤ × ℕ). nat_lt n h.1) (cond b (Some (r, score)) None) ≡ cond (nat_lt n score) (Some (r, score)) None
    go true e = refl
    go false e = ap (λ (b : Bool). cond b (Some (r, score)) None) (sym (none_above n score e))

scored_of_all : (p : Prefs) (q : Reduced) (n : ℕ) (r : ℤ) (text : Option (List ℕ)) → option_filter (λ (h : ℤ × ℕ). nat_lt n h.1) (scored p q 0 r text) ≡ scored p q n r text
scored_of_all p q n r None = refl
scored_of_all p q n r (Some text) = above_of_all n r (query_score p q text)

at_of_all : (t : Table) (x : IndexOf ContextIndex) (q : Reduced) (n : ℕ) (r : ℤ) (m : Mark (Unit {0})) → option_filter (λ (h : ℤ × ℕ). nat_lt n h.1) (found_at t x q 0 r m) ≡ found_at t x q n r m
at_of_all t x q n r Pending = refl
at_of_all t x q n r (Settled _) = scored_of_all x.prefs q n r (texts_in t x.column r)

-- a filter of what is given is what is given through it
kept : {Y : Type 0} (p : Y → Bool) (y : Y) (ys zs : List Y) (b : Bool) → p y ≡ b → filter p ys ≡ zs → cond b (y ∷ filter p ys) (filter p ys) ≡ cons_option (cond b (Some y) None) zs
kept p y ys zs true is e = ap (λ l. y ∷ l) e
kept p y ys zs false is e = e

filter_cons : {Y : Type 0} (p : Y → Bool) (o q : Option Y) (ys zs : List Y) → option_filter p o ≡ q → filter p ys ≡ zs → filter p (cons_option o ys) ≡ cons_option q zs
filter_cons p None q ys zs is e = e ∙ ap (λ (r : Option _). cons_option r zs) is
filter_cons p (Some y) q ys zs is e = kept p y ys zs (p y) refl e ∙ ap (λ (r : Option _). cons_option r zs) is

filter_given : {X Y : Type 0} (p : Y → Bool) (f g : X → Option Y) → ((x : X) → option_filter p (f x) ≡ g x) → (xs : List X) → filter p (filter_map f xs) ≡ filter_map g xs
filter_given p f g same [] = refl
filter_given p f g same (x ∷ xs) = filter_cons p (f x) (g x) (filter_map f xs) (filter_map g xs) (same x) (filter_given p f g same xs)

pub above_filtered : (t : Table) (x : IndexOf ContextIndex) (q : Reduced) (n : ℕ) → filter (λ (h : ℤ × ℕ). nat_lt n h.1) (found t x q 0) ≡ found t x q n
above_filtered t x q n = filter_given (λ (h : ℤ × ℕ). nat_lt n h.1) (λ e. found_at t x q 0 e.0 e.1) (λ e. found_at t x q n e.0 e.1) (λ e. at_of_all t x q n e.0 e.1) (entries x.body.marks)
