-- The indexes that look at columns that are set.
use Rattle.std.proofs.Common.{◌≡◌, ℕ, Bool, true, false, cond, List, [], ◌∷◌, Option, Some, None, refl, sym, ap, ◌∙◌}
use Rattle.std.specs.Prelude.{◌||◌, ◌&&◌, filter}
use Rattle.std.specs.List.{list_any}
use Rattle.std.specs.FinMap.{get}
use Rattle.std.proofs.lemmas.Bool.{or_parts as or_false}
use Rattle.ct_entry.specs.Keys.{same_list}
use Rattle.ct_entry.specs.laws.Keys.{list_from_same}
use Rattle.ct_entry.specs.Each.{is_any_of}
use Rattle.ct_entry.specs.Maps.{Names}
use Rattle.ix_kinds.specs.Statements.{AreDistinct, every, looks_at_any, is_on, AreIndexesOn}
use Rattle.ix_indexes.specs.Indexes.{Index, kinds}
use Rattle.ix_indexes.specs.Noting.{Noted, noted_at, noted_looks_any, noted_named, noted_of}
use Rattle.ix_indexes.specs.laws.Noting.{is_seen, noted_sees_any, noted_that_look}
use Rattle.db_change.specs.Noting.{names_on, noted_on, noted_set}
use Rattle.db_change.specs.laws.NewRows.{names_on_table}

-- ---- of names that differ, those that pass a test

module _ (p : List ℕ → Bool) where
  none_passed : (i : List ℕ) (names : List (List ℕ)) → is_any_of i names ≡ false → is_any_of i (filter p names) ≡ false
  none_passed i [] none = refl
  none_passed i (n ∷ names) none = let o = or_false (same_list i n) (is_any_of i names) none in go (p n) (none_passed i names o.1) o.0
    where
      go : (b : Bool) → is_any_of i (filter p names) ≡ false → same_list i n ≡ false → is_any_of i (cond b (n ∷ filter p names) (filter p names)) ≡ false
      go true rest other = ap (λ (b : Bool). b || is_any_of i (filter p names)) other ∙ rest
      go false rest other = rest

  pub passed_distinct : (names : List (List ℕ)) → AreDistinct names → AreDistinct (filter p names)
  passed_distinct [] distinct = tt
  passed_distinct (n ∷ names) distinct = go (p n) (passed_distinct names distinct.1)
    where
      go : (b : Bool) → AreDistinct (filter p names) → AreDistinct (cond b (n ∷ filter p names) (filter p names))
      go true rest = (none_passed n names distinct.0, rest)
      go false rest = rest

  pub among_passed : (i : List ℕ) (names : List (List ℕ)) → is_any_of i (filter p names) ≡ (is_any_of i names && p i)
  among_passed i [] = refl
  among_passed i (n ∷ names) = go (same_list i n) refl (p n) refl (among_passed i names)
    where
      pass : (b : Bool) → same_list i n ≡ true → p n ≡ b → p i ≡ b
      pass b same h = ap p (list_from_same i n same) ∙ h

      neither : (a b : Bool) → b ≡ false → (a && b) ≡ false
      neither true b h = h
      neither false b h = refl

      go : (a : Bool) → same_list i n ≡ a → (b : Bool) → p n ≡ b → is_any_of i (filter p names) ≡ (is_any_of i names && p i)
          → is_any_of i (cond b (n ∷ filter p names) (filter p names)) ≡ ((a || is_any_of i names) && p i)
      go true same true h rest = ap (λ (b : Bool). b || is_any_of i (filter p names)) same ∙ sym (pass true same h)
      go true same false h rest = rest ∙ neither (is_any_of i names) (p i) (pass false same h) ∙ sym (pass false same h)
      go false same true h rest = ap (λ (b : Bool). b || is_any_of i (filter p names)) same ∙ rest
      go false same false h rest = rest

-- ---- of the indexes on a table

module _ (places : List ℕ) (xs : Names Index) (t : List ℕ) where
  -- the names of those that look at one of these columns
  abbrev pub names_set : List (List ℕ)
  names_set = filter (is_seen xs places) (names_on xs t)

  seen_on : (i : List ℕ) (o : Option Index) → get xs i ≡ o → (is_on kinds (every kinds) t o && is_seen xs places i) ≡ is_on kinds (looks_at_any kinds places) t o
  seen_on i None is = refl
  seen_on i (Some x) is = go (same_list x.table t) (ap (λ (o : Option Index). seen_in o) is ∙ or_no (noted_looks_any places (noted_of x)) ∙ sym (noted_sees_any places x))
    where
      seen_in : Option Index → Bool
      seen_in o = list_any (λ (e : List ℕ × Noted). noted_looks_any places e.1) (noted_at i o)

      or_no : (b : Bool) → (b || false) ≡ b
      or_no true = refl
      or_no false = refl

      go : (b : Bool) → is_seen xs places i ≡ looks_at_any kinds places x → ((b && true) && is_seen xs places i) ≡ (b && looks_at_any kinds places x)
      go true e = e
      go false e = refl

  pub named_on_columns : AreIndexesOn kinds (looks_at_any kinds places) xs t names_set
  named_on_columns =
      let on = names_on_table xs t in
      record {
        distinct = passed_distinct (is_seen xs places) (names_on xs t) on.distinct;
        each = λ i. among_passed (is_seen xs places) i (names_on xs t) ∙ ap (λ (b : Bool). b && is_seen xs places i) (on.each i) ∙ seen_on i (get xs i) refl;
      }

  -- and what is needed of them
  pub noted_on_columns : noted_set places (noted_on xs t) ≡ noted_named xs names_set
  noted_on_columns = noted_that_look xs places (names_on xs t)
