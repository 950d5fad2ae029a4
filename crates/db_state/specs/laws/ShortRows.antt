-- Changes leave the rows of postings short.
use Rattle.std.proofs.Common.{◌≡◌, ℕ, ◌≤◌, Bool, true, false, cond, List, [], ◌∷◌, length, Option, Some, None, sym, subst, ◌∙◌}
use Rattle.ct_keep.specs.Content.{value_limit}
use Rattle.ct_entry.specs.declared.kinds.Kind.{Kind}
use Rattle.ct_entry.specs.Keys.{Key, same_key}
use Rattle.ct_entry.specs.Changes.{Puts, told, view, AllOf}
use Rattle.ct_entry.specs.laws.Changes.{told_frame}
use Rattle.ix_context.specs.laws.Well.{AreIndexChanges}
use Rattle.db_state.specs.States.{HasShortRows, is_of_rows}

-- changes on other kinds
pub rows_frame : (p : Kind → Bool) (ws : List (Key × Option (List ℕ))) (f : Key → Option (List ℕ)) → AllOf p ws → ((k : Kind) → is_of_rows k ≡ true → p k ≡ false) → HasShortRows f → HasShortRows (view ws f)
rows_frame p ws f all other short k v of has = short k v of (sym (told_frame p ws k (f k) all (other k.kind of)) ∙ has)

-- and changes that put short values
told_short : (ws : List (Key × Option (List ℕ))) (k : Key) (old : Option (List ℕ)) (v : List ℕ) → AreIndexChanges ws → (old ≡ Some v → length v ≤ value_limit) → told ws k old ≡ Some v → length v ≤ value_limit
told_short [] k old v are short has = short has
told_short ((j, o) ∷ ws) k old v are short has = told_short ws k (cond (same_key k j) o old) v are.1 (one o are.0.bounded (same_key k j)) has
  where
    one : (o : Option (List ℕ)) → Puts (λ k v. length v ≤ value_limit) j o → (b : Bool) → cond b o old ≡ Some v → length v ≤ value_limit
    one None bounded true is = cc
    one (Some w) bounded true is = let same : w ≡ v = cc in subst (λ (l : List ℕ). length l ≤ value_limit) same bounded
    one o bounded false is = short is

pub rows_put : (ws : List (Key × Option (List ℕ))) (f : Key → Option (List ℕ)) → AreIndexChanges ws → HasShortRows f → HasShortRows (view ws f)
rows_put ws f are short k v of has = told_short ws k (f k) v are (short k v of) has

-- and changes that put nothing
pub rows_left : (f g : Key → Option (List ℕ)) → ((k : Key) (v : List ℕ) → g k ≡ Some v → f k ≡ Some v) → HasShortRows f → HasShortRows g
rows_left f g left short k v of has = short k v of (left k v has)
