-- A content that stands for the indexes of a store holds each of which a row is told.
use Rattle.std.proofs.Common.{◌≡◌, ℕ, Bool, true, false, cond, List, [], ◌∷◌, filter, Option, Some, None, refl, inl, inr}
use Rattle.std.specs.FinMap.{get}
use Rattle.ct_keep.specs.Content.{Content}
use Rattle.ct_entry.specs.Maps.{Names}
use Rattle.ct_entry.specs.laws.Lists.{each_is-append}
use Rattle.tb_table.specs.Tables.{Tables}
use Rattle.ix_kinds.specs.Indextypes.{with_body}
use Rattle.ix_indexes.specs.Indexes.{Body, Index}
use Rattle.ix_indexes.specs.Noting.{AreHeld, HoldsIndexes, IsHeld, Noted, noted_at, noted_in, noted_named}
use Rattle.ix_indexes.specs.laws.Indexes.{holds_rules}

module _ (m : Content) (ts : Tables) (xs : Names Index) (holds : HoldsIndexes m ts xs) where
  one_held : (i : List ℕ) (x : Index) (b : Body) → get xs i ≡ Some (with_body x b) → IsHeld m (i, noted_in x b)
  one_held i x (inl c) is = tt
  one_held i x (inr (inl c)) is = tt
  one_held i x (inr (inr b)) is =
      (ts, (with_body x b, holds_rules m ts xs (record { only = holds.only; stand = holds.tables; rules = holds.hold.tables }) holds.hold.stand holds.hold.rules i (with_body x b) is))

  held_at : (i : List ℕ) (o : Option Index) → get xs i ≡ o → AreHeld m (noted_at i o)
  held_at i None is = tt
  held_at i (Some x) is = (one_held i x x.body is, tt)

  pub noted_held : (names : List (List ℕ)) → AreHeld m (noted_named xs names)
  noted_held [] = tt
  noted_held (i ∷ is) = each_is-append (IsHeld m) (noted_at i (get xs i)) (noted_named xs is) (held_at i (get xs i) refl) (noted_held is)

-- and so does it some of them
pub some_held : (m : Content) (p : List ℕ × Noted → Bool) (es : List (List ℕ × Noted)) → AreHeld m es → AreHeld m (filter p es)
some_held m p [] held = tt
some_held m p (e ∷ es) held = go (p e) (some_held m p es held.1)
  where
    go : (b : Bool) → AreHeld m (filter p es) → AreHeld m (cond b (e ∷ filter p es) (filter p es))
    go true rest = (held.0, rest)
    go false rest = rest
