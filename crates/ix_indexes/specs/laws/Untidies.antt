-- What is put for what is noted of indexes, before a row is lost, is what their kinds have for it.
use Rattle.std.proofs.Common.{◌≡◌, ℕ, List, [], ◌∷◌, ◌++◌, Option, Some, None, refl, sym, ap, ◌∙◌, append-nil}
use Rattle.std.specs.FinMap.{get}
use Rattle.ct_entry.specs.Keys.{Key}
use Rattle.ct_entry.specs.Each.{each}
use Rattle.ct_entry.specs.Maps.{Names}
use Rattle.ct_entry.specs.laws.Each.{each-append}
use Rattle.ct_entry.specs.laws.Lists.{each_is-append}
use Rattle.ix_kinds.specs.Statements.{untidying_in, untidying_at}
use Rattle.ix_indexes.specs.Indexes.{Index, kinds}
use Rattle.ix_indexes.specs.Noting.{Noted, IsNotedOf, AreNotedOf, all_untidying, noted_at, noted_named}

-- what is noted of the indexes of these names is noted of them
pub noted_are_of : (xs : Names Index) (names : List (List ℕ)) → AreNotedOf xs (noted_named xs names)
noted_are_of xs [] = tt
noted_are_of xs (i ∷ is) = each_is-append (IsNotedOf xs) (noted_at i (get xs i)) (noted_named xs is) (one i (get xs i) refl) (noted_are_of xs is)
  where
    one : (i : List ℕ) (o : Option Index) → get xs i ≡ o → AreNotedOf xs (noted_at i o)
    one i None is = tt
    one i (Some x) is = ((x, is, refl), tt)

-- and what is put for each of the names is put for these
pub untidying_noted : (f : Key → Option (List ℕ)) (xs : Names Index) (names : List (List ℕ)) → all_untidying f xs (noted_named xs names) ≡ each (untidying_at kinds f xs) names
untidying_noted f xs [] = refl
untidying_noted f xs (i ∷ is) =
    each-append (λ (e : List ℕ × Noted). untidying_at kinds f xs e.0) (noted_at i (get xs i)) (noted_named xs is)
    ∙ ap (λ (ws : List (Key × Option (List ℕ))). ws ++ all_untidying f xs (noted_named xs is)) (one i (get xs i) refl)
    ∙ ap (λ (ws : List (Key × Option (List ℕ))). untidying_at kinds f xs i ++ ws) (untidying_noted f xs is)
  where
    one : (i : List ℕ) (o : Option Index) → get xs i ≡ o → all_untidying f xs (noted_at i o) ≡ untidying_at kinds f xs i
    one i None is = sym (ap (untidying_in kinds f i) is)
    one i (Some x) is = append-nil (untidying_at kinds f xs i)
