-- The steps of choosing a sub-index.
use Rattle.std.proofs.Common.{◌≡◌, ◌+◌, ◌⊎◌, ℕ, suc, List, [], ◌∷◌, refl, sym, ap, subst, ◌∙◌, arith, inl, inr}
use Rattle.tb_table.specs.declared.columns.Column.{Column}
use Rattle.st_parse.specs.declared.statements.Cond.{Cond}
use Rattle.cat_index.specs.Filings.{at_place}
use Rattle.db_range.specs.declared.places.Range.{Range}
use Rattle.db_range.specs.declared.choosing.SubRange.{SubRange}
use Rattle.db_range.specs.Places.{whole}
use Rattle.db_range.specs.Ranges.{Covers, IsRangeOf, IsSubRange}
use Rattle.db_range.proofs.Steps.{range_covers}

-- those that are left are the next ones
abbrev pub AreLeft : List (List (List ℕ)) → ℕ → List (List (List ℕ)) → Type 0
AreLeft subs sub rest = (n : ℕ) → at_place (suc (sub + n)) ([] ∷ subs) ≡ at_place n rest

-- the plain one
pub plain_one : (columns : List Column) (conds : List Cond) (subs : List (List (List ℕ))) (range : Range) → range ≡ whole → IsSubRange columns conds subs (record { sub = 0; range = range })
plain_one columns conds subs range is = record { names = []; at = refl; range = is; covers = range_covers columns conds [] range is }

pub all_left : (subs : List (List (List ℕ))) → AreLeft subs 0 subs
all_left subs n = let e : suc (0 + n) ≡ suc n = omega arith in ap (λ (i : ℕ). at_place i ([] ∷ subs)) e

module _ (columns : List Column) (conds : List Cond) (subs rest : List (List (List ℕ))) (sub : ℕ) (names : List (List ℕ)) (later : List (List (List ℕ)))
    (are : rest ≡ names ∷ later) (left : AreLeft subs sub rest) where
  pub fewer_left : AreLeft subs (sub + 1) later
  fewer_left n =
      let e : suc (sub + 1 + n) ≡ suc (sub + suc n) = omega arith in
      ap (λ (i : ℕ). at_place i ([] ∷ subs)) e ∙ left (suc n) ∙ ap (at_place (suc n)) are

  pub better : (best result : SubRange) (range : Range) → IsSubRange columns conds subs best → IsRangeOf columns conds names range → Covers columns names conds range
      → (result ≡ best) ⊎ (result ≡ record { sub = sub + 1; range = range }) → IsSubRange columns conds subs result
  better best result range is_best is_range covers (inl same) = subst (IsSubRange columns conds subs) (sym same) is_best
  better best result range is_best is_range covers (inr same) =
      let e : sub + 1 ≡ suc (sub + 0) = omega arith in
      subst (IsSubRange columns conds subs) (sym same)
      (record { names = names; at = ap (λ (i : ℕ). at_place i ([] ∷ subs)) e ∙ left 0 ∙ ap (at_place 0) are; range = is_range; covers = covers })
