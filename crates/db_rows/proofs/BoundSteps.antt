-- The steps of bounding keys.
use Rattle.std.proofs.Common.{◌≡◌, ◌<◌, ◌+◌, ◌≤ℤ◌, ◌⊎◌, ◌↔◌, ℕ, ℤ, Bool, true, false, List, length, get_or, take, arith, inl, inr, refl, ap, subst, sym, ◌∙◌}
use Rattle.std.specs.Prelude.{not, ◌||◌, ◌&&◌}
use Rattle.std.specs.List.{list_all}
use Rattle.std.proofs.lemmas.Bool.{both_ways, true_from_ne_false}
use Rattle.std.proofs.lemmas.List.Folds.{list_all_at, list_all_more}
use Rattle.std.proofs.lemmas.Int.{ints}
use Rattle.ct_base.specs.declared.numbers.RowKey.{RowKey}
use Rattle.ct_base.specs.declared.lists.Value.TheVariants.{Number as NumberValue}
use Rattle.ct_entry.specs.Keys.{same_list}
use Rattle.st_parse.specs.declared.statements.Cond.{Cond}
use Rattle.tb_table.specs.declared.columns.Column.{Column}
use Rattle.db_cond.specs.Conditions.{holds}
use Rattle.db_rows.specs.Sources.{is_key_source, source_of}
use Rattle.db_rows.specs.Checking.{cond_column}
use Rattle.db_rows.specs.Bounds.{allows_key, allows_but_list, allows_number, is_range, IsWithinBounds}
use Rattle.db_rows.specs.declared.bounds.KeyBounds.{KeyBounds}

pub both_within : (a b : KeyBounds) (least greatest : RowKey) → a.least.0 ≤ℤ least.0 → b.least.0 ≤ℤ least.0 → (least ≡ a.least) ⊎ (least ≡ b.least)
    → greatest.0 ≤ℤ a.greatest.0 → greatest.0 ≤ℤ b.greatest.0 → (greatest ≡ a.greatest) ⊎ (greatest ≡ b.greatest)
    → (r : ℤ) → IsWithinBounds (record { least = least; greatest = greatest }) r ↔ (IsWithinBounds a r × IsWithinBounds b r)
both_within a b least greatest la lb le ga gb ge r = (
  λ is. (record { low = omega (arith, ints, is.low, la); high = omega (arith, ints, is.high, ga) }, record { low = omega (arith, ints, is.low, lb); high = omega (arith, ints, is.high, gb) }),
  λ is. record { low = low le is.0.low is.1.low; high = high ge is.0.high is.1.high },
)
  where
    low : (least ≡ a.least) ⊎ (least ≡ b.least) → a.least.0 ≤ℤ r → b.least.0 ≤ℤ r → least.0 ≤ℤ r
    low (inl e) p q = subst (λ (k : RowKey). k.0 ≤ℤ r) (sym e) p
    low (inr e) p q = subst (λ (k : RowKey). k.0 ≤ℤ r) (sym e) q

    high : (greatest ≡ a.greatest) ⊎ (greatest ≡ b.greatest) → r ≤ℤ a.greatest.0 → r ≤ℤ b.greatest.0 → r ≤ℤ greatest.0
    high (inl e) p q = subst (λ (k : RowKey). r ≤ℤ k.0) (sym e) p
    high (inr e) p q = subst (λ (k : RowKey). r ≤ℤ k.0) (sym e) q

pub either_within : (a b : KeyBounds) (least greatest : RowKey) → least.0 ≤ℤ a.least.0 → least.0 ≤ℤ b.least.0 → a.greatest.0 ≤ℤ greatest.0 → b.greatest.0 ≤ℤ greatest.0
    → (r : ℤ) → IsWithinBounds a r ⊎ IsWithinBounds b r → IsWithinBounds (record { least = least; greatest = greatest }) r
either_within a b least greatest la lb ga gb r is = record { low = omega (arith, ints, la, lb, is); high = omega (arith, ints, ga, gb, is) }

-- ---- conditions that hold of each key within

-- one condition more
pub passes_more : (test : Cond → Bool) (conds : List Cond) (i : ℕ) (cond : Cond) → list_all test (take i conds) ≡ true → i < length conds → cond ≡ get_or conds i cond → test cond ≡ true
    → list_all test (take (i + 1) conds) ≡ true
passes_more test conds i cond so_far within at passes =
    list_all_more test conds i cond within
    ∙ ap (λ (b : Bool). b && test (get_or conds i cond)) so_far
    ∙ sym (ap test at) ∙ passes

allowed_by : (on range here : Bool) → (range ≡ true → here ≡ true) → (not on || (not range || here)) ≡ true
allowed_by false range here holds = refl
allowed_by true false here holds = refl
allowed_by true true here holds = holds refl

-- one on the key
pub allowed_here : (columns : List Column) (cond : Cond) (r : ℤ) → (is_range cond ≡ true → holds cond (NumberValue r) ≡ true) → allows_key columns r cond ≡ true
allowed_here columns cond r = allowed_by (is_key_source (source_of (cond_column cond) columns)) (is_range cond) (holds cond (NumberValue r))

-- one on another column
pub allowed_elsewhere : (columns : List Column) (cond : Cond) (r : ℤ) → is_key_source (source_of (cond_column cond) columns) ≡ false → allows_key columns r cond ≡ true
allowed_elsewhere columns cond r other = ap (λ (key : Bool). not key || (not (is_range cond) || holds cond (NumberValue r))) other

-- ---- the numbers in a column

pub moved_within : (a b : KeyBounds) (n : ℤ) → a ≡ b → IsWithinBounds b n → IsWithinBounds a n
moved_within a b n same within = subst (λ (c : KeyBounds). IsWithinBounds c n) (sym same) within

-- of the conditions that a number is allowed by, one on the column holds of it
pub number_met : (name : List ℕ) (conds : List Cond) (n : ℤ) (i : ℕ) (cond : Cond) → i < length conds → cond ≡ get_or conds i cond
    → list_all (allows_number name n) conds ≡ true → same_list (cond_column cond) name ≡ true → holds cond (NumberValue n) ≡ true
number_met name conds n i cond within at met on =
    ap (λ (b : Bool). not b || holds cond (NumberValue n)) (sym on)
    ∙ true_from_ne_false (allows_number name n cond) (λ none. both_ways (list_all (allows_number name n) conds) (list_all_at (allows_number name n) conds i cond within (ap (allows_number name n) (sym at) ∙ none)) met)

-- one on the column
pub number_here : (name : List ℕ) (cond : Cond) (n : ℤ) → (is_range cond ≡ true → holds cond (NumberValue n) ≡ true) → allows_but_list name n cond ≡ true
number_here name cond n = allowed_by (same_list (cond_column cond) name) (is_range cond) (holds cond (NumberValue n))

-- one on another column
pub number_elsewhere : (name : List ℕ) (cond : Cond) (n : ℤ) → same_list (cond_column cond) name ≡ false → allows_but_list name n cond ≡ true
number_elsewhere name cond n other = ap (λ (on : Bool). not on || (not (is_range cond) || holds cond (NumberValue n))) other
