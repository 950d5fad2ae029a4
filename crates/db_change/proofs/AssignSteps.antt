-- Steps of the checks of values that are set, and what they leave of the effect.
use Rattle.std.proofs.Common.{◌≡◌, ℕ, zero, suc, ◌+◌, ◌<◌, ◌≤◌, Bool, true, false, cond, List, [], ◌∷◌, ◌++◌, length, take, drop, get_or, Option, Some, refl, sym, ap, subst, ◌∙◌, arith, add-one}
use Rattle.std.specs.Prelude.{◌||◌}
use Rattle.std.specs.List.{list_any, list_all, All}
use Rattle.std.specs.Option.{option_or}
use Rattle.std.proofs.Math.Seq.{drop-cons}
use Rattle.std.proofs.lemmas.Bool.{and_parts, or_parts as or_false}
use Rattle.std.proofs.lemmas.List.{take_all}
use Rattle.std.proofs.lemmas.List.Elements.{All-more, All-head, All-tail}
use Rattle.ct_entry.specs.Keys.{same_list}
use Rattle.ct_entry.specs.laws.Keys.{list_from_same, list_same}
use Rattle.st_parse.specs.declared.statements.Assign.{Assign}
use Rattle.tb_table.specs.declared.columns.Sort.{Sort}
use Rattle.tb_table.specs.declared.columns.Column.{Column}
use Rattle.tb_table.specs.Rules.{has_column, HaveDistinctNames}
use Rattle.db_rows.specs.Checking.{sort_of, is_beyond_operand}
use Rattle.db_state.specs.Columns.{first_unknown}
use Rattle.db_change.specs.Inserting.{is_of_sort, is_too_long}
use Rattle.db_change.specs.Updating.{of_sort, of_its_sort, set_in, IsKeptAssign}
use Rattle.db_change.specs.laws.SetValues.{FitsSet, SetFits}
use Rattle.db_change.proofs.KeptValues.{fits_one}

pub unknown_append : (xs ys : List (List ℕ)) (cs : List Column) → first_unknown (xs ++ ys) cs ≡ option_or (first_unknown xs cs) (first_unknown ys cs)
unknown_append [] ys cs = refl
unknown_append (x ∷ xs) ys cs = go (has_column x cs) (unknown_append xs ys cs)
  where
    go : (b : Bool) → first_unknown (xs ++ ys) cs ≡ option_or (first_unknown xs cs) (first_unknown ys cs)
        → cond b (first_unknown (xs ++ ys) cs) (Some x) ≡ option_or (cond b (first_unknown xs cs) (Some x)) (first_unknown ys cs)
    go true rest = rest
    go false rest = refl

-- ---- loops

module _ {X : Type 0} (p : X → Bool) where
  -- an element that isn't such is passed
  pub any_passed : (xs : List X) (i : ℕ) (x : X) → i < length xs → x ≡ get_or xs i x → p x ≡ false → list_any p (drop (i + 1) xs) ≡ list_any p (drop i xs)
  any_passed xs i x less is other =
      sym (ap (list_any p) (drop-cons xs i x less) ∙ ap (λ (y : X). p y || list_any p (drop (suc i) xs)) (sym is) ∙ ap (λ (b : Bool). b || list_any p (drop (suc i) xs)) other ∙ ap (λ (j : ℕ). list_any p (drop j xs)) (sym (add-one i)))

  -- each element is such
  pub all_at : (xs : List X) (i : ℕ) (x : X) → list_all p xs ≡ true → i < length xs → p (get_or xs i x) ≡ true
  all_at [] i x all less = absurd (omega arith)
  all_at (y ∷ xs) zero x all less = (and_parts (p y) (list_all p xs) all).0
  all_at (y ∷ xs) (suc i) x all less = all_at xs i x (and_parts (p y) (list_all p xs) all).1 (omega arith)

-- one element more
pub more_of : {X : Type 0} (P : X → Type 0) (xs : List X) (i : ℕ) (x : X) → All P (take i xs) → i < length xs → x ≡ get_or xs i x → P x → All P (take (i + 1) xs)
more_of P xs i x so_far less is one = All-more P xs i x less so_far (subst P is one)

pub all_of : {X : Type 0} (P : X → Type 0) (xs : List X) (i : ℕ) → length xs ≤ i → All P (take i xs) → All P xs
all_of P xs i past so_far = subst (All P) (take_all i xs past) so_far

-- ---- what is set in a column fits it

column_there : (name : List ℕ) (cs : List Column) (s : Sort) → sort_of name cs ≡ Some s → has_column name cs ≡ true
column_there name [] s is = cc
column_there name (c ∷ cs) s is = go (same_list name c.name) is (column_there name cs s)
  where
    go : (b : Bool) → cond b (Some c.sort) (sort_of name cs) ≡ Some s → (sort_of name cs ≡ Some s → has_column name cs ≡ true) → cond b true (has_column name cs) ≡ true
    go true is rest = refl
    go false is rest = rest is

module _ (columns : List Column) where
  set_fits : (name : List ℕ) (s : Sort) → sort_of name columns ≡ Some s → (assigns : List Assign)
      → list_all (of_its_sort is_of_sort columns) assigns ≡ true → list_any (of_its_sort is_too_long columns) assigns ≡ false
      → list_any (λ (a : Assign). is_beyond_operand a.value) assigns ≡ false → All IsKeptAssign assigns → FitsSet s (set_in assigns name)
  set_fits name s sort [] sorts short within kept = tt
  set_fits name s sort (a ∷ assigns) sorts short within kept =
      let o = and_parts (of_its_sort is_of_sort columns a) (list_all (of_its_sort is_of_sort columns) assigns) sorts in
      let l = or_false (of_its_sort is_too_long columns a) (list_any (of_its_sort is_too_long columns) assigns) short in
      let w = or_false (is_beyond_operand a.value) (list_any (λ (a : Assign). is_beyond_operand a.value) assigns) within in
      go (same_list name a.column) refl o.0 l.0 w.0 (All-head IsKeptAssign a assigns kept) (set_fits name s sort assigns o.1 l.1 w.1 (All-tail IsKeptAssign a assigns kept))
    where
      here : name ≡ a.column → sort_of a.column columns ≡ Some s
      here e = ap (λ (n : List ℕ). sort_of n columns) (sym e) ∙ sort

      go : (b : Bool) → same_list name a.column ≡ b → of_its_sort is_of_sort columns a ≡ true → of_its_sort is_too_long columns a ≡ false
          → is_beyond_operand a.value ≡ false → IsKeptAssign a → FitsSet s (set_in assigns name)
          → FitsSet s (cond b (Some a.value) (set_in assigns name))
      go true h sorts short within kept rest =
          let is = here (list_from_same name a.column h) in
          fits_one s a.value (sym (ap (λ (o : Option Sort). of_sort is_of_sort o a.value) is) ∙ sorts) (sym (ap (λ (o : Option Sort). of_sort is_too_long o a.value) is) ∙ short) within kept.0 kept.1
      go false h sorts short within kept rest = rest

  sets_fit : (cs : List Column) → ((name : List ℕ) (s : Sort) → sort_of name cs ≡ Some s → sort_of name columns ≡ Some s) → HaveDistinctNames cs
      → (assigns : List Assign) → list_all (of_its_sort is_of_sort columns) assigns ≡ true → list_any (of_its_sort is_too_long columns) assigns ≡ false
      → list_any (λ (a : Assign). is_beyond_operand a.value) assigns ≡ false → All IsKeptAssign assigns → SetFits assigns cs
  sets_fit [] within_all apart assigns sorts short within kept = tt
  sets_fit (c ∷ cs) within_all apart assigns sorts short within kept = (
    set_fits c.name c.sort (within_all c.name c.sort (ap (λ (b : Bool). cond b (Some c.sort) (sort_of c.name cs)) (list_same c.name))) assigns sorts short within kept,
    sets_fit cs (λ name s is. within_all name s (later name s is (same_list name c.name) refl)) apart.1 assigns sorts short within kept,
  )
    where
      later : (name : List ℕ) (s : Sort) → sort_of name cs ≡ Some s → (b : Bool) → same_list name c.name ≡ b → cond (same_list name c.name) (Some c.sort) (sort_of name cs) ≡ Some s
      later name s is true h = let wrong : true ≡ false = sym (column_there name cs s is) ∙ ap (λ (n : List ℕ). has_column n cs) (list_from_same name c.name h) ∙ apart.0 in cc
      later name s is false h = ap (λ (b : Bool). cond b (Some c.sort) (sort_of name cs)) h ∙ is

-- of all columns of a table, and of those behind the key
pub set_values_fit : (columns : List Column) (assigns : List Assign) → HaveDistinctNames columns
    → list_all (of_its_sort is_of_sort columns) assigns ≡ true → list_any (of_its_sort is_too_long columns) assigns ≡ false
    → list_any (λ (a : Assign). is_beyond_operand a.value) assigns ≡ false → All IsKeptAssign assigns → SetFits assigns columns
set_values_fit columns assigns apart sorts short within kept = sets_fit columns columns (λ name s is. is) apart assigns sorts short within kept
