-- The values of rows that meet conditions.
use Rattle.std.proofs.Common.{◌≡◌, ◌+◌, ℕ, ℤ, zero, suc, Bool, true, false, cond, List, [], ◌∷◌, Option, Some, None, refl, sym, ap, subst, ◌∙◌, arith, add-zero}
use Rattle.std.specs.Prelude.{not, ◌||◌}
use Rattle.std.specs.List.{list_all, slice_get}
use Rattle.std.specs.Option.{option_or}
use Rattle.std.proofs.lemmas.Bool.{and_parts, and_from}
use Rattle.std.proofs.lemmas.Map.Lookups.{exact_bytes}
use Rattle.ct_base.specs.laws.Orders.{equal_from_test}
use Rattle.ct_base.specs.declared.lists.Value.{Value}
use Rattle.ct_base.specs.declared.lists.Value.TheVariants.{Number as NumberValue, Text as TextValue}
use Rattle.ct_entry.specs.Keys.{same_list, IsRow}
use Rattle.ct_entry.specs.laws.Keys.{list_from_same}
use Rattle.tb_table.specs.declared.columns.Sort.{Sort}
use Rattle.tb_table.specs.declared.columns.Sort.TheVariants.{Number as NumberSort}
use Rattle.tb_table.specs.declared.columns.Column.{Column}
use Rattle.tb_table.specs.Rules.{FitColumns, IsOfSort, others}
use Rattle.st_parse.specs.declared.statements.Operand.TheVariants.{Number, Text}
use Rattle.st_parse.specs.declared.statements.Compare.TheVariants.{Equal, Less, AtMost, Greater, AtLeast}
use Rattle.st_parse.specs.declared.statements.Cond.{Cond}
use Rattle.st_parse.specs.declared.statements.Cond.TheVariants.{Compare as Compared, Between, OneOf}
use Rattle.db_cond.specs.Conditions.{holds}
use Rattle.db_state.specs.Columns.{place_from}
use Rattle.db_rows.specs.Checking.{cond_column, sort_of}
use Rattle.db_rows.specs.Meeting.{holds_of, row_meets}
use Rattle.db_rows.specs.Values.{at_place, value_at, value_of_column}
use Rattle.db_rows.specs.Bounds.{allows_number}
use Rattle.db_range.specs.Values.{text_of_cond, text_on, wanted_text}

-- ---- a column of numbers has a number

-- The value is a number of 64 bits.
pub record IsNumber (value : Option Value) : Type 0 where
  pub number : ℤ
  pub fits : IsRow number
  pub is : value ≡ Some (NumberValue number)

number_of : (v : Value) → IsOfSort NumberSort v → IsNumber (Some v)
number_of (NumberValue n) fits = record { number = n; fits = fits; is = refl }
number_of (TextValue text) fits = absurd fits

number_from : (r : ℤ) (vs : List Value) (name : List ℕ) (place : ℕ) (cs : List Column) (row : List Value) → ((j : ℕ) → value_at r vs (place + j) ≡ slice_get row j)
    → FitColumns cs row → sort_of name cs ≡ Some NumberSort → IsNumber (at_place r vs (place_from place name cs))
number_from r vs name place [] row at fit sort = cc
number_from r vs name place (c ∷ cs) [] at fit sort = absurd fit
number_from r vs name place (c ∷ cs) (v ∷ row) at fit sort =
    go (same_list name c.name) (number_from r vs name (suc place) cs row (λ j. let next : suc place + j ≡ place + suc j = omega arith in ap (value_at r vs) next ∙ at (suc j)) fit.1) sort
  where
    go : (b : Bool) → (sort_of name cs ≡ Some NumberSort → IsNumber (at_place r vs (place_from (suc place) name cs)))
        → cond b (Some c.sort) (sort_of name cs) ≡ Some NumberSort → IsNumber (at_place r vs (cond b (Some place) (place_from (suc place) name cs)))
    go true later is =
        let number : c.sort ≡ NumberSort = cc in
        let here : value_at r vs place ≡ Some v = ap (value_at r vs) (sym (add-zero place)) ∙ at 0 in
        subst IsNumber (sym here) (number_of v (subst (λ (s : Sort). IsOfSort s v) number fit.0))
    go false later is = later is

behind_key : (r : ℤ) (vs : List Value) (j : ℕ) → value_at r vs (suc j) ≡ slice_get vs j
behind_key r [] j = refl
behind_key r (v ∷ vs) zero = refl
behind_key r (v ∷ vs) (suc j) = behind_key r vs j

pub number_there : (columns : List Column) (r : ℤ) (vs : List Value) (name : List ℕ) → IsRow r → FitColumns (others columns) vs → sort_of name columns ≡ Some NumberSort
    → IsNumber (value_of_column columns r vs name)
number_there [] r vs name row fit sort = cc
number_there (c ∷ cs) r vs name row fit sort = go (same_list name c.name) sort
  where
    go : (b : Bool) → cond b (Some c.sort) (sort_of name cs) ≡ Some NumberSort → IsNumber (at_place r vs (cond b (Some 0) (place_from 1 name cs)))
    go true is = record { number = r; fits = row; is = refl }
    go false is = number_from r vs name 1 cs vs (λ j. let next : 1 + j ≡ suc j = omega arith in ap (value_at r vs) next ∙ behind_key r vs j) fit is

-- ---- which all conditions on it allow

pub number_allowed : (columns : List Column) (r : ℤ) (vs : List Value) (name : List ℕ) (n : ℤ) → value_of_column columns r vs name ≡ Some (NumberValue n)
    → (conds : List Cond) → row_meets columns conds r vs ≡ true → list_all (allows_number name n) conds ≡ true
number_allowed columns r vs name n there [] met = refl
number_allowed columns r vs name n there (c ∷ cs) met =
    let parts = and_parts (holds_of c (value_of_column columns r vs (cond_column c))) (row_meets columns cs r vs) met in
    and_from _ _ (go (same_list (cond_column c) name) refl parts.0) (number_allowed columns r vs name n there cs parts.1)
  where
    go : (b : Bool) → same_list (cond_column c) name ≡ b → holds_of c (value_of_column columns r vs (cond_column c)) ≡ true → allows_number name n c ≡ true
    go false on here = ap (λ (b : Bool). not b || holds c (NumberValue n)) on
    go true on here =
        ap (λ (b : Bool). not b || holds c (NumberValue n)) on
        ∙ ap (holds_of c) (sym (ap (value_of_column columns r vs) (list_from_same (cond_column c) name on) ∙ there)) ∙ here

-- ---- a text that is asked for

held_text : (c : Cond) (text : List ℕ) (value : Option Value) → text_of_cond c ≡ Some text → holds_of c value ≡ true → value ≡ Some (TextValue text)
held_text c text None asks held = cc
held_text (Compared column Equal (Text t)) text (Some (TextValue u)) asks held =
    let same : t ≡ text = cc in
    ap (λ (s : List ℕ). Some (TextValue s)) (exact_bytes u t (equal_from_test _ held) ∙ same)
held_text (Compared column Equal (Text t)) text (Some (NumberValue n)) asks held = cc
held_text (Compared column Equal (Number n)) text (Some v) asks held = cc
held_text (Compared column Less operand) text (Some v) asks held = cc
held_text (Compared column AtMost operand) text (Some v) asks held = cc
held_text (Compared column Greater operand) text (Some v) asks held = cc
held_text (Compared column AtLeast operand) text (Some v) asks held = cc
held_text (Between column low high) text (Some v) asks held = cc
held_text (OneOf column operands) text (Some v) asks held = cc

pub text_there : (columns : List Column) (r : ℤ) (vs : List Value) (name text : List ℕ) (conds : List Cond) → row_meets columns conds r vs ≡ true → wanted_text conds name ≡ Some text
    → value_of_column columns r vs name ≡ Some (TextValue text)
text_there columns r vs name text [] met wanted = cc
text_there columns r vs name text (c ∷ cs) met wanted = go (text_on name c) (text_there columns r vs name text cs parts.1) refl wanted
  where
    parts : (holds_of c (value_of_column columns r vs (cond_column c)) ≡ true) × (row_meets columns cs r vs ≡ true)
    parts = and_parts (holds_of c (value_of_column columns r vs (cond_column c))) (row_meets columns cs r vs) met

    here : (b : Bool) (t : List ℕ) → same_list (cond_column c) name ≡ b → cond b (text_of_cond c) None ≡ Some t → value_of_column columns r vs name ≡ Some (TextValue t)
    here true t on asks = ap (value_of_column columns r vs) (sym (list_from_same (cond_column c) name on)) ∙ held_text c t (value_of_column columns r vs (cond_column c)) asks parts.0
    here false t on asks = cc

    go : (o : Option (List ℕ)) → (wanted_text cs name ≡ Some text → value_of_column columns r vs name ≡ Some (TextValue text)) → text_on name c ≡ o → option_or o (wanted_text cs name) ≡ Some text → value_of_column columns r vs name ≡ Some (TextValue text)
    go (Some t) later is chosen = let same : t ≡ text = cc in here (same_list (cond_column c) name) text refl (is ∙ ap Some same)
    go None later is chosen = later chosen
