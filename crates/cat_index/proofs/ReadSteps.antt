-- Steps of reading the values of a row.
use Rattle.std.proofs.Common.{◌≡◌, ℕ, ℤ, ◌+◌, ◌<◌, ◌≤◌, suc, List, [], ◌∷◌, ◌++◌, length, Option, Some, None, refl, sym, ap, subst, ◌∙◌, arith, append_assoc, append-nil, length-append}
use Rattle.std.proofs.lemmas.Option.{same_Some}
use Rattle.std.specs.List.{slice_get}
use Rattle.std.specs.Option.{option_map}
use Rattle.std.specs.FinMap.{get}
use Rattle.ct_base.specs.Limits.{column_limit}
use Rattle.ct_base.specs.declared.lists.Value.{Value}
use Rattle.ct_base.specs.declared.lists.Value.TheVariants.{Number as NumberValue, Text as TextValue}
use Rattle.tb_table.specs.declared.columns.Sort.{Sort}
use Rattle.tb_table.specs.declared.columns.Sort.TheVariants.{Number, Varchar2, Clob}
use Rattle.tb_table.specs.declared.columns.Column.{Column}
use Rattle.tb_table.specs.Tables.{Table, Tables, row_in, row_at, as_text, text_in, numbers_of}
use Rattle.tb_table.specs.Rules.{FitColumns, IsKeyFirst, IsTable, others}
use Rattle.cat_index.specs.Sees.{before_next, value_by}

-- a row of a table that is there
pub row_there : (ts : Tables) (t : List ℕ) (x : Table) (r : ℤ) (vs : List Value) → get ts t ≡ Some x → get x.rows r ≡ Some vs → row_at ts t r ≡ Some vs
row_there ts t x r vs here there = ap (λ (o : Option Table). row_in o r) here ∙ there

-- the numbers that were found of it are its numbers
pub numbers_there : (ts : Tables) (t : List ℕ) (x : Table) (r : ℤ) (vs : List Value) (found : Option (List ℤ)) → found ≡ option_map numbers_of (row_at ts t r) → get ts t ≡ Some x → get x.rows r ≡ Some vs → found ≡ Some (numbers_of vs)
numbers_there ts t x r vs found is here there = is ∙ ap (option_map numbers_of) (row_there ts t x r vs here there)

pub some_numbers : (ts : Tables) (t : List ℕ) (x : Table) (r : ℤ) (vs : List Value) (found : Option (List ℤ)) (numbers : List ℤ) → found ≡ option_map numbers_of (row_at ts t r) → found ≡ Some numbers → get ts t ≡ Some x → get x.rows r ≡ Some vs → numbers ≡ numbers_of vs
some_numbers ts t x r vs found numbers is some here there = same_Some _ _ (sym some ∙ numbers_there ts t x r vs found is here there)

pub no_numbers : (ts : Tables) (t : List ℕ) (x : Table) (r : ℤ) (vs : List Value) (found : Option (List ℤ)) → found ≡ option_map numbers_of (row_at ts t r) → found ≡ None → get ts t ≡ Some x → get x.rows r ≡ Some vs → ⊥
no_numbers ts t x r vs found is none here there = let wrong : None ≡ Some (numbers_of vs) = sym none ∙ numbers_there ts t x r vs found is here there in cc

-- Of a row these values were read; what is left is in these columns, and the numbers before them are as many as this.
pub record IsReadTo (vs done : List Value) (columns : List Column) (numbers : List ℤ) (before : ℕ) : Type 0 where
  pub rest : List Value
  pub whole : done ++ rest ≡ vs
  pub fit : FitColumns columns rest
  pub few : length done + length columns < 255
  pub left : (j : ℕ) → slice_get numbers (before + j) ≡ slice_get (numbers_of rest) j

-- at first none was read
pub none_read : (x : Table) (columns : List Column) (r : ℤ) (vs : List Value) (numbers : List ℤ) → IsTable x → others x.columns ≡ columns → get x.rows r ≡ Some vs → numbers ≡ numbers_of vs → IsReadTo vs [] columns numbers 0
none_read x columns r vs numbers is are there same = record {
  rest = vs;
  whole = refl;
  fit = subst (λ cs. FitColumns cs vs) are (is.rows r vs there);
  few = let few = few_others x.columns is.columns.few in let long = ap length are in omega (arith, few, long);
  left = λ j. ap (slice_get numbers) (at_first j) ∙ ap (λ (ns : List ℤ). slice_get ns j) same;
}
  where
    few_others : (cs : List Column) → length cs ≤ column_limit → length (others cs) ≤ 16
    few_others [] few = omega arith
    few_others (c ∷ cs) few = omega (arith, few)

    at_first : (j : ℕ) → 0 + j ≡ j
    at_first j = omega arith

text_behind : (done rest : List Value) → text_in (done ++ rest) (length done) ≡ text_in rest 0
text_behind [] rest = refl
text_behind (v ∷ done) rest = text_behind done rest

-- What was found is the next value, and with it one more was read.
pub record NextRead (vs done : List Value) (columns : List Column) (numbers : List ℤ) (before : ℕ) (found : Option Value) : Type 0 where
  pub value : Value
  pub is : found ≡ Some value
  pub after : IsReadTo vs (done ++ value ∷ []) columns numbers before

pub next_read : (vs done : List Value) (c : Column) (cs : List Column) (numbers : List ℤ) (before : ℕ) (found : Option Value) → IsReadTo vs done (c ∷ cs) numbers before
    → found ≡ value_by c.sort (length done + 1) numbers before (Some vs) → NextRead vs done cs numbers (before_next c.sort before) found
next_read vs done c cs numbers before found read is = go read.rest c.sort read.whole read.fit read.left is
  where
    behind : length done + 1 ≡ suc (length done)
    behind = omega arith

    first_left : before ≡ before + 0
    first_left = omega arith

    one_later : (j : ℕ) → before + 1 + j ≡ before + suc j
    one_later j = omega arith

    long : (v : Value) → length (done ++ v ∷ []) ≡ length done + 1
    long v = let both = length-append done (v ∷ []) in omega (arith, both)

    few : (v : Value) → length (done ++ v ∷ []) + length cs < 255
    few v = let all = read.few in let one = long v in omega (arith, all, one)

    whole : (v : Value) (rest : List Value) → done ++ v ∷ rest ≡ vs → (done ++ v ∷ []) ++ rest ≡ vs
    whole v rest is = append_assoc done (v ∷ []) rest ∙ is

    text_next : (v : Value) (rest : List Value) → done ++ v ∷ rest ≡ vs → text_in vs (length done) ≡ as_text v
    text_next v rest is = ap (λ (l : List Value). text_in l (length done)) (sym is) ∙ text_behind done (v ∷ rest)

    text_found : (t : List ℕ) (rest : List Value) → done ++ TextValue t ∷ rest ≡ vs → option_map TextValue (text_in vs (length done)) ≡ Some (TextValue t)
    text_found t rest is = ap (option_map TextValue) (text_next (TextValue t) rest is)

    go : (rest : List Value) (s : Sort) → done ++ rest ≡ vs → FitColumns (record { name = c.name; sort = s } ∷ cs) rest → ((j : ℕ) → slice_get numbers (before + j) ≡ slice_get (numbers_of rest) j)
        → found ≡ value_by s (length done + 1) numbers before (Some vs) → NextRead vs done cs numbers (before_next s before) found
    go [] s all fit left is = absurd fit
    go (NumberValue n ∷ rest) Number all fit left is = record {
      value = NumberValue n;
      is = is ∙ ap (option_map NumberValue) (ap (slice_get numbers) first_left ∙ left 0);
      after = record { rest = rest; whole = whole (NumberValue n) rest all; fit = fit.1; few = few (NumberValue n); left = λ j. ap (slice_get numbers) (one_later j) ∙ left (suc j) };
    }
    go (TextValue t ∷ rest) Number all fit left is = absurd fit.0
    go (NumberValue n ∷ rest) (Varchar2 size) all fit left is = absurd fit.0
    go (TextValue t ∷ rest) (Varchar2 size) all fit left is = record {
      value = TextValue t;
      is = is ∙ ap (λ (p : ℕ). value_by (Varchar2 size) p numbers before (Some vs)) behind ∙ text_found t rest all;
      after = record { rest = rest; whole = whole (TextValue t) rest all; fit = fit.1; few = few (TextValue t); left = left };
    }
    go (NumberValue n ∷ rest) Clob all fit left is = absurd fit.0
    go (TextValue t ∷ rest) Clob all fit left is = record {
      value = TextValue t;
      is = is ∙ ap (λ (p : ℕ). value_by Clob p numbers before (Some vs)) behind ∙ text_found t rest all;
      after = record { rest = rest; whole = whole (TextValue t) rest all; fit = fit.1; few = few (TextValue t); left = left };
    }

-- the place of the next column has one byte
pub place_is_small : (vs done : List Value) (rest : List Column) (c : Column) (cs : List Column) (numbers : List ℤ) (before : ℕ) → rest ≡ c ∷ cs → IsReadTo vs done rest numbers before → length done + 1 < 256
place_is_small vs done rest c cs numbers before is read = let few = read.few in let long = ap length is in omega (arith, few, long)

-- what was found at the place of the next column
module _ (vs done : List Value) (rest : List Column) (c : Column) (cs : List Column) (numbers : List ℤ) (before place : ℕ) (found : Option Value) (row : Option (List Value)) (is : rest ≡ c ∷ cs) (read : IsReadTo vs done rest numbers before) where
  next_of : found ≡ value_by c.sort place numbers before row → place ≡ length done + 1 → row ≡ Some vs → NextRead vs done cs numbers (before_next c.sort before) found
  next_of has at there =
      next_read vs done c cs numbers before found (subst (λ (l : List Column). IsReadTo vs done l numbers before) is read)
      (has ∙ ap (λ (n : ℕ). value_by c.sort n numbers before row) at ∙ ap (value_by c.sort (length done + 1) numbers before) there)

  -- one more was read
  pub read_on : (value : Value) (new : List Value) (after : ℕ) → found ≡ value_by c.sort place numbers before row → place ≡ length done + 1 → row ≡ Some vs → found ≡ Some value → new ≡ done ++ value ∷ [] → after ≡ before_next c.sort before
      → IsReadTo vs new cs numbers after
  read_on value new after has at there some added more =
      let next = next_of has at there in
      let same : value ≡ next.value = same_Some _ _ (sym some ∙ next.is) in
      let items : new ≡ done ++ next.value ∷ [] = added ∙ ap (λ (v : Value). done ++ v ∷ []) same in
      subst (λ (n : ℕ). IsReadTo vs new cs numbers n) (sym more) (subst (λ (l : List Value). IsReadTo vs l cs numbers (before_next c.sort before)) (sym items) next.after)

  -- there is always one
  pub read_stops : found ≡ value_by c.sort place numbers before row → place ≡ length done + 1 → row ≡ Some vs → found ≡ None → ⊥
  read_stops has at there none =
      let next = next_of has at there in
      let wrong : None ≡ Some next.value = sym none ∙ next.is in
      cc

pub longer : (old new : List Value) (v : Value) → new ≡ old ++ v ∷ [] → length new ≡ length old + 1
longer old new v is = let all = ap length is in let both = length-append old (v ∷ []) in omega (arith, all, both)

pub before_within : (s : Sort) (before n : ℕ) → before ≤ n → before_next s before ≤ n + 1
before_within Number before n within = omega (arith, within)
before_within (Varchar2 size) before n within = omega (arith, within)
before_within Clob before n within = omega (arith, within)

-- all were read where no column is left
pub all_read : (vs done : List Value) (columns : List Column) (numbers : List ℤ) (before : ℕ) → length columns < 1 → IsReadTo vs done columns numbers before → done ≡ vs
all_read vs done columns numbers before none read = go columns read.rest none read.fit read.whole
  where
    go : (cs : List Column) (rest : List Value) → length cs < 1 → FitColumns cs rest → done ++ rest ≡ vs → done ≡ vs
    go [] [] none fit all = sym (append-nil done) ∙ all
    go [] (v ∷ rest) none fit all = absurd fit
    go (c ∷ cs) rest none fit all = absurd (omega (arith, none))

-- a table has a key
pub no_key : (x : Table) (columns : List Column) → IsTable x → x.columns ≡ columns → length columns < 1 → ⊥
no_key x columns is are none = go columns none (subst IsKeyFirst are is.columns.key)
  where
    go : (cs : List Column) → length cs < 1 → IsKeyFirst cs → ⊥
    go [] none key = key
    go (c ∷ cs) none key = omega (arith, none)
