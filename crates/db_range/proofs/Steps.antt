-- The steps of a range along the columns.
use Rattle.std.proofs.Common.{◌≡◌, ◌<◌, ◌≤◌, ◌≤ℤ◌, ℕ, ℤ, Bool, true, false, cond, List, [], ◌∷◌, ◌++◌, length, length-append, Option, Some, None, refl, sym, ap, subst, ◌∙◌, arith, append-nil, append_assoc}
use Rattle.std.specs.Prelude.{nat_le}
use Rattle.std.proofs.lemmas.Int.{ints}
use Rattle.ct_base.specs.declared.lists.Value.{Value}
use Rattle.ct_base.specs.declared.lists.Value.TheVariants.{Text as TextValue}
use Rattle.ct_bytes.specs.RowKeys.{row_bytes}
use Rattle.ct_bytes.specs.laws.RowKeys.{length-row_bytes, row_bytes_one}
use Rattle.ct_entry.specs.Keys.{counted_bytes, IsRow}
use Rattle.ct_entry.specs.laws.Keys.{list_from_same}
use Rattle.tb_table.specs.declared.columns.Sort.{Sort}
use Rattle.tb_table.specs.declared.columns.Sort.TheVariants.{Number as NumberSort, Varchar2, Clob}
use Rattle.tb_table.specs.declared.columns.Column.{Column}
use Rattle.tb_table.specs.Rules.{FitColumns, others}
use Rattle.st_parse.specs.declared.statements.Cond.{Cond}
use Rattle.cat_index.specs.Filings.{sub_text_limit, value_bytes}
use Rattle.cat_walk.specs.Places.{is_between}
use Rattle.db_rows.specs.Checking.{sort_of}
use Rattle.db_rows.specs.Meeting.{row_meets}
use Rattle.db_rows.specs.Values.{value_of_column}
use Rattle.db_rows.specs.declared.bounds.KeyBounds.{KeyBounds}
use Rattle.db_range.specs.declared.places.Range.{Range}
use Rattle.db_range.specs.Places.{beginning, is_known, is_one, joined, or_whole, whole}
use Rattle.db_range.specs.Values.{IsRangeOfSort, IsValueRange, bounded_sort, is_any_on, number_range, text_range, wanted_text}
use Rattle.db_range.specs.Ranges.{Covers, GoesOn, IsRangeOf, place_of_row, row_values_bytes}
use Rattle.db_range.proofs.Covering.{behind_bytes, between_none, number_between}
use Rattle.db_range.proofs.RowValues.{IsNumber, number_allowed, number_there, text_there}

-- ---- where a value lies in the range of its column

-- It lies in the range, whatever byte follows it; and where the range has one value, it is that.
pub record LiesIn (bytes : List ℕ) (range : Range) : Type 0 where
  pub one : is_one range ≡ true → (range.low ≡ bytes) × (range.high ≡ bytes)
  pub between : (p : List ℕ) → 1 ≤ length p → is_between range.low range.high (bytes ++ p) ≡ true

abbrev pub MayLieIn : List ℕ → Option Range → Type 0
MayLieIn bytes None = Unit {0}
MayLieIn bytes (Some range) = LiesIn bytes range

number_lies : (b : KeyBounds) (n : ℤ) → IsRow b.least.0 → IsRow b.greatest.0 → IsRow n → b.least.0 ≤ℤ n → n ≤ℤ b.greatest.0 → LiesIn (row_bytes n) (number_range b)
number_lies b n f g h low high = record {
  one = λ same.
      let equal : b.least.0 ≡ b.greatest.0 = row_bytes_one b.least.0 b.greatest.0 f g (list_from_same (row_bytes b.least.0) (row_bytes b.greatest.0) same) in
      let least : b.least.0 ≡ n = both_ways b.least.0 b.greatest.0 n equal low high in
      (ap row_bytes least, ap row_bytes (sym equal ∙ least));
  between = λ p some. number_between b.least.0 b.greatest.0 n p f g h low high some;
}
  where
    both_ways : (x y z : ℤ) → x ≡ y → x ≤ℤ z → z ≤ℤ y → x ≡ z
    both_ways x y z e p q = omega (arith, ints, e, p, q)

text_lies : (text : List ℕ) → MayLieIn (value_bytes (Some (TextValue text))) (text_range (Some text))
text_lies text = go (nat_le (length text) sub_text_limit)
  where
    none_behind : (bytes p : List ℕ) → 1 ≤ length p → is_between bytes bytes (bytes ++ p) ≡ true
    none_behind bytes p some = subst (λ (l : List ℕ). is_between l l (bytes ++ p) ≡ true) (append-nil bytes) (behind_bytes bytes [] [] p ∙ between_none p some)

    go : (b : Bool) → MayLieIn (counted_bytes (cond b text [])) (cond b (Some (beginning (counted_bytes text))) None)
    go true = record { one = λ same. (refl, refl); between = λ p some. none_behind (counted_bytes text) p some }
    go false = tt

lies_by_sort : (columns : List Column) (conds : List Cond) (r : ℤ) (vs : List Value) (name : List ℕ) (s : Option Sort) (range : Option Range)
    → (s ≡ Some NumberSort → IsNumber (value_of_column columns r vs name)) → row_meets columns conds r vs ≡ true
    → IsRangeOfSort s conds name range → MayLieIn (value_bytes (value_of_column columns r vs name)) range
lies_by_sort columns conds r vs name None range number met is = subst (MayLieIn (value_bytes (value_of_column columns r vs name))) (sym is) tt
lies_by_sort columns conds r vs name (Some Clob) range number met is = subst (MayLieIn (value_bytes (value_of_column columns r vs name))) (sym is) tt
lies_by_sort columns conds r vs name (Some NumberSort) range number met is =
    let b = is.bounds in
    let are = is.are in
    let value = number refl in
    let within = are.bound value.number value.fits (number_allowed columns r vs name value.number value.is conds met) in
    subst (MayLieIn (value_bytes (value_of_column columns r vs name))) (sym is.is)
    (subst (λ (v : Option Value). LiesIn (value_bytes v) (number_range b)) (sym value.is) (number_lies b value.number are.least are.greatest value.fits within.low within.high))
lies_by_sort columns conds r vs name (Some (Varchar2 size)) range number met is =
    subst (MayLieIn (value_bytes (value_of_column columns r vs name))) (sym is) (go (wanted_text conds name) refl)
  where
    go : (o : Option (List ℕ)) → wanted_text conds name ≡ o → MayLieIn (value_bytes (value_of_column columns r vs name)) (text_range o)
    go None wanted = tt
    go (Some text) wanted =
        subst (λ (v : Option Value). MayLieIn (value_bytes v) (text_range (Some text))) (sym (text_there columns r vs name text conds met wanted)) (text_lies text)

lies : (columns : List Column) (conds : List Cond) (r : ℤ) (vs : List Value) (name : List ℕ) (range : Option Range) → IsRow r → FitColumns (others columns) vs
    → row_meets columns conds r vs ≡ true → IsValueRange columns conds name range → MayLieIn (value_bytes (value_of_column columns r vs name)) range
lies columns conds r vs name range row fit met is =
    lies_by_sort columns conds r vs name (bounded_sort columns conds name) range (λ s. number_there columns r vs name row fit (known (is_any_on name conds) s)) met is
  where
    known : (b : Bool) → cond b (sort_of name columns) None ≡ Some NumberSort → sort_of name columns ≡ Some NumberSort
    known true s = s
    known false s = cc

-- ---- what follows it

lies_behind : (IsLater : Range → Type 0) (first : Option Range) (later : Range) (bytes p : List ℕ) → 1 ≤ length p → MayLieIn bytes first → GoesOn IsLater (is_known first) later
    → (IsLater later → is_between later.low later.high p ≡ true) → is_between (joined (or_whole first) later).low (joined (or_whole first) later).high (bytes ++ p) ≡ true
lies_behind IsLater None later bytes p some in_first goes behind =
    let more : 1 ≤ length (bytes ++ p) = omega (arith, some, length-append bytes p) in
    subst (λ (l : Range). is_between l.low l.high (bytes ++ p) ≡ true) (sym goes) (between_none (bytes ++ p) more)
lies_behind IsLater (Some first) later bytes p some in_first goes behind = go (is_one first) refl goes
  where
    go : (b : Bool) → is_one first ≡ b → GoesOn IsLater b later → is_between (first.low ++ later.low) (first.high ++ later.high) (bytes ++ p) ≡ true
    go true one is =
        let same = in_first.one one in
        ap (λ (l : List ℕ). is_between (l ++ later.low) (first.high ++ later.high) (bytes ++ p)) same.0
        ∙ ap (λ (l : List ℕ). is_between (bytes ++ later.low) (l ++ later.high) (bytes ++ p)) same.1
        ∙ behind_bytes bytes later.low later.high p ∙ behind is
    go false one is =
        subst (λ (l : Range). is_between (first.low ++ l.low) (first.high ++ l.high) (bytes ++ p) ≡ true) (sym is)
        (ap (λ (l : List ℕ). is_between l (first.high ++ []) (bytes ++ p)) (append-nil first.low)
        ∙ ap (λ (l : List ℕ). is_between first.low l (bytes ++ p)) (append-nil first.high)
        ∙ in_first.between p some)

some_place : (columns : List Column) (r : ℤ) (vs : List Value) (names : List (List ℕ)) → 1 ≤ length (place_of_row columns r vs names)
some_place columns r vs names = omega (arith, length-append (row_values_bytes columns r vs names) (row_bytes r), length-row_bytes r)

pub range_covers : (columns : List Column) (conds : List Cond) (names : List (List ℕ)) (range : Range) → IsRangeOf columns conds names range → Covers columns names conds range
range_covers columns conds [] range is r vs row fit met =
    subst (λ (l : Range). is_between l.low l.high (place_of_row columns r vs []) ≡ true) (sym is) (between_none (place_of_row columns r vs []) (some_place columns r vs []))
range_covers columns conds (name ∷ names) range is r vs row fit met =
    let value = value_bytes (value_of_column columns r vs name) in
    let p = place_of_row columns r vs names in
    let in_first = lies columns conds r vs name is.first row fit met is.is_first in
    let there = lies_behind (IsRangeOf columns conds names) is.first is.later value p (some_place columns r vs names) in_first is.goes_on (λ later. range_covers columns conds names is.later later r vs row fit met) in
    ap (λ (q : List ℕ). is_between range.low range.high q) (append_assoc value (row_values_bytes columns r vs names) (row_bytes r))
    ∙ ap (λ (l : Range). is_between l.low l.high (value ++ p)) is.spelt ∙ there

-- ---- how long both ends are

abbrev IsLong : Range → Type 0
IsLong range = length range.low ≡ length range.high

text_long : (o : Option (List ℕ)) → IsLong (or_whole (text_range o))
text_long None = refl
text_long (Some text) = go (nat_le (length text) sub_text_limit)
  where
    go : (b : Bool) → IsLong (or_whole (cond b (Some (beginning (counted_bytes text))) None))
    go true = refl
    go false = refl

value_long : (s : Option Sort) (conds : List Cond) (name : List ℕ) (range : Option Range) → IsRangeOfSort s conds name range → IsLong (or_whole range)
value_long None conds name range is = subst (λ (o : Option Range). IsLong (or_whole o)) (sym is) refl
value_long (Some Clob) conds name range is = subst (λ (o : Option Range). IsLong (or_whole o)) (sym is) refl
value_long (Some NumberSort) conds name range is =
    subst (λ (o : Option Range). IsLong (or_whole o)) (sym is.is) (length-row_bytes is.bounds.least.0 ∙ sym (length-row_bytes is.bounds.greatest.0))
value_long (Some (Varchar2 size)) conds name range is = subst (λ (o : Option Range). IsLong (or_whole o)) (sym is) (text_long (wanted_text conds name))

both_long : (a b : Range) → IsLong a → IsLong b → IsLong (joined a b)
both_long a b p q = omega (arith, length-append a.low b.low, length-append a.high b.high, p, q)

pub range_long : (columns : List Column) (conds : List Cond) (names : List (List ℕ)) (range : Range) → IsRangeOf columns conds names range → length range.low ≡ length range.high
range_long columns conds [] range is = subst IsLong (sym is) refl
range_long columns conds (name ∷ names) range is =
    subst IsLong (sym is.spelt)
    (both_long (or_whole is.first) is.later (value_long (bounded_sort columns conds name) conds name is.first is.is_first) (go (is_known is.first) (range_long columns conds names is.later) is.goes_on))
  where
    go : (b : Bool) → (IsRangeOf columns conds names is.later → IsLong is.later) → GoesOn (IsRangeOf columns conds names) b is.later → IsLong is.later
    go true long later = long later
    go false long later = subst IsLong (sym later) refl

-- ---- along the columns

-- what is added so far, joined with the range of the columns that are left, is that of all
abbrev pub IsBegun : List Column → List Cond → List (List ℕ) → List (List ℕ) → List ℕ → List ℕ → Type 0
IsBegun columns conds names rest low high = (later : Range) → IsRangeOf columns conds rest later → IsRangeOf columns conds names (joined (record { low = low; high = high }) later)

module _ (columns : List Column) (conds : List Cond) (names rest : List (List ℕ)) (name : List ℕ) (later : List (List ℕ)) (low high : List ℕ) (first : Option Range)
    (are : rest ≡ name ∷ later) (begun : IsBegun columns conds names rest low high) (is : IsValueRange columns conds name first) where
  one_more : (end : Range) → GoesOn (IsRangeOf columns conds later) (is_known first) end
      → IsRangeOf columns conds names (joined (record { low = low ++ (or_whole first).low; high = high ++ (or_whole first).high }) end)
  one_more end goes =
      subst (IsRangeOf columns conds names)
      (λ i. record { low = sym (append_assoc low (or_whole first).low end.low) i; high = sym (append_assoc high (or_whole first).high end.high) i })
      (begun (joined (or_whole first) end)
      (subst (λ (ns : List (List ℕ)). IsRangeOf columns conds ns (joined (or_whole first) end)) (sym are) (record { first = first; later = end; is_first = is; goes_on = goes; spelt = refl })))

  pub column_more : (new_low new_high : List ℕ) → new_low ≡ low ++ (or_whole first).low → new_high ≡ high ++ (or_whole first).high → is_known first ≡ true
      → IsBegun columns conds names later new_low new_high
  column_more new_low new_high lows highs known = λ end is_end.
      subst (λ (l : List ℕ). IsRangeOf columns conds names (joined (record { low = l; high = new_high }) end)) (sym lows)
      (subst (λ (h : List ℕ). IsRangeOf columns conds names (joined (record { low = low ++ (or_whole first).low; high = h }) end)) (sym highs)
      (one_more end (subst (λ (b : Bool). GoesOn (IsRangeOf columns conds later) b end) (sym known) is_end)))

  pub column_last : (range : Range) → range.low ≡ low ++ (or_whole first).low → range.high ≡ high ++ (or_whole first).high → is_known first ≡ false → IsRangeOf columns conds names range
  column_last range lows highs known =
      subst (IsRangeOf columns conds names)
      (λ i. record { low = (append-nil (low ++ (or_whole first).low) ∙ sym lows) i; high = (append-nil (high ++ (or_whole first).high) ∙ sym highs) i })
      (one_more whole (subst (λ (b : Bool). GoesOn (IsRangeOf columns conds later) b whole) (sym known) refl))

-- before the first column
pub none_begun : (columns : List Column) (conds : List Cond) (names : List (List ℕ)) (low high : List ℕ) → low ≡ [] → high ≡ [] → IsBegun columns conds names names low high
none_begun columns conds names low high lows highs = λ later is.
    subst (λ (l : List ℕ). IsRangeOf columns conds names (joined (record { low = l; high = high }) later)) (sym lows)
    (subst (λ (h : List ℕ). IsRangeOf columns conds names (joined (record { low = []; high = h }) later)) (sym highs) is)

-- behind the last column
pub no_more : (columns : List Column) (conds : List Cond) (names rest : List (List ℕ)) (low high : List ℕ) (range : Range) → length rest < 1 → IsBegun columns conds names rest low high
    → range.low ≡ low → range.high ≡ high → IsRangeOf columns conds names range
no_more columns conds names (name ∷ later) low high range few begun lows highs = absurd (omega (arith, few))
no_more columns conds names [] low high range few begun lows highs =
    subst (IsRangeOf columns conds names) (λ i. record { low = (append-nil low ∙ sym lows) i; high = (append-nil high ∙ sym highs) i })
    (begun whole refl)
