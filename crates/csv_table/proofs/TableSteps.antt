-- Lists with an element taken out, and that the table of checked records can be written.
use Rattle.std.proofs.Common.{◌≡◌, ◌<◌, ◌≤◌, ◌+◌, ◌-◌, ℕ, zero, suc, Bool, true, false, List, [], ◌∷◌, ◌++◌, Some, None, Option, length, length-append, take, drop, get_or, map, append-nil, append_assoc, ℤ, refl, sym, ap, ◌∙◌, subst, arith}
use Rattle.std.specs.Prelude.{◌==◌, ◌||◌, IsUtf8, max, nat_le, is_none, is_some}
use Rattle.std.specs.Bool.{if◌then◌else◌}
use Rattle.std.specs.Char.{to_ascii_lowercase}
use Rattle.std.specs.Cmp.{int_eq_equiv}
use Rattle.std.specs.List.{AllByRecursion, IsDistinct, list_all, list_any, remove}
use Rattle.std.specs.Ordering.{int_eq}
use Rattle.std.proofs.lemmas.Bool.{and_parts, leb-true}
use Rattle.std.proofs.lemmas.List.{map-append, take_all}
use Rattle.std.proofs.lemmas.Map.Keys.{IsDistinct-push}
use Rattle.ct_base.specs.Limits.{column_limit, row_limit, text_limit}
use Rattle.ct_base.specs.Names.{IsName}
use Rattle.ct_base.specs.laws.Bools.{or_swap}
use Rattle.ct_base.specs.laws.Options.{no_value}
use Rattle.csv.specs.Reading.{AreRecords, default_config, strip_bom}
use Rattle.csv.specs.Records.{field_at}
use Rattle.csv.specs.declared.parser.State.TheVariants as st
use Rattle.st_cut.specs.Cut.{after_byte, first_statement, here_or}
use Rattle.st_parse.specs.Keywords.{keyword_of}
use Rattle.csv_table.specs.declared.tables.Sort.{Sort}
use Rattle.csv_table.specs.declared.tables.Sort.TheVariants.{Number, Text, Long}
use Rattle.csv_table.specs.declared.tables.Column.{Column}
use Rattle.csv_table.specs.declared.tables.Row.{Row}
use Rattle.csv_table.specs.Tables.{AreNamesOf, AreValues, HasRecords, IsColumn, IsField, IsFullRow, IsKeyAt, IsPlainName, IsRow, IsSort, IsTableOf, IsText, IsValue, IsWritable, columns_from, is_view, key_numbers, longest, names_apart, number_in, put_at, sort_of, text_sort, values_at, varchar2_limit}
use Rattle.csv_table.specs.Wholes.{is_whole, whole}

-- ---- lists

module _ {X : Type 0} where
  -- an element taken out and put back
  pub put_back : (xs : List X) (i : ℕ) (x : X) → i < length xs → x ≡ get_or xs i x → put_at i x (remove xs i) ≡ xs
  put_back [] i x within is = absurd (omega arith)
  put_back (y ∷ ys) zero x within is = ap (λ (z : X). z ∷ ys) is
  put_back (y ∷ ys) (suc i) x within is = ap (λ (zs : List X). y ∷ zs) (put_back ys i x (omega arith) is)

  pub removed_count : (xs : List X) (i : ℕ) → i < length xs → length (remove xs i) + 1 ≡ length xs
  removed_count [] i within = absurd (omega arith)
  removed_count (y ∷ ys) zero within = omega arith
  removed_count (y ∷ ys) (suc i) within = let rest = removed_count ys i (omega arith) in omega arith

  pub drop_cons : (xs : List X) (i : ℕ) (d : X) → i < length xs → drop i xs ≡ get_or xs i d ∷ drop (i + 1) xs
  drop_cons [] i d within = absurd (omega arith)
  drop_cons (y ∷ ys) zero d within = refl
  drop_cons (y ∷ ys) (suc i) d within =
      let next : suc (i + 1) ≡ suc i + 1 = omega arith in
      drop_cons ys i d (omega arith) ∙ ap (λ (n : ℕ). get_or ys i d ∷ drop n (y ∷ ys)) next

  pub drop_whole : (xs : List X) (i : ℕ) → length xs ≤ i → drop i xs ≡ []
  drop_whole [] zero past = refl
  drop_whole [] (suc i) past = refl
  drop_whole (y ∷ ys) zero past = absurd (omega arith)
  drop_whole (y ∷ ys) (suc i) past = drop_whole ys i (omega arith)

  -- a list by its first element, as a pattern has it
  pub with_first : (xs : List X) (first : X) → 1 ≤ length xs → first ≡ get_or xs 0 first → xs ≡ first ∷ take (length xs - 1) (drop 1 xs)
  with_first [] first some is = absurd (omega (arith, some))
  with_first (x ∷ later) first some is =
      let whole_rest : take (length (x ∷ later) - 1) later ≡ later = take_all (length (x ∷ later) - 1) later (omega arith) in
      ap (λ (y : X). y ∷ later) (sym is) ∙ ap (λ (ys : List X). first ∷ ys) (sym whole_rest)

module _ {X : Type 0} (P : X → Type 0) where
  pub all_at : (xs : List X) (i : ℕ) (d : X) → i < length xs → AllByRecursion P xs → P (get_or xs i d)
  all_at [] i d within all = absurd (omega arith)
  all_at (y ∷ ys) zero d within all = all.0
  all_at (y ∷ ys) (suc i) d within all = all_at ys i d (omega arith) all.1

  pub all_removed : (xs : List X) (i : ℕ) → AllByRecursion P xs → AllByRecursion P (remove xs i)
  all_removed [] zero all = tt
  all_removed [] (suc i) all = tt
  all_removed (y ∷ ys) zero all = all.1
  all_removed (y ∷ ys) (suc i) all = (all.0, all_removed ys i all.1)

  pub all_push : (xs : List X) (x : X) → AllByRecursion P xs → P x → AllByRecursion P (xs ++ x ∷ [])
  all_push [] x all is = (is, tt)
  all_push (y ∷ ys) x all is = (all.0, all_push ys x all.1 is)

pub map_count : {X Y : Type 0} (f : X → Y) (xs : List X) → length (map f xs) ≡ length xs
map_count f [] = refl
map_count f (x ∷ xs) = ap suc (map_count f xs)

-- ---- the fields of a record, one after the other

pub next_field : (fields : List (List ℕ)) (i : ℕ) (f : List ℕ) → field_at fields i ≡ Some f → (i < length fields) × (take i fields ++ f ∷ [] ≡ take (i + 1) fields)
unfolding field_at
next_field [] zero f is = cc
next_field [] (suc i) f is = cc
next_field (g ∷ gs) zero f is = (omega arith, ap (λ (x : List ℕ). x ∷ []) (same f g is))
  where
    same : (x y : List ℕ) → Some y ≡ Some x → x ≡ y
    same x y e = cc
next_field (g ∷ gs) (suc i) f is =
    let rest = next_field gs i f is in
    let next : suc (i + 1) ≡ suc i + 1 = omega arith in
    (omega (arith, rest.0), ap (λ (xs : List (List ℕ)). g ∷ xs) rest.1 ∙ ap (λ (n : ℕ). take n (g ∷ gs)) next)

pub no_field : (fields : List (List ℕ)) (i : ℕ) → field_at fields i ≡ None → take i fields ≡ fields
unfolding field_at
no_field [] zero is = refl
no_field [] (suc i) is = refl
no_field (g ∷ gs) zero is = cc
no_field (g ∷ gs) (suc i) is = ap (λ (xs : List (List ℕ)). g ∷ xs) (no_field gs i is)

-- the fields that were read, one more, and all of them
pub fields_on : (texts fields : List (List ℕ)) (f : List ℕ) → texts ≡ take (length texts) fields → field_at fields (length texts) ≡ Some f → texts ++ f ∷ [] ≡ take (length (texts ++ f ∷ [])) fields
fields_on texts fields f so_far next =
    ap (λ (ts : List (List ℕ)). ts ++ f ∷ []) so_far ∙ (next_field fields (length texts) f next).1 ∙ ap (λ (n : ℕ). take n fields) (sym (length-append texts (f ∷ [])))

pub fields_end : (texts fields : List (List ℕ)) → texts ≡ take (length texts) fields → field_at fields (length texts) ≡ None → texts ≡ fields
fields_end texts fields so_far none = so_far ∙ no_field fields (length texts) none

-- ---- where a text is cut

pub no_end_here : (b : ℕ) (bs : List ℕ) (end : Option (List ℕ)) → is_some end ≡ false → is_none (here_or end (after_byte b (first_statement false bs))) ≡ is_none (first_statement false bs)
no_end_here b bs (Some next) none = cc
no_end_here b bs None none = as_well (first_statement false bs)
  where
    as_well : (found : Option (List ℕ × List ℕ)) → is_none (after_byte b found) ≡ is_none found
    as_well None = refl
    as_well (Some x) = refl

pub end_here : (end : Option (List ℕ)) (later : Option (List ℕ × List ℕ)) → is_some end ≡ true → is_none (here_or end later) ≡ false
end_here None later is = cc
end_here (Some next) later is = refl

none_found : (found : Option (List ℕ × List ℕ)) → is_none found ≡ true → found ≡ None
none_found None is = refl
none_found (Some x) is = cc

pub field_is : (text : List ℕ) → IsUtf8 text → length text ≤ text_limit → is_none (first_statement false text) ≡ true → IsField text
field_is text utf8 short uncut = record { held = record { utf8 = utf8; uncut = none_found (first_statement false text) uncut }; short = short }

-- ---- columns and rows

pub full_row : (count width line : ℕ) (key : List ℕ) (values : List (List ℕ)) → AllByRecursion IsField values → length values + 1 ≡ width → is_whole key ≡ true → count + 1 ≡ width
    → IsFullRow count (record { line = line; key = key; values = values })
full_row count width line key values fields long whole wide = record { values = fields; full = omega (arith, long, wide); key = whole }

-- the record that was read as the next row
pub rows_step : {X : Type 0} (f : X → List (List ℕ)) (place width : ℕ) (all rest : List X) (next : X) (rows after : List Row) (row : Row) → 1 ≤ length rest → next ≡ get_or rest 0 next
    → (map (λ r. put_at place r.key r.values) rows ++ map f rest ≡ map f all) × ((count : ℕ) → count + 1 ≡ width → AllByRecursion (IsFullRow count) rows)
    → put_at place row.key row.values ≡ f next → ((count : ℕ) → count + 1 ≡ width → IsFullRow count row) → after ≡ rows ++ row ∷ []
    → (map (λ r. put_at place r.key r.values) after ++ map f (take (length rest - 1) (drop 1 rest)) ≡ map f all) × ((count : ℕ) → count + 1 ≡ width → AllByRecursion (IsFullRow count) after)
rows_step {X} f place width all rest next rows after row some is so_far fields full pushed =
    let shown : Row → List (List ℕ) = λ r. put_at place r.key r.values in
    let later : List X = take (length rest - 1) (drop 1 rest) in
    let texts : map shown (rows ++ row ∷ []) ++ map f later ≡ map f all =
    ap (λ (rs : List (List (List ℕ))). rs ++ map f later) (map-append shown rows (row ∷ [])) ∙ append_assoc (map shown rows) (shown row ∷ []) (map f later)
    ∙ ap (λ (r : List (List ℕ)). map shown rows ++ r ∷ map f later) fields ∙ ap (λ (xs : List X). map shown rows ++ map f xs) (sym (with_first rest next some is)) ∙ so_far.0 in
    subst (λ (rs : List Row). (map shown rs ++ map f later ≡ map f all) × ((count : ℕ) → count + 1 ≡ width → AllByRecursion (IsFullRow count) rs)) (sym pushed)
    (texts, λ count wide. all_push (IsFullRow count) rows row (so_far.1 count wide) (full count wide))

-- a row has a whole number wherever all rows have one
abbrev pub IsLike : List Row → Row → Type 0
IsLike rows r = (place : ℕ) → list_all is_whole (values_at place rows) ≡ true → is_whole (get_or r.values place []) ≡ true

all_like : (rows some : List Row) → ((place : ℕ) → list_all is_whole (values_at place rows) ≡ true → list_all is_whole (values_at place some) ≡ true) → AllByRecursion (IsLike rows) some
all_like rows [] told = tt
all_like rows (r ∷ rs) told = (
  λ place are. (and_parts (is_whole (get_or r.values place [])) _ (told place are)).0,
  all_like rows rs (λ place are. (and_parts (is_whole (get_or r.values place [])) _ (told place are)).1),
)

value_is : (values : List (List ℕ)) (field : List ℕ) → (list_all is_whole values ≡ true → is_whole field ≡ true) → IsText field → IsValue (sort_of values) field
value_is values field whole text = by_test (list_all is_whole values) whole
  where
    by_size : (b : Bool) (n : ℕ) → IsValue (if b then Text n else Long) field
    by_size true n = text
    by_size false n = text

    by_test : (b : Bool) → (b ≡ true → is_whole field ≡ true) → IsValue (if b then Number else text_sort (longest values)) field
    by_test true told = told refl
    by_test false told = by_size (nat_le (longest values) varchar2_limit) (max (longest values) 1)

sort_is : (values : List (List ℕ)) → IsSort (sort_of values)
sort_is values = by_test (list_all is_whole values)
  where
    by_size : (b : Bool) (n : ℕ) → nat_le n varchar2_limit ≡ b → IsSort (if b then Text (max n 1) else Long)
    by_size true n small = let few : n ≤ varchar2_limit = leb-true n varchar2_limit small in (grind (arith, few), grind (arith, few))
    by_size false n large = tt

    by_test : (b : Bool) → IsSort (if b then Number else text_sort (longest values))
    by_test true = tt
    by_test false = by_size (nat_le (longest values) varchar2_limit) (longest values) refl

values_are : (names : List (List ℕ)) (place : ℕ) (rows : List Row) (r : Row) → IsLike rows r → AllByRecursion IsField r.values → length r.values ≡ place + length names
    → AreValues (columns_from place names rows) (drop place r.values)
values_are [] place rows r like fields full = subst (λ (vs : List (List ℕ)). AreValues [] vs) (sym (drop_whole r.values place (omega (arith, full)))) tt
values_are (name ∷ names) place rows r like fields full =
    let within : place < length r.values = omega (arith, full) in
    subst (λ (vs : List (List ℕ)). AreValues (columns_from place (name ∷ names) rows) vs) (sym (drop_cons r.values place [] within)) (
      value_is (values_at place rows) (get_or r.values place []) (like place) (all_at IsField r.values place [] within fields).held,
      values_are names (place + 1) rows r like fields (omega (arith, full)),
    )

rows_like : (names : List (List ℕ)) (rows some : List Row) → AllByRecursion (IsLike rows) some → AllByRecursion (IsFullRow (length names)) some
    → AllByRecursion (IsRow (columns_from 0 names rows)) some
rows_like names rows [] like full = tt
rows_like names rows (r ∷ rs) like full = (
  record { key = full.0.key; values = values_are names 0 rows r like.0 full.0.values (omega (arith, full.0.full)) },
  rows_like names rows rs like.1 full.1,
)

-- rows that were checked can be written
pub rows_are : (names : List (List ℕ)) (rows : List Row) → AllByRecursion (IsFullRow (length names)) rows → AllByRecursion (IsRow (columns_from 0 names rows)) rows
rows_are names rows full = rows_like names rows rows (all_like rows rows (λ place are. are)) full

pub columns_are : (names : List (List ℕ)) (place : ℕ) (rows : List Row) → AllByRecursion IsPlainName names → AllByRecursion IsColumn (columns_from place names rows)
columns_are [] place rows plain = tt
columns_are (name ∷ names) place rows plain = (record { named = plain.0; sorted = sort_is (values_at place rows) }, columns_are names (place + 1) rows plain.1)

-- one column more
pub columns_on : (columns all : List Column) (name : List ℕ) (names : List (List ℕ)) (rows : List Row) (sort : Sort) → columns ++ columns_from (length columns) (name ∷ names) rows ≡ all
    → sort ≡ sort_of (values_at (length columns) rows)
    → (columns ++ record { name = name; sort = sort } ∷ []) ++ columns_from (length (columns ++ record { name = name; sort = sort } ∷ [])) names rows ≡ all
columns_on columns all name names rows sort so_far is =
    let c : Column = record { name = name; sort = sort } in
    ap (λ (n : ℕ). (columns ++ c ∷ []) ++ columns_from n names rows) (length-append columns (c ∷ []))
    ∙ append_assoc columns (c ∷ []) (columns_from (length columns + 1) names rows)
    ∙ ap (λ (s : Sort). columns ++ record { name = name; sort = s } ∷ columns_from (length columns + 1) names rows) is
    ∙ so_far

-- ---- names

pub plain_is : (name : List ℕ) → IsName name → is_some (keyword_of name) ≡ false → IsPlainName name
plain_is name is none = record { spelt = is; no_keyword = no_value (keyword_of name) none }

some_of : (n : ℕ) → (n == 0) ≡ false → 1 ≤ n
some_of zero e = cc
some_of (suc n) e = omega arith

pub names_are : (texts header names : List (List ℕ)) → texts ≡ header → (length texts == 0) ≡ false → length texts ≤ column_limit → map (map to_ascii_lowercase) texts ≡ names
    → AllByRecursion IsPlainName names → names_apart names ≡ true → AreNamesOf header names
names_are texts header names same some few lower plain apart =
    let long : length names ≡ length texts = ap length (sym lower) ∙ map_count (map to_ascii_lowercase) texts in
    let one : 1 ≤ length texts = some_of (length texts) some in
    record {
      lower = ap (map (map to_ascii_lowercase)) (sym same) ∙ lower;
      plain = plain;
      some = omega (arith, long, one);
      few = omega (arith, long, few);
      apart = apart;
    }

-- ---- keys that differ

-- the numbers that were seen, which a map has, and no two of which are the same
pub record KeysSoFar (all rest : List ℤ) (has : ℤ → Bool) : Type 0 where
  pub seen : List ℤ
  pub whole : seen ++ rest ≡ all
  pub apart : IsDistinct int_eq seen
  pub told : (q : ℤ) → has q ≡ list_any (int_eq q) seen

pub keys_begin : (all : List ℤ) (has : ℤ → Bool) → ((q : ℤ) → has q ≡ false) → KeysSoFar all all has
unfolding IsDistinct
keys_begin all has none = record { seen = []; whole = refl; apart = tt; told = none }

any_push : (p : ℤ → Bool) (xs : List ℤ) (y : ℤ) → (p y || list_any p xs) ≡ list_any p (xs ++ y ∷ [])
any_push p [] y = refl
any_push p (x ∷ xs) y = or_swap (p y) (p x) (list_any p xs) ∙ ap (λ (b : Bool). p x || b) (any_push p xs y)

pub keys_on : (all rest : List ℤ) (n : ℤ) (has after : ℤ → Bool) → KeysSoFar all (n ∷ rest) has → has n ≡ false → ((q : ℤ) → after q ≡ (int_eq n q || has q)) → KeysSoFar all rest after
keys_on all rest n has after so_far new noted = record {
  seen = so_far.seen ++ n ∷ [];
  whole = append_assoc so_far.seen (n ∷ []) rest ∙ so_far.whole;
  apart = IsDistinct-push int_eq_equiv so_far.seen n so_far.apart (sym (so_far.told n) ∙ new);
  told = λ q.
      noted q ∙ ap (λ (b : Bool). b || has q) (int_eq_equiv.symm n q) ∙ ap (λ (b : Bool). int_eq q n || b) (so_far.told q) ∙ any_push (int_eq q) so_far.seen n;
}

pub keys_step : (all : List ℤ) (rest : List Row) (row : Row) (n : ℤ) (has after : ℤ → Bool) → 1 ≤ length rest → row ≡ get_or rest 0 row → KeysSoFar all (key_numbers rest) has
    → n ≡ number_in (whole row.key) → has n ≡ false → ((q : ℤ) → after q ≡ (int_eq n q || has q)) → KeysSoFar all (key_numbers (take (length rest - 1) (drop 1 rest))) after
keys_step all rest row n has after some is so_far same new noted =
    let later : List Row = take (length rest - 1) (drop 1 rest) in
    let split : KeysSoFar all (number_in (whole row.key) ∷ key_numbers later) has = subst (λ (rs : List Row). KeysSoFar all (key_numbers rs) has) (with_first rest row some is) so_far in
    keys_on all (key_numbers later) n has after (subst (λ (m : ℤ). KeysSoFar all (m ∷ key_numbers later) has) (sym same) split) new noted

pub keys_end : (all : List ℤ) (has : ℤ → Bool) → KeysSoFar all [] has → IsDistinct int_eq all
keys_end all has so_far = subst (λ (xs : List ℤ). IsDistinct int_eq xs) (sym (append-nil so_far.seen) ∙ so_far.whole) so_far.apart

-- ---- the table

-- the header and the rows of records that were read
pub header_and_rows : {X : Type 0} (f : X → List (List ℕ)) (text : List ℕ) (all records : List X) (header : X) → records ≡ all → 1 ≤ length records → header ≡ get_or records 0 header
    → AreRecords default_config st.StartRecord (strip_bom text) (map f all) → HasRecords text (f header) (map f (take (length records - 1) (drop 1 records)))
header_and_rows {X} f text all records header same some is are =
    subst (λ (xs : List X). AreRecords default_config st.StartRecord (strip_bom text) (map f xs)) (sym same ∙ with_first records header some is) are

pub table_is : (text spelt name : List ℕ) (asked : Option (List ℕ)) (header : List (List ℕ)) (records : List (List (List ℕ))) (names : List (List ℕ)) (place : ℕ) (key : List ℕ)
    (columns : List Column) (rows : List Row)
    → AreNamesOf header names → place < length names → IsKeyAt asked place names → length records ≤ row_limit
    → map (λ r. put_at place r.key r.values) rows ≡ records
    → ((count : ℕ) → count + 1 ≡ length names → AllByRecursion (IsFullRow count) rows)
    → IsDistinct int_eq (key_numbers rows) → key ≡ get_or names place key → columns ≡ columns_from 0 (remove names place) rows
    → HasRecords text header records → map to_ascii_lowercase spelt ≡ name → is_view name ≡ false
    → IsTableOf text spelt asked (record { name = name; key = key; columns = columns; rows = rows })
table_is text spelt name asked header records names place key columns rows named within key_at few same full apart key_is columns_is are lower no_view =
    let rest = remove names place in
    let count : length rest + 1 ≡ length names = removed_count names place within in
    let back : put_at place key rest ≡ names = put_back names place key within key_is in
    let rows_few : length rows ≤ row_limit = omega (arith, few, ap length same, map_count (λ (r : Row). put_at place r.key r.values) rows) in
    record {
      named = lower;
      no_view = no_view;
      header = header;
      names = rest;
      place = place;
      records = subst (λ (rs : List (List (List ℕ))). HasRecords text header rs) (sym same) are;
      columns_named = subst (λ (ns : List (List ℕ)). AreNamesOf header ns) (sym back) named;
      within = omega (arith, count, within);
      key_at = subst (λ (ns : List (List ℕ)). IsKeyAt asked place ns) (sym back) key_at;
      columns = columns_is;
      rows = full (length rest) count;
      few = rows_few;
      apart = apart;
    }

pub writable_is : (name : List ℕ) (names : List (List ℕ)) (place : ℕ) (key : List ℕ) (columns : List Column) (rows : List Row)
    → IsPlainName name → AllByRecursion IsPlainName names → place < length names → key ≡ get_or names place key
    → ((count : ℕ) → count + 1 ≡ length names → AllByRecursion (IsFullRow count) rows)
    → columns ≡ columns_from 0 (remove names place) rows
    → IsWritable (record { name = name; key = key; columns = columns; rows = rows })
writable_is name names place key columns rows plain all within key_is full columns_is =
    let rest = remove names place in
    let count : length rest + 1 ≡ length names = removed_count names place within in
    record {
      name = plain;
      key = subst IsPlainName (sym key_is) (all_at IsPlainName names place key within all);
      columns = subst (λ (cs : List Column). AllByRecursion IsColumn cs) (sym columns_is) (columns_are rest 0 rows (all_removed IsPlainName names place all));
      rows = subst (λ (cs : List Column). AllByRecursion (IsRow cs) rows) (sym columns_is) (rows_are rest rows (full (length rest) count));
    }
