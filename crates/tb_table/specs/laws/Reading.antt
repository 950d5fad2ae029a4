-- What the entries that spell tables are read as: what the tables have.
use Rattle.std.proofs.Common.{◌≡◌, ℕ, ℤ, zero, suc, ◌^◌, ◌<◌, Bool, true, false, List, [], ◌∷◌, map, Option, Some, None, refl, sym, ap, subst, ◌∙◌, arith, FitsSigned, w64}
use Rattle.std.specs.Prelude.{◌&&◌, ◌||◌, is_some}
use Rattle.std.specs.Option.{option_map, option_and_then}
use Rattle.std.specs.List.{list_any}
use Rattle.std.specs.Str.{IsUtf8}
use Rattle.std.specs.declared.cmp.Ordering.{Ordering}
use Rattle.std.specs.declared.cmp.Ordering.TheVariants.{Less, Equal, Greater}
use Rattle.std.specs.Ordering.{nat_cmp, int_cmp, is_lt, eq_by_cmp, ordering_reverse}
use Rattle.std.specs.Cmp.Lexicographic.{slice_cmp}
use Rattle.std.proofs.lemmas.Cmp.{nat_list_cmp_total, tied_itself}
use Rattle.std.specs.FinMap.{get, entries, empty, get-empty, contains_key-keys}
use Rattle.ct_base.specs.Names.{is_kept}
use Rattle.ct_base.specs.laws.Names.{name_is_kept}
use Rattle.ct_base.specs.declared.lists.Value.{Value}
use Rattle.ct_base.specs.declared.lists.Value.TheVariants.{Number as NumberValue, Text as TextValue}
use Rattle.ct_keep.specs.Content.{Content}
use Rattle.std.proofs.lemmas.Bool.{and_parts, and_from}
use Rattle.ct_keep.specs.laws.RisingKeys.{below, rises, entries_rise}
use Rattle.ct_entry.specs.declared.kinds.Kind.TheVariants as kind
use Rattle.ct_entry.specs.Keys.{Key, key, at, same_list, row_part, text_part, IsRow, HasKeysOnly}
use Rattle.ct_entry.specs.Each.{is_any_of}
use Rattle.ct_entry.specs.laws.Keys.{list_from_same, list_same}
use Rattle.ct_entry.specs.laws.Maps.{names_tie, entries-none}
use Rattle.ct_entry.specs.Listings.{keys_where, first_of, rows_above, row_after, rows_under}
use Rattle.ct_entry.specs.laws.Rows.{IsPlace, rows_listed, next_row_listed, keys_always}
use Rattle.tb_table.specs.declared.columns.Sort.{Sort}
use Rattle.tb_table.specs.declared.columns.Sort.TheVariants.{Number, Varchar2, Clob}
use Rattle.tb_table.specs.declared.columns.Column.{Column}
use Rattle.tb_table.specs.Tables.{Table, Tables, row_in, row_at, numbers_of, as_text, text_in, text_in_column, keys_in, row_keys}
use Rattle.tb_table.specs.Spelling.{sort_size, columns_bytes, row_numbers_bytes, TablesStand}
use Rattle.tb_table.specs.Rules.{HasAllowedSize, IsOfSort, FitColumns, AllColumns, AreColumns, others, AreTables}
use Rattle.tb_table.specs.Readings.{EachSpellable, AreSpellable, EachFits, SpellsColumns, SpellsNumbers, SpellsText, all_above, names_rise, AreTableNames}
use Rattle.tb_table.specs.laws.Spelling.{columns_one, numbers_one, text_one}

-- ---- columns

sort_is_small : (s : Sort) → HasAllowedSize s → sort_size s < 2 ^ 16
sort_is_small Number is = omega arith
sort_is_small (Varchar2 size) is = omega (arith, is.1)
sort_is_small Clob is = omega arith

each_spellable : (cs : List Column) → AllColumns cs → EachSpellable cs
each_spellable [] are = tt
each_spellable (c ∷ cs) are = (record { name = are.0; size = sort_is_small c.sort are.1 }, each_spellable cs are.2)

pub are_spellable : (cs : List Column) → AreColumns cs → AreSpellable cs
are_spellable cs are = record { each = each_spellable cs are.each; few = let few = are.few in omega arith }

-- the columns that are read are the table's
pub columns_read : (f : Key → Option (List ℕ)) (ts : Tables) → TablesStand f ts → AreTables ts → (t : List ℕ) (found : Option (List Column)) → SpellsColumns (f (key kind.Tables t [])) found → found ≡ option_map (λ (x : Table). x.columns) (get ts t)
columns_read f ts stand are t found spelt = columns_one (f (key kind.Tables t [])) found (option_map (λ (x : Table). x.columns) (get ts t)) spelt (go (get ts t) refl (stand.tables t))
  where
    go : (o : Option Table) → get ts t ≡ o → f (key kind.Tables t []) ≡ option_map (λ (x : Table). columns_bytes x.columns) o → SpellsColumns (f (key kind.Tables t [])) (option_map (λ (x : Table). x.columns) o)
    go None is e = λ cs spellable whole. let wrong : None ≡ Some (columns_bytes cs) = sym e ∙ whole in cc
    go (Some x) is e = (are_spellable x.columns (are.each t x is).columns, e)

-- ---- rows

-- what is known of a row
pub record IsRowOf (ts : Tables) (t : List ℕ) (r : ℤ) (vs : List Value) : Type 0 where
  pub table : Table
  pub here : get ts t ≡ Some table
  pub row : get table.rows r ≡ Some vs

pub row_of_table : (ts : Tables) (t : List ℕ) (r : ℤ) (vs : List Value) → row_at ts t r ≡ Some vs → IsRowOf ts t r vs
row_of_table ts t r vs is = go (get ts t) refl is
  where
    go : (o : Option Table) → get ts t ≡ o → row_in o r ≡ Some vs → IsRowOf ts t r vs
    go None here is = cc
    go (Some x) here is = record { table = x; here = here; row = is }

-- the values of a row fit the table's columns
pub row_fits : (ts : Tables) → AreTables ts → (t : List ℕ) (r : ℤ) (vs : List Value) → row_at ts t r ≡ Some vs → (cs : List Column) × FitColumns cs vs
row_fits ts are t r vs is = let x = row_of_table ts t r vs is in (others x.table.columns, (are.each t x.table x.here).rows r vs x.row)

pub numbers_fit : (cs : List Column) (vs : List Value) → FitColumns cs vs → EachFits (numbers_of vs)
numbers_fit [] [] fit = tt
numbers_fit [] (v ∷ vs) fit = absurd fit
numbers_fit (c ∷ cs) [] fit = absurd fit
numbers_fit (c ∷ cs) (NumberValue n ∷ vs) fit = (number c.sort fit.0, numbers_fit cs vs fit.1)
  where
    number : (s : Sort) → IsOfSort s (NumberValue n) → FitsSigned w64 n
    number Number fits = fits
    number (Varchar2 size) fits = absurd fits
    number Clob fits = absurd fits
numbers_fit (c ∷ cs) (TextValue text ∷ vs) fit = numbers_fit cs vs fit.1

pub text_is_utf8 : (s : Sort) (v : Value) (text : List ℕ) → IsOfSort s v → as_text v ≡ Some text → IsUtf8 text
text_is_utf8 Number (NumberValue n) text fits is = cc
text_is_utf8 Number (TextValue u) text fits is = absurd fits
text_is_utf8 (Varchar2 size) (NumberValue n) text fits is = cc
text_is_utf8 (Varchar2 size) (TextValue u) text fits is = let e : u ≡ text = cc in subst IsUtf8 e fits.1
text_is_utf8 Clob (NumberValue n) text fits is = cc
text_is_utf8 Clob (TextValue u) text fits is = let e : u ≡ text = cc in subst IsUtf8 e fits.1

pub texts_are_utf8 : (cs : List Column) (vs : List Value) (place : ℕ) (text : List ℕ) → FitColumns cs vs → text_in vs place ≡ Some text → IsUtf8 text
texts_are_utf8 cs [] place text fit is = cc
texts_are_utf8 [] (v ∷ vs) place text fit is = absurd fit
texts_are_utf8 (c ∷ cs) (v ∷ vs) zero text fit is = text_is_utf8 c.sort v text fit.0 is
texts_are_utf8 (c ∷ cs) (v ∷ vs) (suc place) text fit is = texts_are_utf8 cs vs place text fit.1 is

-- the numbers that are read are the row's
pub numbers_read : (f : Key → Option (List ℕ)) (ts : Tables) → TablesStand f ts → AreTables ts → (t : List ℕ) (r : ℤ) → IsRow r → (found : Option (List ℤ)) → SpellsNumbers (f (key kind.RowNumbers t (row_part r))) found
    → found ≡ option_map numbers_of (row_at ts t r)
numbers_read f ts stand are t r row found spelt = numbers_one (f (key kind.RowNumbers t (row_part r))) found (option_map numbers_of (row_at ts t r)) spelt (go (row_at ts t r) refl (stand.numbers t r row))
  where
    go : (o : Option (List Value)) → row_at ts t r ≡ o → f (key kind.RowNumbers t (row_part r)) ≡ option_map (λ vs. row_numbers_bytes (numbers_of vs)) o → SpellsNumbers (f (key kind.RowNumbers t (row_part r))) (option_map numbers_of o)
    go None is e = λ zs whole. let wrong : None ≡ Some (row_numbers_bytes zs) = sym e ∙ whole in cc
    go (Some vs) is e = (let fit = row_fits ts are t r vs is in numbers_fit fit.0 vs fit.1, e)

-- an entry is there exactly where the row is
pub row_read : (f : Key → Option (List ℕ)) (ts : Tables) → TablesStand f ts → (t : List ℕ) (r : ℤ) → IsRow r → is_some (f (key kind.RowNumbers t (row_part r))) ≡ is_some (row_at ts t r)
row_read f ts stand t r row = ap is_some (stand.numbers t r row) ∙ go (row_at ts t r)
  where
    go : (o : Option (List Value)) → is_some (option_map (λ vs. row_numbers_bytes (numbers_of vs)) o) ≡ is_some o
    go None = refl
    go (Some vs) = refl

-- the text that is read is the one of the row in the column
pub text_read : (f : Key → Option (List ℕ)) (ts : Tables) → TablesStand f ts → AreTables ts → (t : List ℕ) (column : ℕ) (r : ℤ) → column < 256 → IsRow r → (found : Option (List ℕ)) → SpellsText (f (key kind.RowTexts t (text_part column r))) found
    → found ≡ option_and_then (λ vs. text_in_column vs column) (row_at ts t r)
text_read f ts stand are t column r few row found spelt =
    text_one (f (key kind.RowTexts t (text_part column r))) found (option_and_then (λ vs. text_in_column vs column) (row_at ts t r)) spelt
    (go (option_and_then (λ vs. text_in_column vs column) (row_at ts t r)) refl (stand.texts t column r few row))
  where
    of_column : (column : ℕ) (vs : List Value) (text : List ℕ) → row_at ts t r ≡ Some vs → text_in_column vs column ≡ Some text → IsUtf8 text
    of_column zero vs text is e = cc
    of_column (suc place) vs text is e = let fit = row_fits ts are t r vs is in texts_are_utf8 fit.0 vs place text fit.1 e

    utf8 : (o : Option (List Value)) (text : List ℕ) → row_at ts t r ≡ o → option_and_then (λ vs. text_in_column vs column) o ≡ Some text → IsUtf8 text
    utf8 None text is e = cc
    utf8 (Some vs) text is e = of_column column vs text is e

    go : (o : Option (List ℕ)) → option_and_then (λ vs. text_in_column vs column) (row_at ts t r) ≡ o → f (key kind.RowTexts t (text_part column r)) ≡ o → SpellsText (f (key kind.RowTexts t (text_part column r))) o
    go None is e = λ text utf whole. let wrong : None ≡ Some text = sym e ∙ whole in cc
    go (Some text) is e = (utf8 (row_at ts t r) text refl is, e)

-- ---- the keys of rows

-- the value of a row's entry of numbers
row_value : List Value → Option (List ℕ)
row_value vs = Some (row_numbers_bytes (numbers_of vs))

at_row : (o : Option (List Value)) → option_map (λ vs. row_numbers_bytes (numbers_of vs)) o ≡ option_and_then row_value o
unfolding row_value
at_row None = refl
at_row (Some vs) = refl

all_keys_listed : (es : List (ℤ × List Value)) → keys_where row_value es ≡ map (λ e. e.0) es
unfolding row_value
all_keys_listed es = keys_always (λ vs. row_numbers_bytes (numbers_of vs)) es

-- the rows that are listed are the table's
pub rows_read : (c : Content) (ts : Tables) → HasKeysOnly c → TablesStand (at c) ts → AreTables ts → (t : List ℕ) → rows_under kind.RowNumbers t c ≡ row_keys ts t
rows_read c ts only stand are t = go (get ts t) refl
  where
    go : (o : Option Table) → get ts t ≡ o → rows_under kind.RowNumbers t c ≡ keys_in o
    go None is =
        rows_listed row_value c kind.RowNumbers t empty only (λ q p. p) (λ r vs e. let wrong : None ≡ Some vs = sym (get-empty int_cmp r) ∙ e in cc)
        (λ r row. stand.numbers t r row ∙ ap (λ (o : Option Table). option_map (λ vs. row_numbers_bytes (numbers_of vs)) (row_in o r)) is ∙ sym (ap (option_and_then row_value) (get-empty int_cmp r)))
        ∙ ap (keys_where row_value) (entries-none int_cmp)
    go (Some x) is =
        rows_listed row_value c kind.RowNumbers t x.rows only (λ q p. p) (are.each t x is).keys
        (λ r row. stand.numbers t r row ∙ ap (λ (o : Option Table). option_map (λ vs. row_numbers_bytes (numbers_of vs)) (row_in o r)) is ∙ at_row (get x.rows r))
        ∙ all_keys_listed (entries x.rows)

-- the next row is the next of the table's
pub next_read : (c : Content) (ts : Tables) → HasKeysOnly c → TablesStand (at c) ts → AreTables ts → (t : List ℕ) (after : Option ℤ) → IsPlace after → row_after after kind.RowNumbers t c ≡ first_of (rows_above after (row_keys ts t))
next_read c ts only stand are t after place = go (get ts t) refl
  where
    go : (o : Option Table) → get ts t ≡ o → row_after after kind.RowNumbers t c ≡ first_of (rows_above after (keys_in o))
    go None is =
        next_row_listed row_value c kind.RowNumbers t empty only (λ q p. p) (λ r vs e. let wrong : None ≡ Some vs = sym (get-empty int_cmp r) ∙ e in cc)
        (λ r row. stand.numbers t r row ∙ ap (λ (o : Option Table). option_map (λ vs. row_numbers_bytes (numbers_of vs)) (row_in o r)) is ∙ sym (ap (option_and_then row_value) (get-empty int_cmp r))) after place
        ∙ ap (λ (es : List (ℤ × List Value)). first_of (rows_above after (keys_where row_value es))) (entries-none int_cmp)
    go (Some x) is =
        next_row_listed row_value c kind.RowNumbers t x.rows only (λ q p. p) (are.each t x is).keys
        (λ r row. stand.numbers t r row ∙ ap (λ (o : Option Table). option_map (λ vs. row_numbers_bytes (numbers_of vs)) (row_in o r)) is ∙ at_row (get x.rows r)) after place
        ∙ ap (λ (rs : List ℤ). first_of (rows_above after rs)) (all_keys_listed (entries x.rows))

-- ---- the names of tables

-- no name stands after greater ones
not_above : (t : List ℕ) (us : List (List ℕ)) → all_above t us ≡ true → is_any_of t us ≡ false
not_above t [] h = refl
not_above t (u ∷ us) h =
    let b = and_parts (is_lt (slice_cmp nat_cmp t u)) (all_above t us) h in
    at_head (same_list t u) refl (not_above t us b.1)
  where
    at_head : (s : Bool) → same_list t u ≡ s → is_any_of t us ≡ false → (s || is_any_of t us) ≡ false
    at_head true one rest =
        let same : t ≡ u = list_from_same t u one in
        let wrong : is_lt (slice_cmp nat_cmp t t) ≡ true = subst (λ (v : List ℕ). is_lt (slice_cmp nat_cmp t v) ≡ true) (sym same) (and_parts (is_lt (slice_cmp nat_cmp t u)) (all_above t us) h).0 in
        let tied : slice_cmp nat_cmp t t ≡ Equal = tied_itself nat_list_cmp_total t in
        cc
    at_head false one rest = rest

below_among : (t u : List ℕ) (us : List (List ℕ)) → all_above t us ≡ true → is_any_of u us ≡ true → is_lt (slice_cmp nat_cmp t u) ≡ true
below_among t u [] h there = cc
below_among t u (v ∷ us) h there =
    let b = and_parts (is_lt (slice_cmp nat_cmp t v)) (all_above t us) h in
    at_head (same_list u v) refl b.0 there (below_among t u us b.1)
  where
    at_head : (s : Bool) → same_list u v ≡ s → is_lt (slice_cmp nat_cmp t v) ≡ true → (s || is_any_of u us) ≡ true → (is_any_of u us ≡ true → is_lt (slice_cmp nat_cmp t u) ≡ true) → is_lt (slice_cmp nat_cmp t u) ≡ true
    at_head true one low there rest = subst (λ (x : List ℕ). is_lt (slice_cmp nat_cmp t x) ≡ true) (sym (list_from_same u v one)) low
    at_head false one low there rest = rest there

not_both_ways : (t u : List ℕ) → is_lt (slice_cmp nat_cmp t u) ≡ true → is_lt (slice_cmp nat_cmp u t) ≡ true → ⊥
not_both_ways t u p q = go (slice_cmp nat_cmp u t) (nat_list_cmp_total.antisymm t u) p q
  where
    go : (o : Ordering) → slice_cmp nat_cmp t u ≡ ordering_reverse o → is_lt (slice_cmp nat_cmp t u) ≡ true → is_lt o ≡ true → ⊥
    go Less e p q = let wrong : is_lt (slice_cmp nat_cmp t u) ≡ false = ap is_lt e in cc
    go Equal e p q = cc
    go Greater e p q = cc

-- names that rise and are the same ones are one list
pub same_names : (xs ys : List (List ℕ)) → names_rise xs ≡ true → names_rise ys ≡ true → ((t : List ℕ) → is_any_of t xs ≡ is_any_of t ys) → xs ≡ ys
same_names [] [] up down same = refl
same_names [] (y ∷ ys) up down same = let e : false ≡ true = same y ∙ ap (λ (b : Bool). b || is_any_of y ys) (list_same y) in cc
same_names (x ∷ xs) [] up down same = let e : true ≡ false = sym (ap (λ (b : Bool). b || is_any_of x xs) (list_same x)) ∙ same x in cc
same_names (x ∷ xs) (y ∷ ys) up down same =
    let a = and_parts (all_above x xs) (names_rise xs) up in
    let b = and_parts (all_above y ys) (names_rise ys) down in
    let head : x ≡ y = first (same_list x y) refl (same_list y x) refl a.0 b.0 in
    let rest : xs ≡ ys = same_names xs ys a.1 b.1 (λ t. end t head a.0 b.0 (same_list t x) refl) in
    λ i. head i ∷ rest i
  where
    first : (p : Bool) → same_list x y ≡ p → (q : Bool) → same_list y x ≡ q → all_above x xs ≡ true → all_above y ys ≡ true → x ≡ y
    first true one q other a b = list_from_same x y one
    first false one true other a b = sym (list_from_same y x other)
    first false one false other a b =
        let x_there : is_any_of x ys ≡ true = sym (ap (λ (b : Bool). b || is_any_of x ys) one) ∙ sym (same x) ∙ ap (λ (b : Bool). b || is_any_of x xs) (list_same x) in
        let y_there : is_any_of y xs ≡ true = sym (ap (λ (b : Bool). b || is_any_of y xs) other) ∙ same y ∙ ap (λ (b : Bool). b || is_any_of y ys) (list_same y) in
        absurd (not_both_ways y x (below_among y x ys b x_there) (below_among x y xs a y_there))

    end : (t : List ℕ) → x ≡ y → all_above x xs ≡ true → all_above y ys ≡ true → (s : Bool) → same_list t x ≡ s → is_any_of t xs ≡ is_any_of t ys
    end t head a b true one =
        let here : t ≡ x = list_from_same t x one in
        let left : is_any_of t xs ≡ false = ap (λ (v : List ℕ). is_any_of v xs) here ∙ not_above x xs a in
        let right : is_any_of t ys ≡ false = ap (λ (v : List ℕ). is_any_of v ys) (here ∙ head) ∙ not_above y ys b in
        left ∙ sym right
    end t head a b false one =
        let other : same_list t y ≡ false = ap (same_list t) (sym head) ∙ one in
        sym (ap (λ (b : Bool). b || is_any_of t xs) one) ∙ same t ∙ ap (λ (b : Bool). b || is_any_of t ys) other

keys_rise : {X : Type 0} (es : List (List ℕ × X)) → rises (slice_cmp nat_cmp) es ≡ true → names_rise (map (λ e. e.0) es) ≡ true
keys_rise [] h = refl
keys_rise {X} (e ∷ es) h =
    let b = and_parts (below (slice_cmp nat_cmp) e.0 es) (rises (slice_cmp nat_cmp) es) h in
    and_from _ _ (lower e.0 es b.0) (keys_rise es b.1)
  where
    lower : (t : List ℕ) (es : List (List ℕ × X)) → below (slice_cmp nat_cmp) t es ≡ true → all_above t (map (λ e. e.0) es) ≡ true
    lower t [] h = refl
    lower t (e ∷ es) h = let b = and_parts (is_lt (slice_cmp nat_cmp t e.0)) (below (slice_cmp nat_cmp) t es) h in and_from _ _ b.0 (lower t es b.1)

-- the names that are listed are the tables'
pub tables_read : (c : Content) (ts : Tables) → TablesStand (at c) ts → AreTables ts → (names : List (List ℕ)) → AreTableNames c names → names ≡ map (λ e. e.0) (entries ts)
tables_read c ts stand are names listed =
    same_names names (map (λ e. e.0) (entries ts)) listed.rising (keys_rise (entries ts) (entries_rise (slice_cmp nat_cmp) ts)) (λ t.
    listed.each t ∙ ap (λ (o : Option (List ℕ)). is_kept t && is_some o) (stand.tables t) ∙ is_there t (get ts t) refl ∙ contains_key-keys ts t ∙ alike t (map (λ e. e.0) (entries ts)))
  where
    is_there : (t : List ℕ) (o : Option Table) → get ts t ≡ o → (is_kept t && is_some (option_map (λ (x : Table). columns_bytes x.columns) o)) ≡ is_some (get ts t)
    is_there t None is = neither (is_kept t) ∙ sym (ap is_some is)
      where
        neither : (b : Bool) → (b && false) ≡ false
        neither true = refl
        neither false = refl
    is_there t (Some x) is = ap (λ (b : Bool). b && true) (name_is_kept t (are.names t x is)) ∙ sym (ap is_some is)

    alike : (t : List ℕ) (us : List (List ℕ)) → list_any (eq_by_cmp (slice_cmp nat_cmp) t) us ≡ is_any_of t us
    alike t [] = refl
    alike t (u ∷ us) = ap (λ (b : Bool). b || list_any (eq_by_cmp (slice_cmp nat_cmp) t) us) (names_tie t u) ∙ ap (λ (b : Bool). same_list t u || b) (alike t us)
