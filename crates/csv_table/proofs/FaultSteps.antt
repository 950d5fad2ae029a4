-- How the cause of a refusal is found.
use Rattle.std.proofs.Common.{◌≡◌, ◌<◌, ◌≤◌, ◌+◌, ◌-◌, ℕ, zero, suc, Bool, true, false, List, [], ◌∷◌, ◌++◌, Some, None, Option, length, length-append, take, drop, get_or, map, append_assoc, ℤ, refl, sym, ap, ◌∙◌, subst, inl, inr, arith}
use Rattle.std.specs.Prelude.{◌⊎◌, ◌==◌, ◌&&◌, ◌||◌, IsUtf8, bytes_eq, is_none, is_some, not}
use Rattle.std.specs.Char.{to_ascii_lowercase}
use Rattle.std.specs.Cmp.{int_eq_equiv}
use Rattle.std.specs.List.{AllByRecursion, IsDistinct, list_any}
use Rattle.std.specs.Ordering.{int_eq}
use Rattle.std.proofs.lemmas.Bool.{cases_Bool, false≢true}
use Rattle.ct_base.specs.Limits.{text_limit}
use Rattle.ct_base.specs.Names.{is_spelling}
use Rattle.csv.specs.Reading.{AreRecords, default_config, strip_bom}
use Rattle.csv.specs.Records.{field_at}
use Rattle.csv.specs.declared.parser.State.TheVariants as st
use Rattle.st_cut.specs.Cut.{first_statement}
use Rattle.st_parse.specs.Keywords.{keyword_of}
use Rattle.st_parse.specs.declared.lexemes.Keyword.{Keyword}
use Rattle.csv_table.specs.declared.refusals.Refusal.{Refusal}
use Rattle.csv_table.specs.declared.refusals.Refusal.TheVariants.{NoColumn, FieldCount, NotUtf8, TooLong, CutText, NoKey, StatementTooLong, Memory}
use Rattle.csv_table.specs.declared.tables.Column.{Column}
use Rattle.csv_table.specs.declared.tables.Row.{Row}
use Rattle.csv_table.specs.Wholes.{is_whole, whole}
use Rattle.csv_table.specs.Scripts.{statement_limit}
use Rattle.csv_table.specs.Spelling.{ended, insert_text}
use Rattle.csv_table.specs.Steps.{inserts_text}
use Rattle.csv_table.specs.Tables.{IsFullRow, IsKeyAt, IsPlainName, is_view, key_numbers, number_in, put_at}
use Rattle.csv_table.specs.Faults.{ColumnNameFault, CountFault, HasField, HasOne, HeaderFault, HeldFault, KeysFault, LongFault, NoKeyFault, RecordsFault, RowFault, TableFault, UnknownFault, Utf8Fault, WidthFault, is_key_known, is_plain_name, is_table_name, lower_names, key_numbers_at}
use Rattle.csv_table.proofs.TableSteps.{KeysSoFar, all_push, header_and_rows, map_count, next_field, with_first}

-- ---- a list that is read from its front

-- the rest, behind the elements before it
abbrev pub Follows : {X : Type 0} → List X → List X → Type 0
Follows {X} rest xs = (before : List X) × (before ++ rest ≡ xs)

module _ {X : Type 0} where
  pub follows_all : (xs : List X) → Follows xs xs
  follows_all xs = ([], refl)

  pub follows_on : (xs rest : List X) (first : X) → 1 ≤ length rest → first ≡ get_or rest 0 first → Follows rest xs → Follows (take (length rest - 1) (drop 1 rest)) xs
  follows_on xs rest first some is (before, same) =
      let later : List X = take (length rest - 1) (drop 1 rest) in
      (before ++ first ∷ [], append_assoc before (first ∷ []) later ∙ ap (λ (ys : List X). before ++ ys) (sym (with_first rest first some is)) ∙ same)

  pub follows_short : (xs rest : List X) → Follows rest xs → length rest ≤ length xs
  follows_short xs rest (before, same) =
      let long : length before + length rest ≡ length xs = sym (length-append before rest) ∙ ap length same in
      omega (arith, long)

  at_place : (before later : List X) (first d : X) → get_or (before ++ first ∷ later) (length before) d ≡ first
  at_place [] later first d = refl
  at_place (b ∷ bs) later first d = at_place bs later first d

  -- the place of the first element of the rest
  pub here : (xs rest : List X) (first d : X) → 1 ≤ length rest → first ≡ get_or rest 0 first → Follows rest xs
      → (length xs - length rest < length xs) × (get_or xs (length xs - length rest) d ≡ first)
  here xs rest first d some is (before, same) =
      let later : List X = take (length rest - 1) (drop 1 rest) in
      let long : length before + length rest ≡ length xs = sym (length-append before rest) ∙ ap length same in
      let place : length xs - length rest ≡ length before = omega (arith, long) in
      let split : before ++ first ∷ later ≡ xs = ap (λ (ys : List X). before ++ ys) (sym (with_first rest first some is)) ∙ same in
      (omega (arith, long, some), ap (λ (n : ℕ). get_or xs n d) place ∙ ap (λ (ys : List X). get_or ys (length before) d) (sym split) ∙ at_place before later first d)

module _ {X : Type 0} (P : X → Type 0) where
  pub one_first : (rest : List X) (first : X) → 1 ≤ length rest → first ≡ get_or rest 0 first → P first → HasOne P rest
  one_first rest first some is has = subst (λ (xs : List X). HasOne P xs) (sym (with_first rest first some is)) (inl has)

  pub one_later : (rest : List X) (first : X) → 1 ≤ length rest → first ≡ get_or rest 0 first → HasOne P (take (length rest - 1) (drop 1 rest)) → HasOne P rest
  one_later rest first some is one = subst (λ (xs : List X). HasOne P xs) (sym (with_first rest first some is)) (inr one)

pub one_mapped : {X Y : Type 0} (P : Y → Type 0) (f : X → Y) (xs : List X) → HasOne (λ x. P (f x)) xs → HasOne P (map f xs)
one_mapped P f [] one = one
one_mapped P f (x ∷ xs) (inl has) = inl has
one_mapped P f (x ∷ xs) (inr one) = inr (one_mapped P f xs one)

pub all_later : {X : Type 0} (P : X → Type 0) (rest : List X) (first : X) → 1 ≤ length rest → first ≡ get_or rest 0 first → P first → AllByRecursion P (take (length rest - 1) (drop 1 rest))
    → AllByRecursion P rest
all_later {X} P rest first some is has all = subst (λ (xs : List X). AllByRecursion P xs) (sym (with_first rest first some is)) (has, all)

-- ---- the fields of a record

pub field_here : (P : List ℕ → Type 0) (fields rest : List (List ℕ)) (first : List ℕ) → 1 ≤ length rest → first ≡ get_or rest 0 first → Follows rest fields → P first
    → HasField P (length fields - length rest + 1) fields
field_here P fields rest first some is follows has =
    let at = here fields rest first [] some is follows in
    (length fields - length rest, refl, at.0, subst P (sym at.1) has)

field_got : (fields : List (List ℕ)) (i : ℕ) (f : List ℕ) → field_at fields i ≡ Some f → get_or fields i [] ≡ f
unfolding field_at
field_got [] zero f is = cc
field_got [] (suc i) f is = cc
field_got (g ∷ gs) zero f is = same g f is
  where
    same : (x y : List ℕ) → Some x ≡ Some y → x ≡ y
    same x y e = cc
field_got (g ∷ gs) (suc i) f is = field_got gs i f is

-- the field that is read next isn't UTF-8
utf8_here : (fields : List (List ℕ)) (i : ℕ) (f : List ℕ) (line : ℕ) (e : Refusal) → field_at fields i ≡ Some f → (e ≡ Memory) ⊎ ((e ≡ NotUtf8 line (i + 1)) × ¬ (IsUtf8 f)) → Utf8Fault fields e
utf8_here fields i f line e at (inl is) = subst (λ (r : Refusal). Utf8Fault fields r) (sym is) tt
utf8_here fields i f line e at (inr (is, other)) =
    subst (λ (r : Refusal). Utf8Fault fields r) (sym is) (i, refl, (next_field fields i f at).0, subst (λ (t : List ℕ). ¬ (IsUtf8 t)) (sym (field_got fields i f at)) other)

-- the same, where the place and the number of the field are computed
pub utf8_at : (fields : List (List ℕ)) (i field : ℕ) (f : List ℕ) (line : ℕ) (e : Refusal) → field_at fields i ≡ Some f → field ≡ i + 1
    → (e ≡ Memory) ⊎ ((e ≡ NotUtf8 line field) × ¬ (IsUtf8 f)) → Utf8Fault fields e
utf8_at fields i field f line e at same cause = utf8_here fields i f line e at (subst (λ (n : ℕ). (e ≡ Memory) ⊎ ((e ≡ NotUtf8 line n) × ¬ (IsUtf8 f))) same cause)

pub held_here : (fields rest : List (List ℕ)) (first : List ℕ) (line : ℕ) (e : Refusal) → 1 ≤ length rest → first ≡ get_or rest 0 first → Follows rest fields
    → ((e ≡ TooLong line (length fields - length rest + 1)) × (text_limit < length first)) ⊎ ((e ≡ CutText line (length fields - length rest + 1)) × (is_none (first_statement false first) ≡ false))
    → HeldFault fields e
held_here fields rest first line e some is follows (inl (same, long)) =
    subst (λ (r : Refusal). HeldFault fields r) (sym same) (field_here (λ t. text_limit < length t) fields rest first some is follows long)
held_here fields rest first line e some is follows (inr (same, cut)) =
    subst (λ (r : Refusal). HeldFault fields r) (sym same) (field_here (λ t. is_none (first_statement false t) ≡ false) fields rest first some is follows cut)

-- ---- a row

pub row_width : (width place line : ℕ) (texts fields : List (List ℕ)) (e : Refusal) → texts ≡ fields
    → (e ≡ FieldCount line (length texts) width) × ((length texts == width) ≡ false) → RowFault width place fields e
row_width width place line texts fields e same (is, other) =
    inr (inl (subst (λ (fs : List (List ℕ)). WidthFault width fs e) same (subst (λ (r : Refusal). WidthFault width texts r) (sym is) (refl, refl, other))))

pub row_held : (width place : ℕ) (texts fields : List (List ℕ)) (e : Refusal) → texts ≡ fields → HeldFault texts e → RowFault width place fields e
row_held width place texts fields e same fault = inr (inr (inl (subst (λ (fs : List (List ℕ)). HeldFault fs e) same fault)))

pub row_key : (width place line : ℕ) (texts fields : List (List ℕ)) (key : List ℕ) (e : Refusal) → texts ≡ fields → get_or texts place [] ≡ key
    → (e ≡ Memory) ⊎ ((e ≡ NoKey line (place + 1)) × (is_whole key ≡ false)) → RowFault width place fields e
row_key width place line texts fields key e same at (inl is) = inr (inr (inr (subst (λ (r : Refusal). NoKeyFault place fields r) (sym is) tt)))
row_key width place line texts fields key e same at (inr (is, other)) =
    let none : is_whole (get_or fields place []) ≡ false = ap (λ (fs : List (List ℕ)). is_whole (get_or fs place [])) (sym same) ∙ ap is_whole at ∙ other in
    inr (inr (inr (subst (λ (r : Refusal). NoKeyFault place fields r) (sym is) (refl, none))))

pub got_at : (fields : List (List ℕ)) (i : ℕ) (x : List ℕ) → i < length fields → x ≡ get_or fields i x → get_or fields i [] ≡ x
got_at [] i x within is = absurd (omega arith)
got_at (f ∷ fs) zero x within is = sym is
got_at (f ∷ fs) (suc i) x within is = got_at fs i x (omega arith) is

-- ---- names

none_of : (b : Bool) (o : Option Keyword) → is_some o ≡ true → false ≡ (b && is_none o)
none_of true (Some k) is = refl
none_of false (Some k) is = refl
none_of true None is = is
none_of false None is = refl

both_of : (b : Bool) (o : Option Keyword) → b ≡ true → is_some o ≡ false → true ≡ (b && is_none o)
both_of true None spelt is = refl
both_of true (Some k) spelt is = is
both_of false o spelt is = sym spelt

pub keyword_told : (text name : List ℕ) → name ≡ map to_ascii_lowercase text → is_some (keyword_of name) ≡ true → false ≡ is_plain_name text
keyword_told text name same is = none_of (is_spelling text) (keyword_of (map to_ascii_lowercase text)) (ap (λ (n : List ℕ). is_some (keyword_of n)) (sym same) ∙ is)

pub plain_told : (text name : List ℕ) → is_spelling text ≡ true → name ≡ map to_ascii_lowercase text → is_some (keyword_of name) ≡ false → true ≡ is_plain_name text
plain_told text name spelt same is =
    both_of (is_spelling text) (keyword_of (map to_ascii_lowercase text)) spelt (ap (λ (n : List ℕ). is_some (keyword_of n)) (sym same) ∙ is)

pub no_name_told : (text : List ℕ) → is_spelling text ≡ false → false ≡ is_plain_name text
no_name_told text is = ap (λ (b : Bool). b && is_none (keyword_of (map to_ascii_lowercase text))) (sym is)

-- the name of a table is none, or a view's
pub no_table_name : (text : List ℕ) → false ≡ is_plain_name text → is_table_name text ≡ false
no_table_name text is = ap (λ (b : Bool). b && not (is_view (map to_ascii_lowercase text))) (sym is)

pub view_told : (text name : List ℕ) → name ≡ map to_ascii_lowercase text → is_view name ≡ true → is_table_name text ≡ false
view_told text name same is = by_plain (is_plain_name text) (is_view (map to_ascii_lowercase text)) (ap is_view (sym same) ∙ is)
  where
    by_plain : (a b : Bool) → b ≡ true → (a && not b) ≡ false
    by_plain true b is = ap not is
    by_plain false b is = refl

-- a field of the header that is no name
pub header_name : (texts header : List (List ℕ)) (e : Refusal) → texts ≡ header → ColumnNameFault texts e → HeaderFault header e
header_name texts header e same fault = inr (inl (subst (λ (fs : List (List ℕ)). ColumnNameFault fs e) same fault))

-- one name more
pub names_step : (header rest names after : List (List ℕ)) (first name : List ℕ) → 1 ≤ length rest → first ≡ get_or rest 0 first
    → (names ++ lower_names rest ≡ lower_names header) × AllByRecursion IsPlainName names × (length rest ≤ length header) × Follows rest header
    → name ≡ map to_ascii_lowercase first → IsPlainName name → after ≡ names ++ name ∷ []
    → (after ++ lower_names (take (length rest - 1) (drop 1 rest)) ≡ lower_names header) × AllByRecursion IsPlainName after × (length (take (length rest - 1) (drop 1 rest)) ≤ length header)
    × Follows (take (length rest - 1) (drop 1 rest)) header
names_step header rest names after first name some is so_far same plain pushed =
    let later : List (List ℕ) = take (length rest - 1) (drop 1 rest) in
    let next : Follows later header = follows_on header rest first some is so_far.3 in
    let texts : (names ++ name ∷ []) ++ lower_names later ≡ lower_names header =
    append_assoc names (name ∷ []) (lower_names later) ∙ ap (λ (n : List ℕ). names ++ n ∷ lower_names later) same
    ∙ ap (λ (xs : List (List ℕ)). names ++ lower_names xs) (sym (with_first rest first some is)) ∙ so_far.0 in
    subst (λ (ns : List (List ℕ)). (ns ++ lower_names later ≡ lower_names header) × AllByRecursion IsPlainName ns × (length later ≤ length header) × Follows later header) (sym pushed)
    (texts, all_push IsPlainName names name so_far.1 plain, follows_short header later next, next)

-- the name isn't the first one of the rest
pub place_step : (p : List ℕ → Bool) (names rest : List (List ℕ)) (first : List ℕ) → 1 ≤ length rest → first ≡ get_or rest 0 first → p first ≡ false
    → (list_any p rest ≡ list_any p names) × (length rest ≤ length names) × Follows rest names
    → (list_any p (take (length rest - 1) (drop 1 rest)) ≡ list_any p names) × (length (take (length rest - 1) (drop 1 rest)) ≤ length names) × Follows (take (length rest - 1) (drop 1 rest)) names
place_step p names rest first some is other so_far =
    let later : List (List ℕ) = take (length rest - 1) (drop 1 rest) in
    let next : Follows later names = follows_on names rest first some is so_far.2 in
    (ap (λ (b : Bool). b || list_any p later) (sym other) ∙ ap (list_any p) (sym (with_first rest first some is)) ∙ so_far.0, follows_short names later next, next)

-- the name is the first one of the rest
pub place_told : (p : List ℕ → Bool) (names rest : List (List ℕ)) (first : List ℕ) → 1 ≤ length rest → first ≡ get_or rest 0 first → p first ≡ true → list_any p rest ≡ list_any p names
    → true ≡ list_any p names
place_told p names rest first some is same so_far =
    let later : List (List ℕ) = take (length rest - 1) (drop 1 rest) in
    ap (λ (b : Bool). b || list_any p later) (sym same) ∙ ap (list_any p) (sym (with_first rest first some is)) ∙ so_far

-- the key's name is no name, or no column has it
pub no_name_key : (key : List ℕ) (names : List (List ℕ)) → false ≡ is_plain_name key → is_key_known (Some key) names ≡ false
no_name_key key names is = ap (λ (b : Bool). b && list_any (bytes_eq (map to_ascii_lowercase key)) names) (sym is)

pub no_column_key : (key name : List ℕ) (names : List (List ℕ)) → name ≡ map to_ascii_lowercase key → false ≡ list_any (bytes_eq name) names → is_key_known (Some key) names ≡ false
no_column_key key name names same none = by_plain (is_plain_name key) (list_any (bytes_eq (map to_ascii_lowercase key)) names) (ap (λ (n : List ℕ). list_any (bytes_eq n) names) (sym same) ∙ sym none)
  where
    by_plain : (a b : Bool) → b ≡ false → (a && b) ≡ false
    by_plain true b is = is
    by_plain false b is = refl

-- ---- the keys

all_middle : {X : Type 0} (P : X → Type 0) (xs later : List X) (x : X) → AllByRecursion P (xs ++ x ∷ later) → P x
all_middle P [] later x all = all.0
all_middle P (y ∷ ys) later x all = all_middle P ys later x all.1

twice : (seen later : List ℤ) (n : ℤ) → list_any (int_eq n) seen ≡ true → IsDistinct int_eq (seen ++ n ∷ later) → ⊥
unfolding IsDistinct
twice [] later n any apart = false≢true any
twice (x ∷ xs) later n any apart = elim (cases_Bool (int_eq n x)) [
  | inl is ↦
      let other : int_eq x n ≡ false = all_middle (λ y. int_eq x y ≡ false) xs later n apart.0 in
      false≢true (sym other ∙ sym (int_eq_equiv.symm n x) ∙ is)
  | inr other ↦ twice xs later n (rw other at any) apart.1
]

-- a key that the map has
pub keys_twice : (all : List ℤ) (rest : List Row) (row : Row) (has : ℤ → Bool) → 1 ≤ length rest → row ≡ get_or rest 0 row → KeysSoFar all (key_numbers rest) has
    → has (number_in (whole row.key)) ≡ true → IsDistinct int_eq all → ⊥
keys_twice all rest row has some is so_far told apart =
    let n : ℤ = number_in (whole row.key) in
    let later : List Row = take (length rest - 1) (drop 1 rest) in
    let split : so_far.seen ++ n ∷ key_numbers later ≡ all = ap (λ (rs : List Row). so_far.seen ++ key_numbers rs) (sym (with_first rest row some is)) ∙ so_far.whole in
    twice so_far.seen (key_numbers later) n (sym (so_far.told n) ∙ told) (subst (λ (ns : List ℤ). IsDistinct int_eq ns) (sym split) apart)

got_put : (place : ℕ) (x : List ℕ) (xs : List (List ℕ)) → place ≤ length xs → get_or (put_at place x xs) place [] ≡ x
got_put zero x [] within = refl
got_put zero x (y ∷ ys) within = refl
got_put (suc place) x [] within = absurd (omega arith)
got_put (suc place) x (y ∷ ys) within = got_put place x ys (omega arith)

numbers_put : (count place : ℕ) (rows : List Row) → place ≤ count → AllByRecursion (IsFullRow count) rows → key_numbers rows ≡ key_numbers_at place (map (λ r. put_at place r.key r.values) rows)
numbers_put count place [] within all = refl
numbers_put count place (r ∷ rs) within all =
    let full : length r.values ≡ count = all.0.full in
    let key : get_or (put_at place r.key r.values) place [] ≡ r.key = got_put place r.key r.values (omega (arith, full, within)) in
    ap (λ (k : List ℕ). number_in (whole k) ∷ key_numbers rs) (sym key)
    ∙ ap (λ (ns : List ℤ). number_in (whole (get_or (put_at place r.key r.values) place [])) ∷ ns) (numbers_put count place rs within all.1)

-- ---- the table

pub by_key : (key : Option (List ℕ)) (header names : List (List ℕ)) (rows : List (List (List ℕ))) (e : Refusal) → lower_names header ≡ names → UnknownFault key names e → RecordsFault key header rows e
by_key key header names rows e lower fault = inr (inl (subst (λ (ns : List (List ℕ)). UnknownFault key ns e) (sym lower) fault))

pub by_count : {X : Type 0} (f : X → List (List ℕ)) (key : Option (List ℕ)) (header : List (List ℕ)) (records : List X) (e : Refusal) → CountFault (length records) e
    → RecordsFault key header (map f records) e
by_count f key header records e fault = inr (inr (inl (subst (λ (n : ℕ). CountFault n e) (sym (map_count f records)) fault)))

pub by_row : {X : Type 0} (f : X → List (List ℕ)) (key : Option (List ℕ)) (header names : List (List ℕ)) (records : List X) (place : ℕ) (e : Refusal) → lower_names header ≡ names
    → IsKeyAt key place names
    → HasOne (λ r. RowFault (length names) place (f r) e) records → RecordsFault key header (map f records) e
by_row f key header names records place e lower at one =
    let wide : length names ≡ length header = ap length (sym lower) ∙ map_count (map to_ascii_lowercase) header in
    let rows : HasOne (λ fields. RowFault (length names) place fields e) (map f records) = one_mapped (λ fields. RowFault (length names) place fields e) f records one in
    inr (inr (inr (place, subst (λ (ns : List (List ℕ)). IsKeyAt key place ns) (sym lower) at, inl (subst (λ (n : ℕ). HasOne (λ fields. RowFault n place fields e) (map f records)) wide rows))))

pub by_keys : {X : Type 0} (f : X → List (List ℕ)) (key : Option (List ℕ)) (header names : List (List ℕ)) (records : List X) (place count : ℕ) (rows : List Row) (e : Refusal)
    → lower_names header ≡ names
    → IsKeyAt key place names → place < length names → map (λ r. put_at place r.key r.values) rows ≡ map f records
    → ((some : ℕ) → some + 1 ≡ length names → AllByRecursion (IsFullRow some) rows) → count + 1 ≡ length names → KeysFault (key_numbers rows) e → RecordsFault key header (map f records) e
by_keys f key header names records place count rows e lower at within same full wide fault =
    let numbers : key_numbers rows ≡ key_numbers_at place (map f records) =
    numbers_put count place rows (omega (arith, within, wide)) (full count wide) ∙ ap (λ (rs : List (List (List ℕ))). key_numbers_at place rs) same in
    inr (inr (inr (place, subst (λ (ns : List (List ℕ)). IsKeyAt key place ns) (sym lower) at, inr (subst (λ (ns : List ℤ). KeysFault ns e) numbers fault))))

pub by_records : {X : Type 0} (f : X → List (List ℕ)) (text name : List ℕ) (key : Option (List ℕ)) (all records : List X) (header : X) (e : Refusal) → records ≡ all → 1 ≤ length records
    → header ≡ get_or records 0 header → AreRecords default_config st.StartRecord (strip_bom text) (map f all)
    → RecordsFault key (f header) (map f (take (length records - 1) (drop 1 records))) e → TableFault text name key e
by_records f text name key all records header e same some is are fault =
    inr (f header ∷ map f (take (length records - 1) (drop 1 records)), header_and_rows f text all records header same some is are, fault)

nothing_of : {X : Type 0} (xs : List X) → length xs < 1 → xs ≡ []
nothing_of [] none = refl
nothing_of (x ∷ xs) none = absurd (omega arith)

pub by_none : {X : Type 0} (f : X → List (List ℕ)) (text name : List ℕ) (key : Option (List ℕ)) (all records : List X) → records ≡ all → length records < 1
    → AreRecords default_config st.StartRecord (strip_bom text) (map f all) → TableFault text name key NoColumn
by_none {X} f text name key all records same none are =
    inr ([], subst (λ (xs : List X). AreRecords default_config st.StartRecord (strip_bom text) (map f xs)) (sym same ∙ nothing_of records none) are, refl)

-- ---- the statements

long_here : (line : ℕ) (text : List ℕ) (e : Refusal) → (e ≡ Memory) ⊎ ((e ≡ StatementTooLong line) × (statement_limit < length text)) → LongFault (length text) e
long_here line text e (inl is) = subst (λ (r : Refusal). LongFault (length text) r) (sym is) tt
long_here line text e (inr (is, long)) = subst (λ (r : Refusal). LongFault (length text) r) (sym is) long

pub long_of : (line : ℕ) (text made : List ℕ) (e : Refusal) → made ≡ text → (e ≡ Memory) ⊎ ((e ≡ StatementTooLong line) × (statement_limit < length made)) → LongFault (length text) e
long_of line text made e same cause = subst (λ (t : List ℕ). LongFault (length t) e) same (long_here line made e cause)

-- one INSERT more
pub inserts_step : (name : List ℕ) (columns : List Column) (out after all : List ℕ) (rest : List Row) (row : Row) (made : List ℕ) → 1 ≤ length rest → row ≡ get_or rest 0 row
    → made ≡ insert_text name columns row → after ≡ out ++ ended made → out ++ inserts_text name columns rest ≡ all
    → after ++ inserts_text name columns (take (length rest - 1) (drop 1 rest)) ≡ all
inserts_step name columns out after all rest row made some is same pushed so_far =
    let later : List Row = take (length rest - 1) (drop 1 rest) in
    ap (λ (a : List ℕ). a ++ inserts_text name columns later) pushed ∙ append_assoc out (ended made) (inserts_text name columns later)
    ∙ ap (λ (m : List ℕ). out ++ (ended m ++ inserts_text name columns later)) same ∙ ap (λ (rs : List Row). out ++ inserts_text name columns rs) (sym (with_first rest row some is)) ∙ so_far
