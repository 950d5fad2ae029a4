-- How many texts are read of rows: what calls add up to, and of which columns the texts are that names ask for.
use Rattle.std.proofs.Common.{◌≡◌, ◌<◌, ◌≤◌, ◌+◌, ◌-◌, ℕ, suc, Bool, true, false, cond, eqb, eq-eqb, List, [], ◌∷◌, length, get_or, refl, ap, ◌∙◌, subst, arith}
use Rattle.std.specs.Prelude.{◌&&◌, ◌||◌, nat_lt, filter}
use Rattle.std.specs.List.{list_all}
use Rattle.std.proofs.lemmas.Bool.{and_from, both_ways, true_from_ne_false}
use Rattle.std.proofs.lemmas.List.Folds.{list_all_at}
use Rattle.ct_base.specs.laws.Bools.{and_weaker}
use Rattle.ct_keep.specs.KeeperViews.{Counts}
use Rattle.ct_keep.specs.Looks.{RisesBy}
use Rattle.ct_entry.specs.Keys.{same_list}
use Rattle.ct_entry.specs.laws.Keys.{list_from_same, list_same}
use Rattle.st_parse.specs.declared.statements.Cond.{Cond}
use Rattle.tb_table.specs.declared.columns.Sort.{Sort}
use Rattle.tb_table.specs.declared.columns.Sort.TheVariants.{Number as NumberSort, Varchar2, Clob}
use Rattle.tb_table.specs.declared.columns.Column.{Column}
use Rattle.db_rows.specs.Checking.{cond_column, cond_columns}
use Rattle.db_rows.specs.Sources.{number_source, source_by, source_from, source_of, text_source, with_sort}
use Rattle.ix_kinds.specs.Targets.{is_text_sort}
use Rattle.db_rows.specs.Texts.{HasFewerLeft, RisesLeaving, conds_among, is_named, is_unread, places_from, reads_among, passing_text_places, texts_alone, texts_left}
use Rattle.db_rows.specs.declared.reading.RowRead.{RowRead}
use Rattle.db_rows.specs.declared.sources.Source.{Source}
use Rattle.db_rows.specs.declared.sources.Source.TheVariants.{Key, Number, Text, Nothing}

-- ---- what calls add up to

-- nothing was looked up
pub leaves_still : (n left : ℕ) (c : Counts) → left ≤ n → RisesLeaving (texts_alone n) left c c
leaves_still n left c few = record { texts = omega (arith, few); rows = omega arith; rules = omega arith }

-- one call after another, which looked up no more than was left
pub leaves_then : (most : Counts) (middle left : ℕ) (x y z : Counts) → RisesLeaving most middle x y → RisesLeaving (texts_alone middle) left y z → RisesLeaving most left x z
leaves_then most middle left x y z first second =
    let texts : z.texts + left ≤ y.texts + middle = second.texts in
    record { texts = omega (arith, first.texts, texts); rows = omega (arith, first.rows, second.rows); rules = omega (arith, first.rules, second.rules) }

-- more may be looked up, and fewer are left
pub rises_within : (n most left fewer : ℕ) (x y : Counts) → n ≤ most → fewer ≤ left → RisesLeaving (texts_alone n) left x y → RisesLeaving (texts_alone most) fewer x y
rises_within n most left fewer x y more few rises =
    let texts : y.texts + left ≤ x.texts + n = rises.texts in
    record { texts = omega (arith, texts, more, few); rows = rises.rows; rules = rises.rules }

-- what is left is looked up, of which so many texts are left
pub rises_on : (most : Counts) (left one rest : ℕ) (x y z : Counts) → left ≡ one + rest → RisesLeaving most left x y → RisesBy (texts_alone one) y z → RisesLeaving most rest x z
rises_on most left one rest x y z parts first second =
    let texts : z.texts ≤ y.texts + one = second.texts in
    record { texts = omega (arith, parts, first.texts, texts); rows = omega (arith, first.rows, second.rows); rules = omega (arith, first.rules, second.rules) }

-- whatever is left isn't looked up any more
pub rises_given : (most : Counts) (left : ℕ) (x y : Counts) → RisesLeaving most left x y → RisesLeaving most 0 x y
rises_given most left x y rises = record { texts = omega (arith, rises.texts); rows = rises.rows; rules = rises.rules }

pub rises_end : (most : Counts) (left : ℕ) (x y : Counts) → RisesLeaving most left x y → RisesBy most x y
rises_end most left x y rises = record { texts = omega (arith, rises.texts); rows = rises.rows; rules = rises.rules }

pub rises_leaving : (most x y : Counts) → RisesBy most x y → RisesLeaving most 0 x y
rises_leaving most x y rises = record { texts = omega (arith, rises.texts); rows = rises.rows; rules = rises.rules }

-- ---- one of a list

pub all_at : {X : Type 0} (p : X → Bool) (xs : List X) (i : ℕ) (x : X) → i < length xs → x ≡ get_or xs i x → list_all p xs ≡ true → p x ≡ true
all_at p xs i x within at all = ap p at ∙ true_from_ne_false (p (get_or xs i x)) (λ none. both_ways (list_all p xs) (list_all_at p xs i x within none) all)

-- ---- fewer places

module _ {X : Type 0} (p q : X → Bool) (weaker : (x : X) → p x ≡ true → q x ≡ true) where
  -- where one test follows from another, it is passed by no fewer
  pub fewer_pass : (xs : List X) → length (filter p xs) ≤ length (filter q xs)
  fewer_pass [] = omega arith
  fewer_pass (x ∷ xs) = go (p x) (q x) (weaker x) (fewer_pass xs)
    where
      go : (a b : Bool) → (a ≡ true → b ≡ true) → length (filter p xs) ≤ length (filter q xs) → length (cond a (x ∷ filter p xs) (filter p xs)) ≤ length (cond b (x ∷ filter q xs) (filter q xs))
      go true true one rest = omega (arith, rest)
      go true false one rest = let wrong : false ≡ true = one refl in absurd (cc)
      go false true one rest = omega (arith, rest)
      go false false one rest = rest

pub most_pass : {X : Type 0} (p : X → Bool) (xs : List X) → length (filter p xs) ≤ length xs
most_pass p [] = omega arith
most_pass p (x ∷ xs) = go (p x) (most_pass p xs)
  where
    go : (b : Bool) → length (filter p xs) ≤ length xs → length (cond b (x ∷ filter p xs) (filter p xs)) ≤ length (x ∷ xs)
    go true rest = omega (arith, rest)
    go false rest = omega (arith, rest)

-- of columns no more texts are left than there are columns
pub left_within : (places : List ℕ) (read : RowRead) → texts_left places read ≤ length places
left_within places read = most_pass (is_unread read.texts.items) places

module _ (test : ℕ → Bool) (place : ℕ) (some all : List ℕ) (rest : length (filter test some) ≤ length (filter test all)) where
  longer_both : (t : Bool) → length (cond t (place ∷ filter test some) (filter test some)) ≤ length (cond t (place ∷ filter test all) (filter test all))
  longer_both true = omega (arith, rest)
  longer_both false = rest

  longer_all : (t : Bool) → length (filter test some) ≤ length (cond t (place ∷ filter test all) (filter test all))
  longer_all true = omega (arith, rest)
  longer_all false = rest

  longer_by : (a b : Bool) → (a ≡ true → b ≡ true) → length (filter test (cond a (place ∷ some) some)) ≤ length (filter test (cond b (place ∷ all) all))
  longer_by true true weaker = longer_both (test place)
  longer_by true false weaker = let wrong : false ≡ true = weaker refl in absurd (cc)
  longer_by false true weaker = longer_all (test place)
  longer_by false false weaker = rest

fewer_from : (test : ℕ → Bool) (p q : Column → Bool) → ((c : Column) → p c ≡ true → q c ≡ true) → (place : ℕ) (cs : List Column)
    → length (filter test (places_from place p cs)) ≤ length (filter test (places_from place q cs))
fewer_from test p q weaker place [] = omega arith
fewer_from test p q weaker place (c ∷ cs) =
    longer_by test place (places_from (suc place) p cs) (places_from (suc place) q cs) (fewer_from test p q weaker (suc place) cs) (p c) (q c) (weaker c)

-- where one test follows from another, no more texts are left of the columns that pass it
pub fewer_places : (p q : Column → Bool) → ((c : Column) → p c ≡ true → q c ≡ true) → (columns : List Column) → HasFewerLeft (passing_text_places p columns) (passing_text_places q columns)
fewer_places p q weaker columns read =
    fewer_from (is_unread read.texts.items) (λ c. is_text_sort c.sort && p c) (λ c. is_text_sort c.sort && q c) (λ c. and_weaker (is_text_sort c.sort) (p c) (q c) (weaker c)) 0 columns

-- ---- where columns are asked for by their names

pub either_first : (a b : Bool) → a ≡ true → (a || b) ≡ true
either_first true b is = refl
either_first false b is = absurd (cc)

pub either_second : (a b : Bool) → b ≡ true → (a || b) ≡ true
either_second true b is = refl
either_second false b is = is

-- a column of this name passes the test
abbrev pub HasNamed : (Column → Bool) → List ℕ → Type 0
HasNamed test name = (c : Column) → same_list name c.name ≡ true → test c ≡ true

among_more : (place : ℕ) (places : List ℕ) (s : Source) → reads_among places s ≡ true → reads_among (place ∷ places) s ≡ true
among_more place places Key is = refl
among_more place places (Number n) is = refl
among_more place places (Text column) is = either_second (eqb column place) _ is
among_more place places Nothing is = refl

among_later : (place : ℕ) (places : List ℕ) (b : Bool) (s : Source) → reads_among places s ≡ true → reads_among (cond b (place ∷ places) places) s ≡ true
among_later place places true s is = among_more place places s is
among_later place places false s is = is

numbers_among : (places : List ℕ) (before : ℕ) → reads_among places (number_source before) ≡ true
numbers_among places before = go (eqb before 0)
  where
    go : (b : Bool) → reads_among places (cond b Key (Number (before - 1))) ≡ true
    go true = refl
    go false = refl

text_among : (place : ℕ) (b : Bool) (places : List ℕ) → b ≡ true → reads_among (cond b (place ∷ places) places) (text_source place) ≡ true
text_among place true places is = go (nat_lt place 256)
  where
    go : (b : Bool) → reads_among (place ∷ places) (cond b (Text place) Nothing) ≡ true
    go true = either_first (eqb place place) _ (eq-eqb place place refl)
    go false = refl
text_among place false places is = absurd (cc)

here_among : (place before : ℕ) (s : Sort) (b : Bool) (places : List ℕ) → b ≡ true → reads_among (cond (is_text_sort s && b) (place ∷ places) places) (source_by s place before) ≡ true
here_among place before NumberSort b places is = numbers_among places before
here_among place before (Varchar2 size) b places is = text_among place b places is
here_among place before Clob b places is = text_among place b places is

module _ (test : Column → Bool) (name : List ℕ) (named : HasNamed test name) where
  from_among : (place before : ℕ) (cs : List Column) → reads_among (places_from place (λ c. is_text_sort c.sort && test c) cs) (source_from place before name cs) ≡ true
  from_among place before [] = refl
  from_among place before (c ∷ cs) = go (same_list name c.name) refl (from_among (suc place) (with_sort c.sort before) cs)
    where
      go : (b : Bool) → same_list name c.name ≡ b → reads_among (places_from (suc place) (λ c. is_text_sort c.sort && test c) cs) (source_from (suc place) (with_sort c.sort before) name cs) ≡ true
          → reads_among (places_from place (λ c. is_text_sort c.sort && test c) (c ∷ cs)) (cond b (source_by c.sort place before) (source_from (suc place) (with_sort c.sort before) name cs)) ≡ true
      go true same rest = here_among place before c.sort (test c) (places_from (suc place) (λ c. is_text_sort c.sort && test c) cs) (named c same)
      go false other rest =
          among_later place (places_from (suc place) (λ c. is_text_sort c.sort && test c) cs) (is_text_sort c.sort && test c) (source_from (suc place) (with_sort c.sort before) name cs) rest

-- WHAT A NAME ASKS FOR is a text of one of the columns that pass the test, or no text.
pub named_among : (test : Column → Bool) (columns : List Column) (name : List ℕ) → HasNamed test name → reads_among (passing_text_places test columns) (source_of name columns) ≡ true
named_among test columns name named = from_among test name named 0 0 columns

pub same_list_back : (xs ys : List ℕ) → same_list xs ys ≡ true → same_list ys xs ≡ true
same_list_back xs ys same = subst (λ (zs : List ℕ). same_list zs xs ≡ true) (list_from_same xs ys same) (list_same xs)

-- the conditions are on columns that pass the test
pub conds_named : (test : Column → Bool) (columns : List Column) (conds : List Cond) → ((c : Column) → is_named (cond_columns conds) c ≡ true → test c ≡ true)
    → conds_among (passing_text_places test columns) columns conds ≡ true
conds_named test columns [] each = refl
conds_named test columns (d ∷ conds) each =
    and_from _ _ (named_among test columns (cond_column d) (λ c same. each c (either_first _ _ (same_list_back (cond_column d) c.name same))))
    (conds_named test columns conds (λ c is. each c (either_second (same_list c.name (cond_column d)) _ is)))
