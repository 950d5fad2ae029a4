-- What a row keeps of values.
use Rattle.std.proofs.Common.{◌≡◌, ℕ, ℤ, suc, ◌+◌, ◌-◌, ◌^◌, ◌<◌, ◌≤◌, true, false, List, [], ◌∷◌, ◌++◌, length, map, pos, Option, Some, None, refl, sym, ap, ◌∙◌, arith, append-nil, append_assoc}
use Rattle.std.specs.Prelude.{min}
use Rattle.std.specs.List.{All, list_any, filter_map, remove}
use Rattle.std.proofs.lemmas.Bool.{ltb-false, and_parts, or_parts as or_false}
use Rattle.ct_base.specs.declared.lists.Value.{Value}
use Rattle.st_parse.specs.declared.statements.Operand.{Operand}
use Rattle.st_parse.specs.declared.statements.Operand.TheVariants.{Text, Number}
use Rattle.st_parse.specs.declared.statements.Whole.TheVariants.{Fits, Beyond}
use Rattle.ct_entry.specs.Changes.{spell}
use Rattle.tb_table.specs.Spelling.{insert_changes}
use Rattle.tb_table.specs.declared.columns.Sort.{Sort}
use Rattle.tb_table.specs.declared.columns.Sort.TheVariants.{Number as NumberSort, Varchar2, Clob}
use Rattle.tb_table.specs.declared.columns.Column.{Column}
use Rattle.tb_table.specs.Tables.{Table, numbers_of, texts_from, texts_of}
use Rattle.ct_base.specs.Limits.{text_limit}
use Rattle.tb_table.specs.Rules.{IsOfSort as FitsSort, FitColumns, others}
use Rattle.db_change.specs.Inserting.{is_of_sort, are_of_sorts, is_too_long, has_too_long, kept_value, number_value, text_value, IsNumberKept, IsTextKept, behind_key, others_kept, IsFreeRow}
use Rattle.db_rows.specs.Checking.{is_beyond_operand}

-- ---- numbers

pub numbers_kept : (vs : List Operand) → numbers_of (map kept_value vs) ≡ filter_map number_value vs
numbers_kept [] = refl
numbers_kept (Text text ∷ vs) = numbers_kept vs
numbers_kept (Number (Fits n) ∷ vs) = ap (λ (ns : List ℤ). n ∷ ns) (numbers_kept vs)
numbers_kept (Number Beyond ∷ vs) = ap (λ (ns : List ℤ). pos 0 ∷ ns) (numbers_kept vs)

-- ---- texts

-- the texts of the values before those that are left, of which the first has this place; the columns are those that a byte can count
pub record TextsSoFar (all left : List Operand) (place : ℕ) (items : List (ℕ × List ℕ)) : Type 0 where
  pub place_is : length all ≤ 255 → place + length left ≡ length all
  pub whole : length all ≤ 255 → items ++ texts_from (place + 1) (map kept_value left) ≡ texts_of (map kept_value all)

pub texts_begin : (all left : List Operand) → left ≡ all → TextsSoFar all left 0 []
texts_begin all left is = record {
  place_is = λ few. let same = ap (λ (vs : List Operand). length vs) is in omega (arith, same);
  whole = λ few. ap (λ (vs : List Operand). texts_of (map kept_value vs)) is;
}

from_none : (c : ℕ) (x : Operand) (vs : List Value) → None ≡ text_value x → texts_from c (kept_value x ∷ vs) ≡ texts_from (suc c) vs
from_none c (Text text) vs e = cc
from_none c (Number (Fits n)) vs e = refl
from_none c (Number Beyond) vs e = refl

from_some : (c : ℕ) (x : Operand) (vs : List Value) (text : List ℕ) → Some text ≡ text_value x → texts_from c (kept_value x ∷ vs) ≡ (c, text) ∷ texts_from (suc c) vs
from_some c (Text own) vs text e = ap (λ (t : List ℕ). (c, t) ∷ texts_from (suc c) vs) (let same : own ≡ text = cc in same)
from_some c (Number n) vs text e = cc

module _ (all left rest : List Operand) (x : Operand) (place next : ℕ) (items : List (ℕ × List ℕ)) (so_far : TextsSoFar all left place items) (is : left ≡ x ∷ rest) (counts : next ≡ min (place + 1) (2 ^ 64 - 1)) where
  longer : length all ≤ 255 → place + suc (length rest) ≡ length all
  longer few = let before = so_far.place_is few in let same = ap (λ (vs : List Operand). length vs) is in omega (arith, before, same)

  next_is : length all ≤ 255 → next ≡ place + 1
  next_is few = let long = longer few in omega (arith, counts, long)

  goes_on : length all ≤ 255 → next + length rest ≡ length all
  goes_on few = let long = longer few in let step = next_is few in omega (arith, long, step)

  left_is : length all ≤ 255 → items ++ texts_from (place + 1) (kept_value x ∷ map kept_value rest) ≡ texts_of (map kept_value all)
  left_is few = ap (λ (vs : List Operand). items ++ texts_from (place + 1) (map kept_value vs)) (sym is) ∙ so_far.whole few

  place_then : length all ≤ 255 → next + 1 ≡ suc (place + 1)
  place_then few = let step = next_is few in omega (arith, step)

  pub texts_passed : None ≡ text_value x → TextsSoFar all rest next items
  texts_passed none = record {
    place_is = goes_on;
    whole = λ few.
        ap (λ (c : ℕ). items ++ texts_from c (map kept_value rest)) (place_then few)
        ∙ ap (λ (ts : List (ℕ × List ℕ)). items ++ ts) (sym (from_none (place + 1) x (map kept_value rest) none)) ∙ left_is few;
  }

  pub texts_added : (c : ℕ) (text : List ℕ) (new : List (ℕ × List ℕ)) → Some text ≡ text_value x → (place < 255 → c ≡ place + 1) → new ≡ items ++ (c, text) ∷ [] → TextsSoFar all rest next new
  texts_added c text new some column added = record {
    place_is = goes_on;
    whole = λ few.
        let long = longer few in
        ap (λ (ts : List (ℕ × List ℕ)). ts ++ texts_from (next + 1) (map kept_value rest)) added
        ∙ append_assoc items ((c, text) ∷ []) (texts_from (next + 1) (map kept_value rest))
        ∙ ap (λ (d : ℕ). items ++ (d, text) ∷ texts_from (next + 1) (map kept_value rest)) (column (omega (arith, long, few)))
        ∙ ap (λ (d : ℕ). items ++ (place + 1, text) ∷ texts_from d (map kept_value rest)) (place_then few)
        ∙ ap (λ (ts : List (ℕ × List ℕ)). items ++ ts) (sym (from_some (place + 1) x (map kept_value rest) text some)) ∙ left_is few;
  }

-- no value is left
pub texts_whole : (all left : List Operand) (place : ℕ) (items : List (ℕ × List ℕ)) → TextsSoFar all left place items → left ≡ [] → length all ≤ 255 → items ≡ texts_of (map kept_value all)
texts_whole all left place items so_far none few = sym (append-nil items) ∙ ap (λ (vs : List Operand). items ++ texts_from (place + 1) (map kept_value vs)) (sym none) ∙ so_far.whole few

pub key_removed : (vs : List Operand) → 1 ≤ length vs → remove vs 0 ≡ behind_key vs
key_removed [] some = absurd (omega (arith, some))
key_removed (v ∷ vs) some = refl

-- ---- the columns

pub fits_one : (s : Sort) (v : Operand) → is_of_sort s v ≡ true → is_too_long s v ≡ false → is_beyond_operand v ≡ false → IsNumberKept v → IsTextKept v → FitsSort s (kept_value v)
fits_one NumberSort (Text text) sort short within number utf8 = cc
fits_one NumberSort (Number (Fits n)) sort short within number utf8 = number
fits_one NumberSort (Number Beyond) sort short within number utf8 = cc
fits_one (Varchar2 size) (Text text) sort short within number utf8 = (ltb-false size (length text) short, utf8)
fits_one (Varchar2 size) (Number n) sort short within number utf8 = cc
fits_one Clob (Text text) sort short within number utf8 = (ltb-false text_limit (length text) short, utf8)
fits_one Clob (Number n) sort short within number utf8 = cc

all_rest : (P : Operand → Type 0) (v : Operand) (vs : List Operand) → All P (v ∷ vs) → All P vs
all_rest P v vs all k d less = all (suc k) d (omega arith)

pub fit_columns : (cs : List Column) (vs : List Operand) → are_of_sorts cs vs ≡ true → has_too_long cs vs ≡ false
    → list_any is_beyond_operand vs ≡ false → All IsNumberKept vs → All IsTextKept vs → FitColumns cs (map kept_value vs)
fit_columns [] [] sorts short within numbers texts = tt
fit_columns [] (v ∷ vs) sorts short within numbers texts = cc
fit_columns (c ∷ cs) [] sorts short within numbers texts = cc
fit_columns (c ∷ cs) (v ∷ vs) sorts short within numbers texts =
    let s = and_parts (is_of_sort c.sort v) (are_of_sorts cs vs) sorts in
    let l = or_false (is_too_long c.sort v) (has_too_long cs vs) short in
    let w = or_false (is_beyond_operand v) (list_any is_beyond_operand vs) within in (
      fits_one c.sort v s.0 l.0 w.0 (numbers 0 v (omega arith)) (texts 0 v (omega arith)),
      fit_columns cs vs s.1 l.1 w.1 (all_rest IsNumberKept v vs numbers) (all_rest IsTextKept v vs texts),
    )

-- ---- but the key

pub others_fit : (x : Table) (values : List Operand) (r : ℤ) → IsFreeRow x values r → All IsNumberKept (behind_key values)
    → All IsTextKept (behind_key values) → FitColumns (others x.columns) (others_kept values)
others_fit x values r free numbers texts = go x.columns values free.sorts free.short free.within numbers texts
  where
    go : (cs : List Column) (vs : List Operand) → are_of_sorts cs vs ≡ true → has_too_long cs vs ≡ false → list_any is_beyond_operand vs ≡ false
        → All IsNumberKept (behind_key vs) → All IsTextKept (behind_key vs) → FitColumns (others cs) (map kept_value (behind_key vs))
    go [] [] sorts short within numbers texts = tt
    go [] (v ∷ vs) sorts short within numbers texts = cc
    go (c ∷ cs) [] sorts short within numbers texts = cc
    go (c ∷ cs) (v ∷ vs) sorts short within numbers texts =
        fit_columns cs vs (and_parts (is_of_sort c.sort v) (are_of_sorts cs vs) sorts).1 (or_false (is_too_long c.sort v) (has_too_long cs vs) short).1 (or_false (is_beyond_operand v) (list_any is_beyond_operand vs) within).1 numbers texts

pub sorts_length : (cs : List Column) (vs : List Operand) → are_of_sorts cs vs ≡ true → length vs ≡ length cs
sorts_length [] [] sorts = refl
sorts_length [] (v ∷ vs) sorts = cc
sorts_length (c ∷ cs) [] sorts = cc
sorts_length (c ∷ cs) (v ∷ vs) sorts = ap suc (sorts_length cs vs (and_parts (is_of_sort c.sort v) (are_of_sorts cs vs) sorts).1)

pub behind_length : (vs : List Operand) → length (behind_key vs) ≤ length vs
behind_length [] = omega arith
behind_length (v ∷ vs) = omega arith

pub few_others : (x : Table) (values : List Operand) (r : ℤ) → length x.columns ≤ 16 → IsFreeRow x values r → length (behind_key values) ≤ 255
few_others x values r few free = let same = sorts_length x.columns values free.sorts in let fewer = behind_length values in omega (arith, same, fewer, few)

-- ---- changes

pub changes_kept : (t : List ℕ) (r : ℤ) (vs : List Operand) (ns : List ℤ) (ts : List (ℕ × List ℕ)) (none new : List (List ℕ × Option (List ℕ)))
    → none ≡ [] → new ≡ none ++ spell (insert_changes t r ns ts) → ns ≡ filter_map number_value vs → ts ≡ texts_of (map kept_value vs)
    → new ≡ spell (insert_changes t r (numbers_of (map kept_value vs)) (texts_of (map kept_value vs)))
changes_kept t r vs ns ts none new empty is numbers texts =
    is
    ∙ ap (λ (b : List (List ℕ × Option (List ℕ))). b ++ spell (insert_changes t r ns ts)) empty
    ∙ ap (λ (ms : List ℤ). spell (insert_changes t r ms ts)) (numbers ∙ sym (numbers_kept vs))
    ∙ ap (λ (us : List (ℕ × List ℕ)). spell (insert_changes t r (numbers_of (map kept_value vs)) us)) texts
