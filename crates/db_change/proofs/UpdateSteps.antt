-- Steps of UPDATE: the changes of its rows.
use Rattle.std.proofs.Common.{◌≡◌, ℕ, ℤ, suc, ◌+◌, ◌<◌, ◌≤◌, List, [], ◌∷◌, ◌++◌, length, map, take, drop, get_or, Option, Some, None, refl, sym, ap, subst, ◌∙◌, arith, add-one, append-nil}
use Rattle.std.specs.Option.{option_map, option_and_then, unwrap_or}
use Rattle.std.specs.List.{All, filter_map, cons_option}
use Rattle.std.proofs.Math.Seq.{drop-cons}
use Rattle.std.proofs.Math.ListN.{drop_of_length-le}
use Rattle.std.proofs.lemmas.List.{take_more, get_or_default}
use Rattle.std.proofs.lemmas.List.Elements.{All-nil, All-cons, All-head, All-tail}
use Rattle.ct_base.specs.declared.numbers.RowKey.{RowKey}
use Rattle.ct_base.specs.Limits.{column_limit}
use Rattle.ct_entry.specs.Keys.{Key}
use Rattle.ct_entry.specs.Changes.{spell}
use Rattle.ct_entry.specs.Each.{each}
use Rattle.ct_entry.specs.laws.Each.{each-append}
use Rattle.ct_entry.specs.laws.Changes.{spell-append}
use Rattle.st_parse.specs.declared.statements.Assign.{Assign}
use Rattle.st_parse.specs.declared.statements.Operand.{Operand}
use Rattle.st_parse.specs.declared.statements.Operand.TheVariants.{Text, Number}
use Rattle.tb_table.specs.declared.columns.Column.{Column}
use Rattle.tb_table.specs.Rules.{others}
use Rattle.tb_table.specs.Shapes.{HasShortText, HaveShortTexts, text_entry_limit}
use Rattle.db_change.specs.Inserting.{text_value, IsShortValue}
use Rattle.db_change.specs.Updating.{set_in, number_set, with_set, numbers_after, texts_set, IsShortAssign}
use Rattle.ct_entry.specs.Keys.{same_list}
use Rattle.std.proofs.Common.{Bool, true, false, cond}

-- ---- loops over what has changes of its own

each_one : {I : Type 0} (f : I → List (Key × Option (List ℕ))) (x : I) → spell (each f (x ∷ [])) ≡ spell (f x)
each_one f x = ap spell (append-nil (f x))

pub each_more : {I : Type 0} (f : I → List (Key × Option (List ℕ))) (xs : List I) (i : ℕ) (x : I) (batch new : List (List ℕ × Option (List ℕ)))
    → i < length xs → x ≡ get_or xs i x → batch ≡ spell (each f (take i xs)) → new ≡ batch ++ spell (f x)
    → new ≡ spell (each f (take (i + 1) xs))
each_more {I} f xs i x batch new less is so_far added =
    added
    ∙ ap (λ (b : List (List ℕ × Option (List ℕ))). b ++ spell (f x)) so_far
    ∙ ap (λ (ws : List (List ℕ × Option (List ℕ))). spell (each f (take i xs)) ++ ws) (sym (each_one f x))
    ∙ sym (spell-append (each f (take i xs)) (each f (x ∷ [])))
    ∙ ap spell (sym (each-append f (take i xs) (x ∷ [])))
    ∙ ap (λ (y : I). spell (each f (take i xs ++ y ∷ []))) is
    ∙ ap (λ (ys : List I). spell (each f ys)) (sym (take_more xs i x less))

each_map : {I J : Type 0} (f : J → List (Key × Option (List ℕ))) (g : I → J) (xs : List I) → each f (map g xs) ≡ each (λ x. f (g x)) xs
each_map f g [] = refl
each_map f g (x ∷ xs) = ap (λ ws. f (g x) ++ ws) (each_map f g xs)

pub rows_more : (f : ℤ → List (Key × Option (List ℕ))) (xs : List RowKey) (i : ℕ) (d : RowKey) (batch new : List (List ℕ × Option (List ℕ))) → i < length xs
    → batch ≡ spell (each f (map (λ row. row.0) (take i xs))) → new ≡ batch ++ spell (f (get_or xs i d).0) → new ≡ spell (each f (map (λ row. row.0) (take (i + 1) xs)))
rows_more f xs i d batch new less so_far added =
    each_more (λ (row : RowKey). f row.0) xs i (get_or xs i d) batch new less (get_or_default xs i d (get_or xs i d) less) (so_far ∙ ap spell (each_map f (λ (row : RowKey). row.0) (take i xs))) added
    ∙ sym (ap spell (each_map f (λ (row : RowKey). row.0) (take (i + 1) xs)))

-- ---- numbers in their places

pub with_set_past : (set : List (Option ℤ)) (numbers : List ℤ) (place : ℕ) → length numbers ≤ place → with_set (drop place set) (drop place numbers) ≡ []
with_set_past set numbers place past = ap (with_set (drop place set)) (drop_of_length-le numbers past) ∙ none (drop place set)
  where
    none : (os : List (Option ℤ)) → with_set os [] ≡ []
    none [] = refl
    none (o ∷ os) = refl

pub with_set_at : (set : List (Option ℤ)) (numbers : List ℤ) (place : ℕ) (o : Option ℤ) (n : ℤ) → place < length set → place < length numbers
    → with_set (drop place set) (drop place numbers) ≡ unwrap_or (get_or set place o) (get_or numbers place n) ∷ with_set (drop (place + 1) set) (drop (place + 1) numbers)
with_set_at set numbers place o n less within =
    ap (λ (os : List (Option ℤ)). with_set os (drop place numbers)) (drop-cons set place o less)
    ∙ ap (with_set (get_or set place o ∷ drop (suc place) set)) (drop-cons numbers place n within)
    ∙ ap (λ (q : ℕ). unwrap_or (get_or set place o) (get_or numbers place n) ∷ with_set (drop q set) (drop q numbers)) (sym (add-one place))

with_set_few : (set : List (Option ℤ)) (numbers : List ℤ) → length (with_set set numbers) ≤ length set
with_set_few [] numbers = omega arith
with_set_few (o ∷ set) [] = omega arith
with_set_few (o ∷ set) (n ∷ numbers) = let rest = with_set_few set numbers in omega (arith, rest)

set_few : (columns : List Column) (assigns : List Assign) → length (filter_map (number_set assigns) columns) ≤ length columns
set_few [] assigns = omega arith
set_few (c ∷ columns) assigns = one (number_set assigns c) (set_few columns assigns)
  where
    one : (o : Option (Option ℤ)) → length (filter_map (number_set assigns) columns) ≤ length columns → length (cons_option o (filter_map (number_set assigns) columns)) ≤ suc (length columns)
    one None rest = omega (arith, rest)
    one (Some n) rest = omega (arith, rest)

pub few_after : (columns : List Column) (assigns : List Assign) (numbers new : List ℤ) → length columns ≤ column_limit → new ≡ numbers_after columns assigns numbers → length new ≤ column_limit
few_after columns assigns numbers new few is =
    let same = ap (λ (ns : List ℤ). length ns) is in
    let a = with_set_few (filter_map (number_set assigns) columns) numbers in
    let b = set_few columns assigns in
    omega (arith, same, a, b, few)

-- the columns behind the key are no more than all
pub few_others : (columns behind : List Column) → behind ≡ others columns → length columns ≤ column_limit → length behind ≤ column_limit
few_others [] behind is few = let same = ap (λ (cs : List Column). length cs) is in omega (arith, same)
few_others (c ∷ columns) behind is few = let same = ap (λ (cs : List Column). length cs) is in omega (arith, same, few)

-- ---- texts that are short enough

short_in : (name : List ℕ) (assigns : List Assign) → All IsShortAssign assigns → (text : List ℕ) → option_and_then text_value (set_in assigns name) ≡ Some text → length text ≤ text_entry_limit
short_in name [] all text is = cc
short_in name (a ∷ assigns) all text is = one (same_list name a.column) (short_in name assigns (All-tail IsShortAssign a assigns all) text) is
  where
    value : (v : Operand) → IsShortValue v → text_value v ≡ Some text → length text ≤ text_entry_limit
    value (Text t) short is = let same : t ≡ text = cc in subst (λ (u : List ℕ). length u ≤ text_entry_limit) same (omega (arith, short))
    value (Number n) short is = cc

    one : (b : Bool) → (option_and_then text_value (set_in assigns name) ≡ Some text → length text ≤ text_entry_limit)
        → option_and_then text_value (cond b (Some a.value) (set_in assigns name)) ≡ Some text → length text ≤ text_entry_limit
    one true rest is = value a.value (All-head IsShortAssign a assigns all) is
    one false rest is = rest is

pub short_texts : (assigns : List Assign) → All IsShortAssign assigns → (place : ℕ) (columns : List Column) → HaveShortTexts (texts_set place columns assigns)
short_texts assigns all place [] = All-nil HasShortText
short_texts assigns all place (c ∷ columns) = one (option_and_then text_value (set_in assigns c.name)) (short_in c.name assigns all) (short_texts assigns all (suc place) columns)
  where
    one : (o : Option (List ℕ)) → ((text : List ℕ) → o ≡ Some text → length text ≤ text_entry_limit) → HaveShortTexts (texts_set (suc place) columns assigns)
        → HaveShortTexts (cons_option (option_map (λ text. (place, text)) o) (texts_set (suc place) columns assigns))
    one None short rest = rest
    one (Some text) short rest = All-cons HasShortText (place, text) (texts_set (suc place) columns assigns) (short text refl) rest
