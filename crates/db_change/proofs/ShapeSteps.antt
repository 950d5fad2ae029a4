-- The changes of new tables and rows are well shaped: there are few values, and their texts are short, whatever the content.
use Rattle.std.proofs.Common.{◌≡◌, ℕ, zero, suc, ◌+◌, ◌<◌, ◌≤◌, true, Bool, List, [], ◌∷◌, ◌++◌, length, map, take, get_or, Option, refl, sym, ap, subst, inl, inr, ◌∙◌, arith}
use Rattle.std.specs.List.{All, filter_map}
use Rattle.std.proofs.lemmas.Bool.{and_parts}
use Rattle.std.proofs.lemmas.List.{take_all}
use Rattle.std.proofs.lemmas.List.Elements.{All-more, All-head, All-tail, All-nil, All-cons}
use Rattle.ct_base.specs.Limits.{column_limit}
use Rattle.ct_entry.specs.Keys.{Key}
use Rattle.ct_entry.specs.Shapes.{AreShaped}
use Rattle.st_parse.specs.declared.statements.Operand.{Operand}
use Rattle.st_parse.specs.declared.statements.Operand.TheVariants.{Text, Number}
use Rattle.st_parse.specs.declared.statements.Whole.TheVariants.{Fits, Beyond}
use Rattle.tb_table.specs.declared.columns.Column.{Column}
use Rattle.ct_entry.specs.laws.Shapes.{are_shaped-append, are_shaped_weaker}
use Rattle.tb_table.specs.Shapes.{HasShortText, HasTableValue, HaveShortTexts}
use Rattle.ix_indexes.specs.Shapes.{HasIndexValue}
use Rattle.db_state.specs.Shapes.{AreStoreChanges, HasStoreValue}
use Rattle.tb_table.specs.Tables.{texts_from, texts_of}
use Rattle.db_state.specs.Effects.{Effect, Refused}
use Rattle.db_cond.specs.Faults.{WrongValues}
use Rattle.db_change.specs.Inserting.{is_of_sort, are_of_sorts, behind_key, check_row_values, kept_value, number_value, IsShortValue}
use Rattle.db_change.proofs.NewValues.{sorts_apart}
use Rattle.db_change.proofs.KeptValues.{sorts_length, behind_length}

-- ---- each value with its column

sort_at : (cs : List Column) (vs : List Operand) (i : ℕ) (c : Column) (v : Operand) → are_of_sorts cs vs ≡ true → i < length cs → i < length vs → is_of_sort (get_or cs i c).sort (get_or vs i v) ≡ true
sort_at [] vs i c v sorts less within = absurd (omega arith)
sort_at (d ∷ cs) [] i c v sorts less within = absurd (omega arith)
sort_at (d ∷ cs) (w ∷ vs) zero c v sorts less within = (and_parts (is_of_sort d.sort w) (are_of_sorts cs vs) sorts).0
sort_at (d ∷ cs) (w ∷ vs) (suc i) c v sorts less within = sort_at cs vs i c v (and_parts (is_of_sort d.sort w) (are_of_sorts cs vs) sorts).1 (omega arith) (omega arith)

-- one value more
pub short_more : (cs : List Column) (vs : List Operand) (i : ℕ) (c : Column) (v : Operand) → i < length cs → i < length vs → c ≡ get_or cs i c
    → v ≡ get_or vs i v → (are_of_sorts cs vs ≡ true → All IsShortValue (take i vs)) → (is_of_sort c.sort v ≡ true → IsShortValue v)
    → are_of_sorts cs vs ≡ true → All IsShortValue (take (i + 1) vs)
short_more cs vs i c v less within column value so_far one sorts =
    let taken : is_of_sort c.sort v ≡ true = (λ j. is_of_sort (column j).sort (value j)) ∙ sort_at cs vs i c v sorts less within in
    All-more IsShortValue vs i v within (so_far sorts) (subst IsShortValue value (one taken))

-- all of them
pub short_all : (cs : List Column) (vs : List Operand) (i : ℕ) → length cs ≤ i → (are_of_sorts cs vs ≡ true → All IsShortValue (take i vs)) → are_of_sorts cs vs ≡ true → All IsShortValue vs
short_all cs vs i past so_far sorts =
    let same = sorts_length cs vs sorts in
    subst (All IsShortValue) (take_all i vs (omega (arith, same, past))) (so_far sorts)

-- there are as many values as columns
pub none_left : (cs : List Column) (vs : List Operand) (i : ℕ) → i < length cs → length vs ≤ i → are_of_sorts cs vs ≡ true → ⊥
none_left cs vs i less past sorts = let same = sorts_length cs vs sorts in omega (arith, same, less, past)

-- more values than a table has columns are refused
pub too_many_values : (taken many : Bool) (cs : List Column) (vs : List Operand) → column_limit < length vs → length cs ≤ column_limit
    → (done : Effect) → check_row_values taken many cs vs done ≡ Refused WrongValues
too_many_values taken many cs vs more few done = rw (← sorts_apart cs vs (λ e. omega (arith, e, more, few))) refl

-- ---- but the key

pub short_behind : (vs us : List Operand) → us ≡ behind_key vs → All IsShortValue vs → All IsShortValue us
short_behind vs us is all = subst (All IsShortValue) (sym is) (go vs all)
  where
    go : (vs : List Operand) → All IsShortValue vs → All IsShortValue (behind_key vs)
    go [] all = all
    go (v ∷ vs) all = All-tail IsShortValue v vs all

pub few_behind : (vs us : List Operand) → us ≡ behind_key vs → length vs ≤ column_limit → length us ≤ column_limit
few_behind vs us is few = let fewer = behind_length vs in let same = ap (λ (ws : List Operand). length ws) is in omega (arith, fewer, same, few)

-- ---- what a row keeps of them

pub few_numbers : (vs : List Operand) → length (filter_map number_value vs) ≤ length vs
few_numbers [] = omega arith
few_numbers (Text text ∷ vs) = let rest = few_numbers vs in omega (arith, rest)
few_numbers (Number (Fits n) ∷ vs) = let rest = few_numbers vs in omega (arith, rest)
few_numbers (Number Beyond ∷ vs) = let rest = few_numbers vs in omega (arith, rest)

texts_short : (column : ℕ) (vs : List Operand) → All IsShortValue vs → HaveShortTexts (texts_from column (map kept_value vs))
texts_short column [] all = All-nil HasShortText
texts_short column (Text text ∷ vs) all = All-cons HasShortText (column, text) (texts_from (suc column) (map kept_value vs)) (let short = All-head IsShortValue (Text text) vs all in omega (arith, short)) (texts_short (suc column) vs (All-tail IsShortValue (Text text) vs all))
texts_short column (Number (Fits n) ∷ vs) all = texts_short (suc column) vs (All-tail IsShortValue (Number (Fits n)) vs all)
texts_short column (Number Beyond ∷ vs) all = texts_short (suc column) vs (All-tail IsShortValue (Number Beyond) vs all)

pub have_short_texts : (vs : List Operand) (texts : List (ℕ × List ℕ)) → (length vs ≤ 255 → texts ≡ texts_of (map kept_value vs))
    → length vs ≤ column_limit → All IsShortValue vs → HaveShortTexts texts
have_short_texts vs texts are few all = subst HaveShortTexts (sym (are (omega (arith, few)))) (texts_short 1 vs all)

-- ---- batches

-- the changes alone
pub shaped_alone : (rule : Key → List ℕ → Type 0) (none new ws : List (List ℕ × Option (List ℕ))) → none ≡ [] → new ≡ none ++ ws → AreShaped rule ws → AreShaped rule new
shaped_alone rule none new ws empty is are = subst (AreShaped rule) (sym (is ∙ ap (λ (b : List (List ℕ × Option (List ℕ))). b ++ ws) empty)) are

-- ---- plans

-- changes of a row, and what indexes are told of it, are ones that a store takes
pub row_and_notes : (row new notes : List (List ℕ × Option (List ℕ))) → AreShaped HasTableValue row → new ≡ row ++ notes → AreShaped HasIndexValue notes → AreStoreChanges new
row_and_notes row new notes rows is told =
    subst AreStoreChanges (sym is)
    (are_shaped-append HasStoreValue row notes (are_shaped_weaker HasTableValue HasStoreValue (λ k value has. inl has) row rows) (are_shaped_weaker HasIndexValue HasStoreValue (λ k value has. inr (inl has)) notes told))

-- so are those of a table
pub of_tables : (changes : List (List ℕ × Option (List ℕ))) → AreShaped HasTableValue changes → AreStoreChanges changes
of_tables changes are = are_shaped_weaker HasTableValue HasStoreValue (λ k value has. inl has) changes are
