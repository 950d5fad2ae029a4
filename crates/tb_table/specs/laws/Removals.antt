-- What the removal of rows and of tables makes of entries that spell tables, and of the tables.
use Rattle.std.proofs.Common.{◌≡◌, ℕ, ℤ, zero, suc, ◌+◌, ◌<◌, ◌≤◌, Bool, true, false, cond, List, [], ◌∷◌, ◌++◌, length, Option, Some, None, refl, sym, ap, subst, ◌∙◌, arith}
use Rattle.std.specs.Prelude.{◌==◌, ◌&&◌, ◌||◌, not, filter}
use Rattle.std.specs.Option.{option_map, option_and_then}
use Rattle.std.specs.List.{list_any}
use Rattle.std.specs.Ordering.{int_cmp, int_eq}
use Rattle.std.specs.FinMap.{get, remove, int_cmp-IsAntisymmetric}
use Rattle.std.proofs.lemmas.Bool.{eq-eqb, and_parts}
use Rattle.std.proofs.lemmas.Cmp.{int_cmp_total}
use Rattle.ct_base.specs.Names.{IsName}
use Rattle.ct_base.specs.Limits.{column_limit}
use Rattle.ct_base.specs.declared.lists.Value.{Value}
use Rattle.ct_base.specs.declared.lists.Value.TheVariants.{Number as NumberValue, Text as TextValue}
use Rattle.ct_keep.specs.Content.{Content}
use Rattle.ct_entry.specs.declared.kinds.Kind.TheVariants as kind
use Rattle.ct_entry.specs.Keys.{Key, key, same_key, same_list, row_part, text_part, IsRow, HasKeysOnly}
use Rattle.ct_entry.specs.Changes.{drop_key, spell, told, view, AreChanges, AllOf}
use Rattle.ct_entry.specs.Shapes.{AreShaped}
use Rattle.ct_entry.specs.Removals.{owned_removals, without_owned}
use Rattle.ct_entry.specs.laws.Keys.{list_from_same, list_same}
use Rattle.ct_entry.specs.laws.Parts.{rows_tie, texts_tie, same_kind, int_from_eq}
use Rattle.ct_entry.specs.laws.Each.{map-each, told_each}
use Rattle.ct_entry.specs.laws.Maps.{get_name-alter, get_name-remove, get_row-remove}
use Rattle.ct_entry.specs.laws.MapRemovals.{keys_without}
use Rattle.ct_entry.specs.laws.Changes.{told_frame, view-append, spell-append, are-append, all-append}
use Rattle.ct_entry.specs.laws.Shapes.{are_shaped-append}
use Rattle.ct_entry.specs.laws.Removals.{view-owned_removals, removals_shaped, all_removals, are_removals}
use Rattle.tb_table.specs.declared.columns.Sort.{Sort}
use Rattle.tb_table.specs.declared.columns.Sort.TheVariants.{Number, Varchar2, Clob}
use Rattle.tb_table.specs.declared.columns.Column.{Column}
use Rattle.tb_table.specs.Tables.{Table, Tables, row_in, row_at, keys_in, numbers_of, as_text, text_in, text_in_column, without_row, without_table}
use Rattle.tb_table.specs.Rules.{IsOfSort, FitColumns, others}
use Rattle.tb_table.specs.Spelling.{columns_bytes, row_numbers_bytes, TablesStand, text_place, text_places_from, text_places, drop_texts, delete_changes, remove_changes}
use Rattle.tb_table.specs.Shapes.{HasTableValue}
use Rattle.tb_table.specs.Promises.{DeletedRowsStand, RemovedTablesStand, DeletedRowsAreGone, DeletedKeysAreGone, RemovedTablesAreGone}
use Rattle.tb_table.specs.laws.Changes.{is_of_tables, is_of_texts, spelt_columns}

-- ---- a row less

-- a table without a row
abbrev pub fewer_rows : ℤ → Table → Table
fewer_rows r x = record x { rows = remove x.rows r }

pub get-without_row : (ts : Tables) (t : List ℕ) (r : ℤ) (q : List ℕ) → get (without_row ts t r) q ≡ cond (same_list q t) (option_map (fewer_rows r) (get ts q)) (get ts q)
get-without_row ts t r q = get_name-alter ts t (fewer_rows r) q

-- the row isn't there, and all others stay
pub row_at-without_row : DeletedRowsAreGone
row_at-without_row ts t r u s = ap (λ (o : Option Table). row_in o s) (get-without_row ts t r u) ∙ go (same_list u t) (get ts u)
  where
    none : (b : Bool) → ◌≡◌ {A = Option (List Value)} None (cond b None None)
    none true = refl
    none false = refl

    go : (b : Bool) (o : Option Table) → row_in (cond b (option_map (fewer_rows r) o) o) s ≡ cond (b && int_eq s r) None (row_in o s)
    go true None = none (int_eq s r)
    go true (Some x) = get_row-remove x.rows r s
    go false o = refl

pub row_keys-without_row : DeletedKeysAreGone
row_keys-without_row ts t r =
    ap keys_in (get-without_row ts t r t ∙ ap (λ (b : Bool). cond b (option_map (fewer_rows r) (get ts t)) (get ts t)) (list_same t))
    ∙ go (get ts t)
  where
    go : (o : Option Table) → keys_in (option_map (fewer_rows r) o) ≡ filter (λ s. not (int_eq r s)) (keys_in o)
    go None = refl
    go (Some x) = keys_without int_cmp int_cmp_total int_cmp-IsAntisymmetric x.rows r

-- the columns of all tables stay
pub columns-without_row : (ts : Tables) (t : List ℕ) (r : ℤ) (q : List ℕ) → option_map (λ (y : Table). y.columns) (get (without_row ts t r) q) ≡ option_map (λ (y : Table). y.columns) (get ts q)
columns-without_row ts t r q = ap (option_map (λ (y : Table). y.columns)) (get-without_row ts t r q) ∙ go (same_list q t) (get ts q)
  where
    go : (b : Bool) (o : Option Table) → option_map (λ (y : Table). y.columns) (cond b (option_map (fewer_rows r) o) o) ≡ option_map (λ (y : Table). y.columns) o
    go true None = refl
    go true (Some y) = refl
    go false o = refl

-- ---- the texts of a row

-- what a text's key has after the removal of the texts of some columns of a row
pub told-drop_texts : (t : List ℕ) (r : ℤ) (q : List ℕ) (c : ℕ) (s : ℤ) → IsRow r → IsRow s → (places : List ℕ) (old : Option (List ℕ))
    → told (drop_texts t r places) (key kind.RowTexts q (text_part c s)) old ≡ cond ((same_list q t && int_eq s r) && list_any (λ p. c == p) places) None old
told-drop_texts t r q c s row here places old =
    ap (λ (ws : List (Key × Option (List ℕ))). told ws (key kind.RowTexts q (text_part c s)) old) (map-each (λ p. drop_key (key kind.RowTexts t (text_part p r))) places)
    ∙ told_each (λ p. drop_key (key kind.RowTexts t (text_part p r)) ∷ []) (key kind.RowTexts q (text_part c s)) (λ p. same_list q t && ((c == p) && int_eq s r)) None (λ p o. ap (λ (b : Bool). cond b None o) (tie p)) places old
    ∙ ap (λ (b : Bool). cond b None old) (hits (same_list q t) (int_eq s r) places)
  where
    tie : (p : ℕ) → same_key (key kind.RowTexts q (text_part c s)) (key kind.RowTexts t (text_part p r)) ≡ (same_list q t && ((c == p) && int_eq s r))
    tie p = same_kind kind.RowTexts q t (text_part c s) (text_part p r) ∙ ap (λ (b : Bool). same_list q t && b) (texts_tie c p s r here row)

    one : (b d : Bool) (rest : Bool) → ((d && b) || (b && rest)) ≡ (b && (d || rest))
    one true true rest = refl
    one true false rest = refl
    one false true rest = refl
    one false false rest = refl

    hits : (a b : Bool) (places : List ℕ) → list_any (λ (p : ℕ). a && ((c == p) && b)) places ≡ ((a && b) && list_any (λ p. c == p) places)
    hits true true [] = refl
    hits true false [] = refl
    hits false b [] = refl
    hits true b (p ∷ ps) = ap (λ (z : Bool). ((c == p) && b) || z) (hits true b ps) ∙ one b (c == p) (list_any (λ p. c == p) ps)
    hits false b (p ∷ ps) = hits false b ps

or_false : (a b : Bool) → (a || b) ≡ false → b ≡ false
or_false true b h = cc
or_false false b h = h

-- a column that isn't among some isn't among those after the first
not_after : (c from : ℕ) (s : Sort) (rest : List ℕ) → list_any (λ p. c == p) (text_place from s ++ rest) ≡ false → list_any (λ p. c == p) rest ≡ false
not_after c from Number rest none = none
not_after c from (Varchar2 size) rest none = or_false (c == from) (list_any (λ p. c == p) rest) none
not_after c from Clob rest none = or_false (c == from) (list_any (λ p. c == p) rest) none

-- a value that fits its column is a text only where the column has texts
no_text_here : (c from : ℕ) (s : Sort) (v : Value) (rest : List ℕ) → c ≡ from → IsOfSort s v → list_any (λ p. c == p) (text_place from s ++ rest) ≡ false → as_text v ≡ None
no_text_here c from s (NumberValue n) rest is fits none = refl
no_text_here c from Number (TextValue text) rest is fits none = absurd fits
no_text_here c from (Varchar2 size) (TextValue text) rest is fits none = let wrong : true ≡ false = sym (ap (λ (b : Bool). b || list_any (λ p. c == p) rest) (eq-eqb c from is)) ∙ none in cc
no_text_here c from Clob (TextValue text) rest is fits none = let wrong : true ≡ false = sym (ap (λ (b : Bool). b || list_any (λ p. c == p) rest) (eq-eqb c from is)) ∙ none in cc

no_text_elsewhere : (cs : List Column) (vs : List Value) (from place c : ℕ) → c ≡ place + from → FitColumns cs vs → list_any (λ p. c == p) (text_places_from from cs) ≡ false → text_in vs place ≡ None
no_text_elsewhere [] [] from place c is fit none = refl
no_text_elsewhere [] (v ∷ vs) from place c is fit none = absurd fit
no_text_elsewhere (d ∷ cs) [] from place c is fit none = absurd fit
no_text_elsewhere (d ∷ cs) (v ∷ vs) from zero c is fit none = no_text_here c from d.sort v (text_places_from (suc from) cs) (omega arith) fit.0 none
no_text_elsewhere (d ∷ cs) (v ∷ vs) from (suc place) c is fit none = no_text_elsewhere cs vs (suc from) place c (omega arith) fit.1 (not_after c from d.sort (text_places_from (suc from) cs) none)

-- a row whose values fit has texts in no other columns than those that have texts
pub no_other_text : (cs : List Column) (vs : List Value) (c : ℕ) → FitColumns (others cs) vs → list_any (λ p. c == p) (text_places cs) ≡ false → text_in_column vs c ≡ None
no_other_text cs vs zero fit none = refl
no_other_text [] [] (suc place) fit none = refl
no_other_text [] (v ∷ vs) (suc place) fit none = absurd fit
no_other_text (d ∷ cs) vs (suc place) fit none = no_text_elsewhere cs vs 1 place (suc place) (omega arith) fit (not_after (suc place) 0 d.sort (text_places_from 1 cs) none)

-- ---- the changes of a removal

pub all_drop_texts : (t : List ℕ) (r : ℤ) (places : List ℕ) → AllOf is_of_texts (drop_texts t r places)
all_drop_texts t r [] = tt
all_drop_texts t r (p ∷ ps) = (refl, all_drop_texts t r ps)

pub all_delete : (t : List ℕ) (cs : List Column) (r : ℤ) → AllOf is_of_tables (delete_changes t cs r)
all_delete t cs r = (refl, each (text_places cs))
  where
    each : (places : List ℕ) → AllOf is_of_tables (drop_texts t r places)
    each [] = tt
    each (p ∷ ps) = (refl, each ps)

pub all_remove : (t : List ℕ) (m : Content) → AllOf is_of_tables (remove_changes t m)
all_remove t m =
    all-append is_of_tables (owned_removals kind.Tables t m ++ owned_removals kind.RowNumbers t m) (owned_removals kind.RowTexts t m)
    (all-append is_of_tables (owned_removals kind.Tables t m) (owned_removals kind.RowNumbers t m) (all_removals is_of_tables kind.Tables t m refl) (all_removals is_of_tables kind.RowNumbers t m refl))
    (all_removals is_of_tables kind.RowTexts t m refl)

pub are_delete : (t : List ℕ) (cs : List Column) (r : ℤ) → IsName t → IsRow r → length cs ≤ column_limit → AreChanges (delete_changes t cs r)
are_delete t cs r name row few = (record { owner = name; part = (r, row, refl) }, each 0 cs (omega (arith, few)))
  where
    at_sort : (from : ℕ) (s : Sort) (rest : List ℕ) → from < 256 → AreChanges (drop_texts t r rest) → AreChanges (drop_texts t r (text_place from s ++ rest))
    at_sort from Number rest less are = are
    at_sort from (Varchar2 size) rest less are = (record { owner = name; part = (from, (r, less, row, refl)) }, are)
    at_sort from Clob rest less are = (record { owner = name; part = (from, (r, less, row, refl)) }, are)

    each : (from : ℕ) (cs : List Column) → from + length cs ≤ 256 → AreChanges (drop_texts t r (text_places_from from cs))
    each from [] few = tt
    each from (d ∷ cs) few = at_sort from d.sort (text_places_from (suc from) cs) (omega arith) (each (suc from) cs (omega arith))

-- where the content has keys of the kinds only
pub are_remove : (t : List ℕ) (m : Content) → HasKeysOnly m → AreChanges (remove_changes t m)
are_remove t m only =
    are-append (owned_removals kind.Tables t m ++ owned_removals kind.RowNumbers t m) (owned_removals kind.RowTexts t m)
    (are-append (owned_removals kind.Tables t m) (owned_removals kind.RowNumbers t m) (are_removals kind.Tables t m only) (are_removals kind.RowNumbers t m only))
    (are_removals kind.RowTexts t m only)

pub delete_shaped : (t : List ℕ) (cs : List Column) (r : ℤ) → AreShaped HasTableValue (spell (delete_changes t cs r))
delete_shaped t cs r = each (text_places cs)
  where
    each : (places : List ℕ) → AreShaped HasTableValue (spell (drop_texts t r places))
    each [] = tt
    each (p ∷ ps) = each ps

pub remove_shaped : (t : List ℕ) (m : Content) → AreShaped HasTableValue (spell (remove_changes t m))
remove_shaped t m =
    subst (AreShaped HasTableValue) (sym (spell-append (owned_removals kind.Tables t m ++ owned_removals kind.RowNumbers t m) (owned_removals kind.RowTexts t m)))
    (are_shaped-append HasTableValue (spell (owned_removals kind.Tables t m ++ owned_removals kind.RowNumbers t m)) (spell (owned_removals kind.RowTexts t m))
    (subst (AreShaped HasTableValue) (sym (spell-append (owned_removals kind.Tables t m) (owned_removals kind.RowNumbers t m)))
    (are_shaped-append HasTableValue (spell (owned_removals kind.Tables t m)) (spell (owned_removals kind.RowNumbers t m)) (removals_shaped HasTableValue kind.Tables t m) (removals_shaped HasTableValue kind.RowNumbers t m)))
    (removals_shaped HasTableValue kind.RowTexts t m))

-- ---- after the removal of a row

pub stand_delete : DeletedRowsStand
stand_delete f ts t r x is are row stand = record {
  tables = λ q.
      told_frame is_of_texts (drop_texts t r (text_places x.columns)) (key kind.Tables q []) (f (key kind.Tables q [])) (all_drop_texts t r (text_places x.columns)) refl
      ∙ stand.tables q ∙ spelt_columns (get ts q) ∙ ap (option_map columns_bytes) (sym (columns-without_row ts t r q)) ∙ sym (spelt_columns (get (without_row ts t r) q));
  numbers = λ q s here.
      told_frame is_of_texts (drop_texts t r (text_places x.columns)) (key kind.RowNumbers q (row_part s)) (cond (same_key (key kind.RowNumbers q (row_part s)) (key kind.RowNumbers t (row_part r))) None (f (key kind.RowNumbers q (row_part s)))) (all_drop_texts t r (text_places x.columns)) refl
      ∙ ap (cond (same_key (key kind.RowNumbers q (row_part s)) (key kind.RowNumbers t (row_part r))) None) (stand.numbers q s here)
      ∙ ap (λ (b : Bool). cond b None (option_map (λ ws. row_numbers_bytes (numbers_of ws)) (row_at ts q s))) (same_kind kind.RowNumbers q t (row_part s) (row_part r) ∙ ap (λ (b : Bool). same_list q t && b) (rows_tie s r here row))
      ∙ at_numbers (same_list q t && int_eq s r) (row_at ts q s)
      ∙ ap (option_map (λ ws. row_numbers_bytes (numbers_of ws))) (sym (row_at-without_row ts t r q s));
  texts = λ q c s few here.
      told-drop_texts t r q c s row here (text_places x.columns) (f (key kind.RowTexts q (text_part c s)))
      ∙ ap (cond ((same_list q t && int_eq s r) && list_any (λ p. c == p) (text_places x.columns)) None) (stand.texts q c s few here)
      ∙ at_texts c (row_at ts q s) (same_list q t && int_eq s r) (list_any (λ p. c == p) (text_places x.columns)) refl (λ h vs there. fits q s vs h there)
      ∙ ap (option_and_then (λ ws. text_in_column ws c)) (sym (row_at-without_row ts t r q s));
}
  where
    at_numbers : (b : Bool) (old : Option (List Value)) → cond b None (option_map (λ ws. row_numbers_bytes (numbers_of ws)) old) ≡ option_map (λ ws. row_numbers_bytes (numbers_of ws)) (cond b None old)
    at_numbers true old = refl
    at_numbers false old = refl

    fits : (q : List ℕ) (s : ℤ) (vs : List Value) → (same_list q t && int_eq s r) ≡ true → row_at ts q s ≡ Some vs → FitColumns (others x.columns) vs
    fits q s vs h there =
        let both = and_parts (same_list q t) (int_eq s r) h in
        let here : row_at ts q s ≡ get x.rows r = ap (λ (o : List ℕ). row_at ts o s) (list_from_same q t both.0) ∙ ap (row_at ts t) (int_from_eq s r both.1) ∙ ap (λ (o : Option Table). row_in o r) is in
        (are.each t x is).rows r vs (sym here ∙ there)

    at_texts : (c : ℕ) (old : Option (List Value)) (b d : Bool) → list_any (λ p. c == p) (text_places x.columns) ≡ d → (b ≡ true → (vs : List Value) → old ≡ Some vs → FitColumns (others x.columns) vs)
        → cond (b && d) None (option_and_then (λ ws. text_in_column ws c) old) ≡ option_and_then (λ ws. text_in_column ws c) (cond b None old)
    at_texts c old true true is fit = refl
    at_texts c None true false is fit = refl
    at_texts c (Some vs) true false is fit = no_other_text x.columns vs c (fit refl vs refl) is
    at_texts c old false d is fit = refl

-- ---- after the removal of a table

pub get-without_table : RemovedTablesAreGone
get-without_table ts t u = get_name-remove ts t u

pub row_at-without_table : (ts : Tables) (t u : List ℕ) (s : ℤ) → row_at (without_table ts t) u s ≡ cond (same_list u t) None (row_at ts u s)
row_at-without_table ts t u s = ap (λ (o : Option Table). row_in o s) (get_name-remove ts t u) ∙ go (same_list u t)
  where
    go : (b : Bool) → row_in (cond b None (get ts u)) s ≡ cond b None (row_in (get ts u) s)
    go true = refl
    go false = refl

pub stand_remove : RemovedTablesStand
stand_remove f ts t m same stand = subst (λ (g : Key → Option (List ℕ)). TablesStand g (without_table ts t)) (sym gone) (record {
  tables = λ q. ap (cond (same_list q t) None) (stand.tables q) ∙ mapped (λ (x : Table). columns_bytes x.columns) (same_list q t) (get ts q) ∙ ap (option_map (λ (x : Table). columns_bytes x.columns)) (sym (get_name-remove ts t q));
  numbers = λ q s here.
      ap (cond (same_list q t) None) (stand.numbers q s here)
      ∙ mapped (λ vs. row_numbers_bytes (numbers_of vs)) (same_list q t) (row_at ts q s)
      ∙ ap (option_map (λ vs. row_numbers_bytes (numbers_of vs))) (sym (row_at-without_table ts t q s));
  texts = λ q c s few here.
      ap (cond (same_list q t) None) (stand.texts q c s few here)
      ∙ chained (λ vs. text_in_column vs c) (same_list q t) (row_at ts q s)
      ∙ ap (option_and_then (λ vs. text_in_column vs c)) (sym (row_at-without_table ts t q s));
})
  where
    gone : view (remove_changes t m) f ≡ without_owned kind.RowTexts t (without_owned kind.RowNumbers t (without_owned kind.Tables t f))
    gone =
        view-append (owned_removals kind.Tables t m ++ owned_removals kind.RowNumbers t m) (owned_removals kind.RowTexts t m) f
        ∙ ap (view (owned_removals kind.RowTexts t m)) (
        view-append (owned_removals kind.Tables t m) (owned_removals kind.RowNumbers t m) f
        ∙ ap (view (owned_removals kind.RowNumbers t m)) (view-owned_removals kind.Tables t m f same.table)
        ∙ view-owned_removals kind.RowNumbers t m (without_owned kind.Tables t f) (λ rest. same.numbers rest)
        )
        ∙ view-owned_removals kind.RowTexts t m (without_owned kind.RowNumbers t (without_owned kind.Tables t f)) (λ rest. same.texts rest)

    mapped : {X Y : Type 0} (g : X → Y) (b : Bool) (o : Option X) → cond b None (option_map g o) ≡ option_map g (cond b None o)
    mapped g true o = refl
    mapped g false o = refl

    chained : {X Y : Type 0} (g : X → Option Y) (b : Bool) (o : Option X) → cond b None (option_and_then g o) ≡ option_and_then g (cond b None o)
    chained g true o = refl
    chained g false o = refl
