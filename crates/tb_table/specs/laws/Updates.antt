-- What new values of a row make of entries that spell tables.
use Rattle.std.proofs.Common.{◌≡◌, ℕ, ℤ, Bool, true, false, cond, List, [], ◌∷◌, Option, Some, None, refl, sym, ap, ◌∙◌}
use Rattle.std.specs.Prelude.{◌==◌, ◌&&◌}
use Rattle.std.specs.Option.{option_and_then, option_or}
use Rattle.std.specs.Ordering.{int_eq}
use Rattle.std.specs.FinMap.{get}
use Rattle.ct_base.specs.declared.lists.Value.{Value}
use Rattle.ct_entry.specs.declared.kinds.Kind.TheVariants as kind
use Rattle.ct_entry.specs.Keys.{key, same_key, same_list, text_part, IsRow}
use Rattle.ct_entry.specs.Changes.{told}
use Rattle.ct_entry.specs.laws.Keys.{list_from_same}
use Rattle.ct_entry.specs.laws.Parts.{texts_tie, same_kind, int_from_eq}
use Rattle.tb_table.specs.Promises.{UpdatedRowsStand, UpdatedRowsAreThere}
use Rattle.tb_table.specs.Tables.{Table, Tables, row_in, row_at, text_in_column, given_text}
use Rattle.tb_table.specs.Spelling.{row_text_changes}
use Rattle.tb_table.specs.laws.Changes.{row_at-with_row, row_stands}

-- where a row is, its table is
pub row_table : (ts : Tables) (t : List ℕ) (r : ℤ) (vs : List Value) → row_at ts t r ≡ Some vs → (x : Table) × (get ts t ≡ Some x) × (get x.rows r ≡ Some vs)
row_table ts t r vs is = go (get ts t) refl is
  where
    go : (o : Option Table) → get ts t ≡ o → row_in o r ≡ Some vs → (x : Table) × (get ts t ≡ Some x) × (get x.rows r ≡ Some vs)
    go None table row = cc
    go (Some x) table row = (x, table, row)

-- what a text's key has after changes for texts that are given
pub told_given : (t : List ℕ) (r : ℤ) (q : List ℕ) (c : ℕ) (s : ℤ) → IsRow r → IsRow s → (texts : List (ℕ × List ℕ)) (old : Option (List ℕ))
    → told (row_text_changes t r texts) (key kind.RowTexts q (text_part c s)) old ≡ cond (same_list q t && int_eq s r) (option_or (given_text c texts) old) old
told_given t r q c s row here [] old = neither (same_list q t && int_eq s r)
  where
    neither : (b : Bool) → old ≡ cond b old old
    neither true = refl
    neither false = refl
told_given t r q c s row here (x ∷ texts) old =
    told_given t r q c s row here texts (cond (same_key (key kind.RowTexts q (text_part c s)) (key kind.RowTexts t (text_part x.0 r))) (Some x.1) old)
    ∙ ap (λ (b : Bool). cond (same_list q t && int_eq s r) (option_or (given_text c texts) (cond b (Some x.1) old)) (cond b (Some x.1) old)) tie
    ∙ at_text (same_list q t) (int_eq s r) (c == x.0) (given_text c texts)
  where
    tie : same_key (key kind.RowTexts q (text_part c s)) (key kind.RowTexts t (text_part x.0 r)) ≡ (same_list q t && ((c == x.0) && int_eq s r))
    tie = same_kind kind.RowTexts q t (text_part c s) (text_part x.0 r) ∙ ap (λ (b : Bool). same_list q t && b) (texts_tie c x.0 s r here row)

    at_text : (a b d : Bool) (later : Option (List ℕ))
        → cond (a && b) (option_or later (cond (a && (d && b)) (Some x.1) old)) (cond (a && (d && b)) (Some x.1) old) ≡ cond (a && b) (option_or (option_or later (cond d (Some x.1) None)) old) old
    at_text true true true None = refl
    at_text true true true (Some y) = refl
    at_text true true false None = refl
    at_text true true false (Some y) = refl
    at_text true false true later = refl
    at_text true false false later = refl
    at_text false b d later = refl

pub stand_update : UpdatedRowsStand
stand_update f ts t r old new texts there row update stand =
    let x = row_table ts t r old there in
    row_stands f ts t r new texts x.0 x.1 row stand (λ q c s few here.
    told_given t r q c s row here texts (f (key kind.RowTexts q (text_part c s)))
    ∙ ap (λ (o : Option (List ℕ)). cond (same_list q t && int_eq s r) (option_or (given_text c texts) o) o) (stand.texts q c s few here)
    ∙ at_texts c (same_list q t) (int_eq s r) (row_at ts q s) (λ a b. ap (λ (o : List ℕ). row_at ts o s) (list_from_same q t a) ∙ ap (row_at ts t) (int_from_eq s r b) ∙ there)
    ∙ ap (option_and_then (λ ws. text_in_column ws c)) (sym (row_at-with_row ts t r new x.0 x.1 q s)))
  where
    at_place : (c : ℕ) (o : Option (List ℕ)) → given_text c texts ≡ o → option_or o (text_in_column old c) ≡ text_in_column new c
    at_place c None is = sym (update.others c is)
    at_place c (Some text) is = sym (update.given c text is)

    at_texts : (c : ℕ) (a b : Bool) (o : Option (List Value)) → (a ≡ true → b ≡ true → o ≡ Some old)
        → cond (a && b) (option_or (given_text c texts) (option_and_then (λ ws. text_in_column ws c) o)) (option_and_then (λ ws. text_in_column ws c) o) ≡ option_and_then (λ ws. text_in_column ws c) (cond a (cond b (Some new) o) o)
    at_texts c true true o is = ap (λ (o : Option (List Value)). option_or (given_text c texts) (option_and_then (λ ws. text_in_column ws c) o)) (is refl refl) ∙ at_place c (given_text c texts) refl
    at_texts c true false o is = refl
    at_texts c false b o is = refl

pub updated_there : UpdatedRowsAreThere
updated_there ts t r old new there u s =
    let x = row_table ts t r old there in
    row_at-with_row ts t r new x.0 x.1 u s ∙ both (same_list u t) (int_eq s r)
  where
    both : (a b : Bool) → cond a (cond b (Some new) (row_at ts u s)) (row_at ts u s) ≡ cond (a && b) (Some new) (row_at ts u s)
    both true b = refl
    both false b = refl
