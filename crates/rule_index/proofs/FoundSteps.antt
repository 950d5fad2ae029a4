-- Steps of collecting the rows that are found.
use Rattle.std.proofs.Common.{ℕ, ℤ, ◌≡◌, ◌≤◌, Bool, true, false, cond, List, [], ◌∷◌, length, map, Option, Some, None, refl, sym, ap, ◌∙◌, arith}
use Rattle.std.specs.Prelude.{◌||◌, nat_le, is_some}
use Rattle.std.specs.List.{list_any, list_all}
use Rattle.std.specs.Ordering.{int_cmp, int_eq}
use Rattle.std.specs.FinMap.{get, insert, empty, get-empty}
use Rattle.std.proofs.lemmas.Bool.{and_parts, leb-true}
use Rattle.std.proofs.lemmas.Slice.Eq.{bytes_eq-Decides}
use Rattle.ct_base.specs.Limits.{token_limit}
use Rattle.ct_base.specs.declared.numbers.RowKey.{RowKey}
use Rattle.ct_entry.specs.Maps.{Rows}
use Rattle.ct_entry.specs.laws.Maps.{get_row-insert}
use Rattle.ct_keep.specs.Content.{Content}
use Rattle.q_tree.specs.Soundness.{is_key}
use Rattle.rule_index.specs.Matching.{AddsFirst, AddsRows, begins_with, is_filed_under}

abbrev pub with_nothing : List RowKey → List (ℤ × Unit {0})
with_nothing rs = map {B = ℤ × Unit {0}} (λ r. (r.0, tt)) rs

pub keys_of_found : (rs : List RowKey) → map (λ (e : ℤ × Unit {0}). e.0) (with_nothing rs) ≡ map (λ (r : RowKey). r.0) rs
keys_of_found [] = refl
keys_of_found (r ∷ rs) = ap (λ (l : List ℤ). r.0 ∷ l) (keys_of_found rs)

or_then : (a b c : Bool) → ((a || b) || c) ≡ (a || (b || c))
or_then true b c = refl
or_then false b c = refl

or_none : (a : Bool) → (a || false) ≡ a
or_none true = refl
or_none false = refl

-- a row more
pub row_added : (rows : Rows (Unit {0})) (k r : ℤ) → is_some (get (insert rows k tt) r) ≡ (is_some (get rows r) || int_eq r k)
row_added rows k r = ap is_some (get_row-insert rows k tt r) ∙ go (int_eq r k) (get rows r)
  where
    go : (b : Bool) (o : Option (Unit {0})) → is_some (cond b (Some tt) o) ≡ (is_some o || b)
    go true None = refl
    go true (Some u) = refl
    go false o = sym (or_none (is_some o))

-- ---- rows that are put one by one

-- a row is there, or still to be put
abbrev pub is_left : Rows (Unit {0}) → List RowKey → ℤ → Bool
is_left rows rest r = is_some (get rows r) || list_any (int_eq r) (map (λ (k : RowKey). k.0) rest)

pub put_next : (old : Rows (Unit {0})) (row : RowKey) (rest later : List RowKey) (r : ℤ) (whole : Bool) → rest ≡ row ∷ later → is_left old rest r ≡ whole → is_left (insert old row.0 tt) later r ≡ whole
put_next old row rest later r whole are all =
    ap (λ (b : Bool). b || list_any (int_eq r) (map (λ (k : RowKey). k.0) later)) (row_added old row.0 r)
    ∙ or_then (is_some (get old r)) (int_eq r row.0) (list_any (int_eq r) (map (λ (k : RowKey). k.0) later))
    ∙ sym (ap (λ (l : List RowKey). is_left old l r) are)
    ∙ all

pub put_end : (rows : Rows (Unit {0})) (rest : List RowKey) (r : ℤ) (whole : Bool) → length rest ≡ 0 → is_left rows rest r ≡ whole → is_some (get rows r) ≡ whole
put_end rows [] r whole none all = sym (or_none (is_some (get rows r))) ∙ all
put_end rows (k ∷ ks) r whole none all = absurd (omega (arith, none))

-- ---- keys that are looked under one by one

-- those under this key were added
pub adds_first : (i : List ℕ) (m : Content) (key : List ℕ) (later : List (List ℕ)) (old new : Rows (Unit {0})) → AddsRows old new (λ r. is_filed_under i m r key) → AddsFirst i m key later old new
adds_first i m key later old new adds r =
    ap (λ (b : Bool). b || list_any (is_filed_under i m r) later) (adds r) ∙ or_then (is_some (get old r)) (is_filed_under i m r key) (list_any (is_filed_under i m r) later)

or_again : (a b c : Bool) → (a || (b || c)) ≡ (a || (b || (b || c)))
or_again true b c = refl
or_again false true c = refl
or_again false false c = refl

-- the next key is the same, and will be looked under
pub same_next : (i : List ℕ) (m : Content) (key : List ℕ) (later : List (List ℕ)) (rows : Rows (Unit {0})) → begins_with later key ≡ true → AddsFirst i m key later rows rows
same_next i m key [] rows h r = cc
same_next i m key (k ∷ ks) rows h r =
    let same : k ≡ key = (bytes_eq-Decides k key).0 h in
    or_again (is_some (get rows r)) (is_filed_under i m r k) (list_any (is_filed_under i m r) ks)
    ∙ ap (λ (l : List ℕ). is_some (get rows r) || (is_filed_under i m r l || (is_filed_under i m r k || list_any (is_filed_under i m r) ks))) same

-- a row is there, or filed under a key that is still to be looked under
abbrev pub is_still : List ℕ → Content → Rows (Unit {0}) → List (List ℕ) → ℤ → Bool
is_still i m rows rest r = is_some (get rows r) || list_any (is_filed_under i m r) rest

pub look_next : (i : List ℕ) (m : Content) (key : List ℕ) (rest later : List (List ℕ)) (old new : Rows (Unit {0})) (r : ℤ) (whole : Bool) → rest ≡ key ∷ later → AddsFirst i m key later old new
    → is_still i m old rest r ≡ whole → is_still i m new later r ≡ whole
look_next i m key rest later old new r whole are adds all = adds r ∙ sym (ap (λ (l : List (List ℕ)). is_still i m old l r) are) ∙ all

pub look_end : (i : List ℕ) (m : Content) (rows : Rows (Unit {0})) (rest : List (List ℕ)) (r : ℤ) (whole : Bool) → length rest ≡ 0 → is_still i m rows rest r ≡ whole → is_some (get rows r) ≡ whole
look_end i m rows [] r whole none all = sym (or_none (is_some (get rows r))) ∙ all
look_end i m rows (k ∷ ks) r whole none all = absurd (omega (arith, none))

-- those that are found everywhere are there at first
pub look_first : (i : List ℕ) (m : Content) (none rows : Rows (Unit {0})) (keys : List (List ℕ)) → none ≡ empty → AddsRows none rows (λ r. is_filed_under i m r []) → (r : ℤ) → is_still i m rows keys r ≡ list_any (is_filed_under i m r) ([] ∷ keys)
look_first i m none rows keys is adds r =
    ap (λ (b : Bool). b || list_any (is_filed_under i m r) keys) (adds r ∙ ap (λ (b : Bool). b || is_filed_under i m r []) (ap is_some (ap (λ (n : Rows (Unit {0})). get n r) is ∙ get-empty int_cmp r)))

-- the keys that are left are keys
pub keys_left : (key : List ℕ) (rest later : List (List ℕ)) → rest ≡ key ∷ later → list_all is_key rest ≡ true → (is_key key ≡ true) × (list_all is_key later ≡ true)
keys_left key rest later are all = and_parts (is_key key) (list_all is_key later) (sym (ap (list_all is_key) are) ∙ all)

pub key_fits : (key : List ℕ) → is_key key ≡ true → length key ≤ 255
key_fits key is = leb-true (length key) 255 (and_parts (nat_le 1 (length key)) (nat_le (length key) token_limit) is).1
