-- Steps of making what a row has.
use Rattle.std.proofs.Common.{◌≡◌, ℕ, ℤ, ◌-◌, ◌<◌, ◌≤◌, zero, suc, true, List, [], ◌∷◌, ◌++◌, length, map, Option, refl, sym, ap, subst, ◌∙◌, arith, append-nil, append_assoc}
use Rattle.std.proofs.lemmas.Bool.{and_parts}
use Rattle.std.specs.List.{flat_map, list_all, slice_get}
use Rattle.std.specs.Option.{option_and_then}
use Rattle.ct_base.specs.declared.lists.Value.{Value}
use Rattle.ct_entry.specs.Lists.{EachIs}
use Rattle.tb_table.specs.Tables.{as_text, text_in, text_in_column}
use Rattle.tx_sets.specs.Sets.{sub_column_limit}
use Rattle.cat_index.specs.Filings.{fit_sub_index, value_bytes}
use Rattle.cat_index.specs.Catalogues.{value_at}
use Rattle.ix_kinds.specs.Rows.{value_at_place}
use Rattle.cat_index.specs.Shapes.{AreItems, AreValues, IsItem}
use Rattle.cat_index.specs.laws.Filings.{items_are_at, values_are}

-- ---- values and texts by their places

value_got : (vs : List Value) (place : ℕ) → value_at_place vs place ≡ slice_get vs place
value_got [] place = refl
value_got (v ∷ vs) zero = refl
value_got (v ∷ vs) (suc place) = value_got vs place

pub value_got_at : (r : ℤ) (vs : List Value) (place : ℕ) → 1 ≤ place → value_at r vs place ≡ slice_get vs (place - 1)
value_got_at r vs zero behind = absurd (omega (arith, behind))
value_got_at r vs (suc place) behind = value_got vs place ∙ ap (slice_get vs) (omega arith)

text_got : (vs : List Value) (place : ℕ) → text_in vs place ≡ option_and_then as_text (slice_get vs place)
text_got [] place = refl
text_got (v ∷ vs) zero = refl
text_got (v ∷ vs) (suc place) = text_got vs place

pub text_got_at : (vs : List Value) (column : ℕ) → 1 ≤ column → text_in_column vs column ≡ option_and_then as_text (slice_get vs (column - 1))
text_got_at vs zero behind = absurd (omega (arith, behind))
text_got_at vs (suc place) behind = text_got vs place ∙ ap (λ (n : ℕ). option_and_then as_text (slice_get vs n)) (omega arith)

-- ---- values of sub-indexes

empty : {X : Type 0} (xs : List X) → length xs < 1 → xs ≡ []
empty [] few = refl
empty (x ∷ xs) few = absurd (omega (arith, few))

-- one more value was put
pub next_value : (value : ℕ → Option Value) (rest : List ℕ) (p : ℕ) (ps old new whole : List ℕ) → rest ≡ p ∷ ps → new ≡ old ++ value_bytes (value p) → old ++ flat_map value_bytes (map value rest) ≡ whole → new ++ flat_map value_bytes (map value ps) ≡ whole
next_value value rest p ps old new whole is added all =
    ap (λ (l : List ℕ). l ++ flat_map value_bytes (map value ps)) added
    ∙ append_assoc old (value_bytes (value p)) (flat_map value_bytes (map value ps))
    ∙ ap (λ (l : List ℕ). old ++ flat_map value_bytes (map value l)) (sym is)
    ∙ all

pub next_item : (value : ℕ → Option Value) (rest : List ℕ) (p : ℕ) (ps : List ℕ) (whole : List (List ℕ)) → rest ≡ p ∷ ps → IsItem (value_bytes (value p)) → (EachIs IsItem (map value_bytes (map value rest)) → EachIs IsItem whole)
    → EachIs IsItem (map value_bytes (map value ps)) → EachIs IsItem whole
next_item value rest p ps whole is one all items = all (subst (λ (l : List ℕ). EachIs IsItem (map value_bytes (map value l))) (sym is) (one, items))

-- the values of one more sub-index were
pub next_values : (value : ℕ → Option Value) (rest : List (List ℕ)) (p : List ℕ) (ps old new whole : List (List ℕ)) (bytes : List ℕ) → rest ≡ p ∷ ps → new ≡ old ++ bytes ∷ [] → bytes ≡ flat_map value_bytes (map value p)
    → old ++ map (flat_map value_bytes) (map (map value) rest) ≡ whole → new ++ map (flat_map value_bytes) (map (map value) ps) ≡ whole
next_values value rest p ps old new whole bytes is added are all =
    ap (λ (l : List (List ℕ)). l ++ map (flat_map value_bytes) (map (map value) ps)) (added ∙ ap (λ (b : List ℕ). old ++ b ∷ []) are)
    ∙ append_assoc old (flat_map value_bytes (map value p) ∷ []) (map (flat_map value_bytes) (map (map value) ps))
    ∙ ap (λ (l : List (List ℕ)). old ++ map (flat_map value_bytes) (map (map value) l)) (sym is)
    ∙ all

pub next_items : (value : ℕ → Option Value) (rest : List (List ℕ)) (p : List ℕ) (ps whole : List (List ℕ)) (bytes : List ℕ) → rest ≡ p ∷ ps → bytes ≡ flat_map value_bytes (map value p) → AreItems sub_column_limit bytes
    → (EachIs (AreItems sub_column_limit) (map (flat_map value_bytes) (map (map value) rest)) → EachIs (AreItems sub_column_limit) whole)
    → EachIs (AreItems sub_column_limit) (map (flat_map value_bytes) (map (map value) ps)) → EachIs (AreItems sub_column_limit) whole
next_items value rest p ps whole bytes is are one all items =
    all (subst (λ (l : List (List ℕ)). EachIs (AreItems sub_column_limit) (map (flat_map value_bytes) (map (map value) l))) (sym is) (subst (AreItems sub_column_limit) are one, items))

-- the first of some that each fit
pub first_fits : (rest : List (List ℕ)) (p : List ℕ) (ps : List (List ℕ)) → rest ≡ p ∷ ps → list_all fit_sub_index rest ≡ true → (fit_sub_index p ≡ true) × (list_all fit_sub_index ps ≡ true)
first_fits rest p ps is each = and_parts (fit_sub_index p) (list_all fit_sub_index ps) (ap (list_all fit_sub_index) (sym is) ∙ each)

-- all values were put
pub items_end : (value : ℕ → Option Value) (places rest : List ℕ) (bytes : List ℕ) → length rest < 1 → fit_sub_index places ≡ true
    → bytes ++ flat_map value_bytes (map value rest) ≡ flat_map value_bytes (map value places)
    → (EachIs IsItem (map value_bytes (map value rest)) → EachIs IsItem (map value_bytes (map value places))) → AreItems sub_column_limit bytes
items_end value places rest bytes few has are items =
    let none = empty rest few in
    let whole : bytes ≡ flat_map value_bytes (map value places) = sym (append-nil bytes) ∙ ap (λ (l : List ℕ). bytes ++ flat_map value_bytes (map value l)) (sym none) ∙ are in
    subst (AreItems sub_column_limit) (sym whole) (items_are_at value places has (items (subst (λ (l : List ℕ). EachIs IsItem (map value_bytes (map value l))) (sym none) tt)))

pub values_end : (value : ℕ → Option Value) (places rest : List (List ℕ)) (all : List (List ℕ)) → length rest < 1
    → all ++ map (flat_map value_bytes) (map (map value) rest) ≡ [] ∷ map (flat_map value_bytes) (map (map value) places)
    → (EachIs (AreItems sub_column_limit) (map (flat_map value_bytes) (map (map value) rest)) → EachIs (AreItems sub_column_limit) (map (flat_map value_bytes) (map (map value) places))) → AreValues 0 all
values_end value places rest all few are items =
    let none = empty rest few in
    let whole : all ≡ [] ∷ map (flat_map value_bytes) (map (map value) places) = sym (append-nil all) ∙ ap (λ (l : List (List ℕ)). all ++ map (flat_map value_bytes) (map (map value) l)) (sym none) ∙ are in
    subst (AreValues 0) (sym whole)
    (refl, values_are 1 (map (flat_map value_bytes) (map (map value) places)) (omega arith) (items (subst (λ (l : List (List ℕ)). EachIs (AreItems sub_column_limit) (map (flat_map value_bytes) (map (map value) l))) (sym none) tt)))
