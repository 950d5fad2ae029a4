-- The first column of a descriptor that isn't there, and the columns that it names.
use Rattle.std.proofs.Common.{◌≡◌, ◌<◌, ◌≤◌, ◌+◌, ℕ, Bool, true, false, cond, List, [], ◌∷◌, ◌++◌, length, map, get_or, take, drop, Option, Some, None, Result, Ok, Err, refl, sym, ap, ◌∙◌, append-nil}
use Rattle.std.specs.Prelude.{OnOk, filter}
use Rattle.std.specs.List.{flat_map}
use Rattle.std.specs.Option.{option_or}
use Rattle.std.proofs.lemmas.List.{map-append, take_all, take_more}
use Rattle.std.proofs.lemmas.List.Elements.{filter-append}
use Rattle.ct_base.specs.declared.faults.Memory.{Memory}
use Rattle.ct_base.specs.laws.Lists.{drop_next}
use Rattle.tb_table.specs.declared.columns.Column.{Column}
use Rattle.tb_table.specs.Rules.{has_column}
use Rattle.rs_result.specs.declared.descriptors.ResultPart.{ResultPart}
use Rattle.db_state.specs.Columns.{first_unknown}
use Rattle.db_hits.specs.Descriptors.{is_named}
use Rattle.db_hits.specs.Rows.{names_of}

-- of two lists of names
unknown_both : (names more : List (List ℕ)) (columns : List Column) → first_unknown (names ++ more) columns ≡ option_or (first_unknown names columns) (first_unknown more columns)
unknown_both [] more columns = refl
unknown_both (n ∷ ns) more columns =
    elim (has_column n columns)
    as (λ b. cond b (first_unknown (ns ++ more) columns) (Some n) ≡ option_or (cond b (first_unknown ns columns) (Some n)) (first_unknown more columns))
    [ true ↦ unknown_both ns more columns | false ↦ refl ]

module _ {A : Type 0} (f : A → List (List ℕ)) (xs : List A) (columns : List Column) (i : ℕ) (x : A) (within : i < length xs) (at : x ≡ get_or xs i x)
    (before : first_unknown (flat_map f (drop i xs)) columns ≡ first_unknown (flat_map f xs) columns) where
  next_unknown : first_unknown (flat_map f xs) columns ≡ option_or (first_unknown (f x) columns) (first_unknown (flat_map f (drop (i + 1) xs)) columns)
  next_unknown =
      sym before
      ∙ ap (λ (l : List A). first_unknown (flat_map f l) columns) (drop_next xs i x within at)
      ∙ unknown_both (f x) (flat_map f (drop (i + 1) xs)) columns

  -- it is the one of this element
  pub unknown_here : (name : List ℕ) → Some name ≡ first_unknown (f x) columns → Some name ≡ first_unknown (flat_map f xs) columns
  unknown_here name is = sym (next_unknown ∙ ap (λ (o : Option (List ℕ)). option_or o (first_unknown (flat_map f (drop (i + 1) xs)) columns)) (sym is))

  -- this one names none that isn't there
  pub unknown_later : None ≡ first_unknown (f x) columns → first_unknown (flat_map f (drop (i + 1) xs)) columns ≡ first_unknown (flat_map f xs) columns
  unknown_later is = sym (next_unknown ∙ ap (λ (o : Option (List ℕ)). option_or o (first_unknown (flat_map f (drop (i + 1) xs)) columns)) (sym is))

-- ---- the names of the columns that the parts name

module _ (parts : List ResultPart) where
  pub name_put : (c : Column) (names more : List (List ℕ)) (result : Result (Unit {0}) Memory) → is_named parts c ≡ true → OnOk result (more ≡ names ++ c.name ∷ []) → OnOk result (more ≡ names ++ names_of parts (c ∷ []))
  name_put c names more (Ok done) named put = put ∙ ap (λ (b : Bool). names ++ map (λ (c : Column). c.name) (cond b (c ∷ []) [])) (sym named)
  name_put c names more (Err fault) named put = tt

  pub name_left_out : (c : Column) (names : List (List ℕ)) → is_named parts c ≡ false → names ≡ names ++ names_of parts (c ∷ [])
  name_left_out c names other = sym (append-nil names) ∙ ap (λ (b : Bool). names ++ map (λ (c : Column). c.name) (cond b (c ∷ []) [])) (sym other)

  more_names : (some : List Column) (c : Column) → names_of parts (some ++ c ∷ []) ≡ names_of parts some ++ names_of parts (c ∷ [])
  more_names some c = ap (map (λ (c : Column). c.name)) (filter-append (is_named parts) some (c ∷ [])) ∙ map-append (λ (c : Column). c.name) (filter (is_named parts) some) (filter (is_named parts) (c ∷ []))

  module _ (columns : List Column) where
    pub one_name : (i : ℕ) (c : Column) (names more : List (List ℕ)) → i < length columns → c ≡ get_or columns i c → names ≡ names_of parts (take i columns) → more ≡ names ++ names_of parts (c ∷ [])
        → more ≡ names_of parts (take (i + 1) columns)
    one_name i c names more within is before put =
        put
        ∙ ap (λ (ns : List (List ℕ)). ns ++ names_of parts (c ∷ [])) before
        ∙ sym (more_names (take i columns) c)
        ∙ ap (λ (d : Column). names_of parts (take i columns ++ d ∷ [])) is
        ∙ ap (names_of parts) (sym (take_more columns i c within))

    pub all_names : (i : ℕ) (names : List (List ℕ)) → length columns ≤ i → names ≡ names_of parts (take i columns) → names ≡ names_of parts columns
    all_names i names past before = before ∙ ap (names_of parts) (take_all i columns past)
