-- What the checks of an INSERT leave of its effect.
use Rattle.std.proofs.Common.{◌≡◌, ℕ, ℤ, Bool, true, false, List, [], length, Option, Some, None, refl, sym, ap, ◌∙◌}
use Rattle.std.specs.Prelude.{nat_le}
use Rattle.std.specs.List.{list_any}
use Rattle.std.specs.FinMap.{get, entries}
use Rattle.ct_base.specs.laws.Bools.{not_false}
use Rattle.ct_base.specs.Limits.{row_limit}
use Rattle.st_parse.specs.declared.statements.Operand.{Operand}
use Rattle.tb_table.specs.declared.columns.Column.{Column}
use Rattle.tb_table.specs.Tables.{Table}
use Rattle.db_cond.specs.declared.faults.Fault.{Fault}
use Rattle.db_cond.specs.Faults.{Refusal, UnknownName, KeyExists, OutOfRange}
use Rattle.db_cond.specs.Refused.{refusal_of}
use Rattle.db_state.specs.States.{StoreState}
use Rattle.db_state.specs.Effects.{Effect, Refused, Does, refuse, refuse_by, with_found, Checks}
use Rattle.db_change.specs.Inserting.{are_of_sorts, arranged, check_list, check_row_values, has_row, has_too_long, insert_into, insert_row, insert_values, key_in, others_kept, row_created, taken_key, with_new_row, IsFreeRow}
use Rattle.db_rows.specs.Checking.{is_beyond_operand}
use Rattle.ct_base.specs.laws.Options.{no_value as gone}

-- ---- chains of checks that lead on

refuse_passed : (b : Bool) (refusal : Refusal) (effect : Effect) (m : StoreState) → refuse b refusal effect ≡ Does m [] → (b ≡ false) × (effect ≡ Does m [])
refuse_passed true refusal effect m h = cc
refuse_passed false refusal effect m h = (refl, h)

pub refuse_by_passed : {X : Type 0} (o : Option X) (refusal : X → Refusal) (effect : Effect) (m : StoreState) → refuse_by o refusal effect ≡ Does m [] → (o ≡ None) × (effect ≡ Does m [])
refuse_by_passed None refusal effect m h = (refl, h)
refuse_by_passed (Some x) refusal effect m h = cc

not_taken : (taken : Bool) (r : ℤ) → taken_key taken (Some r) ≡ None → taken ≡ false
not_taken true r h = cc
not_taken false r h = refl

-- ---- the values

module _ (m : StoreState) (t : List ℕ) (x : Table) (values : List Operand) (taken many : Bool) (columns : List Column)
    (taken_is : taken ≡ has_row x (key_in values)) (many_is : many ≡ nat_le row_limit (length (entries x.rows))) (columns_are : x.columns ≡ columns) where
  checked : insert_values m t x values ≡ check_row_values taken many columns values (with_found (key_in values) OutOfRange (λ (r : ℤ). insert_row m t values r))
  checked =
      ap (λ (b : Bool). check_row_values b (nat_le row_limit (length (entries x.rows))) x.columns values (with_found (key_in values) OutOfRange (λ (r : ℤ). insert_row m t values r))) (sym taken_is)
      ∙ ap (λ (b : Bool). check_row_values taken b x.columns values (with_found (key_in values) OutOfRange (λ (r : ℤ). insert_row m t values r))) (sym many_is)
      ∙ ap (λ (cs : List Column). check_row_values taken many cs values (with_found (key_in values) OutOfRange (λ (r : ℤ). insert_row m t values r))) columns_are

  pub values_refused : (fault : Fault) → ((done : Effect) → Checks (Some fault) (check_row_values taken many columns values done) done) → insert_values m t x values ≡ Refused (refusal_of fault)
  values_refused fault checks = checked ∙ checks (with_found (key_in values) OutOfRange (λ (r : ℤ). insert_row m t values r))

  module _ (passed : (done : Effect) → Checks None (check_row_values taken many columns values done) done) where
    pub values_without_key : key_in values ≡ None → insert_values m t x values ≡ Refused OutOfRange
    values_without_key none =
        checked ∙ passed (with_found (key_in values) OutOfRange (λ (r : ℤ). insert_row m t values r)) ∙ ap (λ (o : Option ℤ). with_found o OutOfRange (λ (r : ℤ). insert_row m t values r)) none

    pub values_inserted : (r : ℤ) → key_in values ≡ Some r → insert_values m t x values ≡ Does (with_new_row m t r (others_kept values)) row_created
    values_inserted r is =
        checked ∙ passed (with_found (key_in values) OutOfRange (λ (r : ℤ). insert_row m t values r)) ∙ ap (λ (o : Option ℤ). with_found o OutOfRange (λ (r : ℤ). insert_row m t values r)) is

    pub values_free : (r : ℤ) → key_in values ≡ Some r → IsFreeRow x values r
    values_free r is =
        let a = refuse_passed _ _ _ m (passed (Does m [])) in
        let b = refuse_by_passed (taken_key taken (key_in values)) KeyExists _ m a.1 in
        let d = refuse_passed (has_too_long columns values) _ _ m b.1 in
        let e = refuse_passed (list_any is_beyond_operand values) _ _ m d.1 in
        let f = refuse_passed many _ _ m e.1 in
        record {
          key = is;
          free = gone (get x.rows r) (sym (taken_is ∙ ap (has_row x) is) ∙ not_taken taken r (sym (ap (taken_key taken) is) ∙ b.0));
          sorts = ap (λ (cs : List Column). are_of_sorts cs values) columns_are ∙ not_false (are_of_sorts columns values) a.0;
          short = ap (λ (cs : List Column). has_too_long cs values) columns_are ∙ d.0;
          within = e.0;
          few = sym many_is ∙ f.0;
        }

-- ---- the table, and the list of columns

module _ (m : StoreState) (t : List ℕ) (names : Option (List (List ℕ))) (values : List Operand) where
  pub into_none : get m.tables t ≡ None → insert_into m t names values ≡ Refused (UnknownName t)
  into_none none = ap (λ (o : Option Table). with_found o (UnknownName t) (λ (x : Table). check_list x.columns names values (insert_values m t x (arranged names x.columns values)))) none

  module _ (x : Table) (columns : List Column) (here : get m.tables t ≡ Some x) (columns_are : x.columns ≡ columns) where
    into_some : insert_into m t names values ≡ check_list columns names values (insert_values m t x (arranged names columns values))
    into_some =
        ap (λ (o : Option Table). with_found o (UnknownName t) (λ (x : Table). check_list x.columns names values (insert_values m t x (arranged names x.columns values)))) here
        ∙ ap (λ (cs : List Column). check_list cs names values (insert_values m t x (arranged names cs values))) columns_are

    pub into_refused : (fault : Fault) → ((done : Effect) → Checks (Some fault) (check_list columns names values done) done) → insert_into m t names values ≡ Refused (refusal_of fault)
    into_refused fault checks = into_some ∙ checks (insert_values m t x (arranged names columns values))

    pub into_values : ((done : Effect) → Checks None (check_list columns names values done) done) → (arranged_values : List Operand)
        → arranged_values ≡ arranged names columns values → insert_into m t names values ≡ insert_values m t x arranged_values
    into_values passed arranged_values is = into_some ∙ passed (insert_values m t x (arranged names columns values)) ∙ ap (insert_values m t x) (sym is)
