-- The first checks by what was read, and what follows where they let pass.
use Rattle.std.proofs.Common.{◌≡◌, ℕ, Bool, true, false, List, [], Option, Some, None, refl, sym, ap, ◌∙◌}
use Rattle.std.specs.Prelude.{is_some}
use Rattle.std.specs.Bool.{if◌then◌else◌}
use Rattle.std.specs.Option.{option_map}
use Rattle.std.specs.FinMap.{get}
use Rattle.ct_base.specs.laws.Options.{is_some-option_map}
use Rattle.ct_entry.specs.Maps.{Names}
use Rattle.db_cond.specs.Faults.{Refusal, BadValue}
use Rattle.db_state.specs.States.{StoreState}
use Rattle.db_state.specs.Effects.{Effect, Refused, Does, with_found}
use Rattle.db_call.specs.Checks.{check, get_named, missing_name, of_both}

-- the name that nothing has, by what was read
pub unknown_by : {X Y : Type 0} (f : X → Y) (found : Option X) (name unknown : Option (List ℕ)) (there : Bool) → there ≡ is_some found → unknown ≡ missing_name there name → unknown ≡ missing_name (is_some (option_map f found)) name
unknown_by f found name unknown there there_is unknown_is = unknown_is ∙ ap (λ (b : Bool). missing_name b name) (there_is ∙ sym (is_some-option_map f found))

pub unknown_of : {X : Type 0} (found : Option X) (name unknown : Option (List ℕ)) (there : Bool) → there ≡ is_some found → unknown ≡ missing_name there name → unknown ≡ missing_name (is_some found) name
unknown_of found name unknown there there_is unknown_is = unknown_is ∙ ap (λ (b : Bool). missing_name b name) there_is

-- what the name has
pub had : {X : Type 0} (xs : Names X) (name : Option (List ℕ)) (n : List ℕ) (found : Option X) (x : X) → found ≡ get_named xs name → name ≡ Some n → found ≡ Some x → get xs n ≡ Some x
had xs name n found x read named some = sym (ap (get_named xs) named) ∙ sym read ∙ some

pub not_found : {X : Type 0} (o : Option X) (r : Refusal) (effect : X → Effect) → o ≡ None → with_found o r effect ≡ Refused r
not_found o r effect is = ap (λ p. with_found p r effect) is

pub is_found : {X : Type 0} (o : Option X) (x : X) (r : Refusal) (effect : X → Effect) → o ≡ Some x → with_found o r effect ≡ effect x
is_found o x r effect is = ap (λ p. with_found p r effect) is

pub no_first : {X Y : Type 0} (o : Option X) (p : Option Y) (effect : X → Y → Effect) → o ≡ None → of_both o p effect ≡ Refused BadValue
no_first o p effect is = ap (λ q. of_both q p effect) is

pub no_second : {X Y : Type 0} (o : Option X) (p : Option Y) (x : X) (effect : X → Y → Effect) → o ≡ Some x → p ≡ None → of_both o p effect ≡ Refused BadValue
no_second o p x effect first second = λ i. of_both (first i) (second i) effect

pub both_there : {X Y : Type 0} (o : Option X) (p : Option Y) (x : X) (y : Y) (effect : X → Y → Effect) → o ≡ Some x → p ≡ Some y → of_both o p effect ≡ effect x y
both_there o p x y effect first second = λ i. of_both (first i) (second i) effect

-- a bad value where there is no name, or nothing of that name
pub not_named : {X Y Z : Type 0} (o : Option Z) (name : Option X) (found : Option Y) (z : Z) (effect : Z → X → Y → Effect) → o ≡ Some z → name ≡ None → with_found o BadValue (λ (z : Z). of_both name found (effect z)) ≡ Refused BadValue
not_named {Z = Z} o name found z effect is none = is_found o z BadValue (λ (z : Z). of_both name found (effect z)) is ∙ no_first name found (effect z) none

pub not_defined : {X Y Z : Type 0} (o : Option Z) (name : Option X) (found : Option Y) (z : Z) (n : X) (effect : Z → X → Y → Effect) → o ≡ Some z → name ≡ Some n → found ≡ None → with_found o BadValue (λ (z : Z). of_both name found (effect z)) ≡ Refused BadValue
not_defined {Z = Z} o name found z n effect is named none = is_found o z BadValue (λ (z : Z). of_both name found (effect z)) is ∙ no_second name found n (effect z) named none

-- what the first checks let pass isn't there yet
pub check_passed : (unknown taken : Option (List ℕ)) (shaped : Bool) (m : StoreState) → check unknown taken shaped (Does m []) ≡ Does m [] → taken ≡ None
check_passed (Some x) taken shaped m h = cc
check_passed None (Some x) shaped m h = cc
check_passed None None shaped m h = refl

-- what a test lets through, where nothing came of it
pub not_taken : {X : Type 0} (b : Bool) (x : X) → (if b then Some x else None) ≡ None → b ≡ false
not_taken true x h = cc
not_taken false x h = refl
