-- What calls do in states that are alike, behind their first checks.
use Rattle.std.proofs.Common.{◌≡◌, ℕ, Bool, List, Option, Some, None, refl}
use Rattle.std.specs.Prelude.{not}
use Rattle.db_cond.specs.Faults.{BadValue, ExistsAlready, UnknownName, WrongValues}
use Rattle.db_state.specs.Effects.{Effect, refuse, refuse_by, with_found}
use Rattle.db_state.specs.Alike.{plain_effect}
use Rattle.db_state.specs.laws.AlikeChecks.{refuse_by_same, refuse_same, with_found_same}
use Rattle.db_call.specs.Checks.{check, of_both}

pub check_same : (unknown taken : Option (List ℕ)) (shaped : Bool) (e f : Effect) → plain_effect e ≡ plain_effect f
    → plain_effect (check unknown taken shaped e) ≡ plain_effect (check unknown taken shaped f)
check_same unknown taken shaped e f same =
    refuse_by_same unknown UnknownName (refuse_by taken ExistsAlready (refuse (not shaped) WrongValues e))
    (refuse_by taken ExistsAlready (refuse (not shaped) WrongValues f))
    (refuse_by_same taken ExistsAlready (refuse (not shaped) WrongValues e) (refuse (not shaped) WrongValues f)
    (refuse_same (not shaped) WrongValues e f same))

pub of_both_same : {X Y : Type 0} (x : Option X) (y : Option Y) (e f : X → Y → Effect) → ((a : X) (b : Y) → plain_effect (e a b) ≡ plain_effect (f a b))
    → plain_effect (of_both x y e) ≡ plain_effect (of_both x y f)
of_both_same None y e f same = refl
of_both_same (Some a) None e f same = refl
of_both_same (Some a) (Some b) e f same = same a b

-- what is asked for is a good value, and the name is one that something has
pub asked_same : {X Y : Type 0} (asked : Option X) (name : Option (List ℕ)) (found : Option Y) (e f : X → List ℕ → Y → Effect)
    → ((x : X) (i : List ℕ) (y : Y) → plain_effect (e x i y) ≡ plain_effect (f x i y))
    → plain_effect (with_found asked BadValue (λ x. of_both name found (e x))) ≡ plain_effect (with_found asked BadValue (λ x. of_both name found (f x)))
asked_same asked name found e f same =
    with_found_same asked BadValue (λ x. of_both name found (e x)) (λ x. of_both name found (f x)) (λ x. of_both_same name found (e x) (f x) (same x))
