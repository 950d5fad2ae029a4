-- What statements do in states that are alike, check by check.
use Rattle.std.proofs.Common.{◌≡◌, ℕ, Bool, true, false, List, Option, Some, None, refl, sym, ap, ◌∙◌}
use Rattle.std.specs.Option.{option_map}
use Rattle.std.specs.FinMap.{get}
use Rattle.ct_entry.specs.Maps.{Names}
use Rattle.ix_indexes.specs.Indexes.{Index}
use Rattle.db_cond.specs.Faults.{Refusal}
use Rattle.db_state.specs.States.{StoreState}
use Rattle.db_state.specs.Effects.{Effect, Refused, Does, Works, refuse, refuse_by, with_found, state_by, reply_by, is_done}
use Rattle.db_state.specs.Alike.{plain_state, plain_index, plain_indexes, plain_effect, AreAlike, IsSameInAlike, DoesSamePlain}
use Rattle.db_state.specs.laws.Alike.{get-plain, indexes_twice}

pub plain_twice : (m : StoreState) → plain_state (plain_state m) ≡ plain_state m
plain_twice m = ap (λ (xs : Names Index). record m { indexes = xs }) (indexes_twice m.indexes)

-- ---- the checks of a statement: a refusal is the same, and else what follows

pub refuse_same : (b : Bool) (refusal : Refusal) (e f : Effect) → plain_effect e ≡ plain_effect f
    → plain_effect (refuse b refusal e) ≡ plain_effect (refuse b refusal f)
refuse_same true refusal e f same = refl
refuse_same false refusal e f same = same

pub refuse_by_same : {X : Type 0} (o : Option X) (refusal : X → Refusal) (e f : Effect) → plain_effect e ≡ plain_effect f
    → plain_effect (refuse_by o refusal e) ≡ plain_effect (refuse_by o refusal f)
refuse_by_same None refusal e f same = same
refuse_by_same (Some x) refusal e f same = refl

pub with_found_same : {X : Type 0} (o : Option X) (refusal : Refusal) (e f : X → Effect) → ((x : X) → plain_effect (e x) ≡ plain_effect (f x))
    → plain_effect (with_found o refusal e) ≡ plain_effect (with_found o refusal f)
with_found_same None refusal e f same = refl
with_found_same (Some x) refusal e f same = same x

-- what follows of the index of a name
pub with_index_same : (o : Option Index) (refusal : Refusal) (e f : Index → Effect) → ((x : Index) → plain_effect (e (plain_index x)) ≡ plain_effect (f x))
    → plain_effect (with_found (option_map plain_index o) refusal e) ≡ plain_effect (with_found o refusal f)
with_index_same None refusal e f same = refl
with_index_same (Some x) refusal e f same = same x

pub with_named_same : (xs : Names Index) (i : List ℕ) (refusal : Refusal) (e f : Index → Effect)
    → ((x : Index) → plain_effect (e (plain_index x)) ≡ plain_effect (f x))
    → plain_effect (with_found (get (plain_indexes xs) i) refusal e) ≡ plain_effect (with_found (get xs i) refusal f)
with_named_same xs i refusal e f same =
    ap (λ (o : Option Index). plain_effect (with_found o refusal e)) (get-plain xs i) ∙ with_index_same (get xs i) refusal e f same

-- a statement that changes indexes
pub does_indexes : (m : StoreState) (xs ys : Names Index) (reply : List ℕ) → plain_indexes xs ≡ plain_indexes ys
    → plain_effect (Does (record m { indexes = xs }) reply) ≡ plain_effect (Does (record m { indexes = ys }) reply)
does_indexes m xs ys reply same = ap (λ (zs : Names Index). Does (record m { indexes = zs }) reply) same

-- a statement that only looks, or changes all but these
pub does_plain : (m : StoreState) (reply : List ℕ) → plain_effect (Does (plain_state m) reply) ≡ plain_effect (Does m reply)
does_plain m reply = ap (λ (n : StoreState). Does n reply) (plain_twice m)

-- ---- a statement

done_shown : (e : Effect) → is_done (plain_effect e) ≡ is_done e
done_shown (Refused refusal) = refl
done_shown (Does m reply) = refl
done_shown (Works m reply work) = refl

reply_shown : (e : Effect) → reply_by (plain_effect e) ≡ reply_by e
reply_shown (Refused refusal) = refl
reply_shown (Does m reply) = refl
reply_shown (Works m reply work) = refl

state_shown : (m : StoreState) (e : Effect) → state_by (plain_state m) (plain_effect e) ≡ plain_state (state_by m e)
state_shown m (Refused refusal) = refl
state_shown m (Does next reply) = refl
state_shown m (Works next reply work) = refl

-- where what comes of it is the same in the plain state, it is in all states that are alike
pub alike_from_plain : (f : StoreState → Effect) → DoesSamePlain f → IsSameInAlike f
alike_from_plain f plainly m n alike = record {
  done = sym (done_shown (f m)) ∙ ap is_done same ∙ done_shown (f n);
  reply = sym (reply_shown (f m)) ∙ ap reply_by same ∙ reply_shown (f n);
  states = sym (state_shown m (f m)) ∙ (λ j. state_by (alike j) (same j)) ∙ state_shown n (f n);
}
  where
    same : plain_effect (f m) ≡ plain_effect (f n)
    same = sym (plainly m) ∙ ap (λ (k : StoreState). plain_effect (f k)) alike ∙ plainly n

pub alike_itself : (m : StoreState) → AreAlike m m
alike_itself m = refl
