-- Steps of what becomes of rules.
use Rattle.std.proofs.Common.{ℕ, ◌≡◌, Bool, true, false, List, [], ◌∷◌, ◌++◌, length, Option, None, Some, refl, ap, sym, ◌∙◌, append-nil}
use Rattle.std.specs.Prelude.{◌&&◌, nat_le}
use Rattle.std.specs.Bool.{if◌then◌else◌}
use Rattle.std.specs.Str.{IsUtf8, is_utf8}
use Rattle.std.proofs.lemmas.Str.{is_utf8-from_IsUtf8}
use Rattle.std.proofs.lemmas.Option.{same_Some}
use Rattle.q_tree.specs.Trees.{Tree}
use Rattle.q_tree.specs.ReducedQueries.{Reduced}
use Rattle.q_reduce.specs.Reducing.{Context, reduced}
use Rattle.q_reduce.specs.Faults.{Fault as ReductionFault, faults}
use Rattle.q_reduce.specs.Results.{first_fault}
use Rattle.q_stored.specs.Storing.{byte_limit, fits, is_stored}
use Rattle.rule_index.specs.declared.outcomes.Kept.{Kept}
use Rattle.rule_index.specs.declared.outcomes.Kept.TheVariants.{Taken as KeptQuery, Faulty as KeptFault}
use Rattle.rule_index.specs.Kept.{IsFaultyOverLimits}
use Rattle.rule_index.specs.laws.Kind.{limit_is}
use Rattle.rule_index.specs.Outcomes.{Taken, Faulty, is_stored_fault, kept, kept_fault, limit_reached, outcome_of_reduction, outcome_of_tree, reduction_fault}

-- of UTF-8 the length tells
pub by_length : (text : List ℕ) → IsUtf8 text → (b : Bool) → b ≡ nat_le (length text) byte_limit → b ≡ is_stored_fault text
by_length text is b same = same ∙ with_true (nat_le (length text) byte_limit) (is_utf8 text) (is_utf8-from_IsUtf8 text is)
  where
    with_true : (a c : Bool) → c ≡ true → a ≡ (a && c)
    with_true true c h = sym h
    with_true false c h = refl

pub kept_text : (text : List ℕ) → is_stored_fault text ≡ true → kept_fault text ≡ Faulty text
kept_text text h = ap (λ (b : Bool). if b then Faulty text else Faulty limit_reached) h

pub text_over : (text : List ℕ) → is_stored_fault text ≡ false → kept_fault text ≡ Faulty limit_reached
text_over text h = ap (λ (b : Bool). if b then Faulty text else Faulty limit_reached) h

pub kept_query : (q : Option Reduced) → is_stored q ≡ true → kept q ≡ Taken q
kept_query q h = ap (λ (b : Bool). if b then Taken q else Faulty limit_reached) h

-- what doesn't fit isn't stored
pub query_over : (q : Option Reduced) → fits q ≡ false → kept q ≡ Faulty limit_reached
query_over q h = ap (λ (b : Bool). if b then Taken q else Faulty limit_reached) (not_stored q h)
  where
    false_last : (a b c : Bool) → c ≡ false → (a && (b && c)) ≡ false
    false_last true true c h = h
    false_last true false c h = refl
    false_last false b c h = refl

    not_stored : (q : Option Reduced) → fits q ≡ false → is_stored q ≡ false
    not_stored None h = cc
    not_stored (Some q) h = false_last _ _ _ h

-- the text that tells of a limit is kept
pub limit_kept : (text : List ℕ) → text ≡ limit_reached → (Faulty limit_reached ≡ Faulty text) × (is_stored_fault text ≡ true)
limit_kept text e = (ap Faulty (sym e), ap is_stored_fault e ∙ limit_is)

pub faulty_over : (k : Kept) (q : Option Reduced) → fits q ≡ false → IsFaultyOverLimits k q
faulty_over (KeptQuery query bytes) q over = tt
faulty_over (KeptFault text) q over = over

pub with_none : (a b : List ℕ) → a ++ b ++ [] ≡ a ++ b
with_none a b = append-nil (a ++ b)

-- a rule with a fault has the outcome of the first one
pub first_counts : (x : Context) (t : Tree) (f : ReductionFault) → first_fault (faults x false t) ≡ Some f → kept_fault (reduction_fault f) ≡ outcome_of_tree x t
first_counts x t f first = of_list (faults x false t) (reduced x t) first
  where
    of_list : (fs : List ReductionFault) (q : Option Reduced) → first_fault fs ≡ Some f → kept_fault (reduction_fault f) ≡ outcome_of_reduction fs q
    of_list [] q h = cc
    of_list (g ∷ fs) q h = ap (λ (one : ReductionFault). kept_fault (reduction_fault one)) (sym (same_Some g f h))
