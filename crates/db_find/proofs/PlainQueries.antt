-- A query of CATSEARCH has no fault where it is reduced, and is reduced to terms, AND, OR and NOT alone.
use Rattle.std.proofs.Common.{◌≡◌, Bool, true, false, List, [], ◌∷◌, ◌++◌, Option, Some, None, refl, sym, ap, subst, ◌∙◌}
use Rattle.std.specs.Prelude.{IfOk, IfSome, Result}
use Rattle.std.specs.Option.{option_map}
use Rattle.std.proofs.lemmas.Bool.{and_parts, and_from}
use Rattle.std.proofs.lemmas.Result.{IfOk-weaker}
use Rattle.ct_base.specs.declared.faults.Memory.{Memory}
use Rattle.tx_settings.specs.declared.preferences.Prefs.{Prefs}
use Rattle.q_tree.specs.declared.flats.Flat.{Flat}
use Rattle.q_tree.specs.declared.flats.Slot.{Slot}
use Rattle.q_tree.specs.declared.queries.Leaf.TheVariants.{Phrase}
use Rattle.q_tree.specs.declared.queries.Op.{Op}
use Rattle.q_tree.specs.declared.queries.Op.TheVariants.{Or, And, Not, Minus}
use Rattle.q_tree.specs.ReducedQueries.{Reduced, reduced_of}
use Rattle.q_tree.specs.Trees.{Tree, Single, Both}
use Rattle.q_reduce.specs.Faults.{Fault, faults}
use Rattle.q_reduce.specs.Reducing.{Context, both_query, leaf_phrases, reduced, term}
use Rattle.cat_query.specs.PlainTrees.{is_plain_tree}
use Rattle.cat_query.specs.Verdicts.{Verdict, Found as FoundTree}
use Rattle.cat_search.specs.Queries.{is_boolean}
use Rattle.db_cond.specs.Faults.{Refusal}
use Rattle.db_find.specs.declared.querying.Meaning.{Meaning as Held}
use Rattle.db_find.specs.declared.querying.Meaning.TheVariants.{Refused, Finds as Found}
use Rattle.db_find.specs.Querying.{Meaning, Finds, Refuses, meaning_by, meaning_of_reduction, reduction_context}
use Rattle.db_find.specs.Meanings.{Means}
use Rattle.db_find.specs.Catalogues.{IsPlainMeaning, IsPlainQuery, verdict_meaning}

-- AND, OR and NOT
abbrev is_plain_op : Op → Bool
is_plain_op And = true
is_plain_op Or = true
is_plain_op Not = true
is_plain_op Minus = false

-- both sides of an operator are plain
plain_sides : (op : Op) (a b : Tree) → is_plain_tree (Both op a b) ≡ true → (is_plain_op op ≡ true) × ((is_plain_tree a ≡ true) × (is_plain_tree b ≡ true))
plain_sides And a b plain = (refl, and_parts (is_plain_tree a) (is_plain_tree b) plain)
plain_sides Or a b plain = (refl, and_parts (is_plain_tree a) (is_plain_tree b) plain)
plain_sides Not a b plain = (refl, and_parts (is_plain_tree a) (is_plain_tree b) plain)
plain_sides Minus a b plain = absurd (cc)

pub no_faults : (x : Context) (inside : Bool) (t : Tree) → is_plain_tree t ≡ true → faults x inside t ≡ []
no_faults x inside (Single (Phrase ((w ∷ []) ∷ []))) plain = refl
no_faults x inside (Both op a b) plain =
    let sides = plain_sides op a b plain in
    let first = no_faults x inside a sides.1.0 in
    let second = no_faults x inside b sides.1.1 in
    λ i. first i ++ second i
no_faults x inside t plain = absurd (cc)

-- ---- what it is reduced to

abbrev pub IsPlainOrNone : Option Reduced → Type 0
IsPlainOrNone o = IfSome o (λ q. is_boolean q ≡ true)

plain_term : (phrases : List (List Slot)) → IsPlainOrNone (term phrases)
plain_term [] = tt
plain_term (p ∷ ps) = refl

plain_both : (op : Op) (a b : Option Reduced) → is_plain_op op ≡ true → IsPlainOrNone a → IsPlainOrNone b → IsPlainOrNone (both_query op a b)
plain_both op None None of first second = tt
plain_both And None (Some b) of first second = second
plain_both Or None (Some b) of first second = second
plain_both Not None (Some b) of first second = tt
plain_both Minus None (Some b) of first second = tt
plain_both op (Some a) None of first second = first
plain_both And (Some a) (Some b) of first second = and_from (is_boolean a) (is_boolean b) first second
plain_both Or (Some a) (Some b) of first second = and_from (is_boolean a) (is_boolean b) first second
plain_both Not (Some a) (Some b) of first second = and_from (is_boolean a) (is_boolean b) first second
plain_both Minus (Some a) (Some b) of first second = absurd (cc)

pub plain_reduced : (x : Context) (t : Tree) → is_plain_tree t ≡ true → IsPlainOrNone (reduced x t)
plain_reduced x (Single (Phrase ((w ∷ []) ∷ []))) plain = plain_term (leaf_phrases x (Phrase ((w ∷ []) ∷ [])))
plain_reduced x (Both op a b) plain =
    let sides = plain_sides op a b plain in
    plain_both op (reduced x a) (reduced x b) sides.0 (plain_reduced x a sides.1.0) (plain_reduced x b sides.1.1)
plain_reduced x t plain = absurd (cc)

-- as code holds it
plain_query : (x : Context) (t : Tree) (flat : Option Flat) → is_plain_tree t ≡ true → reduced x t ≡ option_map reduced_of flat → IsPlainQuery flat
plain_query x t flat plain is = go flat (subst IsPlainOrNone is (plain_reduced x t plain))
  where
    go : (flat : Option Flat) → IsPlainOrNone (option_map reduced_of flat) → IsPlainQuery flat
    go None plain = tt
    go (Some f) plain = plain

-- ---- what it means

module _ (p : Prefs) (t : Tree) (plain : is_plain_tree t ≡ true) where
  -- it isn't refused
  finds : meaning_by p [] t ≡ verdict_meaning p (FoundTree t)
  finds = ap (λ (fs : List Fault). meaning_of_reduction fs (reduced (reduction_context p []) t)) (no_faults (reduction_context p []) false t plain)

  pub plain_means : (result : Result Held Memory) → IfOk result (λ held. Means held (meaning_by p [] t)) → IfOk result (λ held. Means held (verdict_meaning p (FoundTree t)))
  plain_means result = subst (λ (m : Meaning). IfOk result (λ held. Means held m)) finds

  held_plain : (held : Held) → Means held (meaning_by p [] t) → IsPlainMeaning held
  held_plain (Refused line) means = tt
  held_plain (Found flat) means = let same : Finds (reduced (reduction_context p []) t) ≡ Finds (option_map reduced_of flat) = sym finds ∙ means in plain_query (reduction_context p []) t flat plain (cc)

  pub plain_held : (result : Result Held Memory) → IfOk result (λ held. Means held (meaning_by p [] t)) → IfOk result (λ held. IsPlainMeaning held)
  plain_held result = IfOk-weaker result _ _ held_plain

-- what is refused finds nothing that wouldn't be plain
pub refused_is_plain : (held : Held) (refusal : Refusal) → Means held (Refuses refusal) → IsPlainMeaning held
refused_is_plain (Refused line) refusal means = tt
refused_is_plain (Found flat) refusal means = cc

-- ---- by the verdict on its text

-- what means the same as a verdict
pub as_verdict : (p : Prefs) (v w : Verdict) (result : Result Held Memory) → v ≡ w → IfOk result (λ held. Means held (verdict_meaning p v)) → IfOk result (λ held. Means held (verdict_meaning p w))
as_verdict p v w result is = subst (λ (v : Verdict). IfOk result (λ held. Means held (verdict_meaning p v))) is

pub refused_plain : (result : Result Held Memory) (refusal : Refusal) → IfOk result (λ held. Means held (Refuses refusal)) → IfOk result (λ held. IsPlainMeaning held)
refused_plain result refusal = IfOk-weaker result _ _ (λ held means. refused_is_plain held refusal means)
