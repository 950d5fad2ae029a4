-- A stack of queries.
use Rattle.std.proofs.Common.{◌≡◌, List, [], ◌∷◌, ◌++◌, length, Option, Some, None, refl, sym, ap, ◌∙◌, arith}
use Rattle.std.specs.Option.{option_and_then, option_map}
use Rattle.q_tree.specs.declared.flats.Flat.{Flat}
use Rattle.q_tree.specs.ReducedQueries.{Reduced, reduced_of}
use Rattle.q_stored.specs.declared.heads.Head.{Head}
use Rattle.q_stored.specs.Building.{PushesHead, push_head, stack_after, only, query_of, reduced_stack}
use Rattle.q_stored.specs.laws.Prefixes.{stack_after-append}

reduced_stack_push : (qs : List Flat) (q : Flat) → reduced_stack (qs ++ q ∷ []) ≡ reduced_of q ∷ reduced_stack qs
reduced_stack_push [] q = refl
reduced_stack_push (p ∷ qs) q = ap (λ x. x ++ reduced_of p ∷ []) (reduced_stack_push qs q)

pub reduced_stack_last : (qs ps : List Flat) (q : Flat) → qs ≡ ps ++ q ∷ [] → reduced_stack qs ≡ reduced_of q ∷ reduced_stack ps
reduced_stack_last qs ps q is = ap reduced_stack is ∙ reduced_stack_push ps q

pub no_stack_left : (qs : List Flat) → length qs ≡ 0 → reduced_stack qs ≡ []
no_stack_left [] e = refl
no_stack_left (q ∷ qs) e = absurd (omega arith)

-- ---- queries from heads

-- the last head takes its parts from the stack
pub build_step : (all rest left : List Head) (h : Head) (stack old new : List Reduced) (q : Reduced) → rest ≡ left ++ h ∷ [] → stack_after rest stack ≡ stack_after all [] → push_head h stack ≡ Some (q ∷ old) → new ≡ q ∷ old → stack_after left new ≡ stack_after all []
build_step all rest left h stack old new q is so_far applies pushed =
    ap (stack_after left) pushed ∙ sym (ap (option_and_then (λ (rs : List Reduced). stack_after left rs)) applies) ∙ sym (stack_after-append left (h ∷ []) stack) ∙ ap (λ (hs : List Head). stack_after hs stack) (sym is) ∙ so_far

pub build_stuck : (all rest left : List Head) (h : Head) (stack : List Reduced) → rest ≡ left ++ h ∷ [] → stack_after rest stack ≡ stack_after all [] → push_head h stack ≡ None → None ≡ query_of all
build_stuck all rest left h stack is so_far applies =
    ap only (sym (ap (option_and_then (λ (rs : List Reduced). stack_after left rs)) applies) ∙ sym (stack_after-append left (h ∷ []) stack) ∙ ap (λ (hs : List Head). stack_after hs stack) (sym is) ∙ so_far)

pub applies_none : (h : Head) (old new : List Reduced) (o : Option Flat) → o ≡ None → PushesHead h old new (option_map reduced_of o) → push_head h old ≡ None
applies_none h old new None is a = a
applies_none h old new (Some q) is a = cc

pub applies_some : (h : Head) (old new : List Reduced) (o : Option Flat) (q : Flat) → o ≡ Some q → PushesHead h old new (option_map reduced_of o) → push_head h old ≡ Some (reduced_of q ∷ new)
applies_some h old new None q is a = cc
applies_some h old new (Some p) q is a = let e : p ≡ q = cc in a ∙ ap (λ r. Some (reduced_of r ∷ new)) e
