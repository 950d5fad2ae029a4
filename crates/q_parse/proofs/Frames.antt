-- The frames of the code, the innermost last.
use Rattle.std.proofs.Common.{◌≡◌, List, [], ◌∷◌, ◌++◌, length, refl, sym, ap, ◌∙◌, arith}
use Rattle.q_tree.specs.declared.queries.Word.{Word as TreeWord}
use Rattle.q_parse.specs.Grammar.{put_last}
use Rattle.q_parse.specs.declared.stages.Frame.{Frame as CodeFrame}
use Rattle.q_parse.specs.declared.stages.SumFrame.{SumFrame}
use Rattle.q_parse.specs.Views.{frame_of, frames_of, stack_of, trees_of}
use Rattle.q_tree.specs.declared.queries.Query.{Query}
use Rattle.q_tree.specs.Trees.{tree_of}

frames_of_push : (fs : List CodeFrame) (f : CodeFrame) → frames_of (fs ++ f ∷ []) ≡ frame_of f ∷ frames_of fs
frames_of_push [] f = refl
frames_of_push (g ∷ fs) f = ap (λ x. x ++ frame_of g ∷ []) (frames_of_push fs f)

pub frames_of_last : (fs gs : List CodeFrame) (f : CodeFrame) → fs ≡ gs ++ f ∷ [] → frames_of fs ≡ frame_of f ∷ frames_of gs
frames_of_last fs gs f is = ap frames_of is ∙ frames_of_push gs f

pub none_left : (fs : List CodeFrame) → length fs ≡ 0 → frames_of fs ≡ []
none_left [] e = refl
none_left (f ∷ fs) e = absurd (omega arith)

stack_of_push : (fs : List SumFrame) (f : SumFrame) → stack_of (fs ++ f ∷ []) ≡ f ∷ stack_of fs
stack_of_push [] f = refl
stack_of_push (g ∷ fs) f = ap (λ x. x ++ g ∷ []) (stack_of_push fs f)

pub stack_of_last : (fs gs : List SumFrame) (f : SumFrame) → fs ≡ gs ++ f ∷ [] → stack_of fs ≡ f ∷ stack_of gs
stack_of_last fs gs f is = ap stack_of is ∙ stack_of_push gs f

pub no_stack_left : (fs : List SumFrame) → length fs ≡ 0 → stack_of fs ≡ []
no_stack_left [] e = refl
no_stack_left (f ∷ fs) e = absurd (omega arith)

trees_of_push : (qs : List Query) (q : Query) → trees_of (qs ++ q ∷ []) ≡ tree_of q ∷ trees_of qs
trees_of_push [] q = refl
trees_of_push (p ∷ qs) q = ap (λ x. x ++ tree_of p ∷ []) (trees_of_push qs q)

pub trees_of_last : (qs ps : List Query) (q : Query) → qs ≡ ps ++ q ∷ [] → trees_of qs ≡ tree_of q ∷ trees_of ps
trees_of_last qs ps q is = ap trees_of is ∙ trees_of_push ps q

pub no_trees_left : (qs : List Query) → length qs ≡ 0 → trees_of qs ≡ []
no_trees_left [] e = refl
no_trees_left (q ∷ qs) e = absurd (omega arith)

put_last_end : (ss : List (List TreeWord)) (s : List TreeWord) (w : TreeWord) → put_last (ss ++ s ∷ []) w ≡ ss ++ (s ++ w ∷ []) ∷ []
put_last_end [] s w = refl
put_last_end (t ∷ []) s w = refl
put_last_end (t ∷ u ∷ ss) s w = ap (λ x. t ∷ x) (put_last_end (u ∷ ss) s w)

pub put_last_last : (all ss : List (List TreeWord)) (s : List TreeWord) (w : TreeWord) → all ≡ ss ++ s ∷ [] → ss ++ (s ++ w ∷ []) ∷ [] ≡ put_last all w
put_last_last all ss s w is = sym (put_last_end ss s w) ∙ ap (λ x. put_last x w) (sym is)

pub put_last_none : (all : List (List TreeWord)) (w : TreeWord) → length all ≡ 0 → (w ∷ []) ∷ [] ≡ put_last all w
put_last_none [] w e = refl
put_last_none (s ∷ ss) w e = absurd (omega arith)
