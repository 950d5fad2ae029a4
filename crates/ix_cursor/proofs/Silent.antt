-- A node has no score in a document that its slots and sections rule out.
use Rattle.std.proofs.Common.{ℕ, ◌≡◌, false, refl}
use Rattle.q_tree.specs.declared.queries.Op.TheVariants.{Or, And, Not, Minus}
use Rattle.ix_cursor.specs.declared.nodes.Node.{Node}
use Rattle.ix_cursor.specs.declared.nodes.Node.TheVariants.{Term, And', Or', Not', Minus', Weight', Above', Near, Within', Define, Done}
use Rattle.ix_lists.specs.Documents.{places_at}
use Rattle.ix_cursor.specs.Feeding.{phrases_at, operands_at}
use Rattle.ix_cursor.specs.Nodes.{score_at, may_at}
use Rattle.ix_cursor.specs.laws.Silence.{no_term_score, no_near_score, no_define_score, nothing_joined, nothing_weighted, nothing_above, nothing_within}

pub silent_node : (n : Node) (d : ℕ) → may_at n d ≡ false → (lo hi : ℕ) → score_at n d lo hi ≡ 0
silent_node (Term t) d h lo hi = no_term_score (phrases_at t.phrases.items d) lo hi h
silent_node (And' p a q b) d h lo hi = nothing_joined And (may_at a d) (may_at b d) (score_at a d lo hi) (score_at b d lo hi) (λ k. silent_node a d k lo hi) (λ k. silent_node b d k lo hi) h
silent_node (Or' p a q b) d h lo hi = nothing_joined Or (may_at a d) (may_at b d) (score_at a d lo hi) (score_at b d lo hi) (λ k. silent_node a d k lo hi) (λ k. silent_node b d k lo hi) h
silent_node (Not' p a q b) d h lo hi = nothing_joined Not (may_at a d) (may_at b d) (score_at a d lo hi) (score_at b d lo hi) (λ k. silent_node a d k lo hi) (λ k. silent_node b d k lo hi) h
silent_node (Minus' p a q b) d h lo hi = nothing_joined Minus (may_at a d) (may_at b d) (score_at a d lo hi) (score_at b d lo hi) (λ k. silent_node a d k lo hi) (λ k. silent_node b d k lo hi) h
silent_node (Weight' w p a) d h lo hi = nothing_weighted w (score_at a d lo hi) (silent_node a d h lo hi)
silent_node (Above' n p a) d h lo hi = nothing_above n (score_at a d lo hi) (silent_node a d h lo hi)
silent_node (Near n) d h lo hi = no_near_score (operands_at n.operands.items d) n.span n.ordered lo hi h
silent_node (Within' s p a) d h lo hi = nothing_within (λ l h. score_at a d l h) (may_at a d) lo hi (places_at s.value.documents d) (λ k l m. silent_node a d k l m) h
silent_node (Define t) d h lo hi = no_define_score (phrases_at t.term.phrases.items d) t.sum lo hi h
silent_node Done d h lo hi = refl
