-- The query that a list of heads is the prefix form of.
use Rattle.std.specs.Prelude.{◌≡◌, List, [], ◌∷◌, ◌++◌, Option, Some, None, refl}
use Rattle.std.specs.Option.{option_and_then}
use Rattle.q_tree.specs.declared.flats.Flat.{Flat}
use Rattle.q_tree.specs.declared.queries.Op.TheVariants.{And, Not}
use Rattle.q_tree.specs.ReducedQueries.{Reduced, Term, Both, Weight, Above, Near, Within, Define, reduced_of}
use Rattle.q_stored.specs.declared.heads.Head.{Head}
use Rattle.q_stored.specs.declared.heads.Head.TheVariants.{Term as TermHead, Both as BothHead, Weight as WeightHead, Above as AboveHead, Near as NearHead, Within as WithinHead, Define as DefineHead}
use Rattle.q_stored.specs.QueryBytes.{prefix, a_term, b_term}

-- the queries, where the head takes its parts from the first of them; None where they are too few
abbrev pub push_head : Head → List Reduced → Option (List Reduced)
push_head (TermHead phrases) qs = Some (Term phrases ∷ qs)
push_head (BothHead op) (a ∷ b ∷ qs) = Some (Both op a b ∷ qs)
push_head (BothHead op) qs = None
push_head (WeightHead tenths) (a ∷ qs) = Some (Weight tenths a ∷ qs)
push_head (WeightHead tenths) [] = None
push_head (AboveHead n) (a ∷ qs) = Some (Above n a ∷ qs)
push_head (AboveHead n) [] = None
push_head (NearHead operands span ordered) qs = Some (Near operands span ordered ∷ qs)
push_head (WithinHead place) (a ∷ qs) = Some (Within place a ∷ qs)
push_head (WithinHead place) [] = None
push_head (DefineHead phrases sum) qs = Some (Define phrases sum ∷ qs)

-- the queries that heads are in front of others, from the last head to the first
abbrev pub stack_after : List Head → List Reduced → Option (List Reduced)
stack_after [] qs = Some qs
stack_after (h ∷ hs) qs = option_and_then (push_head h) (stack_after hs qs)

-- A head took its parts from a stack and is this query; or they are too few.
abbrev pub PushesHead : Head → List Reduced → List Reduced → Option Reduced → Type 0
PushesHead h old new (Some q) = push_head h old ≡ Some (q ∷ new)
PushesHead h old new None = push_head h old ≡ None

-- the only one of a list
abbrev pub only : Option (List Reduced) → Option Reduced
only None = None
only (Some []) = None
only (Some (q ∷ [])) = Some q
only (Some (q ∷ p ∷ qs)) = None

-- the query that heads are
abbrev pub query_of : List Head → Option Reduced
query_of hs = only (stack_after hs [])

-- a stack of queries, the last one first
abbrev pub reduced_stack : List Flat → List Reduced
reduced_stack [] = []
reduced_stack (q ∷ qs) = reduced_stack qs ++ reduced_of q ∷ []

-- ---- computed examples

its_query : query_of (prefix (Both Not (Weight 5 a_term) (Both And b_term a_term))) ≡ Some (Both Not (Weight 5 a_term) (Both And b_term a_term))
its_query = refl

a_part_is_missing : query_of (BothHead And ∷ TermHead [] ∷ []) ≡ None
a_part_is_missing = refl

one_too_many : query_of (TermHead [] ∷ TermHead [] ∷ []) ≡ None
one_too_many = refl
