-- Which queries are stored, and as which bytes.
use Rattle.std.specs.Prelude.{ℕ, ◌≡◌, ◌^◌, Bool, true, false, ◌&&◌, nat_le, zero, suc, List, [], ◌∷◌, ◌++◌, length, Option, Some, None, codes, refl}
use Rattle.std.specs.List.{list_all}
use Rattle.ct_bytes.specs.Varints.{varint}
use Rattle.q_tree.specs.ReducedQueries.{Reduced, Weight, Above}
use Rattle.q_tree.specs.Soundness.{is_sound}
use Rattle.q_stored.specs.QueryBytes.{query_bytes, node_count, prefix, is_written_head, a_term}

-- how many nodes a stored query has at most, so that it isn't deeper
abbrev pub node_limit : ℕ
node_limit = 1024

-- how many bytes it has at most
abbrev pub byte_limit : ℕ
byte_limit = 2 ^ 26

abbrev pub query_fits : Reduced → Bool
query_fits q = nat_le (node_count q) node_limit && nat_le (length (query_bytes q)) byte_limit

-- WHETHER A QUERY IS WITHIN THE LIMITS; None is one that finds nothing, which has one node.
abbrev pub fits : Option Reduced → Bool
fits None = true
fits (Some q) = query_fits q

-- the texts and names of a query are such as are written
abbrev pub is_written : Reduced → Bool
is_written q = list_all is_written_head (prefix q)

-- what is stored is sound, and within the limits
abbrev pub is_stored_query : Reduced → Bool
is_stored_query q = is_sound q && (is_written q && query_fits q)

abbrev pub is_stored : Option Reduced → Bool
is_stored None = true
is_stored (Some q) = is_stored_query q

-- THE BYTES OF A STORED QUERY; the one that finds nothing has a tag of its own.
abbrev pub stored_bytes : Option Reduced → List ℕ
stored_bytes None = 0 ∷ []
stored_bytes (Some q) = query_bytes q

-- These bytes spell this query.
pub record SpellsQuery (bytes : List ℕ) (q : Option Reduced) : Type 0 where
  pub rules : is_stored q ≡ true
  pub spelt : stored_bytes q ≡ bytes

-- A query was written: these are its bytes; or it is over the limits.
abbrev pub Encodes : Option Reduced → Option (List ℕ) → Type 0
Encodes q (Some bytes) = SpellsQuery bytes q
Encodes q None = fits q ≡ false

-- ---- computed examples

finds_nothing : SpellsQuery (0 ∷ []) None
finds_nothing = record { rules = refl; spelt = refl }

-- a > 5
above_five : stored_bytes (Some (Above 5 a_term)) ≡ 7 ∷ 5 ∷ 1 ∷ 1 ∷ 1 ∷ 1 ∷ 1 ∷ 1 ∷ codes "a" ++ 0 ∷ []
unfolding varint
above_five = refl

it_is_stored : is_stored (Some (Above 5 a_term)) ≡ true
unfolding varint
it_is_stored = refl

-- a threshold of 101 is none
not_sound : is_stored (Some (Above 101 a_term)) ≡ false
unfolding varint
not_sound = refl

-- queries of a term and so many weights around it: 1024 nodes fit, and 1025 don't
abbrev with_weights : ℕ → Reduced
with_weights zero = a_term
with_weights (suc n) = Weight 10 (with_weights n)

just_fits : fits (Some (with_weights 1023)) ≡ true
unfolding varint
just_fits = refl

a_node_too_many : fits (Some (with_weights 1024)) ≡ false
unfolding varint
a_node_too_many = refl
