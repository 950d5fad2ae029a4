-- What is promised of calls that write.
use Rattle.std.specs.Prelude.{ℕ, ◌≡◌, ◌+◌, ◌<◌, ◌≤◌, ◌⊎◌, Option, Some, None, Bool, true, false, List, [], ◌∷◌, ◌++◌, length, refl}
use Rattle.std.proofs.Common.{arith}
use Rattle.q_tree.specs.ReducedQueries.{Reduced}
use Rattle.q_stored.specs.QueryBytes.{query_bytes, node_count}
use Rattle.q_stored.specs.Storing.{byte_limit, is_written}

-- Behind the old bytes stand those of something that can be written, which are few enough together; or they are too many.
abbrev pub PutsWithin : List ℕ → List ℕ → Bool → List ℕ → Bool → Type 0
PutsWithin old new rule spelling true = (new ≡ old ++ spelling) × (rule ≡ true) × (length new ≤ byte_limit)
PutsWithin old new rule spelling false = byte_limit < length old + length spelling

-- Behind the old bytes stand those of a query, which has no more nodes than this, and so many fewer are left; or it has more, or there
-- are too many bytes.
abbrev pub PutsNodes : List ℕ → List ℕ → ℕ → Reduced → Option ℕ → Type 0
PutsNodes old new nodes q (Some left) = (new ≡ old ++ query_bytes q) × (is_written q ≡ true) × (length new ≤ byte_limit) × (left + node_count q ≡ nodes)
PutsNodes old new nodes q None = (nodes < node_count q) ⊎ (byte_limit < length old + length (query_bytes q))

-- ---- computed example

a_byte : PutsWithin (1 ∷ []) (1 ∷ 2 ∷ []) true (2 ∷ []) true
a_byte = (refl, refl, omega arith)
