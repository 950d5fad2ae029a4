-- What a stored query keeps, rule by rule.
use Rattle.std.specs.Prelude.{ℕ, ◌≡◌, ◌≤◌, true, ◌&&◌, nat_le, List, length, Some}
use Rattle.std.proofs.lemmas.Bool.{and_parts, leb-true}
use Rattle.q_tree.specs.ReducedQueries.{Reduced}
use Rattle.q_tree.specs.Soundness.{is_sound}
use Rattle.q_stored.specs.QueryBytes.{node_count, query_bytes}
use Rattle.q_stored.specs.Storing.{SpellsQuery, byte_limit, is_written, node_limit, query_fits}

-- The rules of a query that is stored.
pub record StoredRules (q : Reduced) : Type 0 where
  pub sound : is_sound q ≡ true
  pub written : is_written q ≡ true
  pub nodes : node_count q ≤ node_limit
  pub short : length (query_bytes q) ≤ byte_limit

pub stored_rules : (bytes : List ℕ) (q : Reduced) → SpellsQuery bytes (Some q) → StoredRules q
stored_rules bytes q spells =
    let first = and_parts (is_sound q) (is_written q && query_fits q) spells.rules in
    let second = and_parts (is_written q) (query_fits q) first.1 in
    let limits = and_parts (nat_le (node_count q) node_limit) (nat_le (length (query_bytes q)) byte_limit) second.1 in
    record { sound = first.0; written = second.0; nodes = leb-true (node_count q) node_limit limits.0; short = leb-true (length (query_bytes q)) byte_limit limits.1 }
