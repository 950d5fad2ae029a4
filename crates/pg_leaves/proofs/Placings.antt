-- Leaves that get their numbers one after the other.
use Rattle.std.specs.Prelude.{map}
use Rattle.std.proofs.Common.{◌≡◌, ◌≤◌, ℕ, List, ◌++◌, length}
use Rattle.pg_directory.specs.declared.entries.Child.{Child}
use Rattle.pg_directory.specs.declared.leaves.LeafPage.{LeafPage}
use Rattle.pg_directory.specs.Leaves.{leaf_at}
use Rattle.pg_leaves.specs.declared.parting.LeafNow.{LeafNow}
use Rattle.pg_leaves.specs.Relisting.{made_count, children_now, written_now}

-- What was made, and what is to be made of the rest of the leaves with the rest of the numbers, are what is to be made of all.
pub record IsPlacing (all : List LeafNow) (numbers : List ℕ) (ls : List LeafNow) (ns : List ℕ) (children : List Child) (written : List LeafPage) : Type 0 where
  pub enough : made_count ls ≤ length ns
  pub children_are : children ++ children_now ls ns ≡ children_now all numbers
  pub written_are : map leaf_at written ++ written_now ls ns ≡ written_now all numbers
