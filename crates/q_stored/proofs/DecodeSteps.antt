-- The steps of reading queries.
use Rattle.std.proofs.Common.{◌≡◌, ℕ, ◌≤◌, true, false, List, [], ◌∷◌, length, Option, Some, None, refl, sym, ap, ◌∙◌, arith, length-append}
use Rattle.std.specs.Prelude.{◌&&◌, nat_le}
use Rattle.std.specs.List.{flat_map, list_all}
use Rattle.std.specs.Option.{option_map}
use Rattle.std.proofs.lemmas.Bool.{and_from, both_ways, le-leb}
use Rattle.q_tree.specs.declared.flats.Flat.{Flat}
use Rattle.q_tree.specs.ReducedQueries.{Reduced, reduced_of}
use Rattle.q_tree.specs.Soundness.{is_sound}
use Rattle.q_stored.specs.declared.heads.Head.{Head}
use Rattle.q_stored.specs.QueryBytes.{head_spelling, is_written_head, node_count, prefix, query_bytes}
use Rattle.q_stored.specs.Storing.{SpellsQuery, byte_limit, is_written, node_limit, query_fits}
use Rattle.q_stored.specs.Building.{query_of}
use Rattle.q_stored.specs.Reading.{AreHeads}
use Rattle.q_stored.specs.laws.Apart.{heads_apart}
use Rattle.q_stored.specs.laws.Prefixes.{its_query, prefix_again}
use Rattle.q_stored.specs.laws.Stored.{stored_rules}

-- bytes are those of one list of heads at most
same_heads : (hs gs : List Head) → flat_map head_spelling hs ≡ flat_map head_spelling gs → hs ≡ gs
same_heads [] [] e = refl
same_heads [] (g ∷ gs) e = let l = ap length e in let first = length-append (head_spelling g) (flat_map head_spelling gs) in absurd (omega (arith, l, first))
same_heads (h ∷ hs) [] e = let l = ap length e in let first = length-append (head_spelling h) (flat_map head_spelling hs) in absurd (omega (arith, l, first))
same_heads (h ∷ hs) (g ∷ gs) e =
    let one = heads_apart h g (flat_map head_spelling hs) (flat_map head_spelling gs) e in
    let rest = same_heads hs gs one.1 in
    λ i. one.0 i ∷ rest i

pub heads_of : (bytes : List ℕ) (q : Reduced) → SpellsQuery bytes (Some q) → AreHeads bytes (prefix q)
heads_of bytes q s = let r = stored_rules bytes q s in record { few = r.nodes; rules = r.written; spelt = s.spelt }

its_heads : (bytes : List ℕ) (hs : List Head) (q : Reduced) → AreHeads bytes hs → SpellsQuery bytes (Some q) → prefix q ≡ hs
its_heads bytes hs q are s = same_heads (prefix q) hs (s.spelt ∙ sym are.spelt)

pub not_built : (bytes : List ℕ) (hs : List Head) → AreHeads bytes hs → query_of hs ≡ None → (q : Reduced) → SpellsQuery bytes (Some q) → ⊥
not_built bytes hs are none q s = let wrong : None ≡ Some q = sym none ∙ ap query_of (sym (its_heads bytes hs q are s)) ∙ its_query q in cc

pub is_spelt : (bytes : List ℕ) (hs : List Head) (q : Reduced) → AreHeads bytes hs → query_of hs ≡ Some q → is_sound q ≡ true → length bytes ≤ byte_limit → SpellsQuery bytes (Some q)
is_spelt bytes hs q are is sound short =
    let same = prefix_again hs q is in
    let spelt = ap (flat_map head_spelling) same ∙ are.spelt in
    let few = are.few in
    let count = ap length same in
    let size = ap length spelt in
    record {
      rules = and_from (is_sound q) (is_written q && query_fits q) sound (and_from (is_written q) (query_fits q) (ap (list_all is_written_head) same ∙ are.rules)
          (and_from (nat_le (node_count q) node_limit) (nat_le (length (query_bytes q)) byte_limit) (le-leb (node_count q) node_limit (omega (arith, few, count))) (le-leb (length (query_bytes q)) byte_limit (omega (arith, short, size)))));
      spelt = spelt;
    }

pub not_sound : (bytes : List ℕ) (hs : List Head) (q : Reduced) → AreHeads bytes hs → query_of hs ≡ Some q → is_sound q ≡ false → (p : Reduced) → SpellsQuery bytes (Some p) → ⊥
not_sound bytes hs q are is unsound p s =
    let same : Some p ≡ Some q = sym (its_query p) ∙ ap query_of (its_heads bytes hs p are s) ∙ is in
    let one : p ≡ q = cc in
    both_ways (is_sound q) unsound (ap is_sound (sym one) ∙ (stored_rules bytes p s).sound)

pub built_none : (o : Option Flat) (found : Option Reduced) → o ≡ None → option_map reduced_of o ≡ found → found ≡ None
built_none None found is e = sym e
built_none (Some q) found is e = cc

pub built_some : (o : Option Flat) (found : Option Reduced) (q : Flat) → o ≡ Some q → option_map reduced_of o ≡ found → found ≡ Some (reduced_of q)
built_some o found q is e = sym e ∙ ap (option_map reduced_of) is
