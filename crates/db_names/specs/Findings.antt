-- Which indexes are found by what they are on.
use Rattle.std.specs.Prelude.{Bool, ℕ, ◌≡◌, ◌↔◌, true, List, [], Option, Some, None, ◌∷◌, ◌++◌, false, codes, refl}
use Rattle.std.specs.Map.{lookup}
use Rattle.ct_base.specs.Names.{IsName}
use Rattle.ct_keep.specs.laws.RisingKeys.{rises}
use Rattle.ct_entry.specs.declared.kinds.Kind.TheVariants as entry
use Rattle.ct_entry.specs.Keys.{Key, key, same_list, same_key}
use Rattle.ct_entry.specs.Listings.{key_order}
use Rattle.tb_table.specs.declared.columns.Target.{Target}
use Rattle.db_names.specs.declared.heads.IndexKind.{IndexKind}
use Rattle.db_names.specs.declared.heads.IndexHead.{IndexHead}
use Rattle.db_names.specs.Heads.{SpellsHead}
use Rattle.std.specs.Bool.{if◌then◌else◌}
use Rattle.std.proofs.Common.{cond, arith}
use Rattle.ct_bytes.specs.Varints.{varint}
use Rattle.db_names.specs.declared.heads.IndexKind.TheVariants.{Context, Catalogue}

-- The index with this name has this head.
pub record IsIndexWith (f : Key → Option (List ℕ)) (i : List ℕ) (h : IndexHead) : Type 0 where
  pub name : IsName i
  pub entry : SpellsHead (f (key entry.Indexes i [])) (Some h)

-- this is the name of an index of the kind on the target; or no index is
abbrev pub IsIndexOn : (Key → Option (List ℕ)) → Target → IndexKind → Option (List ℕ) → Type 0
IsIndexOn f target kind (Some i) = IsIndexWith f i (record { kind = kind; target = target })
IsIndexOn f target kind None = (i : List ℕ) → IsIndexWith f i (record { kind = kind; target = target }) → ⊥

-- The indexes on a table, each once with its head, in the order of their keys. What the list has at a name is the head of
-- the index with that name, where there is one on the table.
pub record AreIndexesOf (f : Key → Option (List ℕ)) (t : List ℕ) (found : List (List ℕ × IndexHead)) : Type 0 where
  pub rising : rises key_order found ≡ true
  pub each : (i : List ℕ) (h : IndexHead) → (lookup (same_list i) found ≡ Some h) ↔ (IsIndexWith f i h × (h.target.table ≡ t))

-- computed examples: there is one index, `ci`, of the kind CTXCAT on the column 1 of the table `items`
abbrev one_entry : Key → Option (List ℕ)
one_entry k = if same_key k (key entry.Indexes (codes "ci") []) then Some (2 ∷ 5 ∷ codes "items" ++ 1 ∷ 9 ∷ []) else None

abbrev items_title : Target
items_title = record { table = codes "items"; column = 1 }

the_index : IsIndexOn one_entry items_title Catalogue (Some (codes "ci"))
unfolding varint
the_index = record {
  name = record { spelt = refl; lower = refl };
  entry = (
    record { table = record { spelt = refl; lower = refl }; column = omega arith },
    record { rest = 9 ∷ []; whole = refl },
  );
}

none_of_another_kind : IsIndexOn one_entry items_title Context None
unfolding varint
none_of_another_kind i is = go (same_key (key entry.Indexes i []) (key entry.Indexes (codes "ci") [])) is.entry.1.rest is.entry.1.whole
  where
    go : (b : Bool) (rest : List ℕ) → cond b (Some (2 ∷ 5 ∷ codes "items" ++ 1 ∷ 9 ∷ [])) None ≡ Some ((1 ∷ 5 ∷ codes "items" ++ 1 ∷ []) ++ rest) → ⊥
    go true rest e = let differ : ◌≡◌ {A = ℕ} 2 1 = cc in omega (arith, differ)
    go false rest e = cc

-- where there is no entry there is no index
no_indexes : AreIndexesOf (λ k. None) (codes "items") []
no_indexes = record {
  rising = refl;
  each = λ i h. (λ there. absurd (cc), λ is. absurd (let whole = is.0.entry.1.whole in cc));
}

-- shorter names come first, as their keys do
in_order : rises {X = ℕ} key_order ((codes "b", 0) ∷ (codes "aa", 0) ∷ []) ≡ true
in_order = refl

not_in_order : rises {X = ℕ} key_order ((codes "aa", 0) ∷ (codes "b", 0) ∷ []) ≡ false
not_in_order = refl
