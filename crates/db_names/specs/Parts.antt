-- What single entries of the kind Indexes are read as. An entry is here the rest of its key and its value.
use Rattle.std.specs.Prelude.{ℕ, ◌≡◌, ◌<◌, ◌^◌, ◌⊎◌, List, [], ◌∷◌, ◌++◌, length, Option, Some, None, codes, refl}
use Rattle.std.specs.List.{All, Contains}
use Rattle.std.proofs.Common.{arith}
use Rattle.ct_base.specs.Names.{IsName}
use Rattle.ct_bytes.specs.Varints.{varint, text_bytes}
use Rattle.ct_entry.specs.Keys.{counted_bytes}
use Rattle.db_names.specs.declared.heads.IndexHead.{IndexHead}
use Rattle.db_names.specs.declared.heads.IndexKind.TheVariants.{Catalogue}
use Rattle.db_names.specs.Heads.{SpellsHead}

-- The bytes begin with this byte, this text, and this byte.
pub record HasHeadParts (value : List ℕ) (code : ℕ) (table : List ℕ) (column : ℕ) : Type 0 where
  pub small : length table < 2 ^ 32
  pub rest : List ℕ
  pub whole : value ≡ (code ∷ text_bytes table ++ column ∷ []) ++ rest

-- The entry is that of an index with this name and this head.
pub record IsEntryOf (e : List ℕ × List ℕ) (i : List ℕ) (h : IndexHead) : Type 0 where
  pub name : IsName i
  pub spelt : e.0 ≡ counted_bytes i
  pub head : SpellsHead (Some e.1) (Some h)

-- the name of the index with this head that the entry is of, if it is of one
abbrev pub NameOn : IndexHead → List ℕ × List ℕ → Option (List ℕ) → Type 0
NameOn h e (Some i) = IsEntryOf e i h
NameOn h e None = (i : List ℕ) → IsEntryOf e i h → ⊥

-- the same of the first of some entries that has one
abbrev pub FirstOn : IndexHead → List (List ℕ × List ℕ) → Option (List ℕ) → Type 0
FirstOn h es (Some i) = (e : List ℕ × List ℕ) × Contains es e × IsEntryOf e i h
FirstOn h es None = All (λ e. (i : List ℕ) → IsEntryOf e i h → ⊥) es

-- The entry is that of this index, which is on the table.
pub record IsPairOf (t : List ℕ) (e : List ℕ × List ℕ) (p : List ℕ × IndexHead) : Type 0 where
  pub entry : IsEntryOf e p.0 p.1
  pub table : p.1.target.table ≡ t

-- the index on the table that the entry is of, if it is of one
abbrev pub PairOf : List ℕ → List ℕ × List ℕ → Option (List ℕ × IndexHead) → Type 0
PairOf t e (Some p) = IsPairOf t e p
PairOf t e None = (p : List ℕ × IndexHead) → IsPairOf t e p → ⊥

-- the second list is what each of the first is read as, where it is read as something, in the same order
abbrev pub Listed : {E P : Type 0} → (E → Option P → Type 0) → List E → List P → Type 0
Listed reads [] ps = ps ≡ []
Listed {E} {P} reads (e ∷ es) ps = (reads e None × Listed reads es ps) ⊎ ((p : P) × ((qs : List P) × (ps ≡ p ∷ qs) × reads e (Some p) × Listed reads es qs))

-- computed examples: the entry of an index `ci` of the kind CTXCAT on the column 1 of the table `items`
abbrev its_entry : List ℕ × List ℕ
its_entry = (2 ∷ codes "ci", 2 ∷ 5 ∷ codes "items" ++ 1 ∷ 9 ∷ [])

abbrev its_head : IndexHead
its_head = record { kind = Catalogue; target = record { table = codes "items"; column = 1 } }

its_parts : HasHeadParts its_entry.1 2 (codes "items") 1
unfolding varint
its_parts = record { small = omega arith; rest = 9 ∷ []; whole = refl }

its_name : NameOn its_head its_entry (Some (codes "ci"))
unfolding varint
its_name = record {
  name = record { spelt = refl; lower = refl };
  spelt = refl;
  head = (record { table = record { spelt = refl; lower = refl }; column = omega arith }, record { rest = 9 ∷ []; whole = refl });
}

found_first : FirstOn its_head (its_entry ∷ []) (Some (codes "ci"))
found_first = (its_entry, (0, omega arith, refl), its_name)

none_found : FirstOn its_head [] None
none_found = λ k d less. absurd (omega (arith, less))
