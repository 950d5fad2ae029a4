-- What the entries of indexes begin with, whatever follows.
use Rattle.std.specs.Prelude.{ℕ, ◌≡◌, ◌<◌, List, [], ◌∷◌, ◌++◌, Option, Some, None, codes, refl}
use Rattle.std.specs.FinMap.{get}
use Rattle.ct_base.specs.Names.{IsName}
use Rattle.ct_bytes.specs.Varints.{varint, text_bytes}
use Rattle.ct_entry.specs.declared.kinds.Kind.TheVariants as entry
use Rattle.ct_entry.specs.Keys.{Key, key}
use Rattle.ct_entry.specs.Maps.{Names}
use Rattle.db_names.specs.declared.heads.IndexKind.{IndexKind}
use Rattle.db_names.specs.declared.heads.IndexKind.TheVariants.{Context, Catalogue, Rules}
use Rattle.db_names.specs.declared.heads.IndexHead.{IndexHead}

-- the byte of a kind of index
abbrev pub index_code : IndexKind → ℕ
index_code Context = 1
index_code Catalogue = 2
index_code Rules = 3

-- the byte of the kind, the table as a text, and the column in one byte
abbrev pub index_head_bytes : IndexKind → List ℕ → ℕ → List ℕ
index_head_bytes kind table column = index_code kind ∷ text_bytes table ++ column ∷ []

-- a head that an index may have: its table is a name, and its column has one byte
pub record IsHead (h : IndexHead) : Type 0 where
  pub table : IsName h.target.table
  pub column : h.target.column < 256

-- There is an entry, and its value begins with this head.
pub record HasHead (entry : Option (List ℕ)) (h : IndexHead) : Type 0 where
  pub rest : List ℕ
  pub whole : entry ≡ Some (index_head_bytes h.kind h.target.table h.target.column ++ rest)

-- the entry begins with this head; or with none
abbrev pub SpellsHead : Option (List ℕ) → Option IndexHead → Type 0
SpellsHead entry (Some h) = IsHead h × HasHead entry h
SpellsHead entry None = (h : IndexHead) → IsHead h → HasHead entry h → ⊥

-- ---- indexes by their names

-- there is an entry with this head, or none at all
abbrev pub HasHeadOrNone : Option (List ℕ) → Option IndexHead → Type 0
HasHeadOrNone entry None = entry ≡ None
HasHeadOrNone entry (Some h) = HasHead entry h

-- The entries of the kind Indexes begin with the heads of these indexes, and there are no others.
pub record HeadsStand (f : Key → Option (List ℕ)) (hs : Names IndexHead) : Type 0 where
  pub heads : (i : List ℕ) → HasHeadOrNone (f (key entry.Indexes i [])) (get hs i)
  pub names : (i : List ℕ) (h : IndexHead) → get hs i ≡ Some h → IsName i
  pub each : (i : List ℕ) (h : IndexHead) → get hs i ≡ Some h → IsHead h

-- computed example: what the entry of a CTXCAT index on the column 1 of a table `items` begins with
a_head : index_head_bytes Catalogue (codes "items") 1 ≡ 2 ∷ 5 ∷ codes "items" ++ 1 ∷ []
unfolding varint
a_head = refl
