-- The parts that the bytes of a key spell.
use Rattle.std.specs.Prelude.{ℕ, ◌≡◌, List, [], ◌∷◌, Option, Some, None, codes, refl}
use Rattle.ct_base.specs.Names.{IsName}
use Rattle.ct_entry.specs.declared.kinds.Kind.{Kind}
use Rattle.ct_entry.specs.declared.kinds.Kind.TheVariants.{Tables, Pending}
use Rattle.ct_entry.specs.Kinds.{code}
use Rattle.ct_entry.specs.Keys.{Key, key, bytes}

-- the byte is that of this kind; or it is that of none
abbrev pub SpellsKind : ℕ → Option Kind → Type 0
SpellsKind byte (Some kind) = byte ≡ code kind
SpellsKind byte None = (kind : Kind) → byte ≡ code kind → ⊥

-- The bytes spell this key, whose owner is a name; or they spell no key of a name. Its rest may be any bytes.
abbrev pub SpellsKey : List ℕ → Option Key → Type 0
SpellsKey spelling (Some k) = IsName k.owner × (spelling ≡ bytes k)
SpellsKey spelling None = (k : Key) → IsName k.owner → spelling ≡ bytes k → ⊥

-- computed examples
of_a_table : SpellsKey (0x01 ∷ 1 ∷ 0x74 ∷ []) (Some (key Tables (codes "t") []))
of_a_table = (record { spelt = refl; lower = refl }, refl)

-- the rest begins where the owner ends
with_a_rest : SpellsKey (0x23 ∷ 1 ∷ 0x74 ∷ 0x75 ∷ 7 ∷ []) (Some (key Pending (codes "t") (0x75 ∷ 7 ∷ [])))
with_a_rest = (record { spelt = refl; lower = refl }, refl)

-- a key has an owner
no_owner : SpellsKey (0x01 ∷ []) None
no_owner k name e = cc

no_bytes : SpellsKey [] None
no_bytes k name e = cc
