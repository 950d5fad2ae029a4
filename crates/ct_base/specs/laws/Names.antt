-- What holds of every name.
use Rattle.std.specs.Prelude.{ℕ, ◌≡◌, ◌≤◌, ◌==◌, nat_lt, Bool, true, false, List, [], ◌∷◌, map, length, Some, None, refl}
use Rattle.std.specs.List.{list_all}
use Rattle.std.specs.Char.{is_ascii_alphabetic, to_ascii_lowercase}
use Rattle.std.proofs.Common.{arith, cond, eqb-true, eq-eqb}
use Rattle.std.proofs.lemmas.Bool.{and_parts}
use Rattle.std.proofs.lemmas.Bool.Decides.{nat_tests}
use Rattle.ct_base.specs.Names.{is_spelling, is_kept, kept_name, IsName}
use Rattle.ct_base.specs.Limits.{name_limit}
use Rattle.ct_base.specs.laws.Lists.{cons_parts}

-- a name has 1 to 30 bytes
pub name_length : (name : List ℕ) → IsName name → (1 ≤ length name) × (length name ≤ name_limit)
name_length name is = go name is.spelt
  where
    go : (name : List ℕ) → is_spelling name ≡ true → (1 ≤ length name) × (length name ≤ name_limit)
    go [] h = cc
    go (b ∷ bs) h =
        let few : nat_lt (length bs) name_limit ≡ true = (and_parts _ _ (and_parts (is_ascii_alphabetic b) _ h).1).0 in
        (omega arith, grind (arith, nat_tests))

-- the bytes that a name is kept as are those of a name, and each name is kept as its bytes
all_lower : (bs : List ℕ) → list_all (λ b. to_ascii_lowercase b == b) bs ≡ true → map to_ascii_lowercase bs ≡ bs
all_lower [] h = refl
all_lower (b ∷ bs) h =
    let p = and_parts (to_ascii_lowercase b == b) _ h in
    let first : to_ascii_lowercase b ≡ b = eqb-true _ _ p.0 in
    let rest : map to_ascii_lowercase bs ≡ bs = all_lower bs p.1 in
    λ i. first i ∷ rest i

lower_all : (bs : List ℕ) → map to_ascii_lowercase bs ≡ bs → list_all (λ b. to_ascii_lowercase b == b) bs ≡ true
lower_all [] e = refl
lower_all (b ∷ bs) e =
    let parts = cons_parts (to_ascii_lowercase b) b (map to_ascii_lowercase bs) bs e in
    let first : (to_ascii_lowercase b == b) ≡ true = eq-eqb _ _ parts.0 in
    let rest : list_all (λ b. to_ascii_lowercase b == b) bs ≡ true = lower_all bs parts.1 in
    rw (first, rest) refl

pub kept_is_name : (bytes : List ℕ) → is_kept bytes ≡ true → IsName bytes
kept_is_name bytes h = let p = and_parts (is_spelling bytes) _ h in record { spelt = p.0; lower = all_lower bytes p.1 }

pub name_is_kept : (name : List ℕ) → IsName name → is_kept name ≡ true
name_is_kept name is = rw (is.spelt, lower_all name is.lower) refl

pub kept_name-name : (name : List ℕ) → IsName name → kept_name name ≡ Some name
kept_name-name name is = rw (name_is_kept name is) refl

-- bytes that are kept as a name are that name
pub kept_some : (text name : List ℕ) → kept_name text ≡ Some name → (text ≡ name) × IsName text
kept_some text name e = go (is_kept text) refl e
  where
    go : (b : Bool) → is_kept text ≡ b → cond b (Some text) None ≡ Some name → (text ≡ name) × IsName text
    go true h e = (cc, kept_is_name text h)
    go false h e = cc
