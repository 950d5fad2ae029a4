-- What the arguments of the command `ctxcsv TABLE [--key NAME]` ask for. Texts are lists of bytes, and `-` is the byte 45.
use Rattle.std.specs.Prelude.{ℕ, ◌≡◌, ◌==◌, Bool, false, List, [], ◌∷◌, codes, bytes_eq, Option, Some, None, refl}
use Rattle.std.specs.Bool.{if◌then◌else◌}
use Rattle.std.specs.Option.{option_map}
use denote.Ref.{Bor}
use Rattle.ctxcsv.specs.declared.arguments.Asked.{Asked}

-- the name of the table, and that of the key where one is given
abbrev pub Asks : Type 0
Asks = List ℕ × Option (List ℕ)

abbrev pub asks : Asked → Asks
asks a = (a.table.now, option_map (λ (k : Bor (List ℕ)). k.now) a.key)

abbrev pub is_option_like : List ℕ → Bool
is_option_like [] = false
is_option_like (b ∷ bs) = b == 45

abbrev pub without_key : List ℕ → Option Asks
without_key table = if is_option_like table then None else Some (table, None)

-- the option stands behind the table or before it
abbrev pub with_key : List ℕ → List ℕ → List ℕ → Option Asks
with_key first second third =
    if bytes_eq second (codes "--key") then Some (first, Some third)
    else (if bytes_eq first (codes "--key") then Some (third, Some second) else None)

abbrev pub asked : List (List ℕ) → Option Asks
asked (table ∷ []) = without_key table
asked (first ∷ second ∷ third ∷ []) = with_key first second third
asked arguments = None

-- computed examples
table_alone : asked (codes "products" ∷ []) ≡ Some (codes "products", None)
table_alone = refl

key_behind : asked (codes "products" ∷ codes "--key" ∷ codes "sku" ∷ []) ≡ Some (codes "products", Some (codes "sku"))
key_behind = refl

key_before : asked (codes "--key" ∷ codes "sku" ∷ codes "products" ∷ []) ≡ Some (codes "products", Some (codes "sku"))
key_before = refl

no_table : asked (codes "--help" ∷ []) ≡ None
no_table = refl

no_name : asked (codes "products" ∷ codes "--key" ∷ []) ≡ None
no_name = refl
