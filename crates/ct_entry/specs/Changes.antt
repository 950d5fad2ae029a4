-- Changes on keys: what a call puts into a batch.
use Rattle.std.specs.Prelude.{◌≡◌, ℕ, Bool, true, cond, List, [], ◌∷◌, Option, Some, None, pos, codes, refl}
use Rattle.ct_entry.specs.declared.kinds.Kind.{Kind}
use Rattle.ct_entry.specs.Keys.{Key, bytes, same_key, IsKeyOfKind, key, row_part}
use Rattle.ct_bytes.specs.RowKeys.{row_bytes}
use Rattle.ct_entry.specs.declared.kinds.Kind.TheVariants.{RowNumbers, Pending}

-- a key, and the value that it is to have, or None where it is to go
abbrev pub KeyChange : Type 0
KeyChange = Key × Option (List ℕ)

abbrev pub put_value : Key → List ℕ → KeyChange
put_value k v = (k, Some v)

abbrev pub drop_key : Key → KeyChange
drop_key k = (k, None)

-- as a batch has them
abbrev pub spell : List (Key × Option (List ℕ)) → List (List ℕ × Option (List ℕ))
spell [] = []
spell (w ∷ ws) = (bytes w.0, w.1) ∷ spell ws

-- what a key has after the changes, where it had `old` before
abbrev pub told : List (Key × Option (List ℕ)) → Key → Option (List ℕ) → Option (List ℕ)
told [] k old = old
told (w ∷ ws) k old = told ws k (cond (same_key k w.0) w.1 old)

-- what the changes make of a view: of what each key has
abbrev pub view : List (Key × Option (List ℕ)) → (Key → Option (List ℕ)) → Key → Option (List ℕ)
view ws f k = told ws k (f k)

-- the changes are on keys of the kinds
abbrev pub AreChanges : List (Key × Option (List ℕ)) → Type 0
AreChanges [] = Unit {0}
AreChanges (w ∷ ws) = IsKeyOfKind w.0 × AreChanges ws

-- the changes are on kinds that pass the test
abbrev pub AllOf : (Kind → Bool) → List (Key × Option (List ℕ)) → Type 0
AllOf p [] = Unit {0}
AllOf p (w ∷ ws) = (p w.0.kind ≡ true) × AllOf p ws

-- the changes are on keys of this owner
abbrev pub AllOn : List ℕ → List (Key × Option (List ℕ)) → Type 0
AllOn i [] = Unit {0}
AllOn i (w ∷ ws) = (w.0.owner ≡ i) × AllOn i ws

-- of the changes that put, what is put fits its key
abbrev pub Puts : (Key → List ℕ → Type 0) → Key → Option (List ℕ) → Type 0
Puts P k None = Unit {0}
Puts P k (Some v) = P k v

abbrev pub AllPut : (Key → List ℕ → Type 0) → List (Key × Option (List ℕ)) → Type 0
AllPut P [] = Unit {0}
AllPut P (w ∷ ws) = Puts P w.0 w.1 × AllPut P ws

-- computed examples
abbrev row_one : Key
row_one = key Pending (codes "di") (row_part (pos 1))

abbrev row_two : Key
row_two = key Pending (codes "di") (row_part (pos 2))

-- the last change on a key counts
last_counts : (old : Option (List ℕ)) → told (drop_key row_one ∷ put_value row_one (codes "x") ∷ put_value row_one (codes "y") ∷ []) row_one old ≡ Some (codes "y")
unfolding row_bytes
last_counts old = refl

goes_again : (old : Option (List ℕ)) → told (put_value row_one (codes "x") ∷ drop_key row_one ∷ []) row_one old ≡ None
unfolding row_bytes
goes_again old = refl

-- changes on one key say nothing of another, nor of that with the same rest under another kind
other_rows_stay : (old : Option (List ℕ)) → told (put_value row_one [] ∷ drop_key row_one ∷ []) row_two old ≡ old
unfolding row_bytes
other_rows_stay old = refl

other_kinds_stay : (old : Option (List ℕ)) → told (drop_key row_one ∷ []) (key RowNumbers (codes "di") (row_part (pos 1))) old ≡ old
unfolding row_bytes
other_kinds_stay old = refl

spelt : spell (put_value (key Pending (codes "di") []) [] ∷ drop_key (key Pending (codes "dj") []) ∷ []) ≡ (0x23 ∷ 2 ∷ 0x64 ∷ 0x69 ∷ [], Some []) ∷ (0x23 ∷ 2 ∷ 0x64 ∷ 0x6a ∷ [], None) ∷ []
spelt = refl
