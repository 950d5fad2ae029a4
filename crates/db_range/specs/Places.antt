-- Ranges of places.
use Rattle.std.specs.Prelude.{ℕ, ◌≡◌, Bool, true, false, List, [], ◌∷◌, ◌++◌, Option, Some, None, codes, refl}
use Rattle.ct_entry.specs.Keys.{same_list}
use Rattle.db_range.specs.declared.places.Range.{Range}

-- all places
abbrev pub whole : Range
whole = record { low = []; high = [] }

-- those that begin with these bytes
abbrev pub beginning : List ℕ → Range
beginning bytes = record { low = bytes; high = bytes }

-- those that begin as in the one, and go on as in the other
abbrev pub joined : Range → Range → Range
joined a b = record { low = a.low ++ b.low; high = a.high ++ b.high }

-- both ends are the same
abbrev pub is_one : Range → Bool
is_one range = same_list range.low range.high

-- the same of one that may be missing, where nothing is known of the bytes
abbrev pub or_whole : Option Range → Range
or_whole None = whole
or_whole (Some range) = range

abbrev pub is_known : Option Range → Bool
is_known None = false
is_known (Some range) = is_one range

-- computed examples
behind_a_value : joined (beginning (3 ∷ codes "hat")) (record { low = 1 ∷ []; high = 2 ∷ [] }) ≡ record { low = 3 ∷ 104 ∷ 97 ∷ 116 ∷ 1 ∷ []; high = 3 ∷ 104 ∷ 97 ∷ 116 ∷ 2 ∷ [] }
behind_a_value = refl

one_beginning : is_one (beginning (codes "a")) ≡ true
one_beginning = refl

more_than_one : is_known (Some (record { low = 1 ∷ []; high = 2 ∷ [] })) ≡ false
more_than_one = refl
