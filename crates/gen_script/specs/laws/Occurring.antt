-- What occurs in the rest of a text occurs in the text.
use Rattle.std.specs.Prelude.{ℕ, ◌≡◌, ◌||◌, Bool, true, false, List, [], ◌∷◌, ◌++◌}
use Rattle.std.proofs.Common.{true≢false}
use Rattle.gen_script.specs.Occurring.{begins_with, occurs}

none_later : (here later : Bool) → (here || later) ≡ false → later ≡ false
none_later true later none = absurd (true≢false none)
none_later false later none = none

pub none_in_rest : (part first rest : List ℕ) → occurs part (first ++ rest) ≡ false → occurs part rest ≡ false
none_in_rest part [] rest none = none
none_in_rest part (b ∷ bs) rest none = none_in_rest part bs rest (none_later (begins_with part ((b ∷ bs) ++ rest)) (occurs part (bs ++ rest)) none)
