-- The changes of a batch, each with the place of the page that its key's old entry is on.
use Rattle.std.specs.Prelude.{◌≡◌, ◌≢◌, ◌<◌, ℕ, List, [], ◌∷◌, length, get_or, Some, None, codes, refl}
use Rattle.std.specs.Ordering.{nat_cmp}
use Rattle.std.specs.declared.cmp.Ordering.TheVariants.{Less}
use Rattle.std.specs.Cmp.Lexicographic.{slice_cmp}
use Rattle.ct_keep.specs.Content.{Change}
use Rattle.pg_map.specs.Kinds.{Each, Kind}
use Rattle.pg_map.specs.Done.{HasKeyAt}

-- the key of the change of a number
abbrev pub changed_key : List Change → ℕ → List ℕ
changed_key ws i = (get_or ws i ([], None)).0

-- No two changes are of one key.
abbrev pub KeysApart : List Change → Type 0
KeysApart [] = Unit {0}
KeysApart (w ∷ ws) = Each (λ (v : Change). w.0 ≢ v.0) ws × KeysApart ws

-- The keys of the changes strictly rise, byte by byte.
abbrev pub KeysRise : List Change → Type 0
KeysRise [] = Unit {0}
KeysRise (w ∷ ws) = Each (λ (v : Change). slice_cmp nat_cmp w.0 v.0 ≡ Less) ws × KeysRise ws

-- Each key of a change that stands on a page stands on the one whose place is beside the change.
pub record StandAt (kinds : List Kind) (ws : List Change) (places : List ℕ) : Type 0 where
  pub each : (i at : ℕ) → i < length ws → HasKeyAt kinds at (changed_key ws i) → at ≡ get_or places i 0

-- ---- computed example
of_the_second : changed_key ((codes "a", None) ∷ (codes "b", Some (codes "v")) ∷ []) 1 ≡ codes "b"
of_the_second = refl

two_that_rise : KeysRise ((codes "a", None) ∷ (codes "b", Some (codes "v")) ∷ [])
two_that_rise = ((refl, tt), (tt, tt))
