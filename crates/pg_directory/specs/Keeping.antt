-- A page of a store that stands at a place of a cache.
use Rattle.std.specs.Prelude.{◌≡◌, ℕ, List, [], ◌∷◌, Option, Some, None, codes, refl}
use Rattle.pg_journal.specs.Pages.{Numbered}
use Rattle.pg_cache.specs.Caches.{bytes_at}

-- a place was found, and these bytes stand there
abbrev pub IsKeptPage : Option ℕ → List Numbered → List ℕ → Type 0
IsKeptPage None cache bytes = ⊥
IsKeptPage (Some at) cache bytes = bytes_at cache at ≡ bytes

-- ---- computed example
at_the_second_place : IsKeptPage (Some 1) ((0, codes "a") ∷ (4, codes "b") ∷ []) (codes "b")
at_the_second_place = refl
