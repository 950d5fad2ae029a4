-- What queries find, as code holds it.
use Rattle.std.specs.Prelude.{ℕ, ℤ, pos, ◌≡◌, List, [], ◌∷◌, map, refl}
use Rattle.ix_search.specs.declared.hits.Hit.{Hit}

-- hits as rows with their scores
abbrev pub hit_rows : List Hit → List (ℤ × ℕ)
hit_rows hits = map (λ h. (h.key.0, h.score)) hits

-- computed example
a_hit : hit_rows (record { key = record { 0 = pos 7 }; score = 2 } ∷ []) ≡ (pos 7, 2) ∷ []
a_hit = refl
