-- A list without what stands in it twice has the same places.
use Rattle.std.proofs.Common.{◌≡◌, ℕ, Bool, true, false, cond, ◌||◌, List, [], ◌∷◌, refl, sym, ap, ◌∙◌}
use Rattle.std.specs.List.{dedup, dedup_from}
use Rattle.std.specs.Str.{bytes_eq}
use Rattle.std.proofs.lemmas.Slice.Eq.{bytes_eq-Decides}
use Rattle.ct_base.specs.laws.Bools.{or_twice}
use Rattle.ct_entry.specs.Keys.{same_list}
use Rattle.cat_walk.specs.Places.{is_listed}

listed_from : (place k : List ℕ) (ps : List (List ℕ)) → is_listed (dedup_from bytes_eq k ps) place ≡ is_listed (k ∷ ps) place
listed_from place k [] = refl
listed_from place k (p ∷ ps) = go (bytes_eq p k) refl (listed_from place k ps) (listed_from place p ps)
  where
    go : (t : Bool) → bytes_eq p k ≡ t → is_listed (dedup_from bytes_eq k ps) place ≡ is_listed (k ∷ ps) place → is_listed (dedup_from bytes_eq p ps) place ≡ is_listed (p ∷ ps) place
        → is_listed (cond t (dedup_from bytes_eq k ps) (k ∷ dedup_from bytes_eq p ps)) place ≡ is_listed (k ∷ p ∷ ps) place
    go true same rest later =
        rest ∙ or_twice (same_list place k) (is_listed ps place) ∙ ap (λ (q : List ℕ). same_list place k || (same_list place q || is_listed ps place)) (sym ((bytes_eq-Decides p k).0 same))
    go false other rest later = ap (λ (t : Bool). same_list place k || t) later

pub listed_once : (place : List ℕ) (ps : List (List ℕ)) → is_listed (dedup bytes_eq ps) place ≡ is_listed ps place
listed_once place [] = refl
listed_once place (p ∷ ps) = listed_from place p ps
