-- Changes on keys that a keeper takes.
use Rattle.std.proofs.Common.{◌≡◌, ℕ, ◌+◌, ◌<◌, ◌≤◌, true, List, [], ◌∷◌, ◌++◌, length, map, take, get_or, Option, Some, None, sym, ap, subst, ◌∙◌}
use Rattle.std.proofs.lemmas.List.{take_more, map-append}
use Rattle.ct_keep.specs.declared.batches.Change.{Change}
use Rattle.ct_keep.specs.Content.{IsEntry, value_limit}
use Rattle.ct_keep.specs.SeenChanges.{change_of}
use Rattle.ct_keep.specs.Changes.{AreWell}
use Rattle.ct_entry.specs.Keys.{Key, bytes, IsKeyOfKind}
use Rattle.ct_entry.specs.laws.Parts.{has_short_keys, key_is_short}

pub entry_of_key : (k : Key) (value : List ℕ) → IsKeyOfKind k → has_short_keys k.kind ≡ true → length value ≤ value_limit → IsEntry (bytes k) value
entry_of_key k value is short bounded = let l = key_is_short k is short in record { some = l.0; short = l.1; bounded = bounded }

pub well-append : (well : List ℕ → List ℕ → Type 0) (xs ys : List (List ℕ × Option (List ℕ))) → AreWell well xs → AreWell well ys → AreWell well (xs ++ ys)
well-append well [] ys a b = b
well-append well ((key, None) ∷ xs) ys a b = well-append well xs ys a b
well-append well ((key, Some value) ∷ xs) ys a b = (a.0, a.1, well-append well xs ys a.2 b)

-- the changes of a batch may be made where those before the next and the next may
pub well_next : (well : List ℕ → List ℕ → Type 0) (cs : List Change) (i : ℕ) (c : Change) → i < length cs → c ≡ get_or cs i c → AreWell well (map change_of (take i cs)) → AreWell well (change_of c ∷ []) → AreWell well (map change_of (take (i + 1) cs))
well_next well cs i c less is before one =
    subst (AreWell well)
    (ap (λ (d : Change). map change_of (take i cs) ++ change_of d ∷ []) is ∙ sym (ap (map change_of) (take_more cs i c less) ∙ map-append change_of (take i cs) (get_or cs i c ∷ [])))
    (well-append well (map change_of (take i cs)) (change_of c ∷ []) before one)
