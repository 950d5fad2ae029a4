-- The changes of a removal, part after part.
use Rattle.std.proofs.Common.{◌≡◌, ℕ, Option, List, [], ◌++◌, sym, ap, ◌∙◌}
use Rattle.ct_entry.specs.Keys.{Key}
use Rattle.ct_entry.specs.Changes.{spell}
use Rattle.ct_entry.specs.laws.Changes.{spell-append}

-- three parts that were added to an empty batch, one after the other, and then to another batch
pub three_added : (empty one two three old new : List (List ℕ × Option (List ℕ))) (us vs ws : List (Key × Option (List ℕ))) → empty ≡ [] → one ≡ empty ++ spell us → two ≡ one ++ spell vs → three ≡ two ++ spell ws → new ≡ old ++ three
    → new ≡ old ++ spell (us ++ vs ++ ws)
three_added empty one two three old new us vs ws none first second third is =
    is
    ∙ ap (λ (b : List (List ℕ × Option (List ℕ))). old ++ b) (
    third
    ∙ ap (λ (b : List (List ℕ × Option (List ℕ))). b ++ spell ws) (
    second ∙ ap (λ (b : List (List ℕ × Option (List ℕ))). b ++ spell vs) (first ∙ ap (λ (b : List (List ℕ × Option (List ℕ))). b ++ spell us) none) ∙ sym (spell-append us vs)
    )
    ∙ sym (spell-append (us ++ vs) ws)
    )
