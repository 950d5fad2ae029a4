-- What the bytes of a key spell is one key at most.
use Rattle.std.proofs.Common.{◌≡◌, ℕ, List, Option, Some, None, refl, sym, ap, ◌∙◌}
use Rattle.ct_entry.specs.Keys.{Key}
use Rattle.ct_entry.specs.KeyParts.{SpellsKey}
use Rattle.ct_entry.specs.laws.Keys.{key_from_bytes}

pub one_key : (spelling : List ℕ) (a b : Option Key) → SpellsKey spelling a → SpellsKey spelling b → a ≡ b
one_key spelling None None f g = refl
one_key spelling None (Some k) f g = absurd (f k g.0 g.1)
one_key spelling (Some j) None f g = absurd (g j f.0 f.1)
one_key spelling (Some j) (Some k) f g = ap Some (key_from_bytes j k (sym f.1 ∙ g.1))
