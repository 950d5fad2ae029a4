-- Pages that are written one by one, each time in place of what was to be written under its number.
use Rattle.std.specs.Prelude.{◌≡◌, ◌==◌, nat_lt, List, [], ◌∷◌, refl}
use Rattle.std.specs.Bool.{if◌then◌else◌}
use Rattle.pg_map.specs.Kinds.{Free, Slotted}
use Rattle.pg_directory.specs.Trees.{Plain}
use Rattle.pg_directory.specs.Written.{PageWrite}

-- one write more among those in order of number, in place of the one of its number
abbrev pub with_write : PageWrite → List PageWrite → List PageWrite
with_write w [] = w ∷ []
with_write w (v ∷ vs) = if nat_lt w.0 v.0 then w ∷ v ∷ vs else (if w.0 == v.0 then w ∷ vs else v ∷ with_write w vs)

-- ---- computed examples: a page between two others, and one in place of another
one_between : with_write (4, Plain Free) ((3, Plain Free) ∷ (6, Plain Free) ∷ []) ≡ (3, Plain Free) ∷ (4, Plain Free) ∷ (6, Plain Free) ∷ []
one_between = refl

one_in_place : with_write (6, Plain (Slotted [])) ((3, Plain Free) ∷ (6, Plain Free) ∷ []) ≡ (3, Plain Free) ∷ (6, Plain (Slotted [])) ∷ []
one_in_place = refl
