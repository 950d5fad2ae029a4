use Rattle.std.proofs.Common.{is_ok, ap, ◌∙◌, ◌≡◌, true, refl}
use Rattle.std.specs.Str.{chars, all_scalars}
use Rattle.std.specs.Prelude.{[], ◌∷◌}
use Rattle.std.proofs.ResultArms.{chosen}
use Rattle.std.proofs.lemmas.Str.{IsUtf8-string_bytes}
use Rattle.ct_base.proofs.ReadingSteps.{chars-push}
use Rattle.ct_base.proofs.reading.push_char.Goals as goal

pub returns-clause-chars : goal.returns-clause-chars
returns-clause-chars c =
    let scalar : all_scalars (c.args.c ∷ []) ≡ true = rw c.ranges.c.0 refl in
    ap chars (chosen _ _ _ _ c.push.ensures.bytes (ap is_ok c.in_ok-push.was)) ∙ chars-push _ c.args.c (IsUtf8-string_bytes c.args.text.now) scalar
