use Rattle.std.proofs.Common.{◌≡◌, drop}
use Rattle.std.specs.Prelude.{◌==◌}
use Rattle.std.specs.Map.{lookup}
use Rattle.db_rows.proofs.reading.known_text.Given as goal

abbrev pub invariant-loop-place : goal.invariant-loop-place
invariant-loop-place l = lookup (λ place. l.column == place) (drop l.place-index l.texts) ≡ lookup (λ place. l.column == place) l.texts
