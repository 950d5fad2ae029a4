use Rattle.std.proofs.Common.{◌≡◌, length}
use Rattle.std.specs.List.{list_all}
use Rattle.ct_base.specs.Names.{is_kept}
use Rattle.tx_tags.specs.declared.groups.Section.{Section}
use Rattle.tx_settings.proofs.preferences.keep_names.Given as goal

abbrev pub invariant-loop-rest : goal.invariant-loop-rest
invariant-loop-rest l = list_all (λ (s : Section). is_kept s.name) l.rest ≡ list_all (λ (s : Section). is_kept s.name) l.sections

abbrev pub decreases-loop-rest : goal.decreases-loop-rest
decreases-loop-rest l = length l.rest
