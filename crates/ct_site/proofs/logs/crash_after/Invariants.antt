use Rattle.std.proofs.Common.{◌≡◌, length}
use Rattle.ct_site.specs.Logs.{all_written, all_said, changes_of}
use Rattle.ct_site.specs.Crashes.{crash_from, crashed}
use Rattle.ct_site.proofs.logs.crash_after.Given as goal

abbrev pub invariant-loop-rest : goal.invariant-loop-rest
invariant-loop-rest l = record {
  written : all_written l.rest ≡ length l.written;
  said : all_said l.rest ≡ length l.said;
  left : crash_from l.pick l.image.items l.left.items (changes_of l.rest l.written l.said) ≡ crashed l.pick l.first (changes_of l.entries l.fn.written l.fn.said);
}

abbrev pub decreases-loop-rest : goal.decreases-loop-rest
decreases-loop-rest l = length l.rest
