-- That what is kept beside the pages of a batch has one proof at most.
use Rattle.std.specs.Prelude.{ℕ, suc, ◌+◌, ◌-◌, length, get_or, List, [], ◌∷◌}
use Rattle.std.specs.Coded.{×_prop, Unit-prop}
use denote.Struct.Props.{props}
use Rattle.pg_journal.specs.Pages.{Numbered, AreBetween}
use Rattle.pg_directory.specs.Written.{PageWrite}
use Rattle.pg_change.specs.BatchCommits.{commit_pages, AreCommitPages}
use Rattle.pg_change.specs.Next.{HaveKinds}
use Rattle.pg_map.specs.Kinds.{Kind, Free, Slotted, Long, IsKind}

kind_once : (k : Kind) → IsProp (IsKind k)
kind_once Free = Unit-prop
kind_once (Slotted ss) = hlevel props
kind_once (Long next bytes) = hlevel props

pub kinds_once : (now : List Kind) (numbers : List ℕ) → IsProp (HaveKinds now numbers)
kinds_once now [] = Unit-prop
kinds_once now (n ∷ ns) = ×_prop (kind_once (get_or now (n - 3) Free)) (kinds_once now ns)

pub between_once : (low end : ℕ) (ws : List Numbered) → IsProp (AreBetween low end ws)
between_once low end [] = Unit-prop
between_once low end (w ∷ ws) = hlevel (props, between_once (suc w.0) end ws)

pub commit_once : (now : List Kind) (directory : List PageWrite) (numbers : List ℕ) (top : ℕ) → IsProp (AreCommitPages now directory numbers top)
commit_once now directory numbers top = between_once 2 (3 + length now) (commit_pages now directory numbers top)
