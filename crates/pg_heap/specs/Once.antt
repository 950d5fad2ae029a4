-- That what is kept beside the pages of a draft has one proof at most.
use Rattle.std.specs.Prelude.{◌≡◌, ℕ, suc, List, [], ◌∷◌}
use Rattle.std.specs.Coded.{×_prop, Unit-prop, Coded-set, coded_list, coded_ℕ}
use denote.Struct.Props.{props}
use Rattle.pg_journal.specs.Pages.{Numbered, AreBetween}
use Rattle.pg_map.specs.Kinds.{Each, Kind, Free, Slotted, Long, IsKind}

kind_once : (k : Kind) → IsProp (IsKind k)
kind_once Free = Unit-prop
kind_once (Slotted ss) = hlevel props
kind_once (Long next bytes) = hlevel props

pub kinds_once : (ks : List Kind) → IsProp (Each IsKind ks)
kinds_once [] = Unit-prop
kinds_once (k ∷ ks) = ×_prop (kind_once k) (kinds_once ks)

pub between_once : (low end : ℕ) (ws : List Numbered) → IsProp (AreBetween low end ws)
between_once low end [] = Unit-prop
between_once low end (w ∷ ws) = hlevel (props, between_once (suc w.0) end ws)

pub numbers_once : (ms ns : List ℕ) → IsProp (ms ≡ ns)
numbers_once ms ns = Coded-set (coded_list coded_ℕ) ms ns
