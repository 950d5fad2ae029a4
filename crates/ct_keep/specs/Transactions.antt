-- A commit that is under way in memory.
use Rattle.std.specs.Prelude.{◌≡◌, ℕ, List, map, None, not, refl}
use Rattle.std.specs.Coded.{Coded, code_by, coded×}
use Rattle.std.specs.FinMap.{contains_key, retain_keys}
use Rattle.ct_keep.specs.declared.undo_logs.UndoLog.{UndoLog}
use Rattle.ct_keep.specs.Pairs.{content_code}
use Rattle.ct_keep.specs.Content.{Content, Change, weight}
use Rattle.ct_keep.specs.Undoing.{HaveEntries, replaced_last}

-- the entries that stay, where those at some keys are to go
abbrev pub staying : Content → Content → Content
staying held gone = retain_keys held (λ key. not (contains_key gone key))

-- a change for each of these entries, that it is to go
abbrev pub removals : List (List ℕ × List ℕ) → List Change
removals es = map (λ e. (e.0, None)) es

-- A commit that is under way: the weight of the entries that stay, and that all can be undone without taking memory.
pub record IsTransaction (held gone : Content) (log : UndoLog) (total : ℕ) : Type 0 where
  pub weighs : total ≡ weight (staying held gone)
  pub noted : HaveEntries (replaced_last log.replaced.items) held

-- What a commit that is under way goes back to, and what its changes have made so far.
pub record TransactionState : Type 0 where
  pub before : Content
  pub seen : Content

abbrev pub transaction_code : Coded TransactionState
transaction_code = code_by (Content × Content) (coded× content_code content_code) (λ c. (c.before, c.seen)) (λ p. record { before = p.0; seen = p.1 }) (λ _. refl)
