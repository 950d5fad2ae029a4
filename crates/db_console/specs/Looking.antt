-- How much the pieces of a script may look up.
use Rattle.std.specs.Prelude.{ℕ, pos, ◌≡◌, ◌&&◌, nat_le, List, [], ◌∷◌, length, Option, Some, None, codes, refl}
use Rattle.std.specs.Bool.{if◌then◌else◌}
use Rattle.std.specs.Str.{chars, is_utf8}
use lib.Utf8.{encode}
use Rattle.ct_keep.specs.Content.{Content}
use Rattle.ct_keep.specs.KeeperViews.{KeeperView}
use Rattle.ct_keep.specs.declared.keepers.KeepFault.{KeepFault}
use Rattle.ct_keep.specs.declared.keepers.KeepFault.TheVariants as keep_fault
use Rattle.st_parse.specs.Grammar.{Read, Blank, NoStatement, Found}
use Rattle.st_parse.specs.declared.statements.Item.TheVariants.{Column}
use Rattle.st_parse.specs.declared.statements.Pred.TheVariants.{Contains}
use Rattle.st_parse.specs.declared.statements.SelectList.TheVariants.{Items}
use Rattle.st_parse.specs.declared.statements.Statement.TheVariants.{Select}
use Rattle.st_parse.specs.declared.statements.Whole.TheVariants.{Fits}
use Rattle.db_looks.specs.Allowances.{Allowance, nothing_allowed, together, LooksOver}
use Rattle.db_state.specs.States.{StoreState, StandsForState}
use Rattle.db_engine.specs.Steps.{read_bytes}
use Rattle.db_engine.specs.Runs.{Piece, statement, rest_piece, Step, Turn, turn_by}
use Rattle.db_engine.specs.Looking.{allowance}
use Rattle.db_console.specs.declared.saying.AnswerFault.{AnswerFault}
use Rattle.db_console.specs.declared.saying.AnswerFault.TheVariants.{Say, Disk}

-- what was read is executed, if it is a statement
abbrev pub read_allowance : Content → StoreState → Read → Allowance
read_allowance c m Blank = nothing_allowed
read_allowance c m NoStatement = nothing_allowed
read_allowance c m (Found s) = allowance c m s

-- what stands behind the last statement isn't executed, nor is a statement that is too long
abbrev pub piece_allowance : ℕ → Content → StoreState → Piece → Allowance
piece_allowance limit c m piece = if piece.is_ended && nat_le (length piece.text) limit then read_allowance c m (read_bytes piece.text) else nothing_allowed

-- WHAT TURNS MAY LOOK UP: what all their pieces may, at the content before the first of them. Where one of them is no search, and does something,
-- nothing is said.
abbrev pub turns_allowance : ℕ → Content → StoreState → List Turn → Allowance
turns_allowance limit c m [] = nothing_allowed
turns_allowance limit c m (t ∷ ts) = together (piece_allowance limit c m t.piece) (turns_allowance limit c m ts)

-- What was read looked up no more than it may, of each content and of each state that it stands for.
abbrev pub ReadLooks : Read → KeeperView → KeeperView → Option KeepFault → Type 0
ReadLooks r old new fault = LooksOver StandsForState (λ c m. read_allowance c m r) old new fault

-- The same of a piece.
abbrev pub PieceLooks : ℕ → Piece → KeeperView → KeeperView → Option KeepFault → Type 0
PieceLooks limit piece old new fault = LooksOver StandsForState (λ c m. piece_allowance limit c m piece) old new fault

-- The same of some turns: where all that did something were searches, the content is as it was, unless the disk failed.
abbrev pub TurnsLook : ℕ → List Turn → KeeperView → KeeperView → Option KeepFault → Type 0
TurnsLook limit turns old new fault = LooksOver StandsForState (λ c m. turns_allowance limit c m turns) old new fault

-- how the keeper failed where an answer broke off for this fault
abbrev pub fault_of_answer : AnswerFault → Option KeepFault
fault_of_answer Say = None
fault_of_answer Disk = Some keep_fault.Disk

-- computed examples: what isn't understood and a rest look nothing up
a_script_of_notes : (c : Content) (m : StoreState) → turns_allowance 65536 c m (turn_by (statement (codes "SELEC")) Step ∷ turn_by (rest_piece (codes "-- note")) Step ∷ []) ≡ nothing_allowed
unfolding chars is_utf8 encode
a_script_of_notes c m = refl

too_long : (c : Content) (m : StoreState) → piece_allowance 5 c m (statement (codes "COMMIT")) ≡ nothing_allowed
too_long c m = refl

-- the same search twice may look up twice what it may look up at entry
abbrev a_search : Turn
a_search = turn_by (statement (codes "SELECT id FROM docs WHERE CONTAINS(body, 'fox') > 0")) Step

abbrev its_allowance : Content → StoreState → Allowance
its_allowance c m = allowance c m (Select (Items (Column (codes "id") ∷ [])) (codes "docs") (Contains (codes "body") (codes "fox") None (Fits (pos 0)) ∷ []) [])

two_searches : (c : Content) (m : StoreState) → turns_allowance 65536 c m (a_search ∷ a_search ∷ []) ≡ together (its_allowance c m) (together (its_allowance c m) nothing_allowed)
unfolding chars is_utf8 encode
two_searches c m = refl
