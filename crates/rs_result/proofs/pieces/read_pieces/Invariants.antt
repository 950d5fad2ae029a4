use Rattle.std.proofs.Common.{◌≡◌, length}
use Rattle.rs_result.specs.Pieces.{items_of, pieces}
use Rattle.rs_result.proofs.Cuts.{with_items}
use Rattle.rs_result.proofs.pieces.read_pieces.Given as goal

abbrev pub invariant-pieces : goal.invariant-pieces
invariant-pieces g l = with_items l.items.items (items_of g.T.Piece.piece_of (pieces l.separator l.rest)) ≡ items_of g.T.Piece.piece_of (pieces l.separator l.lexemes)

abbrev pub decreases-pieces : goal.decreases-pieces
decreases-pieces g l = length l.rest
