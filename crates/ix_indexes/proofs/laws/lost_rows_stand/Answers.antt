use Rattle.ix_kinds.specs.laws.Turns.{lost_in_turn}
use Rattle.ix_indexes.specs.Indexes.{kinds}
use Rattle.ix_indexes.specs.laws.Indexes.{kinds_laws}
use Rattle.ix_indexes.proofs.laws.lost_rows_stand.Goals as goal

pub returns : goal.returns
returns c = λ test t names f xs ts step change p rest rows blind stays row_is all other there steps apart are on hold.
    lost_in_turn kinds kinds_laws test stays t names f xs ts step change row_is p rest all other rows blind there steps apart are on hold
