use Rattle.std.proofs.Common.{length, ◌≤◌}
use Rattle.st_parse.specs.Lists.{list_at}
use Rattle.st_parse.proofs.Lists.{GoesOn}
use Rattle.st_parse.proofs.listing.read_list.Given as goal

abbrev pub invariant-items : goal.invariant-items
invariant-items g l = record {
  goes_on : GoesOn l.separator g.T.Element.item_at l.items.items l.rest (list_at l.separator g.T.Element.item_at l.lexemes);
  shorter : length l.rest ≤ length l.lexemes;
}

abbrev pub decreases-items : goal.decreases-items
decreases-items g l = length l.rest
