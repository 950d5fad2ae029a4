use Rattle.std.proofs.Common.{◌≡◌, ◌++◌, length}
use Rattle.ct_entry.specs.Changes.{spell}
use Rattle.ct_entry.specs.Keys.{IsToken}
use Rattle.ct_entry.specs.Lists.{EachIs}
use Rattle.cat_index.specs.Changes.{words_change}
use Rattle.cat_index.proofs.rows.change_words.Given as goal

abbrev pub invariant-loop-rest : goal.invariant-loop-rest
invariant-loop-rest l = record {
  changes : l.batch ++ spell (words_change l.index l.row.0 l.sub l.rest l.there l.values) ≡ l.fn.batch ++ spell (words_change l.index l.row.0 l.sub l.words l.there l.values);
  tokens : EachIs IsToken l.rest;
}

abbrev pub decreases-loop-rest : goal.decreases-loop-rest
decreases-loop-rest l = length l.rest
