use Rattle.std.proofs.Common.{◌≡◌, length}
use Rattle.tx_tags.specs.Groups.{is_among}
use Rattle.db_prefs.proofs.stopwords.is_among.Given as goal

abbrev pub invariant-loop-rest : goal.invariant-loop-rest
invariant-loop-rest l = is_among l.word l.rest ≡ is_among l.word l.words

abbrev pub decreases-loop-rest : goal.decreases-loop-rest
decreases-loop-rest l = length l.rest
