use Rattle.cat_search.specs.laws.Few.{met_rows_have_words}
use Rattle.cat_search.proofs.laws.met_rows_are_few.Goals as goal

pub returns : goal.returns
returns c = met_rows_have_words
