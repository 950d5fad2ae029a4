use Rattle.db_find.proofs.WordRows.{catalogues_find_word_rows}
use Rattle.db_find.proofs.laws.catalogues_find_word_rows.Goals as goal

pub returns : goal.returns
returns c = catalogues_find_word_rows c.queries_are_plain.ensures.limits c.queries_are_plain.ensures.plain c.reduced_is_sound.ensures c.met_rows_are_few.ensures
