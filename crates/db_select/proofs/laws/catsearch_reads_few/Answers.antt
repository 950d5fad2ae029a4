use Rattle.db_select.proofs.FewTexts.{catsearch_may_read_few, catsearch_reads_few}
use Rattle.db_select.proofs.laws.catsearch_reads_few.Goals as goal

pub returns : goal.returns
returns c = record {
  reads = catsearch_reads_few c.catalogues_find_word_rows.ensures;
  allowed = catsearch_may_read_few c.catalogues_find_word_rows.ensures;
}
