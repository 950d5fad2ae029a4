use Rattle.ix_rows.specs.PlacedRows.{document_number}
use Rattle.ix_rows.specs.WordRows.{IsWordTerm, word_cost}
use Rattle.ix_rows.specs.laws.Stored.{lists_added}
use Rattle.ix_rows.proofs.laws.new_documents_stand.Goals as goal

pub returns : goal.returns
returns c = λ i want row row' given given' list news waste new stand. lists_added document_number IsWordTerm (word_cost i) want row row' given given' list news waste new stand
