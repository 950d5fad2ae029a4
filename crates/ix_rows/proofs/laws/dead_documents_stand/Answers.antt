use Rattle.ix_rows.specs.PlacedRows.{document_number}
use Rattle.ix_rows.specs.WordRows.{IsWordTerm, word_cost}
use Rattle.ix_rows.specs.laws.Stored.{lists_unmapped}
use Rattle.ix_rows.proofs.laws.dead_documents_stand.Goals as goal

pub returns : goal.returns
returns c = λ i want row given list waste d r its is all stand. lists_unmapped document_number IsWordTerm (word_cost i) want row given list waste d r its is all stand
