use Rattle.tx_document.specs.laws.Views.{documents_keep_rules}
use Rattle.tx_document.proofs.laws.document_laws.Goals as goal

pub returns : goal.returns
returns c = documents_keep_rules c.in_order.ensures
