use Rattle.std.proofs.Common.{◌≡◌, List, ap, ◌∙◌}
use Rattle.tx_document.specs.declared.fields.Field.{Field}
use Rattle.tx_document.specs.Documents.{instances, rising, words_from}
use Rattle.tx_document.specs.Ranges.{words_at}
use Rattle.tx_document.proofs.MarkedWords.{words_are}
use Rattle.tx_document.proofs.analysing.document_by.Goals as goal

pub returns : goal.returns
returns c =
    let p = c.args.prefs.now in
    let es = c.args.extents.now in
    let ts = c.args.tokens.now in
    let words : c.of.result ≡ words_from p.stop es 1 ts =
    c.of.ensures ∙ c.in_ok-words.ensures ∙ ap (λ (fs : List Field). words_at p.stop fs 0 ts) (c.deref.ensures.value ∙ c.in_ok-fields.ensures) ∙ words_are p.stop es ts in
    let sections : c.of-2.result ≡ rising (instances p.group es ts) = c.of-2.ensures ∙ c.in_ok-sections.ensures ∙ ap rising c.in_ok-found.ensures in
    λ i. record { words = words i; sections = sections i }
