use Rattle.std.proofs.Common.{arith, sym, ap, ◌∙◌, ◌≡◌, length}
use Rattle.std.specs.Str.{chars, encode_utf8_all}
use Rattle.std.proofs.lemmas.Str.{encodes-chars}
use Rattle.std.proofs.lemmas.Result.{IfOk-weaker}
use Rattle.tx_lexer.specs.Tokens.{tokens, rules as rules_of}
use Rattle.tx_tags.specs.Tags.{tags_in, blanked}
use Rattle.tx_document.specs.Documents.{document_by, extents}
use Rattle.tx_document.proofs.Few.{few}
use Rattle.tx_document.proofs.TokenRanges.{in_order_rising}
use Rattle.tx_document.proofs.GroupCounts.{few_tags, few_fields}
use Rattle.tx_document.proofs.analysing.analyse.Goals as goal

pub extents-requires : goal.extents-requires
extents-requires c = rw c.sections.ensures.sections (few_tags c.args.prefs.now.group c.sections.ensures.rules)

pub document_by-requires-clause-short : goal.document_by-requires-clause-short
document_by-requires-clause-short c =
    let some = few 0 (length c.as_str.result.now) c.in_ok-tokens.tokens.items (omega arith) c.in_ok-tokens.ensures.in_order in
    let long = ap length c.as_str.ensures ∙ c.in_ok-tagged.ensures.length in
    let all = ap length c.deref-2.ensures.value in
    let most = c.requires in
    omega (arith, some, long, all, most)

pub document_by-requires-clause-few : goal.document_by-requires-clause-few
document_by-requires-clause-few c =
    rw (c.deref.ensures.value, c.in_ok-extents.ensures, c.sections.ensures.sections) (few_fields c.as_slice.result.now (length c.args.text.now) c.args.prefs.now.group c.sections.ensures.rules)

pub returns : goal.returns
returns c =
    let p = c.args.prefs.now in
    let text = c.args.text.now in
    let end : length text ≡ length (encode_utf8_all (chars text)) = sym (ap length (encodes-chars text c.utf8.text)) in
    let tags : c.as_slice.result.now ≡ tags_in p.group (chars text) = c.as_slice.ensures ∙ c.in_ok-tagged.ensures.tags in
    let found : c.deref.result.now ≡ extents (tags_in p.group (chars text)) (length (encode_utf8_all (chars text))) p.group.sections =
    c.deref.ensures.value ∙ c.in_ok-extents.ensures ∙ ap (λ t. extents t (length text) c.sections.result.now) tags
    ∙ ap (λ n. extents (tags_in p.group (chars text)) n c.sections.result.now) end
    ∙ ap (λ ss. extents (tags_in p.group (chars text)) (length (encode_utf8_all (chars text))) ss) c.sections.ensures.sections in
    let read : c.deref-2.result.now ≡ tokens (rules_of p.lexer) (blanked p.group (chars text)) =
    c.deref-2.ensures.value ∙ c.in_ok-tokens.ensures.tokens ∙ ap (λ t. tokens (rules_of p.lexer) (chars t)) c.as_str.ensures ∙ ap (tokens (rules_of p.lexer)) c.in_ok-tagged.ensures.blanked in
    IfOk-weaker c.document_by.result _ _ (λ d e. e ∙ ap (λ es. document_by p es c.deref-2.result.now) found
    ∙ ap (document_by p (extents (tags_in p.group (chars text)) (length (encode_utf8_all (chars text))) p.group.sections)) read) c.document_by.ensures

pub document_by-requires-clause-order : goal.document_by-requires-clause-order
document_by-requires-clause-order c = rw c.deref-2.ensures.value (in_order_rising 0 (length c.as_str.result.now) c.in_ok-tokens.tokens.items c.in_ok-tokens.ensures.in_order)
