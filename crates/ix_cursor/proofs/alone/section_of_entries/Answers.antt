use Rattle.std.proofs.Common.{◌≡◌, ◌∷◌, [], ◌-◌, length, List, ap, sym, subst, ◌∙◌, take, drop}
use Rattle.std.proofs.lemmas.Result.{IfOk-weaker}
use Rattle.ct_base.specs.laws.Lists.{first_of}
use Rattle.ix_posting.specs.Rows.{SpanDocument}
use Rattle.ix_lists.specs.Documents.{places_at}
use Rattle.ix_cursor.specs.Alone.{AreDocumentEntries}
use Rattle.ix_cursor.proofs.LoneDocument.{section_found}
use Rattle.ix_cursor.proofs.alone.section_of_entries.Goals as goal

pub returns-then-is_section : goal.returns-then-is_section
returns-then-is_section c =
    let rest = c.loop-rest.rest.now in
    let e = c.entry-item.result in
    let more = take (length rest - 1) (drop 1 rest) in
    let split = first_of rest e c.in-len1-up.len_at_least c.entry-item.is in
    let are = subst AreDocumentEntries split c.loop-rest.invariant.are in
    let is = sym c.is_section.ensures ∙ c.if-is_section.true in
    IfOk-weaker c.section_postings.result (λ p. p ≡ record { document = 1; places = e.places } ∷ []) _
    (λ p same d. ap (λ (x : List SpanDocument). places_at x d) same ∙ section_found c.args.name.now e rest more c.args.entries.now d split c.loop-rest.invariant.same is are.1)
    c.section_postings.ensures
