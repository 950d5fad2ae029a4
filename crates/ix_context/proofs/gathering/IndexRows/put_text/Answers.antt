use Rattle.std.proofs.Common.{◌≡◌, ◌≤◌, ◌<◌, ◌^◌, List, ℕ, length, Some, ap, sym, subst, ◌∙◌, arith}
use Rattle.std.specs.Prelude.{All}
use Rattle.std.specs.Str.{chars}
use Rattle.ct_base.specs.laws.Results.{on_ok}
use Rattle.tx_document.specs.declared.entries.Entry.{Entry}
use Rattle.tx_document.specs.Documents.{document}
use Rattle.tx_document.specs.Entries.{entries}
use Rattle.ix_context.specs.Postings.{text_entries, IsPosting, IsShortOrNone, indexed_text_limit}
use Rattle.ix_context.specs.Gathering.{with_entries}
use Rattle.ix_context.specs.GatheredRows.{AreGathered}
use Rattle.ix_context.specs.laws.GatheredRows.{grown_text}
use Rattle.ix_context.specs.laws.Postings.{entries_fit}
use Rattle.ix_context.proofs.gathering.IndexRows.put_text.Goals as goal

pub put_entries-requires : goal.put_entries-requires
put_entries-requires c =
    let short : length c.in-Some.text ≤ indexed_text_limit = subst IsShortOrNone c.in-Some.is c.requires.short in
    let read : c.in_ok-entries.entries.items ≡ text_entries c.args.prefs.now c.in-Some.text =
    c.in_ok-entries.ensures ∙ ap entries (c.in_ok-document_text.ensures ∙ ap (λ (t : List ℕ). document c.args.prefs.now (chars t)) c.as_str.ensures) in
    subst (All IsPosting) (sym read) (entries_fit c.args.prefs.now c.in-Some.text c.keep_rules.ensures (omega (arith, short)))

pub returns-clause-grown : goal.returns-clause-grown
returns-clause-grown c =
    let short : length c.in-Some.text ≤ indexed_text_limit = subst IsShortOrNone c.in-Some.is c.requires.short in
    let small : c.args.document < 2 ^ 32 = omega arith in
    let read : c.in_ok-entries.entries.items ≡ text_entries c.args.prefs.now c.in-Some.text =
    c.in_ok-entries.ensures ∙ ap entries (c.in_ok-document_text.ensures ∙ ap (λ (t : List ℕ). document c.args.prefs.now (chars t)) c.as_str.ensures) in
    on_ok c.put_entries.result (c.put_entries.new.self ≡ with_entries c.args.self.now c.args.document c.in_ok-entries.entries.items) _
    (λ gathers are.
    subst AreGathered (sym (gathers ∙ ap (λ (es : List Entry). with_entries c.args.self.now c.args.document es) read))
    (grown_text c.args.prefs.now c.keep_rules.ensures c.args.self.now c.args.document (Some c.in-Some.text) small short are))
    c.put_entries.ensures
