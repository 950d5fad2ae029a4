use Rattle.std.proofs.Common.{ℕ, List, Some, subst}
use Rattle.ct_base.specs.laws.Results.{on_ok}
use Rattle.ct_entry.specs.declared.kinds.Kind.TheVariants as kind
use Rattle.ix_posting.specs.Forms.{number_form, pair_form}
use Rattle.ix_repack.specs.declared.terms.Term.{Term}
use Rattle.ix_repack.specs.Terms.{IsTermOrStart}
use Rattle.ix_repack.specs.Putting.{AddsPuts, IsIndexRow, IsRowEntry}
use Rattle.ix_repack.specs.laws.Putting.{word_rows, section_rows}
use Rattle.ix_repack.proofs.repacking.repack_term.Goals as goal

pub returns-in-Word-clause-puts : goal.returns-in-Word-clause-puts
returns-in-Word-clause-puts g c =
    let i = c.args.index.now in
    let old = c.args.batch.now in
    let new = c.repack_rows.new.batch in
    let is = subst (λ (t : Term). IsTermOrStart (Some t)) c.in-Word.is c.requires.proper in
    on_ok c.repack_rows.result (AddsPuts (IsRowEntry number_form kind.Postings i c.as_slice.result.now) old new) (AddsPuts (IsIndexRow i) old new)
    (λ puts. word_rows i c.in-Word.word old new is (subst (λ (t : List ℕ). AddsPuts (IsRowEntry number_form kind.Postings i t) old new) c.as_slice.ensures puts)) c.repack_rows.ensures.puts

pub returns-in-Section-clause-puts : goal.returns-in-Section-clause-puts
returns-in-Section-clause-puts g c =
    let i = c.args.index.now in
    let old = c.args.batch.now in
    let new = c.repack_rows-in-Section.new.batch in
    let is = subst (λ (t : Term). IsTermOrStart (Some t)) c.in-Section.is c.requires.proper in
    on_ok c.repack_rows-in-Section.result (AddsPuts (IsRowEntry pair_form kind.Spans i c.as_slice-in-Section.result.now) old new) (AddsPuts (IsIndexRow i) old new)
    (λ puts. section_rows i c.in-Section.section old new is (subst (λ (t : List ℕ). AddsPuts (IsRowEntry pair_form kind.Spans i t) old new) c.as_slice-in-Section.ensures puts)) c.repack_rows-in-Section.ensures.puts
