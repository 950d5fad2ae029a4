use Rattle.std.proofs.Common.{◌≡◌, ℕ, List, sym, subst, ◌∙◌}
use Rattle.std.proofs.lemmas.Result.{IfOk-weaker}
use Rattle.ct_base.specs.laws.Options.{match_some}
use Rattle.ct_entry.specs.declared.kinds.Kind.TheVariants as kind
use Rattle.ct_entry.specs.Listings.{owner_entries}
use Rattle.ix_posting.specs.Forms.{number_form}
use Rattle.ix_rows.specs.Taking.{Hold}
use Rattle.ix_rows.specs.WordRows.{word_term}
use Rattle.ix_search.proofs.reading.read_key.Goals as goal

pub returns-clause-rows : goal.returns-clause-rows
returns-clause-rows g c = λ m holds.
    let is : c.deref.result.now ≡ word_term c.args.stream c.args.key.now = c.deref.ensures.value ∙ match_some c.in_ok-term.field-0 _ _ c.in-Some.term c.in-Some.is c.in_ok-term.ensures in
    IfOk-weaker c.rows_of.result _ _
    (λ rows all held key. all held (subst (λ (term : List ℕ). Hold number_form (owner_entries kind.Postings c.args.index.now term m) held) (sym is) key.hold))
    (c.rows_of.ensures.rows m holds)
