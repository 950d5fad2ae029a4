use Rattle.std.proofs.Common.{ℕ, List, ap, subst, ◌∙◌}
use Rattle.ct_entry.specs.declared.kinds.Kind.TheVariants as kind
use Rattle.ct_entry.specs.Listings.{owner_entries}
use Rattle.ix_tokens.specs.Scanned.{AreTakenOf, TokenEntry, is_wanted_of_length}
use Rattle.ix_tokens.proofs.reading.rows_of_size.Goals as goal

pub returns-clause-rows : goal.returns-clause-rows
returns-clause-rows g c = λ m told.
    subst (λ (es : List TokenEntry). AreTakenOf (is_wanted_of_length c.args.pattern.now c.args.literal.now c.args.size) es c.in_ok-rows_of_entries.field-0.items)
    (c.in_ok-entries.ensures.entries m told ∙ ap (λ (prefix : List ℕ). owner_entries kind.Postings c.args.index.now prefix m) (c.deref.ensures.value ∙ c.in_ok-prefix.ensures))
    c.in_ok-rows_of_entries.ensures.taken
