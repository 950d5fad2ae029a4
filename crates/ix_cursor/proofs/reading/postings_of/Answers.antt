use Rattle.std.proofs.Common.{◌≡◌, List, IfOk, sym, ap, subst, ◌∙◌}
use Rattle.std.specs.Option.{option_copied}
use Rattle.ix_posting.specs.Rows.{WordDocument}
use Rattle.ix_cursor.specs.Reading.{documents_of, TokensRise}
use Rattle.ix_cursor.proofs.FeedsFound.{of_some, of_none, tokens_rise}
use Rattle.ix_cursor.proofs.reading.postings_of.Goals as goal

pub shared-requires : goal.shared-requires
shared-requires c =
    let found = of_some c.args.feeds.now c.args.stream c.args.slot.now (option_copied c.in_ok-feed.field-0) c.in-Some.feed.now c.in_ok-feed.ensures (ap option_copied c.in-Some.is) in
    subst TokensRise (found ∙ sym c.as_slice.ensures) (tokens_rise c.args.feeds.now c.args.stream c.args.slot.now c.requires)

pub returns-in-Some : goal.returns-in-Some
returns-in-Some c =
    let found = of_some c.args.feeds.now c.args.stream c.args.slot.now (option_copied c.in_ok-feed.field-0) c.in-Some.feed.now c.in_ok-feed.ensures (ap option_copied c.in-Some.is) in
    subst (λ (t : List (List (List WordDocument))). IfOk c.shared.result (λ v. v.items ≡ documents_of t)) (sym (found ∙ sym c.as_slice.ensures)) c.shared.ensures

pub returns-in-None : goal.returns-in-None
returns-in-None c =
    c.new.ensures.items ∙ ap documents_of (sym (of_none c.args.feeds.now c.args.stream c.args.slot.now (option_copied c.in_ok-feed.field-0) c.in_ok-feed.ensures (ap option_copied c.in-None.is)))
