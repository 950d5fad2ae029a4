use Rattle.std.specs.Prelude.{map}
use Rattle.std.proofs.Common.{Some, refl, sym, ap, ◌∙◌, arith}
use Rattle.ct_keep.specs.Content.{entry_weight}
use Rattle.pg_directory.specs.Trees.{kind_of}
use Rattle.pg_directory.specs.laws.Listing.{has_item}
use Rattle.pg_directory.proofs.Steps.{page_given, page_missing}
use Rattle.pg_directory.proofs.Strings.{string_of, string_read}
use Rattle.pg_directory.proofs.surveying.weight_at.Goals as goal

pub returns-in_default-found-clause-weight : goal.returns-in_default-found-clause-weight
returns-in_default-found-clause-weight g c = λ top pages m holds layout has.
    let s = string_of pages c.args.at holds.are has in
    absurd (page_missing c.in-Ok.found _ _ (c.in-Ok.ensures.page top pages holds has.low (omega (arith, s.within, holds.count))) c.in_default-found.is)

pub returns-in_default-string_in-clause-weight : goal.returns-in_default-string_in-clause-weight
returns-in_default-string_in-clause-weight g c = λ top pages m holds layout has.
    let s = string_of pages c.args.at holds.are has in
    absurd (c.in_default-string_in.ensures.none refl s.strings s.fits (page_given c.in-Ok.found _ _ _ c.page.result.now (c.in-Ok.ensures.page top pages holds has.low (omega (arith, s.within, holds.count))) c.in-Some.is c.page.ensures ∙ s.at) s.less)

pub returns-clause-weight : goal.returns-clause-weight
returns-clause-weight g c = λ top pages m holds layout has.
    let s = string_of pages c.args.at holds.are has in
    let own = string_read pages c.args.at c.page.result.now c.in-Some-string_in.string.now holds.are has
    (page_given c.in-Ok.found _ _ _ c.page.result.now (c.in-Ok.ensures.page top pages holds has.low (omega (arith, s.within, holds.count))) c.in-Some.is c.page.ensures) c.in-Some-string_in.ensures.string in
    let i = has_item pages m holds.are layout c.args.at has in
    ap Some (c.string_weight.ensures (map kind_of pages) i.item i.entry i.chain i.good i.stands (own ∙ i.is) ∙ ap entry_weight (sym i.read))
