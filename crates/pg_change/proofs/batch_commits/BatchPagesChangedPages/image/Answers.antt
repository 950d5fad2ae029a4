use Rattle.std.proofs.Common.{ℕ, List, get_or, sym, ap, ◌∙◌}
use Rattle.pg_change.proofs.BatchEnds.{image_there, image_within}
use Rattle.pg_change.proofs.batch_commits.BatchPagesChangedPages.image.Goals as goal

pub page_image-requires : goal.page_image-requires
page_image-requires c =
    let s = c.args.self.now in
    let is = ap (λ (l : List ℕ). get_or l c.args.index 0) c.all.ensures in
    record { may = image_within s.draft.now.now s.images.now s.numbers.now s.top c.args.index (get_or c.all.result.now c.args.index 0) s.between s.kinds c.if-index-eq0.false c.requires is }

pub returns : goal.returns
returns c =
    let s = c.args.self.now in
    let is = ap (λ (l : List ℕ). get_or l c.args.index 0) c.all.ensures in
    c.page_image.ensures ∙ sym (image_there s.draft.now.now s.images.now s.numbers.now s.top c.args.index (get_or c.all.result.now c.args.index 0) c.if-index-eq0.false c.requires is)
