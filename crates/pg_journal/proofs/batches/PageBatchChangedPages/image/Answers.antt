use Rattle.std.proofs.Common.{◌<◌, ◌*◌, List, ℕ, length, take, drop, sym, ap, ◌∙◌, arith}
use Rattle.pg_journal.specs.BatchStates.{BatchState, image_at}
use Rattle.pg_journal.proofs.BatchPages.{length-pages, image_of_pages}
use Rattle.pg_journal.proofs.batches.PageBatchChangedPages.image.Goals as goal

pub image_in-requires : goal.image_in-requires
image_in-requires c =
    omega (
      arith,
      c.requires,
      ap (λ (b : BatchState). length b.pages) c.self.view_is,
      length-pages c.self.inside.numbers.items c.self.inside.bytes.items,
      c.self.invariant.long,
      ap (λ (l : List ℕ). length l) c.deref.ensures.value,
    )

pub returns : goal.returns
returns c =
    let less : c.args.index < length c.self.inside.numbers.items =
    omega (arith, c.requires, ap (λ (b : BatchState). length b.pages) c.self.view_is, length-pages c.self.inside.numbers.items c.self.inside.bytes.items) in
    c.image_in.ensures ∙ ap (λ (l : List ℕ). take 4096 (drop (4096 * c.args.index) l)) c.deref.ensures.value
    ∙ sym (image_of_pages c.self.inside.numbers.items c.self.inside.bytes.items c.args.index less) ∙ ap (λ (b : BatchState). image_at c.args.index b.pages) c.self.view_is
