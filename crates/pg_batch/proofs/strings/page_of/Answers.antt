use Rattle.std.proofs.Common.{arith}
use Rattle.std.proofs.lemmas.Result.{IfOk-weaker}
use Rattle.pg_batch.proofs.EntryPages.{on_page, page_found}
use Rattle.pg_batch.proofs.strings.page_of.Goals as goal

pub returns-clause-page : goal.returns-clause-page
returns-clause-page g c = λ top pages holds has.
    let p = on_page pages c.args.at holds.are has in
    IfOk-weaker c.page_behind.result _ _ (λ found is. page_found pages c.args.at c.page_behind.new.cache found is p.has) (c.page_behind.ensures.page top pages holds has.low (omega (arith, p.within, holds.count)))
