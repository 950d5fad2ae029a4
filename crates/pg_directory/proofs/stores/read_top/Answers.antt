use Rattle.std.proofs.Common.{◌∙◌, arith}
use Rattle.pg_directory.proofs.StoreOpens.{short_refused, top_is}
use Rattle.pg_directory.proofs.stores.read_top.Goals as goal

pub returns-then-is_short-clause-top : goal.returns-then-is_short-clause-top
returns-then-is_short-clause-top g c = λ store st.
    short_refused _ c.args.journal.now c.in-Ok.size store st (c.in-Ok.ensures.size st.image st.settled.told) (let short = c.is_short.ensures.yes c.if-is_short.true in let h = c.homes.ensures.homes in omega (arith, short, h))

pub returns-clause-top : goal.returns-clause-top
returns-clause-top g c = λ store st.
    top_is c.args.journal.now store st.image st.shut c.in-Ok-read_page.root c.top_of.result (c.in-Ok-read_page.ensures.bytes st.image (c.size.ensures.same.image ∙ st.settled.told)) c.top_of.ensures (omega arith)
