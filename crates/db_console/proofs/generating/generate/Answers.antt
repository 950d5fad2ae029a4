use Rattle.db_console.proofs.Generated.{generated}
use Rattle.db_console.proofs.generating.generate.Goals as goal

pub returns : goal.returns
returns g c =
    generated c.args.rows c.in_ok-hits.hits _ _ _ _ _ _
    c.in_ok-bytes.ensures c.deref.ensures.value c.in_ok-copy.ensures.items c.in_ok-hits.ensures c.in_ok-line.ensures c.deref-2.ensures.value c.in_ok-extend_from_slice.ensures.items
