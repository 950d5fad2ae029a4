use Rattle.std.proofs.Common.{None, arith}
use Rattle.ct_keep.specs.laws.Composing.{reads_none, reads_on, reads_hold}
use Rattle.ct_entry.specs.Keys.{at}
use Rattle.ix_docmap.specs.Readings.{row_at_document}
use Rattle.ix_cursor.specs.Candidates.{ahead}
use Rattle.ix_search.proofs.MapSteps.{rows_begin, rows_next, rows_end}
use Rattle.ix_search.proofs.mapping.map_documents.Goals as goal

pub documents-init : goal.documents-init
documents-init g c = record {
  reads = reads_none _ c.requires;
  at_most = record { texts = omega arith; rows = omega arith; rules = omega arith };
  rows = λ m told. rows_begin (row_at_document (at m) c.args.index.now) (ahead c.args.candidates.now) c.new-rows.result c.new-rows.ensures;
}

pub documents-preserved : goal.documents-preserved
documents-preserved g c =
    let i = c.args.index.now in
    let old = g.K.Keeper.view c.args.keeper.now in
    let mid = g.K.Keeper.view c.documents.keeper in
    let a = c.documents.invariant.at_most in
    let b = c.in_ok-map_document.ensures.at_most in
    record {
      reads = reads_on old mid (g.K.Keeper.view c.map_document.new.keeper) None c.documents.invariant.reads c.in_ok-map_document.ensures.reads;
      at_most = record { texts = omega (arith, a.texts, b.texts); rows = omega (arith, a.rows, b.rows); rules = omega (arith, a.rules, b.rules) };
      rows = λ m told.
          rows_next (row_at_document (at m) i) (ahead c.args.candidates.now) (ahead c.documents.candidates) (ahead c.next.new.self) c.in_ok-document.field-0 c.in-Some.document c.documents.rows c.map_document.new.rows
          c.in-Some.is c.in_ok-document.ensures.least c.in_ok-document.ensures.left
          (c.in_ok-map_document.ensures.rows m (reads_hold old mid m c.documents.invariant.reads told)) (c.documents.invariant.rows m told);
    }

pub returns-in_default-clause-rows : goal.returns-in_default-clause-rows
returns-in_default-clause-rows g c = λ m told.
    rows_end (row_at_document (at m) c.args.index.now) (ahead c.args.candidates.now) (ahead c.documents.candidates) c.in_ok-document.field-0 c.documents.rows
    c.in_default.is c.in_ok-document.ensures.least (c.documents.invariant.rows m told)
