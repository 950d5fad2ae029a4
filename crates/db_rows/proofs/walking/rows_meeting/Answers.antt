use Rattle.std.proofs.Common.{Option, None, subst, sym, ap}
use Rattle.ct_base.specs.declared.numbers.RowKey.{RowKey}
use Rattle.ct_keep.specs.laws.Composing.{reads_none, reads_on, reads_hold}
use Rattle.ct_entry.specs.Listings.{number_of}
use Rattle.tb_table.specs.Tables.{row_keys}
use Rattle.db_rows.specs.Walking.{AreOwn, IsNext, met_keys}
use Rattle.db_rows.proofs.TableWalks.{table_begins, next_entry, entry_is_row, table_step, table_ends}
use Rattle.db_rows.proofs.walking.rows_meeting.Goals as goal

pub steps-init : goal.steps-init
steps-init g c = record {
  reads = reads_none _ c.requires;
  place = λ m k x holds stands there. c.start-after.ensures.place;
  walked = λ m k x holds stands there same.
      table_begins x c.args.conds.now (stands.state.tables.each c.args.table.now x there) c.args.columns.now same c.key_bounds-bounds.result c.key_bounds-bounds.ensures.bound (number_of c.start-after.result) c.start-after.ensures.start (met_keys c.new-rows.result.items) (ap met_keys c.new-rows.ensures.items);
  own = λ m k holds stands. subst (AreOwn m.tables c.args.table.now) (sym c.new-rows.ensures.items) tt;
}

pub steps-preserved : goal.steps-preserved
steps-preserved g c =
    let reads = reads_on _ _ _ _ c.steps.invariant.reads c.in_ok-row.ensures.reads in
    record {
      reads = reads_on (g.K.Keeper.view c.args.keeper.now) (g.K.Keeper.view c.next_within.new.keeper) (g.K.Keeper.view c.note_row.new.keeper) None reads c.in_ok-note_row.ensures.reads;
      place = λ m k x holds stands there.
          let t = c.args.table.now in
          let here = reads_hold _ _ k c.steps.invariant.reads holds in
          let next = subst (λ (o : Option RowKey). IsNext (number_of c.steps.after) c.key_bounds-bounds.result.greatest.0 (row_keys m.tables t) (number_of o)) c.in-Some.is (c.in_ok-row.ensures.next m k here stands (c.steps.invariant.place m k x holds stands there)) in
          entry_is_row x c.args.conds.now (stands.state.tables.each t x there) (number_of c.steps.after) c.in-Some.row.0 (next_entry x c.args.conds.now m.tables t (number_of c.steps.after) c.in-Some.row.0 there next.0);
      walked = λ m k x holds stands there same.
          let t = c.args.table.now in
          let here = reads_hold _ _ k c.steps.invariant.reads holds in
          let behind = reads_hold (g.K.Keeper.view c.args.keeper.now) (g.K.Keeper.view c.next_within.new.keeper) k reads holds in
          let next = subst (λ (o : Option RowKey). IsNext (number_of c.steps.after) c.key_bounds-bounds.result.greatest.0 (row_keys m.tables t) (number_of o)) c.in-Some.is (c.in_ok-row.ensures.next m k here stands (c.steps.invariant.place m k x holds stands there)) in
          table_step x c.args.conds.now (number_of c.steps.after) c.in-Some.row (met_keys c.steps.rows.items) (met_keys c.note_row.new.rows.items)
          (next_entry x c.args.conds.now m.tables t (number_of c.steps.after) c.in-Some.row.0 there next.0)
          (c.steps.invariant.walked m k x holds stands there same)
          (c.in_ok-note_row.ensures.rows m k x behind stands there same);
      own = λ m k holds stands.
          let behind = reads_hold (g.K.Keeper.view c.args.keeper.now) (g.K.Keeper.view c.next_within.new.keeper) k reads holds in
          c.in_ok-note_row.ensures.own m k behind stands (c.steps.invariant.own m k holds stands);
    }

pub returns-in_default-clause-keys : goal.returns-in_default-clause-keys
returns-in_default-clause-keys g c = λ m k x holds stands there same.
    let t = c.args.table.now in
    let here = reads_hold _ _ k c.steps.invariant.reads holds in
    let next = subst (λ (o : Option RowKey). IsNext (number_of c.steps.after) c.key_bounds-bounds.result.greatest.0 (row_keys m.tables t) (number_of o)) c.in_default.is (c.in_ok-row.ensures.next m k here stands (c.steps.invariant.place m k x holds stands there)) in
    table_ends x c.args.conds.now (stands.state.tables.each t x there) c.args.columns.now same c.key_bounds-bounds.result c.key_bounds-bounds.ensures.bound m.tables t (number_of c.steps.after) (met_keys c.steps.rows.items) there
    (c.steps.invariant.walked m k x holds stands there same) next

pub returns-in_default-clause-own : goal.returns-in_default-clause-own
returns-in_default-clause-own g c = c.steps.invariant.own
