use Rattle.std.proofs.Common.{rules, ◌≡◌, ◌-◌, length, true, subst, take, drop}
use Rattle.ct_base.specs.laws.Lists.{first_of}
use Rattle.q_tree.specs.Documents.{fits_entry}
use Rattle.ix_cursor.specs.Alone.{AreDocumentEntries, doc_entry}
use Rattle.ix_cursor.proofs.LoneDocument.{none_left, tokens_put, tokens_end}
use Rattle.ix_cursor.proofs.alone.tokens_of_entries.Goals as goal

pub loop-rest-preserved-in_ok-push : goal.loop-rest-preserved-in_ok-push
loop-rest-preserved-in_ok-push c =
    let rest = c.loop-rest.rest.now in
    let e = c.entry-item.result in
    let more = take (length rest - 1) (drop 1 rest) in
    let split = first_of rest e c.in-len1-up.len_at_least c.entry-item.is in
    let are = subst AreDocumentEntries split c.loop-rest.invariant.are in
    let fits : fits_entry c.args.stream c.args.slot.now (doc_entry e) ≡ true = search rules in
    record {
      are = are.2;
      so_far = tokens_put c.args.stream c.args.slot.now c.args.entries.now e rest more c.loop-rest.tokens.items c.push.new.self.items c.in_ok-token_postings.field-0 split are.0 fits
          c.in_ok-token_postings.ensures c.in_ok-push.ensures.items c.loop-rest.invariant.so_far;
    }

pub returns : goal.returns
returns c =
    tokens_end c.args.stream c.args.slot.now c.args.entries.now c.loop-rest.rest.now c.loop-rest.tokens.items (none_left c.loop-rest.rest.now c.in_default.len_below) c.loop-rest.invariant.so_far
