use Rattle.std.proofs.Common.{pos, get_or, ap, ◌∙◌, rules, FitsSigned, w64}
use Rattle.std.proofs.lemmas.Int.{to_z-of_z}
use Rattle.ct_bytes.specs.RowKeys.{row_bytes}
use Rattle.tb_table.proofs.WriteSteps.{number_written, number_more}
use Rattle.tb_table.proofs.writing.row_numbers_bytes.Goals as goal

pub loop-number-preserved : goal.loop-number-preserved
loop-number-preserved c =
    let number = get_or c.args.numbers.now c.loop-number.number-index (pos 0) in
    let fits : FitsSigned w64 number = search rules in
    record {
      bytes =
          number_written c.args.numbers.now c.loop-number.number-index c.loop-number.bytes.items c.extend_from_slice.new.self.items c.row_key_bytes.result c.loop-number.invariant.bytes c.loop-number-test.true
          (c.row_key_bytes.ensures ∙ ap row_bytes (to_z-of_z w64 number fits)) c.in_ok-extend_from_slice.ensures.items;
      fit = number_more c.args.numbers.now c.loop-number.number-index c.loop-number.invariant.fit c.loop-number-test.true fits;
    }
