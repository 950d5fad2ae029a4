use Rattle.std.proofs.Common.{◌<◌, ◌∙◌, rules}
use Rattle.std.specs.Prelude.{Decides}
use Rattle.std.proofs.lemmas.Bool.{false≢true}
use Rattle.db_names.proofs.ReadSteps.{no_parts, AreFirst, first_then, first_else, last_then, last_else}
use Rattle.db_names.proofs.reading.is_on.Goals as goal
use Rattle.db_names.proofs.reading.is_on.Goals.{then-code, else-code}

pub returns-in_default : goal.returns-in_default
returns-in_default c = (
  λ wrong. absurd (false≢true wrong),
  λ has. absurd (no_parts c.args.value.now c.in_default.ensures.none (record { kind = c.args.kind; target = c.args.target.now }) c.as_str-wanted.ensures.name has.1),
)

pub returns-then-eq : goal.returns-then-eq
returns-then-eq c =
    let first : Decides c.if-code.value (AreFirst c.in-Some.code c.in-Some.table.now c.args.kind c.args.target.now) = elim c.if-code.branch [
      | then-code w ↦ first_then c.in-Some.code c.in-Some.table.now w.as_bytes.result.now c.args.kind c.args.target.now c.if-code.value (w.if-code.true ∙ c.code.ensures) (w.as_bytes.ensures.value ∙ c.as_str-wanted.ensures.text) (w.value-is ∙ w.eq.ensures)
      | else-code w ↦ first_else c.in-Some.code c.code.result c.in-Some.table.now c.args.kind c.args.target.now c.if-code.value c.code.ensures w.if-code.false w.value-is
    ] in
    let few : c.in-Some.column < 256 = search rules in
    last_then c.args.value.now c.in-Some.code c.in-Some.table.now c.in-Some.column c.args.kind c.args.target.now c.if-code.value c.in-Some.ensures.some c.as_str-wanted.ensures.name few first c.if-eq.true

pub returns-else-eq : goal.returns-else-eq
returns-else-eq c =
    let first : Decides c.if-code.value (AreFirst c.in-Some.code c.in-Some.table.now c.args.kind c.args.target.now) = elim c.if-code.branch [
      | then-code w ↦ first_then c.in-Some.code c.in-Some.table.now w.as_bytes.result.now c.args.kind c.args.target.now c.if-code.value (w.if-code.true ∙ c.code.ensures) (w.as_bytes.ensures.value ∙ c.as_str-wanted.ensures.text) (w.value-is ∙ w.eq.ensures)
      | else-code w ↦ first_else c.in-Some.code c.code.result c.in-Some.table.now c.args.kind c.args.target.now c.if-code.value c.code.ensures w.if-code.false w.value-is
    ] in
    last_else c.args.value.now c.in-Some.code c.in-Some.table.now c.in-Some.column c.args.kind c.args.target.now c.if-code.value c.in-Some.ensures.some first c.if-eq.false
