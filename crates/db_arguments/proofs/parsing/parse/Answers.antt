use Rattle.std.proofs.Common.{◌∙◌, map}
use Rattle.std.specs.List.{AllByRecursion}
use Rattle.std.specs.String.{string_bytes}
use Rattle.clap.specs.Words.{found_of, rows_of}
use Rattle.clap.proofs.WalkLemmas.{first_value-rows}
use Rattle.db_arguments.specs.Arguments.{File, Limit, Degree, Rows}
use Rattle.db_arguments.proofs.Form.{IsSpelt}
use Rattle.db_arguments.proofs.Parsed.{all_spelt, not_memory, spelt_by, taken}
use Rattle.db_arguments.proofs.parsing.parse.Goals as goal

pub returns-in-Ok : goal.returns-in-Ok
returns-in-Ok c =
    let words = map string_bytes c.args.arguments.now in
    let spelt : AllByRecursion IsSpelt words = all_spelt string_bytes (λ s. spelt_by (string_bytes s) s.ok) c.args.arguments.now in
    let found = found_of c.in-Ok.matches in
    let t = taken words (rows_of found) spelt c.in-Ok.ensures.taken.0 c.in-Ok.ensures.taken.1 in
    record {
      values = t.values;
      are = t.are;
      file = c.get_str-file.ensures ∙ first_value-rows found _ ∙ t.have File;
      limit = c.get_str-limit.ensures ∙ first_value-rows found _ ∙ t.have Limit;
      degree = c.get_str-degree.ensures ∙ first_value-rows found _ ∙ t.have Degree;
      rows = c.get_str-rows.ensures ∙ first_value-rows found _ ∙ t.have Rows;
    }

pub returns : goal.returns
returns c =
    let words = map string_bytes c.args.arguments.now in
    let spelt : AllByRecursion IsSpelt words = all_spelt string_bytes (λ s. spelt_by (string_bytes s) s.ok) c.args.arguments.now in
    not_memory words _ spelt c.in-Err.ensures.refused (λ same. c.in_default.not-OutOfMemory (c.kind.ensures ∙ same))
