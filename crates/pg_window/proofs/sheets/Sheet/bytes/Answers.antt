use Rattle.std.proofs.Common.{◌≡◌, sym, ap, ◌∙◌}
use Rattle.pg_map.specs.Kinds.{bytes_of_kind}
use Rattle.pg_window.specs.declared.sheets.Sheet.{Sheet}
use Rattle.pg_window.specs.Sheets.{sheet_kind}
use Rattle.pg_window.proofs.sheets.Sheet.bytes.Goals as goal

pub returns-in-Free : goal.returns-in-Free
unfolding bytes_of_kind
returns-in-Free c = c.free_bytes.ensures ∙ ap (λ (s : Sheet). bytes_of_kind (sheet_kind s)) (sym c.in-Free.is)

pub returns-in-Away : goal.returns-in-Away
unfolding bytes_of_kind
returns-in-Away c = c.empty_bytes.ensures ∙ ap (λ (s : Sheet). bytes_of_kind (sheet_kind s)) (sym c.in-Away.is)

pub returns-in-Slotted : goal.returns-in-Slotted
unfolding bytes_of_kind
returns-in-Slotted c = search Rattle.std.proofs.Common.rules
