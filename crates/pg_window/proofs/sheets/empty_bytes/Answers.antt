use Rattle.std.proofs.Common.{ap, ◌∙◌}
use Rattle.pg_page.specs.Pages.{page_bytes}
use Rattle.pg_window.proofs.sheets.empty_bytes.Goals as goal

pub returns : goal.returns
returns c = c.bytes.ensures ∙ ap page_bytes c.empty.ensures
