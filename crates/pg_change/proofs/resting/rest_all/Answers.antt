use Rattle.std.proofs.Common.{sym, ap, ◌∙◌}
use Rattle.std.specs.Prelude.{map}
use Rattle.pg_window.specs.Loading.{page_place, rested}
use Rattle.pg_window.specs.laws.Loads.{rested-append}
use Rattle.pg_change.proofs.resting.rest_all.Goals as goal

pub returns : goal.returns
returns c =
    c.rest_pages.ensures ∙ ap (rested (map page_place c.args.numbers.now)) c.rest.ensures.sheets ∙ sym (rested-append (map page_place c.args.numbers.now) c.args.loaded.now c.args.sheets.now.items)
