use Rattle.std.proofs.Common.{rules, ◌≡◌, ◌<◌, List, length, get_or, subst}
use Rattle.pg_window.specs.declared.sheets.Sheet.{Sheet}
use Rattle.pg_window.specs.declared.sheets.Sheet.TheVariants.{Free as FreeSheet, Away as AwaySheet}
use Rattle.pg_window.proofs.Listing.{loads_put}
use Rattle.pg_window.proofs.Loaded.{puts_kind}
use Rattle.pg_window.proofs.loading.put_sheet.Goals as goal

pub returns-clause-puts : goal.returns-clause-puts
returns-clause-puts c =
    let was = subst (λ (l : List Sheet). (c.args.at < length l) × (get_or l c.args.at FreeSheet ≡ AwaySheet)) c.deref.ensures.value (c.is_away_at.ensures.yes (search rules)) in
    puts_kind c.args.sheets.now.items c.set_sheet.new.sheets.items c.args.at c.args.sheet was.0 was.1 c.set_sheet.ensures c.requires.there

pub returns-clause-loads : goal.returns-clause-loads
returns-clause-loads c =
    let was = subst (λ (l : List Sheet). (c.args.at < length l) × (get_or l c.args.at FreeSheet ≡ AwaySheet)) c.deref.ensures.value (c.is_away_at.ensures.yes (search rules)) in
    loads_put c.args.sheets.now.items c.set_sheet.new.sheets.items c.args.loaded.now.items c.push.new.self.items c.args.at c.args.sheet was.1 c.set_sheet.ensures (search rules) c.requires.used c.requires.kind
