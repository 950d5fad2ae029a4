use Rattle.std.proofs.Common.{rules, ◌≡◌, List, get_or, set, sym, ap, subst, ◌∙◌}
use Rattle.std.proofs.lemmas.List.{set-get_or}
use Rattle.pg_window.specs.declared.sheets.Sheet.{Sheet}
use Rattle.pg_window.specs.declared.sheets.Sheet.TheVariants.{Free as FreeSheet, Away as AwaySheet}
use Rattle.pg_window.specs.Loading.{rested_sheet}
use Rattle.pg_window.proofs.unloading.rest_sheet.Goals as goal

pub returns-then-not-is_free_at : goal.returns-then-not-is_free_at
returns-then-not-is_free_at c =
    let rests = subst (λ (l : List Sheet). rested_sheet (get_or l c.args.at FreeSheet) ≡ AwaySheet) c.deref.ensures.value (c.is_free_at.ensures.no (search rules)) in
    c.set_sheet.ensures ∙ ap (set c.args.sheets.now.items c.args.at) (sym rests)

pub returns-else-not-is_free_at : goal.returns-else-not-is_free_at
returns-else-not-is_free_at c =
    let free = subst (λ (l : List Sheet). get_or l c.args.at FreeSheet ≡ FreeSheet) c.deref.ensures.value (c.is_free_at.ensures.yes (search rules)) in
    sym (ap (λ (s : Sheet). set c.args.sheets.now.items c.args.at (rested_sheet s)) free ∙ ap (set c.args.sheets.now.items c.args.at) (sym free) ∙ set-get_or c.args.sheets.now.items c.args.at FreeSheet)
