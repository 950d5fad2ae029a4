use Rattle.std.specs.Prelude.{option_copied, unwrap_or}
use Rattle.std.proofs.Common.{◌-◌, get_or, sym, ap, ◌∙◌}
use Rattle.pg_map.specs.Kinds.{Free, bytes_of_kind}
use Rattle.pg_directory.specs.Trees.{Plain, bytes_of_page}
use Rattle.pg_change.proofs.batch_commits.page_image.Goals as goal

pub returns-in-Some : goal.returns-in-Some
returns-in-Some c =
    let else_page = Plain (get_or c.args.draft.now.now (c.args.number - 3) Free) in
    sym (c.page.ensures.is else_page ∙ ap (λ o. unwrap_or (option_copied o) (bytes_of_page else_page)) c.in-Some.is)

pub returns-in-None : goal.returns-in-None
returns-in-None c =
    let else_page = Plain (get_or c.args.draft.now.now (c.args.number - 3) Free) in
    c.bytes.ensures ∙ ap bytes_of_kind c.sheet.ensures.kind ∙ sym (c.page.ensures.is else_page ∙ ap (λ o. unwrap_or (option_copied o) (bytes_of_page else_page)) c.in-None.is)
