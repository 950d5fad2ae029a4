use Rattle.std.proofs.Common.{◌≡◌, Some, None, sym, ap, ◌∙◌}
use Rattle.ct_base.specs.Names.{kept_name}
use Rattle.ct_base.specs.laws.Names.{kept_name-name}
use Rattle.ix_search.proofs.wanting.name_of.Goals as goal

pub unreachable-requires : goal.unreachable-requires
unreachable-requires c =
    let kept = kept_name-name c.args.text.now c.requires in
    let none : None ≡ Some c.args.text.now = sym c.in-None.is ∙ c.in_ok-name.ensures ∙ ap kept_name c.as_bytes.ensures.value ∙ kept in
    cc
