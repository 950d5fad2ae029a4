use Rattle.std.proofs.Common.{ℕ, List, length, ap, arith}
use Rattle.ct_base.specs.laws.Names.{name_length}
use Rattle.ix_context.proofs.gathering.spell_section.Goals as goal

pub put_section_term-requires : goal.put_section_term-requires
put_section_term-requires c =
    let long = name_length c.args.section.now.token c.requires.named in
    let short = long.1 in
    let read = ap (λ (l : List ℕ). length l) c.as_slice-name.ensures in
    omega (arith, short, read)
