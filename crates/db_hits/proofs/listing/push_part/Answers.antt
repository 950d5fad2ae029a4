use Rattle.std.proofs.Common.{List, sym, subst, ap, ◌∙◌, arith}
use Rattle.std.proofs.lemmas.List.Sorted.{IsPermutation-refl}
use Rattle.rs_result.specs.declared.descriptors.ResultPart.{ResultPart}
use Rattle.rs_result.specs.declared.descriptors.ResultPart.TheVariants.{Group, Hits}
use Rattle.db_hits.specs.Descriptors.{is_bad_cut}
use Rattle.db_hits.specs.Rows.{PrintsPart, Row}
use Rattle.db_hits.proofs.PrintLaws.{count_printed}
use Rattle.db_hits.proofs.listing.push_part.Goals as goal

pub returns-in-Count-clause-lines : goal.returns-in-Count-clause-lines
returns-in-Count-clause-lines c =
    subst (λ (part : ResultPart). PrintsPart c.args.names.now part c.args.rows.now.items c.push_count.result c.args.lines.now.items c.push_count.new.lines.items) (sym c.in-Count.is)
    (count_printed c.args.names.now c.args.rows.now.items c.len.result c.push_count.result c.args.lines.now.items c.push_count.new.lines.items (omega (arith, c.len.ensures)) c.push_count.ensures)

pub returns-in-Count-clause-moved : goal.returns-in-Count-clause-moved
returns-in-Count-clause-moved c = IsPermutation-refl _

pub push_cut-requires : goal.push_cut-requires
push_cut-requires c = ap is_bad_cut (sym c.in-Hits.is) ∙ c.requires

pub returns-in-Hits-clause-lines : goal.returns-in-Hits-clause-lines
returns-in-Hits-clause-lines c =
    subst (λ (part : ResultPart). PrintsPart c.args.names.now part c.args.rows.now.items c.push_cut.result c.args.lines.now.items c.push_cut.new.lines.items)
    (ap (λ keys. Hits c.in-Hits.first c.in-Hits.last keys) c.as_slice.ensures ∙ sym c.in-Hits.is)
    c.push_cut.ensures.lines

pub returns-in-Group-clause-lines : goal.returns-in-Group-clause-lines
returns-in-Group-clause-lines c =
    subst (λ (part : ResultPart). PrintsPart c.args.names.now part c.args.rows.now.items c.push_groups.result c.args.lines.now.items c.push_groups.new.lines.items) (sym c.in-Group.is)
    (subst (λ (rows : List Row). PrintsPart c.args.names.now (Group c.in-Group.column) rows c.push_groups.result c.args.lines.now.items c.push_groups.new.lines.items) c.deref.ensures.value c.push_groups.ensures)

pub returns-in-Group-clause-moved : goal.returns-in-Group-clause-moved
returns-in-Group-clause-moved c = IsPermutation-refl _
