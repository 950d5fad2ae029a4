use Rattle.std.proofs.Common.{rules, ◌+◌, length, IfOk, subst, refl}
use Rattle.std.proofs.lemmas.Result.{IfOk-weaker}
use Rattle.ix_invert.specs.Inverting.{all_postings, IsInversion}
use Rattle.ix_invert.specs.laws.Inversions.{all_postings-cut}
use Rattle.ix_invert.proofs.inverting.+fn-invert-join+arg2+fn-invert-join+arg3+invert.Goals as goal

pub returns : goal.returns
returns g t c =
    let has = g.P.Piece.postings c.args.piece.now in
    let cut = c.split_at.result in
    let next = c.args.first + length cut.0.now in
    let left : IfOk c.join-left.result.0 (λ v. IsInversion (all_postings has c.args.first cut.0.now) v.items) = search rules in
    let right : IfOk c.join-left.result.1 (λ v. IsInversion (all_postings has next cut.1.now) v.items) = search rules in
    let same = all_postings-cut has c.args.first next c.left_count.result c.args.texts.now cut.0.now cut.1.now (search rules) (search rules) refl in
    IfOk-weaker c.merge.result _ _ (λ v joins. subst (λ l. IsInversion l v.items) same (joins _ _ left right)) c.merge.ensures
