use Rattle.std.proofs.Common.{◌∙◌, sym, subst}
use Rattle.std.proofs.lemmas.Result.{IfOk-weaker}
use Rattle.ix_spans.specs.Rising.{Rising}
use Rattle.ix_lists.specs.Documents.{places_at}
use Rattle.ix_lists.proofs.Passing.{places_rise}
use Rattle.ix_lists.proofs.Merges.{put_none}
use Rattle.ix_lists.proofs.postings.Postings+u32.positions_at.Goals as goal

pub returns-clause-positions : goal.returns-clause-positions
returns-clause-positions c =
    let rise : Rising (places_at c.args.self.now c.args.document) = places_rise 0 c.args.self.now c.args.document c.in_ok-found.ensures.rise in
    IfOk-weaker c.first_places.result _ _ (λ v is. is ∙ c.in_ok-found.ensures.places ∙ sym (put_none (places_at c.args.self.now c.args.document) rise)) c.first_places.ensures

pub returns-clause-rise : goal.returns-clause-rise
returns-clause-rise c =
    let rise : Rising (places_at c.args.self.now c.args.document) = places_rise 0 c.args.self.now c.args.document c.in_ok-found.ensures.rise in
    IfOk-weaker c.first_places.result _ _ (λ v is. subst Rising (sym (is ∙ c.in_ok-found.ensures.places)) rise) c.first_places.ensures
