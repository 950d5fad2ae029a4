use Rattle.std.proofs.Common.{◌∙◌, ap, sym, Option}
use Rattle.std.specs.Global.{Vec}
use Rattle.ix_cursor.specs.declared.feeds.TokenFeeds.{TokenFeeds}
use Rattle.ix_cursor.specs.Feeding.{phrase_at, slots_at}
use Rattle.ix_cursor.specs.Seen.{seen_phrase}
use Rattle.ix_cursor.proofs.Slotting.{phrases_set}
use Rattle.ix_cursor.proofs.Mixing.{mixed_more, mixed_all}
use Rattle.ix_cursor.proofs.seeing.see_phrases.Goals as goal

pub loop-i-preserved : goal.loop-i-preserved
loop-i-preserved c =
    let item = c.index-phrases-i.result in
    let new = c.see_phrase.new.phrase in
    record {
      keeps = λ d le. phrases_set c.loop-i.phrases c.loop-i.i new item d c.index-phrases-i.is (ap (λ (v : Vec (Option TokenFeeds)). slots_at v.items d) c.in_ok-see_phrase.ensures.keeps ∙ ap (λ o. phrase_at o d) (sym c.index-phrases-i.is)) ∙ c.loop-i.invariant.keeps d le;
      seen = mixed_more (λ p. seen_phrase p) (λ p. phrase_at p c.args.document) c.loop-i.phrases c.loop-i.i new item (rw c.loop-i.auto.phrases c.loop-i-test.true) c.index-phrases-i.is (c.in_ok-see_phrase.ensures.seen ∙ ap (λ p. phrase_at p c.args.document) (sym c.index-phrases-i.is)) ∙ c.loop-i.invariant.seen;
    }

pub returns-clause-seen : goal.returns-clause-seen
returns-clause-seen c = sym (mixed_all (λ p. seen_phrase p) (λ p. phrase_at p c.args.document) c.loop-i.phrases c.loop-i.i (rw c.loop-i.auto.phrases c.loop-i-test.false)) ∙ c.loop-i.invariant.seen
