use Rattle.ct_base.specs.laws.Options.{match_none}
use Rattle.q_stored.proofs.Bodies.{define_stands, no_phrases, no_sum}
use Rattle.ct_base.specs.laws.Options.{match_some}
use Rattle.q_stored.proofs.reading.read_define.Goals as goal

pub returns-in_default : goal.returns-in_default
returns-in_default c = no_phrases c.args.bytes.now c.args.at (match_none c.in_ok-phrases.field-0 _ _ c.in_default.is c.in_ok-phrases.ensures)

pub returns-in_default-2 : goal.returns-in_default-2
returns-in_default-2 c =
    no_sum c.args.bytes.now c.args.at c.in-Some.phrases.items c.in-Some.mid (match_some c.in_ok-phrases.field-0 _ _ (c.in-Some.phrases, c.in-Some.mid) c.in-Some.is c.in_ok-phrases.ensures)
    (match_none c.in_ok-sum.field-0 _ _ c.in_default-2.is c.in_ok-sum.ensures)

pub returns : goal.returns
returns c =
    rw (c.of.ensures, c.of-2.ensures)
    (define_stands c.args.bytes.now c.args.at c.in-Some.phrases.items c.in-Some.mid c.in-Some-2.sum.items c.in-Some-2.next
    (match_some c.in_ok-phrases.field-0 _ _ (c.in-Some.phrases, c.in-Some.mid) c.in-Some.is c.in_ok-phrases.ensures)
    (match_some c.in_ok-sum.field-0 _ _ (c.in-Some-2.sum, c.in-Some-2.next) c.in-Some-2.is c.in_ok-sum.ensures))
