use Rattle.ct_base.specs.laws.Options.{match_none}
use Rattle.q_stored.proofs.Bodies.{no_keys, no_patterns, takes_stand}
use Rattle.ct_base.specs.laws.Options.{match_some}
use Rattle.q_stored.proofs.reading.read_takes.Goals as goal

pub returns-in_default : goal.returns-in_default
returns-in_default c = no_keys c.args.bytes.now c.args.at (match_none c.in_ok-keys.field-0 _ _ c.in_default.is c.in_ok-keys.ensures)

pub returns-in_default-2 : goal.returns-in_default-2
returns-in_default-2 c =
    no_patterns c.args.bytes.now c.args.at c.in-Some.keys.items c.in-Some.mid (match_some c.in_ok-keys.field-0 _ _ (c.in-Some.keys, c.in-Some.mid) c.in-Some.is c.in_ok-keys.ensures)
    (match_none c.in_ok-patterns.field-0 _ _ c.in_default-2.is c.in_ok-patterns.ensures)

pub returns : goal.returns
returns c =
    rw (c.of.ensures, c.of-2.ensures)
    (takes_stand c.args.bytes.now c.args.at c.in-Some.keys.items c.in-Some.mid c.in-Some-2.patterns.items c.in-Some-2.next
    (match_some c.in_ok-keys.field-0 _ _ (c.in-Some.keys, c.in-Some.mid) c.in-Some.is c.in_ok-keys.ensures)
    (match_some c.in_ok-patterns.field-0 _ _ (c.in-Some-2.patterns, c.in-Some-2.next) c.in-Some-2.is c.in_ok-patterns.ensures))
