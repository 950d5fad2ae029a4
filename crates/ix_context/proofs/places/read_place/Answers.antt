use Rattle.ix_context.proofs.PlaceSteps.{no_text_read, more_read}
use Rattle.ix_context.proofs.places.read_place.Goals as goal

pub returns-in_default-read_text : goal.returns-in_default-read_text
returns-in_default-read_text c = no_text_read c.args.bytes.now c.in-Some.rest.now c.in-Some.stream.now c.in-Some.ensures.cases.0 c.in_default-read_text.ensures.none

pub returns-then-next-rest : goal.returns-then-next-rest
returns-then-next-rest c =
    more_read c.args.bytes.now c.in-Some.rest.now c.in-Some.stream.now c.in-Some.ensures.cases.0 c.in-Some-read_text.text.now c.in-Some-read_text.next c.in-Some-read_text.ensures.some c.if-next-rest.true
