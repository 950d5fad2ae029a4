use Rattle.ct_base.proofs.Spelling.{spelling_is_ascii, lower-more}
use Rattle.ct_base.proofs.names.lower_case.Goals as goal

pub push_ascii-requires : goal.push_ascii-requires
push_ascii-requires c = rw (c.to_ascii_lowercase.ensures.value) (spelling_is_ascii c.args.bytes.now c.loop-byte.byte-index c.requires)

pub loop-byte-preserved : goal.loop-byte-preserved
loop-byte-preserved c = rw (c.in_ok-push_ascii.ensures.bytes, c.loop-byte.invariant, c.to_ascii_lowercase.ensures.value) (lower-more c.args.bytes.now c.loop-byte.byte-index c.loop-byte-test.true)
