use Rattle.std.proofs.Common.{ap, ◌∙◌}
use Rattle.std.specs.Str.{is_utf8}
use Rattle.std.proofs.lemmas.Str.{is_utf8-from_IsUtf8}
use Rattle.q_stored.proofs.PutSteps.{chars_put}
use Rattle.q_stored.proofs.writing.put_bit.Goals as goal

pub returns-in_ok-push-in-Chars : goal.returns-in_ok-push-in-Chars
returns-in_ok-push-in-Chars c =
    rw c.in-Chars.is
    (chars_put c.args.out.now.items c.push.new.self.items c.put_bytes.new.out.items c.in-Chars.text c.as_bytes.result.now c.put_bytes.result c.in_ok-push-in-Chars.ensures.items (c.as_bytes.ensures.value ∙ c.as_str.ensures)
    (ap is_utf8 c.as_bytes.ensures.value ∙ is_utf8-from_IsUtf8 c.as_str.result.now c.as_str.utf8) c.put_bytes.ensures)
