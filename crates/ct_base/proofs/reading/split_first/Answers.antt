use Rattle.std.proofs.Common.{ap, ◌∙◌, sym, length, ◌+◌, length-append, ◌≡◌, ◌++◌}
use Rattle.std.specs.Char.{encode_utf8}
use Rattle.std.proofs.lemmas.Str.{chars_past_char, length-encode}
use Rattle.ct_base.proofs.reading.split_first.Goals as goal

-- the text is the character and what follows it
spelled : (c : goal.After-t11-1) → c.args.text.now ≡ encode_utf8 c.in_ok-first.first ++ c.as_str.result.now
spelled c = sym c.chars-chars.ensures.rest ∙ c.in_ok-first.ensures.steps.0 ∙ ap (λ r. encode_utf8 c.in_ok-first.first ++ r) (sym c.as_str.ensures)

pub returns-clause-chars : goal.returns-clause-chars
returns-clause-chars c = chars_past_char _ _ _ c.utf8.text (spelled c)

pub returns-clause-length : goal.returns-clause-length
returns-clause-length c = ap length (spelled c) ∙ length-append (encode_utf8 c.in_ok-first.first) c.as_str.result.now ∙ ap (λ n. n + length c.as_str.result.now) (length-encode c.in_ok-first.first)
