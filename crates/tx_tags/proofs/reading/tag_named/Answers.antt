use Rattle.std.proofs.Common.{sym, ap, ◌∙◌}
use Rattle.std.specs.Option.{option_map}
use Rattle.std.specs.String.{string_bytes}
use Rattle.std.specs.Str.{chars}
use Rattle.tx_tags.specs.Tags.{name_before_close}
use Rattle.tx_tags.proofs.NameLaws.{no_such_tag}
use Rattle.tx_tags.proofs.reading.tag_named.Goals as goal

pub returns-in_default : goal.returns-in_default
returns-in_default c = λ ss is.
    sym (no_such_tag ss c.args.place c.args.closing (name_before_close (chars c.args.text.now)) is.spelt
    (sym c.in_ok-name.ensures ∙ ap (option_map string_bytes) c.in_default.is))
