use Rattle.std.proofs.Common.{List, ℕ, ◌++◌, refl, ap, ◌∙◌, arith}
use Rattle.ct_entry.specs.declared.kinds.Kind.TheVariants as kind
use Rattle.tx_settings.specs.PrefsBytes.{words_bytes}
use Rattle.tx_settings.specs.laws.Kept.{kept_words_may_be_written}
use Rattle.tx_prefs.specs.laws.Shapes.{change_shaped}
use Rattle.tx_prefs.proofs.changes.stoplist_changes.Goals as goal

pub put_words-requires-clause-short : goal.put_words-requires-clause-short
put_words-requires-clause-short c = (kept_words_may_be_written c.args.words.now c.requires).1

pub returns-clause-shaped : goal.returns-clause-shaped
returns-clause-shaped c =
    let whole = c.in_ok-put_words.ensures.ok ∙ ap (λ (l : List ℕ). l ++ words_bytes c.args.words.now) c.new-value.ensures.items in
    change_shaped kind.Stoplists c.args.name.now c.put_words.new.out.items c.in_ok-change.field-0 c.in_ok-change.ensures c.as_str-named.ensures.name refl refl
    (omega (arith, c.len.ensures, c.if-len-gt-VALUE_LIMIT.false))
    (c.args.words.now, c.requires, whole)
