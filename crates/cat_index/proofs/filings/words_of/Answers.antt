use Rattle.std.proofs.Common.{ap, sym, subst, ◌∙◌, arith}
use Rattle.std.proofs.lemmas.Result.{IfOk-weaker}
use Rattle.ct_entry.specs.Keys.{IsToken}
use Rattle.ct_entry.specs.Lists.{EachIs}
use Rattle.tx_document.specs.Entries.{entries}
use Rattle.cat_index.specs.Filings.{main_words}
use Rattle.cat_index.specs.laws.Filings.{words_are_tokens}
use Rattle.cat_index.proofs.filings.words_of.Goals as goal

pub returns-clause-tokens : goal.returns-clause-tokens
returns-clause-tokens c =
    IfOk-weaker c.main_words.result _ _
    (λ words is. subst (EachIs IsToken) (sym (is ∙ ap main_words (c.in_ok-entries.ensures ∙ ap entries c.in_ok-document.ensures))) (words_are_tokens c.args.prefs.now c.args.text.now c.keep_rules.ensures (omega (arith, c.requires.short))))
    c.main_words.ensures
