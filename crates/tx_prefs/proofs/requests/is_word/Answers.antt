use Rattle.std.proofs.Common.{ℕ, List, ap, ◌∙◌}
use Rattle.std.specs.Prelude.{bytes_eq}
use Rattle.tx_prefs.specs.RequestWords.{read_word}
use Rattle.tx_prefs.proofs.WordSteps.{word_told}
use Rattle.tx_prefs.proofs.requests.is_word.Goals as goal

pub returns : goal.returns
returns c =
    word_told c.eq_ignore_ascii_case.result c.as_str.result.now c.args.word.now c.as_str.utf8 c.requires.lower c.requires.ascii c.eq_ignore_ascii_case.ensures.test
    ∙ ap (λ (l : List ℕ). bytes_eq (read_word l) c.args.word.now) c.as_str.ensures
