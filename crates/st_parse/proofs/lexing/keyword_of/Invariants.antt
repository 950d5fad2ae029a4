use Rattle.std.proofs.Common.{◌≡◌, length, map, List, ℕ}
use Rattle.std.specs.Prelude.{bytes_eq}
use Rattle.std.specs.List.{find}
use Rattle.std.specs.Option.{option_map}
use Rattle.st_parse.specs.declared.lexemes.Keyword.{Keyword}
use Rattle.st_parse.specs.Keywords.{keyword_of}
use Rattle.st_parse.proofs.lexing.keyword_of.Given as goal

abbrev pub invariant-keywords : goal.invariant-keywords
invariant-keywords l =
    option_map {T = Keyword × List ℕ} (λ e. e.0) (find {X = Keyword × List ℕ} (λ e. bytes_eq e.1 l.word) (map (λ e. (e.0, e.1.now)) l.rest)) ≡ keyword_of l.word

abbrev pub decreases-keywords : goal.decreases-keywords
decreases-keywords l = length l.rest
