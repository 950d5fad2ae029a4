use Rattle.std.proofs.Common.{refl, List, ℕ, ap}
use Rattle.std.specs.Prelude.{bytes_eq}
use Rattle.std.specs.List.{find}
use Rattle.std.specs.Option.{option_map}
use Rattle.st_parse.specs.declared.lexemes.Keyword.{Keyword}
use Rattle.st_parse.specs.Keywords.{keywords}
use Rattle.st_parse.proofs.lexing.keyword_of.Goals as goal

pub keywords-init : goal.keywords-init
keywords-init c = ap (λ (ks : List (Keyword × List ℕ)). option_map (λ e. e.0) (find (λ e. bytes_eq e.1 c.args.word.now) ks)) {x = keywords} refl
