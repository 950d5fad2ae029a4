use Rattle.std.proofs.Common.{ℕ, List, ap, ◌∙◌}
use Rattle.ct_base.specs.declared.numbers.Pair.{Pair}
use Rattle.tx_document.specs.Entries.{entry, entry_of}
use Rattle.tx_document.proofs.place_names.PlaceName.into_entry.Goals as goal

pub returns : goal.returns
returns c =
    ap (λ (t : List ℕ). entry c.self.inside.stream t c.of-2.result) c.of.ensures
    ∙ ap (λ (ps : List Pair). entry c.self.inside.stream c.self.inside.token.items ps) c.of-2.ensures
    ∙ ap (λ (n : List ℕ). entry_of (n, c.args.places.items)) c.self.view_is
