use Rattle.std.proofs.Common.{sym, ap, ◌∙◌, ◌≡◌}
use Rattle.std.specs.Prelude.{false}
use Rattle.tx_lexer.specs.CharSets.{has, place_of}
use Rattle.tx_lexer.proofs.RisingSets.{insert_rises}
use Rattle.tx_lexer.proofs.char_sets.CharSet.put.Goals as goal

pub invariant_of-self : goal.invariant_of-self
invariant_of-self c =
    let none : has c.self.inside.chars.items c.args.c ≡ false = ap (λ s. has s c.args.c) c.self.view_is ∙ sym c.has.ensures ∙ c.if-not-has.true in
    let at = c.place_of-at.ensures.place ∙ ap (place_of c.args.c) c.as_slice.ensures.value in
    rw (c.in_ok-insert.ensures.items, at) (insert_rises c.args.c c.self.inside.chars.items c.self.invariant none)
