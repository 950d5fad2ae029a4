use Rattle.std.proofs.Common.{◌≡◌, ap, sym, ◌∙◌, Bool, true, false, List, ◌∷◌, length, refl}
use Rattle.std.proofs.lemmas.Result.{IfOk-weaker}
use Rattle.q_tree.specs.declared.flats.PatternBit.{PatternBit}
use Rattle.q_tree.specs.declared.flats.PatternBit.TheVariants.{One, Many}
use Rattle.q_tree.specs.Slots.{behind_one, some_end}
use Rattle.q_match.specs.Places.{at_some, moved, piece, spread}
use Rattle.q_match.proofs.Marking.{at_some_same, one_moves, many_spreads, next_length, spread_length}
use Rattle.q_match.proofs.taking.after_bit.Goals as goal

pub returns-in-One-clause-places : goal.returns-in-One-clause-places
returns-in-One-clause-places c =
    let marks = c.args.marks.now in
    let key = c.args.key.now in
    IfOk-weaker c.after_one.result (λ v. v.items ≡ false ∷ moved (λ d. true) marks key) _ (λ v is has.
    ap (λ (bs : List Bool). at_some has bs key) is ∙ one_moves has marks key ∙ at_some_same (behind_one has) (piece One has) marks key (λ xs. refl) ∙ ap (λ (b : PatternBit). at_some (piece b has) marks key) (sym c.in-One.is)) c.after_one.ensures

pub returns-in-One-clause-length : goal.returns-in-One-clause-length
returns-in-One-clause-length c =
    let marks = c.args.marks.now in
    let key = c.args.key.now in
    IfOk-weaker c.after_one.result (λ v. v.items ≡ false ∷ moved (λ d. true) marks key) _ (λ v is. ap (λ (bs : List Bool). length bs) is ∙ next_length (λ d. true) marks key c.requires) c.after_one.ensures

pub returns-in-Many-clause-places : goal.returns-in-Many-clause-places
returns-in-Many-clause-places c =
    let marks = c.args.marks.now in
    let key = c.args.key.now in
    IfOk-weaker c.after_many.result (λ v. v.items ≡ spread false marks) _ (λ v is has.
    ap (λ (bs : List Bool). at_some has bs key) is ∙ many_spreads has marks key c.requires ∙ at_some_same (some_end has) (piece Many has) marks key (λ xs. refl) ∙ ap (λ (b : PatternBit). at_some (piece b has) marks key) (sym c.in-Many.is)) c.after_many.ensures

pub returns-in-Many-clause-length : goal.returns-in-Many-clause-length
returns-in-Many-clause-length c =
    let marks = c.args.marks.now in
    IfOk-weaker c.after_many.result (λ v. v.items ≡ spread false marks) _ (λ v is. ap (λ (bs : List Bool). length bs) is ∙ spread_length false marks ∙ c.requires) c.after_many.ensures
